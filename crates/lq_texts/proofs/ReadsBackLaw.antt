-- What is printed of a term is read again.
use Rattle.std.proofs.Common.{◌≡◌, ℕ, zero, suc, ◌+◌, ◌^◌, ◌<◌, ◌≤◌, Bool, true, false, List, [], ◌∷◌, ◌++◌, length, refl, sym, ◌∙◌, arith, eq-eqb}
use Rattle.std.specs.Prelude.{◌||◌, slice_get}
use Rattle.std.proofs.lemmas.Bool.{ne_eqb}
use Rattle.lq_trees.specs.declared.Sort.{Sort as Universe}
use Rattle.lq_trees.specs.Tree.{Name, Tree}
use Rattle.lq_trees.specs.Tree.Tree.{Rel, Var, Sort, Prod, Lam, Let, App, Const, Ind, Ctor, Elim, Evar}
use Rattle.lq_trees.specs.Index.{Within}
use Rattle.lq_trees.specs.Size.{depth}
use Rattle.lq_calculus.specs.Declarations.{Env}
use Rattle.lq_ast.specs.Syntax.{Surface}
use Rattle.lq_texts.specs.Printing.{uses, names_in, printed_name, bound_name, sort_surface, product_surface, surface, term_text}
use Rattle.lq_texts.specs.ReadBack.{IsTopped, IsPlain, check_sentence, ReadsBack}
use Rattle.lq_texts.proofs.PrintedPieces.{IsWord, IsBinder, IsSpoken}
use Rattle.lq_texts.proofs.ReadSurface.{written_reads}
use Rattle.lq_texts.proofs.PrintedNames.{plain_word, or_first, or_second, Held, held_left, held_right, printed_word}

-- each bound variable that occurs has a printed name
abbrev Covers : List Name → Tree → Type 0
Covers bs t = (i : ℕ) → uses i t ≡ true → IsWord (bound_name (slice_get bs i))

covers_under : (bs : List Name) (y : Name) (body : Tree) → (uses 0 body ≡ true → IsWord y) →
    ((i : ℕ) → uses (suc i) body ≡ true → IsWord (bound_name (slice_get bs i))) → Covers (y ∷ bs) body
unfolding bound_name
covers_under bs y body h k zero e = h e
covers_under bs y body h k (suc i) e = k i e

product_spoken : (y : Name) (A B : Surface) → IsBinder y → IsSpoken A → IsSpoken B → IsSpoken (product_surface y A B)
unfolding product_surface
product_spoken [] A B h k l = (k, l)
product_spoken (b ∷ bs) A B h k l = (h, k, l)

sort_spoken : (s : Universe) → IsTopped s → IsSpoken (sort_surface s)
unfolding sort_surface
sort_spoken Universe.Base h = tt
sort_spoken (Universe.Level i) h = h

-- ---- the surface of a printable term

module _ (env : Env) (names : List Name) where
  spoken_surface : (t : Tree) → IsPlain env t → Held names (names_in env t) → (bs : List Name) → Covers bs t → length names + length bs + depth t < 2 ^ 64 →
      IsSpoken (surface env bs t)
  unfolding surface names_in uses
  spoken_surface (Rel i) p h bs c few = c i (eq-eqb i i refl)
  spoken_surface (Var x) p h bs c few = plain_word x p
  spoken_surface (Sort s) p h bs c few = sort_spoken s p
  spoken_surface (Prod x A B) p h bs c few =
      let y = printed_name env bs x B in
      let held = held_right names (names_in env A) (names_in env B) h in
      let b = printed_word env names bs x B p.0 held (omega (arith, few)) in
      product_spoken y _ _ b.1
      (spoken_surface A p.1 (held_left names (names_in env A) (names_in env B) h) bs (λ i e. c i (or_first (uses i A) _ e)) (omega (arith, few)))
      (spoken_surface B p.2 held (y ∷ bs) (covers_under bs y B b.0 (λ i e. c i (or_second (uses i A) _ e))) (omega (arith, few)))
  spoken_surface (Lam x A t) p h bs c few =
      let y = printed_name env bs x t in
      let held = held_right names (names_in env A) (names_in env t) h in
      let b = printed_word env names bs x t p.0 held (omega (arith, few)) in (
        b.1,
        spoken_surface A p.1 (held_left names (names_in env A) (names_in env t) h) bs (λ i e. c i (or_first (uses i A) _ e)) (omega (arith, few)),
        spoken_surface t p.2 held (y ∷ bs) (covers_under bs y t b.0 (λ i e. c i (or_second (uses i A) _ e))) (omega (arith, few)),
      )
  spoken_surface (Let x v A t) p h bs c few =
      let y = printed_name env bs x t in
      let front = held_left names (names_in env v ++ names_in env A) (names_in env t) h in
      let held = held_right names (names_in env v ++ names_in env A) (names_in env t) h in
      let b = printed_word env names bs x t p.0 held (omega (arith, few)) in (
        b.1,
        spoken_surface A p.2 (held_right names (names_in env v) (names_in env A) front) bs
            (λ i e. c i (or_first (uses i v || uses i A) _ (or_second (uses i v) _ e))) (omega (arith, few)),
        spoken_surface v p.1 (held_left names (names_in env v) (names_in env A) front) bs
            (λ i e. c i (or_first (uses i v || uses i A) _ (or_first (uses i v) _ e))) (omega (arith, few)),
        spoken_surface t p.3 held (y ∷ bs) (covers_under bs y t b.0 (λ i e. c i (or_second (uses i v || uses i A) _ e))) (omega (arith, few)),
      )
  spoken_surface (App f a) p h bs c few = (
    spoken_surface f p.0 (held_left names (names_in env f) (names_in env a) h) bs (λ i e. c i (or_first (uses i f) _ e)) (omega (arith, few)),
    spoken_surface a p.1 (held_right names (names_in env f) (names_in env a) h) bs (λ i e. c i (or_second (uses i f) _ e)) (omega (arith, few)),
  )
  spoken_surface (Const d) p h bs c few = plain_word d p
  spoken_surface (Ind d) p h bs c few = plain_word d p
  spoken_surface (Ctor d k) p h bs c few = plain_word _ p
  spoken_surface (Elim d s) p h bs c few = plain_word _ p
  spoken_surface (Evar n ts) p h bs c few = absurd p

both : (a b : Bool) → a ≡ false → b ≡ false → (a || b) ≡ false
both true b e f = absurd cc
both false b e f = f

-- no loose variable occurs in a term that has none
pub closed_uses : (env : Env) (t : Tree) → IsPlain env t → (n : ℕ) → Within n t → (i : ℕ) → n ≤ i → uses i t ≡ false
unfolding uses
closed_uses env (Rel j) p n w i h = ne_eqb i j (λ e. absurd (omega (arith, e, w, h)))
closed_uses env (Var x) p n w i h = refl
closed_uses env (Sort s) p n w i h = refl
closed_uses env (Prod x A B) p n w i h = both (uses i A) _ (closed_uses env A p.1 n w.0 i h) (closed_uses env B p.2 (n + 1) w.1 (suc i) (omega arith))
closed_uses env (Lam x A t) p n w i h = both (uses i A) _ (closed_uses env A p.1 n w.0 i h) (closed_uses env t p.2 (n + 1) w.1 (suc i) (omega arith))
closed_uses env (Let x v A t) p n w i h =
    both (uses i v || uses i A) _ (both (uses i v) _ (closed_uses env v p.1 n w.0 i h) (closed_uses env A p.2 n w.1 i h))
    (closed_uses env t p.3 (n + 1) w.2 (suc i) (omega arith))
closed_uses env (App f a) p n w i h = both (uses i f) _ (closed_uses env f p.0 n w.0 i h) (closed_uses env a p.1 n w.1 i h)
closed_uses env (Const c) p n w i h = refl
closed_uses env (Ind c) p n w i h = refl
closed_uses env (Ctor c k) p n w i h = refl
closed_uses env (Elim c s) p n w i h = refl
closed_uses env (Evar k ts) p n w i h = absurd p

-- ---- the law

-- `Check`, the text of a printable term and `.` are one sentence, which reads to the surface of the term, is nested too deep or is too long
pub reads_back : ReadsBack
unfolding check_sentence term_text
reads_back env t p =
    let few = p.few in
    written_reads (surface env [] t)
    (spoken_surface env few.names t p.plain few.held [] (λ i e. absurd (true_false (sym e ∙ closed_uses env t p.plain 0 p.closed i (omega arith))))
    (omega (arith, few.few)))
  where
    true_false : true ≡ false → ⊥
    true_false e = absurd cc
