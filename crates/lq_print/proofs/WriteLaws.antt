-- The steps that a piece leaves write the text of its term.
use Rattle.std.proofs.Common.{◌≡◌, ℕ, Bool, true, false, List, [], ◌∷◌, ◌++◌, refl, sym, ap, ◌∙◌, append_assoc, append-nil}
use Rattle.std.specs.Prelude.{nat_lt, codes}
use Rattle.lq_trees.specs.declared.Sort.{Sort as Universe}
use Rattle.lq_trees.specs.Tree.{Name, Tree}
use Rattle.lq_trees.specs.Tree.Tree.{Rel, Var, Sort, Prod, Lam, Let, App, Const, Ind, Ctor, Elim, Evar}
use Rattle.lq_calculus.specs.Declarations.{Env}
use Rattle.lq_texts.specs.Printing.{printed_name, sort_surface, sort_text, product_surface, surface, name_text, in_brackets, text, kind_text}
use Rattle.lq_print.specs.Spelling.{applied}
use Rattle.lq_print.specs.Flat.{node_of, parts_of, flat, flats}
use Rattle.lq_print.specs.Writing.{Step, word, term, under, back, Written, act, play, opening, closing, product_front, binder_front, at_once, product_steps, steps_for}
use Rattle.lq_print.proofs.NameLaws.{name_is}

pub play_append : (env : Env) (ws vs : List Step) (s : Written) → play env (ws ++ vs) s ≡ play env ws (play env vs s)
play_append env [] vs s = refl
play_append env (w ∷ ws) vs s = ap (act env w) (play_append env ws vs s)

-- the pieces of a term: those of its parts, and its node
pub flat_parts : (env : Env) (t : Tree) → flat env t ≡ flats env (parts_of t) ++ node_of env t ∷ []
flat_parts env (Rel i) = refl
flat_parts env (Var x) = refl
flat_parts env (Sort s) = refl
flat_parts env (Prod x A B) = refl
flat_parts env (Lam x A B) = refl
flat_parts env (Let x v A B) = simp append_assoc
flat_parts env (App f a) = refl
flat_parts env (Const c) = refl
flat_parts env (Ind c) = refl
flat_parts env (Ctor c k) = refl
flat_parts env (Elim c s) = refl
flat_parts env (Evar n ts) = refl

pub flats_append : (env : Env) (ts us : List Tree) → flats env (ts ++ us) ≡ flats env us ++ flats env ts
flats_append env [] us = sym (append-nil (flats env us))
flats_append env (t ∷ ts) us = ap (λ ps. ps ++ flat env t) (flats_append env ts us) ∙ append_assoc (flats env us) (flats env ts) (flat env t)

-- what is written, with some terms left
abbrev state : List ℕ → List Tree → List Name → Written
state out ts bs = record { out = out; trees = ts; binders = bs }

same_out : (xs ys : List ℕ) (ts : List Tree) (bs : List Name) → xs ≡ ys → state xs ts bs ≡ state ys ts bs
same_out xs ys ts bs e = ap (λ o. state o ts bs) e

regrouped : (o w y c a m b : List ℕ) → (((o ++ (w ++ y ++ c)) ++ a) ++ m) ++ b ≡ o ++ (w ++ y ++ (c ++ a) ++ m ++ b)
regrouped o w y c a m b = simp append_assoc

-- brackets round what is written
round : (env : Env) (b : Bool) (out front inside : List ℕ) (ts us : List Tree) (bs : List Name) (vs : List Step) →
    ((o : List ℕ) → play env vs (state (o ++ front) ts bs) ≡ state (o ++ inside) us bs) →
    play env (closing b ++ vs) (state (out ++ (opening b ++ front)) ts bs) ≡ state (out ++ in_brackets b inside) us bs
unfolding in_brackets
round env false out front inside ts us bs vs h = h out
round env true out front inside ts us bs vs h =
    ap (λ (o : List ℕ). act env (word (codes ")")) (play env vs (state o ts bs))) (sym (append_assoc out (codes "(") front))
    ∙ ap (act env (word (codes ")"))) (h (out ++ codes "("))
    ∙ same_out _ _ us bs (simp append_assoc)

module _ (env : Env) (k : ℕ) (out : List ℕ) (ts : List Tree) (bs : List Name) where
  -- the steps of a node give its text
  abbrev Plays : Tree → Type 0
  Plays t = play env (steps_for k bs (node_of env t)) (state (out ++ at_once k bs (node_of env t)) (parts_of t ++ ts) bs) ≡ state (out ++ text k (surface env bs t)) ts bs

  plays_product : (A B : Tree) (y : Name) →
      play env (closing (nat_lt 0 k) ++ product_steps y) (state (out ++ (opening (nat_lt 0 k) ++ product_front y)) (A ∷ B ∷ ts) bs)
      ≡ state (out ++ text k (product_surface y (surface env bs A) (surface env (y ∷ bs) B))) ts bs
  unfolding text kind_text product_surface name_text
  plays_product A B [] =
      round env (nat_lt 0 k) out [] (text 1 (surface env bs A) ++ codes " -> " ++ text 0 (surface env ([] ∷ bs) B)) (A ∷ B ∷ ts) ts bs (product_steps [])
      (λ o. same_out _ _ ts bs (simp (append_assoc, append-nil)))
  plays_product A B (y ∷ ys) =
      round env (nat_lt 0 k) out (product_front (y ∷ ys))
      (codes "forall " ++ (y ∷ ys) ++ (codes " : " ++ text 0 (surface env bs A)) ++ codes ", " ++ text 0 (surface env ((y ∷ ys) ∷ bs) B))
      (A ∷ B ∷ ts) ts bs (product_steps (y ∷ ys))
      (λ o. same_out _ _ ts bs
      (regrouped o (codes "forall ") (y ∷ ys) (codes " : ") (text 0 (surface env bs A)) (codes ", ") (text 0 (surface env ((y ∷ ys) ∷ bs) B))))

  plays_function : (A B : Tree) (y : Name) →
      play env (closing (nat_lt 0 k) ++ back ∷ term 0 ∷ under y ∷ word (codes " => ") ∷ term 0 ∷ [])
      (state (out ++ (opening (nat_lt 0 k) ++ binder_front (codes "fun ") y)) (A ∷ B ∷ ts) bs)
      ≡ state (out ++ in_brackets (nat_lt 0 k)
      (codes "fun " ++ name_text y ++ (codes " : " ++ text 0 (surface env bs A)) ++ codes " => " ++ text 0 (surface env (y ∷ bs) B))) ts bs
  plays_function A B y =
      round env (nat_lt 0 k) out (binder_front (codes "fun ") y)
      (codes "fun " ++ name_text y ++ (codes " : " ++ text 0 (surface env bs A)) ++ codes " => " ++ text 0 (surface env (y ∷ bs) B))
      (A ∷ B ∷ ts) ts bs (back ∷ term 0 ∷ under y ∷ word (codes " => ") ∷ term 0 ∷ [])
      (λ o. same_out _ _ ts bs (simp append_assoc))

  plays_local : (A v B : Tree) (y : Name) →
      play env (closing (nat_lt 0 k) ++ back ∷ term 0 ∷ under y ∷ word (codes " in ") ∷ term 0 ∷ word (codes " := ") ∷ term 0 ∷ [])
      (state (out ++ (opening (nat_lt 0 k) ++ binder_front (codes "let ") y)) (A ∷ v ∷ B ∷ ts) bs)
      ≡ state (out ++ in_brackets (nat_lt 0 k)
      (codes "let " ++ name_text y ++ (codes " : " ++ text 0 (surface env bs A)) ++ codes " := " ++ text 0 (surface env bs v)
      ++ codes " in " ++ text 0 (surface env (y ∷ bs) B))) ts bs
  plays_local A v B y =
      round env (nat_lt 0 k) out (binder_front (codes "let ") y)
      (codes "let " ++ name_text y ++ (codes " : " ++ text 0 (surface env bs A)) ++ codes " := " ++ text 0 (surface env bs v)
      ++ codes " in " ++ text 0 (surface env (y ∷ bs) B))
      (A ∷ v ∷ B ∷ ts) ts bs (back ∷ term 0 ∷ under y ∷ word (codes " in ") ∷ term 0 ∷ word (codes " := ") ∷ term 0 ∷ [])
      (λ o. same_out _ _ ts bs (simp append_assoc))

  plays_sort : (s : Universe) → state (out ++ sort_text s) ts bs ≡ state (out ++ text k (sort_surface s)) ts bs
  unfolding sort_text text sort_surface
  plays_sort Universe.Base = refl
  plays_sort (Universe.Level i) = refl

  pub plays : (t : Tree) → Plays t
  unfolding surface text kind_text
  plays (Rel i) = refl
  plays (Var x) = refl
  plays (Sort s) = plays_sort s
  plays (Prod x A B) =
      ap (λ (y : Name). play env (closing (nat_lt 0 k) ++ product_steps y) (state (out ++ (opening (nat_lt 0 k) ++ product_front y)) (A ∷ B ∷ ts) bs))
      (name_is env bs x B)
      ∙ plays_product A B (printed_name env bs x B)
  plays (Lam x A B) =
      ap (λ (y : Name). play env (closing (nat_lt 0 k) ++ back ∷ term 0 ∷ under y ∷ word (codes " => ") ∷ term 0 ∷ [])
      (state (out ++ (opening (nat_lt 0 k) ++ binder_front (codes "fun ") y)) (A ∷ B ∷ ts) bs)) (name_is env bs x B)
      ∙ plays_function A B (printed_name env bs x B)
  plays (Let x v A B) =
      ap (λ (y : Name). play env (closing (nat_lt 0 k) ++ back ∷ term 0 ∷ under y ∷ word (codes " in ") ∷ term 0 ∷ word (codes " := ") ∷ term 0 ∷ [])
      (state (out ++ (opening (nat_lt 0 k) ++ binder_front (codes "let ") y)) (A ∷ v ∷ B ∷ ts) bs)) (name_is env bs x B)
      ∙ plays_local A v B (printed_name env bs x B)
  plays (App f a) =
      ap (λ (w : List ℕ). play env (steps_for k bs applied) (state (out ++ w) (f ∷ a ∷ ts) bs)) (sym (append-nil (opening (nat_lt 1 k))))
      ∙ round env (nat_lt 1 k) out [] (text 1 (surface env bs f) ++ codes " " ++ text 2 (surface env bs a)) (f ∷ a ∷ ts) ts bs
      (term 2 ∷ word (codes " ") ∷ term 1 ∷ []) (λ o. same_out _ _ ts bs (simp (append_assoc, append-nil)))
  plays (Const c) = refl
  plays (Ind c) = refl
  plays (Ctor c n) = refl
  plays (Elim c s) = refl
  plays (Evar n us) = refl
