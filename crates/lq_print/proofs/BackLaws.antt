-- What is printed of a term is read again, and elaborated to itself: a printed term has few names, and is not deep.
use Rattle.std.proofs.Common.{◌≡◌, ℕ, ◌+◌, ◌<◌, ◌≤◌, ◌^◌, Bool, true, false, List, [], ◌∷◌, ◌++◌, map, length, refl, ap, ◌∙◌, subst, arith, length-append, append_assoc}
use Rattle.std.specs.Prelude.{◌||◌}
use Rattle.std.specs.List.{AllByRecursion}
use Rattle.lq_trees.specs.Tree.{Name, Tree, Context}
use Rattle.lq_trees.specs.Tree.Tree.{Rel, Var, Sort, Prod, Lam, Let, App, Const, Ind, Ctor, Elim, Evar}
use Rattle.lq_trees.specs.Size.{depth}
use Rattle.lq_trees.specs.Same.{Same}
use Rattle.lq_trees.specs.Index.{Within}
use Rattle.lq_trees.specs.Hypotheses.{HoldsOnly}
use Rattle.lq_trees.specs.Fresh.{is_listed}
use Rattle.lq_calculus.specs.Declarations.{Env}
use Rattle.lq_ast.specs.Commands.{stated, command, check}
use Rattle.lq_texts.specs.Printing.{names_in, surface}
use Rattle.lq_texts.specs.ReadBack.{IsPlain, IsDeclared, HasFewNames, ReadsTo, check_sentence, globals}
use Rattle.lq_texts.specs.Elaborated.{Elaborates}
use Rattle.lq_texts.proofs.Closing.{same_self}
use Rattle.lq_texts.proofs.ReadsBackLaw.{reads_back}
use Rattle.lq_texts.proofs.ElaboratesBackLaw.{elaborates_back}
use Rattle.std.proofs.lemmas.List.{length-map}
use Rattle.lq_terms.specs.Terms.{Terms}
use Rattle.lq_print.specs.declared.spelling.Spelling.{Spelling}
use Rattle.lq_print.specs.Spelling.{Shown, applied, product, function, local, Spelled, spell}
use Rattle.lq_print.specs.Pieces.{shown_in, shown_all, spelled_of, Spells}
use Rattle.lq_print.proofs.SpellLaws.{spell_is}
use Rattle.lq_print.specs.Flat.{flat, over_of}
use Rattle.lq_print.proofs.NameLaws.{listed_append}

two : (xs ys : List Shown) (p : Shown) → length ((xs ++ ys) ++ p ∷ []) ≡ length xs + length ys + 1
two xs ys p = omega (arith, length-append (xs ++ ys) (p ∷ []), length-append xs ys)

three : (xs ys zs : List Shown) (p : Shown) → length ((xs ++ ys ++ zs) ++ p ∷ []) ≡ length xs + length ys + length zs + 1
three xs ys zs p = omega (arith, length-append (xs ++ ys ++ zs) (p ∷ []), length-append (xs ++ ys) zs, length-append xs ys)

-- each name that occurs has a piece
names_few : (env : Env) (t : Tree) → IsPlain env t → length (names_in env t) ≤ length (flat env t)
unfolding names_in
names_few env (Rel i) p = omega arith
names_few env (Var x) p = omega arith
names_few env (Sort s) p = omega arith
names_few env (Prod x A B) p =
    omega (arith, names_few env A p.1, names_few env B p.2, length-append (names_in env A) (names_in env B), two (flat env B) (flat env A) (product (over_of env x B)))
names_few env (Lam x A B) p =
    omega (arith, names_few env A p.1, names_few env B p.2, length-append (names_in env A) (names_in env B), two (flat env B) (flat env A) (function (over_of env x B)))
names_few env (Let x v A B) p =
    omega (
      arith,
      names_few env v p.1,
      names_few env A p.2,
      names_few env B p.3,
      length-append (names_in env v ++ names_in env A) (names_in env B),
      length-append (names_in env v) (names_in env A),
      three (flat env B) (flat env v) (flat env A) (local (over_of env x B)),
    )
names_few env (App f a) p =
    omega (arith, names_few env f p.0, names_few env a p.1, length-append (names_in env f) (names_in env a), two (flat env a) (flat env f) applied)
names_few env (Const c) p = omega arith
names_few env (Ind c) p = omega arith
names_few env (Ctor c k) p = omega arith
names_few env (Elim c s) p = omega arith
names_few env (Evar n ts) p = absurd p

-- a term is no deeper than it has pieces
not_deep : (env : Env) (t : Tree) → IsPlain env t → depth t ≤ length (flat env t)
not_deep env (Rel i) p = omega arith
not_deep env (Var x) p = omega arith
not_deep env (Sort s) p = omega arith
not_deep env (Prod x A B) p = omega (arith, not_deep env A p.1, not_deep env B p.2, two (flat env B) (flat env A) (product (over_of env x B)))
not_deep env (Lam x A B) p = omega (arith, not_deep env A p.1, not_deep env B p.2, two (flat env B) (flat env A) (function (over_of env x B)))
not_deep env (Let x v A B) p =
    omega (arith, not_deep env v p.1, not_deep env A p.2, not_deep env B p.3, three (flat env B) (flat env v) (flat env A) (local (over_of env x B)))
not_deep env (App f a) p = omega (arith, not_deep env f p.0, not_deep env a p.1, two (flat env a) (flat env f) applied)
not_deep env (Const c) p = omega arith
not_deep env (Ind c) p = omega arith
not_deep env (Ctor c k) p = omega arith
not_deep env (Elim c s) p = omega arith
not_deep env (Evar n ts) p = absurd p

-- the names of a list are among them
among : (front xs : List Name) → AllByRecursion (λ x. is_listed (front ++ xs) x ≡ true) xs
unfolding is_listed
among front [] = tt
among front (x ∷ xs) = (
  listed_append front (x ∷ xs) x ∙ ap (λ b. is_listed front x || (b || is_listed xs x)) (same_self x) ∙ or_true (is_listed front x),
  step (among (front ++ x ∷ []) xs),
)
  where
    or_true : (b : Bool) → (b || true) ≡ true
    or_true true = refl
    or_true false = refl

    step : AllByRecursion (λ y. is_listed ((front ++ x ∷ []) ++ xs) y ≡ true) xs → AllByRecursion (λ y. is_listed (front ++ (x ∷ xs)) y ≡ true) xs
    step h = subst (λ zs. AllByRecursion (λ y. is_listed zs y ≡ true) xs) (append_assoc front (x ∷ []) xs) h

-- a printed term has few names
pub few_names : (env : Env) (t : Tree) → IsPlain env t → length (flat env t) < 2 ^ 63 → HasFewNames env t
few_names env t p few = record {
  names = names_in env t;
  held = among [] (names_in env t);
  few = omega (arith, names_few env t p, not_deep env t p);
}

-- it is read again
pub read_again : (env : Env) (t : Tree) → length (flat env t) < 2 ^ 63 → IsPlain env t → Within 0 t →
    ReadsTo (check_sentence env t) (stated 0 (command (check (surface env [] t))))
read_again env t few p closed = reads_back env t (record { plain = p; closed = closed; few = few_names env t p few })

-- and elaborated to itself
pub elaborated_again :
    (env : Env) (g : Context) (t u : Tree) → length (flat env t) < 2 ^ 63 → length g < 2 ^ 63 → IsPlain env t → Within 0 t → IsDeclared env t
    → HoldsOnly (map (λ h. h.name) g) t → AllByRecursion (λ h. is_listed (globals env t) h.name ≡ false) g → Elaborates env g (surface env [] t) u → Same u t
elaborated_again env g t u few small p closed declared known apart given =
    elaborates_back env g t u (record { plain = p; closed = closed; few = few_names env t p few })
    (record { declared = declared; known = known; apart = apart; small = omega (arith, not_deep env t p) }) given

-- ---- the spelling of a term that begins with nothing

pub spelled_flat : (bank : Terms) (env : Env) (t : Tree) (old new : Spelling) → old.pieces.items ≡ [] → Spells bank old new (spell env t) →
    (spelled_of bank new).pieces ≡ flat env t
spelled_flat bank env t old new e h =
    ap (λ (x : Spelled). x.pieces) (h.same ∙ spell_is env t (spelled_of bank old)) ∙ ap (λ ps. shown_all bank old.texts old.names.items ps ++ flat env t) e

pub few_pieces : (bank : Terms) (env : Env) (t : Tree) (s : Spelling) (n : ℕ) → (spelled_of bank s).pieces ≡ flat env t → length s.pieces.items < n → length (flat env t) < n
few_pieces bank env t s n e l = omega (arith, ap length e, length-map s.pieces.items (shown_in bank s.texts s.names.items))
