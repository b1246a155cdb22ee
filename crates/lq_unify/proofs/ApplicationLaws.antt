-- The parts of two applications.
use Rattle.std.proofs.Common.{◌≡◌, ◌≤◌, ◌-◌, ◌∙◌, ℕ, zero, suc, Bool, true, false, ◌||◌, ◌&&◌, leb, refl, sym, ap, ap₂, arith, List, [], ◌∷◌, map, length, take, drop, Option, None, Result, Ok, Err, IfOk}
use Rattle.std.proofs.Common.{subst as along}
use Rattle.std.specs.List.{AllByRecursion}
use Rattle.std.proofs.lemmas.List.{length-map, length-drop}
use Rattle.std.proofs.Math.Seq.{take-length}
use Rattle.lq_trees.specs.Tree.{Tree, Trees, Context}
use Rattle.lq_trees.specs.Tree.Tree.{Evar}
use Rattle.lq_terms.specs.declared.nodes.Node.{Node}
use Rattle.lq_terms.specs.declared.nodes.TermId.{TermId}
use Rattle.lq_terms.specs.Terms.{Terms, HasTerm, IsTerm, Grows, node_tree, tree_of}
use Rattle.lq_calculus.specs.Contraction.{apply}
use Rattle.lq_solving.specs.Unification.{Sides, parts_of, is_variable, application_parts, split_last}

pub variable_is : (T : Tree) (n : ℕ) (ts : Trees) → T ≡ Evar n ts → true ≡ is_variable T
unfolding is_variable
variable_is T n ts e = sym (ap is_variable e)

pub no_variable : (bank : Terms) (node : Node) (t : TermId) → node_tree bank node ≡ tree_of bank t → ((n : ℕ) (ts : List TermId) → node ≡ Node.Evar n ts → ⊥) → false ≡ is_variable (tree_of bank t)
unfolding is_variable
no_variable bank (Node.Rel i) t e h = ap is_variable e
no_variable bank (Node.Var x) t e h = ap is_variable e
no_variable bank (Node.Sort s) t e h = ap is_variable e
no_variable bank (Node.Prod x a b) t e h = ap is_variable e
no_variable bank (Node.Lam x a b) t e h = ap is_variable e
no_variable bank (Node.Let x v a b) t e h = ap is_variable e
no_variable bank (Node.App f a) t e h = ap is_variable e
no_variable bank (Node.Const c) t e h = ap is_variable e
no_variable bank (Node.Ind c) t e h = ap is_variable e
no_variable bank (Node.Ctor c k) t e h = ap is_variable e
no_variable bank (Node.Elim c s) t e h = ap is_variable e
no_variable bank (Node.Evar n ts) t e h = absurd (h n ts refl)

-- a variable as head on either side
if_either : (a b : Bool) (o : Option (List Sides)) → (a || b) ≡ true → None ≡ elim (a || b) as (λ z. Option (List Sides)) [ true ↦ None | false ↦ o ]
if_either a b o e = sym (ap (λ z. elim z as (λ w. Option (List Sides)) [ true ↦ None | false ↦ o ]) e)

pub no_application : (g : Context) (p q : Tree × List Tree) → (is_variable p.0 || is_variable q.0) ≡ true → None ≡ application_parts g p q
unfolding application_parts
no_application g p q e = if_either (is_variable p.0) (is_variable q.0) (parts_of g (p.0 ∷ p.1) (q.0 ∷ q.1)) e

pub is_application : (g : Context) (p q : Tree × List Tree) (a b : Bool) → a ≡ is_variable p.0 → a ≡ false → b ≡ is_variable q.0 → b ≡ false → parts_of g (p.0 ∷ p.1) (q.0 ∷ q.1) ≡ application_parts g p q
unfolding application_parts
is_application g p q a b e f h k =
    sym (ap (λ z. elim z as (λ w. Option (List Sides)) [ true ↦ None | false ↦ parts_of g (p.0 ∷ p.1) (q.0 ∷ q.1) ]) (ap₂ (λ x y. x || y) (sym e ∙ f) (sym h ∙ k)))

pub first_true : (a b c : Bool) → a ≡ b → a ≡ true → (b || c) ≡ true
first_true a b c e f = ap (λ z. z || c) (sym e ∙ f)

pub second_true : (a b c : Bool) → a ≡ c → a ≡ true → (b || c) ≡ true
second_true a b c e f = by b c (sym e ∙ f)
  where
    by : (x y : Bool) → y ≡ true → (x || y) ≡ true
    by true y k = refl
    by false y k = k

-- ---- without the last arguments

taken : (tree : TermId → Tree) (m : ℕ) (ts : List TermId) → map tree (take m ts) ≡ take m (map tree ts)
taken tree zero ts = refl
taken tree (suc m) [] = refl
taken tree (suc m) (t ∷ ts) = ap (λ z. tree t ∷ z) (taken tree m ts)

dropped : (tree : TermId → Tree) (m : ℕ) (ts : List TermId) → map tree (drop m ts) ≡ drop m (map tree ts)
dropped tree zero ts = refl
dropped tree (suc m) [] = refl
dropped tree (suc m) (t ∷ ts) = dropped tree m ts

pub first_args : (tree : TermId → Tree) (ts : List TermId) (n rest : ℕ) → rest ≡ length ts - n → map tree (take rest ts) ≡ (split_last n (map tree ts)).0
unfolding split_last
first_args tree ts n rest e = ap (λ m. map tree (take m ts)) e ∙ taken tree (length ts - n) ts ∙ ap (λ m. take (m - n) (map tree ts)) (sym (length-map ts tree))

pub last_args : (tree : TermId → Tree) (ts : List TermId) (n rest : ℕ) → rest ≡ length ts - n → map tree (drop rest ts) ≡ (split_last n (map tree ts)).1
unfolding split_last
last_args tree ts n rest e = ap (λ m. map tree (drop m ts)) e ∙ dropped tree (length ts - n) ts ∙ ap (λ m. drop (m - n) (map tree ts)) (sym (length-map ts tree))

pub all_take : {X : Type 0} (T : X → Type 0) (m : ℕ) (xs : List X) → AllByRecursion T xs → AllByRecursion T (take m xs)
all_take T zero xs h = tt
all_take T (suc m) [] h = tt
all_take T (suc m) (x ∷ xs) h = (h.0, all_take T m xs h.1)

pub all_drop : {X : Type 0} (T : X → Type 0) (m : ℕ) (xs : List X) → AllByRecursion T xs → AllByRecursion T (drop m xs)
all_drop T zero xs h = h
all_drop T (suc m) [] h = tt
all_drop T (suc m) (x ∷ xs) h = all_drop T m xs h.1

-- the whole list again
pub other_are : (old new : Terms) → Grows old new → (h : TermId) (ts us : List TermId) (v : TermId) (args : List TermId) (n rest : ℕ) → rest ≡ length args - n → AllByRecursion (HasTerm old) args →
    IsTerm new v (apply (tree_of old h) (map (tree_of old) (take rest args))) → us ≡ v ∷ drop rest args →
    map (tree_of new) us ≡ apply (tree_of old h) (split_last n (map (tree_of old) args)).0 ∷ (split_last n (map (tree_of old) args)).1
other_are old new g h ts us v args n rest e has made q =
    ap (map (tree_of new)) q
    ∙ ap₂ (λ x xs. x ∷ xs) (made.is ∙ ap (apply (tree_of old h)) (first_args (tree_of old) args n rest e)) (grown (drop rest args) (all_drop (HasTerm old) rest args has) ∙ last_args (tree_of old) args n rest e)
  where
    grown : (ws : List TermId) → AllByRecursion (HasTerm old) ws → map (tree_of new) ws ≡ map (tree_of old) ws
    grown [] k = refl
    grown (w ∷ ws) k = ap₂ (λ x xs. x ∷ xs) (g.tree w k.0) (grown ws k.1)

-- a list that a call answers
pub if_list : {V E X : Type 0} (r : Result V E) (items : V → List X) (xs : List X) (P : List X → Type 0) → IfOk r (λ v. items v ≡ xs) → P xs → IfOk r (λ v. P (items v))
if_list (Ok v) items xs P h k = along P (sym h) k
if_list (Err e) items xs P h k = tt

-- whether one is split off the other, by the tests that were made
pub all_fit : (a b : Bool) (m n : ℕ) → a ≡ b → a ≡ true → 1 ≤ m → m ≤ n → (b && leb 1 m && leb m n) ≡ true
all_fit a true m n e f h k = both (leb 1 m) (leb m n) (le_leb 1 m h) (le_leb m n k)
  where
    both : (x y : Bool) → x ≡ true → y ≡ true → (x && y) ≡ true
    both true true p q = refl
    both false y p q = p
    both true false p q = q

    le_leb : (i j : ℕ) → i ≤ j → leb i j ≡ true
    le_leb i j l = grind arith
all_fit a false m n e f h k = sym e ∙ f

pub counted : (bank : Terms) (ts us : List TermId) (v a : Bool) → a ≡ v → a ≡ true → 1 ≤ length ts → length ts ≤ length us →
    (v && leb 1 (length (map (tree_of bank) ts)) && leb (length (map (tree_of bank) ts)) (length (map (tree_of bank) us))) ≡ true
counted bank ts us v a e f h k = all_fit a v (length (map (tree_of bank) ts)) (length (map (tree_of bank) us)) e f (omega (arith, h, length-map ts (tree_of bank))) (omega (arith, k, length-map ts (tree_of bank), length-map us (tree_of bank)))

pub variable_list : (old new : Terms) → Grows old new → (ts : List TermId) → AllByRecursion (HasTerm old) ts → map (tree_of new) ts ≡ map (tree_of old) ts
variable_list old new g [] h = refl
variable_list old new g (t ∷ ts) h = ap₂ (λ x xs. x ∷ xs) (g.tree t h.0) (variable_list old new g ts h.1)

pub other_list : (bank : Terms) (h : Tree) (ts us : List TermId) (n : ℕ) → n ≡ length ts → apply h (split_last n (map (tree_of bank) us)).0 ∷ (split_last n (map (tree_of bank) us)).1
    ≡ apply h (split_last (length (map (tree_of bank) ts)) (map (tree_of bank) us)).0 ∷ (split_last (length (map (tree_of bank) ts)) (map (tree_of bank) us)).1
other_list bank h ts us n e = ap (λ m. apply h (split_last m (map (tree_of bank) us)).0 ∷ (split_last m (map (tree_of bank) us)).1) (e ∙ sym (length-map ts (tree_of bank)))

pub take_rest : (k n : ℕ) (ts : List TermId) → n ≡ length ts - k → take n (drop k ts) ≡ drop k ts
take_rest k n ts e = ap (λ z. take z (drop k ts)) (e ∙ sym (length-drop k ts)) ∙ take-length (drop k ts)
