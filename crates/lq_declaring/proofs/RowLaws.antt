-- A row of products over one list of binders is the row over parameters and indices.
use Rattle.std.proofs.Common.{◌≡◌, ◌∙◌, refl, sym, ap, ap₂, arith, ℕ, zero, suc, ◌+◌, ◌≤◌, true, false, List, [], ◌∷◌, ◌++◌, length, length-append, take, drop, append-nil, append_assoc, None}
use Rattle.std.proofs.lemmas.Bool.{true≢false}
use Rattle.lq_trees.specs.declared.Sort.{Sort as Universe}
use Rattle.lq_trees.specs.Tree.{Tree, Context, Hypothesis}
use Rattle.lq_trees.specs.Tree.Tree.{Rel, Var, Sort, Prod, Lam, Let, App, Const, Ind, Ctor, Elim, Evar}
use Rattle.lq_trees.specs.Ticks.{gives}
use Rattle.lq_trees.specs.Size.{depth}
use Rattle.lq_trees.specs.Fresh.{fresh, opened, under}
use Rattle.lq_calculus.specs.Typing.{is_product}
use Rattle.lq_sessions.specs.Sessions.{Work}
use Rattle.lq_sessions.specs.Declaring.{Row, row_within, row_of}
use Rattle.lq_declaring.specs.Rows.{row_end, row_on}

-- ---- the first and the others of two lists in a row

take_first : {A : Type 0} (xs ys : List A) → take (length xs) (xs ++ ys) ≡ xs
take_first [] [] = refl
take_first [] (y ∷ ys) = refl
take_first (x ∷ xs) ys = ap (λ zs. x ∷ zs) (take_first xs ys)

drop_first : {A : Type 0} (xs ys : List A) → drop (length xs) (xs ++ ys) ≡ ys
drop_first [] [] = refl
drop_first [] (y ∷ ys) = refl
drop_first (x ∷ xs) ys = drop_first xs ys

abbrev none : (A : Type 0) → List A
none A = []

none_taken : {A : Type 0} (k : ℕ) → take k (none A) ≡ []
none_taken zero = refl
none_taken (suc k) = refl

none_left : {A : Type 0} (k : ℕ) → drop k (none A) ≡ []
none_left zero = refl
none_left (suc k) = refl

pub taken_over : {A : Type 0} (xs : List A) (n : ℕ) → length xs ≤ n → take n xs ≡ xs
taken_over [] n l = none_taken n
taken_over (x ∷ xs) zero l = absurd (omega (arith, l))
taken_over (x ∷ xs) (suc n) l = ap (λ zs. x ∷ zs) (taken_over xs n (omega (arith, l)))

pub left_over : {A : Type 0} (xs : List A) (n : ℕ) → length xs ≤ n → drop n xs ≡ []
left_over [] n l = none_left n
left_over (x ∷ xs) zero l = absurd (omega (arith, l))
left_over (x ∷ xs) (suc n) l = left_over xs n (omega (arith, l))

take_more : {A : Type 0} (xs : List A) (k : ℕ) → take (length xs + k) xs ≡ xs
take_more xs k = taken_over xs (length xs + k) (omega arith)

drop_more : {A : Type 0} (xs : List A) (k : ℕ) → drop (length xs + k) xs ≡ []
drop_more xs k = left_over xs (length xs + k) (omega arith)

-- ---- the same with so many products at most

a_row : (p q i j : Context) (u : Universe) → p ≡ q → i ≡ j →
    ◌≡◌ {A = Work Row} (gives (record { parameters = p; indices = i; sort = u })) (gives (record { parameters = q; indices = j; sort = u }))
a_row p q i j u e h = rw (e, h) refl

-- behind the parameters
indices_row : (n : ℕ) (ps is : Context) (t : Tree) → row_within n 0 ps is t ≡ row_on n (length ps) (ps ++ is) t
unfolding row_within row_on row_end under
indices_row zero ps is (Rel i) = refl
indices_row zero ps is (Var x) = refl
indices_row zero ps is (Sort u) = a_row ps (take (length ps) (ps ++ is)) is (drop (length ps) (ps ++ is)) u (sym (take_first ps is)) (sym (drop_first ps is))
indices_row zero ps is (Prod x A B) = refl
indices_row zero ps is (Lam x A B) = refl
indices_row zero ps is (Let x v A B) = refl
indices_row zero ps is (App f a) = refl
indices_row zero ps is (Const x) = refl
indices_row zero ps is (Ind x) = refl
indices_row zero ps is (Ctor x i) = refl
indices_row zero ps is (Elim x u) = refl
indices_row zero ps is (Evar i ts) = refl
indices_row (suc n) ps is (Rel i) = refl
indices_row (suc n) ps is (Var x) = refl
indices_row (suc n) ps is (Sort u) = a_row ps (take (length ps) (ps ++ is)) is (drop (length ps) (ps ++ is)) u (sym (take_first ps is)) (sym (drop_first ps is))
indices_row (suc n) ps is (Prod x A B) =
    let y = fresh (ps ++ is) x in
    indices_row n ps (is ++ record { name = y; body = None; kind = A } ∷ []) (opened y B)
    ∙ ap (λ h. row_on n (length ps) h (opened y B)) (sym (append_assoc ps is (record { name = y; body = None; kind = A } ∷ [])))
indices_row (suc n) ps is (Lam x A B) = refl
indices_row (suc n) ps is (Let x v A B) = refl
indices_row (suc n) ps is (App f a) = refl
indices_row (suc n) ps is (Const x) = refl
indices_row (suc n) ps is (Ind x) = refl
indices_row (suc n) ps is (Ctor x i) = refl
indices_row (suc n) ps is (Elim x u) = refl
indices_row (suc n) ps is (Evar i ts) = refl

-- before them
parameters_row : (n k : ℕ) (ps : Context) (t : Tree) → row_within n k ps [] t ≡ row_on n (length ps + k) ps t
unfolding row_within row_on row_end under
parameters_row n zero ps t = indices_row n ps [] t ∙ ap₂ (λ k h. row_on n k h t) (omega arith) (append-nil ps)
parameters_row zero (suc k) ps (Rel i) = refl
parameters_row zero (suc k) ps (Var x) = refl
parameters_row zero (suc k) ps (Sort u) = a_row ps (take (length ps + suc k) ps) [] (drop (length ps + suc k) ps) u (sym (take_more ps (suc k))) (sym (drop_more ps (suc k)))
parameters_row zero (suc k) ps (Prod x A B) = refl
parameters_row zero (suc k) ps (Lam x A B) = refl
parameters_row zero (suc k) ps (Let x v A B) = refl
parameters_row zero (suc k) ps (App f a) = refl
parameters_row zero (suc k) ps (Const x) = refl
parameters_row zero (suc k) ps (Ind x) = refl
parameters_row zero (suc k) ps (Ctor x i) = refl
parameters_row zero (suc k) ps (Elim x u) = refl
parameters_row zero (suc k) ps (Evar i ts) = refl
parameters_row (suc n) (suc k) ps (Rel i) = refl
parameters_row (suc n) (suc k) ps (Var x) = refl
parameters_row (suc n) (suc k) ps (Sort u) = a_row ps (take (length ps + suc k) ps) [] (drop (length ps + suc k) ps) u (sym (take_more ps (suc k))) (sym (drop_more ps (suc k)))
parameters_row (suc n) (suc k) ps (Prod x A B) =
    let y = fresh ps x in
    let more = ps ++ record { name = y; body = None; kind = A } ∷ [] in
    parameters_row n k more (opened y B) ∙ ap (λ j. row_on n j more (opened y B)) (omega (arith, length-append ps (record { name = y; body = None; kind = A } ∷ [])))
parameters_row (suc n) (suc k) ps (Lam x A B) = refl
parameters_row (suc n) (suc k) ps (Let x v A B) = refl
parameters_row (suc n) (suc k) ps (App f a) = refl
parameters_row (suc n) (suc k) ps (Const x) = refl
parameters_row (suc n) (suc k) ps (Ind x) = refl
parameters_row (suc n) (suc k) ps (Ctor x i) = refl
parameters_row (suc n) (suc k) ps (Elim x u) = refl
parameters_row (suc n) (suc k) ps (Evar i ts) = refl

none_before : (k : ℕ) → length (none Hypothesis) + k ≡ k
none_before k = omega arith

-- a term as a row
pub row_is : (k : ℕ) (t : Tree) → row_of k t ≡ row_on (depth t) k [] t
unfolding row_of
row_is k t = parameters_row (depth t) k [] t ∙ ap (λ j. row_on (depth t) j [] t) (none_before k)

-- behind the last product
pub row_ends : (n k : ℕ) (h : Context) (t : Tree) → is_product t ≡ false → row_on n k h t ≡ row_end k h t
unfolding row_on is_product
row_ends zero k h (Rel i) e = refl
row_ends (suc n) k h (Rel i) e = refl
row_ends zero k h (Var x) e = refl
row_ends (suc n) k h (Var x) e = refl
row_ends zero k h (Sort u) e = refl
row_ends (suc n) k h (Sort u) e = refl
row_ends zero k h (Lam x A B) e = refl
row_ends (suc n) k h (Lam x A B) e = refl
row_ends zero k h (Let x v A B) e = refl
row_ends (suc n) k h (Let x v A B) e = refl
row_ends zero k h (App f a) e = refl
row_ends (suc n) k h (App f a) e = refl
row_ends zero k h (Const x) e = refl
row_ends (suc n) k h (Const x) e = refl
row_ends zero k h (Ind x) e = refl
row_ends (suc n) k h (Ind x) e = refl
row_ends zero k h (Ctor x i) e = refl
row_ends (suc n) k h (Ctor x i) e = refl
row_ends zero k h (Elim x u) e = refl
row_ends (suc n) k h (Elim x u) e = refl
row_ends zero k h (Evar i ts) e = refl
row_ends (suc n) k h (Evar i ts) e = refl
row_ends n k h (Prod x A B) e = absurd (true≢false e)
