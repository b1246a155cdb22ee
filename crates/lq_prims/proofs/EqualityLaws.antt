-- When a term is an equality.
use Rattle.std.proofs.Common.{◌≡◌, ◌<◌, ◌∙◌, refl, ap, arith, Bool, true, false, List, [], ◌∷◌, length, Option, Some, None}
use Rattle.lq_trees.specs.Tree.{Tree}
use Rattle.lq_trees.specs.Tree.Tree.{Rel, Var, Sort, Prod, Lam, Let, App, Const, Ind, Ctor, Elim, Evar}
use Rattle.lq_calculus.specs.Contraction.{spine}
use Rattle.lq_tactics.specs.Primitives.{equality_of}
use Rattle.lq_prims.specs.Equalities.{is_eq}

-- four arguments or more are too many
many_ind : (x : _) (a b c d : Tree) (ts : List Tree) → equality_of (Ind x, a ∷ b ∷ c ∷ d ∷ ts) ≡ None
unfolding equality_of
many_ind x a b c d ts = refl

pub too_many : (t a b c d : Tree) (ts : List Tree) → equality_of (spine t (a ∷ b ∷ c ∷ d ∷ ts)) ≡ None
unfolding equality_of spine
too_many (App f z) a b c d ts = too_many f z a b c (d ∷ ts)
too_many (Rel i) a b c d ts = refl
too_many (Var x) a b c d ts = refl
too_many (Sort s) a b c d ts = refl
too_many (Prod x A B) a b c d ts = refl
too_many (Lam x A t) a b c d ts = refl
too_many (Let x v A t) a b c d ts = refl
too_many (Const x) a b c d ts = refl
too_many (Ind x) a b c d ts = refl
too_many (Ctor x i) a b c d ts = refl
too_many (Elim x s) a b c d ts = refl
too_many (Evar i us) a b c d ts = refl

-- three arguments
pub three : (t A a b : Tree) → equality_of (spine t (A ∷ a ∷ b ∷ [])) ≡ elim (is_eq t) as (λ z. Option (Tree × Tree × Tree)) [ true ↦ Some (A, a, b) | false ↦ None ]
unfolding equality_of spine is_eq
three (App f z) A a b = too_many f z A a b []
three (Rel i) A a b = refl
three (Var x) A a b = refl
three (Sort s) A a b = refl
three (Prod x K B) A a b = refl
three (Lam x K t) A a b = refl
three (Let x v K t) A a b = refl
three (Const x) A a b = refl
three (Ind x) A a b = refl
three (Ctor x i) A a b = refl
three (Elim x s) A a b = refl
three (Evar i us) A a b = refl

-- fewer than three arguments are too few
few_ind : (t : Tree) (ts : List Tree) → length ts < 3 → ((f a : Tree) → ¬ (t ≡ App f a)) → equality_of (spine t ts) ≡ None
unfolding equality_of spine
few_ind (App f z) ts l n = absurd (n f z refl)
few_ind (Ind x) [] l n = refl
few_ind (Ind x) (a ∷ []) l n = refl
few_ind (Ind x) (a ∷ b ∷ []) l n = refl
few_ind (Ind x) (a ∷ b ∷ c ∷ ts) l n = absurd (omega (arith, l))
few_ind (Rel i) ts l n = refl
few_ind (Var x) ts l n = refl
few_ind (Sort s) ts l n = refl
few_ind (Prod x K B) ts l n = refl
few_ind (Lam x K t) ts l n = refl
few_ind (Let x v K t) ts l n = refl
few_ind (Const x) ts l n = refl
few_ind (Ctor x i) ts l n = refl
few_ind (Elim x s) ts l n = refl
few_ind (Evar i us) ts l n = refl

pub none_at : (t : Tree) → ((f a : Tree) → ¬ (t ≡ App f a)) → equality_of (spine t []) ≡ None
none_at t n = few_ind t [] (omega arith) n

pub none_after : (t f b : Tree) → t ≡ App f b → ((g a : Tree) → ¬ (f ≡ App g a)) → equality_of (spine t []) ≡ None
unfolding spine
none_after t f b e n = ap (λ z. equality_of (spine z [])) e ∙ few_ind f (b ∷ []) (omega arith) n

pub none_later : (t f b g a : Tree) → t ≡ App f b → f ≡ App g a → ((h A : Tree) → ¬ (g ≡ App h A)) → equality_of (spine t []) ≡ None
unfolding spine
none_later t f b g a e i n = ap (λ z. equality_of (spine z [])) (e ∙ ap (λ z. App z b) i) ∙ few_ind g (a ∷ b ∷ []) (omega arith) n

pub found : (t f b g a h A : Tree) → t ≡ App f b → f ≡ App g a → g ≡ App h A → (o : Bool) → is_eq h ≡ o →
    equality_of (spine t []) ≡ elim o as (λ z. Option (Tree × Tree × Tree)) [ true ↦ Some (A, a, b) | false ↦ None ]
unfolding spine
found t f b g a h A e i j o y =
    ap (λ z. equality_of (spine z [])) (e ∙ ap (λ z. App z b) (i ∙ ap (λ z. App z a) j)) ∙ three h A a b
    ∙ ap (λ q. elim q as (λ z. Option (Tree × Tree × Tree)) [ true ↦ Some (A, a, b) | false ↦ None ]) y
