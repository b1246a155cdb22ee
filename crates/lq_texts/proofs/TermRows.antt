-- Printed terms, computed.
use Rattle.std.specs.Prelude.{◌≡◌, refl, [], ◌∷◌, codes}
use Rattle.lq_trees.specs.declared.Sort.{Sort as Universe}
use Rattle.lq_trees.specs.Tree.{none, more}
use Rattle.lq_trees.specs.Tree.Tree.{Rel, Var, Prod, Lam, Let, App, Const, Ind, Ctor, Elim, Evar}
use Rattle.lq_texts.specs.Printing.{term_text}
use Rattle.lq_texts.proofs.Computing.{printing}
use Rattle.lq_texts.proofs.Samples.{base, at_level, a_, b_, f_, every, arrow, same, local, texts, choices}

-- each node by itself: no brackets
alone : texts (a_ ∷ base ∷ at_level 0 ∷ at_level 3 ∷ every ∷ arrow ∷ same ∷ local ∷ App f_ a_ ∷ Const (codes "c") ∷ Ind (codes "nat") ∷ Evar 7 none ∷ [])
    ≡ codes "a" ∷ codes "Prop" ∷ codes "Type 0" ∷ codes "Type 3" ∷ codes "forall x : Prop, x" ∷ codes "a -> b" ∷ codes "fun x : Prop => x"
    ∷ codes "let x : Prop := a in x" ∷ codes "f a" ∷ codes "c" ∷ codes "nat" ∷ codes "?7" ∷ []
unfolding printing
alone = refl

-- a constructor and an eliminator by their names
named : term_text choices
    (App (App (Ctor (codes "or") 1) (Elim (codes "or") Universe.Base)) (App (Ctor (codes "or") 0) (Elim (codes "or") (Universe.Level 2))))
    ≡ codes "two or_ind (one or_rec2)"
unfolding printing
named = refl

-- brackets round an argument that is no atom, and round no other
arguments : texts (App f_ every ∷ App f_ arrow ∷ App f_ same ∷ App f_ local ∷ App f_ (App f_ a_) ∷ App f_ a_ ∷ App f_ base ∷ App f_ (at_level 2) ∷ App f_
    (Evar 3 none) ∷ [])
    ≡ codes "f (forall x : Prop, x)" ∷ codes "f (a -> b)" ∷ codes "f (fun x : Prop => x)" ∷ codes "f (let x : Prop := a in x)" ∷ codes "f (f a)" ∷ codes "f a"
    ∷ codes "f Prop"
    ∷ codes "f Type 2" ∷ codes "f ?3" ∷ []
unfolding printing
arguments = refl

-- round a function that is neither atom nor application
functions : texts (App every a_ ∷ App arrow a_ ∷ App same a_ ∷ App local a_ ∷ App (App f_ a_) b_ ∷ App (at_level 2) a_ ∷ App (Evar 3 none) a_ ∷ [])
    ≡ codes "(forall x : Prop, x) a" ∷ codes "(a -> b) a" ∷ codes "(fun x : Prop => x) a" ∷ codes "(let x : Prop := a in x) a" ∷ codes "f a b"
    ∷ codes "Type 2 a" ∷ codes "?3 a" ∷ []
unfolding printing
functions = refl

-- round a left side of `->` that is neither atom nor application
left_sides : texts (Prod [] every b_ ∷ Prod [] arrow b_ ∷ Prod [] same b_ ∷ Prod [] local b_ ∷ Prod [] (App f_ a_) b_ ∷ Prod [] (at_level 1) b_ ∷ [])
    ≡ codes "(forall x : Prop, x) -> b" ∷ codes "(a -> b) -> b" ∷ codes "(fun x : Prop => x) -> b" ∷ codes "(let x : Prop := a in x) -> b" ∷ codes "f a -> b"
    ∷ codes "Type 1 -> b" ∷ []
unfolding printing
left_sides = refl

-- round no right side of `->`
right_sides : texts (Prod [] a_ every ∷ Prod [] a_ arrow ∷ Prod [] a_ same ∷ Prod [] a_ local ∷ Prod [] a_ (App f_ b_) ∷ [])
    ≡ codes "a -> forall x : Prop, x" ∷ codes "a -> a -> b" ∷ codes "a -> fun x : Prop => x" ∷ codes "a -> let x : Prop := a in x" ∷ codes "a -> f b" ∷ []
unfolding printing
right_sides = refl

-- round no type, value or rest of a binder
inside : texts (Prod (codes "z") arrow (App f_ (Rel 0)) ∷ Lam (codes "z") every (Prod [] (Rel 0) b_) ∷ Let (codes "z") same arrow local ∷ [])
    ≡ codes "forall z : a -> b, f z" ∷ codes "fun z : forall x : Prop, x => z -> b" ∷ codes "let _ : a -> b := fun x : Prop => x in let x : Prop := a in x"
    ∷ []
unfolding printing
inside = refl

deep : texts (App f_ (App f_ (Prod [] (Prod [] a_ (at_level 1)) base)) ∷ []) ≡ codes "f (f ((a -> Type 1) -> Prop))" ∷ []
unfolding printing
deep = refl

-- ---- binders

-- a binder that is not used: `_`, and `->` for a product
unused : texts (Lam (codes "x") base a_ ∷ Let (codes "x") a_ base b_ ∷ Prod (codes "x") base a_ ∷ Lam (codes "x") base
    (Let (codes "y") (Evar 7 none) base (Const (codes "c"))) ∷ [])
    ≡ codes "fun _ : Prop => a" ∷ codes "let _ : Prop := a in b" ∷ codes "Prop -> a" ∷ codes "fun _ : Prop => let _ : Prop := ?7 in c" ∷ []
unfolding printing
unused = refl

-- a used binder without a name is `x`
unnamed : texts (Lam [] base (Rel 0) ∷ Prod [] base (Rel 0) ∷ Let [] a_ base (Rel 0) ∷ [])
    ≡ codes "fun x : Prop => x" ∷ codes "forall x : Prop, x" ∷ codes "let x : Prop := a in x" ∷ []
unfolding printing
unnamed = refl

-- a name that a hypothesis or a global of the body has is left: the first of name0, name1 and so on is taken
renamed : texts (Lam (codes "a") base (App a_ (Rel 0)) ∷ Lam (codes "c") base (App (Const (codes "c")) (Rel 0)) ∷ Prod (codes "nat") (Ind (codes "nat"))
    (App (Ind (codes "nat")) (Rel 0)) ∷ Lam (codes "a") base (App (App a_ (Var (codes "a0"))) (Rel 0)) ∷ [])
    ≡ codes "fun a0 : Prop => a a0" ∷ codes "fun c0 : Prop => c c0" ∷ codes "forall nat0 : nat, nat nat0" ∷ codes "fun a1 : Prop => a a0 a1" ∷ []
unfolding printing
renamed = refl

-- so is one that a constructor or an eliminator of the body has
renamed_by_name : term_text choices (Lam (codes "one") base (App (Ctor (codes "or") 0) (Rel 0))) ≡ codes "fun one0 : Prop => one one0"
unfolding printing
renamed_by_name = refl

renamed_by_eliminator : term_text choices (Lam (codes "or_ind") base (App (Elim (codes "or") Universe.Base) (Rel 0)))
    ≡ codes "fun or_ind0 : Prop => or_ind or_ind0"
unfolding printing
renamed_by_eliminator = refl

-- what stands in the type or the value alone takes no name
kept : texts (Lam (codes "a") a_ (Rel 0) ∷ Let (codes "a") a_ base (Rel 0) ∷ Lam (codes "x") (Ind (codes "x")) (Rel 0) ∷ [])
    ≡ codes "fun a : a => a" ∷ codes "let a : Prop := a in a" ∷ codes "fun x : x => x" ∷ []
unfolding printing
kept = refl

-- a name that a printed binder outside has is left; one printed as `_` or `->` has none
enclosing : texts (Lam (codes "a") base (Lam (codes "a") base (App (Rel 0) (Rel 1))) ∷ Lam (codes "a") base (Lam (codes "a") (Rel 0) (Rel 0)) ∷ Lam
    (codes "a") base (Lam (codes "a") base (Rel 0)) ∷ Prod (codes "a") base (Prod (codes "a") base (Rel 0)) ∷ [])
    ≡ codes "fun a : Prop => fun a0 : Prop => a0 a" ∷ codes "fun a : Prop => fun a0 : a => a0" ∷ codes "fun _ : Prop => fun a : Prop => a"
    ∷ codes "Prop -> forall a : Prop, a" ∷ []
unfolding printing
enclosing = refl

all_together : texts (Lam (codes "a") base (Lam (codes "a") base (Lam [] a_ (App (App (Rel 0) (Rel 1)) (Rel 2)))) ∷ [])
    ≡ codes "fun a0 : Prop => fun a1 : Prop => fun x : a => x a1 a0" ∷ []
unfolding printing
all_together = refl

-- ---- existential variables

-- by their number, with their arguments; what the instance holds counts as used, and its names as those of the body
variables : texts
    (Evar 0 none ∷ Evar 12 (more a_ none) ∷ App (App (Evar 3 none) a_) (App f_ b_) ∷ App f_ (App (Evar 3 none) a_) ∷ Prod [] (Evar 1 none) (Evar 2 none) ∷ [])
    ≡ codes "?0" ∷ codes "?12" ∷ codes "?3 a (f b)" ∷ codes "f (?3 a)" ∷ codes "?1 -> ?2" ∷ []
unfolding printing
variables = refl

instances : texts (Let (codes "z") a_ base (Evar 3 (more (Rel 0) none)) ∷ Lam (codes "a") base (Evar 3 (more (Rel 0) (more a_ none))) ∷ [])
    ≡ codes "let z : Prop := a in ?3" ∷ codes "fun a0 : Prop => ?3" ∷ []
unfolding printing
instances = refl
