-- Faults that carry terms as read.
use Rattle.std.proofs.Common.{◌≡◌, ◌∙◌, ℕ, refl, sym, ap, ap₂, List, [], ◌∷◌}
use Rattle.std.proofs.Common.{subst as along}
use Rattle.lq_trees.specs.Tree.{Tree}
use Rattle.lq_trees.specs.Ticks.{gives, fails, ◌>>=◌}
use Rattle.lq_calculus.proofs.ConvSound.{Gives}
use Rattle.lq_terms.specs.declared.nodes.TermId.{TermId}
use Rattle.lq_terms.specs.Terms.{Terms, HasTerm, tree_of}
use Rattle.lq_tactics.specs.Rows.{RowFault, needed, told, cannot_apply, do_not_unify}
use Rattle.lq_tactics.proofs.RowsKept.{needed_is}
use Rattle.lq_prims.specs.declared.faults.PrimFault.{PrimFault}
use Rattle.lq_prims.specs.Working.{Refuses}
use Rattle.lq_prims.proofs.WorkLaws.{refuses_first, refuses_same, refuses_at_once}

-- the first term passes a limit
pub told_first : {A : Type 0} (bank : Terms) (e : PrimFault) (t : Tree) (ts : List Tree) (f : RowFault) (b : ℕ) → Refuses bank e (λ n. needed t) b b → Refuses {A = A} bank e (λ n. told (t ∷ ts) f) b b
unfolding told
told_first bank e t ts f b h = refuses_first bank e (λ n. needed t) (λ ok n. told ts f) b b h

-- it passes none
pub told_rest : {A : Type 0} (t u : Tree) (ts : List Tree) (f : RowFault) → needed t ≡ gives u → told {A = A} (t ∷ ts) f ≡ told ts f
unfolding told ◌>>=◌
told_rest t u ts f e = ap (λ w. w >>= λ ok. told ts f) e

pub told_none : {A : Type 0} (f : RowFault) → told {A = A} [] f ≡ fails f
unfolding told
told_none f = refl

pub told_second : {A : Type 0} (bank : Terms) (e : PrimFault) (t u v : Tree) (ts : List Tree) (f : RowFault) (b : ℕ) → needed t ≡ gives u → Refuses bank e (λ n. needed v) b b → Refuses {A = A} bank e (λ n. told (t ∷ v ∷ ts) f) b b
told_second bank e t u v ts f b h k = refuses_same bank e (λ n. told (v ∷ ts) f) (λ n. told (t ∷ v ∷ ts) f) b b (λ n. sym (told_rest t u (v ∷ ts) f h)) (told_first bank e v ts f b k)

pub needed_same : (t u : Tree) → needed t ≡ gives u → t ≡ u
needed_same t u e = needed_is t u (along (λ z. Gives z u) (sym e) refl)

-- both terms are told
pub told_both : {A : Type 0} (bank : Terms) (l r : TermId) (t v : Tree) (b : ℕ) → HasTerm bank l → HasTerm bank r → needed t ≡ gives (tree_of bank l) → needed v ≡ gives (tree_of bank r) →
    Refuses {A = A} bank (PrimFault.DoNotUnify l r) (λ n. told (t ∷ v ∷ []) (do_not_unify t v)) b b
told_both bank l r t v b x y h k =
    refuses_at_once bank (PrimFault.DoNotUnify l r) (do_not_unify (tree_of bank l) (tree_of bank r)) (told (t ∷ v ∷ []) (do_not_unify t v)) (x, y, refl)
    (told_rest t (tree_of bank l) (v ∷ []) (do_not_unify t v) h ∙ told_rest v (tree_of bank r) [] (do_not_unify t v) k ∙ told_none (do_not_unify t v)
    ∙ ap₂ (λ p q. fails (do_not_unify p q)) (needed_same t (tree_of bank l) h) (needed_same v (tree_of bank r) k)) b

-- a term and a type to which it does not apply are told
pub told_applied : {A : Type 0} (bank : Terms) (l r : TermId) (t v : Tree) (b : ℕ) → HasTerm bank l → HasTerm bank r → needed t ≡ gives (tree_of bank l) → needed v ≡ gives (tree_of bank r) →
    Refuses {A = A} bank (PrimFault.CannotApply l r) (λ n. told (t ∷ v ∷ []) (cannot_apply t v)) b b
told_applied bank l r t v b x y h k =
    refuses_at_once bank (PrimFault.CannotApply l r) (cannot_apply (tree_of bank l) (tree_of bank r)) (told (t ∷ v ∷ []) (cannot_apply t v)) (x, y, refl)
    (told_rest t (tree_of bank l) (v ∷ []) (cannot_apply t v) h ∙ told_rest v (tree_of bank r) [] (cannot_apply t v) k ∙ told_none (cannot_apply t v)
    ∙ ap₂ (λ p q. fails (cannot_apply p q)) (needed_same t (tree_of bank l) h) (needed_same v (tree_of bank r) k)) b
