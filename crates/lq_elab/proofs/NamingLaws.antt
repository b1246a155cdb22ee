-- What names stand for, and how binders change it.
use Rattle.std.proofs.Common.{◌≡◌, if◌then◌else◌, refl, sym, ◌∙◌, ap, arith, Bool, true, false, ◌||◌, List, [], ◌∷◌, ◌++◌, Option, None, Some}
use Rattle.std.proofs.Common.{subst as along}
use Rattle.std.specs.List.{AllByRecursion}
use Rattle.lq_trees.specs.Tree.{Name, Context, Hypothesis, same_name, value_of}
use Rattle.lq_trees.specs.Fresh.{is_listed}
use Rattle.lq_trees.specs.Ticks.{fails}
use Rattle.lq_calculus.specs.Contraction.{hypothesis}
use Rattle.lq_calculus.specs.Declarations.{lookup}
use Rattle.lq_solving.specs.Stores.{Store, names_in}
use Rattle.lq_solving.specs.ElabFaults.{Elab, unknown}
use Rattle.lq_solving.specs.Elaboration.{Given, given_term, given_name, given_other, Site, Found, entry_found, hypothesis_or, value_found, outer_found}
use Rattle.lq_solving.specs.Elaboration.{name_found, bind}
use Rattle.lq_solving.proofs.InstanceLaws.{is_same, same_flip}
use Rattle.lq_solving.proofs.InferKept.{names_more}
use Rattle.lq_solving.proofs.StandsLaws.{listed_more, listed_end}
use Rattle.lq_elab.specs.Waiting.{Spot}
use Rattle.lq_elab.specs.Naming.{variable, meaning_of_name, meaning_of_value, meaning_if, value_or, outer_meaning, bound_or, meaning, meant, with_meaning}
use Rattle.lq_elab.specs.Naming.{AreBound, under_binder}

-- a name is found as what it stands for
pub name_meant : (e : Site) (l : Spot) (s : Store) (x : Name) → name_found e l.binders l.context s x ≡ meant e s x (meaning e l x)
unfolding name_found outer_found value_found hypothesis_or meaning outer_meaning bound_or value_or meaning_if meaning_of_name meaning_of_value meant
name_meant e l s x = at (value_of l.binders x)
  where
    known : (o : Option Hypothesis) → hypothesis_or s o (fails (unknown x)) ≡ meant e s x (Some (meaning_of_name o))
    known (Some h) = refl
    known None = refl

    other : (o : Option Hypothesis) → hypothesis_or s o (entry_found e s x (lookup e.env x)) ≡ meant e s x (meaning_if o)
    other (Some h) = refl
    other None = refl

    value : (v : Given) → value_found e s x v ≡ meant e s x (Some (meaning_of_value e.outer v))
    value (given_term t) = refl
    value (given_name y) = known (hypothesis e.outer y)
    value given_other = refl

    outer : (o : Option Given) → outer_found e s x o ≡ meant e s x (value_or e.outer o (hypothesis e.outer x))
    outer (Some v) = value v
    outer None = other (hypothesis e.outer x)

    at : (o : Option Name) → (elim o as (λ _. Elab Found) [ Some y ↦ hypothesis_or s (hypothesis l.context y) (fails (unknown x)) | None ↦ outer_found e s x (value_of e.values x) ])
        ≡ meant e s x (bound_or l.context o (outer_meaning e x))
    at (Some y) = known (hypothesis l.context y)
    at None = outer (value_of e.values x)

-- ---- one binder more

-- this hypothesis, or another
abbrev pick : Hypothesis → Option Hypothesis → Bool → Option Hypothesis
pick h o b = elim b [ true ↦ Some h | false ↦ o ]

-- a hypothesis that is there is found behind one more; a new one is found itself
hypothesis_more : (g : Context) (h : Hypothesis) (y : Name) → is_listed (names_in g) y ≡ true → hypothesis (g ++ h ∷ []) y ≡ hypothesis g y
unfolding hypothesis is_listed
hypothesis_more [] h y l = absurd (grind (arith, l))
hypothesis_more (k ∷ g) h y l = at (same_name k.name y) refl (hypothesis_more g h y)
  where
    at : (b : Bool) → same_name k.name y ≡ b → (is_listed (names_in g) y ≡ true → hypothesis (g ++ h ∷ []) y ≡ hypothesis g y) → hypothesis (k ∷ g ++ h ∷ []) y ≡ hypothesis (k ∷ g) y
    at true e again = ap (pick k (hypothesis (g ++ h ∷ []) y)) e ∙ sym (ap (pick k (hypothesis g y)) e)
    at false e again =
        ap (pick k (hypothesis (g ++ h ∷ []) y)) e ∙ again (along (λ b. (b || is_listed (names_in g) y) ≡ true) e l) ∙ sym (ap (pick k (hypothesis g y)) e)

hypothesis_new : (g : Context) (h : Hypothesis) → is_listed (names_in g) h.name ≡ false → hypothesis (g ++ h ∷ []) h.name ≡ Some h
unfolding hypothesis is_listed
hypothesis_new [] h l = ap (pick h None) (is_same h.name)
hypothesis_new (k ∷ g) h l = at (same_name k.name h.name) refl (hypothesis_new g h)
  where
    at : (b : Bool) → same_name k.name h.name ≡ b → (is_listed (names_in g) h.name ≡ false → hypothesis (g ++ h ∷ []) h.name ≡ Some h) → hypothesis (k ∷ g ++ h ∷ []) h.name ≡ Some h
    at true e again = absurd (grind (arith, e, l))
    at false e again = ap (pick k (hypothesis (g ++ h ∷ []) h.name)) e ∙ again (along (λ b. (b || is_listed (names_in g) h.name) ≡ false) e l)

some_is : (a c : Name) → Some a ≡ Some c → a ≡ c
some_is a c q = grind (arith, q)

-- a binder's hypothesis is one of the context
bound_listed : (g : Context) (bs : List (Name × Name)) (z y : Name) → AllByRecursion (λ p. is_listed (names_in g) p.1 ≡ true) bs → value_of bs z ≡ Some y → is_listed (names_in g) y ≡ true
bound_listed g [] z y k e = absurd (grind (arith, e))
bound_listed g (b ∷ bs) z y k e = at (same_name z b.0) refl (bound_listed g bs z y k.1)
  where
    at : (c : Bool) → same_name z b.0 ≡ c → (value_of bs z ≡ Some y → is_listed (names_in g) y ≡ true) → is_listed (names_in g) y ≡ true
    at true q again = along (λ n. is_listed (names_in g) n ≡ true) (some_is b.1 y (along (λ d. (if d then Some b.1 else value_of bs z) ≡ Some y) q e)) k.0
    at false q again = again (along (λ d. (if d then Some b.1 else value_of bs z) ≡ Some y) q e)

-- what a name that is not the new binder's stands for
others_mean : (e : Site) (l : Spot) (h : Hypothesis) (z : Name) → AreBound l → (o : Option Name) → value_of l.binders z ≡ o →
    bound_or (l.context ++ h ∷ []) o (outer_meaning e z) ≡ bound_or l.context o (outer_meaning e z)
unfolding bound_or
others_mean e l h z k None q = refl
others_mean e l h z k (Some y) q = ap (λ o. Some (meaning_of_name o)) (hypothesis_more l.context h y (bound_listed l.context l.binders z y k q))

pub meaning_under : (e : Site) (l : Spot) (x : Name) (h : Hypothesis) (z : Name) → AreBound l → is_listed (names_in l.context) h.name ≡ false →
    meaning e (under_binder l x h) z ≡ with_meaning x (variable h.name h.kind) (meaning e l) z
unfolding meaning with_meaning bind bound_or meaning_of_name
meaning_under e l [] h z k new = others_mean e l h z k (value_of l.binders z) refl
meaning_under e l (c ∷ x) h z k new = at (same_name (c ∷ x) z) refl
  where
    at : (b : Bool) → same_name (c ∷ x) z ≡ b →
        bound_or (l.context ++ h ∷ []) (if same_name z (c ∷ x) then Some h.name else value_of l.binders z) (outer_meaning e z)
        ≡ (elim b [ true ↦ Some (variable h.name h.kind) | false ↦ bound_or l.context (value_of l.binders z) (outer_meaning e z) ])
    at true q =
        ap (λ d. bound_or (l.context ++ h ∷ []) (if d then Some h.name else value_of l.binders z) (outer_meaning e z)) (same_flip z (c ∷ x) ∙ q)
        ∙ ap (λ o. Some (meaning_of_name o)) (hypothesis_new l.context h new)
    at false q =
        ap (λ d. bound_or (l.context ++ h ∷ []) (if d then Some h.name else value_of l.binders z) (outer_meaning e z)) (same_flip z (c ∷ x) ∙ q)
        ∙ others_mean e l h z k (value_of l.binders z) refl

-- each binder has its hypothesis still
all_more : (g : Context) (h : Hypothesis) (bs : List (Name × Name)) → AllByRecursion (λ p. is_listed (names_in g) p.1 ≡ true) bs → AllByRecursion (λ p. is_listed (names_in (g ++ h ∷ [])) p.1 ≡ true) bs
all_more g h [] k = tt
all_more g h (b ∷ bs) k = (along (λ ns. is_listed ns b.1 ≡ true) (sym (names_more g h)) (listed_more (names_in g) (h.name ∷ []) b.1 k.0), all_more g h bs k.1)

pub bound_under : (l : Spot) (x : Name) (h : Hypothesis) → AreBound l → AreBound (under_binder l x h)
unfolding bind
bound_under l [] h k = all_more l.context h l.binders k
bound_under l (c ∷ x) h k = (along (λ ns. is_listed ns h.name ≡ true) (sym (names_more l.context h)) (listed_end (names_in l.context) h.name), all_more l.context h l.binders k)
