-- Where elaboration of what is printed of a term succeeds, it gives the term back: the law.
use Rattle.std.proofs.Common.{◌≡◌, Bool, true, false, List, [], ◌∷◌, map, Option, Some, None, refl, sym, ap, ◌∙◌, arith}
use Rattle.std.specs.List.{AllByRecursion}
use Rattle.std.proofs.lemmas.Slice.Eq.{bytes_eq-Decides}
use Rattle.lq_trees.specs.Tree.{Name, Tree, Context, Hypothesis, value_of, same_name}
use Rattle.lq_trees.specs.Tree.Tree.{Rel, Var, Sort, Prod, Lam, Let, App, Const, Ind, Ctor, Elim, Evar}
use Rattle.lq_trees.specs.Fresh.{is_listed}
use Rattle.lq_trees.specs.Same.{nameless}
use Rattle.lq_calculus.specs.Contraction.{hypothesis}
use Rattle.lq_calculus.specs.Declarations.{Env}
use Rattle.lq_calculus.proofs.ConvSound.{Gives, gives_bind, done_gives}
use Rattle.lq_ast.specs.Syntax.{Surface}
use Rattle.lq_solving.specs.Stores.{Store}
use Rattle.lq_solving.specs.Elaboration.{Site, Found, elaborate, elaborate_call}
use Rattle.lq_texts.specs.Printing.{names_in, surface}
use Rattle.lq_texts.specs.ReadBack.{IsPlain, globals}
use Rattle.lq_texts.specs.Elaborated.{GivesBack}
use Rattle.lq_texts.proofs.PrintedNames.{or_first, or_second}
use Rattle.lq_texts.proofs.ReadsBackLaw.{closed_uses}
use Rattle.lq_texts.proofs.Closing.{NoEvar, same_self, fill_none}
use Rattle.lq_texts.proofs.Elaborating.{Around, gives_back}

no_evar : (env : Env) (t : Tree) → IsPlain env t → NoEvar t
no_evar env (Rel i) p = tt
no_evar env (Var x) p = tt
no_evar env (Sort s) p = tt
no_evar env (Prod x A B) p = (no_evar env A p.1, no_evar env B p.2)
no_evar env (Lam x A t) p = (no_evar env A p.1, no_evar env t p.2)
no_evar env (Let x v A t) p = (no_evar env v p.1, no_evar env A p.2, no_evar env t p.3)
no_evar env (App f a) p = (no_evar env f p.0, no_evar env a p.1)
no_evar env (Const c) p = tt
no_evar env (Ind c) p = tt
no_evar env (Ctor c k) p = tt
no_evar env (Elim c s) p = tt
no_evar env (Evar n ts) p = absurd p

-- what holds of each listed name holds of all
each_listed : (P : Name → Type 0) (cs : List Name) → ((c : Name) → is_listed cs c ≡ true → P c) → AllByRecursion P cs
unfolding is_listed
each_listed P [] h = tt
each_listed P (c ∷ cs) h = (h c (or_first (same_name c c) _ (same_self c)), each_listed P cs (λ d e. h d (or_second (same_name c d) _ e)))

-- a context has no hypothesis of a name that none of its hypotheses has
none_there : (cs : List Name) (c : Name) → is_listed cs c ≡ true → (g : Context) → AllByRecursion (λ h. is_listed cs h.name ≡ false) g → hypothesis g c ≡ None
unfolding hypothesis
none_there cs c e [] a = refl
none_there cs c e (h ∷ g) a = by (same_name h.name c) refl (none_there cs c e g a.1)
  where
    true_false : true ≡ false → ⊥
    true_false f = absurd cc

    by : (b : Bool) → same_name h.name c ≡ b → hypothesis g c ≡ None → elim b as (λ _. Option Hypothesis) [ true ↦ Some h | false ↦ hypothesis g c ] ≡ None
    by true f others = absurd (true_false (sym e ∙ ap (is_listed cs) (sym ((bytes_eq-Decides h.name c).0 f)) ∙ a.0))
    by false f others = others

around_none : (g : Context) → Around (map (λ h. h.name) g) [] g
unfolding is_listed
around_none g = record { inside = λ y e. absurd cc; outside = λ y e. e }

-- what the call gives, elaboration gave
call_gives : (e : Site) (s : Store) (u : Surface) (w : Option Tree) (f : Found) → Gives (elaborate_call e s u w) f →
    (r : Found) × Gives (elaborate e [] e.outer s u w) r × (f.term ≡ r.term)
unfolding elaborate_call
call_gives e s u w f h =
    let r = gives_bind _ _ f h in
    let a = gives_bind _ _ f r.2 in
    let b = gives_bind _ _ f a.2 in
    (r.0, r.1, ap (λ (x : Found). x.term) (sym b.2))

-- where elaboration of what is printed of a term succeeds, it gives the term back, but for the names of binders
pub elaborates_back : GivesBack
elaborates_back env g t u p st el =
    let e : Site = record { env = env; bound = el.bound; values = []; outer = g } in
    let r = call_gives e el.store (surface env [] t) el.wanted el.found
    (done_gives el.budget (elaborate_call e el.store (surface env [] t) el.wanted) el.found el.left el.ends) in
    let v = no_evar env t p.plain in
    let few = p.few in
    let back =
    gives_back el.bound env g few.names t v st.declared st.known
    (each_listed (λ c. hypothesis g c ≡ None) (globals env t) (λ c l. none_there (globals env t) c l g st.apart)) few.held
    [] [] [] g (around_none g) p.closed (λ i q. absurd (true_false (sym q ∙ closed_uses env t p.plain 0 p.closed i (omega arith))))
    (each_listed (λ x. value_of [] x ≡ None) (names_in env t) (λ x l. refl))
    (omega (arith, few.few)) (omega (arith, st.small)) el.store el.wanted r.0 r.1 in
    ap nameless (sym el.term ∙ r.2) ∙ back ∙ ap nameless (fill_none t 0 v p.closed)
  where
    true_false : true ≡ false → ⊥
    true_false f = absurd cc
