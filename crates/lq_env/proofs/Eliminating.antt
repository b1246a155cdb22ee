-- The type that is kept of an eliminator is that of the definition, where its sort is permitted.
use Rattle.std.proofs.Common.{◌≡◌, ◌∙◌, zero, suc, refl, sym, ap, subst, arith, Bool, true, false, ◌||◌, ◌&&◌, List, [], ◌∷◌, map, Option, Some, None, Result, Ok, Err, eqb-true}
use Rattle.std.specs.Prelude.{if◌then◌else◌, option_map}
use Rattle.std.specs.List.{AllByRecursion}
use Rattle.lq_trees.specs.declared.Sort.{Sort as Universe}
use Rattle.lq_terms.specs.declared.nodes.NameId.{NameId}
use Rattle.lq_terms.specs.declared.nodes.TermId.{TermId}
use Rattle.lq_terms.specs.Terms.{Terms, text_of}
use Rattle.lq_calculus.specs.Declarations.{Family as TreeFamily, family, lookup, elim_type, permits, permitted_of, sorts}
use Rattle.lq_env.specs.declared.family.EnvFault.{EnvFault}
use Rattle.lq_env.specs.declared.environment.Declared.{Declared}
use Rattle.lq_env.specs.Families.{IsSort}
use Rattle.lq_env.specs.Environments.{declared_of, entry_of, env_of, made_kept, eliminator_in, eliminator_at, is_sort, type_into, IsStored, AreEliminators, IsMade, IsEnv, IsOwn, Eliminates}
use Rattle.lq_env.proofs.Lookups.{lookup_of, declared_is}
use Rattle.lq_env.proofs.Telling.{family_made}

pub sort_is : (a b : Universe) → is_sort a b ≡ true → a ≡ b
sort_is Universe.Base Universe.Base e = refl
sort_is Universe.Base (Universe.Level j) e = absurd cc
sort_is (Universe.Level i) Universe.Base e = absurd cc
sort_is (Universe.Level i) (Universe.Level j) e = ap Universe.Level (eqb-true i j e)

-- permitted is what stands among them
pub permits_step : (x s : Universe) (ss : List Universe) → permits (x ∷ ss) s ≡ (is_sort x s || permits ss s)
unfolding permits
permits_step Universe.Base Universe.Base ss = refl
permits_step Universe.Base (Universe.Level j) ss = refl
permits_step (Universe.Level i) Universe.Base ss = refl
permits_step (Universe.Level i) (Universe.Level j) ss = refl

pub permits_none : (s : Universe) → permits [] s ≡ false
unfolding permits
permits_none s = refl

and_false : (a b : Bool) → b ≡ false → (a && b) ≡ false
and_false true b e = e
and_false false b e = refl

-- those of the sorts that are permitted
pub permits_both : (ss xs : List Universe) (s : Universe) → permits (permitted_of ss xs) s ≡ (permits xs s && permits ss s)
unfolding permitted_of
permits_both ss [] s = permits_none s ∙ ap (λ b. b && permits ss s) (sym (permits_none s))
permits_both ss (x ∷ xs) s = by (permits ss x) refl (is_sort x s) refl (permits_both ss xs s)
  where
    by :
        (b : Bool) → permits ss x ≡ b → (c : Bool) → is_sort x s ≡ c → permits (permitted_of ss xs) s ≡ (permits xs s && permits ss s)
        → permits (elim b [ true ↦ x ∷ permitted_of ss xs | false ↦ permitted_of ss xs ]) s ≡ (permits (x ∷ xs) s && permits ss s)
    by true e true f k =
        let here : permits ss s ≡ true = ap (permits ss) (sym (sort_is x s f)) ∙ e in
        permits_step x s (permitted_of ss xs) ∙ ap (λ b. b || permits (permitted_of ss xs) s) f ∙ sym here ∙ ap (λ b. (b || permits xs s) && permits ss s) (sym f) ∙ ap (λ b. b && permits ss s) (sym (permits_step x s xs))
    by true e false f k =
        permits_step x s (permitted_of ss xs) ∙ ap (λ b. b || permits (permitted_of ss xs) s) f ∙ k ∙ ap (λ b. (b || permits xs s) && permits ss s) (sym f) ∙ ap (λ b. b && permits ss s) (sym (permits_step x s xs))
    by false e true f k =
        let here : permits ss s ≡ false = ap (permits ss) (sym (sort_is x s f)) ∙ e in
        k ∙ and_false (permits xs s) (permits ss s) here ∙ sym (and_false (permits (x ∷ xs) s) (permits ss s) here)
    by false e false f k = k ∙ ap (λ b. (b || permits xs s) && permits ss s) (sym f) ∙ ap (λ b. b && permits ss s) (sym (permits_step x s xs))

-- each sort is one of the five
pub sorts_all : (s : Universe) → IsSort s → permits sorts s ≡ true
unfolding permits
sorts_all Universe.Base h = refl
sorts_all (Universe.Level zero) h = refl
sorts_all (Universe.Level (suc zero)) h = refl
sorts_all (Universe.Level (suc (suc zero))) h = refl
sorts_all (Universe.Level (suc (suc (suc zero)))) h = refl
sorts_all (Universe.Level (suc (suc (suc (suc n))))) h = absurd (omega (arith, h))

-- what stands beside a sort
module _ (bank : Terms) (f : TreeFamily) (s : Universe) where
  pub into_some : (es : List (Universe × TermId)) (t : TermId) → AllByRecursion (λ e. IsStored bank e.1 (elim_type f e.0)) es → type_into es s ≡ Some t → (permits (map (λ e. e.0) es) s ≡ true) × IsStored bank t (elim_type f s)
  into_some [] t h e = absurd cc
  into_some (x ∷ xs) t h e = by (is_sort x.0 s) refl e (λ k. into_some xs t h.1 k)
    where
      by :
          (b : Bool) → is_sort x.0 s ≡ b → (if b then Some x.1 else type_into xs s) ≡ Some t
          → (type_into xs s ≡ Some t → (permits (map (λ e. e.0) xs) s ≡ true) × IsStored bank t (elim_type f s)) → (permits (map (λ e. e.0) (x ∷ xs)) s ≡ true) × IsStored bank t (elim_type f s)
      by true g e k =
          let same : x.1 ≡ t = cc in
          (permits_step x.0 s (map (λ e. e.0) xs) ∙ ap (λ b. b || permits (map (λ e. e.0) xs) s) g, subst (λ z. IsStored bank z (elim_type f s)) same (subst (λ z. IsStored bank x.1 (elim_type f z)) (sort_is x.0 s g) h.0))
      by false g e k = let r = k e in (permits_step x.0 s (map (λ e. e.0) xs) ∙ ap (λ b. b || permits (map (λ e. e.0) xs) s) g ∙ r.0, r.1)

  pub into_none : (es : List (Universe × TermId)) → type_into es s ≡ None → permits (map (λ e. e.0) es) s ≡ false
  into_none [] e = permits_none s
  into_none (x ∷ xs) e = by (is_sort x.0 s) refl e (λ k. into_none xs k)
    where
      by : (b : Bool) → is_sort x.0 s ≡ b → (if b then Some x.1 else type_into xs s) ≡ None → (type_into xs s ≡ None → permits (map (λ e. e.0) xs) s ≡ false) → permits (map (λ e. e.0) (x ∷ xs)) s ≡ false
      by true g e k = absurd cc
      by false g e k = permits_step x.0 s (map (λ e. e.0) xs) ∙ ap (λ b. b || permits (map (λ e. e.0) xs) s) g ∙ k e

  -- of a family's eliminators
  pub permitted_is : (ss : List Universe) (es : List (Universe × TermId)) → IsSort s → AreEliminators bank f ss es → permits ss s ≡ permits (map (λ e. e.0) es) s
  permitted_is ss es h p = sym (ap (λ xs. permits xs s) p.into ∙ permits_both ss sorts s ∙ ap (λ b. b && permits ss s) (sorts_all s h))

-- the answer for what is found
abbrev pub eliminated : Option TermId → NameId → Universe → Result TermId EnvFault
eliminated None x s = Err (EnvFault.ElimForbidden x s)
eliminated (Some t) x s = Ok t

pub eliminates :
    (bank : Terms) (ds : List (NameId × Declared)) (x : NameId) (s : Universe) (o : Option TermId) → o ≡ eliminator_at ds x s → (f : TreeFamily) (ss : List Universe) → IsEnv bank ds → IsOwn bank x → IsSort s
    → lookup (env_of bank ds) (text_of bank x) ≡ Some (family f ss) → Eliminates bank (eliminated o x s) x f ss s
eliminates bank ds x s o found f ss p own h e = by (declared_of ds x) refl (sym (lookup_of bank x own (env_of bank ds) ds p.declared) ∙ e) found
  where
    answer : (t : Option TermId) (es : List (Universe × TermId)) → AreEliminators bank f ss es → type_into es s ≡ t → Eliminates bank (eliminated t x s) x f ss s
    answer None es a k = (permitted_is bank f s ss es h a ∙ into_none bank f s es k, refl)
    answer (Some t) es a k = let r = into_some bank f s es t a.types k in (permitted_is bank f s ss es h a ∙ r.0, r.1)

    by : (d : Option Declared) → declared_of ds x ≡ d → option_map (λ d. entry_of bank d.entry) d ≡ Some (family f ss) → o ≡ eliminator_in (made_kept d) s → Eliminates bank (eliminated o x s) x f ss s
    by None g k l = absurd cc
    by (Some d) g k l =
        let i = declared_is bank x (env_of bank ds) ds d p.declared g in
        let same : entry_of bank d.entry ≡ family f ss = cc in
        let m : IsMade bank f ss d.made = family_made bank (env_of bank ds) i.0 d i.1 f ss same in
        answer o m.kept.eliminators.items m.eliminators (sym (l ∙ ap (λ z. eliminator_in z s) m.is))
