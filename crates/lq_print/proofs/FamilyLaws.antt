-- The printed names of constructors.
use Rattle.std.proofs.Common.{◌≡◌, ℕ, zero, suc, ◌<◌, ◌≤◌, List, [], ◌∷◌, length, get_or, Option, Some, None, refl, ap, subst, arith}
use Rattle.lq_trees.specs.declared.Sort.{Sort as Universe}
use Rattle.lq_calculus.specs.Declarations.{Entry as TreeEntry}
use Rattle.lq_terms.specs.Terms.{Terms, text_of}
use Rattle.lq_terms.specs.declared.nodes.NameId.{NameId}
use Rattle.lq_terms.specs.declared.nodes.TermId.{TermId}
use Rattle.lq_env.specs.declared.environment.Entry.{Entry}
use Rattle.lq_env.specs.declared.family.Family.{Family}
use Rattle.lq_env.specs.Environments.{Looks}
use Rattle.lq_env.specs.Families.{constructors_of}
use Rattle.lq_texts.specs.Printing.{nth_name, constructor_in}
use Rattle.lq_print.specs.Works.{IsFamilyAt}

module _ (bank : Terms) (t : Option TreeEntry) where
  pub looks_none : Looks bank None t → IsFamilyAt bank None t
  unfolding constructor_in
  looks_none l k = ap (λ u. constructor_in u k) l

  pub looks_family : (f : Family) (ss : _) → Looks bank (Some (Entry.Family f ss)) t → IsFamilyAt bank (Some f) t
  unfolding constructor_in
  looks_family f ss l = (l.0.0.has.constructors, λ k. ap (λ u. constructor_in u k) l.1)

  pub looks_constant : (A v : TermId) (o : _) → Looks bank (Some (Entry.Constant A v o)) t → IsFamilyAt bank None t
  unfolding constructor_in
  looks_constant A v o l k = ap (λ u. constructor_in u k) l.1

  pub looks_arity : (A : TermId) → Looks bank (Some (Entry.Arity A)) t → IsFamilyAt bank None t
  unfolding constructor_in
  looks_arity A l k = ap (λ u. constructor_in u k) l.1

  pub looks_constructor : (f : NameId) (n : ℕ) → Looks bank (Some (Entry.Constructor f n)) t → IsFamilyAt bank None t
  unfolding constructor_in
  looks_constructor f n l k = ap (λ u. constructor_in u k) l.1

  pub looks_eliminator : (f : NameId) (s : Universe) → Looks bank (Some (Entry.Eliminator f s)) t → IsFamilyAt bank None t
  unfolding constructor_in
  looks_eliminator f s l k = ap (λ u. constructor_in u k) l.1

module _ (bank : Terms) (t : Option TreeEntry) where
  pub family_as : (f : Family) (ss : _) (e : Entry) → e ≡ Entry.Family f ss → Looks bank (Some e) t → IsFamilyAt bank (Some f) t
  family_as f ss e is l = looks_family bank t f ss (subst (λ z. Looks bank (Some z) t) is l)

  pub constant_as : (A v : TermId) (o : _) (e : Entry) → e ≡ Entry.Constant A v o → Looks bank (Some e) t → IsFamilyAt bank None t
  constant_as A v o e is l = looks_constant bank t A v o (subst (λ z. Looks bank (Some z) t) is l)

  pub arity_as : (A : TermId) (e : Entry) → e ≡ Entry.Arity A → Looks bank (Some e) t → IsFamilyAt bank None t
  arity_as A e is l = looks_arity bank t A (subst (λ z. Looks bank (Some z) t) is l)

  pub constructor_as : (f : NameId) (n : ℕ) (e : Entry) → e ≡ Entry.Constructor f n → Looks bank (Some e) t → IsFamilyAt bank None t
  constructor_as f n e is l = looks_constructor bank t f n (subst (λ z. Looks bank (Some z) t) is l)

  pub eliminator_as : (f : NameId) (s : Universe) (e : Entry) → e ≡ Entry.Eliminator f s → Looks bank (Some e) t → IsFamilyAt bank None t
  eliminator_as f s e is l = looks_eliminator bank t f s (subst (λ z. Looks bank (Some z) t) is l)

-- the name of a constructor by its number, and none
pub nth_is : (bank : Terms) (cs : List (NameId × TermId)) (k : ℕ) (d : NameId × TermId) → k < length cs → nth_name (constructors_of bank cs) k ≡ text_of bank (get_or cs k d).0
unfolding nth_name
nth_is bank [] k d l = absurd (omega arith)
nth_is bank (c ∷ cs) zero d l = refl
nth_is bank (c ∷ cs) (suc k) d l = nth_is bank cs k d (omega arith)

pub nth_none : (bank : Terms) (cs : List (NameId × TermId)) (k : ℕ) → length cs ≤ k → nth_name (constructors_of bank cs) k ≡ []
unfolding nth_name
nth_none bank [] k l = refl
nth_none bank (c ∷ cs) zero l = absurd (omega arith)
nth_none bank (c ∷ cs) (suc k) l = nth_none bank cs k (omega arith)
