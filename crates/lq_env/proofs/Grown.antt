-- An environment means the same in a bank that has grown, and when more is declared.
use Rattle.std.proofs.Common.{◌≡◌, ◌∙◌, ℕ, suc, refl, sym, ap, ap₂, subst, arith, Bool, true, false, List, [], ◌∷◌, Option, Some, None, map}
use Rattle.std.specs.List.{AllByRecursion}
use Rattle.lq_trees.specs.Tree.{Name, Tree}
use Rattle.lq_trees.specs.declared.Sort.{Sort as Universe}
use Rattle.lq_trees.specs.Index.{Within}
use Rattle.lq_trees.specs.Hypotheses.{HoldsOnly}
use Rattle.lq_terms.specs.declared.nodes.NameId.{NameId}
use Rattle.lq_terms.specs.declared.nodes.TermId.{TermId}
use Rattle.lq_terms.specs.Terms.{Terms, HasName, Grows, text_of, tree_of}
use Rattle.lq_terms.specs.Telling.{IsClosed, HasTargets, arguments_by}
use Rattle.lq_terms.proofs.Growth.{IsTerm-grown}
use Rattle.lq_calculus.specs.Declarations.{Family as TreeFamily, Env as Environment, Entry as TreeEntry, constant, family, arity, constructor, eliminator, lookup, elim_type}
use Rattle.lq_env.specs.declared.family.Family.{Family}
use Rattle.lq_env.specs.declared.environment.Entry.{Entry}
use Rattle.lq_env.specs.declared.environment.Declared.{Declared}
use Rattle.lq_env.specs.declared.made.Made.{Made}
use Rattle.lq_env.specs.Families.{family_of, IsFamily}
use Rattle.lq_env.specs.Making.{Computing}
use Rattle.lq_env.specs.Environments.{entry_of, env_of, IsEntry, IsStored, IsTyped, IsMember, KeepsKind, IsRule, AreRules, IsMade, KeepsMade, IsDeclared, AreDeclared, AreNew, IsEnv}
use Rattle.lq_env.proofs.Families.{family_of-grown, IsFamily-grown}

module _ (old new : Terms) (g : Grows old new) where
  pub IsClosed-grown : (n : ℕ) (t : TermId) → IsClosed old n t → IsClosed new n t
  IsClosed-grown n t h = record {
    has = omega (arith, h.has, g.nodes);
    within = subst (Within n) (sym (g.tree t h.has)) h.within;
    holds = subst (HoldsOnly []) (sym (g.tree t h.has)) h.holds;
  }

  pub AreClosed-grown : (n : ℕ) (ts : List TermId) → AllByRecursion (IsClosed old n) ts → AllByRecursion (IsClosed new n) ts
  AreClosed-grown n [] h = tt
  AreClosed-grown n (t ∷ ts) h = (IsClosed-grown n t h.0, AreClosed-grown n ts h.1)

  pub IsEntry-grown : (e : Entry) → IsEntry old e → IsEntry new e
  IsEntry-grown (Entry.Constant kind body opaque) h = (IsClosed-grown 0 kind h.0, IsClosed-grown 0 body h.1)
  IsEntry-grown (Entry.Family f ss) h = (IsFamily-grown old new g f h.0, h.1)
  IsEntry-grown (Entry.Arity kind) h = IsClosed-grown 0 kind h
  IsEntry-grown (Entry.Constructor f k) h = omega (arith, h, g.names)
  IsEntry-grown (Entry.Eliminator f s) h = (omega (arith, h.0, g.names), h.1)

  pub entry_of-grown : (e : Entry) → IsEntry old e → entry_of new e ≡ entry_of old e
  entry_of-grown (Entry.Constant kind body opaque) h = ap₂ (λ A t. constant A t opaque) (g.tree kind h.0.has) (g.tree body h.1.has)
  entry_of-grown (Entry.Family f ss) h = ap (λ F. family F ss) (family_of-grown old new g f h.0.has)
  entry_of-grown (Entry.Arity kind) h = ap arity (g.tree kind h.has)
  entry_of-grown (Entry.Constructor f k) h = ap (λ x. constructor x k) (g.text f h)
  entry_of-grown (Entry.Eliminator f s) h = ap (λ x. eliminator x s) (g.text f h.0)

  pub IsStored-grown : (t : TermId) (tree : Tree) → IsStored old t tree → IsStored new t tree
  IsStored-grown t tree h = record { term = IsTerm-grown old new t tree g h.term; fits = h.fits }

  pub IsTyped-grown : (f : Family) (kind : Option TermId) → IsFamily old f → IsTyped old (family_of old f) kind → IsTyped new (family_of new f) kind
  IsTyped-grown f kind p h =
      subst (λ F. IsTyped new F kind) (sym (family_of-grown old new g f p.has)) (record { term = h.term; kept = h.kept; stored = IsStored-grown h.term _ h.stored })

  pub IsMember-grown : (env : Environment) (c : NameId) (k : ℕ) (kind : Option TermId) → HasName old c → IsMember old env (text_of old c) k kind → IsMember new env (text_of new c) k kind
  IsMember-grown env c k kind p h =
      subst (λ x. IsMember new env x k kind) (sym (g.text c p)) (record { owner = h.owner; permitted = h.permitted; declared = h.declared; term = h.term; tree = h.tree; is = h.is; kept = h.kept; stored = IsStored-grown h.term h.tree h.stored })

  pub KeepsKind-grown : (env : Environment) (e : Entry) (kind : Option TermId) → IsEntry old e → KeepsKind old env e kind → KeepsKind new env e kind
  KeepsKind-grown env (Entry.Constant A t opaque) kind p h = h
  KeepsKind-grown env (Entry.Family f ss) kind p h = IsTyped-grown f kind p.0 h
  KeepsKind-grown env (Entry.Arity A) kind p h = h
  KeepsKind-grown env (Entry.Constructor f k) kind p h = IsMember-grown env f k kind p h
  KeepsKind-grown env (Entry.Eliminator f s) kind p h = h

  pub each_stored-grown : (f : TreeFamily) (es : List (Universe × TermId)) → AllByRecursion (λ e. IsStored old e.1 (elim_type f e.0)) es → AllByRecursion (λ e. IsStored new e.1 (elim_type f e.0)) es
  each_stored-grown f [] h = tt
  each_stored-grown f (e ∷ es) h = (IsStored-grown e.1 (elim_type f e.0) h.0, each_stored-grown f es h.1)

  pub trees-grown : (n : ℕ) (ts : List TermId) → AllByRecursion (IsClosed old n) ts → map (tree_of new) ts ≡ map (tree_of old) ts
  trees-grown n [] h = refl
  trees-grown n (t ∷ ts) h = ap₂ (λ x xs. x ∷ xs) (g.tree t h.0.has) (trees-grown n ts h.1)

  pub arguments-grown : (indices seen : ℕ) (ms : List Bool) (tss : List (List TermId)) → HasTargets old indices seen ms tss → arguments_by (tree_of new) ms tss ≡ arguments_by (tree_of old) ms tss
  arguments-grown indices seen [] tss h = refl
  arguments-grown indices seen (m ∷ ms) [] h = refl
  arguments-grown indices seen (true ∷ ms) (ts ∷ tss) h = ap₂ (λ x xs. Some x ∷ xs) (trees-grown seen ts h.0.1) (arguments-grown indices (suc seen) ms tss h.1)
  arguments-grown indices seen (false ∷ ms) (ts ∷ tss) h = ap (λ xs. None ∷ xs) (arguments-grown indices (suc seen) ms tss h.1)

  pub HasTargets-grown : (indices seen : ℕ) (ms : List Bool) (tss : List (List TermId)) → HasTargets old indices seen ms tss → HasTargets new indices seen ms tss
  HasTargets-grown indices seen [] [] h = tt
  HasTargets-grown indices seen [] (ts ∷ tss) h = h
  HasTargets-grown indices seen (m ∷ ms) [] h = h
  HasTargets-grown indices seen (true ∷ ms) (ts ∷ tss) h = ((h.0.0, AreClosed-grown seen ts h.0.1), HasTargets-grown indices (suc seen) ms tss h.1)
  HasTargets-grown indices seen (false ∷ ms) (ts ∷ tss) h = (h.0, HasTargets-grown indices (suc seen) ms tss h.1)

  pub IsRule-grown : (f : TreeFamily) (k parameters indices : ℕ) (a : List Bool × List (List TermId)) → IsRule old f k parameters indices a → IsRule new f k parameters indices a
  IsRule-grown f k parameters indices a h = record {
    tells = h.tells ∙ ap Some (sym (arguments-grown indices parameters a.0 a.1 h.has));
    has = HasTargets-grown indices parameters a.0 a.1 h.has;
  }

  pub AreRules-grown : (f : TreeFamily) (c : Computing) → AreRules old f c → AreRules new f c
  AreRules-grown f c h = record { parameters = h.parameters; indices = h.indices; constructors = h.constructors; rules = λ k a e. IsRule-grown f k c.parameters c.indices a (h.rules k a e) }

  pub IsMade-grown : (f : Family) (ss : List Universe) (made : Option Made) → IsFamily old f → IsMade old (family_of old f) ss made → IsMade new (family_of new f) ss made
  IsMade-grown f ss made p h =
      subst (λ F. IsMade new F ss made) (sym (family_of-grown old new g f p.has))
      (record {
        kept = h.kept;
        is = h.is;
        eliminators = record { into = h.eliminators.into; types = each_stored-grown _ h.kept.eliminators.items h.eliminators.types };
        rules = AreRules-grown _ h.kept.rules h.rules;
      })

  pub KeepsMade-grown : (e : Entry) (made : Option Made) → IsEntry old e → KeepsMade old e made → KeepsMade new e made
  KeepsMade-grown (Entry.Constant A t opaque) made p h = h
  KeepsMade-grown (Entry.Family f ss) made p h = IsMade-grown f ss made p.0 h
  KeepsMade-grown (Entry.Arity A) made p h = h
  KeepsMade-grown (Entry.Constructor f k) made p h = h
  KeepsMade-grown (Entry.Eliminator f s) made p h = h

  pub IsDeclared-grown : (env : Environment) (d : NameId × Declared) → IsDeclared old env d → IsDeclared new env d
  IsDeclared-grown env d h = record {
    name = omega (arith, h.name, g.names);
    entry = IsEntry-grown d.1.entry h.entry;
    kind = KeepsKind-grown env d.1.entry d.1.kind h.entry h.kind;
    made = KeepsMade-grown d.1.entry d.1.made h.entry h.made;
  }

  pub AreDeclared-grown : (env : Environment) (ds : List (NameId × Declared)) → AreDeclared old env ds → AreDeclared new env ds
  AreDeclared-grown env [] h = tt
  AreDeclared-grown env (d ∷ ds) h = (IsDeclared-grown env d h.0, AreDeclared-grown env ds h.1)

  pub declared_of-grown : (env : Environment) (ds : List (NameId × Declared)) → AreDeclared old env ds → env_of new ds ≡ env_of old ds
  declared_of-grown env [] h = refl
  declared_of-grown env (d ∷ ds) h =
      ap₂ (λ x xs. x ∷ xs) (ap₂ (λ x e. (x, e)) (g.text d.0 h.0.name) (entry_of-grown d.1.entry h.0.entry)) (declared_of-grown env ds h.1)

  pub env_of-grown : (ds : List (NameId × Declared)) → IsEnv old ds → env_of new ds ≡ env_of old ds
  env_of-grown ds h = declared_of-grown (env_of old ds) ds h.declared

  pub IsEnv-grown : (ds : List (NameId × Declared)) → IsEnv old ds → IsEnv new ds
  IsEnv-grown ds h = record {
    declared = subst (λ env. AreDeclared new env ds) (sym (env_of-grown ds h)) (AreDeclared-grown (env_of old ds) ds h.declared);
    distinct = subst (AreNew []) (sym (env_of-grown ds h)) h.distinct;
  }

-- an environment that tells the families of another
abbrev pub Keeps : Environment → Environment → Type 0
Keeps env more = (c : Name) (e : TreeEntry) → lookup env c ≡ Some e → lookup more c ≡ Some e

module _ (bank : Terms) (env more : Environment) (keeps : Keeps env more) where
  pub KeepsKind-more : (e : Entry) (kind : Option TermId) → KeepsKind bank env e kind → KeepsKind bank more e kind
  KeepsKind-more (Entry.Constant A t opaque) kind h = h
  KeepsKind-more (Entry.Family f ss) kind h = h
  KeepsKind-more (Entry.Arity A) kind h = h
  KeepsKind-more (Entry.Constructor f k) kind h =
      record { owner = h.owner; permitted = h.permitted; declared = keeps (text_of bank f) (family h.owner h.permitted) h.declared; term = h.term; tree = h.tree; is = h.is; kept = h.kept; stored = h.stored }
  KeepsKind-more (Entry.Eliminator f s) kind h = h

  pub AreDeclared-more : (ds : List (NameId × Declared)) → AreDeclared bank env ds → AreDeclared bank more ds
  AreDeclared-more [] h = tt
  AreDeclared-more (d ∷ ds) h =
      (record { name = h.0.name; entry = h.0.entry; kind = KeepsKind-more d.1.entry d.1.kind h.0.kind; made = h.0.made }, AreDeclared-more ds h.1)
