-- What inference does at a leaf, by what an environment or a context tells of it.
use Rattle.std.proofs.Common.{◌≡◌, ◌∙◌, ◌<◌, ◌≤◌, ◌+◌, ℕ, zero, suc, refl, sym, ap, subst, arith, List, [], ◌∷◌, Option, Some, None, Result, Ok, Err, Bool, true, false, ltb, eqb, ◌⊎◌, inl, inr}
use Rattle.std.specs.Prelude.{option_map, slice_get}
use Rattle.std.specs.List.{AllByRecursion}
use Rattle.std.proofs.lemmas.Option.{slice_get-map}
use Rattle.lq_trees.specs.declared.Sort.{Sort as Universe}
use Rattle.lq_trees.specs.Tree.{Name, Tree, Context}
use Rattle.lq_trees.specs.Tree.Tree.{Var, Const, Ind, Ctor, Elim}
use Rattle.lq_trees.specs.Index.{Within}
use Rattle.lq_trees.specs.Ticks.{gives, fails, done, failed, ComesTo}
use Rattle.lq_trees.proofs.Outcomes.{comes_gives, comes_fails}
use Rattle.lq_terms.specs.declared.nodes.NameId.{NameId}
use Rattle.lq_terms.specs.declared.nodes.TermId.{TermId}
use Rattle.lq_terms.specs.declared.nodes.Hypothesis.{Hypothesis}
use Rattle.lq_terms.specs.Terms.{Terms, HasName, HasTerm, IsTerm, text_of, tree_of}
use Rattle.lq_terms.specs.Contexts.{hypothesis_of}
use Rattle.lq_calculus.specs.Contraction.{hypothesis}
use Rattle.lq_calculus.specs.Declarations.{Env as Environment, Family as TreeFamily, Entry as TreeEntry, lookup, family, family_type, constructor_type, constructor_kind, elim_type, permits, elim_forbidden}
use Rattle.lq_calculus.specs.Checking.{Kernel, unbound, no_sort_above, env_fault, fitting, sort_above, constant_kind, family_kind, ctor_kind, elim_kind}
use Rattle.lq_inference.specs.Inference.{Open, infer_by}
use Rattle.lq_env.specs.declared.family.Family.{Family}
use Rattle.lq_env.specs.declared.family.EnvFault.{EnvFault}
use Rattle.lq_env.specs.declared.environment.Entry.{Entry}
use Rattle.lq_env.specs.declared.environment.Declared.{Declared}
use Rattle.lq_env.specs.Families.{IsFamily, IsWritten, IsSort, StandsUnder, HasConstructor, family_of, constructor_of, constructors_of}
use Rattle.lq_env.specs.Environments.{IsEnv, IsOwn, Looks, Told, Eliminates, IsFamilyEntry, entry_at, env_of, kind_of, kind_in}
use Rattle.lq_env.proofs.Telling.{looks}
use Rattle.lq_kernel.specs.declared.faults.KernelFault.{KernelFault}
use Rattle.lq_kernel.specs.Answers.{Refuses}
use Rattle.lq_kernel.specs.Closed.{IsScoped, IsHypothesis}
use Rattle.lq_kernel.specs.Steps.{IsType, Types, Fitted, behind, inside_of}
use Rattle.lq_kernel.proofs.Goes.{goes_same, types_goes}
use Rattle.lq_kernel.proofs.FormLaws.{fitted_types}
use Rattle.lq_kernel.proofs.FamilyLaws.{within-family_type, within-elim_type, within-constructor_type}

-- a type within the limits for a tree that another is
pub fitted_same : (bank : Terms) (r : Result TermId KernelFault) (t u : Tree) → t ≡ u → Fitted bank r t → Fitted bank r u
fitted_same bank r t u e h = subst (Fitted bank r) e h

-- one of a family's constructors
stands_at : (bank : Terms) (names : List Name) (cs : List (NameId × TermId)) (k : ℕ) (p : NameId × TermId) → AllByRecursion (λ (c : Name × Tree). StandsUnder names c.1) (constructors_of bank cs) → slice_get cs k ≡ Some p → Within 0 (tree_of bank p.1)
stands_at bank names [] k p h e = absurd cc
stands_at bank names (c ∷ cs) zero p h e = let same : c ≡ p = cc in subst (λ (z : NameId × TermId). Within 0 (tree_of bank z.1)) same h.0.within
stands_at bank names (c ∷ cs) (suc k) p h e = stands_at bank names cs k p h.1 e

has_at : (bank : Terms) (cs : List (NameId × TermId)) (k : ℕ) (p : NameId × TermId) → AllByRecursion (HasConstructor bank) cs → slice_get cs k ≡ Some p → HasTerm bank p.1
has_at bank [] k p h e = absurd cc
has_at bank (c ∷ cs) zero p h e = let same : c ≡ p = cc in subst (λ (z : NameId × TermId). HasTerm bank z.1) same h.0.1
has_at bank (c ∷ cs) (suc k) p h e = has_at bank cs k p h.1 e

-- its whole type, if it is there
module _ (bank : Terms) (f : Family) where
  kind_by : Option (Name × Tree) → Option Tree
  kind_by None = None
  kind_by (Some c) = Some (constructor_type (family_of bank f) c.1)

  kind_by_is : (q : Option (Name × Tree)) → ◌≡◌ {A = Option Tree} (elim q [ None ↦ None | Some c ↦ Some (constructor_type (family_of bank f) c.1) ]) (kind_by q)
  unfolding kind_by
  kind_by_is None = refl
  kind_by_is (Some c) = refl

  kind_number : (k : ℕ) (o : Option (NameId × TermId)) → slice_get f.constructors k ≡ o → constructor_kind (family_of bank f) k ≡ kind_by (option_map (constructor_of bank) o)
  unfolding constructor_kind
  kind_number k o e = kind_by_is (slice_get (constructors_of bank f.constructors) k) ∙ ap kind_by (slice_get-map (constructor_of bank) f.constructors k ∙ ap (option_map (constructor_of bank)) e)

  pub kind_none : (k : ℕ) → slice_get f.constructors k ≡ None → constructor_kind (family_of bank f) k ≡ None
  unfolding kind_by
  kind_none k e = kind_number k None e

  pub kind_some : (k : ℕ) (p : NameId × TermId) → slice_get f.constructors k ≡ Some p → constructor_kind (family_of bank f) k ≡ Some (constructor_type (family_of bank f) (tree_of bank p.1))
  unfolding kind_by
  kind_some k p e = kind_number k (Some p) e

module _ (o : Open) (E : Environment) (G : Context) (x : Name) (b : ℕ) where
  -- a hypothesis
  pub var_known : (bank : Terms) (h : Hypothesis) (r : Result TermId KernelFault) → Some (hypothesis_of bank h) ≡ hypothesis G x → IsHypothesis bank h → Fitted bank r (tree_of bank h.kind) → Types bank r (inside_of o E G (Var x)) b b
  unfolding inside_of behind infer_by
  var_known bank h r e p fits =
      types_goes bank r (inside_of o E G (Var x)) b (λ n. fitting (tree_of bank h.kind)) b b
      (goes_same (inside_of o E G (Var x)) (λ n. fitting (tree_of bank h.kind)) b (λ n. ap (λ o. elim o [ Some k ↦ fitting k.kind | None ↦ fails (unbound x) ]) (sym e)))
      (fitted_types bank r (tree_of bank h.kind) b p.kind.within fits)

  pub var_strange : None ≡ hypothesis G x → ComesTo (inside_of o E G (Var x)) b (failed (unbound x) b)
  unfolding inside_of behind infer_by
  var_strange e = comes_fails (inside_of o E G (Var x)) (unbound x) b (λ n. ap (λ o. elim o [ Some k ↦ fitting k.kind | None ↦ fails (unbound x) ]) (sym e))

  -- a constant
  pub const_none : lookup E x ≡ None → ComesTo (inside_of o E G (Const x)) b (failed (unbound x) b)
  unfolding inside_of behind infer_by constant_kind
  const_none e = comes_fails (inside_of o E G (Const x)) (unbound x) b (λ n. ap (constant_kind x) e)

  pub const_other : (bank : Terms) (entry : Entry) → Looks bank (Some entry) (lookup E x) → ((kind body : TermId) (opaque : Bool) → ¬ (entry ≡ Entry.Constant kind body opaque)) → ComesTo (inside_of o E G (Const x)) b (failed (unbound x) b)
  unfolding inside_of behind infer_by constant_kind
  const_other bank (Entry.Constant kind body opaque) h l = absurd (l kind body opaque refl)
  const_other bank (Entry.Family f ss) h l = comes_fails (inside_of o E G (Const x)) (unbound x) b (λ n. ap (constant_kind x) h.1)
  const_other bank (Entry.Arity kind) h l = comes_fails (inside_of o E G (Const x)) (unbound x) b (λ n. ap (constant_kind x) h.1)
  const_other bank (Entry.Constructor f k) h l = comes_fails (inside_of o E G (Const x)) (unbound x) b (λ n. ap (constant_kind x) h.1)
  const_other bank (Entry.Eliminator f s) h l = comes_fails (inside_of o E G (Const x)) (unbound x) b (λ n. ap (constant_kind x) h.1)

  const_is : (bank : Terms) (kind body : TermId) (opaque : Bool) (r : Result TermId KernelFault) → Looks bank (Some (Entry.Constant kind body opaque)) (lookup E x) → Fitted bank r (tree_of bank kind) → Types bank r (inside_of o E G (Const x)) b b
  unfolding inside_of behind infer_by constant_kind
  const_is bank kind body opaque r h fits =
      types_goes bank r (inside_of o E G (Const x)) b (λ n. fitting (tree_of bank kind)) b b
      (goes_same (inside_of o E G (Const x)) (λ n. fitting (tree_of bank kind)) b (λ n. ap (constant_kind x) h.1))
      (fitted_types bank r (tree_of bank kind) b h.0.0.within fits)

  pub const_found : (bank : Terms) (entry : Entry) (kind body : TermId) (opaque : Bool) (r : Result TermId KernelFault) → entry ≡ Entry.Constant kind body opaque → Looks bank (Some entry) (lookup E x) → Fitted bank r (tree_of bank kind)
      → Types bank r (inside_of o E G (Const x)) b b
  const_found bank entry kind body opaque r e h fits = const_is bank kind body opaque r (subst (λ z. Looks bank (Some z) (lookup E x)) e h) fits

  -- a family
  pub ind_none : lookup E x ≡ None → ComesTo (inside_of o E G (Ind x)) b (failed (unbound x) b)
  unfolding inside_of behind infer_by family_kind
  ind_none e = comes_fails (inside_of o E G (Ind x)) (unbound x) b (λ n. ap (family_kind x) e)

  -- what is kept of a name whose type is known
  abbrev pub Kept : Terms → Result TermId KernelFault → Type 0
  Kept bank r = (tree : Tree) (c : ℕ) → kind_of E x ≡ Some tree → Within 0 tree → Types bank r (λ n. fitting tree) c c

  ind_by : (bank : Terms) (r : Result TermId KernelFault) (tree : Tree) → kind_of E x ≡ Some tree → ((n : ℕ) → inside_of o E G (Ind x) n ≡ fitting tree) → Within 0 tree → Kept bank r → Types bank r (inside_of o E G (Ind x)) b b
  ind_by bank r tree e f w h = types_goes bank r (inside_of o E G (Ind x)) b (λ n. fitting tree) b b (goes_same (inside_of o E G (Ind x)) (λ n. fitting tree) b f) (h tree b e w)

  pub ind_other : (bank : Terms) (entry : Entry) → Looks bank (Some entry) (lookup E x) → ((f : Family) (ss : List Universe) → ¬ (entry ≡ Entry.Family f ss)) → ((kind : TermId) → ¬ (entry ≡ Entry.Arity kind)) → ComesTo (inside_of o E G (Ind x)) b (failed (unbound x) b)
  unfolding inside_of behind infer_by family_kind
  ind_other bank (Entry.Constant kind body opaque) h l m = comes_fails (inside_of o E G (Ind x)) (unbound x) b (λ n. ap (family_kind x) h.1)
  ind_other bank (Entry.Family f ss) h l m = absurd (l f ss refl)
  ind_other bank (Entry.Arity kind) h l m = absurd (m kind refl)
  ind_other bank (Entry.Constructor f k) h l m = comes_fails (inside_of o E G (Ind x)) (unbound x) b (λ n. ap (family_kind x) h.1)
  ind_other bank (Entry.Eliminator f s) h l m = comes_fails (inside_of o E G (Ind x)) (unbound x) b (λ n. ap (family_kind x) h.1)

  ind_family : (bank : Terms) (f : Family) (ss : List Universe) (r : Result TermId KernelFault) → Looks bank (Some (Entry.Family f ss)) (lookup E x) → Kept bank r → Types bank r (inside_of o E G (Ind x)) b b
  unfolding inside_of behind infer_by family_kind
  ind_family bank f ss r h kept = ind_by bank r (family_type (family_of bank f)) (ap (kind_in E) h.1) (λ n. ap (family_kind x) h.1) (within-family_type (family_of bank f) h.0.0.written) kept

  ind_arity : (bank : Terms) (kind : TermId) (r : Result TermId KernelFault) → Looks bank (Some (Entry.Arity kind)) (lookup E x) → Kept bank r → Types bank r (inside_of o E G (Ind x)) b b
  unfolding inside_of behind infer_by family_kind
  ind_arity bank kind r h kept = ind_by bank r (tree_of bank kind) (ap (kind_in E) h.1) (λ n. ap (family_kind x) h.1) h.0.within kept

  pub ind_found : (bank : Terms) (entry : Entry) (f : Family) (ss : List Universe) (r : Result TermId KernelFault) → entry ≡ Entry.Family f ss → Looks bank (Some entry) (lookup E x) → Kept bank r → Types bank r (inside_of o E G (Ind x)) b b
  ind_found bank entry f ss r e h kept = ind_family bank f ss r (subst (λ z. Looks bank (Some z) (lookup E x)) e h) kept

  pub ind_open : (bank : Terms) (entry : Entry) (kind : TermId) (r : Result TermId KernelFault) → entry ≡ Entry.Arity kind → Looks bank (Some entry) (lookup E x) → Kept bank r → Types bank r (inside_of o E G (Ind x)) b b
  ind_open bank entry kind r e h kept = ind_arity bank kind r (subst (λ z. Looks bank (Some z) (lookup E x)) e h) kept

  pub ind_kept : (bank : Terms) (entry : Entry) (r : Result TermId KernelFault) → ((f : Family) × (ss : List Universe) × (entry ≡ Entry.Family f ss)) ⊎ ((kind : TermId) × (entry ≡ Entry.Arity kind)) → Looks bank (Some entry) (lookup E x) → Kept bank r
      → Types bank r (inside_of o E G (Ind x)) b b
  ind_kept bank entry r (inl p) h kept = ind_found bank entry p.0 p.1 r p.2 h kept
  ind_kept bank entry r (inr p) h kept = ind_open bank entry p.0 r p.1 h kept

  -- an eliminator
  pub elim_none : (s : Universe) → lookup E x ≡ None → ComesTo (inside_of o E G (Elim x s)) b (failed (unbound x) b)
  unfolding inside_of behind infer_by elim_kind
  elim_none s e = comes_fails (inside_of o E G (Elim x s)) (unbound x) b (λ n. ap (elim_kind x s) e)

  pub elim_other : (s : Universe) (bank : Terms) (entry : Entry) → Looks bank (Some entry) (lookup E x) → ((f : Family) (ss : List Universe) → ¬ (entry ≡ Entry.Family f ss)) → ComesTo (inside_of o E G (Elim x s)) b (failed (unbound x) b)
  unfolding inside_of behind infer_by elim_kind
  elim_other s bank (Entry.Constant kind body opaque) h l = comes_fails (inside_of o E G (Elim x s)) (unbound x) b (λ n. ap (elim_kind x s) h.1)
  elim_other s bank (Entry.Family f ss) h l = absurd (l f ss refl)
  elim_other s bank (Entry.Arity kind) h l = comes_fails (inside_of o E G (Elim x s)) (unbound x) b (λ n. ap (elim_kind x s) h.1)
  elim_other s bank (Entry.Constructor f k) h l = comes_fails (inside_of o E G (Elim x s)) (unbound x) b (λ n. ap (elim_kind x s) h.1)
  elim_other s bank (Entry.Eliminator f t) h l = comes_fails (inside_of o E G (Elim x s)) (unbound x) b (λ n. ap (elim_kind x s) h.1)

  pub elim_inside : (s : Universe) (bank : Terms) (r : Result TermId KernelFault) → Types bank r (λ n. elim_kind x s (lookup E x)) b b → Types bank r (inside_of o E G (Elim x s)) b b
  unfolding inside_of behind infer_by
  elim_inside s bank r h = h

  -- a constructor
  pub ctor_none : (k : ℕ) → lookup E x ≡ None → ComesTo (inside_of o E G (Ctor x k)) b (failed (unbound x) b)
  unfolding inside_of behind infer_by ctor_kind
  ctor_none k e = comes_fails (inside_of o E G (Ctor x k)) (unbound x) b (λ n. ap (ctor_kind x k) e)

  pub ctor_other : (k : ℕ) (bank : Terms) (entry : Entry) → Looks bank (Some entry) (lookup E x) → ((f : Family) (ss : List Universe) → ¬ (entry ≡ Entry.Family f ss)) → ComesTo (inside_of o E G (Ctor x k)) b (failed (unbound x) b)
  unfolding inside_of behind infer_by ctor_kind
  ctor_other k bank (Entry.Constant kind body opaque) h l = comes_fails (inside_of o E G (Ctor x k)) (unbound x) b (λ n. ap (ctor_kind x k) h.1)
  ctor_other k bank (Entry.Family f ss) h l = absurd (l f ss refl)
  ctor_other k bank (Entry.Arity kind) h l = comes_fails (inside_of o E G (Ctor x k)) (unbound x) b (λ n. ap (ctor_kind x k) h.1)
  ctor_other k bank (Entry.Constructor f j) h l = comes_fails (inside_of o E G (Ctor x k)) (unbound x) b (λ n. ap (ctor_kind x k) h.1)
  ctor_other k bank (Entry.Eliminator f t) h l = comes_fails (inside_of o E G (Ctor x k)) (unbound x) b (λ n. ap (ctor_kind x k) h.1)

  module _ (k : ℕ) (bank : Terms) (f : Family) (ss : List Universe) where
    ctor_is : (p : Option Tree) → constructor_kind (family_of bank f) k ≡ p → Looks bank (Some (Entry.Family f ss)) (lookup E x) → (n : ℕ) → inside_of o E G (Ctor x k) n ≡ elim p [ Some A ↦ fitting A | None ↦ fails (unbound x) ]
    unfolding inside_of behind infer_by ctor_kind
    ctor_is p e h n = ap (ctor_kind x k) h.1 ∙ ap (λ (q : Option Tree). elim q as (λ z. Kernel Tree) [ Some A ↦ fitting A | None ↦ fails (unbound x) ]) e

    pub ctor_missing : (entry : Entry) → entry ≡ Entry.Family f ss → slice_get f.constructors k ≡ None → Looks bank (Some entry) (lookup E x) → ComesTo (inside_of o E G (Ctor x k)) b (failed (unbound x) b)
    ctor_missing entry i e h =
        comes_fails (inside_of o E G (Ctor x k)) (unbound x) b (λ n. ctor_is None (kind_none bank f k e) (subst (λ z. Looks bank (Some z) (lookup E x)) i h) n)

    ctor_member : (new : Terms) (p : NameId × TermId) (r : Result TermId KernelFault) → slice_get f.constructors k ≡ Some p → Looks bank (Some (Entry.Family f ss)) (lookup E x)
        → Fitted new r (constructor_type (family_of bank f) (tree_of bank p.1)) → Types new r (inside_of o E G (Ctor x k)) b b
    ctor_member new p r e h fits =
        types_goes new r (inside_of o E G (Ctor x k)) b (λ n. fitting (constructor_type (family_of bank f) (tree_of bank p.1))) b b
        (goes_same (inside_of o E G (Ctor x k)) (λ n. fitting (constructor_type (family_of bank f) (tree_of bank p.1))) b (λ n. ctor_is (Some (constructor_type (family_of bank f) (tree_of bank p.1))) (kind_some bank f k p e) h n))
        (fitted_types new r (constructor_type (family_of bank f) (tree_of bank p.1)) b (within-constructor_type (family_of bank f) h.0.0.written (tree_of bank p.1) (stands_at bank _ f.constructors k p h.0.0.written.constructors e)) fits)

    pub ctor_found : (new : Terms) (entry : Entry) (p : NameId × TermId) (r : Result TermId KernelFault) → entry ≡ Entry.Family f ss → slice_get f.constructors k ≡ Some p → Looks bank (Some entry) (lookup E x)
        → Fitted new r (constructor_type (family_of bank f) (tree_of bank p.1)) → Types new r (inside_of o E G (Ctor x k)) b b
    ctor_found new entry p r i e h fits = ctor_member new p r e (subst (λ z. Looks bank (Some z) (lookup E x)) i h) fits

    pub ctor_has : (entry : Entry) (p : NameId × TermId) → entry ≡ Entry.Family f ss → slice_get f.constructors k ≡ Some p → Looks bank (Some entry) (lookup E x) → IsFamily bank f × IsScoped bank 0 p.1
    ctor_has entry p i e h =
        let l : Looks bank (Some (Entry.Family f ss)) (lookup E x) = subst (λ z. Looks bank (Some z) (lookup E x)) i h in
        (l.0.0, record { has = has_at bank f.constructors k p l.0.0.has.constructors e; within = stands_at bank _ f.constructors k p l.0.0.written.constructors e })

-- a family that is declared
pub record FamilyThere (e : Option TreeEntry) : Type 0 where
  pub owner : TreeFamily
  pub into : List Universe
  pub is : e ≡ Some (family owner into)
  pub written : IsWritten owner
  pub sorts : AllByRecursion IsSort into

there_by : (bank : Terms) (o : Option Entry) (e : Option TreeEntry) → IsFamilyEntry o → Looks bank o e → FamilyThere e
there_by bank (Some (Entry.Family f ss)) e i h = record { owner = family_of bank f; into = ss; is = h.1; written = h.0.0.written; sorts = h.0.1 }
there_by bank (Some (Entry.Constant kind body opaque)) e i h = absurd i
there_by bank (Some (Entry.Arity kind)) e i h = absurd i
there_by bank (Some (Entry.Constructor f k)) e i h = absurd i
there_by bank (Some (Entry.Eliminator f s)) e i h = absurd i
there_by bank None e i h = absurd i

pub family_there : (bank : Terms) (ds : List (NameId × Declared)) (x : NameId) → IsEnv bank ds → IsOwn bank x → IsFamilyEntry (entry_at ds x) → FamilyThere (lookup (env_of bank ds) (text_of bank x))
family_there bank ds x h own i = there_by bank (entry_at ds x) (lookup (env_of bank ds) (text_of bank x)) i (looks bank ds x h own)

-- an entry that is a family
pub is_family : (o : Option Entry) (entry : Entry) (f : Family) (ss : List Universe) → Some entry ≡ o → entry ≡ Entry.Family f ss → IsFamilyEntry o
is_family o entry f ss e k = subst IsFamilyEntry (ap (λ z. Some z) (sym k) ∙ e) tt

-- the type of an eliminator into a sort
module _ (bank : Terms) (x : NameId) (s : Universe) (e : Option TreeEntry) (there : FamilyThere e) (b : ℕ) where
  pub elim_permitted : (t : TermId) (r : Result TermId KernelFault) → Eliminates bank (Ok t) x there.owner there.into s → Fitted bank r (tree_of bank t) → Types bank r (λ n. elim_kind (text_of bank x) s e) b b
  unfolding elim_kind
  elim_permitted t r h fits =
      types_goes bank r (λ n. elim_kind (text_of bank x) s e) b (λ n. fitting (elim_type there.owner s)) b b
      (goes_same (λ n. elim_kind (text_of bank x) s e) (λ n. fitting (elim_type there.owner s)) b
      (λ n. ap (elim_kind (text_of bank x) s) there.is ∙ ap (λ p. elim p [ true ↦ fitting (elim_type there.owner s) | false ↦ fails (env_fault (elim_forbidden (text_of bank x) s)) ]) h.0))
      (fitted_types bank r (elim_type there.owner s) b (within-elim_type there.owner there.written s) (fitted_same bank r (tree_of bank t) (elim_type there.owner s) h.1.term.is fits))

  pub elim_refused : HasName bank x → permits there.into s ≡ false → Refuses bank (KernelFault.Env (EnvFault.ElimForbidden x s)) (λ n. elim_kind (text_of bank x) s e) b b
  unfolding elim_kind
  elim_refused has h = record {
    refusal = elim_forbidden (text_of bank x) s;
    tells = (has, refl);
    comes =
        comes_fails (λ n. elim_kind (text_of bank x) s e) (env_fault (elim_forbidden (text_of bank x) s)) b
        (λ n. ap (elim_kind (text_of bank x) s) there.is ∙ ap (λ p. elim p [ true ↦ fitting (elim_type there.owner s) | false ↦ fails (env_fault (elim_forbidden (text_of bank x) s)) ]) h);
  }

  pub elim_out : (k : EnvFault) → HasName bank x → Eliminates bank (Err k) x there.owner there.into s → Refuses bank (KernelFault.Env k) (λ n. elim_kind (text_of bank x) s e) b b
  elim_out k has h = subst (λ z. Refuses bank (KernelFault.Env z) (λ n. elim_kind (text_of bank x) s e) b b) (sym h.1) (elim_refused has h.0)

-- no family permits a level above the last
pub permits_high : (ss : List Universe) (i : ℕ) → AllByRecursion IsSort ss → 3 < i → permits ss (Universe.Level i) ≡ false
unfolding permits
permits_high [] i h l = refl
permits_high (Universe.Base ∷ ss) i h l = permits_high ss i h.1 l
permits_high (Universe.Level j ∷ ss) i h l = let test : eqb j i ≡ false = grind (arith, h.0) in rw (test, permits_high ss i h.1 l) refl

pub elim_high : (bank : Terms) (x : NameId) (s : Universe) (i : ℕ) (e : Option TreeEntry) (there : FamilyThere e) (b : ℕ) → HasName bank x → s ≡ Universe.Level i → 3 < i → Refuses bank (KernelFault.Env (EnvFault.ElimForbidden x (Universe.Level i))) (λ n. elim_kind (text_of bank x) s e) b b
elim_high bank x s i e there b has k l =
    subst (λ z. Refuses bank (KernelFault.Env (EnvFault.ElimForbidden x z)) (λ n. elim_kind (text_of bank x) s e) b b) k (elim_refused bank x s e there b has (ap (permits there.into) k ∙ permits_high there.into i there.sorts l))

-- what is kept of a name
pub kept_types : (bank : Terms) (o : Option Tree) (t : TermId) (r : Result TermId KernelFault) (tree : Tree) (b : ℕ) → Told bank (Some t) o → Fitted bank r (tree_of bank t) → o ≡ Some tree → Within 0 tree → Types bank r (λ n. fitting tree) b b
kept_types bank o t r tree b h fits e w =
    let same : Some (tree_of bank t) ≡ Some tree = sym h.1 ∙ e in
    let is : tree_of bank t ≡ tree = cc in
    fitted_types bank r tree b w (fitted_same bank r (tree_of bank t) tree is fits)

-- sorts
above_base : (s : Universe) (l : ℕ) → s ≡ Universe.Base → l ≡ 0 → sort_above s ≡ gives (Tree.Sort (Universe.Level l))
unfolding sort_above
above_base s l e f = ap sort_above e ∙ ap (λ k. gives (Tree.Sort (Universe.Level k))) (sym f)

above_level : (s : Universe) (i l : ℕ) → s ≡ Universe.Level i → i < 3 → l ≡ i + 1 → sort_above s ≡ gives (Tree.Sort (Universe.Level l))
unfolding sort_above
above_level s i l e h f =
    let test : ltb i 3 ≡ true = grind arith in
    let next : suc i ≡ l = omega arith in
    ap sort_above e ∙ rw (test, sort_above) (ap (λ k. gives (Tree.Sort (Universe.Level k))) next)

none_above : (s : Universe) (i : ℕ) → s ≡ Universe.Level i → 3 ≤ i → sort_above s ≡ fails no_sort_above
unfolding sort_above
none_above s i e h =
    let test : ltb i 3 ≡ false = grind arith in
    ap sort_above e ∙ rw (test, sort_above)

-- the sort above, by its level
abbrev pub IsAbove : Universe → ℕ → Type 0
IsAbove s l = sort_above s ≡ gives (Tree.Sort (Universe.Level l))

pub is_above_base : (s : Universe) (l : ℕ) → s ≡ Universe.Base → l ≡ 0 → IsAbove s l
is_above_base s l e f = above_base s l e f

pub is_above_level : (s : Universe) (i l : ℕ) → s ≡ Universe.Level i → i < 3 → l ≡ i + 1 → IsAbove s l
is_above_level s i l e h f = above_level s i l e h f

module _ (o : Open) (E : Environment) (G : Context) (s : Universe) (b : ℕ) where
  pub sort_typed : (new : Terms) (t : TermId) (l : ℕ) → IsTerm new t (Tree.Sort (Universe.Level l)) → IsAbove s l → Types new (Ok t) (inside_of o E G (Tree.Sort s)) b b
  unfolding inside_of behind infer_by
  sort_typed new t l made e =
      subst (λ z. IsType new t z × ComesTo (inside_of o E G (Tree.Sort s)) b (done z b)) (sym made.is)
      (record { term = made; within = tt; fits = refl }, comes_gives (inside_of o E G (Tree.Sort s)) (Tree.Sort (Universe.Level l)) b (λ n. e))

  pub sort_untyped : (i : ℕ) → s ≡ Universe.Level i → 3 ≤ i → ComesTo (inside_of o E G (Tree.Sort s)) b (failed no_sort_above b)
  unfolding inside_of behind infer_by
  sort_untyped i e h = comes_fails (inside_of o E G (Tree.Sort s)) no_sort_above b (λ n. none_above s i e h)
