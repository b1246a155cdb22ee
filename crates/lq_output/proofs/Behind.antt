-- Behind opaque constants that a script doesn't name, each of its sentences does what it does without them.
use Rattle.std.proofs.Common.{◌≡◌, ◌∙◌, refl, ap, ap₂, ℕ, zero, suc, ◌||◌, true, false, List, [], ◌∷◌, ◌++◌, map, Option, Some, None, Result, Ok, Err, append_assoc}
use Rattle.std.specs.List.{AllByRecursion}
use Rattle.std.proofs.lemmas.Bool.{or_parts}
use Rattle.lq_trees.specs.declared.Sort.{Sort as Universe}
use Rattle.lq_trees.specs.Tree.{Name, Tree, same_name}
use Rattle.lq_trees.specs.Tree.Tree.{Rel, Var}
use Rattle.lq_trees.specs.Fresh.{is_listed}
use Rattle.lq_trees.specs.Ticks.{gives, fails, cut, tick, ◌>>=◌, within, under_budget}
use Rattle.lq_calculus.specs.Contraction.{hypothesis}
use Rattle.lq_calculus.specs.Declarations.{Env, Entry, EnvFault, name_taken, constant, lookup, first_taken, names_of}
use Rattle.lq_calculus.specs.Checking.{Kernel, known, sort_of, check, no_env_fault, declare_constant}
use Rattle.lq_output.specs.Grammar.{Surface, named, prop, forall_, to, Tactic, intro, exact, Sentence, theorem, proof, tactics, qed, read}
use Rattle.lq_output.specs.Steps.{binder_of, constant_in, global, meant, product_of, resolved, Proof, goal, finished, known_as, exactly, after_tactic, after_tactics}
use Rattle.lq_output.specs.Faults.{Fault, not_built}
use Rattle.lq_output.specs.Sentences.{Place, outside, stated, begun, worked, State, ended, comes_to, with_sort, with_tree, stating, proving, defined, declared, closing_proof, doing, sentence}
use Rattle.lq_output.specs.Names.{term_names, tactic_name, sentence_names, read_by}
use Rattle.lq_output.proofs.Unseen.{AllOpaque, IsNew, NamesOnly, lookup_behind, sort_behind, check_behind}
use Rattle.lq_output.proofs.StateNames.{all-left, all-right, IsMade, ProofNames, PlaceNames, StateNames, TreeNames, resolved_names}

-- a state behind declarations
abbrev pub state_behind : Env → State → State
state_behind before s = record { env = before ++ s.env; place = s.place }

-- what a sentence comes to, with its state behind declarations
abbrev pub result_behind : Env → Result (List ℕ × State) Fault → Result (List ℕ × State) Fault
result_behind before (Ok r) = Ok (r.0, state_behind before r.1)
result_behind before (Err f) = Err f

-- a new name is declared only where the others declare it
listed_behind : (before env : Env) (x : Name) → IsNew before x → is_listed (names_of (before ++ env)) x ≡ is_listed (names_of env) x
unfolding is_listed
listed_behind [] env x h = refl
listed_behind (e ∷ before) env x h =
    let both = or_parts (same_name e.0 x) (is_listed (names_of before) x) h in
    ap (λ t. t || is_listed (names_of (before ++ env)) x) both.0 ∙ listed_behind before env x both.1

module _ (before : Env) where
  -- what a name stands for outside, behind declarations of other names
  global_behind : (env : Env) (x : Name) → IsNew before x → global (before ++ env) x ≡ global env x
  unfolding global
  global_behind env x h = ap (λ o. constant_in o x) (lookup_behind before env x h)

  -- the tree of a statement
  resolved_behind : (env : Env) (bs : List Name) (A : Surface) → AllByRecursion (IsNew before) (term_names A) → resolved (before ++ env) bs A ≡ resolved env bs A
  unfolding resolved meant term_names
  resolved_behind env bs (named x) h =
      ap (λ (c : Option (Tree × Tree)). elim (binder_of bs x) as (λ _. Option Tree) [ Some i ↦ Some (Rel i) | None ↦ elim c as (λ _. Option Tree) [ Some d ↦ Some d.0 | None ↦ None ] ]) (global_behind env x h.0)
  resolved_behind env bs prop h = refl
  resolved_behind env bs (forall_ x A B) h =
      ap₂ (product_of x) (resolved_behind env bs A (all-left (IsNew before) (term_names A) (term_names B) h.1))
      (resolved_behind env (x ∷ bs) B (all-right (IsNew before) (term_names A) (term_names B) h.1))
  resolved_behind env bs (to A B) h =
      ap₂ (product_of []) (resolved_behind env bs A (all-left (IsNew before) (term_names A) (term_names B) h))
      (resolved_behind env ([] ∷ bs) B (all-right (IsNew before) (term_names A) (term_names B) h))

  -- a tactic
  tactic_behind : (env : Env) (p : Proof) (s : Tactic) → IsNew before (tactic_name s) → after_tactic (before ++ env) p s ≡ after_tactic env p s
  unfolding after_tactic known_as tactic_name
  tactic_behind env (finished t) s h = refl
  tactic_behind env (goal g T) (intro x) h = refl
  tactic_behind env (goal g T) (exact x) h =
      ap (λ (c : Option (Tree × Tree)). exactly g T (elim (hypothesis g x) as (λ _. Option (Tree × Tree)) [ Some j ↦ Some (Var x, j.kind) | None ↦ c ])) (global_behind env x h)

  -- tactics, one after the other
  tactics_behind : (env : Env) (p : Proof) (ss : List Tactic) → AllByRecursion (IsNew before) (map tactic_name ss) → after_tactics (before ++ env) p ss ≡ after_tactics env p ss
  unfolding after_tactics
  tactics_behind env p [] h = refl
  tactics_behind env p (s ∷ ss) h =
      ap (λ (r : Result Proof Fault). elim r as (λ _. Result Proof Fault) [ Ok q ↦ after_tactics (before ++ env) q ss | Err f ↦ Err f ]) (tactic_behind env p s h.0)
      ∙ either (after_tactic env p s) (λ q. tactics_behind env q ss h.1)
    where
      either :
          (r : Result Proof Fault) → ((q : Proof) → after_tactics (before ++ env) q ss ≡ after_tactics env q ss)
          → elim r as (λ _. Result Proof Fault) [ Ok q ↦ after_tactics (before ++ env) q ss | Err f ↦ Err f ] ≡ elim r as (λ _. Result Proof Fault) [ Ok q ↦ after_tactics env q ss | Err f ↦ Err f ]
      either (Ok q) k = k q
      either (Err f) k = refl

  -- whether a name is taken
  taken_behind : (env : Env) (x : Name) → IsNew before x → first_taken (names_of (before ++ env)) (x ∷ []) ≡ first_taken (names_of env) (x ∷ [])
  unfolding first_taken
  taken_behind env x h = ap (λ t. elim t as (λ _. Option EnvFault) [ true ↦ Some (name_taken x) | false ↦ None ]) (listed_behind before env x h)

  -- the state after tactics
  proving_behind : (env : Env) (x : Name) (A : Tree) (r : Result Proof Fault) → proving (before ++ env) x A r ≡ result_behind before (proving env x A r)
  unfolding proving
  proving_behind env x A (Ok p) = refl
  proving_behind env x A (Err f) = refl

  -- what is declared after the same work
  declared_behind : {A : Type 0} (x : Name) (b : ℕ) (r : Kernel A) (k l : A → Kernel Env) → ((a : A) (c : ℕ) → declared x (ended (within c (k a))) ≡ result_behind before (declared x (ended (within c (l a)))))
      → declared x (ended (within b (r >>= k))) ≡ result_behind before (declared x (ended (within b (r >>= l))))
  unfolding ◌>>=◌ within ended declared
  declared_behind x b (gives a) k l h = h a b
  declared_behind x b (fails f) k l h = refl
  declared_behind x b cut k l h = refl
  declared_behind x zero (tick r) k l h = refl
  declared_behind x (suc b) (tick r) k l h = declared_behind x b r k l h

-- declaring a constant, by the work that goes before it
unfoldable declaring : Option EnvFault → Kernel (Unit {0}) → Kernel Universe → Kernel (Unit {0}) → Env → Kernel Env
declaring o k s c new = no_env_fault o >>= λ fine. k >>= λ ok. s >>= λ sort. c >>= λ checked. gives new

module _ (before : Env) (front : AllOpaque before) (env : Env) (own : AllOpaque env) where
  -- `Qed`
  closing_behind :
      (n : ℕ) (x : Name) (A : Tree) (p : Proof) → IsNew before x → NamesOnly (IsNew before) A → ProofNames (IsNew before) p
      → closing_proof n (before ++ env) x A p ≡ result_behind before (closing_proof n env x A p)
  unfolding closing_proof declare_constant declaring comes_to ended under_budget within declared
  closing_behind n x A (goal g T) h k l = refl
  closing_behind n x A (finished t) h k l =
      let new : Env = (before ++ env) ++ (x, constant A t true) ∷ [] in
      ap (λ o. declared x (ended (within n (declaring o (known [] (A ∷ t ∷ [])) (sort_of (before ++ env) (suc n) [] A) (check (before ++ env) (suc n) [] t A) new)))) (taken_behind before env x h)
      ∙ ap₂ (λ s c. declared x (ended (within n (declaring (first_taken (names_of env) (x ∷ [])) (known [] (A ∷ t ∷ [])) s c new)))) (sort_behind before env front own (suc n) [] A k) (check_behind before env front own (suc n) [] t A l)
      ∙ declared_behind before x n (no_env_fault (first_taken (names_of env) (x ∷ []))) _ _ (λ fine b.
      declared_behind before x b (known [] (A ∷ t ∷ [])) _ _ (λ ok c.
      declared_behind before x c (sort_of env (suc n) [] A) _ _ (λ s d.
      declared_behind before x d (check env (suc n) [] t A) _ _ (λ checked left. ap (λ e. Ok (defined x, record { env = e; place = outside })) (append_assoc before env ((x, constant A t true) ∷ []))))))

  -- a statement
  stating_behind : (n : ℕ) (x : Name) (A : Surface) → IsNew before x → AllByRecursion (IsNew before) (term_names A) → stating n (before ++ env) x A ≡ result_behind before (stating n env x A)
  unfolding stating with_tree comes_to under_budget with_sort
  stating_behind n x A h k =
      ap₂ (λ o t. elim o as (λ _. Result (List ℕ × State) Fault) [ Some e ↦ Err not_built | None ↦ with_tree n (before ++ env) x t ]) (lookup_behind before env x h) (resolved_behind before env [] A k)
      ∙ either (lookup env x)
    where
      sorted : {S : Type 0} (T : Tree) (r : Result S Fault) → with_sort (before ++ env) x T r ≡ result_behind before (with_sort env x T r)
      sorted T (Ok s) = refl
      sorted T (Err f) = refl

      tree : (o : Option Tree) → TreeNames (IsNew before) o → with_tree n (before ++ env) x o ≡ result_behind before (with_tree n env x o)
      tree None l = refl
      tree (Some T) l = ap (λ w. with_sort (before ++ env) x T (ended (within n w))) (sort_behind before env front own (suc n) [] T l) ∙ sorted T (comes_to n (λ m. sort_of env m [] T))

      either :
          (o : Option Entry) → elim o as (λ _. Result (List ℕ × State) Fault) [ Some e ↦ Err not_built | None ↦ with_tree n (before ++ env) x (resolved env [] A) ]
          ≡ result_behind before (elim o as (λ _. Result (List ℕ × State) Fault) [ Some e ↦ Err not_built | None ↦ with_tree n env x (resolved env [] A) ])
      either (Some e) = refl
      either None = tree (resolved env [] A) (resolved_names (IsNew before) env [] A k)

  -- a sentence in its place
  doing_behind :
      (n : ℕ) (place : Place) (x : Sentence) → PlaceNames (IsNew before) (IsNew before) place → AllByRecursion (IsNew before) (sentence_names x)
      → doing n (before ++ env) place x ≡ result_behind before (doing n env place x)
  unfolding doing sentence_names
  doing_behind n outside (theorem x A) h k = stating_behind n x A k.0 k.1
  doing_behind n (stated x A) proof h k = refl
  doing_behind n (begun x A) (tactics ts) h k = ap (proving (before ++ env) x A) (tactics_behind before env (goal [] A) ts k) ∙ proving_behind before env x A (after_tactics env (goal [] A) ts)
  doing_behind n (worked x A p) qed h k = closing_behind n x A p h.0 h.1 h.2
  doing_behind n _ _ h k = refl

-- the declarations of a state are opaque
pub opaque_made : (P : Name → Type 0) (env : Env) → AllByRecursion (IsMade P) env → AllOpaque env
opaque_made P [] h = tt
opaque_made P (e ∷ env) h = (h.0.1, opaque_made P env h.1)

-- a sentence does the same behind declarations that it doesn't name
pub sentence_behind :
    (before : Env) (n : ℕ) (s : State) (p : List ℕ) → AllOpaque before → StateNames (IsNew before) (IsNew before) s → AllByRecursion (IsNew before) (read_by sentence_names (read p))
    → sentence n (state_behind before s) p ≡ result_behind before (sentence n s p)
unfolding sentence read_by
sentence_behind before n s p front h k = either (read p) k
  where
    either :
        (o : Option Sentence) → AllByRecursion (IsNew before) (read_by sentence_names o)
        → elim o as (λ _. Result (List ℕ × State) Fault) [ Some x ↦ doing n (before ++ s.env) s.place x | None ↦ Err not_built ]
        ≡ result_behind before (elim o as (λ _. Result (List ℕ × State) Fault) [ Some x ↦ doing n s.env s.place x | None ↦ Err not_built ])
    either None k = refl
    either (Some x) k = doing_behind before front s.env (opaque_made (IsNew before) s.env h.0) n s.place x h.1 k
