-- What a sentence does in its place, by the places of a bank.
use Rattle.std.proofs.Common.{◌≡◌, ℕ, refl, sym, ◌∙◌, ap, ap₂, List, [], Option, Some, None, Result, Ok, Err, true, false, arith}
use Rattle.std.proofs.Common.{subst as along}
use Rattle.std.specs.Prelude.{IfSome, is_some}
use Rattle.std.specs.Option.{option_copied}
use Rattle.std.specs.Borrow.{Bor}
use Rattle.lq_trees.specs.declared.Sort.{Sort as Universe}
use Rattle.lq_trees.specs.Tree.{Name, Tree}
use Rattle.lq_trees.specs.Ticks.{done, ComesTo}
use Rattle.lq_terms.specs.declared.nodes.NameId.{NameId}
use Rattle.lq_terms.specs.declared.nodes.TermId.{TermId}
use Rattle.lq_terms.specs.declared.nodes.Hypothesis.{Hypothesis}
use Rattle.lq_terms.specs.Terms.{Terms, HasName, IsName, Grows, text_of, tree_of}
use Rattle.lq_terms.proofs.Growth.{Grows-trans}
use Rattle.lq_calculus.specs.Declarations.{Env, Entry, lookup}
use Rattle.lq_calculus.specs.Checking.{Kernel, sort_of, declare_constant}
use Rattle.lq_output.specs.Output.{kernel_budget}
use Rattle.lq_output.specs.Faults as faults
use Rattle.lq_output.specs.Grammar.{Surface, theorem, proof, tactics, qed, Tactic}
use Rattle.lq_output.specs.Steps as steps
use Rattle.lq_output.specs.Steps.{resolved, after_tactics}
use Rattle.lq_output.specs.Sentences.{State, stated, worked, comes_to, with_sort, with_tree, stating, proving, defined, declared, closing_proof, doing}
use Rattle.lq_env.specs.declared.environment.Declared.{Declared}
use Rattle.lq_kernel.specs.declared.faults.KernelFault.{KernelFault}
use Rattle.lq_env.specs.Environments.{IsEnv, env_of}
use Rattle.lq_kernel.specs.Answers.{Refuses}
use Rattle.lq_script.specs.declared.fault.SentenceFault.{SentenceFault}
use Rattle.lq_script.specs.declared.tactics.Proof.{Proof}
use Rattle.lq_script.specs.declared.session.Place.{Place}
use Rattle.lq_script.specs.Scopes.{IsMeant}
use Rattle.lq_script.specs.Proofs.{proof_of, HasProof, IsStatement, Reaches, Proves, Tells}
use Rattle.lq_script.specs.Sessions.{place_of, begun_of, IsPlace, IsSession, state_of, Moves, Runs, told_of}
use Rattle.lq_script.proofs.Grown.{IsEnv-grown, env_of-grown}
use Rattle.lq_script.proofs.Proving.{HasContext-grown, context_of-grown}
use Rattle.lq_script.proofs.Running.{tells_weaker}
use Rattle.lq_script.proofs.Statements.{IsStatement-grown}
use Rattle.lq_script.proofs.Telling.{comes_ok, refuses_tells}

-- whether a name is declared
pub copied_some : {T : Type 0} (r : Option (Bor T)) → is_some r ≡ is_some (option_copied r)
copied_some None = refl
copied_some (Some x) = refl

-- a statement whose names are not known, and one whose names are
module _ (E : Env) (x : Name) (r : Option Tree) where
  pub names_unknown : (m : Terms) (o : Option TermId) → o ≡ None → IsMeant m o r → with_tree kernel_budget E x r ≡ Err faults.not_built
  unfolding with_tree
  names_unknown m o e h =
      let none : r ≡ None = along (λ z. IsMeant m z r) e h in
      ap (with_tree kernel_budget E x) none

  known : (m : Terms) (o : Option TermId) (t : TermId) → o ≡ Some t → IsMeant m o r → r ≡ Some (tree_of m t)
  known m o t e h = (along (λ z. IsMeant m z r) e h).1

  pub sorted : (m : Terms) (o : Option TermId) (t : TermId) → o ≡ Some t → IsMeant m o r → (s : Universe) → comes_to kernel_budget (λ n. sort_of E n [] (tree_of m t)) ≡ Ok s
      → with_tree kernel_budget E x r ≡ Ok ([], record { env = E; place = stated x (tree_of m t) })
  unfolding with_tree with_sort
  sorted m o t e h s c = ap (with_tree kernel_budget E x) (known m o t e h) ∙ ap (with_sort E x (tree_of m t)) c

  pub unsorted : (m : Terms) (o : Option TermId) (t : TermId) → o ≡ Some t → IsMeant m o r → (f : faults.Fault) → comes_to kernel_budget (λ n. sort_of E n [] (tree_of m t)) ≡ Err f
      → with_tree kernel_budget E x r ≡ Err f
  unfolding with_tree with_sort
  unsorted m o t e h f c = ap (with_tree kernel_budget E x) (known m o t e h) ∙ ap (with_sort E x (tree_of m t)) c

-- `Theorem`, behind the look whether its name is new
module _ (old m new : Terms) (ps : List (NameId × Declared)) (x : NameId) (r : Option Tree) (o : Option TermId) (t : TermId) (g1 : Grows old m) (g2 : Grows m new) (plain : IsEnv old ps) (has : HasName old x) (e : o ≡ Some t) (meant : IsMeant m o r) where
  pub state_ok :
      IfSome o (IsStatement m) → (s : Universe) × (comes_to kernel_budget (λ n. sort_of (env_of m ps) n [] (tree_of m t)) ≡ Ok s)
      → (HasName new x × IsStatement new t) × (with_tree kernel_budget (env_of old ps) (text_of old x) r ≡ Ok ([], state_of new ps (Place.Stated x t)))
  state_ok st c =
      let is : IsStatement m t = along (λ z. IfSome z (IsStatement m)) e st in
      let g : Grows old new = Grows-trans old m new g1 g2 in
      let there : env_of m ps ≡ env_of old ps = env_of-grown old m ps g1 plain in (
        (omega (arith, g.names), IsStatement-grown m new t g2 is),
        along (λ z. with_tree kernel_budget (env_of old ps) (text_of old x) r ≡ Ok ([], z))
            (ap₂ (λ y w. record { env = y; place = w }) (sym (env_of-grown old new ps g plain)) (ap₂ stated (sym (g.text x has)) (sym (g2.tree t is.has))))
            (sorted (env_of old ps) (text_of old x) r m o t e meant c.0 (along (λ z. comes_to kernel_budget (λ n. sort_of z n [] (tree_of m t)) ≡ Ok c.0) there c.1)),
      )

  pub state_err : (k : SentenceFault) → Tells new k (λ f. comes_to kernel_budget (λ n. sort_of (env_of m ps) n [] (tree_of m t)) ≡ Err f) → Tells new k (λ f. with_tree kernel_budget (env_of old ps) (text_of old x) r ≡ Err f)
  state_err k h =
      tells_weaker new k _ _
      (λ f c. unsorted (env_of old ps) (text_of old x) r m o t e meant f (along (λ z. comes_to kernel_budget (λ n. sort_of z n [] (tree_of m t)) ≡ Err f) (env_of-grown old m ps g1 plain) c)) h

-- a sentence out of its place
module _ (bank : Terms) (E : Env) (place : Place) where
  pub theorem_misplaced : (x : Name) (A : Surface) → (place ≡ Place.Outside → ⊥) → doing kernel_budget E (place_of bank place) (theorem x A) ≡ Err faults.not_built
  unfolding doing
  theorem_misplaced x A h = go place h
    where
      go : (p : Place) → (p ≡ Place.Outside → ⊥) → doing kernel_budget E (place_of bank p) (theorem x A) ≡ Err faults.not_built
      go Place.Outside k = absurd (k refl)
      go (Place.Stated y B) k = refl
      go (Place.Begun y B) k = refl
      go (Place.Worked y B p) k = refl

  pub tactics_misplaced : (ss : List Tactic) → ((y : NameId) (B : TermId) → place ≡ Place.Begun y B → ⊥) → doing kernel_budget E (place_of bank place) (tactics ss) ≡ Err faults.not_built
  unfolding doing
  tactics_misplaced ss h = go place h
    where
      go : (p : Place) → ((y : NameId) (B : TermId) → p ≡ Place.Begun y B → ⊥) → doing kernel_budget E (place_of bank p) (tactics ss) ≡ Err faults.not_built
      go Place.Outside k = refl
      go (Place.Stated y B) k = refl
      go (Place.Begun y B) k = absurd (k y B refl)
      go (Place.Worked y B p) k = refl

  pub qed_misplaced : ((y : NameId) (B : TermId) (p : Proof) → place ≡ Place.Worked y B p → ⊥) → doing kernel_budget E (place_of bank place) qed ≡ Err faults.not_built
  unfolding doing
  qed_misplaced h = go place h
    where
      go : (p : Place) → ((y : NameId) (B : TermId) (q : Proof) → p ≡ Place.Worked y B q → ⊥) → doing kernel_budget E (place_of bank p) qed ≡ Err faults.not_built
      go Place.Outside k = refl
      go (Place.Stated y B) k = refl
      go (Place.Begun y B) k = refl
      go (Place.Worked y B p) k = absurd (k y B p refl)

  -- `Theorem` between theorems
  module _ (x : Name) (A : Surface) (is : place ≡ Place.Outside) where
    pub theorem_taken : is_some (lookup E x) ≡ true → doing kernel_budget E (place_of bank place) (theorem x A) ≡ Err faults.not_built
    unfolding doing stating
    theorem_taken t = ap (λ p. doing kernel_budget E (place_of bank p) (theorem x A)) is ∙ go (lookup E x) t
      where
        go : (o : Option Entry) → is_some o ≡ true → ◌≡◌ {A = Result (List ℕ × State) faults.Fault} (elim o [ Some e ↦ Err faults.not_built | None ↦ with_tree kernel_budget E x (resolved E [] A) ]) (Err faults.not_built)
        go (Some e) k = refl
        go None k = cc

    pub theorem_new : is_some (lookup E x) ≡ false → doing kernel_budget E (place_of bank place) (theorem x A) ≡ with_tree kernel_budget E x (resolved E [] A)
    unfolding doing stating
    theorem_new t = ap (λ p. doing kernel_budget E (place_of bank p) (theorem x A)) is ∙ go (lookup E x) t
      where
        go : (o : Option Entry) → is_some o ≡ false → (elim o [ Some e ↦ Err faults.not_built | None ↦ with_tree kernel_budget E x (resolved E [] A) ]) ≡ with_tree kernel_budget E x (resolved E [] A)
        go (Some e) k = cc
        go None k = refl

-- the same work, written in another way
pub moves_by : (bank : Terms) (ps : List (NameId × Declared)) (r : Result Place SentenceFault) (f h : Result (List ℕ × State) faults.Fault) → h ≡ f → Moves bank ps r f → Moves bank ps r h
moves_by bank ps r f h e m = along (Moves bank ps r) (sym e) m

pub runs_by : {S : Type 0} (bytes : S → List ℕ) (bank : Terms) (ps : List (NameId × Declared)) (place : Place) (r : Result S SentenceFault) (f h : Result (List ℕ × State) faults.Fault) → h ≡ f → Runs bytes bank ps place r f → Runs bytes bank ps place r h
runs_by bytes bank ps place r f h e m = along (Runs bytes bank ps place r) (sym e) m

-- `Theorem` with a new name
pub theorem_goes :
    (old m : Terms) (ps : List (NameId × Declared)) (place : Place) (x : NameId) (text : Name) (A : Surface) → Grows old m → IsEnv old ps → IsName m x text → place ≡ Place.Outside
    → is_some (lookup (env_of m ps) (text_of m x)) ≡ false
    → doing kernel_budget (env_of old ps) (place_of old place) (theorem text A) ≡ with_tree kernel_budget (env_of m ps) (text_of m x) (resolved (env_of m ps) [] A)
theorem_goes old m ps place x text A g plain named is free =
    let there : env_of m ps ≡ env_of old ps = env_of-grown old m ps g plain in
    theorem_new old (env_of old ps) place text A is (ap is_some (ap₂ lookup (sym there) (sym named.is)) ∙ free)
    ∙ ap₂ (λ e z. with_tree kernel_budget e z (resolved e [] A)) (sym there) (sym named.is)

pub theorem_stops :
    (old m : Terms) (ps : List (NameId × Declared)) (place : Place) (x : NameId) (text : Name) (A : Surface) → Grows old m → IsEnv old ps → IsName m x text → place ≡ Place.Outside
    → is_some (lookup (env_of m ps) (text_of m x)) ≡ true → doing kernel_budget (env_of old ps) (place_of old place) (theorem text A) ≡ Err faults.not_built
theorem_stops old m ps place x text A g plain named is taken =
    theorem_taken old (env_of old ps) place text A is (ap is_some (ap₂ lookup (sym (env_of-grown old m ps g plain)) (sym named.is)) ∙ taken)

-- tactics behind `Proof`
module _ (old new : Terms) (ps : List (NameId × Declared)) (place : Place) (x : NameId) (A : TermId) (ss : List Tactic) (g : Grows old new) (plain : IsEnv old ps) (is : place ≡ Place.Begun x A) (stands : IsPlace old place) where
  begun_is : HasName old x × IsStatement old A
  begun_is = along (IsPlace old) is stands

  worked_at : doing kernel_budget (env_of old ps) (place_of old place) (tactics ss) ≡ proving (env_of old ps) (text_of old x) (tree_of old A) (after_tactics (env_of old ps) (steps.goal [] (tree_of old A)) ss)
  unfolding doing
  worked_at = ap (λ p. doing kernel_budget (env_of old ps) (place_of old p) (tactics ss)) is

  pub work_ok :
      (p : Proof) → Proves new (Ok p) (after_tactics (env_of old ps) (steps.goal [] (tree_of old A)) ss) → Reaches (tree_of new A) (proof_of new p)
      → IsPlace new (Place.Worked x A p) × (doing kernel_budget (env_of old ps) (place_of old place) (tactics ss) ≡ Ok ([], state_of new ps (Place.Worked x A p)))
  unfolding proving
  work_ok p h r =
      let has = begun_is in (
        (omega (arith, g.names, has.0), IsStatement-grown old new A g has.1, h.0, r),
        worked_at ∙ ap (proving (env_of old ps) (text_of old x) (tree_of old A)) h.1
            ∙ ap (λ z. Ok ([], z)) (ap₂ (λ y w. record { env = y; place = w }) (sym (env_of-grown old new ps g plain)) (ap₂ (λ a b. worked a b (proof_of new p)) (sym (g.text x has.0)) (sym (g.tree A has.1.has)))),
      )

  pub work_err : (k : SentenceFault) → Proves new (Err k) (after_tactics (env_of old ps) (steps.goal [] (tree_of old A)) ss) → Tells new k (λ f. doing kernel_budget (env_of old ps) (place_of old place) (tactics ss) ≡ Err f)
  unfolding proving
  work_err k h = tells_weaker new k _ _ (λ f e. worked_at ∙ ap (proving (env_of old ps) (text_of old x) (tree_of old A)) e) h

-- `Qed`
module _ (bank : Terms) (E : Env) (place : Place) (x : NameId) (A : TermId) (p : Proof) (is : place ≡ Place.Worked x A p) where
  pub qed_open : (hs : List Hypothesis) (T : TermId) → p ≡ Proof.Goal hs T → doing kernel_budget E (place_of bank place) qed ≡ Err (faults.open_goals 1)
  unfolding doing closing_proof
  qed_open hs T e = ap (λ q. doing kernel_budget E (place_of bank q) qed) (is ∙ ap (Place.Worked x A) e)

  pub qed_goes : (t : TermId) → p ≡ Proof.Finished t → doing kernel_budget E (place_of bank place) qed ≡ declared (text_of bank x) (comes_to kernel_budget (λ n. declare_constant E n (text_of bank x) (tree_of bank A) (tree_of bank t) true))
  unfolding doing closing_proof
  qed_goes t e = ap (λ q. doing kernel_budget E (place_of bank q) qed) (is ∙ ap (Place.Worked x A) e)

-- a declaration
pub declared_ok :
    (x : Name) (f : ℕ → Kernel Env) (left : ℕ) (new : Terms) (qs : List (NameId × Declared)) (text : List ℕ) → text ≡ defined x → ComesTo f kernel_budget (done (env_of new qs) left)
    → declared x (comes_to kernel_budget f) ≡ Ok (text, state_of new qs Place.Outside)
unfolding declared
declared_ok x f left new qs text e h = ap (declared x) (comes_ok f kernel_budget left (env_of new qs) h) ∙ ap (λ z. Ok (z, state_of new qs Place.Outside)) (sym e)

pub declared_err : (x : Name) (f : ℕ → Kernel Env) (left : ℕ) (new : Terms) (e : KernelFault) (k : SentenceFault) → k ≡ told_of e → Refuses new e f kernel_budget left → Tells new k (λ g. declared x (comes_to kernel_budget f) ≡ Err g)
unfolding declared
declared_err x f left new e k s h =
    along (λ z. Tells new z (λ g. declared x (comes_to kernel_budget f) ≡ Err g)) (sym s)
    (refuses_tells f kernel_budget left new e (λ g. declared x (comes_to kernel_budget f) ≡ Err g) (λ g c. ap (declared x) c) h)

-- `Proof`
pub proof_goes : (bank : Terms) (ps : List (NameId × Declared)) (place next : Place) (text : List ℕ) → Some next ≡ begun_of place → text ≡ [] → doing kernel_budget (env_of bank ps) (place_of bank place) proof ≡ Ok (text, state_of bank ps next)
unfolding doing
proof_goes bank ps Place.Outside next text e t = absurd cc
proof_goes bank ps (Place.Stated x A) next text e t =
    let same : next ≡ Place.Begun x A = cc in
    ap₂ (λ z p. Ok (z, state_of bank ps p)) (sym t) (sym same)
proof_goes bank ps (Place.Begun x A) next text e t = absurd cc
proof_goes bank ps (Place.Worked x A p) next text e t = absurd cc

pub proof_misplaced : (bank : Terms) (E : Env) (place : Place) → None ≡ begun_of place → doing kernel_budget E (place_of bank place) proof ≡ Err faults.not_built
unfolding doing
proof_misplaced bank E Place.Outside e = refl
proof_misplaced bank E (Place.Stated x A) e = absurd cc
proof_misplaced bank E (Place.Begun x A) e = refl
proof_misplaced bank E (Place.Worked x A p) e = refl

-- a place of a bank that has grown
module _ (old new : Terms) (g : Grows old new) where
  HasProof-grown : (p : Proof) → HasProof old p → HasProof new p
  HasProof-grown (Proof.Goal hs T) h = (HasContext-grown old new hs g h.0, omega (arith, g.nodes, h.1))
  HasProof-grown (Proof.Finished t) h = omega (arith, g.nodes, h)

  proof_of-grown : (p : Proof) → HasProof old p → proof_of new p ≡ proof_of old p
  proof_of-grown (Proof.Goal hs T) h = ap₂ steps.goal (context_of-grown old new hs g h.0) (g.tree T h.1)
  proof_of-grown (Proof.Finished t) h = ap steps.finished (g.tree t h)

  IsPlace-grown : (place : Place) → IsPlace old place → IsPlace new place
  IsPlace-grown Place.Outside h = tt
  IsPlace-grown (Place.Stated x A) h = (omega (arith, g.names, h.0), IsStatement-grown old new A g h.1)
  IsPlace-grown (Place.Begun x A) h = (omega (arith, g.names, h.0), IsStatement-grown old new A g h.1)
  IsPlace-grown (Place.Worked x A p) h = (
    omega (arith, g.names, h.0),
    IsStatement-grown old new A g h.1,
    HasProof-grown p h.2,
    along (λ z. Reaches z (proof_of new p)) (sym (g.tree A h.1.has)) (along (Reaches (tree_of old A)) (sym (proof_of-grown p h.2)) h.3),
  )

  pub IsSession-grown : (ps qs : List (NameId × Declared)) (place : Place) → qs ≡ ps → IsSession old ps place → IsSession new qs place
  IsSession-grown ps qs place e s = record {
    declared = along (IsEnv new) (sym e) (IsEnv-grown old new ps g s.declared);
    stands = IsPlace-grown place s.stands;
  }
