-- The names in a script's states are names of its sentences.
use Rattle.std.proofs.Common.{refl, ℕ, zero, suc, Bool, true, false, List, [], ◌∷◌, ◌++◌, map, Option, Some, None, Result, Ok, Err}
use Rattle.std.specs.List.{AllByRecursion}
use Rattle.lq_trees.specs.Tree.{Name, Tree, Hypothesis, Context}
use Rattle.lq_trees.specs.Tree.Tree.{Rel, Var, Prod}
use Rattle.lq_trees.specs.Fresh.{is_listed, opened, under}
use Rattle.lq_trees.specs.Ticks.{gives, fails, cut, tick, ◌>>=◌, within, under_budget}
use Rattle.lq_calculus.specs.Contraction.{hypothesis}
use Rattle.lq_calculus.specs.Declarations.{Env, Entry, constant, family, arity, constructor, eliminator, lookup, first_taken, names_of}
use Rattle.lq_calculus.specs.Checking.{Kernel, known, sort_of, check, no_env_fault, declare_constant}
use Rattle.lq_output.specs.Grammar.{Surface, named, prop, forall_, to, Tactic, intro, exact, Sentence, theorem, proof, tactics, qed, read}
use Rattle.lq_output.specs.Alike.{alike}
use Rattle.lq_output.specs.Steps.{binder_of, constant_in, global, meant, product_of, resolved, Proof, goal, finished, abstracted, introduced, known_as, exactly, after_tactic, after_tactics}
use Rattle.lq_output.specs.Faults.{Fault, not_built, differs}
use Rattle.lq_output.specs.Sentences.{Place, outside, stated, begun, worked, State, ended, comes_to, with_sort, with_tree, stating, proving, declared, closing_proof, doing, sentence}
use Rattle.lq_output.specs.Names.{term_names, tactic_name, sentence_names, stated_names, read_by, names_by}
use Rattle.lq_output.proofs.Unseen.{IsOpaque, NamesOnly, all-append, names-opened, names-close}

-- what holds of each element of two lists holds of the first list's, and of the second's
pub all-left : {X : Type 0} (P : X → Type 0) (xs ys : List X) → AllByRecursion P (xs ++ ys) → AllByRecursion P xs
all-left P [] ys h = tt
all-left P (x ∷ xs) ys h = (h.0, all-left P xs ys h.1)

pub all-right : {X : Type 0} (P : X → Type 0) (xs ys : List X) → AllByRecursion P (xs ++ ys) → AllByRecursion P ys
all-right P [] ys h = h
all-right P (x ∷ xs) ys h = all-right P xs ys h.1

-- the names of constants in trees have the property
module _ (R : Name → Type 0) where
  -- the constants in a proof, with its hypotheses
  abbrev pub ProofNames : Proof → Type 0
  ProofNames (goal g T) = AllByRecursion (λ h. NamesOnly R h.kind) g × NamesOnly R T
  ProofNames (finished t) = NamesOnly R t

  -- the constants in a tree, where there is one
  abbrev pub TreeNames : Option Tree → Type 0
  TreeNames None = Unit {0}
  TreeNames (Some t) = NamesOnly R t

  -- the constants in what a name stands for, where it stands for something
  abbrev MeantNames : Option (Tree × Tree) → Type 0
  MeantNames None = Unit {0}
  MeantNames (Some c) = NamesOnly R c.0

  -- the constants in a proof after a tactic that has no fault
  abbrev GoalNames : Result Proof Fault → Type 0
  GoalNames (Ok p) = ProofNames p
  GoalNames (Err f) = Unit {0}

  -- a constant has the name that it is found by
  constant_names : (o : Option Entry) (x : Name) → R x → MeantNames (constant_in o x)
  unfolding constant_in
  constant_names None x h = tt
  constant_names (Some (constant A t opaque)) x h = h
  constant_names (Some (family f ss)) x h = tt
  constant_names (Some (arity A)) x h = tt
  constant_names (Some (constructor c k)) x h = tt
  constant_names (Some (eliminator c s)) x h = tt

  -- a binder's variable, else what the name stands for outside
  meant_names : (b : Option ℕ) (c : Option (Tree × Tree)) → MeantNames c
      → TreeNames (elim b as (λ _. Option Tree) [ Some i ↦ Some (Rel i) | None ↦ elim c as (λ _. Option Tree) [ Some d ↦ Some d.0 | None ↦ None ] ])
  meant_names (Some i) c h = tt
  meant_names None None h = tt
  meant_names None (Some c) h = h

  -- a product of two trees
  product_names : (x : Name) (A B : Option Tree) → TreeNames A → TreeNames B → TreeNames (product_of x A B)
  unfolding product_of
  product_names x None B h k = tt
  product_names x (Some A) None h k = tt
  product_names x (Some A) (Some B) h k = (h, k)

  -- the constants in a statement are its names
  pub resolved_names : (env : Env) (bs : List Name) (A : Surface) → AllByRecursion R (term_names A) → TreeNames (resolved env bs A)
  unfolding resolved meant global term_names
  resolved_names env bs (named x) h = meant_names (binder_of bs x) (constant_in (lookup env x) x) (constant_names (lookup env x) x h.0)
  resolved_names env bs prop h = tt
  resolved_names env bs (forall_ x A B) h =
      product_names x (resolved env bs A) (resolved env (x ∷ bs) B)
      (resolved_names env bs A (all-left R (term_names A) (term_names B) h.1)) (resolved_names env (x ∷ bs) B (all-right R (term_names A) (term_names B) h.1))
  resolved_names env bs (to A B) h =
      product_names [] (resolved env bs A) (resolved env ([] ∷ bs) B)
      (resolved_names env bs A (all-left R (term_names A) (term_names B) h)) (resolved_names env ([] ∷ bs) B (all-right R (term_names A) (term_names B) h))

  -- a function over hypotheses has the constants of their types and of its body
  abstracted_names : (g : Context) (t : Tree) → AllByRecursion (λ h. NamesOnly R h.kind) g → NamesOnly R t → NamesOnly R (abstracted g t)
  unfolding abstracted
  abstracted_names [] t h k = k
  abstracted_names (j ∷ g) t h k = (h.0, names-close R j.name (abstracted g t) (abstracted_names g t h.1 k))

  -- a hypothesis, else a constant, which has the name that it is found by
  known_names : (env : Env) (g : Context) (x : Name) → R x → MeantNames (known_as env g x)
  unfolding known_as global
  known_names env g x h = either (hypothesis g x)
    where
      either : (o : Option Hypothesis) → MeantNames (elim o as (λ _. Option (Tree × Tree)) [ Some j ↦ Some (Var x, j.kind) | None ↦ constant_in (lookup env x) x ])
      either None = constant_names (lookup env x) x h
      either (Some j) = tt

  -- `exact` brings in the constant that it names
  exact_names : (g : Context) (T : Tree) (o : Option (Tree × Tree)) → AllByRecursion (λ h. NamesOnly R h.kind) g → MeantNames o → GoalNames (exactly g T o)
  unfolding exactly
  exact_names g T None h k = tt
  exact_names g T (Some f) h k = either (alike f.1 T)
    where
      either : (t : Bool) → GoalNames (elim t as (λ _. Result Proof Fault) [ true ↦ Ok (finished (abstracted g f.0)) | false ↦ Err (differs f.1 T) ])
      either true = abstracted_names g f.0 h k
      either false = tt

  -- `intro` brings in no constant
  introduced_names : (x : Name) (g : Context) (T : Tree) → AllByRecursion (λ h. NamesOnly R h.kind) g → NamesOnly R T → GoalNames (introduced x g T)
  unfolding introduced under
  introduced_names x g (Prod y A B) h k = either (is_listed (map (λ j. j.name) g) x)
    where
      either : (t : Bool) → GoalNames (elim t as (λ _. Result Proof Fault) [ true ↦ Err not_built | false ↦ Ok (goal (under g x A) (opened x B)) ])
      either true = tt
      either false = (all-append (λ j. NamesOnly R j.kind) g (record { name = x; body = None; kind = A } ∷ []) h (k.0, tt), names-opened R x B k.1)
  introduced_names x g _ h k = tt

  -- a tactic brings in no constant but the one that it names
  tactic_names : (env : Env) (p : Proof) (s : Tactic) → ProofNames p → R (tactic_name s) → GoalNames (after_tactic env p s)
  unfolding after_tactic tactic_name
  tactic_names env (finished t) s h k = h
  tactic_names env (goal g T) (intro x) h k = introduced_names x g T h.0 h.1
  tactic_names env (goal g T) (exact x) h k = exact_names g T (known_as env g x) h.0 (known_names env g x k)

  -- so do tactics, one after the other
  tactics_names : (env : Env) (p : Proof) (ss : List Tactic) → ProofNames p → AllByRecursion R (map tactic_name ss) → GoalNames (after_tactics env p ss)
  unfolding after_tactics
  tactics_names env p [] h k = h
  tactics_names env p (s ∷ ss) h k = either (after_tactic env p s) (tactic_names env p s h k.0) (λ q l. tactics_names env q ss l k.1)
    where
      either :
          (r : Result Proof Fault) → GoalNames r → ((q : Proof) → ProofNames q → GoalNames (after_tactics env q ss))
          → GoalNames (elim r as (λ _. Result Proof Fault) [ Ok q ↦ after_tactics env q ss | Err f ↦ Err f ])
      either (Ok q) l m = m q l
      either (Err f) l m = tt

-- an opaque constant whose name has the property
abbrev pub IsMade : (Name → Type 0) → Name × Entry → Type 0
IsMade P e = P e.0 × IsOpaque e.1

-- the names of declarations have the first property, and those of constants in trees the second
module _ (P R : Name → Type 0) where
  -- the theorem that a script is in, and the constants in its statement and its proof
  abbrev pub PlaceNames : Place → Type 0
  PlaceNames outside = Unit {0}
  PlaceNames (stated x A) = P x × NamesOnly R A
  PlaceNames (begun x A) = P x × NamesOnly R A
  PlaceNames (worked x A p) = P x × NamesOnly R A × ProofNames R p

  -- each declaration is an opaque constant, and the names in the state have the property
  abbrev pub StateNames : State → Type 0
  StateNames s = AllByRecursion (IsMade P) s.env × PlaceNames s.place

  -- the names in the state after a sentence that has no fault
  abbrev pub ResultNames : Result (List ℕ × State) Fault → Type 0
  ResultNames (Ok r) = StateNames r.1
  ResultNames (Err f) = Unit {0}

  -- what is declared, by what goes before it
  declared_names : {A : Type 0} (x : Name) (b : ℕ) (r : Kernel A) (k : A → Kernel Env) → ((a : A) (c : ℕ) → ResultNames (declared x (ended (within c (k a))))) → ResultNames (declared x (ended (within b (r >>= k))))
  unfolding ◌>>=◌ within ended declared
  declared_names x b (gives a) k h = h a b
  declared_names x b (fails f) k h = tt
  declared_names x b cut k h = tt
  declared_names x zero (tick r) k h = tt
  declared_names x (suc b) (tick r) k h = declared_names x b r k h

  -- `Qed` declares the theorem's name
  closing_names : (n : ℕ) (env : Env) (x : Name) (A : Tree) (p : Proof) → AllByRecursion (IsMade P) env → P x → ResultNames (closing_proof n env x A p)
  unfolding closing_proof declare_constant comes_to ended under_budget within declared
  closing_names n env x A (goal g T) h k = tt
  closing_names n env x A (finished t) h k =
      declared_names x n (no_env_fault (first_taken (names_of env) (x ∷ []))) _ (λ new b.
      declared_names x b (known [] (A ∷ t ∷ [])) _ (λ ok c.
      declared_names x c (sort_of env (suc n) [] A) _ (λ s d.
      declared_names x d (check env (suc n) [] t A) _ (λ checked left.
      (all-append (IsMade P) env ((x, constant A t true) ∷ []) h ((k, refl), tt), tt)))))

  -- a statement brings in the theorem's name and the constants that it names
  stating_names : (n : ℕ) (env : Env) (x : Name) (A : Surface) → AllByRecursion (IsMade P) env → P x → AllByRecursion R (term_names A) → ResultNames (stating n env x A)
  unfolding stating with_tree with_sort
  stating_names n env x A h k l = either (lookup env x)
    where
      sorted : {S : Type 0} (T : Tree) (r : Result S Fault) → NamesOnly R T → ResultNames (with_sort env x T r)
      sorted T (Ok s) m = (h, (k, m))
      sorted T (Err f) m = tt

      tree : (o : Option Tree) → TreeNames R o → ResultNames (with_tree n env x o)
      tree None m = tt
      tree (Some T) m = sorted T (comes_to n (λ k. sort_of env k [] T)) m

      either : (o : Option Entry) → ResultNames (elim o as (λ _. Result (List ℕ × State) Fault) [ Some e ↦ Err not_built | None ↦ with_tree n env x (resolved env [] A) ])
      either (Some e) = tt
      either None = tree (resolved env [] A) (resolved_names R env [] A l)

  -- tactics keep the theorem's name
  proving_names : (env : Env) (x : Name) (A : Tree) (r : Result Proof Fault) → AllByRecursion (IsMade P) env → P x → NamesOnly R A → GoalNames R r → ResultNames (proving env x A r)
  unfolding proving
  proving_names env x A (Ok p) h k l m = (h, (k, l, m))
  proving_names env x A (Err f) h k l m = tt

  -- a sentence in its place
  doing_names : (n : ℕ) (env : Env) (place : Place) (x : Sentence) → AllByRecursion (IsMade P) env → PlaceNames place → AllByRecursion P (stated_names x) → AllByRecursion R (sentence_names x) → ResultNames (doing n env place x)
  unfolding doing stated_names sentence_names
  doing_names n env outside (theorem x A) h k i l = stating_names n env x A h i.0 l.1
  doing_names n env (stated x A) proof h k i l = (h, k)
  doing_names n env (begun x A) (tactics ts) h k i l = proving_names env x A (after_tactics env (goal [] A) ts) h k.0 k.1 (tactics_names R env (goal [] A) ts (tt, k.1) l)
  doing_names n env (worked x A p) qed h k i l = closing_names n env x A p h k.0
  doing_names n env _ _ h k i l = tt

  -- a sentence adds no names but its own
  pub sentence_keeps :
      (n : ℕ) (s : State) (p : List ℕ) → StateNames s → AllByRecursion P (read_by stated_names (read p)) → AllByRecursion R (read_by sentence_names (read p)) → ResultNames (sentence n s p)
  unfolding sentence read_by
  sentence_keeps n s p h i l = either (read p) i l
    where
      either :
          (o : Option Sentence) → AllByRecursion P (read_by stated_names o) → AllByRecursion R (read_by sentence_names o)
          → ResultNames (elim o as (λ _. Result (List ℕ × State) Fault) [ Some x ↦ doing n s.env s.place x | None ↦ Err not_built ])
      either None i l = tt
      either (Some x) i l = doing_names n s.env s.place x h.0 h.1 i l

-- the theorem that a sentence states is one of its names
stated-all : (P : Name → Type 0) (x : Sentence) → AllByRecursion P (sentence_names x) → AllByRecursion P (stated_names x)
unfolding stated_names sentence_names
stated-all P (theorem x A) h = (h.0, tt)
stated-all P proof h = tt
stated-all P (tactics ts) h = tt
stated-all P qed h = tt

-- so for what was read
pub read-all : (P : Name → Type 0) (o : Option Sentence) → AllByRecursion P (read_by sentence_names o) → AllByRecursion P (read_by stated_names o)
unfolding read_by
read-all P None h = tt
read-all P (Some x) h = stated-all P x h

-- and for the texts of sentences
pub names-all : (P : Name → Type 0) (ps : List (List ℕ)) → AllByRecursion P (names_by sentence_names ps) → AllByRecursion P (names_by stated_names ps)
unfolding names_by
names-all P [] h = tt
names-all P (p ∷ ps) h =
    all-append P (read_by stated_names (read p)) (names_by stated_names ps)
    (read-all P (read p) (all-left P (read_by sentence_names (read p)) (names_by sentence_names ps) h))
    (names-all P ps (all-right P (read_by sentence_names (read p)) (names_by sentence_names ps) h))
