-- Tactics one after the other, by the places of a bank.
use Rattle.std.proofs.Common.{◌≡◌, ℕ, ◌+◌, ◌-◌, ◌≤◌, ◌<◌, zero-add, refl, sym, ◌∙◌, ap, ap₂, List, [], ◌∷◌, map, length, get_or, drop, Option, Some, None, Result, Ok, Err, Bool, true, false, arith}
use Rattle.std.proofs.Common.{subst as along}
use Rattle.std.specs.Prelude.{is_some}
use Rattle.std.proofs.lemmas.List.{drop_more, drop_all, length-map}
use Rattle.lq_trees.specs.Tree.{Name, Tree, Context}
use Rattle.lq_trees.specs.Tree.{Hypothesis as TreeHypothesis}
use Rattle.lq_trees.specs.Index.{Within}
use Rattle.lq_trees.specs.Fresh.{is_listed, opened, under}
use Rattle.lq_terms.specs.declared.nodes.NameId.{NameId}
use Rattle.lq_terms.specs.declared.nodes.TermId.{TermId}
use Rattle.lq_terms.specs.declared.nodes.Node.{Node}
use Rattle.lq_terms.specs.declared.nodes.Hypothesis.{Hypothesis}
use Rattle.lq_terms.specs.Terms.{Terms, HasName, IsName, IsPart, EachPart, Grows, text_of, tree_of, node_tree}
use Rattle.lq_terms.specs.Contexts.{context_of, HasContext}
use Rattle.lq_calculus.specs.Declarations.{Env, Entry, lookup, constant, family, arity, constructor, eliminator}
use Rattle.lq_calculus.specs.Contraction.{hypothesis}
use Rattle.lq_env.specs.declared.environment.Declared.{Declared}
use Rattle.lq_env.specs.Environments.{IsEnv, env_of}
use Rattle.lq_output.specs.Grammar.{Tactic, intro, exact}
use Rattle.lq_output.specs.Faults.{Fault, not_built, differs}
use Rattle.lq_output.specs.Alike.{alike}
use Rattle.lq_output.specs.Steps.{binder_of, constant_in, global, introduced, known_as, exactly, abstracted, Proof, goal, finished, after_tactic, after_tactics}
use Rattle.lq_script.specs.declared.fault.SentenceFault.{SentenceFault}
use Rattle.lq_script.specs.declared.syntax.Tactic.{Tactic as Written}
use Rattle.lq_script.specs.Syntax.{plain_tactic}
use Rattle.lq_script.specs.Introduced.{Introduced, one_more, names_of, abstraction}
use Rattle.lq_script.specs.Simple.{IsSimple}
use Rattle.lq_script.specs.Proofs.{Reaches, Tells}
use Rattle.lq_script.proofs.Grown.{env_of-grown}
use Rattle.lq_script.proofs.Introductions.{var_abstracted, const_abstracted, abstraction_within, introduced_rest, closes_at}
use Rattle.lq_script.proofs.Places.{listed_place, no_hypothesis, place_within}
use Rattle.lq_script.proofs.Proving.{context_of-grown}

-- a product's binder does not matter to `intro`
module _ (old m1 : Terms) (hs : List Hypothesis) (x : NameId) (text : Name) (conclusion : TermId) (y : NameId) (kind rest : TermId) (g : Grows old m1) (c : HasContext old hs) (n : IsName m1 x text) (is : tree_of old conclusion ≡ Tree.Prod (text_of old y) (tree_of old kind) (tree_of old rest)) where
  pub intro_taken :
      (seen : List Hypothesis) → seen ≡ hs → (r : Option ℕ) → r ≡ binder_of (names_of (context_of m1 seen)) (text_of m1 x) → is_some r ≡ true
      → introduced text (context_of old hs) (tree_of old conclusion) ≡ Err not_built
  unfolding introduced
  intro_taken seen s r at found =
      let listed : is_listed (names_of (context_of old hs)) text ≡ true =
      listed_place (names_of (context_of old hs)) text
      ∙ ap is_some (ap₂ (λ h z. binder_of (names_of h) z) (sym (context_of-grown old m1 hs g c)) (sym n.is) ∙ ap (λ z. binder_of (names_of (context_of m1 z)) (text_of m1 x)) (sym s) ∙ sym at)
      ∙ found in
      ap (introduced text (context_of old hs)) is ∙ rw (listed, introduced)

  pub intro_same :
      {node : Node} → EachPart (HasName old) (IsPart old conclusion) node → node ≡ Node.Prod y kind rest
      → introduced (text_of m1 x) (context_of m1 hs) (Tree.Prod [] (tree_of m1 kind) (tree_of m1 rest)) ≡ introduced text (context_of old hs) (tree_of old conclusion)
  unfolding introduced
  intro_same {node} parts e =
      let both : EachPart (HasName old) (IsPart old conclusion) (Node.Prod y kind rest) = along (EachPart (HasName old) (IsPart old conclusion)) e parts in
      ap₂ (λ a b. introduced (text_of m1 x) (context_of m1 hs) (Tree.Prod [] a b)) (g.tree kind both.1.has) (g.tree rest both.2.has)
      ∙ ap₂ (λ z h. introduced z h (Tree.Prod (text_of old y) (tree_of old kind) (tree_of old rest))) n.is (context_of-grown old m1 hs g c)
      ∙ ap (introduced text (context_of old hs)) (sym is)

pub intro_new : (m1 : Terms) (hs : List Hypothesis) (x : NameId) (seen : List Hypothesis) → seen ≡ hs → (r : Option ℕ) → r ≡ binder_of (names_of (context_of m1 seen)) (text_of m1 x) → is_some r ≡ false
    → is_listed (names_of (context_of m1 hs)) (text_of m1 x) ≡ false
intro_new m1 hs x seen s r at none =
    listed_place (names_of (context_of m1 hs)) (text_of m1 x) ∙ ap is_some (ap (λ z. binder_of (names_of (context_of m1 z)) (text_of m1 x)) (sym s) ∙ sym at) ∙ none

-- what a fault tells, said of something that follows
pub tells_weaker : (bank : Terms) (e : SentenceFault) (P Q : Fault → Type 0) → ((f : Fault) → P f → Q f) → Tells bank e P → Tells bank e Q
tells_weaker bank SentenceFault.NotBuilt P Q k h = k _ h
tells_weaker bank (SentenceFault.Differs a b) P Q k h = (h.0, h.1, k _ h.2)
tells_weaker bank (SentenceFault.OpenGoals n) P Q k h = k _ h
tells_weaker bank SentenceFault.NoMemory P Q k h = tt

-- one tactic of several
module _ {S : Type 0} (f : S → Tactic) (env : Env) (ss : List S) (i : ℕ) (d : S) (l : i < length ss) (p : Proof) where
  now : after_tactics env p (map f (drop i ss)) ≡ after_tactics env p (f (get_or ss i d) ∷ map f (drop (i + 1) ss))
  now = ap (λ zs. after_tactics env p (map f zs)) (drop_more ss i d l)

  pub tactics_step : (q : Proof) → after_tactic env p (f (get_or ss i d)) ≡ Ok q → after_tactics env p (map f (drop i ss)) ≡ after_tactics env q (map f (drop (i + 1) ss))
  unfolding after_tactics
  tactics_step q e = now ∙ rw (e, after_tactics) refl

  pub tactics_stop : (e : Fault) → after_tactic env p (f (get_or ss i d)) ≡ Err e → after_tactics env p (map f (drop i ss)) ≡ Err e
  unfolding after_tactics
  tactics_stop e h = now ∙ rw (h, after_tactics) refl

pub tactics_end : {S : Type 0} (f : S → Tactic) (env : Env) (ss : List S) (i : ℕ) (p : Proof) → length ss ≤ i → after_tactics env p (map f (drop i ss)) ≡ Ok p
unfolding after_tactics
tactics_end f env ss i p l = ap (λ zs. after_tactics env p (map f zs)) (drop_all i ss l)

-- `intro` on a conclusion that is no product
pub no_product : (bank : Terms) (node : Node) (x : Name) (g : Context) → ((y : NameId) (k r : TermId) → node ≡ Node.Prod y k r → ⊥) → introduced x g (node_tree bank node) ≡ Err not_built
unfolding introduced
no_product bank (Node.Prod y k r) x g h = absurd (h y k r refl)
no_product bank (Node.Rel i) x g h = refl
no_product bank (Node.Var y) x g h = refl
no_product bank (Node.Sort s) x g h = refl
no_product bank (Node.Lam y k r) x g h = refl
no_product bank (Node.Let y v k r) x g h = refl
no_product bank (Node.App f a) x g h = refl
no_product bank (Node.Const y) x g h = refl
no_product bank (Node.Ind y) x g h = refl
no_product bank (Node.Ctor y i) x g h = refl
no_product bank (Node.Elim y s) x g h = refl
no_product bank (Node.Evar i ts) x g h = refl

-- a tactic leads from what is reached to what is reached
module _ (A : Tree) (s : IsSimple [] A) (w : Within 0 A) where
  intro_reaches : (x : Name) (g : Context) (T : Tree) (q : Proof) → Introduced A g T → introduced x g T ≡ Ok q → Reaches A q
  unfolding introduced
  intro_reaches x g (Tree.Prod y kind rest) q i e = go (is_listed (names_of g) x) refl e
    where
      go : (b : Bool) → is_listed (names_of g) x ≡ b → ◌≡◌ {A = Result Proof Fault} (elim b [ true ↦ Err not_built | false ↦ Ok (goal (under g x kind) (opened x rest)) ]) (Ok q) → Reaches A q
      go true n p = absurd cc
      go false n p = let same : goal (under g x kind) (opened x rest) ≡ q = cc in along (Reaches A) same (one_more g x y kind rest i n)
  intro_reaches x g _ q i e = absurd cc

  leaf_reaches : (g : Context) (T t L : Tree) → Introduced A g T → abstracted g t ≡ abstraction (names_of g) A L → Within (length (names_of g)) L → Reaches A (finished (abstracted g t))
  leaf_reaches g T t L i e b =
      along (Within 0) (sym e)
      (abstraction_within 0 (names_of g) A (closes_at 0 (names_of g) T) L (introduced_rest i s) w (along (λ n. Within n L) (sym (zero-add (length (names_of g)))) b))

  var_reaches : (g : Context) (T : Tree) (x : Name) (h : TreeHypothesis) → Introduced A g T → hypothesis g x ≡ Some h → Reaches A (finished (abstracted g (Tree.Var x)))
  var_reaches g T x h i e = go (binder_of (names_of g) x) refl
    where
      go : (o : Option ℕ) → binder_of (names_of g) x ≡ o → Reaches A (finished (abstracted g (Tree.Var x)))
      go None at = absurd (let none : hypothesis g x ≡ None = no_hypothesis g x at in cc)
      go (Some k) at =
          leaf_reaches g T (Tree.Var x) (Tree.Rel (length g - 1 - k)) i (var_abstracted i s x k at)
          (omega (arith, place_within (names_of g) x k at, length-map g (λ h. h.name)))

  const_reaches : (g : Context) (T : Tree) (x : Name) → Introduced A g T → Reaches A (finished (abstracted g (Tree.Const x)))
  const_reaches g T x i = leaf_reaches g T (Tree.Const x) (Tree.Const x) i (const_abstracted i s x) tt

  -- the term that a name stands for
  known_reaches : (env : Env) (g : Context) (T : Tree) (x : Name) (f : Tree × Tree) → Introduced A g T → known_as env g x ≡ Some f → Reaches A (finished (abstracted g f.0))
  unfolding known_as global constant_in
  known_reaches env g T x f i e = go (hypothesis g x) refl e
    where
      const : (o : Option Entry) → constant_in o x ≡ Some f → Reaches A (finished (abstracted g f.0))
      const None p = absurd cc
      const (Some (constant B t opaque)) p = let same : (Tree.Const x, B) ≡ f = cc in along (λ z. Reaches A (finished (abstracted g z.0))) same (const_reaches g T x i)
      const (Some (family k ss)) p = absurd cc
      const (Some (arity B)) p = absurd cc
      const (Some (constructor c k)) p = absurd cc
      const (Some (eliminator c u)) p = absurd cc

      go : (o : Option TreeHypothesis) → hypothesis g x ≡ o → ◌≡◌ {A = Option (Tree × Tree)} (elim o [ Some h ↦ Some (Tree.Var x, h.kind) | None ↦ constant_in (lookup env x) x ]) (Some f) → Reaches A (finished (abstracted g f.0))
      go (Some h) at p = let same : (Tree.Var x, h.kind) ≡ f = cc in along (λ z. Reaches A (finished (abstracted g z.0))) same (var_reaches g T x h i at)
      go None at p = const (lookup env x) p

  exact_reaches : (env : Env) (g : Context) (T : Tree) (x : Name) (q : Proof) → Introduced A g T → exactly g T (known_as env g x) ≡ Ok q → Reaches A q
  unfolding exactly
  exact_reaches env g T x q i e = go (known_as env g x) refl e
    where
      at : (f : Tree × Tree) (b : Bool) → known_as env g x ≡ Some f → ◌≡◌ {A = Result Proof Fault} (elim b [ true ↦ Ok (finished (abstracted g f.0)) | false ↦ Err (differs f.1 T) ]) (Ok q) → Reaches A q
      at f true k p = let same : finished (abstracted g f.0) ≡ q = cc in along (Reaches A) same (known_reaches env g T x f i k)
      at f false k p = absurd cc

      go : (o : Option (Tree × Tree)) → known_as env g x ≡ o → exactly g T o ≡ Ok q → Reaches A q
      go None k p = absurd cc
      go (Some f) k p = at f (alike f.1 T) k p

  pub tactic_reaches : (env : Env) (p : Proof) (t : Tactic) (q : Proof) → Reaches A p → after_tactic env p t ≡ Ok q → Reaches A q
  unfolding after_tactic
  tactic_reaches env (finished u) t q r e = let same : finished u ≡ q = cc in along (Reaches A) same r
  tactic_reaches env (goal g T) (intro x) q r e = intro_reaches x g T q r e
  tactic_reaches env (goal g T) (exact x) q r e = exact_reaches env g T x q r e

-- a tactic in a bank that has grown
pub tactic_same :
    (old m : Terms) (ps : List (NameId × Declared)) → Grows old m → IsEnv old ps → (p : Proof) (t u : Written) → t ≡ u
    → after_tactic (env_of old ps) p (plain_tactic u) ≡ after_tactic (env_of m ps) p (plain_tactic t)
tactic_same old m ps g env p t u e = ap₂ (λ z w. after_tactic z p (plain_tactic w)) (sym (env_of-grown old m ps g env)) (sym e)
