-- Goals and proofs as they read, by places of a bank and over trees.
use Rattle.std.specs.Prelude.{◌≡◌, ◌<◌, ℕ, List, [], ◌∷◌, ◌++◌, length, map, Result, Ok, Err, Option, Some, None, option_map, slice_get}
use Rattle.std.specs.List.{AllByRecursion}
use Rattle.lq_trees.specs.Tree.{Tree, Hypothesis as TreeHypothesis}
use Rattle.lq_trees.specs.Tree.Tree.{Evar}
use Rattle.lq_trees.specs.Index.{Within}
use Rattle.lq_terms.specs.declared.nodes.Hypothesis.{Hypothesis}
use Rattle.lq_terms.specs.declared.nodes.TermId.{TermId}
use Rattle.lq_terms.specs.Terms.{Terms, HasTerm, HasName, text_of, tree_of}
use Rattle.lq_terms.specs.Contexts.{HasBody, HasAllOf, HasContext, hypothesis_of, context_of}
use Rattle.lq_solving.specs.Stores.{Store as TreeStore, StoreFault as TreeFault, read, read_hypothesis, read_context, read_too_large, read_too_deep, own_instance}
use Rattle.lq_solving.specs.Kept.{IsOver}
use Rattle.lq_evars.specs.declared.store.StoreFault.{StoreFault}
use Rattle.lq_evars.specs.declared.store.Variable.{Variable}
use Rattle.lq_evars.specs.Places.{Places, store_of, HasNameOr}
use Rattle.lq_states.specs.Views.{GoalView as TreeView, ProofView as TreeProofView, context_terms, goal_terms, all_terms, first_unfit, fitting_view}
use Rattle.lq_goals.specs.declared.views.GoalView.{GoalView}
use Rattle.lq_goals.specs.declared.views.ProofView.{ProofView}

-- a term of the bank that can be read through the store
pub record IsReadable (bank : Terms) (s : Places) (t : TermId) : Type 0 where
  pub has : HasTerm bank t
  pub over : IsOver (store_of bank s).variables (tree_of bank t)
  pub within : Within 0 (tree_of bank t)

abbrev pub IsReadableOr : Terms → Places → Option TermId → Type 0
IsReadableOr bank s None = Unit {0}
IsReadableOr bank s (Some t) = IsReadable bank s t

-- a hypothesis whose body and type can be read
pub record CanRead (bank : Terms) (s : Places) (h : Hypothesis) : Type 0 where
  pub name : HasName bank h.name
  pub body : IsReadableOr bank s h.body
  pub kind : IsReadable bank s h.kind

-- a limit is passed, and it is the one that the answer says
abbrev pub Tells : StoreFault → Option TreeFault → Type 0
Tells StoreFault.TooLarge f = f ≡ Some read_too_large
Tells StoreFault.TooDeep f = f ≡ Some read_too_deep
Tells StoreFault.Full f = ⊥
Tells StoreFault.NoMemory f = Unit {0}

-- what is read where no limit is passed, or the first limit that is. Memory may end at any time.
abbrev pub ReadsAs : {A : Type 0} → (A → Type 0) → Result A StoreFault → Option TreeFault → Type 0
ReadsAs Is (Ok a) f = (f ≡ None) × Is a
ReadsAs Is (Err e) f = Tells e f

-- An answer is the definition's: the same thing by the relation, or the same limit. Memory may end at any time.
abbrev pub Shows : {A B : Type 0} → (B → A → Type 0) → Result A StoreFault → Result B TreeFault → Type 0
Shows Is (Ok a) (Ok b) = Is b a
Shows Is (Ok a) (Err f) = ⊥
Shows Is (Err e) (Ok b) = Tells e None
Shows Is (Err e) (Err f) = Tells e (Some f)

-- the term is that tree
abbrev pub IsTree : Terms → Tree → TermId → Type 0
IsTree bank t u = HasTerm bank u × (tree_of bank u ≡ t)

abbrev pub IsBody : Terms → Option Tree → Option TermId → Type 0
IsBody bank b o = HasBody bank o × (option_map (tree_of bank) o ≡ b)

abbrev pub IsHypothesis : Terms → TreeHypothesis → Hypothesis → Type 0
IsHypothesis bank h k = HasAllOf bank k × (hypothesis_of bank k ≡ h)

abbrev pub AreHypotheses : Terms → List TreeHypothesis → List Hypothesis → Type 0
AreHypotheses bank hs ks = HasContext bank ks × (context_of bank ks ≡ hs)

-- the terms of a body
abbrev pub body_terms : Option Tree → List Tree
body_terms None = []
body_terms (Some t) = t ∷ []

-- the terms of a hypothesis, its body before its type
abbrev pub hypothesis_terms : TreeHypothesis → List Tree
hypothesis_terms h = body_terms h.body ++ h.kind ∷ []

-- the term is variable 0 with each hypothesis of its context for itself
abbrev pub IsRoot : Terms → Places → TermId → Type 0
IsRoot bank s t = (v : Variable) → slice_get s.variables 0 ≡ Some v → IsTree bank (Evar 0 (own_instance (context_of bank v.context))) t

-- a goal's parts are those of a goal over trees
pub record IsView (bank : Terms) (g : TreeView) (v : GoalView) : Type 0 where
  pub name : HasNameOr bank v.name × (option_map (text_of bank) v.name ≡ g.name)
  pub context : AreHypotheses bank g.context v.context
  pub kind : IsTree bank g.kind v.kind

-- goals one by one
abbrev pub AreViews : Terms → List TreeView → List GoalView → Type 0
AreViews bank [] [] = Unit {0}
AreViews bank (g ∷ gs) (v ∷ vs) = IsView bank g v × AreViews bank gs vs
AreViews bank [] (v ∷ vs) = ⊥
AreViews bank (g ∷ gs) [] = ⊥

-- The answer of a goal as it reads: the goal is there, and the answer is the definition's. Memory may end at any time.
abbrev pub ShowsGoal : Terms → Result GoalView StoreFault → Option TreeView → Type 0
ShowsGoal bank r None = ⊥
ShowsGoal bank r (Some g) = Shows (IsView bank) r (fitting_view g)

-- a proof's goals are those of a proof over trees
pub record IsProofView (bank : Terms) (g : TreeProofView) (v : ProofView) : Type 0 where
  pub goals : AreViews bank g.goals v.goals.items
  pub shelved : v.shelved ≡ g.shelved
