-- Proofs: what the code's proofs stand for, and what is true of them.
use Rattle.std.specs.Prelude.{◌≡◌, ◌≤◌, [], Option, Some, None, Result, Ok, Err}
use Rattle.lq_trees.specs.Tree.{Tree, Context}
use Rattle.lq_trees.specs.Size.{depth}
use Rattle.lq_trees.specs.Index.{Within}
use Rattle.lq_terms.specs.declared.nodes.TermId.{TermId}
use Rattle.lq_terms.specs.declared.nodes.Node.{Node}
use Rattle.lq_terms.specs.Terms.{Terms, HasTerm, HasParts, tree_of, node_tree}
use Rattle.lq_terms.specs.Contexts.{context_of, HasContext}
use Rattle.lq_output.specs.Faults.{Fault, not_built, differs, open_goals}
use Rattle.lq_output.specs.Steps as steps
use Rattle.lq_script.specs.declared.fault.SentenceFault.{SentenceFault}
use Rattle.lq_script.specs.declared.tactics.Proof.{Proof}
use Rattle.lq_script.specs.Simple.{IsSimple}
use Rattle.lq_script.specs.Introduced.{Introduced, names_of, abstraction}

-- a proof
abbrev pub proof_of : Terms → Proof → steps.Proof
proof_of bank (Proof.Goal context conclusion) = steps.goal (context_of bank context) (tree_of bank conclusion)
proof_of bank (Proof.Finished term) = steps.finished (tree_of bank term)

-- the bank has all that a proof names
abbrev pub HasProof : Terms → Proof → Type 0
HasProof bank (Proof.Goal context conclusion) = HasContext bank context × HasTerm bank conclusion
HasProof bank (Proof.Finished term) = HasTerm bank term

-- a statement is a closed simple type, at most 201 deep
pub record IsStatement (bank : Terms) (t : TermId) : Type 0 where
  pub has : HasTerm bank t
  pub simple : IsSimple [] (tree_of bank t)
  pub below : Within 0 (tree_of bank t)
  pub low : depth (tree_of bank t) ≤ 201

-- a goal is reached from the statement by introductions; a finished term is closed
abbrev pub Reaches : Tree → steps.Proof → Type 0
Reaches A (steps.goal g T) = Introduced A g T
Reaches A (steps.finished t) = Within 0 t

-- what a refusal tells is so; memory may end at any time
abbrev pub Tells : Terms → SentenceFault → (Fault → Type 0) → Type 0
Tells bank SentenceFault.NotBuilt So = So not_built
Tells bank (SentenceFault.Differs found wanted) So = HasTerm bank found × HasTerm bank wanted × So (differs (tree_of bank found) (tree_of bank wanted))
Tells bank (SentenceFault.OpenGoals k) So = So (open_goals k)
Tells bank SentenceFault.NoMemory So = Unit {0}

-- the proof that tactics lead to, or their fault
abbrev pub Proves : Terms → Result Proof SentenceFault → Result steps.Proof Fault → Type 0
Proves bank (Ok p) r = HasProof bank p × (r ≡ Ok (proof_of bank p))
Proves bank (Err e) r = Tells bank e (λ f. r ≡ Err f)

-- what a name is known as: a node that stands for it once the hypotheses are abstracted, and its type
pub record IsKnown (bank : Terms) (g : Context) (o : Option (Tree × Tree)) (node : Node) (kind : TermId) : Type 0 where
  pub parts : HasParts bank node
  pub has : HasTerm bank kind
  pub term : Tree
  pub is : o ≡ Some (term, tree_of bank kind)
  pub leaf : (A T : Tree) → Introduced A g T → IsSimple [] A → steps.abstracted g term ≡ abstraction (names_of g) A (node_tree bank node)

abbrev pub Knows : Terms → Context → Option (Node × TermId) → Option (Tree × Tree) → Type 0
Knows bank g None o = o ≡ None
Knows bank g (Some p) o = IsKnown bank g o p.0 p.1
