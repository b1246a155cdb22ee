use Rattle.std.proofs.Common.{◌≡◌, ◌+◌, ◌≤◌, ℕ, [], length}
use Rattle.std.specs.List.{AllByRecursion}
use Rattle.lq_trees.specs.Tree.{Tree}
use Rattle.lq_terms.specs.declared.nodes.TermId.{TermId}
use Rattle.lq_terms.specs.Terms.{Grows, tree_of}
use Rattle.lq_terms.specs.Contexts.{context_of}
use Rattle.lq_env.specs.Environments.{env_of}
use Rattle.lq_solving.specs.Stores.{Store as TreeStore}
use Rattle.lq_solving.specs.Elaboration.{Givens, found}
use Rattle.lq_evars.specs.Places.{store_of}
use Rattle.lq_tactics.specs.Applying.{not_opened, most_premises}
use Rattle.lq_prims.specs.Making.{HasIn}
use Rattle.lq_prims.specs.Opening.{HasOpening, Carries, open_work, opening_of, openings_of}
use Rattle.lq_prims.specs.Scenes.{scene_by}
use Rattle.lq_prims.proofs.OpenLaws.{Leads}
use Rattle.lq_prims.proofs.opening.opened.Given as goal

abbrev pub invariant-premises : goal.invariant-premises
invariant-premises g l = record {
  some : 1 ≤ l.more;
  room : 16777217 ≤ l.more + length l.last.store.variables;
  last : HasOpening l.work.bank.now l.context l.last;
  all : AllByRecursion (HasOpening l.work.bank.now l.context) l.openings.items;
  carried : (t : TermId) → HasIn l.fn.work.bank.now l.store l.context t → Carries l.work.bank.now l.context t l.last;
  carry : (t : TermId) → HasIn l.fn.work.bank.now l.store l.context t → AllByRecursion (Carries l.work.bank.now l.context t) l.openings.items;
  leads : (s : TreeStore) (k : ℕ) (T t : Tree) (vs : Givens) → Leads
      (λ n. open_work (scene_by (env_of l.fn.work.bank.now l.env) s k (context_of l.fn.work.bank.now l.context) T vs n) most_premises (not_opened (found (store_of l.fn.work.bank.now l.store) t (tree_of l.fn.work.bank.now l.fn.kind))) [])
      (λ n. open_work (scene_by (env_of l.fn.work.bank.now l.env) s k (context_of l.fn.work.bank.now l.context) T vs n) l.more (opening_of l.work.bank.now l.last) (openings_of l.work.bank.now l.openings.items))
      l.fn.work.ticks.now.left l.work.ticks.now.left;
  same_bank : l.work.bank.ghost_name ≡ l.fn.work.bank.ghost_name;
  same_ticks : l.work.ticks.ghost_name ≡ l.fn.work.ticks.ghost_name;
  grows : Grows l.fn.work.bank.now l.work.bank.now;
  budget : l.work.ticks.now.left + l.work.ticks.now.spent ≡ l.fn.work.ticks.now.left + l.fn.work.ticks.now.spent;
  counted : l.steps + l.fn.work.ticks.now.spent ≡ l.initial.steps + l.work.ticks.now.spent;
}

abbrev pub decreases-premises : goal.decreases-premises
decreases-premises g l = l.more
