use Rattle.std.proofs.Common.{sym}
use Rattle.std.proofs.Common.{subst as along}
use Rattle.lq_trees.specs.Index.{Within}
use Rattle.lq_trees.specs.Change.{subst}
use Rattle.lq_trees.proofs.Reach.{within-subst}
use Rattle.lq_terms.specs.Terms.{tree_of}
use Rattle.lq_evars.specs.Places.{store_of}
use Rattle.lq_typing.proofs.KindLaws.{kept_grown, made_over, subst_is_over, read_before}
use Rattle.lq_typing.proofs.kinds.rest_kind.Goals as goal

pub read_kind-requires-clause-kept : goal.read_kind-requires-clause-kept
read_kind-requires-clause-kept c = kept_grown c.args.bank.now c.substituted.new.bank c.in_ok-kind.ensures.grows c.args.store.now c.requires.store c.requires.kept

pub read_kind-requires-clause-over : goal.read_kind-requires-clause-over
read_kind-requires-clause-over c =
    made_over c.args.bank.now c.substituted.new.bank c.in_ok-kind.ensures.grows c.args.store.now c.requires.store c.in_ok-kind.kind (subst (tree_of c.args.bank.now c.args.value) (tree_of c.args.bank.now c.args.rest)) c.in_ok-kind.ensures.made
    (subst_is_over (store_of c.args.bank.now c.args.store.now).variables (tree_of c.args.bank.now c.args.value) (tree_of c.args.bank.now c.args.rest) c.requires.value_over c.requires.rest_over)

pub read_kind-requires-clause-closed : goal.read_kind-requires-clause-closed
read_kind-requires-clause-closed c = along (Within 0) (sym c.in_ok-kind.ensures.made.is) (within-subst 0 (tree_of c.args.bank.now c.args.value) (tree_of c.args.bank.now c.args.rest) c.requires.within c.requires.closed)

pub returns-clause-answer : goal.returns-clause-answer
returns-clause-answer c =
    read_before c.args.bank.now c.substituted.new.bank c.in_ok-kind.ensures.grows c.args.store.now c.requires.store c.read_kind.new.bank c.read_kind.result (tree_of c.substituted.new.bank c.in_ok-kind.kind) (subst (tree_of c.args.bank.now c.args.value) (tree_of c.args.bank.now c.args.rest)) c.in_ok-kind.ensures.made.is c.read_kind.ensures.answer
