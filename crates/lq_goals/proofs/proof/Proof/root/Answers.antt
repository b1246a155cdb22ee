use Rattle.std.proofs.Common.{sym, subst, ◌∙◌, ap, length, ◌<◌}
use Rattle.lq_solving.specs.Kept.{IsStore}
use Rattle.lq_evars.specs.Places.{store_of}
use Rattle.lq_goals.specs.Seen.{IsReadable, IsRoot}
use Rattle.lq_goals.proofs.Viewing.{kept_grown}
use Rattle.lq_goals.proofs.RootLaws.{root_readable, root_shows}
use Rattle.lq_goals.proofs.proof.Proof.root.Goals as goal

pub read-requires-clause-kept : goal.read-requires-clause-kept
read-requires-clause-kept c =
    subst (λ s. IsStore (store_of c.root_variable.new.bank s)) (sym c.store-2.ensures)
    (kept_grown c.args.bank.now c.root_variable.new.bank c.root_variable.ensures.grows c.args.self.now.store c.requires.store c.requires.kept)

pub read-requires-clause-term : goal.read-requires-clause-term
read-requires-clause-term c =
    (root_readable c.root_variable.new.bank c.args.self.now.store c.requires.rooted c.in_ok-whole.whole (subst (λ s. IsRoot c.root_variable.new.bank s c.in_ok-whole.whole) c.store.ensures c.in_ok-whole.ensures.is)).has

pub read-requires-clause-over : goal.read-requires-clause-over
read-requires-clause-over c =
    (subst (λ s. IsReadable c.root_variable.new.bank s c.in_ok-whole.whole) (sym c.store-2.ensures)
    (root_readable c.root_variable.new.bank c.args.self.now.store c.requires.rooted c.in_ok-whole.whole (subst (λ s. IsRoot c.root_variable.new.bank s c.in_ok-whole.whole) c.store.ensures c.in_ok-whole.ensures.is))).over

pub read-requires-clause-closed : goal.read-requires-clause-closed
read-requires-clause-closed c =
    (root_readable c.root_variable.new.bank c.args.self.now.store c.requires.rooted c.in_ok-whole.whole (subst (λ s. IsRoot c.root_variable.new.bank s c.in_ok-whole.whole) c.store.ensures c.in_ok-whole.ensures.is)).within

pub returns-clause-told : goal.returns-clause-told
returns-clause-told c =
    root_shows c.args.bank.now c.root_variable.new.bank c.read.new.bank c.root_variable.ensures.grows c.args.self.now c.requires.store c.requires.kept c.requires.rooted c.store-2.result.now c.store-2.ensures c.in_ok-whole.whole
    (subst (λ s. IsRoot c.root_variable.new.bank s c.in_ok-whole.whole) c.store.ensures c.in_ok-whole.ensures.is) c.read.result c.read.ensures.answer
