use Rattle.std.proofs.Common.{sym, ◌∙◌}
use Rattle.std.proofs.Common.{subst as along}
use Rattle.lq_terms.specs.Terms.{tree_of, text_of}
use Rattle.lq_env.specs.Families.{family_of, IsFault}
use Rattle.lq_env.proofs.FaultLaws.{free_argument, argument_own, argument_bad}
use Rattle.lq_env.proofs.positivity.argument_fault.Goals as goal

pub returns-then-not-branch : goal.returns-then-not-branch
returns-then-not-branch c = free_argument (family_of c.args.bank.now c.args.family.now) (text_of c.args.bank.now c.args.constructor) c.args.number (tree_of c.args.bank.now c.args.kind) (sym c.in_ok-holds.ensures ∙ c.if-not-branch.true)

pub returns-then-branch : goal.returns-then-branch
returns-then-branch c =
    argument_own (family_of c.args.bank.now c.args.family.now) (text_of c.args.bank.now c.args.constructor) c.args.number (tree_of c.args.bank.now c.args.kind) c.in_ok-is_own.field-0 c.in_ok-is_own.ensures c.if-branch.true (sym c.in_ok-holds.ensures ∙ c.if-not-branch.false)

pub returns : goal.returns
returns c =
    along (λ e. IsFault c.args.bank.now c.misuse.result e)
    (sym (argument_bad (family_of c.args.bank.now c.args.family.now) (text_of c.args.bank.now c.args.constructor) c.args.number (tree_of c.args.bank.now c.args.kind) c.in_ok-is_own.field-0 c.in_ok-is_own.ensures c.if-branch.false (sym c.in_ok-holds.ensures ∙ c.if-not-branch.false)))
    c.misuse.ensures
