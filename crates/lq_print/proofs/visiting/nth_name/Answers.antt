use Rattle.std.proofs.Common.{◌∙◌, sym}
use Rattle.lq_env.specs.Families.{HasConstructor}
use Rattle.lq_print.proofs.FamilyLaws.{nth_is, nth_none}
use Rattle.lq_print.proofs.Lists.{all_at}
use Rattle.lq_print.proofs.visiting.nth_name.Goals as goal

pub returns-then-place-constructors : goal.returns-then-place-constructors
returns-then-place-constructors c = sym (nth_none c.args.bank.now c.args.constructors.now c.args.place c.if-place-constructors.true)

pub text-requires : goal.text-requires
text-requires c =
    (all_at (HasConstructor c.args.bank.now) c.args.constructors.now c.args.place (record { place = 0 }, record { place = 0 }) c.requires c.if-place-constructors.false).0

pub returns : goal.returns
returns c =
    c.text.ensures.text
    ∙ sym (nth_is c.args.bank.now c.args.constructors.now c.args.place (record { place = 0 }, record { place = 0 }) c.if-place-constructors.false)
