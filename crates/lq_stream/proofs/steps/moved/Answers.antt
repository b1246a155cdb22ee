use Rattle.std.proofs.Common.{rules, ◌≡◌, length, subst}
use Rattle.lq_stream.specs.Stepping.{EachPart}
use Rattle.lq_stream.specs.declared.stacks.Frame.TheVariants.{Then, Test, Only, Less, Alone}
use Rattle.lq_stream.specs.declared.stacks.Choice.TheVariants.{Alternative, Otherwise, Lowering, NoSuccess}
use Rattle.lq_stream.proofs.MoveArms.{links_hold, choices_hold, choice_holds, place_old, arm_give, arm_fail, arm_plus, arm_bind, arm_branch, arm_once, arm_lower, arm_sole}
use Rattle.lq_stream.proofs.MoveCosts.{falls_give, falls_fail, falls_plus, falls_bind, falls_branch, falls_once, falls_lower, falls_sole}
use Rattle.lq_stream.proofs.steps.moved.Goals as goal

pub returns-in-Give-clause-stands : goal.returns-in-Give-clause-stands
returns-in-Give-clause-stands g c =
    λ f q. arm_give (g.M.Machine.known c.args.machine.now) g.M.Machine.rest_rank (g.M.Machine.told c.args.machine.now) (g.M.Machine.does c.args.machine.now) (g.M.Machine.state c.args.machine.now) c.args.links.now.items c.args.choices.now.items c.args.place c.args.next f c.in-Give.value c.in-Give.is q

pub returns-in-Fail-clause-stands : goal.returns-in-Fail-clause-stands
returns-in-Fail-clause-stands g c =
    λ f q. arm_fail (g.M.Machine.known c.args.machine.now) g.M.Machine.rest_rank (g.M.Machine.told c.args.machine.now) (g.M.Machine.does c.args.machine.now) (g.M.Machine.state c.args.machine.now) c.args.links.now.items c.args.choices.now.items c.args.place c.args.next f c.in-Fail.level c.in-Fail.cause c.in-Fail.is q

pub returns-in_ok-push-in-Plus-clause-choices : goal.returns-in_ok-push-in-Plus-clause-choices
returns-in_ok-push-in-Plus-clause-choices g c =
    choice_holds (g.M.Machine.known c.args.machine.now) (length c.args.links.now.items) c.args.choices.now.items c.push.new.self.items (Alternative c.in-Plus.second c.mark.result c.args.place) c.in_ok-push-in-Plus.ensures.items c.requires.choices ((subst (EachPart (g.M.Machine.known c.args.machine.now)) c.in-Plus.is c.requires.parts).1, c.mark.ensures.known, c.requires.place)

pub returns-in_ok-push-in-Plus-clause-stands : goal.returns-in_ok-push-in-Plus-clause-stands
returns-in_ok-push-in-Plus-clause-stands g c =
    λ f q. arm_plus (g.M.Machine.known c.args.machine.now) g.M.Machine.rest_rank (g.M.Machine.told c.args.machine.now) (g.M.Machine.does c.args.machine.now) (g.M.Machine.state c.args.machine.now) c.args.links.now.items c.args.choices.now.items c.args.place c.args.next f c.in-Plus.first c.in-Plus.second c.mark.result c.push.new.self.items c.in-Plus.is c.mark.ensures.state c.in_ok-push-in-Plus.ensures.items q

pub returns-in_ok-below-in-Bind-clause-links : goal.returns-in_ok-below-in-Bind-clause-links
returns-in_ok-below-in-Bind-clause-links g c =
    links_hold (g.M.Machine.known c.args.machine.now).rest c.args.links.now.items c.push-in-Bind.new.links.items (Then c.in-Bind.rest) c.args.place c.in_ok-below-in-Bind.ensures.pushed.0 c.requires.links c.requires.place (subst (EachPart (g.M.Machine.known c.args.machine.now)) c.in-Bind.is c.requires.parts).1

pub returns-in_ok-below-in-Bind-clause-choices : goal.returns-in_ok-below-in-Bind-clause-choices
returns-in_ok-below-in-Bind-clause-choices g c =
    choices_hold (g.M.Machine.known c.args.machine.now) c.args.links.now.items c.push-in-Bind.new.links.items (record { frame = Then c.in-Bind.rest; below = c.args.place }) c.args.choices.now.items c.in_ok-below-in-Bind.ensures.pushed.0 c.requires.choices

pub returns-in_ok-below-in-Bind-clause-stands : goal.returns-in_ok-below-in-Bind-clause-stands
returns-in_ok-below-in-Bind-clause-stands g c =
    λ f q. arm_bind (g.M.Machine.known c.args.machine.now) g.M.Machine.rest_rank (g.M.Machine.told c.args.machine.now) (g.M.Machine.does c.args.machine.now) (g.M.Machine.state c.args.machine.now) c.args.links.now.items c.args.choices.now.items c.args.place c.args.next f c.push-in-Bind.new.links.items c.in_ok-below-in-Bind.below c.requires.place c.requires.choices c.in-Bind.code c.in-Bind.rest c.in-Bind.is c.in_ok-below-in-Bind.ensures.pushed q

pub returns-in_ok-push-in-Branch-clause-links : goal.returns-in_ok-push-in-Branch-clause-links
returns-in_ok-push-in-Branch-clause-links g c =
    links_hold (g.M.Machine.known c.args.machine.now).rest c.args.links.now.items c.push-in-Branch.new.links.items (Test c.in-Branch.rest c.len-height.result) c.args.place c.in_ok-below-in-Branch.ensures.pushed.0 c.requires.links c.requires.place (subst (EachPart (g.M.Machine.known c.args.machine.now)) c.in-Branch.is c.requires.parts).1

pub returns-in_ok-push-in-Branch-clause-choices : goal.returns-in_ok-push-in-Branch-clause-choices
returns-in_ok-push-in-Branch-clause-choices g c =
    choice_holds (g.M.Machine.known c.args.machine.now) (length c.push-in-Branch.new.links.items) c.args.choices.now.items c.push-in-Branch-2.new.self.items (Otherwise c.in-Branch.otherwise c.mark-in-Branch.result c.args.place) c.in_ok-push-in-Branch.ensures.items (choices_hold (g.M.Machine.known c.args.machine.now) c.args.links.now.items c.push-in-Branch.new.links.items (record { frame = Test c.in-Branch.rest c.len-height.result; below = c.args.place }) c.args.choices.now.items c.in_ok-below-in-Branch.ensures.pushed.0 c.requires.choices) ((subst (EachPart (g.M.Machine.known c.args.machine.now)) c.in-Branch.is c.requires.parts).2, c.mark-in-Branch.ensures.known, place_old c.args.links.now.items c.push-in-Branch.new.links.items (record { frame = Test c.in-Branch.rest c.len-height.result; below = c.args.place }) c.args.place c.in_ok-below-in-Branch.ensures.pushed.0 c.requires.place)

pub returns-in_ok-push-in-Branch-clause-stands : goal.returns-in_ok-push-in-Branch-clause-stands
returns-in_ok-push-in-Branch-clause-stands g c =
    λ f q. let n : c.len-height.result ≡ length c.args.choices.now.items = search (rules, c.len-height.ensures) in arm_branch (g.M.Machine.known c.args.machine.now) g.M.Machine.rest_rank (g.M.Machine.told c.args.machine.now) (g.M.Machine.does c.args.machine.now) (g.M.Machine.state c.args.machine.now) c.args.links.now.items c.args.choices.now.items c.args.place c.args.next f c.push-in-Branch.new.links.items c.in_ok-below-in-Branch.below c.requires.place c.requires.choices c.in-Branch.test c.in-Branch.otherwise c.in-Branch.rest c.len-height.result c.mark-in-Branch.result c.push-in-Branch-2.new.self.items c.in-Branch.is n c.in_ok-below-in-Branch.ensures.pushed c.in_ok-push-in-Branch.ensures.items c.mark-in-Branch.ensures.state q

pub returns-in_ok-below-in-Once-clause-links : goal.returns-in_ok-below-in-Once-clause-links
returns-in_ok-below-in-Once-clause-links g c =
    links_hold (g.M.Machine.known c.args.machine.now).rest c.args.links.now.items c.push-in-Once.new.links.items (Only c.len-height-in-Once.result) c.args.place c.in_ok-below-in-Once.ensures.pushed.0 c.requires.links c.requires.place tt

pub returns-in_ok-below-in-Once-clause-choices : goal.returns-in_ok-below-in-Once-clause-choices
returns-in_ok-below-in-Once-clause-choices g c =
    choices_hold (g.M.Machine.known c.args.machine.now) c.args.links.now.items c.push-in-Once.new.links.items (record { frame = Only c.len-height-in-Once.result; below = c.args.place }) c.args.choices.now.items c.in_ok-below-in-Once.ensures.pushed.0 c.requires.choices

pub returns-in_ok-below-in-Once-clause-stands : goal.returns-in_ok-below-in-Once-clause-stands
returns-in_ok-below-in-Once-clause-stands g c =
    λ f q. let n : c.len-height-in-Once.result ≡ length c.args.choices.now.items = search (rules, c.len-height-in-Once.ensures) in arm_once (g.M.Machine.known c.args.machine.now) g.M.Machine.rest_rank (g.M.Machine.told c.args.machine.now) (g.M.Machine.does c.args.machine.now) (g.M.Machine.state c.args.machine.now) c.args.links.now.items c.args.choices.now.items c.args.place c.args.next f c.push-in-Once.new.links.items c.in_ok-below-in-Once.below c.requires.place c.requires.choices c.in-Once.code c.len-height-in-Once.result c.in-Once.is n c.in_ok-below-in-Once.ensures.pushed q

pub returns-in_ok-push-in-Sole-clause-links : goal.returns-in_ok-push-in-Sole-clause-links
returns-in_ok-push-in-Sole-clause-links g c =
    links_hold (g.M.Machine.known c.args.machine.now).rest c.args.links.now.items c.push-in-Sole.new.links.items (Alone c.len-height-in-Sole.result) c.args.place c.in_ok-below-in-Sole.ensures.pushed.0 c.requires.links c.requires.place tt

pub returns-in_ok-push-in-Sole-clause-choices : goal.returns-in_ok-push-in-Sole-clause-choices
returns-in_ok-push-in-Sole-clause-choices g c =
    choice_holds (g.M.Machine.known c.args.machine.now) (length c.push-in-Sole.new.links.items) c.args.choices.now.items c.push-in-Sole-2.new.self.items (NoSuccess c.in-Sole.cause c.args.place) c.in_ok-push-in-Sole.ensures.items (choices_hold (g.M.Machine.known c.args.machine.now) c.args.links.now.items c.push-in-Sole.new.links.items (record { frame = Alone c.len-height-in-Sole.result; below = c.args.place }) c.args.choices.now.items c.in_ok-below-in-Sole.ensures.pushed.0 c.requires.choices) ((subst (EachPart (g.M.Machine.known c.args.machine.now)) c.in-Sole.is c.requires.parts).1, place_old c.args.links.now.items c.push-in-Sole.new.links.items (record { frame = Alone c.len-height-in-Sole.result; below = c.args.place }) c.args.place c.in_ok-below-in-Sole.ensures.pushed.0 c.requires.place)

pub returns-in_ok-push-in-Sole-clause-stands : goal.returns-in_ok-push-in-Sole-clause-stands
returns-in_ok-push-in-Sole-clause-stands g c =
    λ f q. let n : c.len-height-in-Sole.result ≡ length c.args.choices.now.items = search (rules, c.len-height-in-Sole.ensures) in arm_sole (g.M.Machine.known c.args.machine.now) g.M.Machine.rest_rank (g.M.Machine.told c.args.machine.now) (g.M.Machine.does c.args.machine.now) (g.M.Machine.state c.args.machine.now) c.args.links.now.items c.args.choices.now.items c.args.place c.args.next f c.push-in-Sole.new.links.items c.in_ok-below-in-Sole.below c.requires.place c.requires.choices c.in-Sole.code c.in-Sole.cause c.len-height-in-Sole.result c.push-in-Sole-2.new.self.items c.in-Sole.is n c.in_ok-below-in-Sole.ensures.pushed c.in_ok-push-in-Sole.ensures.items q

pub returns-in_ok-push-in-Lower-clause-links : goal.returns-in_ok-push-in-Lower-clause-links
returns-in_ok-push-in-Lower-clause-links g c =
    links_hold (g.M.Machine.known c.args.machine.now).rest c.args.links.now.items c.push-in-Lower.new.links.items (Less c.len-height-in-Lower.result) c.args.place c.in_ok-below-in-Lower.ensures.pushed.0 c.requires.links c.requires.place tt

pub returns-in_ok-push-in-Lower-clause-choices : goal.returns-in_ok-push-in-Lower-clause-choices
returns-in_ok-push-in-Lower-clause-choices g c =
    choice_holds (g.M.Machine.known c.args.machine.now) (length c.push-in-Lower.new.links.items) c.args.choices.now.items c.push-in-Lower-2.new.self.items (Lowering) c.in_ok-push-in-Lower.ensures.items (choices_hold (g.M.Machine.known c.args.machine.now) c.args.links.now.items c.push-in-Lower.new.links.items (record { frame = Less c.len-height-in-Lower.result; below = c.args.place }) c.args.choices.now.items c.in_ok-below-in-Lower.ensures.pushed.0 c.requires.choices) tt

pub returns-in_ok-push-in-Lower-clause-stands : goal.returns-in_ok-push-in-Lower-clause-stands
returns-in_ok-push-in-Lower-clause-stands g c =
    λ f q. let n : c.len-height-in-Lower.result ≡ length c.args.choices.now.items = search (rules, c.len-height-in-Lower.ensures) in arm_lower (g.M.Machine.known c.args.machine.now) g.M.Machine.rest_rank (g.M.Machine.told c.args.machine.now) (g.M.Machine.does c.args.machine.now) (g.M.Machine.state c.args.machine.now) c.args.links.now.items c.args.choices.now.items c.args.place c.args.next f c.push-in-Lower.new.links.items c.in_ok-below-in-Lower.below c.requires.place c.requires.choices c.in-Lower.code c.len-height-in-Lower.result c.push-in-Lower-2.new.self.items c.in-Lower.is n c.in_ok-below-in-Lower.ensures.pushed c.in_ok-push-in-Lower.ensures.items q

pub returns-in-Give-clause-falls : goal.returns-in-Give-clause-falls
returns-in-Give-clause-falls g c =
    λ a q. falls_give (g.M.Machine.known c.args.machine.now) g.M.Machine.rank g.M.Machine.rest_rank (g.M.Machine.told c.args.machine.now) (g.M.Machine.does c.args.machine.now) (g.M.Machine.state c.args.machine.now) c.args.links.now.items c.args.choices.now.items c.args.place c.args.next a c.in-Give.value

pub returns-in-Fail-clause-falls : goal.returns-in-Fail-clause-falls
returns-in-Fail-clause-falls g c =
    λ a q. falls_fail (g.M.Machine.known c.args.machine.now) g.M.Machine.rank g.M.Machine.rest_rank (g.M.Machine.told c.args.machine.now) (g.M.Machine.does c.args.machine.now) (g.M.Machine.state c.args.machine.now) c.args.links.now.items c.args.choices.now.items c.args.place c.args.next a c.in-Fail.level c.in-Fail.cause

pub returns-in_ok-push-in-Plus-clause-falls : goal.returns-in_ok-push-in-Plus-clause-falls
returns-in_ok-push-in-Plus-clause-falls g c =
    λ a q. falls_plus (g.M.Machine.known c.args.machine.now) g.M.Machine.rank g.M.Machine.rest_rank (g.M.Machine.told c.args.machine.now) (g.M.Machine.does c.args.machine.now) (g.M.Machine.state c.args.machine.now) c.args.links.now.items c.args.choices.now.items c.args.place c.args.next a c.in-Plus.first c.in-Plus.second c.in-Plus.is q

pub returns-in_ok-below-in-Bind-clause-falls : goal.returns-in_ok-below-in-Bind-clause-falls
returns-in_ok-below-in-Bind-clause-falls g c =
    λ a q. falls_bind (g.M.Machine.known c.args.machine.now) g.M.Machine.rank g.M.Machine.rest_rank (g.M.Machine.told c.args.machine.now) (g.M.Machine.does c.args.machine.now) (g.M.Machine.state c.args.machine.now) c.args.links.now.items c.args.choices.now.items c.args.place c.args.next a c.push-in-Bind.new.links.items c.in_ok-below-in-Bind.below c.requires.place c.requires.choices c.in-Bind.code c.in-Bind.rest c.in-Bind.is c.in_ok-below-in-Bind.ensures.pushed q

pub returns-in_ok-push-in-Branch-clause-falls : goal.returns-in_ok-push-in-Branch-clause-falls
returns-in_ok-push-in-Branch-clause-falls g c =
    λ a q. falls_branch (g.M.Machine.known c.args.machine.now) g.M.Machine.rank g.M.Machine.rest_rank (g.M.Machine.told c.args.machine.now) (g.M.Machine.does c.args.machine.now) (g.M.Machine.state c.args.machine.now) c.args.links.now.items c.args.choices.now.items c.args.place c.args.next a c.push-in-Branch.new.links.items c.in_ok-below-in-Branch.below c.requires.place c.requires.choices c.in-Branch.test c.in-Branch.otherwise c.in-Branch.rest c.len-height.result c.mark-in-Branch.result c.push-in-Branch-2.new.self.items c.in-Branch.is c.in_ok-below-in-Branch.ensures.pushed c.in_ok-push-in-Branch.ensures.items q

pub returns-in_ok-below-in-Once-clause-falls : goal.returns-in_ok-below-in-Once-clause-falls
returns-in_ok-below-in-Once-clause-falls g c =
    λ a q. falls_once (g.M.Machine.known c.args.machine.now) g.M.Machine.rank g.M.Machine.rest_rank (g.M.Machine.told c.args.machine.now) (g.M.Machine.does c.args.machine.now) (g.M.Machine.state c.args.machine.now) c.args.links.now.items c.args.choices.now.items c.args.place c.args.next a c.push-in-Once.new.links.items c.in_ok-below-in-Once.below c.requires.place c.requires.choices c.in-Once.code c.len-height-in-Once.result c.in-Once.is c.in_ok-below-in-Once.ensures.pushed q

pub returns-in_ok-push-in-Sole-clause-falls : goal.returns-in_ok-push-in-Sole-clause-falls
returns-in_ok-push-in-Sole-clause-falls g c =
    λ a q. falls_sole (g.M.Machine.known c.args.machine.now) g.M.Machine.rank g.M.Machine.rest_rank (g.M.Machine.told c.args.machine.now) (g.M.Machine.does c.args.machine.now) (g.M.Machine.state c.args.machine.now) c.args.links.now.items c.args.choices.now.items c.args.place c.args.next a c.push-in-Sole.new.links.items c.in_ok-below-in-Sole.below c.requires.place c.requires.choices c.in-Sole.code c.in-Sole.cause c.len-height-in-Sole.result c.push-in-Sole-2.new.self.items c.in-Sole.is c.in_ok-below-in-Sole.ensures.pushed c.in_ok-push-in-Sole.ensures.items q

pub returns-in_ok-push-in-Lower-clause-falls : goal.returns-in_ok-push-in-Lower-clause-falls
returns-in_ok-push-in-Lower-clause-falls g c =
    λ a q. falls_lower (g.M.Machine.known c.args.machine.now) g.M.Machine.rank g.M.Machine.rest_rank (g.M.Machine.told c.args.machine.now) (g.M.Machine.does c.args.machine.now) (g.M.Machine.state c.args.machine.now) c.args.links.now.items c.args.choices.now.items c.args.place c.args.next a c.push-in-Lower.new.links.items c.in_ok-below-in-Lower.below c.requires.place c.requires.choices c.in-Lower.code c.len-height-in-Lower.result c.push-in-Lower-2.new.self.items c.in-Lower.is c.in_ok-below-in-Lower.ensures.pushed c.in_ok-push-in-Lower.ensures.items q
