use Rattle.lq_stream.proofs.SuccessArms.{goes_on, tested, lessened, cut}
use Rattle.lq_stream.proofs.Switching.{offs_keep, take_keep}
use Rattle.lq_stream.proofs.SuccessCosts.{falls_then, falls_test, falls_less, falls_only}
use Rattle.lq_stream.proofs.Tops.{shrinks_same, shrinks_offs, shrinks_take}
use Rattle.lq_stream.proofs.steps.passed.Goals as goal

pub returns-in_ok-code-in-Then-clause-stands : goal.returns-in_ok-code-in-Then-clause-stands
returns-in_ok-code-in-Then-clause-stands g c =
    λ ls ks f q. goes_on g.M.Machine.rest_rank (g.M.Machine.told c.args.machine.now) (g.M.Machine.does c.args.machine.now) (g.M.Machine.state c.args.machine.now) ls ks c.args.choices.now.items c.args.choices.now.items f c.args.frame.now ((g.M.Machine.told c.args.machine.now).value c.args.value) c.in-Then.rest ((g.M.Machine.told c.enter.new.self).code c.in_ok-code-in-Then.code) c.in-Then.is c.in_ok-code-in-Then.ensures.entered q

pub returns-in_ok-code-in-Test-clause-stands : goal.returns-in_ok-code-in-Test-clause-stands
returns-in_ok-code-in-Test-clause-stands g c =
    λ ls ks f q. tested g.M.Machine.rest_rank (g.M.Machine.told c.args.machine.now) (g.M.Machine.does c.args.machine.now) (g.M.Machine.state c.args.machine.now) ls ks c.args.choices.now.items c.switch_off.new.choices.items f c.args.frame.now ((g.M.Machine.told c.args.machine.now).value c.args.value) c.in-Test.rest c.in-Test.height ((g.M.Machine.told c.enter-in-Test.new.self).code c.in_ok-code-in-Test.code) c.in-Test.is c.in_ok-code-in-Test.ensures.entered c.switch_off.ensures q

pub returns-in-Less-clause-stands : goal.returns-in-Less-clause-stands
returns-in-Less-clause-stands g c =
    λ ls ks f q. lessened g.M.Machine.rest_rank (g.M.Machine.told c.args.machine.now) (g.M.Machine.does c.args.machine.now) (g.M.Machine.state c.args.machine.now) ls ks c.args.choices.now.items c.switch_off-in-Less.new.choices.items f c.args.frame.now ((g.M.Machine.told c.args.machine.now).value c.args.value) c.in-Less.height c.in-Less.is c.switch_off-in-Less.ensures q

pub returns-in-Only-clause-stands : goal.returns-in-Only-clause-stands
returns-in-Only-clause-stands g c =
    λ ls ks f q. cut g.M.Machine.rest_rank (g.M.Machine.told c.args.machine.now) (g.M.Machine.does c.args.machine.now) (g.M.Machine.state c.args.machine.now) ls ks c.args.choices.now.items c.truncate.new.self.items f c.args.frame.now ((g.M.Machine.told c.args.machine.now).value c.args.value) c.in-Only.height c.in-Only.is c.truncate.ensures.items q

pub returns-in_ok-code-in-Test-clause-keeps : goal.returns-in_ok-code-in-Test-clause-keeps
returns-in_ok-code-in-Test-clause-keeps g c =
    λ n q. (offs_keep (g.M.Machine.known c.args.machine.now) n c.in-Test.height c.args.choices.now.items c.switch_off.new.choices.items c.switch_off.ensures q, c.in_ok-code-in-Test.ensures.has)

pub returns-in-Less-clause-keeps : goal.returns-in-Less-clause-keeps
returns-in-Less-clause-keeps g c =
    λ n q. (offs_keep (g.M.Machine.known c.args.machine.now) n c.in-Less.height c.args.choices.now.items c.switch_off-in-Less.new.choices.items c.switch_off-in-Less.ensures q, c.requires.value)

pub returns-in-Only-clause-keeps : goal.returns-in-Only-clause-keeps
returns-in-Only-clause-keeps g c =
    λ n q. (take_keep (g.M.Machine.known c.args.machine.now) n c.in-Only.height c.args.choices.now.items c.truncate.new.self.items c.truncate.ensures.items q, c.requires.value)

pub returns-in_ok-code-in-Then-clause-falls : goal.returns-in_ok-code-in-Then-clause-falls
returns-in_ok-code-in-Then-clause-falls g c =
    λ ls ks. falls_then g.M.Machine.rank g.M.Machine.rest_rank (g.M.Machine.told c.args.machine.now) (g.M.Machine.does c.args.machine.now) ls ks c.args.choices.now.items c.args.choices.now.items c.args.frame.now ((g.M.Machine.told c.args.machine.now).value c.args.value) c.in-Then.rest ((g.M.Machine.told c.enter.new.self).code c.in_ok-code-in-Then.code) c.in-Then.is c.in_ok-code-in-Then.ensures.entered ((g.met.M.Machine.lawful c.args.machine.now).enters_falls ((g.M.Machine.told c.args.machine.now).rest c.in-Then.rest) ((g.M.Machine.told c.args.machine.now).value c.args.value))

pub returns-in_ok-code-in-Test-clause-falls : goal.returns-in_ok-code-in-Test-clause-falls
returns-in_ok-code-in-Test-clause-falls g c =
    λ ls ks. falls_test g.M.Machine.rank g.M.Machine.rest_rank (g.M.Machine.told c.args.machine.now) (g.M.Machine.does c.args.machine.now) ls ks c.args.choices.now.items c.switch_off.new.choices.items c.args.frame.now ((g.M.Machine.told c.args.machine.now).value c.args.value) c.in-Test.rest c.in-Test.height ((g.M.Machine.told c.enter-in-Test.new.self).code c.in_ok-code-in-Test.code) c.in-Test.is c.in_ok-code-in-Test.ensures.entered c.switch_off.ensures ((g.met.M.Machine.lawful c.args.machine.now).enters_falls ((g.M.Machine.told c.args.machine.now).rest c.in-Test.rest) ((g.M.Machine.told c.args.machine.now).value c.args.value))

pub returns-in-Less-clause-falls : goal.returns-in-Less-clause-falls
returns-in-Less-clause-falls g c =
    λ ls ks. falls_less g.M.Machine.rank g.M.Machine.rest_rank (g.M.Machine.told c.args.machine.now) (g.M.Machine.does c.args.machine.now) ls ks c.args.choices.now.items c.switch_off-in-Less.new.choices.items c.args.frame.now ((g.M.Machine.told c.args.machine.now).value c.args.value) c.in-Less.height c.in-Less.is c.switch_off-in-Less.ensures

pub returns-in-Only-clause-falls : goal.returns-in-Only-clause-falls
returns-in-Only-clause-falls g c =
    λ ls ks. falls_only g.M.Machine.rank g.M.Machine.rest_rank (g.M.Machine.told c.args.machine.now) (g.M.Machine.does c.args.machine.now) ls ks c.args.choices.now.items c.truncate.new.self.items c.args.frame.now ((g.M.Machine.told c.args.machine.now).value c.args.value) c.in-Only.height c.in-Only.is c.truncate.ensures.items

pub returns-in_ok-code-in-Then-clause-shrinks : goal.returns-in_ok-code-in-Then-clause-shrinks
returns-in_ok-code-in-Then-clause-shrinks g c =
    shrinks_same c.args.choices.now.items

pub returns-in_ok-code-in-Test-clause-shrinks : goal.returns-in_ok-code-in-Test-clause-shrinks
returns-in_ok-code-in-Test-clause-shrinks g c =
    shrinks_offs c.in-Test.height c.args.choices.now.items c.switch_off.new.choices.items c.switch_off.ensures

pub returns-in-Less-clause-shrinks : goal.returns-in-Less-clause-shrinks
returns-in-Less-clause-shrinks g c =
    shrinks_offs c.in-Less.height c.args.choices.now.items c.switch_off-in-Less.new.choices.items c.switch_off-in-Less.ensures

pub returns-in-Only-clause-shrinks : goal.returns-in-Only-clause-shrinks
returns-in-Only-clause-shrinks g c =
    shrinks_take c.in-Only.height c.args.choices.now.items c.truncate.new.self.items c.truncate.ensures.items
