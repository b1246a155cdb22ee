-- Ltac sentences by the outcome of their work.
use Rattle.lq_trees.specs.Ticks.{Outcome, done, failed, steps_out}
use Rattle.lq_states.specs.Hands.{State}
use Rattle.lq_meaning.specs.Values.{Cause}
use Rattle.lq_texts.specs.Causes as causes
use Rattle.lq_sessions.specs.Told.{of_ltac}
use Rattle.lq_sessions.specs.Sessions.{Session, Opened, Done, goes_on, refused, accepted}

-- what a sentence does by what its work comes to
unfoldable pub told_state : Session → Opened → Outcome Cause State → Done
told_state s o (done t left) = accepted (goes_on s o t.proof)
told_state s o (failed c left) = refused s (of_ltac c)
told_state s o steps_out = refused s causes.steps_out
