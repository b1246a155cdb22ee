use Rattle.std.proofs.Common.{sym, ◌∷◌}
use Rattle.std.proofs.Common.{subst as along}
use Rattle.std.specs.Prelude.{option_map}
use Rattle.lq_terms.specs.Terms.{tree_of}
use Rattle.lq_evars.specs.Places.{store_of}
use Rattle.lq_elab.specs.declared.turns.Turn.{Turn}
use Rattle.lq_elab.specs.Waiting.{Leads, asked_work, waiting}
use Rattle.lq_elab.specs.Views.{asked_tree}
use Rattle.lq_elab.specs.Frames.{spot_of, waits, part_of}
use Rattle.lq_elab.specs.States.{IsState, site_of, turn_work}
use Rattle.lq_elab.proofs.GoingLaws.{leads_same}
use Rattle.lq_elab.proofs.AskLaws.{state_waited, asked_waited}
use Rattle.lq_elab.proofs.asking.waited.Goals as goal

pub returns-clause-state : goal.returns-clause-state
returns-clause-state c =
    along (IsState c.args.bank.now c.args.site.now c.args.store.now c.args.context.now c.args.scope.now) (sym c.in_ok-push.ensures.ok)
    (state_waited c.args.bank.now c.args.site.now c.args.store.now c.args.context.now c.args.scope.now c.args.frames.now c.requires.state c.args.part c.args.wanted c.requires.outside c.requires.wanted c.requires.wanted_stands c.requires.part c.requires.part_stands)

pub returns-clause-goes : goal.returns-clause-goes
returns-clause-goes c f b l h =
    along (λ fs. Leads f (turn_work c.args.bank.now c.args.site.now c.args.store.now c.args.context.now fs (Turn.Ask c.args.asked c.args.first)) b l) (sym c.in_ok-push.ensures.ok)
    (leads_same f
    (asked_work (site_of c.args.bank.now c.args.site.now) (waiting (spot_of c.args.bank.now c.args.context.now c.args.frames.now) (option_map (tree_of c.args.bank.now) c.args.wanted) (part_of c.args.bank.now c.args.part) ∷ waits c.args.bank.now c.args.context.now c.args.frames.now)
    (spot_of c.args.bank.now c.args.context.now c.args.frames.now) (store_of c.args.bank.now c.args.store.now) (asked_tree c.args.asked) (option_map (tree_of c.args.bank.now) c.args.first))
    (turn_work c.args.bank.now c.args.site.now c.args.store.now c.args.context.now (record { part = c.args.part; wanted = c.args.wanted } ∷ c.args.frames.now) (Turn.Ask c.args.asked c.args.first)) b l
    (asked_waited c.args.bank.now c.args.site.now c.args.store.now c.args.context.now c.args.scope.now c.args.frames.now c.requires.state c.args.part c.args.wanted c.args.first c.args.asked c.requires.outside) h)
