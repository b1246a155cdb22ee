use Rattle.std.proofs.Common.{subst as along}
use Rattle.std.specs.Prelude.{option_map}
use Rattle.lq_terms.specs.Terms.{tree_of}
use Rattle.lq_terms.specs.Contexts.{context_of}
use Rattle.lq_solving.specs.Kept.{OptionStands}
use Rattle.lq_solving.specs.Stores.{names_in}
use Rattle.lq_solving.specs.Elaboration.{blank_found}
use Rattle.lq_evars.specs.Places.{store_of}
use Rattle.lq_elab.specs.Waiting.{Leads}
use Rattle.lq_elab.specs.Nodes.{made_next}
use Rattle.lq_elab.specs.Frames.{waits}
use Rattle.lq_elab.specs.States.{site_of}
use Rattle.lq_elab.proofs.BlankLaws.{blank_leads, blank_fails}
use Rattle.lq_elab.proofs.blanks.blank_asked.Goals as goal

pub made-requires-clause-stands : goal.made-requires-clause-stands
made-requires-clause-stands c = along (λ o. OptionStands (store_of c.args.bank.now c.args.store.now) (names_in (context_of c.args.bank.now c.args.context.now)) (option_map (tree_of c.args.bank.now) o)) c.in-Some.is c.requires.wanted_stands

pub returns-in-Some-clause-goes : goal.returns-in-Some-clause-goes
returns-in-Some-clause-goes c f b l h = c.made.ensures.goes f b l (blank_leads (site_of c.args.bank.now c.args.site.now) (waits c.args.bank.now c.args.context.now c.args.frames.now) f b l (context_of c.args.bank.now c.args.context.now) (store_of c.args.bank.now c.args.store.now) c.args.place (tree_of c.args.bank.now c.in-Some.kind) (along (λ o. Leads f (made_next (site_of c.args.bank.now c.args.site.now) (waits c.args.bank.now c.args.context.now c.args.frames.now) (blank_found (context_of c.args.bank.now c.args.context.now) (store_of c.args.bank.now c.args.store.now) c.args.place (option_map (tree_of c.args.bank.now) o))) b l) c.in-Some.is h))

pub returns-in-None-clause-goes : goal.returns-in-None-clause-goes
returns-in-None-clause-goes c f b l h = blank_fails (site_of c.args.bank.now c.args.site.now) (waits c.args.bank.now c.args.context.now c.args.frames.now) f b l (context_of c.args.bank.now c.args.context.now) (store_of c.args.bank.now c.args.store.now) c.args.place (along (λ o. Leads f (made_next (site_of c.args.bank.now c.args.site.now) (waits c.args.bank.now c.args.context.now c.args.frames.now) (blank_found (context_of c.args.bank.now c.args.context.now) (store_of c.args.bank.now c.args.store.now) c.args.place (option_map (tree_of c.args.bank.now) o))) b l) c.in-None.is h)
