use Rattle.std.proofs.Common.{◌∙◌, sym}
use Rattle.std.proofs.Common.{subst as along}
use Rattle.std.specs.Prelude.{option_map}
use Rattle.lq_terms.specs.Terms.{text_of, tree_of}
use Rattle.lq_terms.specs.Contexts.{context_of}
use Rattle.lq_solving.specs.Elaboration.{named_found}
use Rattle.lq_evars.specs.Places.{store_of}
use Rattle.lq_elab.specs.Waiting.{Leads}
use Rattle.lq_elab.specs.Nodes.{made_next}
use Rattle.lq_elab.specs.Frames.{waits}
use Rattle.lq_elab.specs.States.{site_of}
use Rattle.lq_elab.proofs.BlankLaws.{named_leads, used_fails, named_fails}
use Rattle.lq_elab.proofs.MakingLaws.{own_name}
use Rattle.lq_elab.proofs.blanks.named_asked.Goals as goal

pub made-requires-clause-own : goal.made-requires-clause-own
made-requires-clause-own c = (own_name c.args.bank.now c.args.name c.names_apart.ensures c.requires.name)

pub returns-in_default-clause-goes : goal.returns-in_default-clause-goes
returns-in_default-clause-goes c f b l h = named_fails (site_of c.args.bank.now c.args.site.now) (waits c.args.bank.now c.args.context.now c.args.frames.now) f b l (context_of c.args.bank.now c.args.context.now) (store_of c.args.bank.now c.args.store.now) (text_of c.args.bank.now c.args.name) c.args.place (along (λ o. Leads f (made_next (site_of c.args.bank.now c.args.site.now) (waits c.args.bank.now c.args.context.now c.args.frames.now) (named_found (context_of c.args.bank.now c.args.context.now) (store_of c.args.bank.now c.args.store.now) (text_of c.args.bank.now c.args.name) c.args.place (option_map (tree_of c.args.bank.now) o))) b l) c.in_default.is h)

pub returns-in-Some-named-clause-goes : goal.returns-in-Some-named-clause-goes
returns-in-Some-named-clause-goes c f b l h =
    (c.requires.name, used_fails (site_of c.args.bank.now c.args.site.now) (waits c.args.bank.now c.args.context.now c.args.frames.now) f b l (context_of c.args.bank.now c.args.context.now) (store_of c.args.bank.now c.args.store.now) (text_of c.args.bank.now c.args.name) c.args.place c.in-Some-named.field-0 (tree_of c.args.bank.now c.in-Some.kind) ((sym (c.named.ensures.told c.args.bank.now c.requires.state.store (own_name c.args.bank.now c.args.name c.names_apart.ensures c.requires.name))) ∙ c.in-Some-named.is) (along (λ o. Leads f (made_next (site_of c.args.bank.now c.args.site.now) (waits c.args.bank.now c.args.context.now c.args.frames.now) (named_found (context_of c.args.bank.now c.args.context.now) (store_of c.args.bank.now c.args.store.now) (text_of c.args.bank.now c.args.name) c.args.place (option_map (tree_of c.args.bank.now) o))) b l) c.in-Some.is h))

pub returns-in-None-clause-goes : goal.returns-in-None-clause-goes
returns-in-None-clause-goes c f b l h =
    c.made.ensures.goes f b l (named_leads (site_of c.args.bank.now c.args.site.now) (waits c.args.bank.now c.args.context.now c.args.frames.now) f b l (context_of c.args.bank.now c.args.context.now) (store_of c.args.bank.now c.args.store.now) (text_of c.args.bank.now c.args.name) c.args.place (tree_of c.args.bank.now c.in-Some.kind) ((sym (c.named.ensures.told c.args.bank.now c.requires.state.store (own_name c.args.bank.now c.args.name c.names_apart.ensures c.requires.name))) ∙ c.in-None.is) (along (λ o. Leads f (made_next (site_of c.args.bank.now c.args.site.now) (waits c.args.bank.now c.args.context.now c.args.frames.now) (named_found (context_of c.args.bank.now c.args.context.now) (store_of c.args.bank.now c.args.store.now) (text_of c.args.bank.now c.args.name) c.args.place (option_map (tree_of c.args.bank.now) o))) b l) c.in-Some.is h))
