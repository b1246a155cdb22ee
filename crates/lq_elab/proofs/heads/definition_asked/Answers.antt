use Rattle.std.proofs.Common.{◌∙◌, sym, ap}
use Rattle.std.proofs.Common.{subst as along}
use Rattle.std.specs.Prelude.{option_map}
use Rattle.lq_ast.specs.Plain.{plain, plain_domain}
use Rattle.lq_ast.specs.Syntax.{Written}
use Rattle.lq_terms.specs.Terms.{text_of, tree_of}
use Rattle.lq_evars.specs.Places.{store_of}
use Rattle.lq_elab.specs.Waiting.{Leads}
use Rattle.lq_elab.specs.Frames.{spot_of, waits}
use Rattle.lq_elab.specs.States.{site_of}
use Rattle.lq_ast.proofs.PlainLaws.{plain_written, plain_missing}
use Rattle.lq_elab.specs.Nodes.{definition_work}
use Rattle.lq_elab.proofs.heads.definition_asked.Goals as goal

pub returns-in-Written-clause-goes : goal.returns-in-Written-clause-goes
returns-in-Written-clause-goes c f b l h =
    c.begun.ensures.goes f b l
    (along (λ d. Leads f (definition_work (site_of c.args.bank.now c.args.site.now) (waits c.args.bank.now c.args.context.now c.args.frames.now) (spot_of c.args.bank.now c.args.context.now c.args.frames.now) (store_of c.args.bank.now c.args.store.now) (option_map (tree_of c.args.bank.now) c.args.wanted) (text_of c.args.bank.now c.args.binder) d (plain c.args.value.now) (plain c.args.rest.now)) b l)
    (ap plain_domain c.in-Written.is ∙ plain_written c.in-Written.kind ∙ ap (λ z. Written (plain z)) (sym c.get.ensures)) h)

pub returns-in-Missing-clause-goes : goal.returns-in-Missing-clause-goes
returns-in-Missing-clause-goes c f b l h =
    c.begun-in-Missing.ensures.goes f b l
    (along (λ d. Leads f (definition_work (site_of c.args.bank.now c.args.site.now) (waits c.args.bank.now c.args.context.now c.args.frames.now) (spot_of c.args.bank.now c.args.context.now c.args.frames.now) (store_of c.args.bank.now c.args.store.now) (option_map (tree_of c.args.bank.now) c.args.wanted) (text_of c.args.bank.now c.args.binder) d (plain c.args.value.now) (plain c.args.rest.now)) b l)
    (ap plain_domain c.in-Missing.is ∙ plain_missing c.in-Missing.field-0) h)
