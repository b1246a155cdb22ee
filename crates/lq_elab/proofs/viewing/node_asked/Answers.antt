use Rattle.std.proofs.Common.{◌∙◌, sym, ap, ◌∷◌, None}
use Rattle.std.proofs.Common.{subst as along}
use Rattle.std.specs.Prelude.{option_map}
use Rattle.lq_terms.specs.Terms.{text_of, tree_of}
use Rattle.lq_terms.specs.Contexts.{context_of}
use Rattle.lq_ast.specs.Plain.{plain, plain_domain}
use Rattle.lq_solving.specs.Elaboration.{name_found, named_found}
use Rattle.lq_solving.proofs.ElabSettled.{at}
use Rattle.lq_evars.specs.Places.{store_of}
use Rattle.lq_elab.specs.Views.{head_domain, row_tree}
use Rattle.lq_elab.specs.Waiting.{Leads, asked_work, waiting, product_domain}
use Rattle.lq_elab.specs.Nodes.{node_name, node_work, head_work, definition_work, held_leaf, made_next}
use Rattle.lq_elab.specs.Frames.{spot_of, waits}
use Rattle.lq_elab.specs.States.{site_of}
use Rattle.lq_elab.proofs.ArmLaws.{grown_bank, unknown_comes}
use Rattle.lq_elab.proofs.RunLaws.{restores_more}
use Rattle.lq_elab.proofs.viewing.node_asked.Goals as goal

pub returns-in-Binder-clause-goes : goal.returns-in-Binder-clause-goes
returns-in-Binder-clause-goes g c f b h = c.binder_asked.ensures.goes f b (along (λ x. Leads f (head_work (site_of c.args.work.now.bank.now c.args.site.now) (waits c.args.work.now.bank.now c.args.context.now c.args.frames.now) (spot_of c.args.work.now.bank.now c.args.context.now c.args.frames.now) (store_of c.args.work.now.bank.now c.args.store.now) (option_map (tree_of c.args.work.now.bank.now) c.args.wanted) c.in-Binder.head.rest.is_product x (head_domain c.in-Binder.head) (row_tree c.in-Binder.head.rest)) b c.args.work.now.ticks.now.left) (sym (c.requires.name.is ∙ ap node_name c.in-Binder.is)) (along (λ v. Leads f (node_work (site_of c.args.work.now.bank.now c.args.site.now) (waits c.args.work.now.bank.now c.args.context.now c.args.frames.now) (spot_of c.args.work.now.bank.now c.args.context.now c.args.frames.now) (store_of c.args.work.now.bank.now c.args.store.now) (option_map (tree_of c.args.work.now.bank.now) c.args.wanted) v) b c.args.work.now.ticks.now.left) c.in-Binder.is h))

pub returns-in-LetIn-clause-goes : goal.returns-in-LetIn-clause-goes
returns-in-LetIn-clause-goes g c f b h = c.definition_asked.ensures.goes f b c.args.work.now.ticks.now.left (along (λ x. Leads f (definition_work (site_of c.args.work.now.bank.now c.args.site.now) (waits c.args.work.now.bank.now c.args.context.now c.args.frames.now) (spot_of c.args.work.now.bank.now c.args.context.now c.args.frames.now) (store_of c.args.work.now.bank.now c.args.store.now) (option_map (tree_of c.args.work.now.bank.now) c.args.wanted) x (plain_domain c.in-LetIn.kind.now) (plain c.in-LetIn.value.now) (plain c.in-LetIn.rest.now)) b c.args.work.now.ticks.now.left) (sym (c.requires.name.is ∙ ap node_name c.in-LetIn.is)) (along (λ v. Leads f (node_work (site_of c.args.work.now.bank.now c.args.site.now) (waits c.args.work.now.bank.now c.args.context.now c.args.frames.now) (spot_of c.args.work.now.bank.now c.args.context.now c.args.frames.now) (store_of c.args.work.now.bank.now c.args.store.now) (option_map (tree_of c.args.work.now.bank.now) c.args.wanted) v) b c.args.work.now.ticks.now.left) c.in-LetIn.is h))

pub returns-in-Arrow-clause-goes : goal.returns-in-Arrow-clause-goes
returns-in-Arrow-clause-goes g c f b h = c.begun.ensures.goes f b c.args.work.now.ticks.now.left (along (λ x. Leads f (asked_work (site_of c.args.work.now.bank.now c.args.site.now) (waiting (spot_of c.args.work.now.bank.now c.args.context.now c.args.frames.now) (option_map (tree_of c.args.work.now.bank.now) c.args.wanted) (product_domain x (plain c.in-Arrow.rest.now)) ∷ (waits c.args.work.now.bank.now c.args.context.now c.args.frames.now)) (spot_of c.args.work.now.bank.now c.args.context.now c.args.frames.now) (store_of c.args.work.now.bank.now c.args.store.now) (plain c.in-Arrow.domain.now) None) b c.args.work.now.ticks.now.left) (sym (c.requires.name.is ∙ ap node_name c.in-Arrow.is)) (along (λ v. Leads f (node_work (site_of c.args.work.now.bank.now c.args.site.now) (waits c.args.work.now.bank.now c.args.context.now c.args.frames.now) (spot_of c.args.work.now.bank.now c.args.context.now c.args.frames.now) (store_of c.args.work.now.bank.now c.args.store.now) (option_map (tree_of c.args.work.now.bank.now) c.args.wanted) v) b c.args.work.now.ticks.now.left) c.in-Arrow.is h))

pub returns-in-Apply-clause-goes : goal.returns-in-Apply-clause-goes
returns-in-Apply-clause-goes g c f b h = c.application_asked.ensures.goes f b (along (λ v. Leads f (node_work (site_of c.args.work.now.bank.now c.args.site.now) (waits c.args.work.now.bank.now c.args.context.now c.args.frames.now) (spot_of c.args.work.now.bank.now c.args.context.now c.args.frames.now) (store_of c.args.work.now.bank.now c.args.store.now) (option_map (tree_of c.args.work.now.bank.now) c.args.wanted) v) b c.args.work.now.ticks.now.left) c.in-Apply.is h)

pub returns-in-Ident-clause-goes : goal.returns-in-Ident-clause-goes
returns-in-Ident-clause-goes g c f b h = c.name_asked.ensures.goes f b (along (λ x. Leads f (held_leaf (site_of c.args.work.now.bank.now c.args.site.now) (waits c.args.work.now.bank.now c.args.context.now c.args.frames.now) (spot_of c.args.work.now.bank.now c.args.context.now c.args.frames.now) (store_of c.args.work.now.bank.now c.args.store.now) (option_map (tree_of c.args.work.now.bank.now) c.args.wanted) (λ n. name_found (at n (site_of c.args.work.now.bank.now c.args.site.now)) (spot_of c.args.work.now.bank.now c.args.context.now c.args.frames.now).binders (context_of c.args.work.now.bank.now c.args.context.now) (store_of c.args.work.now.bank.now c.args.store.now) x)) b c.args.work.now.ticks.now.left) (sym (c.requires.name.is ∙ ap node_name c.in-Ident.is)) (along (λ v. Leads f (node_work (site_of c.args.work.now.bank.now c.args.site.now) (waits c.args.work.now.bank.now c.args.context.now c.args.frames.now) (spot_of c.args.work.now.bank.now c.args.context.now c.args.frames.now) (store_of c.args.work.now.bank.now c.args.store.now) (option_map (tree_of c.args.work.now.bank.now) c.args.wanted) v) b c.args.work.now.ticks.now.left) c.in-Ident.is h))

pub returns-in-Blank-clause-goes : goal.returns-in-Blank-clause-goes
returns-in-Blank-clause-goes g c f b h = c.blank_asked.ensures.goes f b c.args.work.now.ticks.now.left (along (λ v. Leads f (node_work (site_of c.args.work.now.bank.now c.args.site.now) (waits c.args.work.now.bank.now c.args.context.now c.args.frames.now) (spot_of c.args.work.now.bank.now c.args.context.now c.args.frames.now) (store_of c.args.work.now.bank.now c.args.store.now) (option_map (tree_of c.args.work.now.bank.now) c.args.wanted) v) b c.args.work.now.ticks.now.left) c.in-Blank.is h)

pub returns-in-PropSort-clause-goes : goal.returns-in-PropSort-clause-goes
returns-in-PropSort-clause-goes g c f b h = c.sort_asked.ensures.goes f b (along (λ v. Leads f (node_work (site_of c.args.work.now.bank.now c.args.site.now) (waits c.args.work.now.bank.now c.args.context.now c.args.frames.now) (spot_of c.args.work.now.bank.now c.args.context.now c.args.frames.now) (store_of c.args.work.now.bank.now c.args.store.now) (option_map (tree_of c.args.work.now.bank.now) c.args.wanted) v) b c.args.work.now.ticks.now.left) c.in-PropSort.is h)

pub returns-in-TypeSort-clause-goes : goal.returns-in-TypeSort-clause-goes
returns-in-TypeSort-clause-goes g c f b h = c.sort_asked-in-TypeSort.ensures.goes f b (along (λ v. Leads f (node_work (site_of c.args.work.now.bank.now c.args.site.now) (waits c.args.work.now.bank.now c.args.context.now c.args.frames.now) (spot_of c.args.work.now.bank.now c.args.context.now c.args.frames.now) (store_of c.args.work.now.bank.now c.args.store.now) (option_map (tree_of c.args.work.now.bank.now) c.args.wanted) v) b c.args.work.now.ticks.now.left) c.in-TypeSort.is h)

pub returns-in-Cast-clause-goes : goal.returns-in-Cast-clause-goes
returns-in-Cast-clause-goes g c f b h = c.begun-in-Cast.ensures.goes f b c.args.work.now.ticks.now.left (along (λ v. Leads f (node_work (site_of c.args.work.now.bank.now c.args.site.now) (waits c.args.work.now.bank.now c.args.context.now c.args.frames.now) (spot_of c.args.work.now.bank.now c.args.context.now c.args.frames.now) (store_of c.args.work.now.bank.now c.args.store.now) (option_map (tree_of c.args.work.now.bank.now) c.args.wanted) v) b c.args.work.now.ticks.now.left) c.in-Cast.is h)

pub returns-in-NewVar-clause-goes : goal.returns-in-NewVar-clause-goes
returns-in-NewVar-clause-goes g c f b h = c.named_asked.ensures.goes f b c.args.work.now.ticks.now.left (along (λ x. Leads f (made_next (site_of c.args.work.now.bank.now c.args.site.now) (waits c.args.work.now.bank.now c.args.context.now c.args.frames.now) (named_found (context_of c.args.work.now.bank.now c.args.context.now) (store_of c.args.work.now.bank.now c.args.store.now) x c.in-NewVar.place (option_map (tree_of c.args.work.now.bank.now) c.args.wanted))) b c.args.work.now.ticks.now.left) (sym (c.requires.name.is ∙ ap node_name c.in-NewVar.is)) (along (λ v. Leads f (node_work (site_of c.args.work.now.bank.now c.args.site.now) (waits c.args.work.now.bank.now c.args.context.now c.args.frames.now) (spot_of c.args.work.now.bank.now c.args.context.now c.args.frames.now) (store_of c.args.work.now.bank.now c.args.store.now) (option_map (tree_of c.args.work.now.bank.now) c.args.wanted) v) b c.args.work.now.ticks.now.left) c.in-NewVar.is h))

-- the store is as before, in a bank that has grown
pub returns-in-Binder-clause-grown : goal.returns-in-Binder-clause-grown
returns-in-Binder-clause-grown g c = grown_bank c.binder_asked.result c.args.work.now.bank.now c.binder_asked.new.work.bank.now c.binder_asked.ensures.grows c.args.store.now c.requires.state.store c.requires.state.kept

pub returns-in-Ident-clause-since : goal.returns-in-Ident-clause-since
returns-in-Ident-clause-since g c b h = restores_more b c.args.saved.now c.args.store.now c.name_asked.new.store c.name_asked.ensures.more h

pub returns-in-PropSort-clause-since : goal.returns-in-PropSort-clause-since
returns-in-PropSort-clause-since g c b h = restores_more b c.args.saved.now c.args.store.now c.sort_asked.new.store c.sort_asked.ensures.more h

pub returns-in-TypeSort-clause-since : goal.returns-in-TypeSort-clause-since
returns-in-TypeSort-clause-since g c b h = restores_more b c.args.saved.now c.args.store.now c.sort_asked-in-TypeSort.new.store c.sort_asked-in-TypeSort.ensures.more h

pub returns-in-Meta-clause-goes : goal.returns-in-Meta-clause-goes
returns-in-Meta-clause-goes g c f b h = (
  c.requires.name.has,
  unknown_comes f b c.args.work.now.ticks.now.left c.in-Meta.field-0.now (text_of c.args.work.now.bank.now c.args.name) (c.requires.name.is ∙ ap node_name c.in-Meta.is)
      (along (λ v. Leads f (node_work (site_of c.args.work.now.bank.now c.args.site.now) (waits c.args.work.now.bank.now c.args.context.now c.args.frames.now) (spot_of c.args.work.now.bank.now c.args.context.now c.args.frames.now) (store_of c.args.work.now.bank.now c.args.store.now) (option_map (tree_of c.args.work.now.bank.now) c.args.wanted) v) b c.args.work.now.ticks.now.left) c.in-Meta.is h),
)
