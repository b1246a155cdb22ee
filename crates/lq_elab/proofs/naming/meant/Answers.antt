use Rattle.std.proofs.Common.{◌∙◌, refl, sym, ap}
use Rattle.std.proofs.Common.{subst as along}
use Rattle.lq_trees.specs.Tree.Tree.{Var}
use Rattle.lq_trees.specs.Ticks.{gives}
use Rattle.lq_trees.proofs.Outcomes.{comes_fails}
use Rattle.lq_calculus.specs.Declarations.{lookup}
use Rattle.lq_terms.specs.Terms.{text_of, tree_of}
use Rattle.lq_terms.specs.Contexts.{context_of}
use Rattle.lq_solving.specs.ElabFaults.{unknown, not_a_term}
use Rattle.lq_solving.specs.Elaboration.{found, name_found, value_found, entry_found, given_term}
use Rattle.lq_solving.proofs.ElabSettled.{at}
use Rattle.lq_evars.specs.Places.{store_of}
use Rattle.lq_elab.specs.Naming.{meaning}
use Rattle.lq_elab.specs.Scopes.{meaning_of, HasMeaning}
use Rattle.lq_elab.specs.Frames.{spot_of}
use Rattle.lq_elab.specs.States.{site_of}
use Rattle.lq_elab.proofs.AnswerLaws.{comes_as}
use Rattle.lq_elab.proofs.NameLaws.{variable_meant, term_meant, nothing_meant, no_term_meant, global_meant, value_meant}
use Rattle.lq_elab.proofs.naming.meant.Goals as goal

pub returns-in-Variable-clause-answer : goal.returns-in-Variable-clause-answer
returns-in-Variable-clause-answer g c =
    comes_as c.variable.new.bank (λ f. found (store_of c.args.work.now.bank.now c.args.store.now) (tree_of c.variable.new.bank f.term) (tree_of c.variable.new.bank f.kind)) c.variable.result (λ n. name_found (at n (site_of c.args.work.now.bank.now c.args.site.now)) (spot_of c.args.work.now.bank.now c.args.context.now c.args.frames.now).binders (context_of c.args.work.now.bank.now c.args.context.now) (store_of c.args.work.now.bank.now c.args.store.now) (text_of c.args.work.now.bank.now c.args.name)) (λ n. gives (found (store_of c.args.work.now.bank.now c.args.store.now) (Var (text_of c.args.work.now.bank.now c.in-Variable.hypothesis)) (tree_of c.args.work.now.bank.now c.in-Variable.kind))) c.args.work.now.ticks.now.left c.args.work.now.ticks.now.left (variable_meant (site_of c.args.work.now.bank.now c.args.site.now) (spot_of c.args.work.now.bank.now c.args.context.now c.args.frames.now) (store_of c.args.work.now.bank.now c.args.store.now) (text_of c.args.work.now.bank.now c.args.name) (text_of c.args.work.now.bank.now c.in-Variable.hypothesis) (tree_of c.args.work.now.bank.now c.in-Variable.kind) (ap (meaning_of c.args.work.now.bank.now) (sym c.in-Variable.is) ∙ (c.get.ensures.is (meaning (site_of c.args.work.now.bank.now c.args.site.now) (spot_of c.args.work.now.bank.now c.args.context.now c.args.frames.now)) c.requires.state.scope))) (c.variable.ensures.answer (store_of c.args.work.now.bank.now c.args.store.now) c.args.work.now.ticks.now.left)

pub variable-requires-clause-name : goal.variable-requires-clause-name
variable-requires-clause-name g c = (along (HasMeaning c.args.work.now.bank.now) c.in-Variable.is (c.get.ensures.has (meaning (site_of c.args.work.now.bank.now c.args.site.now) (spot_of c.args.work.now.bank.now c.args.context.now c.args.frames.now)) c.requires.state.scope)).0

pub variable-requires-clause-kind : goal.variable-requires-clause-kind
variable-requires-clause-kind g c = (along (HasMeaning c.args.work.now.bank.now) c.in-Variable.is (c.get.ensures.has (meaning (site_of c.args.work.now.bank.now c.args.site.now) (spot_of c.args.work.now.bank.now c.args.context.now c.args.frames.now)) c.requires.state.scope)).1

pub value_of-requires-clause-term : goal.value_of-requires-clause-term
value_of-requires-clause-term g c = (along (HasMeaning c.args.work.now.bank.now) c.in-Value.is (c.get.ensures.has (meaning (site_of c.args.work.now.bank.now c.args.site.now) (spot_of c.args.work.now.bank.now c.args.context.now c.args.frames.now)) c.requires.state.scope))

pub value_of-requires-clause-over : goal.value_of-requires-clause-over
value_of-requires-clause-over g c = (c.requires.state.site.stand (text_of c.args.work.now.bank.now c.args.name) (tree_of c.args.work.now.bank.now c.in-Value.term) (value_meant (site_of c.args.work.now.bank.now c.args.site.now) (spot_of c.args.work.now.bank.now c.args.context.now c.args.frames.now) (store_of c.args.work.now.bank.now c.args.store.now) (text_of c.args.work.now.bank.now c.args.name) (tree_of c.args.work.now.bank.now c.in-Value.term) (ap (meaning_of c.args.work.now.bank.now) (sym c.in-Value.is) ∙ (c.get.ensures.is (meaning (site_of c.args.work.now.bank.now c.args.site.now) (spot_of c.args.work.now.bank.now c.args.context.now c.args.frames.now)) c.requires.state.scope)))).0

pub value_of-requires-clause-within : goal.value_of-requires-clause-within
value_of-requires-clause-within g c = (c.requires.state.site.stand (text_of c.args.work.now.bank.now c.args.name) (tree_of c.args.work.now.bank.now c.in-Value.term) (value_meant (site_of c.args.work.now.bank.now c.args.site.now) (spot_of c.args.work.now.bank.now c.args.context.now c.args.frames.now) (store_of c.args.work.now.bank.now c.args.store.now) (text_of c.args.work.now.bank.now c.args.name) (tree_of c.args.work.now.bank.now c.in-Value.term) (ap (meaning_of c.args.work.now.bank.now) (sym c.in-Value.is) ∙ (c.get.ensures.is (meaning (site_of c.args.work.now.bank.now c.args.site.now) (spot_of c.args.work.now.bank.now c.args.context.now c.args.frames.now)) c.requires.state.scope)))).1

pub returns-in-Value-clause-answer : goal.returns-in-Value-clause-answer
returns-in-Value-clause-answer g c =
    comes_as c.value_of.new.work.bank.now (λ f. found (store_of c.args.work.now.bank.now c.args.store.now) (tree_of c.value_of.new.work.bank.now f.term) (tree_of c.value_of.new.work.bank.now f.kind)) c.value_of.result (λ n. name_found (at n (site_of c.args.work.now.bank.now c.args.site.now)) (spot_of c.args.work.now.bank.now c.args.context.now c.args.frames.now).binders (context_of c.args.work.now.bank.now c.args.context.now) (store_of c.args.work.now.bank.now c.args.store.now) (text_of c.args.work.now.bank.now c.args.name)) (λ n. value_found (at n (site_of c.args.work.now.bank.now c.args.site.now)) (store_of c.args.work.now.bank.now c.args.store.now) (text_of c.args.work.now.bank.now c.args.name) (given_term (tree_of c.args.work.now.bank.now c.in-Value.term))) c.args.work.now.ticks.now.left c.value_of.new.work.ticks.now.left (term_meant (site_of c.args.work.now.bank.now c.args.site.now) (spot_of c.args.work.now.bank.now c.args.context.now c.args.frames.now) (store_of c.args.work.now.bank.now c.args.store.now) (text_of c.args.work.now.bank.now c.args.name) (tree_of c.args.work.now.bank.now c.in-Value.term) (ap (meaning_of c.args.work.now.bank.now) (sym c.in-Value.is) ∙ (c.get.ensures.is (meaning (site_of c.args.work.now.bank.now c.args.site.now) (spot_of c.args.work.now.bank.now c.args.context.now c.args.frames.now)) c.requires.state.scope))) (c.value_of.ensures.answer)

pub returns-in-Nothing-clause-answer : goal.returns-in-Nothing-clause-answer
returns-in-Nothing-clause-answer g c = (c.requires.name, comes_fails (λ n. name_found (at n (site_of c.args.work.now.bank.now c.args.site.now)) (spot_of c.args.work.now.bank.now c.args.context.now c.args.frames.now).binders (context_of c.args.work.now.bank.now c.args.context.now) (store_of c.args.work.now.bank.now c.args.store.now) (text_of c.args.work.now.bank.now c.args.name)) (unknown (text_of c.args.work.now.bank.now c.args.name)) c.args.work.now.ticks.now.left (nothing_meant (site_of c.args.work.now.bank.now c.args.site.now) (spot_of c.args.work.now.bank.now c.args.context.now c.args.frames.now) (store_of c.args.work.now.bank.now c.args.store.now) (text_of c.args.work.now.bank.now c.args.name) (ap (meaning_of c.args.work.now.bank.now) (sym c.in-Nothing.is) ∙ (c.get.ensures.is (meaning (site_of c.args.work.now.bank.now c.args.site.now) (spot_of c.args.work.now.bank.now c.args.context.now c.args.frames.now)) c.requires.state.scope))))

pub returns-in-NoTerm-clause-answer : goal.returns-in-NoTerm-clause-answer
returns-in-NoTerm-clause-answer g c = (c.requires.name, comes_fails (λ n. name_found (at n (site_of c.args.work.now.bank.now c.args.site.now)) (spot_of c.args.work.now.bank.now c.args.context.now c.args.frames.now).binders (context_of c.args.work.now.bank.now c.args.context.now) (store_of c.args.work.now.bank.now c.args.store.now) (text_of c.args.work.now.bank.now c.args.name)) (not_a_term (text_of c.args.work.now.bank.now c.args.name)) c.args.work.now.ticks.now.left (no_term_meant (site_of c.args.work.now.bank.now c.args.site.now) (spot_of c.args.work.now.bank.now c.args.context.now c.args.frames.now) (store_of c.args.work.now.bank.now c.args.store.now) (text_of c.args.work.now.bank.now c.args.name) (ap (meaning_of c.args.work.now.bank.now) (sym c.in-NoTerm.is) ∙ (c.get.ensures.is (meaning (site_of c.args.work.now.bank.now c.args.site.now) (spot_of c.args.work.now.bank.now c.args.context.now c.args.frames.now)) c.requires.state.scope))))

pub returns-in-Global-clause-answer : goal.returns-in-Global-clause-answer
returns-in-Global-clause-answer g c =
    comes_as c.global.new.bank (λ f. found (store_of c.args.work.now.bank.now c.args.store.now) (tree_of c.global.new.bank f.term) (tree_of c.global.new.bank f.kind)) c.global.result (λ n. name_found (at n (site_of c.args.work.now.bank.now c.args.site.now)) (spot_of c.args.work.now.bank.now c.args.context.now c.args.frames.now).binders (context_of c.args.work.now.bank.now c.args.context.now) (store_of c.args.work.now.bank.now c.args.store.now) (text_of c.args.work.now.bank.now c.args.name)) (λ n. entry_found (at n (site_of c.args.work.now.bank.now c.args.site.now)) (store_of c.args.work.now.bank.now c.args.store.now) (text_of c.args.work.now.bank.now c.args.name) (lookup (site_of c.args.work.now.bank.now c.args.site.now).env (text_of c.args.work.now.bank.now c.args.name))) c.args.work.now.ticks.now.left c.args.work.now.ticks.now.left (global_meant (site_of c.args.work.now.bank.now c.args.site.now) (spot_of c.args.work.now.bank.now c.args.context.now c.args.frames.now) (store_of c.args.work.now.bank.now c.args.store.now) (text_of c.args.work.now.bank.now c.args.name) (ap (meaning_of c.args.work.now.bank.now) (sym c.in-Global.is) ∙ (c.get.ensures.is (meaning (site_of c.args.work.now.bank.now c.args.site.now) (spot_of c.args.work.now.bank.now c.args.context.now c.args.frames.now)) c.requires.state.scope))) (c.global.ensures.answer (site_of c.args.work.now.bank.now c.args.site.now) (store_of c.args.work.now.bank.now c.args.store.now) c.args.work.now.ticks.now.left refl)
