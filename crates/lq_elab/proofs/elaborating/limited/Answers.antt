use Rattle.std.proofs.Common.{◌∙◌}
use Rattle.std.specs.Prelude.{option_map}
use Rattle.lq_trees.specs.Size.{fit}
use Rattle.lq_terms.specs.Terms.{tree_of}
use Rattle.lq_terms.proofs.Tellings.{HasContext-grown}
use Rattle.lq_evars.specs.Places.{store_of}
use Rattle.lq_elab.specs.Answers.{found_of}
use Rattle.lq_elab.specs.States.{site_of}
use Rattle.lq_elab.specs.Views.{asked_tree}
use Rattle.lq_elab.proofs.RunLaws.{call_passes, call_refuses, call_limited, whole, end_grown, reads_there}
use Rattle.std.proofs.Common.{ap}
use Rattle.lq_elab.proofs.elaborating.limited.Goals as goal

pub kept_within-requires : goal.kept_within-requires
kept_within-requires g c = record {
  store = c.in-Ok.ensures.ends.has;
  kept = c.in-Ok.ensures.ends.grown.store;
  term = c.in-Ok.ensures.ends.term;
  term_over = c.in-Ok.ensures.ends.term_stands.over;
  term_within = c.in-Ok.ensures.ends.term_stands.within;
  kind = c.in-Ok.ensures.ends.kind;
  kind_over = c.in-Ok.ensures.ends.kind_stands.over;
  kind_within = c.in-Ok.ensures.ends.kind_stands.within;
}

pub returns-in-Ok-kept_within-clause-ends : goal.returns-in-Ok-kept_within-clause-ends
returns-in-Ok-kept_within-clause-ends g c =
    end_grown c.begun.new.work.bank.now c.kept_within.new.bank c.in-Ok-kept_within.ensures.grows c.args.site.now (store_of c.args.work.now.bank.now c.args.store.now) c.begun.new.store c.in-Ok.found (HasContext-grown c.args.work.now.bank.now c.begun.new.work.bank.now c.in-Ok.ensures.grows c.args.site.now.outer.now c.requires.site.outer) _ c.args.work.now.ticks.now.left c.begun.new.work.ticks.now.left c.in-Ok.ensures.ends (whole (site_of c.args.work.now.bank.now c.args.site.now) (store_of c.args.work.now.bank.now c.args.store.now) (asked_tree c.args.term) (option_map (tree_of c.args.work.now.bank.now) c.args.wanted) c.args.work.now.ticks.now.left c.begun.new.work.ticks.now.left)
    (call_passes (site_of c.args.work.now.bank.now c.args.site.now) (store_of c.args.work.now.bank.now c.args.store.now) (asked_tree c.args.term) (option_map (tree_of c.args.work.now.bank.now) c.args.wanted) c.args.work.now.ticks.now.left c.begun.new.work.ticks.now.left (found_of c.begun.new.work.bank.now c.begun.new.store c.in-Ok.found) c.in-Ok.ensures.ends.comes (c.in-Ok-kept_within.ensures.answer c.begun.new.work.ticks.now.left))

pub returns-in-Ok-kept_within-clause-term_fits : goal.returns-in-Ok-kept_within-clause-term_fits
returns-in-Ok-kept_within-clause-term_fits g c = ap fit (reads_there c.begun.new.work.bank.now c.kept_within.new.bank c.in-Ok-kept_within.ensures.grows c.begun.new.store c.in-Ok.ensures.ends.has c.in-Ok.found.term c.in-Ok.ensures.ends.term) ∙ c.in-Ok-kept_within.ensures.term_fits

pub returns-in-Ok-kept_within-clause-kind_fits : goal.returns-in-Ok-kept_within-clause-kind_fits
returns-in-Ok-kept_within-clause-kind_fits g c = ap fit (reads_there c.begun.new.work.bank.now c.kept_within.new.bank c.in-Ok-kept_within.ensures.grows c.begun.new.store c.in-Ok.ensures.ends.has c.in-Ok.found.kind c.in-Ok.ensures.ends.kind) ∙ c.in-Ok-kept_within.ensures.kind_fits

pub returns-in-Err-kept_within-clause-ends : goal.returns-in-Err-kept_within-clause-ends
returns-in-Err-kept_within-clause-ends g c =
    call_limited (site_of c.args.work.now.bank.now c.args.site.now) (store_of c.args.work.now.bank.now c.args.store.now) (asked_tree c.args.term) (option_map (tree_of c.args.work.now.bank.now) c.args.wanted) c.args.work.now.ticks.now.left c.begun.new.work.ticks.now.left c.kept_within.new.bank c.in-Err-kept_within.fault (found_of c.begun.new.work.bank.now c.begun.new.store c.in-Ok.found) c.in-Ok.ensures.ends.comes (c.in-Err-kept_within.ensures.answer c.begun.new.work.ticks.now.left)

pub returns-in-Err-clause-ends : goal.returns-in-Err-clause-ends
returns-in-Err-clause-ends g c = call_refuses (site_of c.args.work.now.bank.now c.args.site.now) (store_of c.args.work.now.bank.now c.args.store.now) (asked_tree c.args.term) (option_map (tree_of c.args.work.now.bank.now) c.args.wanted) c.args.work.now.ticks.now.left c.begun.new.work.ticks.now.left c.begun.new.work.bank.now c.in-Err.fault c.in-Err.ensures.ends
