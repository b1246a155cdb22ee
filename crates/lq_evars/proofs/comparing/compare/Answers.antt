use Rattle.std.proofs.Common.{◌∙◌, sym, ap₂}
use Rattle.lq_evars.specs.Places.{store_of}
use Rattle.lq_evars.specs.Heads.{same_head}
use Rattle.lq_evars.proofs.Parts.{heads_differ, parts_stand}
use Rattle.lq_evars.proofs.comparing.compare.Goals as goal

pub returns-then-not-same_label : goal.returns-then-not-same_label
returns-then-not-same_label c =
    heads_differ c.args.bank.now (store_of c.args.bank.now c.args.store.now) c.args.links.now c.args.pair c.node-left_node.result.now c.node-right_node.result.now c.node-left_node.ensures.tree c.node-right_node.ensures.tree c.requires.left c.requires.right
    (ap₂ same_head (sym c.label_of-left.ensures.head) (sym c.label_of-right.ensures.head) ∙ sym c.same_label.ensures ∙ c.if-not-same_label.true)

pub returns : goal.returns
returns c =
    parts_stand c.args.bank.now (store_of c.args.bank.now c.args.store.now) c.args.links.now c.args.pair c.node-left_node.result.now c.node-right_node.result.now c.node-left_node.ensures.tree c.node-right_node.ensures.tree c.requires.left c.requires.right
    c.requires.links c.requires.pair c.args.work.now.items c.requires.shallow c.node-left_node.ensures.parts c.node-right_node.ensures.parts
    (ap₂ same_head (sym c.label_of-left.ensures.head) (sym c.label_of-right.ensures.head) ∙ sym c.same_label.ensures ∙ c.if-not-same_label.false)
    c.push_pairs.new.work.items c.in_ok-push_pairs.ensures
