use Rattle.std.proofs.Common.{◌≡◌, ◌∙◌, ◌++◌, ◌∷◌, [], List, Some, map, ap, sym, subst}
use Rattle.std.specs.List.{slice_get}
use Rattle.std.specs.String.{string_bytes}
use Rattle.lq_terms.specs.declared.entries.Kept.{Kept}
use Rattle.lq_terms.specs.Shapes.{shape_by}
use Rattle.lq_terms.specs.Sound.{Entry, IsSound, AreClassed, class_at}
use Rattle.lq_terms.proofs.ClassLaws.{AreClassed-wider, AreClassed-pushed}
use Rattle.lq_terms.proofs.Banks.{IsSound-pushed, AddsNode-pushed}
use Rattle.lq_terms.proofs.NodeLaws.{entry_goes_last}
use Rattle.lq_terms.proofs.bank.Bank.add.Goals as goal

pub invariant_of-self : goal.invariant_of-self
invariant_of-self c = (c.self.invariant.0, AreClassed-wider c.self.inside.shapes.keys _ _ c.class_of.ensures.distinct c.class_of.ensures.kept c.self.invariant.1)

pub invariant_of-self-in_default : goal.invariant_of-self-in_default
invariant_of-self-in_default c =
    subst (λ (es : List Entry). IsSound (map string_bytes c.self.inside.names.keys) es × AreClassed c.class_of.new.shapes.keys es) (sym c.in_default.ensures.err)
    (c.self.invariant.0, AreClassed-wider c.self.inside.shapes.keys _ _ c.class_of.ensures.distinct c.class_of.ensures.kept c.self.invariant.1)

pub invariant_of-self-2 : goal.invariant_of-self-2
invariant_of-self-2 c =
    let kept : Kept = record { facts = c.node_facts-facts.result; class = c.in_ok-class.class; shapes = c.len.result } in
    let longer : c.insert.new.self.entries ≡ c.self.inside.entries.entries ++ (c.args.node, kept) ∷ [] = entry_goes_last _ c.self.inside.entries.entries _ c.args.self.now c.self.view_is c.args.node kept c.requires.absent c.in-Ok.ensures.entries in
    let stands : slice_get c.class_of.new.shapes.keys c.in_ok-class.class ≡ Some (shape_by (class_at c.self.inside.entries.entries) c.args.node) = c.in_ok-class.ensures.stands ∙ ap Some c.in_ok-shape.ensures in (
      IsSound-pushed _ _ _ c.args.self.now (c.args.node, kept) c.self.view_is longer c.self.invariant.0 c.requires.parts c.node_facts-facts.ensures,
      AreClassed-pushed _ c.self.inside.shapes.keys _ _ _ c.args.self.now (c.args.node, kept) c.self.view_is longer c.self.invariant.0 c.requires.parts stands c.len.ensures.len
          (AreClassed-wider c.self.inside.shapes.keys _ _ c.class_of.ensures.distinct c.class_of.ensures.kept c.self.invariant.1),
    )

pub returns-clause-added : goal.returns-clause-added
returns-clause-added c =
    let kept : Kept = record { facts = c.node_facts-facts.result; class = c.in_ok-class.class; shapes = c.len.result } in
    AddsNode-pushed _ c.self.inside.entries.entries c.insert.new.self.entries c.args.self.now (c.args.node, kept) c.self.view_is
    (entry_goes_last _ c.self.inside.entries.entries _ c.args.self.now c.self.view_is c.args.node kept c.requires.absent c.in-Ok.ensures.entries) (record { place = c.len-place.result }) c.len-place.ensures.len
