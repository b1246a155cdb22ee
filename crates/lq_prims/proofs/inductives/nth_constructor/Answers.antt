use Rattle.std.proofs.Common.{◌≡◌, refl, slice_index_or, Some}
use Rattle.std.specs.Prelude.{slice_get}
use Rattle.std.proofs.Common.{subst as along}
use Rattle.lq_terms.specs.declared.nodes.NameId.{NameId}
use Rattle.lq_terms.specs.declared.nodes.TermId.{TermId}
use Rattle.lq_prims.proofs.ConstructorLaws.{get_inside}
use Rattle.lq_prims.proofs.inductives.nth_constructor.Goals as goal

pub returns : goal.returns
returns c =
    let cs = c.constructors-constructors.result.now in
    let none : NameId × TermId = (record { place = 0 }, record { place = 0 }) in
    (refl, (slice_index_or cs c.args.place none).0, along (λ xs. slice_get xs c.args.place ≡ Some (slice_index_or cs c.args.place none)) c.constructors-constructors.ensures (get_inside cs c.args.place none c.if-place-constructors.false))
