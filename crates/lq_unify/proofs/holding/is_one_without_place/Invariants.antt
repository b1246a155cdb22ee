use Rattle.std.proofs.Common.{◌≡◌, drop}
use Rattle.lq_unify.specs.Solutions.{places_of}
use Rattle.lq_unify.specs.Holding.{one_marked, has_no_place}
use Rattle.lq_unify.proofs.holding.is_one_without_place.Given as goal

abbrev pub invariant-loop-name : goal.invariant-loop-name
invariant-loop-name l = one_marked l.bank (has_no_place (places_of l.bank l.places.entries)) (drop l.name-index l.names) ≡ one_marked l.bank (has_no_place (places_of l.bank l.places.entries)) l.names
