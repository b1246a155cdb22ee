use Rattle.std.proofs.Common.{◌≡◌, ◌+◌, ◌-◌, ◌*◌, length, map}
use Rattle.lq_grammar.specs.declared.token.Symbol.TheVariants.{OpenRound}
use Rattle.lq_ast.specs.Plain.{plain, plain_binders}
use Rattle.lq_sentences.specs.Words.{is_sign}
use Rattle.lq_sentences.specs.Rules.{read}
use Rattle.lq_sentences.specs.Parts.{many}
use Rattle.lq_sentences.specs.Terms.{term, atom_at, begins_argument, inner_group}
use Rattle.lq_phrases.specs.Views.{spot_of, ends_of, more_atoms}
use Rattle.lq_phrases.proofs.Loops.{many_from}
use Rattle.lq_phrases.proofs.terms.+terms.Given as goal

abbrev pub decreases-term : goal.decreases-term
decreases-term l = 20 * l.levels

abbrev pub decreases-behind : goal.decreases-behind
decreases-behind l = 20 * l.inside + 1

abbrev pub decreases-boxed_behind : goal.decreases-boxed_behind
decreases-boxed_behind l = 20 * l.inside + 2

abbrev pub decreases-boxed_term : goal.decreases-boxed_term
decreases-boxed_term l = 20 * l.levels + 1

abbrev pub decreases-term_in : goal.decreases-term_in
decreases-term_in l = 20 * l.inside + 12

abbrev pub decreases-forall : goal.decreases-forall
decreases-forall l = 20 * l.inside + 9

abbrev pub decreases-lambda : goal.decreases-lambda
decreases-lambda l = 20 * l.inside + 9

abbrev pub decreases-let_in : goal.decreases-let_in
decreases-let_in l = 20 * l.inside + 8

abbrev pub decreases-let_head : goal.decreases-let_head
decreases-let_head l = 20 * l.inside + 5

abbrev pub decreases-let_body : goal.decreases-let_body
decreases-let_body l = 20 * l.inside + 5

abbrev pub decreases-domain_behind : goal.decreases-domain_behind
decreases-domain_behind l = 20 * l.inside + 3

abbrev pub decreases-binders : goal.decreases-binders
decreases-binders l = 20 * l.inside + 8

abbrev pub decreases-names_behind : goal.decreases-names_behind
decreases-names_behind l = 20 * l.inside + 3

abbrev pub decreases-more_groups : goal.decreases-more_groups
decreases-more_groups l = 20 * l.levels + 6

abbrev pub decreases-groups : goal.decreases-groups
decreases-groups l = 20 * l.levels + 7

abbrev pub decreases-group : goal.decreases-group
decreases-group l = 20 * l.levels + 5

abbrev pub decreases-typed_names : goal.decreases-typed_names
decreases-typed_names l = 20 * l.levels + 3

abbrev pub decreases-atom : goal.decreases-atom
decreases-atom l = 20 * l.inside + 6

abbrev pub decreases-atom_at : goal.decreases-atom_at
decreases-atom_at l = 20 * l.inside + 5

abbrev pub decreases-bracketed : goal.decreases-bracketed
decreases-bracketed l = 20 * l.inside + 4

abbrev pub decreases-cast_behind : goal.decreases-cast_behind
decreases-cast_behind l = 20 * l.inside + 3

abbrev pub decreases-more_arguments : goal.decreases-more_arguments
decreases-more_arguments l = 20 * l.inside + 6

abbrev pub decreases-application : goal.decreases-application
decreases-application l = 20 * l.inside + 7

abbrev pub decreases-arrow : goal.decreases-arrow
decreases-arrow l = 20 * l.inside + 8

abbrev pub decreases-arrow_behind : goal.decreases-arrow_behind
decreases-arrow_behind l = 20 * l.inside + 3

abbrev pub invariant-more_groups-loop-alloc : goal.invariant-more_groups-loop-alloc
invariant-more_groups-loop-alloc l =
    read (many l.fn.levels (is_sign OpenRound) (inner_group l.fn.levels (l.fn.levels - 1) (term (l.fn.levels - 1)) (spot_of l.fn.spot)) (map plain_binders l.fn.found)) l.fn.cursor
    ≡ many_from l.fn.levels (is_sign OpenRound) (inner_group l.fn.levels (l.fn.levels - 1) (term (l.fn.levels - 1)) (spot_of l.fn.spot)) (map plain_binders l.found) l.cursor

abbrev pub decreases-more_groups-loop-alloc : goal.decreases-more_groups-loop-alloc
decreases-more_groups-loop-alloc l = length l.cursor

abbrev pub invariant-more_arguments-loop-alloc : goal.invariant-more_arguments-loop-alloc
invariant-more_arguments-loop-alloc l =
    read (more_atoms l.fn.inside (spot_of l.fn.spot) (map plain l.fn.found)) l.fn.cursor
    ≡ many_from (l.fn.inside + 1) (begins_argument (ends_of l.fn.spot.ends)) (atom_at l.fn.inside (term l.fn.inside) (spot_of l.fn.spot)) (map plain l.found) l.cursor

abbrev pub decreases-more_arguments-loop-alloc : goal.decreases-more_arguments-loop-alloc
decreases-more_arguments-loop-alloc l = length l.cursor
