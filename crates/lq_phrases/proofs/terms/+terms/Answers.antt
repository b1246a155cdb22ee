use Rattle.std.proofs.Common.{arith, ◌-◌, ◌≡◌, subst}
use Rattle.lq_sentences.specs.Terms.{term, within, atom_at, group, typed_names}
use Rattle.lq_sentences.specs.Rules.{read}
use Rattle.lq_sentences.proofs.LoopLaws.{word_takes, read_shorter}
use Rattle.lq_phrases.specs.Views.{spot_of, placed_of, Fails}
use Rattle.lq_phrases.proofs.Failing.{fails_by}
use Rattle.lq_phrases.proofs.terms.+terms.Goals as goal

pub group-returns-in-Err : goal.group-returns-in-Err
group-returns-in-Err t c =
    let e : c.saturating_sub-inside.result ≡ c.args.levels - 1 = omega (arith, c.saturating_sub-inside.ensures) in
    fails_by _ _ _ (λ d h. rw h) (subst (λ m. Fails c.in-Err.refusal (read (typed_names m (term m (spot_of c.args.spot))) c.args.cursor.now)) e c.in-Err.ensures)

pub more_groups-loop-alloc-smaller : goal.more_groups-loop-alloc-smaller
more_groups-loop-alloc-smaller t c =
    omega (arith, word_takes _ _ _ _ _ c.in_ok-take.ensures, read_shorter (group c.args.levels (c.args.levels - 1) (term (c.args.levels - 1) (within (spot_of c.args.spot)))) _ _ _ c.in_ok-inner.ensures)

pub more_arguments-loop-alloc-smaller : goal.more_arguments-loop-alloc-smaller
more_arguments-loop-alloc-smaller t c =
    omega (arith, word_takes _ _ _ _ _ c.in_ok-next.ensures, read_shorter (atom_at c.args.inside (term c.args.inside) (spot_of c.args.spot) (placed_of c.in_ok-next.next)) _ _ _ c.in_ok-atom_at.ensures)
