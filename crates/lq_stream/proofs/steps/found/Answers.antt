use Rattle.std.proofs.Common.{le_refl, ◌≤◌, slice_set, rules, ◌≡◌, ◌∷◌, Some, length, slice_get, subst, sym, ◌∙◌, arith}
use Rattle.lq_runs.specs.Stacks as Stack
use Rattle.lq_runs.specs.Streams.{fails, Shows}
use Rattle.lq_stream.specs.Holding.{HasFirst, IsChoice}
use Rattle.lq_stream.specs.declared.stacks.Choice.TheVariants.{NoSuccess, FirstSuccess}
use Rattle.lq_stream.specs.Reading.{choices_of}
use Rattle.lq_stream.proofs.SoleArms.{read_at, set_twice, take_set, first_found, second_found, none_found, nothing_found}
use Rattle.lq_stream.proofs.Switching.{get_holds, set_holds, take_keep}
use Rattle.lq_stream.specs.Places.{place_in}
use Rattle.lq_stream.proofs.SuccessCosts.{falls_first, falls_second}
use Rattle.lq_stream.proofs.Tops.{shrinks_same, shrinks_set, shrinks_take}
use Rattle.lq_stream.proofs.steps.found.Goals as goal

pub returns-then-height-len : goal.returns-then-height-len
returns-then-height-len g c =
    let n : c.len.result ≡ length c.args.choices.now.items = search (rules, c.len.ensures) in
    record {
      keeps = λ n q. (q, c.requires.value);
      stands =
          λ ls ks f q. absurd (nothing_found g.M.Machine.rest_rank (g.M.Machine.told c.args.machine.now) (g.M.Machine.does c.args.machine.now) (g.M.Machine.state c.args.machine.now) ls ks
          c.args.choices.now.items f c.args.height c.args.value (omega (arith, n, c.if-height-len.true)) q);
      shrinks = shrinks_same c.args.choices.now.items;
      falls = λ ls ks f q. absurd (nothing_found g.M.Machine.rest_rank (g.M.Machine.told c.args.machine.now) (g.M.Machine.does c.args.machine.now) (g.M.Machine.state c.args.machine.now) ls ks c.args.choices.now.items f c.args.height c.args.value (omega (arith, n, c.if-height-len.true)) q);
    }

pub returns-in-NoSuccess : goal.returns-in-NoSuccess
returns-in-NoSuccess g c =
    let n : c.len.result ≡ length c.args.choices.now.items = search (rules, c.len.ensures) in
    let r : slice_get c.args.choices.now.items c.args.height ≡ Some (NoSuccess c.in-NoSuccess.cause c.in-NoSuccess.at) =
    read_at c.args.height c.args.choices.now.items c.index_mut.result.now (NoSuccess c.in-NoSuccess.cause c.in-NoSuccess.at) (omega (arith, n, c.if-height-len.false)) c.index_mut.ensures.value
    (sym c.in-NoSuccess.is ∙ c.replace.ensures.value) in
    record {
      keeps = λ n q. (
        set_holds (g.M.Machine.known c.args.machine.now) n c.args.height (slice_set c.args.choices.now.items c.args.height c.replace.new.dest) (FirstSuccess c.in-NoSuccess.cause c.mark.result c.args.value c.in-NoSuccess.at)
            (set_holds (g.M.Machine.known c.args.machine.now) n c.args.height c.args.choices.now.items c.replace.new.dest q (subst (IsChoice (g.M.Machine.known c.args.machine.now) n) (sym c.replace.ensures.after) tt))
            (let p : (g.M.Machine.known c.args.machine.now).cause c.in-NoSuccess.cause × (c.in-NoSuccess.at ≤ n) = get_holds (g.M.Machine.known c.args.machine.now) n c.args.height c.args.choices.now.items (NoSuccess c.in-NoSuccess.cause c.in-NoSuccess.at) r q in (p.0, c.mark.ensures.known, c.requires.value, p.1)),
        tt,
      );
      stands =
          λ ls ks f q. (
            tt,
            subst (λ l. (e : g.M.Machine.CauseTree) × Shows g.M.Machine.rest_rank (g.M.Machine.does c.args.machine.now) (g.M.Machine.state c.args.machine.now) (fails 0 e)
                (Stack.alone c.args.height ∷ ks) (choices_of (g.M.Machine.told c.args.machine.now) ls l) f × HasFirst (choices_of (g.M.Machine.told c.args.machine.now) ls l))
                (sym (set_twice c.args.height c.args.choices.now.items c.replace.new.dest (FirstSuccess c.in-NoSuccess.cause c.mark.result c.args.value c.in-NoSuccess.at)))
                (first_found g.M.Machine.rest_rank (g.M.Machine.told c.args.machine.now) (g.M.Machine.does c.args.machine.now) (g.M.Machine.state c.args.machine.now) ls ks
                c.args.choices.now.items f c.args.height c.args.value c.in-NoSuccess.cause c.in-NoSuccess.at c.mark.result r c.mark.ensures.state q),
          );
      shrinks = shrinks_set c.args.height c.args.choices.now.items (slice_set (slice_set c.args.choices.now.items c.args.height c.replace.new.dest) c.args.height (FirstSuccess c.in-NoSuccess.cause c.mark.result c.args.value c.in-NoSuccess.at)) (NoSuccess c.in-NoSuccess.cause c.in-NoSuccess.at) (FirstSuccess c.in-NoSuccess.cause c.mark.result c.args.value c.in-NoSuccess.at) r (le_refl c.in-NoSuccess.at) (set_twice c.args.height c.args.choices.now.items c.replace.new.dest (FirstSuccess c.in-NoSuccess.cause c.mark.result c.args.value c.in-NoSuccess.at));
      falls = λ ls ks f q. falls_first g.M.Machine.rank g.M.Machine.rest_rank (g.M.Machine.told c.args.machine.now) ls ks c.args.choices.now.items (slice_set (slice_set c.args.choices.now.items c.args.height c.replace.new.dest) c.args.height (FirstSuccess c.in-NoSuccess.cause c.mark.result c.args.value c.in-NoSuccess.at)) c.args.height c.args.value c.in-NoSuccess.cause c.in-NoSuccess.at c.mark.result r (set_twice c.args.height c.args.choices.now.items c.replace.new.dest (FirstSuccess c.in-NoSuccess.cause c.mark.result c.args.value c.in-NoSuccess.at));
    }

pub returns-in-FirstSuccess : goal.returns-in-FirstSuccess
returns-in-FirstSuccess g c =
    let n : c.len.result ≡ length c.args.choices.now.items = search (rules, c.len.ensures) in
    let r : slice_get c.args.choices.now.items c.args.height ≡ Some (FirstSuccess c.in-FirstSuccess.cause c.in-FirstSuccess.field-1 c.in-FirstSuccess.field-2 c.in-FirstSuccess.field-3) =
    read_at c.args.height c.args.choices.now.items c.index_mut.result.now
    (FirstSuccess c.in-FirstSuccess.cause c.in-FirstSuccess.field-1 c.in-FirstSuccess.field-2 c.in-FirstSuccess.field-3)
    (omega (arith, n, c.if-height-len.false)) c.index_mut.ensures.value (sym c.in-FirstSuccess.is ∙ c.replace.ensures.value) in
    record {
      keeps = λ n q. (
        take_keep (g.M.Machine.known c.args.machine.now) n c.args.height c.args.choices.now.items c.truncate.new.self.items (c.truncate.ensures.items ∙ take_set c.args.height c.args.choices.now.items c.replace.new.dest) q,
        (get_holds (g.M.Machine.known c.args.machine.now) n c.args.height c.args.choices.now.items (FirstSuccess c.in-FirstSuccess.cause c.in-FirstSuccess.field-1 c.in-FirstSuccess.field-2 c.in-FirstSuccess.field-3) r q).0,
      );
      stands =
          λ ls ks f q. (
            tt,
            subst (λ l. Shows g.M.Machine.rest_rank (g.M.Machine.does c.args.machine.now) (g.M.Machine.state c.args.machine.now)
                (fails 0 ((g.M.Machine.told c.args.machine.now).cause c.in-FirstSuccess.cause))
                (Stack.alone c.args.height ∷ ks) (choices_of (g.M.Machine.told c.args.machine.now) ls l) f)
                (sym (c.truncate.ensures.items ∙ take_set c.args.height c.args.choices.now.items c.replace.new.dest))
                (second_found g.M.Machine.rest_rank (g.M.Machine.told c.args.machine.now) (g.M.Machine.does c.args.machine.now) (g.M.Machine.state c.args.machine.now) ls ks
                c.args.choices.now.items f c.args.height c.args.value c.in-FirstSuccess.cause c.in-FirstSuccess.field-1 c.in-FirstSuccess.field-2 c.in-FirstSuccess.field-3 r q),
          );
      shrinks = shrinks_take c.args.height c.args.choices.now.items c.truncate.new.self.items (c.truncate.ensures.items ∙ take_set c.args.height c.args.choices.now.items c.replace.new.dest);
      falls = λ ls ks f q. falls_second g.M.Machine.rank g.M.Machine.rest_rank (g.M.Machine.told c.args.machine.now) ls ks c.args.choices.now.items c.truncate.new.self.items c.args.height c.args.value (c.truncate.ensures.items ∙ take_set c.args.height c.args.choices.now.items c.replace.new.dest);
    }

pub returns-in_default : goal.returns-in_default
returns-in_default g c =
    let n : c.len.result ≡ length c.args.choices.now.items = search (rules, c.len.ensures) in
    let r : slice_get c.args.choices.now.items c.args.height ≡ Some c.replace.result =
    read_at c.args.height c.args.choices.now.items c.index_mut.result.now c.replace.result (omega (arith, n, c.if-height-len.false)) c.index_mut.ensures.value c.replace.ensures.value in
    record {
      keeps = λ n q. (
        set_holds (g.M.Machine.known c.args.machine.now) n c.args.height (slice_set c.args.choices.now.items c.args.height c.replace.new.dest) c.replace.result
            (set_holds (g.M.Machine.known c.args.machine.now) n c.args.height c.args.choices.now.items c.replace.new.dest q (subst (IsChoice (g.M.Machine.known c.args.machine.now) n) (sym c.replace.ensures.after) tt))
            (get_holds (g.M.Machine.known c.args.machine.now) n c.args.height c.args.choices.now.items c.replace.result r q),
        c.requires.value,
      );
      stands =
          λ ls ks f q. absurd (none_found g.M.Machine.rest_rank (g.M.Machine.told c.args.machine.now) (g.M.Machine.does c.args.machine.now) (g.M.Machine.state c.args.machine.now) ls ks
          c.args.choices.now.items f c.args.height c.args.value c.replace.result r c.in_default.not-NoSuccess c.in_default.not-FirstSuccess q);
      shrinks = shrinks_set c.args.height c.args.choices.now.items (slice_set (slice_set c.args.choices.now.items c.args.height c.replace.new.dest) c.args.height c.replace.result) c.replace.result c.replace.result r (le_refl (place_in c.replace.result)) (set_twice c.args.height c.args.choices.now.items c.replace.new.dest c.replace.result);
      falls = λ ls ks f q. absurd (none_found g.M.Machine.rest_rank (g.M.Machine.told c.args.machine.now) (g.M.Machine.does c.args.machine.now) (g.M.Machine.state c.args.machine.now) ls ks c.args.choices.now.items f c.args.height c.args.value c.replace.result r c.in_default.not-NoSuccess c.in_default.not-FirstSuccess q);
    }
