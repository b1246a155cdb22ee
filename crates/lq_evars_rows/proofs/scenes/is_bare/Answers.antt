use Rattle.std.proofs.Common.{rules, ◌≡◌, ◌<◌, sym, subst, arith, [], length, MatchBool}
use Rattle.lq_solving.proofs.InstanceLaws.{length_map}
use Rattle.lq_evars.specs.Places.{variable_of}
use Rattle.lq_evars_rows.proofs.Simple.{no_names, none_of}
use Rattle.lq_evars_rows.proofs.scenes.is_bare.Goals as goal

pub returns : goal.returns
returns c = λ p.
    let inside : c.args.id < length c.args.store.now.variables = omega (arith, c.if-id-count.false, c.count.ensures.length) in
    let empty : length c.hypotheses.result.now ≡ 0 = search (rules, p, c.is_empty.ensures) in
    let none : c.context.result.now ≡ [] = search (rules, c.hypotheses.ensures, none_of c.hypotheses.result.now empty) in
    record {
      inside = subst (λ m. c.args.id < m) (sym (length_map (variable_of c.args.bank.now) c.args.store.now.variables)) inside;
      bare = no_names c.args.bank.now c.args.store.now c.args.id c.context.result.now inside c.context.ensures.place none;
    }
