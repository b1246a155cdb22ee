use Rattle.std.proofs.Common.{◌∙◌, rules, sym, ap, false, ◌||◌, [], ◌≡◌}
use Rattle.std.proofs.Common.{subst as along}
use Rattle.std.specs.List.{AllByRecursion}
use Rattle.lq_terms.specs.Terms.{HasName, text_of}
use Rattle.lq_unify.specs.Holding.{one_marked}
use Rattle.lq_unify.proofs.holding.of_name.Goals as goal

pub add_name-requires-clause-names : goal.add_name-requires-clause-names
add_name-requires-clause-names c =
    let e : c.new.result.keys ≡ [] = search rules in along (AllByRecursion (HasName c.args.bank.now)) (sym e) tt

pub returns-clause-told : goal.returns-clause-told
returns-clause-told c = λ m.
    let e : c.new.result.keys ≡ [] = search rules in
    c.in_ok-add_name.ensures.told m ∙ ap (λ xs. (false || one_marked c.args.bank.now m xs) || m (text_of c.args.bank.now c.args.name)) e
