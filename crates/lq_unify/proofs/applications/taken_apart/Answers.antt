use Rattle.std.proofs.Common.{rules, ◌≡◌, ◌∙◌, ◌∷◌, sym, ap, arith, map, length}
use Rattle.std.proofs.Common.{subst as along}
use Rattle.std.specs.List.{AllByRecursion}
use Rattle.lq_terms.specs.Terms.{HasTerm, tree_of}
use Rattle.lq_terms.proofs.Growth.{has-grown}
use Rattle.lq_solving.specs.Unification.{is_variable}
use Rattle.lq_unify.proofs.ApplicationLaws.{variable_list, other_list, counted}
use Rattle.lq_unify.proofs.applications.taken_apart.Goals as goal

pub returns-clause-lists : goal.returns-clause-lists
returns-clause-lists c =
    let n : c.len-count.result ≡ length c.args.variable.now.arguments.items = search rules in
    let m : c.len.result ≡ length c.args.other.now.arguments.items = search rules in
    let h : AllByRecursion (HasTerm c.without_last.new.bank) (c.args.variable.now.head ∷ c.args.variable.now.arguments.items) =
    has-grown c.args.bank.now c.without_last.new.bank (c.args.variable.now.head ∷ c.args.variable.now.arguments.items) c.in_ok-other.ensures.grows (c.requires.variable.0, c.requires.variable.1) in record {
      fits = counted c.args.bank.now c.args.variable.now.arguments.items c.args.other.now.arguments.items (is_variable (tree_of c.args.bank.now c.args.variable.now.head)) c.is_variable.result c.is_variable.ensures c.if-not-is_variable.false
          (omega (arith, c.if-count-lt1.false, n)) (omega (arith, c.if-len-count.false, n, m));
      variable = ap (map (tree_of c.without_last.new.bank)) (c.in_ok-variable.ensures ∙ ap (λ z. c.args.variable.now.head ∷ z) c.as_slice.ensures.value)
          ∙ variable_list c.args.bank.now c.without_last.new.bank c.in_ok-other.ensures.grows (c.args.variable.now.head ∷ c.args.variable.now.arguments.items) (c.requires.variable.0, c.requires.variable.1);
      other = c.in_ok-other.ensures.are ∙ other_list c.args.bank.now (tree_of c.args.bank.now c.args.other.now.head) c.args.variable.now.arguments.items c.args.other.now.arguments.items c.len-count.result n;
      variable_has = along (AllByRecursion (HasTerm c.without_last.new.bank)) (sym (c.in_ok-variable.ensures ∙ ap (λ z. c.args.variable.now.head ∷ z) c.as_slice.ensures.value)) h;
      other_has = c.in_ok-other.ensures.has;
    }
