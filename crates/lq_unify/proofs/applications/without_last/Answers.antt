use Rattle.std.proofs.Common.{◌≡◌, ◌-◌, ◌∷◌, refl, sym, ap, map, length, take, drop}
use Rattle.std.proofs.Common.{subst as along}
use Rattle.std.specs.List.{AllByRecursion}
use Rattle.lq_calculus.specs.Contraction.{apply}
use Rattle.lq_terms.specs.Terms.{HasTerm, tree_of}
use Rattle.lq_terms.proofs.Growth.{has-grown}
use Rattle.lq_solving.specs.Unification.{split_last}
use Rattle.lq_unify.proofs.ApplicationLaws.{other_are, all_drop, if_list, take_rest}
use Rattle.lq_unify.proofs.applications.without_last.Goals as goal

pub returns-clause-are : goal.returns-clause-are
returns-clause-are c =
    if_list c.whole.result (λ ts. ts.items) (c.in_ok-head.head ∷ take (length c.args.application.now.arguments.items - (length c.args.application.now.arguments.items - c.args.count)) (drop (length c.args.application.now.arguments.items - c.args.count) c.args.application.now.arguments.items))
    (λ us. map (tree_of c.applied.new.bank) us ≡ apply (tree_of c.args.bank.now c.args.application.now.head) (split_last c.args.count (map (tree_of c.args.bank.now) c.args.application.now.arguments.items)).0
    ∷ (split_last c.args.count (map (tree_of c.args.bank.now) c.args.application.now.arguments.items)).1)
    (rw c.as_slice-arguments.ensures.value at c.whole.ensures)
    (other_are c.args.bank.now c.applied.new.bank c.in_ok-head.ensures.grows c.args.application.now.head c.args.application.now.arguments.items (c.in_ok-head.head ∷ take (length c.args.application.now.arguments.items - (length c.args.application.now.arguments.items - c.args.count)) (drop (length c.args.application.now.arguments.items - c.args.count) c.args.application.now.arguments.items)) c.in_ok-head.head c.args.application.now.arguments.items c.args.count (length c.args.application.now.arguments.items - c.args.count) refl c.requires.application.1
    (rw c.as_slice-arguments.ensures.value at c.in_ok-head.ensures.made) (ap (λ z. c.in_ok-head.head ∷ z) (take_rest (length c.args.application.now.arguments.items - c.args.count) (length c.args.application.now.arguments.items - (length c.args.application.now.arguments.items - c.args.count)) c.args.application.now.arguments.items refl)))

pub returns-clause-has : goal.returns-clause-has
returns-clause-has c =
    if_list c.whole.result (λ ts. ts.items) (c.in_ok-head.head ∷ take (length c.args.application.now.arguments.items - (length c.args.application.now.arguments.items - c.args.count)) (drop (length c.args.application.now.arguments.items - c.args.count) c.args.application.now.arguments.items)) (AllByRecursion (HasTerm c.applied.new.bank)) (rw c.as_slice-arguments.ensures.value at c.whole.ensures) (
      c.in_ok-head.ensures.made.has,
      along (AllByRecursion (HasTerm c.applied.new.bank)) (sym (take_rest (length c.args.application.now.arguments.items - c.args.count) (length c.args.application.now.arguments.items - (length c.args.application.now.arguments.items - c.args.count)) c.args.application.now.arguments.items refl))
          (all_drop (HasTerm c.applied.new.bank) (length c.args.application.now.arguments.items - c.args.count) c.args.application.now.arguments.items (has-grown c.args.bank.now c.applied.new.bank c.args.application.now.arguments.items c.in_ok-head.ensures.grows c.requires.application.1)),
    )
