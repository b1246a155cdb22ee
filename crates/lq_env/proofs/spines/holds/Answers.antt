use Rattle.std.proofs.Common.{arith, rules, ◌≡◌, sym, ◌∙◌, ap, ◌∷◌, [], ◌++◌, map}
use Rattle.std.specs.Prelude.{◌||◌}
use Rattle.lq_calculus.specs.Declarations.{any_holds}
use Rattle.std.proofs.Common.{subst as along}
use Rattle.std.specs.List.{AllByRecursion}
use Rattle.lq_terms.specs.Terms.{HasTerm, text_of, tree_of}
use Rattle.lq_env.proofs.SpineLaws.{any_one, any_none, any_last, heft_last, all_last}
use Rattle.lq_env.proofs.spines.holds.Goals as goal

pub loop-part-init : goal.loop-part-init
loop-part-init c = let e = c.in_ok-push.ensures.items ∙ ap (λ z. z ++ c.args.term ∷ []) c.new-stack.ensures.items in record {
  has = along (λ z. AllByRecursion (HasTerm c.args.bank.now) z) (sym e) (c.requires.term, tt);
  same = any_one c.args.bank.now (text_of c.args.bank.now c.args.name) c.push.new.self.items c.args.term e;
}

pub is_family-requires-clause-term : goal.is_family-requires-clause-term
is_family-requires-clause-term c =
    all_last (HasTerm c.args.bank.now) c.pop.new.self.items c.in-Some.part (along (λ z. AllByRecursion (HasTerm c.args.bank.now) z) c.in-Some.ensures.items c.loop-part.invariant.has)

pub returns-then-branch : goal.returns-then-branch
returns-then-branch c =
    let x = text_of c.args.bank.now c.args.name in
    ap (λ z. z || any_holds x (map (tree_of c.args.bank.now) c.is_family.new.stack.items)) (sym c.if-branch.true) ∙ c.in_ok-is_family.ensures.found
    ∙ sym (any_last c.args.bank.now x c.loop-part.stack.items c.pop.new.self.items c.in-Some.part c.in-Some.ensures.items) ∙ c.loop-part.invariant.same

pub loop-part-smaller : goal.loop-part-smaller
loop-part-smaller c =
    omega (arith, c.in_ok-is_family.ensures.falls, heft_last c.args.bank.now (text_of c.args.bank.now c.args.name) c.loop-part.stack.items c.pop.new.self.items c.in-Some.part c.in-Some.ensures.items)

pub loop-part-preserved : goal.loop-part-preserved
loop-part-preserved c = let x = text_of c.args.bank.now c.args.name in record {
  has = c.in_ok-is_family.ensures.has;
  same = ap (λ z. z || any_holds x (map (tree_of c.args.bank.now) c.is_family.new.stack.items)) (sym c.if-branch.false) ∙ c.in_ok-is_family.ensures.found
      ∙ sym (any_last c.args.bank.now x c.loop-part.stack.items c.pop.new.self.items c.in-Some.part c.in-Some.ensures.items) ∙ c.loop-part.invariant.same;
}

pub returns : goal.returns
returns c =
    let empty : c.loop-part.stack.items ≡ [] = search rules in
    sym (any_none c.args.bank.now (text_of c.args.bank.now c.args.name) c.loop-part.stack.items empty) ∙ c.loop-part.invariant.same
