use Rattle.std.proofs.Common.{arith, rules, ◌≡◌, sym, ◌∙◌, ap, subst, ◌∷◌, [], ◌++◌}
use Rattle.std.specs.List.{AllByRecursion}
use Rattle.lq_terms.specs.Terms.{HasTerm, tree_of}
use Rattle.lq_terms.specs.Contexts.{context_of}
use Rattle.lq_kernel.specs.Steps.{Looked}
use Rattle.lq_kernel.proofs.LookLaws.{names_in, waiting_one, waiting_none, waiting_found, waiting_on, has_whole, weight_top}
use Rattle.lq_kernel.proofs.looking.stranger.Goals as goal

pub loop-part-init : goal.loop-part-init
loop-part-init c = let e = c.in_ok-push.ensures.items ∙ ap (λ z. z ++ c.args.term ∷ []) c.new-stack.ensures.items in record {
  has = subst (AllByRecursion (HasTerm c.args.bank.now)) (sym e) (c.requires.term, tt);
  same = waiting_one (names_in (context_of c.args.bank.now c.args.hypotheses.now)) c.args.bank.now c.push.new.self.items c.args.term e;
}

pub look-requires-clause-term : goal.look-requires-clause-term
look-requires-clause-term c = (has_whole c.args.bank.now c.loop-part.stack.items c.pop.new.self.items c.in-Some.part c.in-Some.ensures.items c.loop-part.invariant.has).0

pub returns-in-Some-2-clause-found : goal.returns-in-Some-2-clause-found
returns-in-Some-2-clause-found c = waiting_found (names_in (context_of c.args.bank.now c.args.hypotheses.now)) c.args.bank.now c.loop-part.stack.items c.pop.new.self.items c.look.new.stack.items c.in-Some.part _ c.in-Some-2.name c.in-Some.ensures.items (subst (λ o. Looked c.args.bank.now (names_in (context_of c.args.bank.now c.args.hypotheses.now)) o (tree_of c.args.bank.now c.in-Some.part) c.pop.new.self.items c.look.new.stack.items) c.in-Some-2.is c.in_ok-name.ensures.looked) c.loop-part.invariant.same

pub loop-part-smaller : goal.loop-part-smaller
loop-part-smaller c = omega (arith, c.in_ok-name.ensures.falls, weight_top (tree_of c.args.bank.now) c.loop-part.stack.items c.pop.new.self.items c.in-Some.part c.in-Some.ensures.items)

pub loop-part-preserved : goal.loop-part-preserved
loop-part-preserved c = record {
  has = c.in_ok-name.ensures.has;
  same = waiting_on (names_in (context_of c.args.bank.now c.args.hypotheses.now)) c.args.bank.now c.loop-part.stack.items c.pop.new.self.items c.look.new.stack.items c.in-Some.part _ c.in-Some.ensures.items (subst (λ o. Looked c.args.bank.now (names_in (context_of c.args.bank.now c.args.hypotheses.now)) o (tree_of c.args.bank.now c.in-Some.part) c.pop.new.self.items c.look.new.stack.items) c.in_default-2.is c.in_ok-name.ensures.looked) c.loop-part.invariant.same;
}

pub returns-clause-found : goal.returns-clause-found
returns-clause-found c =
    let empty : c.loop-part.stack.items ≡ [] = search rules in
    sym (waiting_none (names_in (context_of c.args.bank.now c.args.hypotheses.now)) c.args.bank.now c.loop-part.stack.items empty) ∙ c.loop-part.invariant.same
