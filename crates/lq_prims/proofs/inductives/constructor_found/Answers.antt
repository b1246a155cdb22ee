use Rattle.std.proofs.Common.{◌≡◌}
use Rattle.std.proofs.Common.{subst as along}
use Rattle.lq_terms.specs.Terms.{tree_of}
use Rattle.lq_tactics.specs.Applying.{constructor_at}
use Rattle.lq_prims.specs.Inductives.{inductive_by, found_by}
use Rattle.lq_prims.proofs.ConstructorLaws.{kind_within, constructor_gives, constructor_lacks}
use Rattle.lq_prims.proofs.inductives.constructor_found.Goals as goal

pub constructor_at-requires-clause-within : goal.constructor_at-requires-clause-within
constructor_at-requires-clause-within c =
    kind_within c.args.bank.now c.args.inductive.now c.requires.inductive c.args.place c.in-Some.ensures.1 c.in-Some.kind c.in-Some.ensures.2

pub returns-in-Ok-clause-answer : goal.returns-in-Ok-clause-answer
returns-in-Ok-clause-answer c s =
    let bank = c.args.bank.now in
    let i = c.args.inductive.now in
    let f = found_by c.constructor_at.new.bank s.store c.in-Ok.typed in
    constructor_gives bank i c.requires.inductive c.args.place s c.in-Some.ensures.1 c.in-Some.kind f c.in-Some.ensures.2
    (along (λ k. f ≡ constructor_at s (inductive_by bank i) k (tree_of bank c.in-Some.kind)) c.in-Some.ensures.0 (c.in-Ok.ensures.is s))

pub returns-in-None-clause-answer : goal.returns-in-None-clause-answer
returns-in-None-clause-answer c s b = constructor_lacks c.args.bank.now c.args.inductive.now c.requires.inductive c.args.place s c.in-None.ensures c.args.bank.now b
