use Rattle.std.proofs.Common.{arith, sym, ap, ap₂, ◌∙◌, ◌≡◌, length}
use Rattle.std.proofs.Common.{subst as along}
use Rattle.std.specs.List.{AllByRecursion}
use Rattle.lq_trees.specs.Tree.{Tree}
use Rattle.lq_trees.specs.declared.Measure.{Measure}
use Rattle.lq_trees.specs.Size.{size}
use Rattle.lq_calculus.specs.Declarations.{conclusion}
use Rattle.lq_env.specs.Families.{family_of}
use Rattle.lq_env.specs.Telescopes.{telescope}
use Rattle.lq_env.specs.Building.{HasBinder, binders_of}
use Rattle.lq_env.proofs.Loops.{HasBinders-grown, binders_of-grown}
use Rattle.lq_env.proofs.Weights.{size-telescope}
use Rattle.lq_env.proofs.StoredLaws.{passed_on}
use Rattle.lq_env.proofs.generated.concluded.Goals as goal

pub returns-in-Err-clause-answer : goal.returns-in-Err-clause-answer
returns-in-Err-clause-answer c =
    let end = conclusion (family_of c.args.bank.now c.args.family.now) (Tree.Rel (length c.args.family.now.constructors)) in
    let bs = binders_of c.args.bank.now c.args.draft.now.binders.items in
    passed_on c.conclude.new.bank c.conclude.new.bank c.in-Err.fault end (telescope bs end) (omega (arith, size-telescope bs end)) c.in-Err.ensures.answer

pub returns-then-draft-measure-gt-MOST_NODES-clause-answer : goal.returns-then-draft-measure-gt-MOST_NODES-clause-answer
returns-then-draft-measure-gt-MOST_NODES-clause-answer c =
    let b = c.in-Ok.ensures.answer in
    let end = conclusion (family_of c.args.bank.now c.args.family.now) (Tree.Rel (length c.args.family.now.constructors)) in
    let bs = binders_of c.args.bank.now c.args.draft.now.binders.items in
    omega (arith, size-telescope bs end, ap size (b.0.is), c.requires.draft.nodes, ap (λ (m : Measure). m.size) c.measure.ensures, c.if-draft-measure-gt-MOST_NODES.true)

pub telescope-requires-clause-binders : goal.telescope-requires-clause-binders
telescope-requires-clause-binders c =
    along (λ z. AllByRecursion (HasBinder c.conclude.new.bank) z) (sym c.deref.ensures.value)
    (HasBinders-grown c.args.bank.now c.conclude.new.bank c.conclude.ensures.grows c.args.draft.now.binders.items c.requires.draft.binders)

pub returns-clause-answer : goal.returns-clause-answer
returns-clause-answer c =
    let b = c.in-Ok.ensures.answer in
    let end = conclusion (family_of c.args.bank.now c.args.family.now) (Tree.Rel (length c.args.family.now.constructors)) in
    let bs = binders_of c.args.bank.now c.args.draft.now.binders.items in
    let same : binders_of c.conclude.new.bank c.deref.result.now ≡ bs =
    ap (binders_of c.conclude.new.bank) c.deref.ensures.value ∙ binders_of-grown c.args.bank.now c.conclude.new.bank c.conclude.ensures.grows c.args.draft.now.binders.items c.requires.draft.binders in (
      record { has = c.in_ok-whole.ensures.made.has; is = c.in_ok-whole.ensures.made.is ∙ ap₂ telescope same (b.0.is) },
      omega (arith, size-telescope bs end, ap size (b.0.is), c.requires.draft.nodes, ap (λ (m : Measure). m.size) c.measure.ensures, c.if-draft-measure-gt-MOST_NODES.false),
    )
