use Rattle.std.proofs.Common.{◌≡◌, ◌∙◌, ◌+◌, sym, subst, drop}
use Rattle.lq_env.specs.Inductive.{HasNames, texts_of}
use Rattle.lq_calculus.specs.Declarations.{first_taken, names_of}
use Rattle.lq_env.specs.Environments.{env_of}
use Rattle.lq_env.proofs.Naming.{taken_here, taken_later, taken_nowhere, names-push, name_at, taken_of}
use Rattle.lq_env.proofs.inductive.refuse_taken.Goals as goal

pub returns-then-branch : goal.returns-then-branch
returns-then-branch c =
    let has = name_at c.args.bank.now c.args.names.now c.loop-name.name-index _ c.requires.names c.loop-name-test.true in (
      has,
      taken_here c.args.bank.now c.args.env.now c.args.names.now c.loop-name.seen.keys c.loop-name.name-index _ c.requires.env c.requires.names c.loop-name.invariant.0 c.loop-name-test.true
          (record { has = has; apart = c.text-text.ensures.apart }) c.loop-name.invariant.1 (sym c.in_ok-note.ensures.taken ∙ c.if-branch.true),
    )

pub loop-name-preserved : goal.loop-name-preserved
loop-name-preserved c =
    let has = name_at c.args.bank.now c.args.names.now c.loop-name.name-index _ c.requires.names c.loop-name-test.true in
    let later = taken_later c.args.bank.now c.args.env.now c.args.names.now c.loop-name.seen.keys c.loop-name.name-index _ c.requires.env c.requires.names c.loop-name.invariant.0 c.loop-name-test.true
    (record { has = has; apart = c.text-text.ensures.apart }) c.loop-name.invariant.1 (sym c.in_ok-note.ensures.taken ∙ c.if-branch.false) in
    let keys = c.in_ok-note.ensures.noted c.if-branch.false in
    subst (λ ks. HasNames c.args.bank.now ks × (first_taken (names_of (env_of c.args.bank.now c.args.env.now)) (texts_of c.args.bank.now c.args.names.now) ≡ first_taken (taken_of c.args.bank.now c.args.env.now ks) (texts_of c.args.bank.now (drop (c.loop-name.name-index + 1) c.args.names.now))))
    (sym keys) (names-push c.args.bank.now c.loop-name.seen.keys _ c.loop-name.invariant.0 has, later)

pub returns : goal.returns
returns c = taken_nowhere c.args.bank.now c.args.env.now c.args.names.now c.loop-name.seen.keys c.loop-name.name-index c.loop-name-test.false c.loop-name.invariant.1
