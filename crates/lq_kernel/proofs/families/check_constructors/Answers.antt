use Rattle.std.proofs.Common.{◌∙◌, refl, ap, arith, get_or, ◌∷◌, [], ◌++◌, Ok}
use Rattle.lq_terms.specs.Terms.{text_of, tree_of}
use Rattle.lq_terms.specs.Contexts.{context_of}
use Rattle.lq_terms.proofs.Growth.{Grows-refl, Grows-trans}
use Rattle.lq_calculus.specs.Declarations.{is_small}
use Rattle.lq_env.specs.Families.{family_of}
use Rattle.lq_env.specs.Environments.{env_of}
use Rattle.lq_env.proofs.FaultLaws.{no_constructor}
use Rattle.lq_kernel.proofs.Grown.{IsScoped-grown, IsEnv-grown, IsContext-grown, env_at, context_at, tree_at, text_at}
use Rattle.lq_kernel.proofs.ConstructorLaws.{so_far_first, constructors_refused, constructors_later, constructors_end, found_whole}
use Rattle.lq_kernel.proofs.OfferedLaws.{offered_parameters, offered_constructor}
use Rattle.lq_kernel.proofs.families.check_constructors.Goals as goal

pub loop-index-init : goal.loop-index-init
loop-index-init g c = record {
  items = c.constructors-constructors.ensures;
  grows = Grows-refl c.args.work.now.bank.now;
  so_far = so_far_first (env_of c.args.work.now.bank.now c.args.env.now) (family_of c.args.work.now.bank.now c.args.family.now) c.args.work.now.bank.now c.constructors-constructors.result.now c.args.work.now.ticks.now.left;
  same_bank = refl;
  same_ticks = refl;
  budget = refl;
  counted = refl;
}

pub check_constructor-requires-clause-name : goal.check_constructor-requires-clause-name
check_constructor-requires-clause-name g c =
    let i = c.loop-index.invariant in
    let at = offered_constructor c.args.work.now.bank.now c.args.family.now c.requires.family c.constructors-constructors.result.now i.items c.loop-index.index no_constructor c.loop-index-test.true in
    omega (arith, at.0, i.grows.names)

pub check_constructor-requires-clause-kind : goal.check_constructor-requires-clause-kind
check_constructor-requires-clause-kind g c =
    let i = c.loop-index.invariant in
    let at = offered_constructor c.args.work.now.bank.now c.args.family.now c.requires.family c.constructors-constructors.result.now i.items c.loop-index.index no_constructor c.loop-index-test.true in
    IsScoped-grown c.args.work.now.bank.now c.loop-index.work.bank.now i.grows 0 (get_or c.constructors-constructors.result.now c.loop-index.index no_constructor).1 at.1

pub check_constructor-requires-clause-env : goal.check_constructor-requires-clause-env
check_constructor-requires-clause-env g c = IsEnv-grown c.args.work.now.bank.now c.loop-index.work.bank.now c.loop-index.invariant.grows c.args.env.now c.requires.env

pub check_constructor-requires-clause-context : goal.check_constructor-requires-clause-context
check_constructor-requires-clause-context g c =
    IsContext-grown c.args.work.now.bank.now c.loop-index.work.bank.now c.loop-index.invariant.grows c.args.family.now.parameters (offered_parameters c.args.work.now.bank.now c.args.family.now c.requires.family)

pub returns-in_err-domains-clause-answer : goal.returns-in_err-domains-clause-answer
returns-in_err-domains-clause-answer g c =
    let i = c.loop-index.invariant in
    let at = offered_constructor c.args.work.now.bank.now c.args.family.now c.requires.family c.constructors-constructors.result.now i.items c.loop-index.index no_constructor c.loop-index-test.true in
    found_whole c.check_constructor.new.work.bank.now c.from_residual.result (env_of c.args.work.now.bank.now c.args.env.now) (family_of c.args.work.now.bank.now c.args.family.now) c.args.work.now.bank.now c.constructors-constructors.result.now c.args.family.now.constructors c.args.work.now.ticks.now.left c.check_constructor.new.work.ticks.now.left i.items
    (constructors_refused (env_of c.args.work.now.bank.now c.args.env.now) (family_of c.args.work.now.bank.now c.args.family.now) c.args.work.now.bank.now c.constructors-constructors.result.now c.loop-index.index c.args.work.now.ticks.now.left c.loop-index.work.ticks.now.left c.loop-index.small no_constructor c.loop-index-test.true i.so_far c.check_constructor.new.work.bank.now c.from_residual.result c.in_err-domains.field-0.0 c.check_constructor.new.work.ticks.now.left c.from_residual.ensures.1
    (c.in_err-domains.ensures.refused (env_of c.args.work.now.bank.now c.args.env.now) (context_of c.args.work.now.bank.now c.args.family.now.parameters) (text_of c.args.work.now.bank.now (get_or c.constructors-constructors.result.now c.loop-index.index no_constructor).0) (tree_of c.args.work.now.bank.now (get_or c.constructors-constructors.result.now c.loop-index.index no_constructor).1) (env_at c.args.work.now.bank.now c.loop-index.work.bank.now i.grows c.args.env.now (env_of c.args.work.now.bank.now c.args.env.now) c.requires.env refl) (context_at c.args.work.now.bank.now c.loop-index.work.bank.now i.grows c.args.family.now.parameters _ (offered_parameters c.args.work.now.bank.now c.args.family.now c.requires.family) refl) (text_at c.args.work.now.bank.now c.loop-index.work.bank.now i.grows (get_or c.constructors-constructors.result.now c.loop-index.index no_constructor).0 _ at.0 refl) (tree_at c.args.work.now.bank.now c.loop-index.work.bank.now i.grows (get_or c.constructors-constructors.result.now c.loop-index.index no_constructor).1 _ at.1.has refl)))

pub loop-index-preserved : goal.loop-index-preserved
loop-index-preserved g c =
    let i = c.loop-index.invariant in
    let at = offered_constructor c.args.work.now.bank.now c.args.family.now c.requires.family c.constructors-constructors.result.now i.items c.loop-index.index no_constructor c.loop-index-test.true in record {
      items = i.items;
      grows = Grows-trans c.args.work.now.bank.now c.loop-index.work.bank.now c.check_constructor.new.work.bank.now i.grows c.in_ok-domains.ensures.grows;
      so_far = constructors_later (env_of c.args.work.now.bank.now c.args.env.now) (family_of c.args.work.now.bank.now c.args.family.now) c.args.work.now.bank.now c.constructors-constructors.result.now c.loop-index.index c.args.work.now.ticks.now.left c.loop-index.work.ticks.now.left c.loop-index.small no_constructor c.loop-index-test.true i.so_far c.in_ok-domains.domains.items c.check_constructor.new.work.ticks.now.left c.is_small_with-small.result
          (c.in_ok-domains.ensures.answer (env_of c.args.work.now.bank.now c.args.env.now) (context_of c.args.work.now.bank.now c.args.family.now.parameters) (text_of c.args.work.now.bank.now (get_or c.constructors-constructors.result.now c.loop-index.index no_constructor).0) (tree_of c.args.work.now.bank.now (get_or c.constructors-constructors.result.now c.loop-index.index no_constructor).1) (env_at c.args.work.now.bank.now c.loop-index.work.bank.now i.grows c.args.env.now (env_of c.args.work.now.bank.now c.args.env.now) c.requires.env refl) (context_at c.args.work.now.bank.now c.loop-index.work.bank.now i.grows c.args.family.now.parameters _ (offered_parameters c.args.work.now.bank.now c.args.family.now c.requires.family) refl) (text_at c.args.work.now.bank.now c.loop-index.work.bank.now i.grows (get_or c.constructors-constructors.result.now c.loop-index.index no_constructor).0 _ at.0 refl) (tree_at c.args.work.now.bank.now c.loop-index.work.bank.now i.grows (get_or c.constructors-constructors.result.now c.loop-index.index no_constructor).1 _ at.1.has refl)) (λ found e. c.is_small_with-small.ensures found e ∙ ap (λ z. is_small (found ++ z ∷ [])) c.deref.ensures.value);
      same_bank = c.in_ok-domains.ensures.same_bank ∙ i.same_bank;
      same_ticks = c.in_ok-domains.ensures.same_ticks ∙ i.same_ticks;
      budget = c.in_ok-domains.ensures.budget ∙ i.budget;
      counted = omega (arith, c.in_ok-domains.ensures.counted, i.counted);
    }

pub returns-clause-answer : goal.returns-clause-answer
returns-clause-answer g c =
    let i = c.loop-index.invariant in
    found_whole c.loop-index.work.bank.now (Ok c.loop-index.small) (env_of c.args.work.now.bank.now c.args.env.now) (family_of c.args.work.now.bank.now c.args.family.now) c.args.work.now.bank.now c.constructors-constructors.result.now c.args.family.now.constructors c.args.work.now.ticks.now.left c.loop-index.work.ticks.now.left i.items
    (constructors_end (env_of c.args.work.now.bank.now c.args.env.now) (family_of c.args.work.now.bank.now c.args.family.now) c.args.work.now.bank.now c.constructors-constructors.result.now c.loop-index.index c.args.work.now.ticks.now.left c.loop-index.work.ticks.now.left c.loop-index.small c.loop-index-test.false i.so_far)
