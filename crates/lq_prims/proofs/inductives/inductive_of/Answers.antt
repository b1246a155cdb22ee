use Rattle.std.proofs.Common.{◌+◌, ◌∙◌, sym, ap, eqb, eqb-true, length, map}
use Rattle.lq_terms.specs.Terms.{tree_of}
use Rattle.lq_env.specs.Environments.{IsOwn, env_of}
use Rattle.lq_env.specs.Families.{family_of}
use Rattle.lq_prims.proofs.InductiveLaws.{no_inductive, no_family, too_many_or_few, inductive_found, number_is}
use Rattle.lq_prims.proofs.inductives.inductive_of.Goals as goal

pub returns-in_default : goal.returns-in_default
returns-in_default c =
    no_inductive c.args.bank.now (env_of c.args.bank.now c.args.env.now) c.node.result.now c.args.application.head (map (tree_of c.args.bank.now) c.args.application.arguments.items) c.node.ensures.tree c.in_default.not-Ind

pub returns-then-has_places : goal.returns-then-has_places
returns-then-has_places c =
    let bank = c.args.bank.now in
    let has = (rw c.in-Ind.is at c.node.ensures.parts) in
    let own : IsOwn bank c.in-Ind.name = record { has = has; apart = λ other h e. c.names_apart.ensures other c.in-Ind.name h has e } in
    let f = c.in-Some.ensures bank c.requires.env own in
    let many = number_is bank c.in-Some.family.now c.args.application.arguments.items c.has_places.result (c.has_places.ensures ∙ ap (λ ts. eqb (length ts) (length c.in-Some.family.now.parameters + length c.in-Some.family.now.indices)) c.as_slice.ensures.value) in (
      record { name = has; family = f.0; args = c.requires.arguments; many = eqb-true _ _ (sym (c.has_places.ensures ∙ ap (λ ts. eqb (length ts) (length c.in-Some.family.now.parameters + length c.in-Some.family.now.indices)) c.as_slice.ensures.value) ∙ c.if-has_places.true); shallow = c.requires.shallow },
      inductive_found bank (env_of bank c.args.env.now) c.node.result.now c.args.application.head c.in-Ind.name (map (tree_of bank) c.args.application.arguments.items) c.node.ensures.tree c.in-Ind.is
          (family_of bank c.in-Some.family.now) f.1 c.has_places.result many c.if-has_places.true,
    )

pub returns-in-Some : goal.returns-in-Some
returns-in-Some c =
    let bank = c.args.bank.now in
    let has = (rw c.in-Ind.is at c.node.ensures.parts) in
    let own : IsOwn bank c.in-Ind.name = record { has = has; apart = λ other h e. c.names_apart.ensures other c.in-Ind.name h has e } in
    let f = c.in-Some.ensures bank c.requires.env own in
    let many = number_is bank c.in-Some.family.now c.args.application.arguments.items c.has_places.result (c.has_places.ensures ∙ ap (λ ts. eqb (length ts) (length c.in-Some.family.now.parameters + length c.in-Some.family.now.indices)) c.as_slice.ensures.value) in
    too_many_or_few bank (env_of bank c.args.env.now) c.node.result.now c.args.application.head c.in-Ind.name (map (tree_of bank) c.args.application.arguments.items) c.node.ensures.tree c.in-Ind.is
    (family_of bank c.in-Some.family.now) f.1 c.has_places.result many c.if-has_places.false

pub returns : goal.returns
returns c =
    let bank = c.args.bank.now in
    let has = (rw c.in-Ind.is at c.node.ensures.parts) in
    let own : IsOwn bank c.in-Ind.name = record { has = has; apart = λ other h e. c.names_apart.ensures other c.in-Ind.name h has e } in
    no_family bank (env_of bank c.args.env.now) c.node.result.now c.args.application.head c.in-Ind.name (map (tree_of bank) c.args.application.arguments.items) c.node.ensures.tree c.in-Ind.is (c.in-None.ensures bank c.requires.env own)
