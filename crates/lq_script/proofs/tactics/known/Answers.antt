use Rattle.std.proofs.Common.{◌<◌, sym, ◌∙◌, refl, arith, rules}
use Rattle.lq_terms.specs.Terms.{text_of}
use Rattle.lq_env.specs.Environments.{env_of}
use Rattle.lq_script.proofs.Proving.{place_inside, hypothesis_read, has_hypothesis, known_hypothesis, known_constant, known_nothing}
use Rattle.lq_script.proofs.tactics.known.Goals as goal

pub overflow_sub-number : goal.overflow_sub-number
overflow_sub-number c =
    omega (arith, place_inside c.args.bank.now c.args.hypotheses.now (text_of c.args.bank.now c.args.name) c.in-Some.index (sym c.position.ensures ∙ c.in-Some.is))

pub overflow_sub-number-in-Some : goal.overflow_sub-number-in-Some
overflow_sub-number-in-Some c =
    omega (arith, place_inside c.args.bank.now c.args.hypotheses.now (text_of c.args.bank.now c.args.name) c.in-Some.index (sym c.position.ensures ∙ c.in-Some.is))

pub offset_bounds-hypotheses-index : goal.offset_bounds-hypotheses-index
offset_bounds-hypotheses-index c =
    let inside : c.in-Some.index < 200 = omega (arith, c.requires.few, place_inside c.args.bank.now c.args.hypotheses.now (text_of c.args.bank.now c.args.name) c.in-Some.index (sym c.position.ensures ∙ c.in-Some.is)) in
    search rules

pub bounds-hypotheses-index : goal.bounds-hypotheses-index
bounds-hypotheses-index c = place_inside c.args.bank.now c.args.hypotheses.now (text_of c.args.bank.now c.args.name) c.in-Some.index (sym c.position.ensures ∙ c.in-Some.is)

pub returns-in-Some : goal.returns-in-Some
returns-in-Some c =
    let at = sym c.position.ensures ∙ c.in-Some.is in
    let here = hypothesis_read c.args.bank.now c.args.hypotheses.now (text_of c.args.bank.now c.args.name) c.in-Some.index _ at in
    known_hypothesis c.args.bank.now (env_of c.args.bank.now c.args.env.now) c.args.hypotheses.now (text_of c.args.bank.now c.args.name) c.in-Some.index _ _ c.requires.hypotheses at here refl
    (has_hypothesis c.args.bank.now c.args.hypotheses.now c.in-Some.index _ c.requires.hypotheses here).kind

pub returns-in-Some-constant_type : goal.returns-in-Some-constant_type
returns-in-Some-constant_type c =
    known_constant c.args.bank.now (env_of c.args.bank.now c.args.env.now) c.args.hypotheses.now (text_of c.args.bank.now c.args.name) c.args.name c.in-Some-constant_type.kind c.requires.name refl
    (sym c.position.ensures ∙ c.in_default.is) c.in-Some-constant_type.ensures

pub returns-in-None : goal.returns-in-None
returns-in-None c =
    known_nothing c.args.bank.now (env_of c.args.bank.now c.args.env.now) c.args.hypotheses.now (text_of c.args.bank.now c.args.name) (sym c.position.ensures ∙ c.in_default.is) c.in-None.ensures
