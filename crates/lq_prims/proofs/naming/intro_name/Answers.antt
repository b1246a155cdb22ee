use Rattle.std.proofs.Common.{◌∙◌, sym, ap}
use Rattle.std.proofs.Common.{subst as along}
use Rattle.std.specs.Prelude.{option_map}
use Rattle.lq_terms.specs.Contexts.{context_of}
use Rattle.lq_terms.specs.Terms.{text_of}
use Rattle.lq_evars.specs.Places.{HasNameOr}
use Rattle.lq_prims.proofs.IntroNames.{fresh_named, written_free, written_used, count_fresh}
use Rattle.lq_prims.proofs.naming.intro_name.Goals as goal

pub returns-in_ok-name-in-None-clause-answer : goal.returns-in_ok-name-in-None-clause-answer
returns-in_ok-name-in-None-clause-answer c s e =
    fresh_named s (context_of c.args.bank.now c.args.context.now) (option_map (text_of c.args.bank.now) c.args.written) (text_of c.args.bank.now c.args.binder) (text_of c.fresh_beside.new.bank c.in_ok-name-in-None.name) e
    (ap (option_map (text_of c.args.bank.now)) c.in-None.is) c.in_ok-name-in-None.ensures.name.is

pub returns-in_ok-name-in-None-clause-new : goal.returns-in_ok-name-in-None-clause-new
returns-in_ok-name-in-None-clause-new c =
    count_fresh c.args.bank.now c.args.context.now c.args.count (text_of c.args.bank.now c.args.binder) (text_of c.fresh_beside.new.bank c.in_ok-name-in-None.name) c.requires.count c.ranges.count.fits c.in_ok-name-in-None.ensures.name.is

pub returns-then-is_used-clause-answer : goal.returns-then-is_used-clause-answer
returns-then-is_used-clause-answer c s e b =
    written_used c.args.bank.now s (context_of c.args.bank.now c.args.context.now) (option_map (text_of c.args.bank.now) c.args.written) (text_of c.args.bank.now c.args.binder) c.in-Some.name e
    (ap (option_map (text_of c.args.bank.now)) c.in-Some.is) (along (λ z. HasNameOr c.args.bank.now z) c.in-Some.is c.requires.written) (sym c.is_used.ensures ∙ c.if-is_used.true) b

pub returns-else-is_used-clause-answer : goal.returns-else-is_used-clause-answer
returns-else-is_used-clause-answer c s e =
    written_free s (context_of c.args.bank.now c.args.context.now) (option_map (text_of c.args.bank.now) c.args.written) (text_of c.args.bank.now c.args.binder) (text_of c.args.bank.now c.in-Some.name) e
    (ap (option_map (text_of c.args.bank.now)) c.in-Some.is) (sym c.is_used.ensures ∙ c.if-is_used.false)
