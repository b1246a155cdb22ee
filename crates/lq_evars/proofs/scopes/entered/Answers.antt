use Rattle.std.proofs.Common.{◌∙◌, sym}
use Rattle.std.proofs.Common.{subst as along}
use Rattle.lq_evars.specs.Places.{store_of}
use Rattle.lq_evars.specs.Closures.{IsTurned}
use Rattle.lq_evars.proofs.Walks.{open_stays_itself, value_turns_to, bare_turns}
use Rattle.lq_evars.proofs.scopes.entered.Goals as goal

pub returns-in-None : goal.returns-in-None
returns-in-None c = open_stays_itself c.args.bank.now c.args.store.now c.requires.store c.requires.kept c.args.variable c.args.links.now.items c.args.closure c.requires.is.0 c.requires.is.1 (sym c.value.ensures.place ∙ c.in-None.is)

pub returns-in_ok-around-in-Some : goal.returns-in_ok-around-in-Some
returns-in_ok-around-in-Some c =
    value_turns_to c.args.bank.now c.args.store.now c.requires.store c.requires.kept c.args.variable c.args.links.now.items c.args.closure c.requires.is.0 c.requires.is.1 c.requires.links c.requires.closure c.in-Some.term (sym c.value.ensures.place ∙ c.in-Some.is)
    c.push.new.links.items c.push-in-Some.new.links.items c.in_ok-outside-in-Some.outside c.in_ok-around-in-Some.around c.in_ok-outside-in-Some.ensures.pushed c.in_ok-around-in-Some.ensures.pushed c.in_ok-outside-in-Some.ensures.place c.in_ok-around-in-Some.ensures.place

pub returns-then-is_bare : goal.returns-then-is_bare
returns-then-is_bare c =
    along (λ d. IsTurned c.args.bank.now (store_of c.args.bank.now c.args.store.now) c.args.links.now.items c.args.links.now.items c.args.closure d) (sym c.closed.ensures)
    (bare_turns c.args.bank.now c.args.store.now c.requires.store c.requires.kept c.args.variable c.args.links.now.items c.args.closure c.requires.is.0 c.requires.is.1 c.requires.links c.requires.closure c.in-Some.term
    (sym c.value.ensures.place ∙ c.in-Some.is) (λ v e. c.is_bare.ensures c.if-is_bare.true v e))
