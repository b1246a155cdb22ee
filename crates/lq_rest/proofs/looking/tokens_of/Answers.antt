use Rattle.std.proofs.Common.{◌∙◌, sym, ap, ◌+◌, ◌-◌, length, Ok}
use Rattle.lq_grammar.specs.Selectors.{is_empty}
use Rattle.lq_grammar.proofs.CellLaws.{place-view}
use Rattle.lq_sessions.specs.Rest.{crossed, stopped, may_go_on}
use Rattle.lq_lex.specs.Views.{from}
use Rattle.lq_rest.proofs.LookLaws.{looks_as, looked_found, looked_none, word_stops, word_goes}
use Rattle.lq_rest.proofs.looking.tokens_of.Goals as goal
use Rattle.lq_rest.proofs.looking.tokens_of.Goals.{in-Space, in-Word+else-may_go_on+in_ok-push-in-Word}

pub returns-in-Nothing : goal.returns-in-Nothing
returns-in-Nothing c =
    let loop = c.loop-turn in
    let text = c.args.view.now.text.now in
    loop.invariant.same
    ∙ looked_found (length text + 1) loop.turn text loop.tokens.items (from c.args.view.now loop.at) c.is_none.result _ c.loop-turn-test.true (c.is_none.ensures ∙ ap is_empty c.deref.ensures.value) c.in-Nothing.ensures
    ∙ ap Ok (sym c.from_vec.ensures)

pub returns-in-Bound : goal.returns-in-Bound
returns-in-Bound c =
    let loop = c.loop-turn in
    let text = c.args.view.now.text.now in
    loop.invariant.same
    ∙ looked_found (length text + 1) loop.turn text loop.tokens.items (from c.args.view.now loop.at) c.is_none.result _ c.loop-turn-test.true (c.is_none.ensures ∙ ap is_empty c.deref.ensures.value) c.in-Bound.ensures
    ∙ ap Ok (sym c.from_vec-in-Bound.ensures)

pub returns-in-Crossing : goal.returns-in-Crossing
returns-in-Crossing c =
    let loop = c.loop-turn in
    let text = c.args.view.now.text.now in
    looks_as c.crossed.result _ (Ok (crossed loop.tokens.items c.in-Crossing.kind loop.at))
    (loop.invariant.same
    ∙ looked_found (length text + 1) loop.turn text loop.tokens.items (from c.args.view.now loop.at) c.is_none.result _ c.loop-turn-test.true (c.is_none.ensures ∙ ap is_empty c.deref.ensures.value) c.in-Crossing.ensures
    ∙ ap (λ p. Ok (crossed loop.tokens.items c.in-Crossing.kind p)) (place-view c.args.view.now.limit text loop.at))
    c.crossed.ensures

pub returns-in-Flaw : goal.returns-in-Flaw
returns-in-Flaw c =
    let loop = c.loop-turn in
    let text = c.args.view.now.text.now in
    looks_as c.stopped.result _ (stopped c.args.whole.now.text.now loop.tokens.items c.in-Flaw.fault)
    (loop.invariant.same
    ∙ looked_found (length text + 1) loop.turn text loop.tokens.items (from c.args.view.now loop.at) c.is_none.result _ c.loop-turn-test.true (c.is_none.ensures ∙ ap is_empty c.deref.ensures.value) c.in-Flaw.ensures
    ∙ ap (λ x. stopped x loop.tokens.items c.in-Flaw.fault) (sym c.requires.same))
    c.stopped.ensures

pub returns-then-may_go_on : goal.returns-then-may_go_on
returns-then-may_go_on c =
    let loop = c.loop-turn in
    let text = c.args.view.now.text.now in
    loop.invariant.same
    ∙ looked_found (length text + 1) loop.turn text loop.tokens.items (from c.args.view.now loop.at) c.is_none.result _ c.loop-turn-test.true (c.is_none.ensures ∙ ap is_empty c.deref.ensures.value) c.in-Word.ensures.0
    ∙ word_stops (length text + 1 - (loop.turn + 1)) text loop.tokens.items (from c.args.view.now loop.at) _ c.in-Word.token (sym c.may_go_on.ensures ∙ c.if-may_go_on.true)
    ∙ ap Ok (sym c.from_vec-then-may_go_on.ensures)

pub loop-turn-preserved : goal.loop-turn-preserved
loop-turn-preserved c =
    let loop = c.loop-turn in
    let v = c.args.view.now in
    let text = v.text.now in
    let start = c.is_none.ensures ∙ ap is_empty c.deref.ensures.value in
    elim c.match-scan.branch [
      | in-Space w ↦ rw (w.tokens-is, w.at-is) (record {
        same = loop.invariant.same ∙ looked_found (length text + 1) loop.turn text loop.tokens.items (from v loop.at) c.is_none.result _ c.loop-turn-test.true start w.in-Space.ensures.0;
        within = w.in-Space.ensures.1;
      })
      | in-Word+else-may_go_on+in_ok-push-in-Word w ↦ rw (w.tokens-is, w.at-is) (record {
        same = loop.invariant.same
            ∙ looked_found (length text + 1) loop.turn text loop.tokens.items (from v loop.at) c.is_none.result _ c.loop-turn-test.true start w.in-Word.ensures.0
            ∙ word_goes (length text + 1 - (loop.turn + 1)) text loop.tokens.items w.push.new.self.items (from v loop.at) (from v w.in-Word.token.end) w.in-Word.token
            (sym w.may_go_on.ensures ∙ w.if-may_go_on.false) w.in_ok-push-in-Word.ensures.items;
        within = w.in-Word.ensures.2;
      })
    ]

pub returns : goal.returns
returns c =
    let loop = c.loop-turn in
    let text = c.args.view.now.text.now in
    loop.invariant.same ∙ looked_none (length text + 1) loop.turn text loop.tokens.items (from c.args.view.now loop.at) c.loop-turn-test.false ∙ ap Ok (sym c.from_vec-2.ensures)
