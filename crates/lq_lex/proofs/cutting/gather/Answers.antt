use Rattle.std.proofs.Common.{◌∙◌, sym, ap, ◌+◌, ◌-◌, length, Ok}
use Rattle.lq_grammar.proofs.CellLaws.{place-view}
use Rattle.lq_grammar.specs.Selectors.{is_empty, closes}
use Rattle.lq_grammar.specs.Cutting.{so_far, cut_off}
use Rattle.lq_lex.specs.Views.{from}
use Rattle.lq_lex.proofs.CuttingLaws.{cuts_piece, cuts_fault, gathered_found, gathered_none, word_ends, word_goes, settled_found, settled_nothing, settled_bound, settled_crossing, settled_flaw, settled_space, settled_ends, settled_goes, settled_none, unsettled_fault, end_of-push, spanned-push, braced-push}
use Rattle.lq_lex.proofs.cutting.gather.Goals as goal
use Rattle.lq_lex.proofs.cutting.gather.Goals.{in-Space, in-Word+in_ok-push-in-Word+else-ends}

pub returns-in-Nothing : goal.returns-in-Nothing
returns-in-Nothing c =
    let loop = c.loop-turn in
    let text = c.args.view.now.text.now in
    let start = c.is_none.ensures ∙ ap is_empty c.deref.ensures.value in
    rw c.unsettled.ensures (
      cuts_piece c.so_far.result (so_far loop.tokens.items) _ c.so_far.ensures
          (loop.invariant.same ∙ gathered_found (length text + 1) loop.turn text loop.tokens.items (from c.args.view.now loop.at) c.is_none.result _ c.loop-turn-test.true start c.in-Nothing.ensures),
      sym (loop.invariant.settled ∙ settled_found (length text + 1) loop.turn text loop.tokens.items (from c.args.view.now loop.at) c.is_none.result _ c.loop-turn-test.true start c.in-Nothing.ensures ∙ settled_nothing (length text + 1 - (loop.turn + 1)) text loop.tokens.items),
    )

pub returns-in-Bound : goal.returns-in-Bound
returns-in-Bound c =
    let loop = c.loop-turn in
    let text = c.args.view.now.text.now in
    let start = c.is_none.ensures ∙ ap is_empty c.deref.ensures.value in
    rw c.unsettled-in-Bound.ensures (
      cuts_piece c.so_far-in-Bound.result (so_far loop.tokens.items) _ c.so_far-in-Bound.ensures
          (loop.invariant.same ∙ gathered_found (length text + 1) loop.turn text loop.tokens.items (from c.args.view.now loop.at) c.is_none.result _ c.loop-turn-test.true start c.in-Bound.ensures),
      sym (loop.invariant.settled ∙ settled_found (length text + 1) loop.turn text loop.tokens.items (from c.args.view.now loop.at) c.is_none.result _ c.loop-turn-test.true start c.in-Bound.ensures ∙ settled_bound (length text + 1 - (loop.turn + 1)) text loop.tokens.items),
    )

pub returns-in-Crossing : goal.returns-in-Crossing
returns-in-Crossing c =
    let loop = c.loop-turn in
    let text = c.args.view.now.text.now in
    let start = c.is_none.ensures ∙ ap is_empty c.deref.ensures.value in
    rw c.unsettled-in-Crossing.ensures (
      cuts_piece c.in_ok-piece-in-Crossing.piece (cut_off loop.tokens.items c.in-Crossing.kind loop.at) _ c.in_ok-piece-in-Crossing.ensures
          (loop.invariant.same
          ∙ gathered_found (length text + 1) loop.turn text loop.tokens.items (from c.args.view.now loop.at) c.is_none.result _ c.loop-turn-test.true start c.in-Crossing.ensures
          ∙ ap (λ p. Ok (cut_off loop.tokens.items c.in-Crossing.kind p)) (place-view c.args.view.now.limit text loop.at)),
      sym (loop.invariant.settled ∙ settled_found (length text + 1) loop.turn text loop.tokens.items (from c.args.view.now loop.at) c.is_none.result _ c.loop-turn-test.true start c.in-Crossing.ensures ∙ settled_crossing (length text + 1 - (loop.turn + 1)) text loop.tokens.items c.in-Crossing.kind),
    )

pub returns-in-Flaw : goal.returns-in-Flaw
returns-in-Flaw c =
    let loop = c.loop-turn in
    let text = c.args.view.now.text.now in
    let start = c.is_none.ensures ∙ ap is_empty c.deref.ensures.value in (
      cuts_fault c.in-Flaw.fault _
          (loop.invariant.same ∙ gathered_found (length text + 1) loop.turn text loop.tokens.items (from c.args.view.now loop.at) c.is_none.result _ c.loop-turn-test.true start c.in-Flaw.ensures),
      unsettled_fault c.in-Flaw.fault _ (loop.invariant.settled ∙ settled_found (length text + 1) loop.turn text loop.tokens.items (from c.args.view.now loop.at) c.is_none.result _ c.loop-turn-test.true start c.in-Flaw.ensures ∙ settled_flaw (length text + 1 - (loop.turn + 1)) text loop.tokens.items c.in-Flaw.fault),
    )

pub returns-then-ends : goal.returns-then-ends
returns-then-ends c =
    let loop = c.loop-turn in
    let text = c.args.view.now.text.now in
    let start = c.is_none.ensures ∙ ap is_empty c.deref.ensures.value in
    let last = ap (closes c.in-Word.token.kind text) (sym c.deref-in-Word.ensures.value) ∙ sym c.closes-ends.ensures ∙ c.if-ends.true in (
      loop.invariant.same
          ∙ gathered_found (length text + 1) loop.turn text loop.tokens.items (from c.args.view.now loop.at) c.is_none.result _ c.loop-turn-test.true start c.in-Word.ensures.0
          ∙ word_ends (length text + 1 - (loop.turn + 1)) text loop.tokens.items c.from_vec.result (from c.args.view.now loop.at) _ c.in-Word.token last (c.from_vec.ensures ∙ c.in_ok-push-in-Word.ensures.items),
      c.has_character.ensures ∙ sym (loop.invariant.settled ∙ settled_found (length text + 1) loop.turn text loop.tokens.items (from c.args.view.now loop.at) c.is_none.result _ c.loop-turn-test.true start c.in-Word.ensures.0 ∙ settled_ends (length text + 1 - (loop.turn + 1)) text loop.tokens.items c.in-Word.token (from c.args.view.now c.in-Word.token.end) last),
    )

pub loop-turn-preserved : goal.loop-turn-preserved
loop-turn-preserved c =
    let loop = c.loop-turn in
    let v = c.args.view.now in
    let text = v.text.now in
    let start = c.is_none.ensures ∙ ap is_empty c.deref.ensures.value in
    elim c.match-scan.branch [
      | in-Space w ↦ rw (w.tokens-is, w.at-is, w.end-is, w.braced-is) (record {
        same = loop.invariant.same ∙ gathered_found (length text + 1) loop.turn text loop.tokens.items (from v loop.at) c.is_none.result _ c.loop-turn-test.true start w.in-Space.ensures.0;
        settled = loop.invariant.settled ∙ settled_found (length text + 1) loop.turn text loop.tokens.items (from v loop.at) c.is_none.result _ c.loop-turn-test.true start w.in-Space.ensures.0 ∙ settled_space (length text + 1 - (loop.turn + 1)) text loop.tokens.items _;
        within = w.in-Space.ensures.1;
        spanned = loop.invariant.spanned;
        ended = loop.invariant.ended;
        braces = loop.invariant.braces;
      })
      | in-Word+in_ok-push-in-Word+else-ends w ↦
          let t = w.in-Word.token in
          let last = ap (closes t.kind text) (sym w.deref-in-Word.ensures.value) ∙ sym w.closes-ends.ensures ∙ w.if-ends.false in
          let more = w.in_ok-push-in-Word.ensures.items in
          let us = w.push.new.self.items in
          rw (w.tokens-is, w.at-is, w.end-is, w.braced-is) (record {
            same = loop.invariant.same
                ∙ gathered_found (length text + 1) loop.turn text loop.tokens.items (from v loop.at) c.is_none.result _ c.loop-turn-test.true start w.in-Word.ensures.0
                ∙ word_goes (length text + 1 - (loop.turn + 1)) text loop.tokens.items us (from v loop.at) (from v t.end) t last more;
            settled = loop.invariant.settled ∙ settled_found (length text + 1) loop.turn text loop.tokens.items (from v loop.at) c.is_none.result _ c.loop-turn-test.true start w.in-Word.ensures.0 ∙ settled_goes (length text + 1 - (loop.turn + 1)) text loop.tokens.items us t (from v t.end) last more;
            within = w.in-Word.ensures.2;
            spanned = spanned-push text loop.tokens.items us t more loop.invariant.spanned (w.in-Word.ensures.1, w.in-Word.ensures.2);
            ended = end_of-push loop.tokens.items us t more;
            braces = braced-push loop.tokens.items us t loop.braced w.is_open_curly-braced.result more loop.invariant.braces w.is_open_curly-braced.ensures;
          })
    ]

pub returns : goal.returns
returns c =
    let loop = c.loop-turn in
    let text = c.args.view.now.text.now in
    rw c.unsettled-2.ensures (
      cuts_piece c.so_far-2.result (so_far loop.tokens.items) _ c.so_far-2.ensures
          (loop.invariant.same ∙ gathered_none (length text + 1) loop.turn text loop.tokens.items (from c.args.view.now loop.at) c.loop-turn-test.false),
      sym (loop.invariant.settled ∙ settled_none (length text + 1) loop.turn text loop.tokens.items (from c.args.view.now loop.at) c.loop-turn-test.false),
    )
