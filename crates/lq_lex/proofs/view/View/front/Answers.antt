use Rattle.std.proofs.Common.{arith, ◌≡◌, ◌∙◌, sym, Some, drop, length-drop}
use Rattle.bstr.specs.Utf8.{decoded}
use Rattle.lq_grammar.proofs.CellLaws.{size_within, none_by_size, view_over, view_broken, view_unseen, view_letter, view_beyond}
use Rattle.lq_lex.proofs.view.View.front.Goals as goal

pub overflow_add-at : goal.overflow_add-at
overflow_add-at c =
    let bs = drop c.args.at c.args.self.now.text.now in
    let char : (decoded bs).char ≡ Some c.in-Some.c = sym c.decode-first.ensures.char ∙ c.in-Some.is in
    let inside = size_within bs c.in-Some.c char in
    omega (arith, inside.0, inside.1, c.decode-first.ensures.size, length-drop c.args.at c.args.self.now.text.now)

pub returns-then-at-size : goal.returns-then-at-size
returns-then-at-size c =
    let text = c.args.self.now.text.now in
    let bs = drop c.args.at text in
    let char : (decoded bs).char ≡ Some c.in-Some.c = sym c.decode-first.ensures.char ∙ c.in-Some.is in
    let inside = size_within bs c.in-Some.c char in (
      view_letter c.args.self.now.limit text c.args.at c.in-Some.c c.decode-first.result.1 char (sym c.decode-first.ensures.size) c.if-at-size.true,
      omega (arith, inside.0, c.decode-first.ensures.size),
      omega (arith, inside.1, c.decode-first.ensures.size, length-drop c.args.at text),
    )

pub returns-else-at-size : goal.returns-else-at-size
returns-else-at-size c =
    let text = c.args.self.now.text.now in
    view_beyond c.args.self.now.limit text c.args.at c.in-Some.c c.decode-first.result.1 (sym c.decode-first.ensures.char ∙ c.in-Some.is) (sym c.decode-first.ensures.size) c.if-at-size.false

pub returns-then-size-eq0 : goal.returns-then-size-eq0
returns-then-size-eq0 c =
    let text = c.args.self.now.text.now in
    let none = none_by_size (drop c.args.at text) (sym c.decode-first.ensures.size ∙ c.if-size-eq0.true) in
    view_over c.args.self.now.limit text c.args.at (omega (arith, none, length-drop c.args.at text))

pub returns-then-at-self : goal.returns-then-at-self
returns-then-at-self c =
    let text = c.args.self.now.text.now in
    view_broken c.args.self.now.limit text c.args.at (sym c.decode-first.ensures.char ∙ c.in-None.is) (omega (arith, c.decode-first.ensures.size, c.if-size-eq0.false)) c.if-at-self.true

pub returns-else-at-self : goal.returns-else-at-self
returns-else-at-self c =
    let text = c.args.self.now.text.now in
    view_unseen c.args.self.now.limit text c.args.at (sym c.decode-first.ensures.char ∙ c.in-None.is) (omega (arith, c.decode-first.ensures.size, c.if-size-eq0.false)) c.if-at-self.false
