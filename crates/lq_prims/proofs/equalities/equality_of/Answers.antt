use Rattle.std.proofs.Common.{◌∙◌, sym, true, false}
use Rattle.std.proofs.Common.{subst as along}
use Rattle.lq_terms.specs.Terms.{tree_of}
use Rattle.lq_prims.specs.Equalities.{IsEqualityOr}
use Rattle.lq_prims.proofs.EqualityLaws.{none_at, none_after, none_later, found}
use Rattle.lq_prims.proofs.equalities.equality_of.Goals as goal

pub returns-in_err-two : goal.returns-in_err-two
returns-in_err-two c =
    let bank = c.args.bank.now in
    along (λ z. IsEqualityOr bank z c.args.term) (sym c.from_residual.ensures) (none_at (tree_of bank c.args.term) c.in_err-two.ensures)

pub returns-in_err-one : goal.returns-in_err-one
returns-in_err-one c =
    let bank = c.args.bank.now in
    along (λ z. IsEqualityOr bank z c.args.term) (sym c.from_residual-in_err-one.ensures)
    (none_after (tree_of bank c.args.term) (tree_of bank c.in_ok-two.two) (tree_of bank c.in_ok-two.right) c.in_ok-two.ensures.2 c.in_err-one.ensures)

pub returns-in_err-head : goal.returns-in_err-head
returns-in_err-head c =
    let bank = c.args.bank.now in
    along (λ z. IsEqualityOr bank z c.args.term) (sym c.from_residual-in_err-head.ensures)
    (none_later (tree_of bank c.args.term) (tree_of bank c.in_ok-two.two) (tree_of bank c.in_ok-two.right) (tree_of bank c.in_ok-one.one) (tree_of bank c.in_ok-one.left) c.in_ok-two.ensures.2 c.in_ok-one.ensures.2 c.in_err-head.ensures)

pub returns-then-is_eq : goal.returns-then-is_eq
returns-then-is_eq c =
    let bank = c.args.bank.now in (
      (c.in_ok-head.ensures.1, c.in_ok-one.ensures.1, c.in_ok-two.ensures.1),
      found (tree_of bank c.args.term) (tree_of bank c.in_ok-two.two) (tree_of bank c.in_ok-two.right) (tree_of bank c.in_ok-one.one) (tree_of bank c.in_ok-one.left) (tree_of bank c.in_ok-head.head) (tree_of bank c.in_ok-head.kind)
          c.in_ok-two.ensures.2 c.in_ok-one.ensures.2 c.in_ok-head.ensures.2 true (sym c.is_eq.ensures ∙ c.if-is_eq.true),
    )

pub returns-else-is_eq : goal.returns-else-is_eq
returns-else-is_eq c =
    let bank = c.args.bank.now in
    found (tree_of bank c.args.term) (tree_of bank c.in_ok-two.two) (tree_of bank c.in_ok-two.right) (tree_of bank c.in_ok-one.one) (tree_of bank c.in_ok-one.left) (tree_of bank c.in_ok-head.head) (tree_of bank c.in_ok-head.kind)
    c.in_ok-two.ensures.2 c.in_ok-one.ensures.2 c.in_ok-head.ensures.2 false (sym c.is_eq.ensures ∙ c.if-is_eq.false)
