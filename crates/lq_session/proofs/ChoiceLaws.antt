-- Which commands cannot come.
use Rattle.std.proofs.Common.{◌≡◌, ◌∙◌, sym, ap, arith, true, false}
use Rattle.lq_ast.specs.declared.sentence.Vernac.{Vernac}
use Rattle.lq_ast.specs.PlainCommands.{plain_vernac}
use Rattle.lq_sessions.specs.Built.{grammar_alone, command_built}
use Rattle.lq_session.specs.Sessions.{is_declaring}

pub not_declaring : (c d : Vernac) → c ≡ d → is_declaring c ≡ true → is_declaring d ≡ false → ⊥
not_declaring c d e h k = let f : ◌≡◌ true false = sym h ∙ ap is_declaring e ∙ k in grind (arith, f)

pub declaring : (c d : Vernac) → c ≡ d → is_declaring c ≡ false → is_declaring d ≡ true → ⊥
declaring c d e h k = not_declaring d c (sym e) k h

pub not_built : (c d : Vernac) → c ≡ d → command_built grammar_alone (plain_vernac c) ≡ true → command_built grammar_alone (plain_vernac d) ≡ false → ⊥
not_built c d e h k = let f : ◌≡◌ true false = sym h ∙ ap (λ z. command_built grammar_alone (plain_vernac z)) e ∙ k in grind (arith, f)
