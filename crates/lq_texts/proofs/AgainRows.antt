-- Printed terms read again, computed.
use Rattle.std.specs.Prelude.{◌≡◌, refl, ℕ, List, [], codes, Ok, Result, Err}
use Rattle.lq_trees.specs.Tree.{Tree}
use Rattle.lq_trees.specs.Tree.Tree.{Rel, Var, Prod, Lam, Let, App}
use Rattle.lq_ast.specs.Commands.{Sentence, stated, command, check}
use Rattle.lq_grammar.specs.declared.fault.LexFault.{LexFault}
use Rattle.lq_grammar.specs.Cutting.{Next, sentence, next}
use Rattle.lq_sentences.specs.declared.fault.SyntaxFault.{SyntaxFault}
use Rattle.lq_sentences.specs.declared.fault.SyntaxFault.TheVariants.{NoMemory}
use Rattle.lq_sentences.specs.Reading.{read_sentence}
use Rattle.lq_sentences.proofs.Computing.{reading}
use Rattle.lq_texts.specs.Printing.{surface}
use Rattle.lq_texts.specs.ReadBack.{check_sentence}
use Rattle.lq_texts.proofs.Computing.{printing}
use Rattle.lq_texts.proofs.Samples.{base, at_level, b_}

abbrev of_next : List ℕ → Result Next LexFault → Result Sentence SyntaxFault
of_next text (Ok (sentence ts p)) = read_sentence text ts
of_next text _ = Err NoMemory

abbrev read_again : Tree → Result Sentence SyntaxFault
read_again t = let bytes = check_sentence [] t in of_next bytes (next bytes 0)

abbrev as_written : Tree → Result Sentence SyntaxFault
as_written t = Ok (stated 0 (command (check (surface [] [] t))))

-- brackets, a fresh name, an arrow
abbrev sample : Tree
sample = Lam (codes "a") base (Prod (codes "a") (Prod [] (Rel 0) b_) (App (Rel 0) (App (Rel 1) (at_level 2))))

again : read_again sample ≡ as_written sample
unfolding reading printing check_sentence
again = refl

abbrev other : Tree
other = Let (codes "v") (Lam [] base (Rel 0)) (Prod [] base base)
    (App (App (Lam (codes "y") base base) (Prod (codes "u") base (Rel 0))) (Let [] base base (Var (codes "c"))))

again_other : read_again other ≡ as_written other
unfolding reading printing check_sentence
again_other = refl
