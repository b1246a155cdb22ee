-- Sentences at the bound of their length.
use Rattle.std.specs.Prelude.{◌≡◌, refl, ◌++◌, replicate, codes, Some, Ok, Err}
use Rattle.lq_ast.specs.Syntax as u
use Rattle.lq_ast.specs.Commands as v
use Rattle.lq_sentences.specs.declared.fault.SyntaxFault.TheVariants.{SentenceTooLong}
use Rattle.lq_sentences.proofs.Computing.{reading}
use Rattle.lq_sentences.proofs.Trying.{tree_at}

at_the_bound : tree_at (codes "Check Prop" ++ replicate 65525 32 ++ codes ".") 0 ≡ Some (Ok (v.stated 0 (v.command (v.check u.PropSort))))
unfolding reading
at_the_bound = refl

one_more : tree_at (codes "Check Prop" ++ replicate 65526 32 ++ codes ".") 0 ≡ Some (Err (SentenceTooLong 0))
unfolding reading
one_more = refl
