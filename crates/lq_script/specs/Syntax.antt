-- The trees of the grammar that the syntax trees of the code stand for.
use Rattle.std.specs.Prelude.{string_bytes, map}
use Rattle.lq_output.specs.Grammar as grammar
use Rattle.lq_script.specs.declared.syntax.Surface.{Surface, Named, Prop, Forall', Arrow'}
use Rattle.lq_script.specs.declared.syntax.Tactic.{Tactic}
use Rattle.lq_script.specs.declared.syntax.Tactic.TheVariants.{Intro, Exact}
use Rattle.lq_script.specs.declared.syntax.Sentence.{Sentence}
use Rattle.lq_script.specs.declared.syntax.Sentence.TheVariants.{Theorem, Proof, Tactics, Qed}

-- a term as it is written
abbrev pub plain_surface : Surface → grammar.Surface
plain_surface (Named x) = grammar.named (string_bytes x)
plain_surface Prop = grammar.prop
plain_surface (Forall' x p a q b) = grammar.forall_ (string_bytes x) (plain_surface a) (plain_surface b)
plain_surface (Arrow' p a q b) = grammar.to (plain_surface a) (plain_surface b)

-- a tactic
abbrev pub plain_tactic : Tactic → grammar.Tactic
plain_tactic (Intro x) = grammar.intro (string_bytes x)
plain_tactic (Exact x) = grammar.exact (string_bytes x)

-- a sentence
abbrev pub plain_sentence : Sentence → grammar.Sentence
plain_sentence (Theorem x s) = grammar.theorem (string_bytes x) (plain_surface s)
plain_sentence Proof = grammar.proof
plain_sentence (Tactics ts) = grammar.tactics (map plain_tactic ts.items)
plain_sentence Qed = grammar.qed
