-- The trees of what functions answer.
use Rattle.std.specs.Prelude.{List, Bool, map}
use Rattle.lq_trees.specs.Tree.{Name as Text}
use Rattle.lq_ast.specs.Syntax.{Surface, Bound}
use Rattle.lq_ast.specs.Plain.{plain, plain_pattern}
use Rattle.lq_ast.specs.PlainCommands.{plain_groups}
use Rattle.lq_ast.specs.PlainTactics.{plain_hyp}
use Rattle.lq_ast.specs.declared.sentence.Group.{Group}
use Rattle.lq_ast.specs.declared.surface.Surface.{Surface as Code}
use Rattle.lq_sentences.specs.Matches as tree
use Rattle.lq_parts.specs.Heads.{Head, any_head, pattern_head, sequent_head}
use Rattle.lq_parts.specs.declared.heads.ClauseHead.{ClauseHead}
use Rattle.lq_parts.specs.declared.heads.ClauseHead.TheVariants.{Any, Pat, Sequent}
use Rattle.lq_parts.specs.declared.matches.Mode.{Mode}
use Rattle.lq_parts.specs.declared.matches.Mode.TheVariants.{Goal, Term, Either}

-- a name with what is declared with it, and with its type
abbrev pub declared_head : Text × List Group → Text × List Bound
declared_head d = (d.0, plain_groups d.1)

abbrev pub declared_of : Text × List Group × Code → Text × List Bound × Surface
declared_of d = (d.0, plain_groups d.1, plain d.2)

-- a name with a term
abbrev pub pair_of : Text × Code → Text × Surface
pair_of p = (p.0, plain p.1)

-- what a match is on, as the grammar has it
abbrev pub mode_of : Mode → tree.Mode
mode_of Goal = tree.on_goal
mode_of Term = tree.on_term
mode_of Either = tree.on_either

-- the head of a match
abbrev pub match_of : Bool × Code × Mode → Bool × Surface × tree.Mode
match_of m = (m.0, plain m.1, mode_of m.2)

-- what stands before the `=>` of a clause
abbrev pub head_of : ClauseHead → Head
head_of Any = any_head
head_of (Pat p) = pattern_head (plain_pattern p)
head_of (Sequent hs p) = sequent_head (map plain_hyp hs) (plain_pattern p)

-- the same with what the match is on
abbrev pub head_on : ClauseHead × Mode → Head × tree.Mode
head_on d = (head_of d.0, mode_of d.1)
