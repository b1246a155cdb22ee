-- What elaboration of a printed term gives: the statement.
use Rattle.std.specs.Prelude.{◌≡◌, ℕ, [], Option}
use Rattle.lq_trees.specs.Tree.{Tree, Context}
use Rattle.lq_trees.specs.Ticks.{within, done}
use Rattle.lq_calculus.specs.Declarations.{Env}
use Rattle.lq_ast.specs.Syntax.{Surface}
use Rattle.lq_solving.specs.Stores.{Store}
use Rattle.lq_solving.specs.Elaboration.{Found, elaborate_call}
use Rattle.lq_texts.specs.ReadBack.{ElaboratesBack}

-- elaboration of a surface in a context without Ltac values gives that term, in some store, with some wanted type or none, under some budget
pub record Elaborates (env : Env) (g : Context) (u : Surface) (t : Tree) : Type 0 where
  pub bound : ℕ
  pub budget : ℕ
  pub left : ℕ
  pub store : Store
  pub wanted : Option Tree
  pub found : Found
  pub ends : within budget (elaborate_call (record { env = env; bound = bound; values = []; outer = g }) store u wanted) ≡ done found left
  pub term : found.term ≡ t

-- where elaboration of what is printed of a term succeeds, it gives the term back
abbrev pub GivesBack : Type 0
GivesBack = ElaboratesBack Elaborates
