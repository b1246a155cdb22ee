-- Statements, by the places of a bank.
use Rattle.std.proofs.Common.{◌≤◌, sym, [], Option, Some, None, arith}
use Rattle.std.proofs.Common.{subst as along}
use Rattle.std.specs.Prelude.{IfSome}
use Rattle.lq_trees.specs.Size.{depth}
use Rattle.lq_trees.specs.Index.{Within}
use Rattle.lq_terms.specs.declared.nodes.TermId.{TermId}
use Rattle.lq_terms.specs.Terms.{Terms, Grows, tree_of}
use Rattle.lq_calculus.specs.Declarations.{Env}
use Rattle.lq_output.specs.Grammar.{Surface}
use Rattle.lq_output.specs.Nesting.{nesting}
use Rattle.lq_output.specs.Steps.{resolved}
use Rattle.lq_kernel.specs.Closed.{IsScoped}
use Rattle.lq_script.specs.Simple.{IsSimple}
use Rattle.lq_script.specs.Scopes.{IsMeant}
use Rattle.lq_script.specs.Proofs.{IsStatement}
use Rattle.lq_script.proofs.Resolving.{statement_written}

pub statement_scoped : (bank : Terms) (t : TermId) → IsStatement bank t → IsScoped bank 0 t
statement_scoped bank t s = record { has = s.has; within = s.below }

pub IsStatement-grown : (old new : Terms) (t : TermId) → Grows old new → IsStatement old t → IsStatement new t
IsStatement-grown old new t g s = record {
  has = omega (arith, g.nodes, s.has);
  simple = along (IsSimple []) (sym (g.tree t s.has)) s.simple;
  below = along (Within 0) (sym (g.tree t s.has)) s.below;
  low = along (λ z. depth z ≤ 201) (sym (g.tree t s.has)) s.low;
}

-- what a shallow written term stands for is a statement
pub is_statement : (new : Terms) (env : Env) (S : Surface) (o : Option TermId) → nesting S ≤ 200 → IsMeant new o (resolved env [] S) → IfSome o (IsStatement new)
is_statement new env S None l h = tt
is_statement new env S (Some t) l h =
    let w = statement_written env S (tree_of new t) h.1 in
    record { has = h.0; simple = w.simple; below = w.below; low = omega (arith, w.low) }
