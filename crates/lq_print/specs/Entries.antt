-- What is known of names, in the bank and over trees.
use Rattle.std.specs.Prelude.{◌≡◌, true, false, List, ℕ, None, Result, Ok, Err, option_map}
use Rattle.lq_trees.specs.declared.Sort.{Sort as Universe}
use Rattle.lq_trees.specs.Tree.{Name}
use Rattle.lq_calculus.specs.Declarations.{Env, lookup, elim_type, permits}
use Rattle.lq_terms.specs.Terms.{Terms, HasName, HasTerm, text_of, tree_of}
use Rattle.lq_ast.specs.declared.name.Text.{Text}
use Rattle.lq_texts.specs.Causes.{Cause, unknown, elim_forbidden}
use Rattle.lq_texts.specs.Views.{Known as TreeKnown, in_family}
use Rattle.lq_print.specs.declared.entries.Found.{Found}
use Rattle.lq_print.specs.declared.entries.PrintFault.{PrintFault}
use Rattle.lq_print.specs.Goals.{HasTermOr}

-- the bank has the type, and the body if there is one
pub record HasFound (bank : Terms) (k : Found) : Type 0 where
  pub kind : HasTerm bank k.kind
  pub body : HasTermOr bank k.body

-- what is known of an eliminator into a sort
abbrev pub eliminator_known : Env → Name → Name → Universe → TreeKnown
eliminator_known env x c s =
    in_family x (lookup env c) (λ f ss. elim (permits ss s) [ true ↦ Ok (elim_type f s, None) | false ↦ Err (elim_forbidden c s) ])

-- the same is known over trees, or the same is the fault, whose name the bank has
abbrev pub Knows : Terms → Result Found PrintFault → TreeKnown → Type 0
Knows bank (Ok k) d = d ≡ Ok (tree_of bank k.kind, option_map (tree_of bank) k.body)
Knows bank (Err (PrintFault.Unknown x)) d = HasName bank x × (d ≡ Err (unknown (text_of bank x)))
Knows bank (Err (PrintFault.ElimForbidden x s)) d = HasName bank x × (d ≡ Err (elim_forbidden (text_of bank x) s))
Knows bank (Err PrintFault.NoMemory) d = Unit {0}

-- the line is that of the definition, or the fault is, whose name the bank has; want of memory is free
abbrev pub Prints : Terms → Result Text PrintFault → Result (List ℕ) Cause → Type 0
Prints bank (Ok x) d = d ≡ Ok x
Prints bank (Err (PrintFault.Unknown x)) d = HasName bank x × (d ≡ Err (unknown (text_of bank x)))
Prints bank (Err (PrintFault.ElimForbidden x s)) d = HasName bank x × (d ≡ Err (elim_forbidden (text_of bank x) s))
Prints bank (Err PrintFault.NoMemory) d = Unit {0}
