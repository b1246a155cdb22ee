use Rattle.std.proofs.Common.{◌≡◌, take, map}
use Rattle.lq_calculus.specs.Declarations.{sorts}
use Rattle.lq_terms.specs.Terms.{Grows, text_of}
use Rattle.lq_env.specs.Inductive.{HasNames, firsts, eliminator_named, eliminator_for}
use Rattle.lq_env.proofs.inductive.eliminator_names.Given as goal

-- the names so far are those of the sorts so far
abbrev pub invariant-loop-sort : goal.invariant-loop-sort
invariant-loop-sort l =
    Grows l.initial.bank l.bank × HasNames l.bank (firsts l.names.items)
    × (map (eliminator_named l.bank) l.names.items ≡ map (eliminator_for (text_of l.initial.bank l.family)) (take l.sort-index l.sort-items)) × (l.sort-items ≡ sorts) × (l.bank.nodes ≡ l.initial.bank.nodes)
