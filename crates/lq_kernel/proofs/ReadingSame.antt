-- Where no variable has a value, each term reads as it is.
use Rattle.std.proofs.Common.{◌≡◌, ℕ, refl, List, [], ◌∷◌, Option, Some, None}
use Rattle.lq_trees.specs.Tree.{Tree, Trees, Context}
use Rattle.lq_trees.specs.Tree.Tree.{Rel, Var, Sort, Prod, Lam, Let, App, Const, Ind, Ctor, Elim, Evar}
use Rattle.lq_trees.specs.Rules.{Arguments, Rules}
use Rattle.lq_trees.specs.Reading.{Values, Reads, ReadsEach, ReadsAll, ReadsOption, ReadsContext, ReadsArguments, ReadsRule, ReadsRules, reads_rel, reads_var, reads_sort, reads_prod, reads_lam, reads_let, reads_app, reads_const, reads_ind, reads_ctor, reads_elim, reads_open, reads_none, reads_more}

module _ (vs : Values) (none : (n : ℕ) → vs n ≡ None) where
  mutual
    pub reads_same : (t : Tree) → Reads vs t t
    reads_same (Rel i) = reads_rel i
    reads_same (Var x) = reads_var x
    reads_same (Sort s) = reads_sort s
    reads_same (Prod x A B) = reads_prod x A B A B (reads_same A) (reads_same B)
    reads_same (Lam x A t) = reads_lam x A t A t (reads_same A) (reads_same t)
    reads_same (Let x v A t) = reads_let x v A t v A t (reads_same v) (reads_same A) (reads_same t)
    reads_same (App f a) = reads_app f a f a (reads_same f) (reads_same a)
    reads_same (Const c) = reads_const c
    reads_same (Ind c) = reads_ind c
    reads_same (Ctor c k) = reads_ctor c k
    reads_same (Elim c s) = reads_elim c s
    reads_same (Evar n ts) = reads_open n ts ts (none n) (each_reads_same ts)

    pub each_reads_same : (ts : Trees) → ReadsEach vs ts ts
    each_reads_same Trees.none = reads_none
    each_reads_same (Trees.more t ts) = reads_more t t ts ts (reads_same t) (each_reads_same ts)

  all_read_same : (ts : List Tree) → ReadsAll vs ts ts
  all_read_same [] = tt
  all_read_same (t ∷ ts) = (reads_same t, all_read_same ts)

  option_reads_same : (o : Option Tree) → ReadsOption vs o o
  option_reads_same None = tt
  option_reads_same (Some t) = reads_same t

  pub context_reads_same : (g : Context) → ReadsContext vs g g
  context_reads_same [] = tt
  context_reads_same (h ∷ g) = (record { name = refl; body = option_reads_same h.body; kind = reads_same h.kind }, context_reads_same g)

  arguments_read_same : (rs : Arguments) → ReadsArguments vs rs rs
  arguments_read_same [] = tt
  arguments_read_same (None ∷ rs) = arguments_read_same rs
  arguments_read_same (Some ts ∷ rs) = (all_read_same ts, arguments_read_same rs)

  rule_reads_same : (o : Option Arguments) → ReadsRule vs o o
  rule_reads_same None = tt
  rule_reads_same (Some r) = arguments_read_same r

  pub rules_read_same : (r : Rules) → ReadsRules vs r r
  rules_read_same r = record { delta = λ c. option_reads_same (r.delta c); counts = λ c. refl; arguments = λ c k. rule_reads_same (r.arguments c k) }
