-- Rows of products over one list of binders, and what the calls on them tell.
use Rattle.std.specs.Prelude.{◌≡◌, ◌≤◌, ◌+◌, ℕ, length, suc, true, List, [], take, drop, Option, Some, None, Result, Ok, Err}
use Rattle.lq_trees.specs.declared.Sort.{Sort as Universe}
use Rattle.lq_trees.specs.Tree.{Name, Tree, Context}
use Rattle.lq_trees.specs.Tree.Tree.{Sort, Prod}
use Rattle.lq_trees.specs.Ticks.{gives, fails}
use Rattle.lq_trees.specs.Size.{depth}
use Rattle.lq_trees.specs.Fresh.{fresh, opened, under}
use Rattle.lq_terms.specs.declared.nodes.Hypothesis.{Hypothesis}
use Rattle.lq_terms.specs.declared.nodes.TermId.{TermId}
use Rattle.lq_terms.specs.Terms.{Terms, HasTerm, tree_of}
use Rattle.lq_terms.specs.Contexts.{context_of}
use Rattle.lq_kernel.specs.Closed.{IsScoped, IsContext}
use Rattle.lq_kernel.specs.Declaring.{IsOfferedBehind}
use Rattle.lq_env.specs.Families.{names_behind}
use Rattle.lq_texts.specs.Causes.{not_a_sort}
use Rattle.lq_sessions.specs.Sessions.{Work}
use Rattle.lq_sessions.specs.Declaring.{Row, row_of}
use Rattle.lq_declaring.specs.declared.rows.Row.{Row as Found}
use Rattle.lq_declaring.specs.declared.rows.RowFault.{RowFault}

-- the row of binders, the first so many as parameters, with a sort at its end; else the fault with what stands there
unfoldable pub row_end : ℕ → Context → Tree → Work Row
row_end k h (Sort u) = gives (record { parameters = take k h; indices = drop k h; sort = u })
row_end k h t = fails (not_a_sort t)

-- a row behind binders, with so many products at most
unfoldable pub row_on : ℕ → ℕ → Context → Tree → Work Row
row_on (suc n) k h (Prod x A B) = row_on n k (under h (fresh h x) A) (opened (fresh h x) B)
row_on n k h t = row_end k h t

-- binders with the hypothesis of one more product, and what stands under its binder
pub record Enters (bank : Terms) (binders : List Hypothesis) (h : Context) (x : Name) (A B : Tree) (rest : TermId) : Type 0 where
  pub context : IsContext bank binders
  pub offered : IsOfferedBehind [] (context_of bank binders)
  pub scoped : IsScoped bank 0 rest
  pub binders_are : context_of bank binders ≡ under h (fresh h x) A
  pub rest_is : tree_of bank rest ≡ opened (fresh h x) B

-- the binders of a row's products, and what stands behind the last of them
pub record GoesBehind (bank : Terms) (binders : List Hypothesis) (t : Tree) (rest : TermId) : Type 0 where
  pub few : length binders ≤ depth t
  pub context : IsContext bank binders
  pub offered : IsOfferedBehind [] (context_of bank binders)
  pub has : HasTerm bank rest
  pub row : (k : ℕ) → row_of k t ≡ row_end k (context_of bank binders) (tree_of bank rest)

-- the sort that a tree is, if it is one
abbrev pub IsSortOr : Tree → Option Universe → Type 0
IsSortOr t (Some u) = t ≡ Sort u
IsSortOr t None = (k : ℕ) (h : Context) → row_end k h t ≡ fails (not_a_sort t)

-- a row of a bank as a row of trees
abbrev pub row_in : Terms → Found → Row
row_in bank r = record { parameters = context_of bank r.parameters; indices = context_of bank r.indices; sort = r.sort }

-- a row that was found: the bank has it, and its binders are as the kernel wants those of a family
pub record IsRow (bank : Terms) (r : Found) : Type 0 where
  pub parameters : IsContext bank r.parameters
  pub indices : IsContext bank r.indices
  pub offered_parameters : IsOfferedBehind [] (context_of bank r.parameters)
  pub offered_indices : IsOfferedBehind (names_behind [] (context_of bank r.parameters)) (context_of bank r.indices)

-- the work gives the row, or its refusal is true. Memory may end at any time.
abbrev pub FindsRow : Terms → Result Found RowFault → Work Row → Type 0
FindsRow bank (Ok r) w = IsRow bank r × (w ≡ gives (row_in bank r))
FindsRow bank (Err (RowFault.NotASort t)) w = HasTerm bank t × (w ≡ fails (not_a_sort (tree_of bank t)))
FindsRow bank (Err RowFault.NoMemory) w = Unit {0}

-- on the way through the products of a row: its binders so far, and what is left of it
pub record IsOnWay (bank : Terms) (binders : List Hypothesis) (t : Tree) (rest : TermId) : Type 0 where
  pub turns : ℕ
  pub deep : depth (tree_of bank rest) ≤ turns
  pub few : length binders + turns ≤ depth t
  pub context : IsContext bank binders
  pub offered : IsOfferedBehind [] (context_of bank binders)
  pub scoped : IsScoped bank 0 rest
  pub row : (k : ℕ) → row_of k t ≡ row_on turns k (context_of bank binders) (tree_of bank rest)
