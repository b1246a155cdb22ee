-- What is left to do while a term is spelled: a change of what has been spelled.
use Rattle.std.specs.Prelude.{◌≡◌, ◌≤◌, ◌<◌, ◌+◌, ◌*◌, ℕ, List, [], ◌∷◌, ◌++◌, length, Option, Some, None}
use Rattle.std.specs.List.{AllByRecursion}
use Rattle.lq_trees.specs.Size.{size}
use Rattle.lq_calculus.specs.Declarations.{Env, Entry}
use Rattle.lq_texts.specs.Printing.{nth_name, constructor_in}
use Rattle.lq_terms.specs.Terms.{Terms, HasName, HasTerm, text_of, tree_of}
use Rattle.lq_env.specs.declared.family.Family.{Family}
use Rattle.lq_env.specs.Families.{HasConstructor, constructors_of}
use Rattle.lq_print.specs.declared.pieces.Binder.{Binder}
use Rattle.lq_print.specs.declared.work.Scope.{Scope}
use Rattle.lq_print.specs.declared.work.Work.{Work}
use Rattle.lq_print.specs.declared.spelling.Spelling.{Spelling}
use Rattle.lq_print.specs.Spelling.{Over, product, function, local, Spelled, emit, leave, over, hide, spell}
use Rattle.lq_print.specs.Pieces.{shown_in, over_in, HasBinder, HasPiece, spelled_of, IsSpelling, Longer}

-- the end of a binder over a body that is spelled
abbrev pub over_at : Terms → Scope → Spelled → Over
over_at bank o s = over (text_of bank o.name) o.low s

abbrev pub done : Terms → Env → Spelling → Work → Spelled → Spelled
done bank env now (Work.Visit t) s = spell env (tree_of bank t) s
done bank env now (Work.Product o) s = emit (product (over_at bank o s)) (spell env (tree_of bank o.kind) (leave s))
done bank env now (Work.Function o) s = emit (function (over_at bank o s)) (spell env (tree_of bank o.kind) (leave s))
done bank env now (Work.Local o v) s = emit (local (over_at bank o s)) (spell env (tree_of bank o.kind) (spell env (tree_of bank v) (leave s)))
done bank env now (Work.Emit p) s = emit (shown_in bank now.texts now.names.items p) s
done bank env now (Work.Hide n k) s = hide n k s

-- all items; the last of the list comes first
abbrev pub run : Terms → Env → Spelling → List Work → Spelled → Spelled
run bank env now [] s = s
run bank env now (w ∷ ws) s = done bank env now w (run bank env now ws s)

-- a binder of the bank over names that are there
pub record HasScope (bank : Terms) (now : Spelling) (o : Scope) : Type 0 where
  pub name : HasName bank o.name
  pub low : o.low ≤ length now.names.items
  pub kind : HasTerm bank o.kind

abbrev pub HasWork : Terms → Spelling → Work → Type 0
HasWork bank now (Work.Visit t) = HasTerm bank t
HasWork bank now (Work.Product o) = HasScope bank now o
HasWork bank now (Work.Function o) = HasScope bank now o
HasWork bank now (Work.Local o v) = HasScope bank now o × HasTerm bank v
HasWork bank now (Work.Emit p) = HasPiece bank now.texts now.names.items p
HasWork bank now (Work.Hide n k) = Unit {0}

-- a number that falls with each item that is done
abbrev pub weight : Terms → Work → ℕ
weight bank (Work.Visit t) = 3 * size (tree_of bank t)
weight bank (Work.Product o) = 2 + 3 * size (tree_of bank o.kind)
weight bank (Work.Function o) = 2 + 3 * size (tree_of bank o.kind)
weight bank (Work.Local o v) = 2 + (3 * size (tree_of bank o.kind) + 3 * size (tree_of bank v))
weight bank (Work.Emit p) = 1
weight bank (Work.Hide n k) = 1

abbrev pub weights : Terms → List Work → ℕ
weights bank [] = 0
weights bank (w ∷ ws) = weight bank w + weights bank ws

-- items were put on, which with what was spelled come to a change; they weigh less than so much
pub record Turned (bank : Terms) (env : Env) (change : Spelled → Spelled) (most : ℕ) (work left : List Work) (old new : Spelling) : Type 0 where
  pub added : List Work
  pub is : left ≡ work ++ added
  pub has : AllByRecursion (HasWork bank new) added
  pub spelling : IsSpelling bank new
  pub longer : Longer old new
  pub same : run bank env new added (spelled_of bank new) ≡ change (spelled_of bank old)
  pub lighter : weights bank added < most

-- the binder that ends over a body that is spelled
pub record Closes (bank : Terms) (o : Scope) (old new : Spelling) (b : Binder) : Type 0 where
  pub has : HasBinder bank new.names.items b
  pub is : over_in bank new.texts new.names.items b ≡ over_at bank o (spelled_of bank old)

-- what a family is for printing: the names of its constructors; where there is none, no constructor has a name
abbrev pub IsFamilyAt : Terms → Option Family → Option Entry → Type 0
IsFamilyAt bank None e = (k : ℕ) → constructor_in e k ≡ []
IsFamilyAt bank (Some f) e = AllByRecursion (HasConstructor bank) f.constructors × ((k : ℕ) → constructor_in e k ≡ nth_name (constructors_of bank f.constructors) k)
