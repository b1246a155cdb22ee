-- How a term is read: what is left to do, and what is known of the parts.
use Rattle.std.specs.Prelude.{◌≡◌, ◌≤◌, ◌<◌, ◌+◌, ◌*◌, ◌⊎◌, ℕ, List, [], ◌∷◌, ◌++◌, map, Result, Ok, Err, Option, Some, None}
use Rattle.std.specs.List.{AllByRecursion}
use Rattle.lq_trees.specs.Tree.{Tree}
use Rattle.lq_trees.specs.Marks.{loose}
use Rattle.lq_terms.specs.declared.nodes.TermId.{TermId}
use Rattle.lq_terms.specs.Terms.{Terms, HasTerm, tree_of, trees_by}
use Rattle.lq_solving.specs.Stores.{Variable as TreeVariable, Assigned, Store as TreeStore, StoreFault as TreeFault}
use Rattle.lq_solving.specs.Stores.{fill_values, read_values, read_too_large, read_too_deep}
use Rattle.lq_solving.specs.Kept.{IsOver, IsStore}
use Rattle.lq_evars.specs.declared.store.StoreFault.{StoreFault}
use Rattle.lq_evars.specs.declared.work.Work.{Work}
use Rattle.lq_evars.specs.Places.{Places, store_of, HasStore}
use Rattle.lq_evars.specs.Near.{IsNear}
use Rattle.lq_evars.specs.Turns.{rank, parts_of}

-- a term as read: all values filled in
abbrev pub as_read : TreeStore → Tree → Tree
as_read s t = fill_values s.variables (read_values s.variables s.values) t

-- an item of work over trees: to read a term, or to put it together from its parts as read
pub data Item : Type 0 where
  visits : Tree → Item
  builds : Tree → Item

abbrev pub tree_in : Item → Tree
tree_in (visits t) = t
tree_in (builds t) = t

abbrev pub item_of : Terms → Work → Item
item_of bank (Work.Visit t) = visits (tree_of bank t)
item_of bank (Work.Build t) = builds (tree_of bank t)

abbrev pub items_of : Terms → List Work → List Item
items_of bank [] = []
items_of bank (w ∷ ws) = item_of bank w ∷ items_of bank ws

abbrev pub term_in : Work → TermId
term_in (Work.Visit t) = t
term_in (Work.Build t) = t

-- the tree is one of a list
abbrev pub IsIn : Tree → List Tree → Type 0
IsIn t [] = ⊥
IsIn t (u ∷ us) = (t ≡ u) ⊎ IsIn t us

-- each tree is one of a list
abbrev pub AllIn : List Tree → List Tree → Type 0
AllIn ts us = AllByRecursion (λ t. IsIn t us) ts

-- the terms that are known after all items; the last of the list comes first
abbrev pub finish : List Item → List Tree → List Tree
finish [] known = known
finish (w ∷ ws) known = tree_in w ∷ finish ws known

-- a term that is put together finds its parts
abbrev pub IsReady : List Assigned → Item → List Tree → Type 0
IsReady as_ (visits t) known = Unit {0}
IsReady as_ (builds t) known = AllIn (parts_of as_ t) known

abbrev pub AreReady : List Assigned → List Item → List Tree → Type 0
AreReady as_ [] known = Unit {0}
AreReady as_ (w ∷ ws) known = AreReady as_ ws known × IsReady as_ w (finish ws known)

-- a number that falls with each item that is done
abbrev pub weight : List Assigned → Item → ℕ
weight as_ (visits t) = 2 * rank as_ t
weight as_ (builds t) = 1

abbrev pub weights : List Assigned → List Item → ℕ
weights as_ [] = 0
weights as_ (w ∷ ws) = weight as_ w + weights as_ ws

-- the terms that are known
abbrev pub trees_known : Terms → List (TermId × TermId) → List Tree
trees_known bank [] = []
trees_known bank (e ∷ es) = tree_of bank e.0 ∷ trees_known bank es

-- a term of the bank whose variables are those of the store
pub record IsOfStore (bank : Terms) (vs : List TreeVariable) (t : TermId) : Type 0 where
  pub has : HasTerm bank t
  pub over : IsOver vs (tree_of bank t)

abbrev pub HasWork : Terms → List TreeVariable → Work → Type 0
HasWork bank vs w = IsOfStore bank vs (term_in w)

-- a term without loose bound variables behind the 2,000,001st
abbrev pub IsLow : Terms → TermId → Type 0
IsLow bank t = loose (tree_of bank t) ≤ 2000001

-- the second term stands for the first as it reads
pub record Reads (bank : Terms) (s : Places) (t u : TermId) : Type 0 where
  pub part : HasTerm bank t
  pub has : HasTerm bank u
  pub near : IsNear 0 (tree_of bank u) (as_read (store_of bank s) (tree_of bank t))
  pub low : IsLow bank u

abbrev pub AreRead : Terms → Places → List (TermId × TermId) → Type 0
AreRead bank s known = AllByRecursion (λ e. Reads bank s e.0 e.1) known

-- the same of lists, term by term
abbrev pub EachReads : Terms → Places → List TermId → List TermId → Type 0
EachReads bank s [] [] = Unit {0}
EachReads bank s (t ∷ ts) (u ∷ us) = Reads bank s t u × EachReads bank s ts us
EachReads bank s _ _ = ⊥

-- what is true while a term is read
pub record Reading (bank : Terms) (s : Places) (work : List Work) (known : List (TermId × TermId)) : Type 0 where
  pub store : HasStore bank s
  pub kept : IsStore (store_of bank s)
  pub placed : AllByRecursion (HasWork bank (store_of bank s).variables) work
  pub ready : AreReady (store_of bank s).values (items_of bank work) (trees_known bank known)
  pub read : AreRead bank s known

-- one list of trees is in another
abbrev pub Covers : List Tree → List Tree → Type 0
Covers ts us = (t : Tree) → IsIn t ts → IsIn t us

-- an item was done
pub record Stepped (old new : Terms) (s : Places) (work left : List Work) (known more : List (TermId × TermId)) : Type 0 where
  pub reading : Reading new s left more
  pub covers : Covers (finish (items_of old work) (trees_known old known)) (finish (items_of new left) (trees_known new more))
  pub falls : weights (store_of old s).values (items_of new left) < weights (store_of old s).values (items_of old work)

-- the item that was taken from the work was done
abbrev pub ItemDone : (old new : Terms) → Places → Work → (work left : List Work) → (known more : List (TermId × TermId)) → Type 0
ItemDone old new s item work left known more = Stepped old new s (work ++ item ∷ []) left known more

-- the parts of a term were put on to be read
pub record Asks (bank : Terms) (as_ : List Assigned) (old new : List Work) (t : Tree) : Type 0 where
  pub added : List TermId
  pub longer : new ≡ old ++ map Work.Visit added
  pub has : AllByRecursion (HasTerm bank) added
  pub are : map (tree_of bank) added ≡ parts_of as_ t

-- a term of the store, the parts of which are known
pub record Finds (bank : Terms) (s : Places) (known : List (TermId × TermId)) (t : TermId) : Type 0 where
  pub store : HasStore bank s
  pub kept : IsStore (store_of bank s)
  pub part : IsOfStore bank (store_of bank s).variables t
  pub read : AreRead bank s known
  pub parts : AllIn (parts_of (store_of bank s).values (tree_of bank t)) (trees_known bank known)

-- these stand for the entries of the instance of a variable, which the term is
pub record HasEntries (bank : Terms) (s : Places) (t : TermId) (n : ℕ) (entries : List TermId) : Type 0 where
  pub parts : List TermId
  pub is : Tree.Evar n (trees_by (tree_of bank) parts) ≡ tree_of bank t
  pub read : EachReads bank s parts entries

-- a term goes ahead of others, if there is one
abbrev pub with_term : Option TermId → List TermId → List TermId
with_term None ts = ts
with_term (Some t) ts = t ∷ ts

-- The answer of a reading: a term for what the definition answers, or the limit that it says is passed. Memory may end at any time.
abbrev pub Answers : Terms → Result TermId StoreFault → Result Tree TreeFault → Type 0
Answers bank (Ok t) r = HasTerm bank t × (r ≡ Ok (tree_of bank t))
Answers bank (Err StoreFault.TooLarge) r = r ≡ Err read_too_large
Answers bank (Err StoreFault.TooDeep) r = r ≡ Err read_too_deep
Answers bank (Err StoreFault.Full) r = ⊥
Answers bank (Err StoreFault.NoMemory) r = Unit {0}

-- The answer of a value that is given: the store then is the definition's, or the limit is passed that it says. Memory may end at any time.
abbrev pub Gives : Terms → Result (Unit {0}) StoreFault → Places → Result TreeStore TreeFault → Type 0
Gives bank (Ok v) new r = r ≡ Ok (store_of bank new)
Gives bank (Err StoreFault.TooLarge) new r = r ≡ Err read_too_large
Gives bank (Err StoreFault.TooDeep) new r = r ≡ Err read_too_deep
Gives bank (Err StoreFault.Full) new r = ⊥
Gives bank (Err StoreFault.NoMemory) new r = Unit {0}
