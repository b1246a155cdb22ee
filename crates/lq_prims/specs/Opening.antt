-- Types that are opened into premises, by places of a bank.
use Rattle.std.specs.Prelude.{◌≡◌, ◌<◌, ℕ, suc, List, ◌∷◌, length, map, reverse, Option, Some, None, Result, Ok, Err}
use Rattle.std.specs.List.{AllByRecursion}
use Rattle.lq_trees.specs.Tree.{Tree}
use Rattle.lq_trees.specs.Ticks.{gives, ◌>>=◌, done, ComesTo}
use Rattle.lq_terms.specs.declared.nodes.Hypothesis.{Hypothesis}
use Rattle.lq_terms.specs.Terms.{Terms, HasName, text_of, tree_of}
use Rattle.lq_terms.specs.declared.nodes.TermId.{TermId}
use Rattle.lq_solving.specs.Stores.{Store}
use Rattle.lq_evars.specs.Places.{store_of}
use Rattle.lq_tactics.specs.Applying.{first_opening, open_type}
use Rattle.lq_tactics.specs.Applying.{Opening as TreeOpening}
use Rattle.lq_tactics.specs.Rows.{Doing, Scene}
use Rattle.lq_prims.specs.declared.faults.PrimFault.{PrimFault}
use Rattle.lq_prims.specs.declared.opening.Opening.{Opening}
use Rattle.lq_prims.specs.Making.{HasIn, IsIn}
use Rattle.lq_prims.specs.Working.{Does, Refuses}

-- an opening
abbrev pub opening_of : Terms → Opening → TreeOpening
opening_of bank o = record { store = store_of bank o.store; premises = o.premises.items; names = map (text_of bank) o.names.items; rest = tree_of bank o.rest }

-- openings, the one with the most premises first
abbrev pub openings_of : Terms → List Opening → List TreeOpening
openings_of bank os = reverse (map (opening_of bank) os)

-- an opening lies in a bank and stands in a context; its premises are variables of its store
pub record HasOpening (bank : Terms) (hs : List Hypothesis) (o : Opening) : Type 0 where
  pub place : IsIn bank o.store hs
  pub rest : HasIn bank o.store hs o.rest
  pub names : AllByRecursion (HasName bank) o.names.items
  pub premises : AllByRecursion (λ k. k < length o.store.variables) o.premises.items

-- a term stands in the context over the opening's store
abbrev pub Carries : Terms → List Hypothesis → TermId → Opening → Type 0
Carries bank hs t o = HasIn bank o.store hs t

-- an opening with the store after its unification
abbrev pub opening_then : TreeOpening × Store → TreeOpening
opening_then p = record { store = p.1; premises = p.0.premises; names = p.0.names; rest = p.0.rest }

abbrev pub chosen_then : Option (TreeOpening × Store) → Option TreeOpening
chosen_then None = None
chosen_then (Some p) = Some (opening_then p)

-- the first opening whose rest unifies with a type, with the store after that
unfoldable pub choose_work : Scene → Tree → List TreeOpening → Doing (Option TreeOpening)
choose_work c T os = first_opening c T os >>= λ a. gives (chosen_then a)

-- the openings of a type alone
unfoldable pub open_work : Scene → ℕ → TreeOpening → List TreeOpening → Doing (List TreeOpening)
open_work c m o os = open_type c m o os >>= λ p. gives p.0

-- one step: the openings go on with one premise more, or they end, or the refusal is true
abbrev pub Opens : Terms → Result (Option Opening) PrimFault → (ℕ → Scene) → TreeOpening → (budget left : ℕ) → Type 0
Opens bank (Ok (Some p)) c o b l = (m : ℕ) (os ps : List TreeOpening) (late : Terms) (q : Result (Unit {0}) PrimFault) (left : ℕ) →
    Does late (λ u. ps) q (λ n. open_work (c n) m (opening_of bank p) (o ∷ os)) l left → Does late (λ u. ps) q (λ n. open_work (c n) (suc m) o os) b left
Opens bank (Ok None) c o b l = (m : ℕ) (os : List TreeOpening) → ComesTo (λ n. open_work (c n) (suc m) o os) b (done (o ∷ os) l)
Opens bank (Err e) c o b l = (m : ℕ) (os : List TreeOpening) → Refuses bank e (λ n. open_work (c n) (suc m) o os) b l

-- the opening that was made, if there is one
abbrev pub HasFurther : Terms → List Hypothesis → Option Opening → Type 0
HasFurther bank hs None = Unit {0}
HasFurther bank hs (Some o) = HasOpening bank hs o

abbrev pub CarriesFurther : Terms → List Hypothesis → TermId → Option Opening → Type 0
CarriesFurther bank hs t None = Unit {0}
CarriesFurther bank hs t (Some o) = Carries bank hs t o

-- it has one variable more, and there was room for it
abbrev pub OneMore : ℕ → Option Opening → Type 0
OneMore n None = Unit {0}
OneMore n (Some o) = (length o.store.variables ≡ suc n) × (n < 16777216)

-- what is chosen
abbrev pub choice_of : Terms → Option Opening → Option TreeOpening
choice_of bank None = None
choice_of bank (Some o) = Some (opening_of bank o)
