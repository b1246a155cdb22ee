-- A family as it is offered, and what the look at its hypotheses adds to that.
use Rattle.std.proofs.Common.{◌≡◌, ◌∙◌, ◌<◌, ℕ, zero, suc, refl, sym, ap, subst, arith, append_assoc, append-nil, ◌⊎◌, inl, inr, List, [], ◌∷◌, ◌++◌, map, length, get_or, Option, Some, None, Result, Ok, Err, Bool, true, false, ◌||◌}
use Rattle.std.proofs.lemmas.List.{map-append}
use Rattle.std.specs.Prelude.{option_map, OnOk}
use Rattle.std.specs.List.{AllByRecursion}
use Rattle.lq_trees.specs.Tree.{Name, Tree, Trees, Context, same_name, Hypothesis as TreeHypothesis}
use Rattle.lq_trees.specs.Index.{Within}
use Rattle.lq_trees.specs.Fresh.{is_listed}
use Rattle.lq_trees.specs.Hypotheses.{HoldsOnly, EachHoldsOnly}
use Rattle.lq_trees.specs.Ticks.{gives, fails, cut, tick, ◌>>=◌}
use Rattle.lq_terms.specs.declared.nodes.NameId.{NameId}
use Rattle.lq_terms.specs.declared.nodes.TermId.{TermId}
use Rattle.lq_terms.specs.declared.nodes.Hypothesis.{Hypothesis}
use Rattle.lq_terms.specs.Terms.{Terms, HasName, Grows, text_of, tree_of}
use Rattle.lq_terms.specs.Contexts.{hypothesis_of, context_of, HasContext}
use Rattle.lq_calculus.specs.Declarations.{Family as TreeFamily}
use Rattle.lq_calculus.specs.Checking.{Kernel, known, known_context}
use Rattle.lq_env.specs.declared.family.Family.{Family}
use Rattle.lq_env.specs.Families.{HasConstructor, HasFamily, StandsUnder, names_behind, IsBehind, IsWritten, IsFamily, constructors_of, family_of}
use Rattle.lq_env.proofs.Families.{family_of-grown, HasFamily-grown}
use Rattle.lq_kernel.specs.declared.faults.KernelFault.{KernelFault}
use Rattle.lq_kernel.specs.Closed.{IsScoped, IsBody, IsContext}
use Rattle.lq_kernel.specs.Steps.{KnowsAll}
use Rattle.lq_kernel.specs.Declaring.{IsOfferedBehind, IsOfferedTree, IsOffered}
use Rattle.lq_kernel.proofs.CallLaws.{known_gives}
use Rattle.lq_kernel.proofs.ConstantLaws.{holds_known}
use Rattle.lq_kernel.proofs.LookLaws.{names_in}

-- the bank keeps what is offered
pub IsOffered-grown : (old new : Terms) → Grows old new → (f : Family) → IsOffered old f → IsOffered new f
IsOffered-grown old new g f h = record { has = HasFamily-grown old new g f h.has; tree = subst IsOfferedTree (sym (family_of-grown old new g f h.has)) h.tree }

-- its contexts have no loose bound variables
module _ (bank : Terms) where
  no_body : (o : Option TermId) → option_map (tree_of bank) o ≡ None → IsBody bank o
  no_body None e = tt
  no_body (Some t) e = absurd cc

  offered_context : (names : List Name) (hs : List Hypothesis) → HasContext bank hs → IsOfferedBehind names (context_of bank hs) → IsContext bank hs
  offered_context names [] h p = tt
  offered_context names (x ∷ hs) h p =
      (record { name = h.0.name; body = no_body x.body p.0.bodiless; kind = record { has = h.0.kind; within = p.0.within } }, offered_context (text_of bank x.name ∷ names) hs h.1 p.1)

  append_context : (gs hs : List Hypothesis) → IsContext bank gs → IsContext bank hs → IsContext bank (gs ++ hs)
  append_context [] hs p q = q
  append_context (g ∷ gs) hs p q = (p.0, append_context gs hs p.1 q)

  module _ (f : Family) (h : IsOffered bank f) where
    pub offered_parameters : IsContext bank f.parameters
    offered_parameters = offered_context [] f.parameters h.has.parameters h.tree.parameters

    pub offered_telescope : (hs : List Hypothesis) → hs ≡ f.parameters ++ f.indices → IsContext bank hs
    offered_telescope hs e = subst (IsContext bank) (sym e) (append_context f.parameters f.indices offered_parameters (offered_context _ f.indices h.has.indices h.tree.indices))

    constructor_at : (cs : List (NameId × TermId)) (i : ℕ) (d : NameId × TermId) → AllByRecursion (HasConstructor bank) cs → AllByRecursion (λ c. Within 0 c.1) (constructors_of bank cs) → i < length cs
        → HasName bank (get_or cs i d).0 × IsScoped bank 0 (get_or cs i d).1
    constructor_at [] i d p q l = absurd (omega arith)
    constructor_at (c ∷ cs) zero d p q l = (p.0.0, record { has = p.0.1; within = q.0 })
    constructor_at (c ∷ cs) (suc i) d p q l = constructor_at cs i d p.1 q.1 (omega arith)

    pub offered_constructor : (cs : List (NameId × TermId)) → cs ≡ f.constructors → (i : ℕ) (d : NameId × TermId) → i < length cs → HasName bank (get_or cs i d).0 × IsScoped bank 0 (get_or cs i d).1
    offered_constructor cs e i d l =
        constructor_at cs i d (subst (AllByRecursion (HasConstructor bank)) (sym e) h.has.constructors) (subst (λ zs. AllByRecursion (λ c. Within 0 c.1) (constructors_of bank zs)) (sym e) h.tree.constructors) l

-- names that are among others
abbrev Among : List Name → List Name → Type 0
Among xs ys = (x : Name) → is_listed xs x ≡ true → is_listed ys x ≡ true

module _ (xs ys : List Name) (among : Among xs ys) where
  mutual
    holds_among : (t : Tree) → HoldsOnly xs t → HoldsOnly ys t
    holds_among (Tree.Rel i) h = tt
    holds_among (Tree.Var x) h = among x h
    holds_among (Tree.Sort s) h = tt
    holds_among (Tree.Prod x A B) h = (holds_among A h.0, holds_among B h.1)
    holds_among (Tree.Lam x A B) h = (holds_among A h.0, holds_among B h.1)
    holds_among (Tree.Let x v A B) h = (holds_among v h.0, holds_among A h.1, holds_among B h.2)
    holds_among (Tree.App f a) h = (holds_among f h.0, holds_among a h.1)
    holds_among (Tree.Const x) h = tt
    holds_among (Tree.Ind x) h = tt
    holds_among (Tree.Ctor x k) h = tt
    holds_among (Tree.Elim x s) h = tt
    holds_among (Tree.Evar k ts) h = each_among ts h

    each_among : (ts : Trees) → EachHoldsOnly xs ts → EachHoldsOnly ys ts
    each_among Trees.none h = tt
    each_among (Trees.more t ts) h = (holds_among t h.0, each_among ts h.1)

-- one more name, at the end of the one list and at the head of the other
listed_before : (g : Context) (h : TreeHypothesis) (x : Name) → is_listed (names_in (g ++ h ∷ [])) x ≡ true → (same_name h.name x ≡ true) ⊎ (is_listed (names_in g) x ≡ true)
unfolding is_listed
listed_before [] h x e = by (same_name h.name x) e
  where
    by : (b : Bool) → (b || false) ≡ true → (b ≡ true) ⊎ (false ≡ true)
    by true k = inl refl
    by false k = absurd cc
listed_before (k ∷ g) h x e = by (same_name k.name x) e (listed_before g h x)
  where
    by : (b : Bool) → (b || is_listed (names_in (g ++ h ∷ [])) x) ≡ true → (is_listed (names_in (g ++ h ∷ [])) x ≡ true → (same_name h.name x ≡ true) ⊎ (is_listed (names_in g) x ≡ true)) → (same_name h.name x ≡ true) ⊎ ((b || is_listed (names_in g) x) ≡ true)
    by true m n = inr refl
    by false m n = n m

among_more : (g : Context) (names : List Name) (h : TreeHypothesis) → Among (names_in g) names → Among (names_in (g ++ h ∷ [])) (h.name ∷ names)
unfolding is_listed
among_more g names h among x e = by (listed_before g h x e)
  where
    by : (same_name h.name x ≡ true) ⊎ (is_listed (names_in g) x ≡ true) → (same_name h.name x || is_listed names x) ≡ true
    by (inl k) = ap (λ b. b || is_listed names x) k
    by (inr k) = either (same_name h.name x) (among x k)
      where
        either : (b : Bool) → is_listed names x ≡ true → (b || is_listed names x) ≡ true
        either true m = refl
        either false m = m

-- a look that ends well, part by part
both_end : (w v : Kernel (Unit {0})) → (w >>= λ ok. v) ≡ gives (tt {0}) → (w ≡ gives (tt {0})) × (v ≡ gives (tt {0}))
unfolding ◌>>=◌
both_end (gives ok) v e = (refl, e)
both_end (fails f) v e = absurd cc
both_end cut v e = absurd cc
both_end (tick r) v e = absurd cc

stands_under : (g : Context) (names : List Name) (t : Tree) (ts : List Tree) → Among (names_in g) names → Within 0 t → known g (t ∷ ts) ≡ gives (tt {0}) → StandsUnder names t
stands_under g names t ts among w e = record { within = w; holds = holds_among (names_in g) names among t (holds_known (names_in g) t (known_gives g t ts e).0) }

-- a context, and one behind it
record Written (before : Context) (names : List Name) (gs hs : Context) : Type 0 where
  first : IsBehind names gs
  second : IsBehind (names_behind names gs) hs
  among : Among (names_in (before ++ gs)) (names_behind names gs)

contexts_written : (before : Context) (names : List Name) (gs hs : Context) → Among (names_in before) names → IsOfferedBehind names gs → IsOfferedBehind (names_behind names gs) hs → known_context before (gs ++ hs) ≡ gives (tt {0}) → Written before names gs hs
unfolding known_context
contexts_written before names [] [] among p q e = record { first = tt; second = tt; among = subst (λ z. Among (names_in z) names) (sym (append-nil before)) among }
contexts_written before names [] (h ∷ hs) among p q e =
    let k = both_end (known before (h.kind ∷ [])) (known_context (before ++ h ∷ []) hs) e in
    let rest = contexts_written (before ++ h ∷ []) (h.name ∷ names) [] hs (among_more before names h among) tt q.1 k.1 in
    record {
      first = tt;
      second = (record { new = q.0.new; bodiless = q.0.bodiless; kind = stands_under before names h.kind [] among q.0.within k.0 }, rest.second);
      among = subst (λ z. Among (names_in z) names) (sym (append-nil before)) among;
    }
contexts_written before names (h ∷ gs) hs among p q e =
    let k = both_end (known before (h.kind ∷ [])) (known_context (before ++ h ∷ []) (gs ++ hs)) e in
    let rest = contexts_written (before ++ h ∷ []) (h.name ∷ names) gs hs (among_more before names h among) p.1 q k.1 in
    record {
      first = (record { new = p.0.new; bodiless = p.0.bodiless; kind = stands_under before names h.kind [] among p.0.within k.0 }, rest.first);
      second = rest.second;
      among = subst (λ z. Among (names_in z) (names_behind (h.name ∷ names) gs)) (append_assoc before (h ∷ []) gs) rest.among;
    }

kinds_written : (g : Context) (names : List Name) (cs : List (Name × Tree)) → Among (names_in g) names → AllByRecursion (λ c. Within 0 c.1) cs → known g (map (λ c. c.1) cs) ≡ gives (tt {0}) → AllByRecursion (λ c. StandsUnder names c.1) cs
kinds_written g names [] among p e = tt
kinds_written g names (c ∷ cs) among p e = (stands_under g names c.1 (map (λ d. d.1) cs) among p.0 e, kinds_written g names cs among p.1 (known_gives g c.1 (map (λ d. d.1) cs) e).1)

-- a family that passes the look is as its environment wants it
pub tree_written : (f : TreeFamily) → IsOfferedTree f → known_context [] (f.parameters ++ f.indices) ≡ gives (tt {0}) → known f.parameters (map (λ c. c.1) f.constructors) ≡ gives (tt {0}) → IsWritten f
tree_written f h e k =
    let w = contexts_written [] [] f.parameters f.indices (λ x i. i) h.parameters h.indices e in
    record {
      parameters = w.first;
      indices = w.second;
      constructors = kinds_written f.parameters (names_behind [] f.parameters) f.constructors w.among h.constructors k;
      few_parameters = h.few_parameters;
      few_indices = h.few_indices;
      few_constructors = h.few_constructors;
    }

-- parameters and indices in one context, where the bank has grown
pub telescope_at : (old new : Terms) → Grows old new → (f : Family) → HasFamily old f → (hs : List Hypothesis) → hs ≡ f.parameters ++ f.indices → context_of new hs ≡ (family_of old f).parameters ++ (family_of old f).indices
telescope_at old new g f has hs e =
    ap (context_of new) e ∙ map-append (hypothesis_of new) f.parameters f.indices ∙ ap (λ F. F.parameters ++ F.indices) (family_of-grown old new g f has)

pub looked_family : (old bank : Terms) (f : Family) (r : Result (Unit {0}) KernelFault) → IsOffered old f → known_context [] ((family_of old f).parameters ++ (family_of old f).indices) ≡ gives (tt {0})
    → KnowsAll bank r (known (family_of old f).parameters (map (λ c. c.1) (family_of old f).constructors)) → OnOk r (IsFamily old f)
looked_family old bank f (Ok ok) h k m = record { has = h.has; written = tree_written (family_of old f) h.tree k m }
looked_family old bank f (Err e) h k m = tt
