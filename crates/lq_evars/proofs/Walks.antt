-- Links are walked along: what is around a term outside, the entry that stands for a hypothesis, the value of a variable.
use Rattle.std.proofs.Common.{◌≡◌, ◌≤◌, ◌<◌, ◌+◌, ◌-◌, ◌∙◌, ℕ, zero, suc, Bool, false, refl, sym, ap, ap₂, arith, List, [], ◌∷◌, ◌++◌, map, drop, length, length-append, get_or, append_assoc, append-nil, Option, Some, None}
use Rattle.std.proofs.Common.{subst as along}
use Rattle.std.specs.Prelude.{slice_get, zip, IfSome, option_map}
use Rattle.std.specs.Str.{bytes_eq}
use Rattle.std.specs.List.{AllByRecursion}
use Rattle.std.proofs.lemmas.List.{drop_more, length-map}
use Rattle.lq_trees.specs.Tree.{Name, Tree, Trees, none, more, value_of}
use Rattle.lq_trees.specs.Tree.Tree.{Rel, Var, Sort, Prod, Lam, Let, App, Const, Ind, Ctor, Elim, Evar}
use Rattle.lq_trees.specs.Change.{replace, instantiating}
use Rattle.lq_trees.specs.Fresh.{is_listed}
use Rattle.lq_trees.specs.Hypotheses.{HoldsOnly, EachHoldsOnly}
use Rattle.lq_trees.proofs.MarkLaws.{loose-within, stays_nameless}
use Rattle.lq_trees.specs.Marks.{loose, holds_hypothesis, hold_hypothesis, holds_unknown}
use Rattle.lq_trees.specs.Reading.{entries}
use Rattle.lq_terms.specs.declared.nodes.Hypothesis.{Hypothesis}
use Rattle.lq_terms.specs.declared.nodes.TermId.{TermId}
use Rattle.lq_terms.specs.declared.nodes.Node.{Node}
use Rattle.lq_terms.specs.Terms.{Terms, IsPart, text_of, tree_of, trees_by, node_tree}
use Rattle.lq_terms.specs.Changes.{HasHypothesis}
use Rattle.lq_solving.specs.Stores.{Variable as TreeVariable, Store as TreeStore, names_at, names_in, find_value, value, body_at}
use Rattle.lq_solving.specs.Kept.{IsOver, EachIsOver, IsStore}
use Rattle.lq_solving.proofs.FreeLaws.{both_false}
use Rattle.lq_solving.proofs.ReadLaws.{filled_each, filled_within, given_over, reads_as_value}
use Rattle.lq_solving.proofs.StoreLaws.{values_hold}
use Rattle.lq_evars.proofs.CostLaws.{given_steps}
use Rattle.lq_evars.specs.declared.store.Variable.{Variable}
use Rattle.lq_evars.specs.declared.scopes.Around.{Around}
use Rattle.lq_evars.specs.declared.scopes.Link.{Link}
use Rattle.lq_evars.specs.declared.scopes.Closure.{Closure}
use Rattle.lq_evars.specs.declared.comparing.Pair.{Pair}
use Rattle.lq_evars.specs.Places.{Places, store_of, variable_of, value_at, HasStore}
use Rattle.lq_evars.specs.Reading.{as_read}
use Rattle.lq_evars.specs.Scopes.{Scope, top, below, inside, outer, entry_or, named_in, placed}
use Rattle.lq_evars.specs.Costs.{steps, steps_each, value_steps, scope_steps, term_steps}
use Rattle.lq_evars.specs.Closures.{scope_of, inside_of, closure_tree, depth_of, AroundIn, HasLink, AreLinks, IsTermOver, HasClosure, IsSettled, SettledClosure, EntryIs, IsEntry, SameNames, NearestIs, TurnsTo, paired}
use Rattle.lq_evars.proofs.Bodies.{names_told}
use Rattle.lq_evars.proofs.Given.{plain_read}
use Rattle.lq_evars.proofs.Links.{scope_is, scope_new, links_push, link_read, around_more}
use Rattle.lq_evars.proofs.Lookups.{values_told, variable_told}
use Rattle.lq_evars.proofs.Rebuilt.{entries_map}
use Rattle.lq_evars.proofs.ScopeLaws.{scope_leaves, below_inside, below_outside, alone, stays_in}
use Rattle.lq_evars.proofs.ScopeReads.{value_placed, value_lighter}
use Rattle.lq_evars.proofs.ValueRead.{value_has, names_have, variable_has, there}

-- how far a place is from nothing
abbrev pub height : Around → ℕ
height Around.Nothing = 0
height (Around.At p) = suc p

pub height_falls : (p : ℕ) (a : Around) → AroundIn p a → height a < suc p
height_falls p Around.Nothing h = omega arith
height_falls p (Around.At q) h = omega arith

-- a link that was read
module _ (bank : Terms) (s : TreeStore) (ls : List Link) (made : AreLinks bank s.variables ls) (p : ℕ) (d : Link) (l : p < length ls) where
  module _ (c e : ℕ) (a : Around) (is : get_or ls p d ≡ Link.Binders c e a) where
    pub below_around : AroundIn p a
    below_around = made.at p (Link.Binders c e a) (link_read ls p d (Link.Binders c e a) l is)

    pub below_place : AroundIn (length ls) a
    below_place = around_more p (length ls) a (omega arith) below_around

    pub below_scope : scope_of bank ls (Around.At p) ≡ below c e (scope_of bank ls a)
    below_scope = scope_is bank s.variables ls p (Link.Binders c e a) made (link_read ls p d (Link.Binders c e a) l is)

    pub below_first : (depth i : ℕ) → i < c → outer (scope_of bank ls (Around.At p)) depth i ≡ depth - suc (e - suc i)
    below_first depth i h = ap (λ o. outer o depth i) below_scope ∙ below_inside c e (scope_of bank ls a) depth i h

    pub below_later : (depth i : ℕ) → c ≤ i → outer (scope_of bank ls (Around.At p)) depth i ≡ outer (scope_of bank ls a) depth (i - c)
    below_later depth i h = ap (λ o. outer o depth i) below_scope ∙ below_outside c e (scope_of bank ls a) depth i h

    pub below_names : SameNames s (scope_of bank ls (Around.At p)) (scope_of bank ls a)
    below_names = along (λ o. SameNames s o (scope_of bank ls a)) (sym below_scope) (record { named = λ j x. refl; steps = refl })

  module _ (t : TermId) (a : Around) (is : get_or ls p d ≡ Link.Inside t a) where
    inside_has : HasLink bank s.variables p (Link.Inside t a)
    inside_has = made.at p (Link.Inside t a) (link_read ls p d (Link.Inside t a) l is)

    pub inside_scope : scope_of bank ls (Around.At p) ≡ inside_of (tree_of bank t) (scope_of bank ls a)
    inside_scope = scope_is bank s.variables ls p (Link.Inside t a) made (link_read ls p d (Link.Inside t a) l is)

    pub inside_outer : (depth i : ℕ) → outer (scope_of bank ls (Around.At p)) depth i ≡ 0
    inside_outer depth i =
        ap (λ o. outer o depth i) inside_scope ∙ ap (λ z. outer (inside_of z (scope_of bank ls a)) depth i) inside_has.2.is

    pub inside_nearest : (b : Around) → SameNames s (scope_of bank ls b) (scope_of bank ls (Around.At p)) → NearestIs bank s ls b t a
    inside_nearest b n = record {
      same = along (λ o. SameNames s (scope_of bank ls b) o) inside_scope n;
      around = around_more p (length ls) a (omega arith) inside_has.0;
      term = inside_has.1;
      is = inside_has.2;
    }

pub names_trans : (s : TreeStore) (o p q : Scope) → SameNames s o p → SameNames s p q → SameNames s o q
names_trans s o p q h k = record { named = λ d x. h.named d x ∙ k.named d x; steps = h.steps ∙ k.steps }

pub names_same : (s : TreeStore) (o : Scope) → SameNames s o o
names_same s o = record { named = λ d x. refl; steps = refl }

abbrev no_items : (B : Type 0) → List B
no_items B = []

-- what is past the end of a list
pub drop_past : {A : Type 0} (n : ℕ) (xs : List A) → length xs ≤ n → drop n xs ≡ []
drop_past zero [] h = refl
drop_past (suc n) [] h = refl
drop_past zero (x ∷ xs) h = absurd (omega arith)
drop_past (suc n) (x ∷ xs) h = drop_past n xs (omega arith)

zip_none : {A B : Type 0} (xs : List A) → zip xs (no_items B) ≡ []
zip_none [] = refl
zip_none (x ∷ xs) = refl

-- the first hypothesis is of another name
pub given_more :
    (bank : Terms) (hs : List Hypothesis) (ts : List TermId) (tree : TermId → Tree) (i : ℕ) (x : List ℕ) (d : Hypothesis) (e : TermId) → i < length hs → i < length ts → bytes_eq x (text_of bank (get_or hs i d).name) ≡ false
    → value_of (zip (map (λ h. text_of bank h.name) (drop (i + 1) hs)) (map tree (drop (i + 1) ts))) x ≡ value_of (zip (map (λ h. text_of bank h.name) (drop i hs)) (map tree (drop i ts))) x
given_more bank hs ts tree i x d e l k differs = rw (drop_more hs i d l, drop_more ts i e k, differs)

pub given_past :
    (bank : Terms) (hs : List Hypothesis) (ts : List TermId) (tree : TermId → Tree) (i : ℕ) (x : List ℕ) → length ts ≤ i
    → None ≡ value_of (zip (map (λ h. text_of bank h.name) (drop i hs)) (map tree (drop i ts))) x
given_past bank hs ts tree i x l =
    sym (ap (λ z. value_of (zip (map (λ h. text_of bank h.name) (drop i hs)) (map tree z)) x) (drop_past i ts l)
    ∙ ap (λ z. value_of z x) (zip_none (map (λ h. text_of bank h.name) (drop i hs))))

if_some : {A : Type 0} (o : Option A) (P Q : A → Type 0) → ((x : A) → P x → Q x) → IfSome o P → IfSome o Q
if_some None P Q f h = tt
if_some (Some x) P Q f h = f x h

-- an entry of an instance
entry_all : {A : Type 0} (P : A → Type 0) (ts : List A) (t : A) (i : ℕ) → AllByRecursion P ts → slice_get ts i ≡ Some t → P t
entry_all P [] t i h e = cc
entry_all P (u ∷ ts) t zero h e = let is : u ≡ t = cc in along P is h.0
entry_all P (u ∷ ts) t (suc i) h e = entry_all P ts t i h.1 e

entry_over : (tree : TermId → Tree) (vs : List TreeVariable) (ts : List TermId) (t : TermId) (i : ℕ) → EachIsOver vs (trees_by tree ts) → slice_get ts i ≡ Some t → IsOver vs (tree t)
entry_over tree vs [] t i h e = cc
entry_over tree vs (u ∷ ts) t zero h e = let is : u ≡ t = cc in along (λ z. IsOver vs (tree z)) is h.0
entry_over tree vs (u ∷ ts) t (suc i) h e = entry_over tree vs ts t i h.1 e

entry_light : (tree : TermId → Tree) (w : ℕ → ℕ → ℕ) (v : ℕ) (ts : List TermId) (t : TermId) (i : ℕ) → slice_get ts i ≡ Some t → steps w v (tree t) ≤ steps_each w v (trees_by tree ts)
entry_light tree w v [] t i e = cc
entry_light tree w v (u ∷ ts) t zero e = let is : u ≡ t = cc in omega (arith, ap (λ z. steps w v (tree z)) is)
entry_light tree w v (u ∷ ts) t (suc i) e = omega (arith, entry_light tree w v ts t i e)

map_through : (f : Tree → Tree) (tree : TermId → Tree) (ts : List TermId) → map (λ t. f (tree t)) ts ≡ map f (map tree ts)
map_through f tree [] = refl
map_through f tree (t ∷ ts) = ap (λ us. f (tree t) ∷ us) (map_through f tree ts)

-- the context of a variable
module _ (bank : Terms) (s : Places) (h : HasStore bank s) (variable : TermId) (term : IsTermOver bank (store_of bank s).variables variable) (n : ℕ) (ts : List TermId)
    (is : Evar n (trees_by (tree_of bank) ts) ≡ tree_of bank variable) where
  over : IsOver (store_of bank s).variables (Evar n (trees_by (tree_of bank) ts))
  over = along (IsOver (store_of bank s).variables) (sym is) term.over

  pub index_inside : n < length s.variables
  index_inside = along (λ k. n < k) (length-map s.variables (variable_of bank)) over.0

  module _ (hs : List Hypothesis) (at : (v : Variable) → slice_get s.variables n ≡ Some v → hs ≡ v.context) where
    pub context_named : AllByRecursion (HasHypothesis bank) hs
    context_named =
        let v = there s.variables n index_inside in
        along (AllByRecursion (HasHypothesis bank)) (sym (at v.0 v.1)) (names_have bank v.0.context (variable_has bank s.variables n v.0 h.variables v.1).context)

    names_are : map (λ k. text_of bank k.name) hs ≡ names_at (store_of bank s).variables n
    unfolding names_at
    names_are =
        let v = there s.variables n index_inside in
        ap (map (λ k. text_of bank k.name)) (at v.0 v.1) ∙ names_told bank v.0.context
        ∙ sym (ap (λ (o : Option TreeVariable). elim o [ Some v ↦ names_in v.context | None ↦ [] ]) (variable_told bank s n v.0 v.1))

    -- an entry of its instance
    pub entry_is : (x : Name) (o : Option TermId) → ((tree : TermId → Tree) → option_map tree o ≡ value_of (zip (map (λ k. text_of bank k.name) hs) (map tree ts)) x)
        → IfSome o (λ t. (i : ℕ) × (slice_get ts i ≡ Some t)) → AllByRecursion (IsPart bank variable) ts → IsEntry bank (store_of bank s) (tree_of bank variable) x o
    entry_is x o found one parts =
        along (λ z. IsEntry bank (store_of bank s) z x o) is
        (record {
          found = λ f.
              found (λ t. f (tree_of bank t))
              ∙ ap₂ (λ xs us. value_of (zip xs us) x) names_are (map_through f (tree_of bank) ts ∙ ap (map f) (sym (entries_map bank ts)));
          over =
              if_some o (λ t. (i : ℕ) × (slice_get ts i ≡ Some t)) (IsTermOver bank (store_of bank s).variables)
              (λ t p. record { has = (entry_all (IsPart bank variable) ts t p.0 parts p.1).has; over = entry_over (tree_of bank) (store_of bank s).variables ts t p.0 over.2 p.1 }) one;
          light =
              if_some o (λ t. (i : ℕ) × (slice_get ts i ≡ Some t)) (λ t. (w : ℕ → ℕ → ℕ) (v : ℕ) → steps w v (tree_of bank t) ≤ steps_each w v (trees_by (tree_of bank) ts))
              (λ t p w v. entry_light (tree_of bank) w v ts t p.0 p.1) one;
        })

-- a term that is no variable has no entries
pub no_entry : (bank : Terms) (s : TreeStore) (x : Name) (node : Node) (t : Tree) → node_tree bank node ≡ t → ((n : ℕ) (ts : List TermId) → node ≡ Node.Evar n ts → ⊥) → IsEntry bank s t x None
no_entry bank s x (Node.Rel i) t e h = along (λ z. IsEntry bank s z x None) e refl
no_entry bank s x (Node.Var y) t e h = along (λ z. IsEntry bank s z x None) e refl
no_entry bank s x (Node.Sort q) t e h = along (λ z. IsEntry bank s z x None) e refl
no_entry bank s x (Node.Prod y a b) t e h = along (λ z. IsEntry bank s z x None) e refl
no_entry bank s x (Node.Lam y a b) t e h = along (λ z. IsEntry bank s z x None) e refl
no_entry bank s x (Node.Let y v a b) t e h = along (λ z. IsEntry bank s z x None) e refl
no_entry bank s x (Node.App f a) t e h = along (λ z. IsEntry bank s z x None) e refl
no_entry bank s x (Node.Const y) t e h = along (λ z. IsEntry bank s z x None) e refl
no_entry bank s x (Node.Ind y) t e h = along (λ z. IsEntry bank s z x None) e refl
no_entry bank s x (Node.Ctor y i) t e h = along (λ z. IsEntry bank s z x None) e refl
no_entry bank s x (Node.Elim y q) t e h = along (λ z. IsEntry bank s z x None) e refl
no_entry bank s x (Node.Evar n ts) t e h = absurd (h n ts refl)

-- a hypothesis in a closure
module _ (bank : Terms) (s : TreeStore) (ls : List Link) (made : AreLinks bank s.variables ls) (c : Closure) (x : Name) (is : tree_of bank c.term ≡ Var x) where
  pub settled_var : named_in s (scope_of bank ls c.around) (depth_of c) x ≡ Var x → SettledClosure bank s ls c
  settled_var e = along (IsSettled s (scope_of bank ls c.around) (depth_of c)) (sym is) e

  -- nothing stands for it
  pub stays_itself : SameNames s (scope_of bank ls c.around) top → TurnsTo bank s ls ls c None
  stays_itself n = (refl, settled_var (n.named (depth_of c) x))

  module _ (variable : TermId) (a : Around) (near : NearestIs bank s ls c.around variable a) where
    entries_here : (o : Option TermId) → IsEntry bank s (tree_of bank variable) x o → EntryIs bank s near.is.index near.is.parts x o
    entries_here o e = along (λ z. IsEntry bank s z x o) near.is.is e

    stands : Tree → Tree
    stands t = replace (scope_leaves s (scope_of bank ls a) (depth_of c)) 0 (as_read s t)

    named_here : named_in s (scope_of bank ls c.around) (depth_of c) x ≡ entry_or (value_of (zip (names_at s.variables near.is.index) (map stands (entries near.is.parts))) x) x
    unfolding stands
    named_here =
        near.same.named (depth_of c) x ∙ ap (λ z. named_in s (inside_of z (scope_of bank ls a)) (depth_of c) x) near.is.is

    pub no_entry_stays : IsEntry bank s (tree_of bank variable) x None → TurnsTo bank s ls ls c None
    no_entry_stays e = (refl, settled_var (named_here ∙ ap (λ o. entry_or o x) (sym ((entries_here None e).found stands))))

    steps_here : scope_steps s.values (scope_of bank ls c.around) ≡ steps_each (value_steps s.values) (scope_steps s.values (scope_of bank ls a)) near.is.parts
    steps_here = near.same.steps ∙ ap (λ z. scope_steps s.values (inside_of z (scope_of bank ls a))) near.is.is

    pub entry_turns : (t : TermId) → IsEntry bank s (tree_of bank variable) x (Some t) → TurnsTo bank s ls ls c (Some (record { term = t; around = a; base = c.base + c.under; under = 0 }))
    unfolding stands
    entry_turns t e =
        let h : EntryIs bank s near.is.index near.is.parts x (Some t) = entries_here (Some t) e in
        record {
          more = [];
          longer = sym (append-nil ls);
          made = made;
          has = record { term = h.over; around = near.around };
          same =
              sym (ap (λ z. placed s (scope_of bank ls c.around) c.base c.under (as_read s z)) is
              ∙ ap (placed s (scope_of bank ls c.around) c.base c.under) (plain_read s.variables s.values (Var x) refl)
              ∙ named_here ∙ ap (λ o. entry_or o x) (sym (h.found stands)));
          falls =
              omega (
                arith,
                h.light (value_steps s.values) (scope_steps s.values (scope_of bank ls a)),
                steps_here,
                ap (term_steps s.values (scope_of bank ls c.around)) is,
              );
          deep = omega arith;
        }

-- a variable in a closure
module _ (bank : Terms) (s : Places) (h : HasStore bank s) (kept : IsStore (store_of bank s)) (n : ℕ) where
  pub value_none : value_at s n ≡ None → find_value (store_of bank s).values n ≡ None
  unfolding value find_value
  value_none e = sym (values_told bank s n kept) ∙ ap (option_map (tree_of bank)) e

  pub value_some : (t : TermId) → value_at s n ≡ Some t → find_value (store_of bank s).values n ≡ Some (tree_of bank t)
  unfolding value find_value
  value_some t e = sym (values_told bank s n kept) ∙ ap (option_map (tree_of bank)) e

  module _ (ls : List Link) (c : Closure) (ts : Trees) (is : tree_of bank c.term ≡ Evar n ts) where
    pub open_stays_itself : value_at s n ≡ None → TurnsTo bank (store_of bank s) ls ls c None
    open_stays_itself e = (refl, along (IsSettled (store_of bank s) (scope_of bank ls c.around) (depth_of c)) (sym is) (value_none e))

    module _ (made : AreLinks bank (store_of bank s).variables ls) (has : HasClosure bank (store_of bank s).variables (length ls) c) (t : TermId) (e : value_at s n ≡ Some t) (mid new : List Link) (outside around : Around)
        (first : mid ≡ ls ++ Link.Binders c.under (c.base + c.under) c.around ∷ []) (second : new ≡ mid ++ Link.Inside c.term outside ∷ []) (at_first : outside ≡ Around.At (length ls)) (at_second : around ≡ Around.At (length mid)) where
      mid_made : AreLinks bank (store_of bank s).variables mid
      mid_made = along (AreLinks bank (store_of bank s).variables) (sym first) (links_push bank (store_of bank s).variables ls (Link.Binders c.under (c.base + c.under) c.around) made has.around)

      mid_length : length mid ≡ length ls + 1
      mid_length = ap length first ∙ length-append ls (Link.Binders c.under (c.base + c.under) c.around ∷ [])

      outside_there : AroundIn (length mid) outside
      outside_there = along (AroundIn (length mid)) (sym at_first) (omega (arith, mid_length))

      new_made : AreLinks bank (store_of bank s).variables new
      new_made =
          along (AreLinks bank (store_of bank s).variables) (sym second)
          (links_push bank (store_of bank s).variables mid (Link.Inside c.term outside) mid_made (outside_there, has.term, record { index = n; parts = ts; is = is }))

      new_length : length new ≡ length mid + 1
      new_length = ap length second ∙ length-append mid (Link.Inside c.term outside ∷ [])

      around_there : AroundIn (length new) around
      around_there = along (AroundIn (length new)) (sym at_second) (omega (arith, new_length))

      mid_scope : scope_of bank mid outside ≡ below c.under (c.base + c.under) (scope_of bank ls c.around)
      mid_scope = ap₂ (scope_of bank) first at_first ∙ scope_new bank ls (Link.Binders c.under (c.base + c.under) c.around)

      new_scope : scope_of bank new around ≡ inside n ts (below c.under (c.base + c.under) (scope_of bank ls c.around))
      new_scope = ap₂ (scope_of bank) second at_second ∙ scope_new bank mid (Link.Inside c.term outside) ∙ ap₂ inside_of is mid_scope

      more_links : List Link
      more_links = Link.Binders c.under (c.base + c.under) c.around ∷ Link.Inside c.term outside ∷ []

      new_longer : new ≡ ls ++ (Link.Binders c.under (c.base + c.under) c.around ∷ Link.Inside c.term outside ∷ [])
      new_longer =
          second ∙ ap (λ z. z ++ Link.Inside c.term outside ∷ []) first ∙ append_assoc ls (Link.Binders c.under (c.base + c.under) c.around ∷ []) (Link.Inside c.term outside ∷ [])

      term_over : IsOver (store_of bank s).variables (Evar n ts)
      term_over = along (IsOver (store_of bank s).variables) is has.term.over

      pub value_turns_to : TurnsTo bank (store_of bank s) ls new c (Some (record { term = t; around = around; base = c.base + c.under; under = 0 }))
      value_turns_to = record {
        more = Link.Binders c.under (c.base + c.under) c.around ∷ Link.Inside c.term outside ∷ [];
        longer = new_longer;
        made = new_made;
        has = record {
          term = record {
            has = value_has bank s.values n t h.values e;
            over = (given_over (store_of bank s).variables (store_of bank s).values kept.values n (tree_of bank t) (value_some t e)).0;
          };
          around = around_there;
        };
        same =
            ap (λ o. placed (store_of bank s) o (c.base + c.under) 0 (as_read (store_of bank s) (tree_of bank t))) new_scope
            ∙ sym (ap (λ z. placed (store_of bank s) (scope_of bank ls c.around) c.base c.under (as_read (store_of bank s) z)) is
            ∙ value_placed (store_of bank s) kept.values n (tree_of bank t) ts (value_some t e) (scope_of bank ls c.around) c.base c.under term_over);
        falls =
            omega (
              arith,
              ap (λ o. term_steps (store_of bank s).values o (tree_of bank t)) new_scope,
              ap (term_steps (store_of bank s).values (scope_of bank ls c.around)) is,
              value_lighter (store_of bank s) kept.values n (tree_of bank t) ts (value_some t e) (scope_of bank ls c.around) c.base c.under,
            );
        deep = omega arith;
      }

-- a tree that holds hypotheses of no names holds none
mutual
  unfolding is_listed

  nameless : (t : Tree) → HoldsOnly [] t → holds_hypothesis t ≡ false
  nameless (Rel i) h = refl
  nameless (Var x) h = absurd (grind arith)
  nameless (Sort q) h = refl
  nameless (Prod x A B) h = both_false _ _ (nameless A h.0) (nameless B h.1)
  nameless (Lam x A B) h = both_false _ _ (nameless A h.0) (nameless B h.1)
  nameless (Let x v A B) h = both_false _ _ (both_false _ _ (nameless v h.0) (nameless A h.1)) (nameless B h.2)
  nameless (App f a) h = both_false _ _ (nameless f h.0) (nameless a h.1)
  nameless (Const c) h = refl
  nameless (Ind c) h = refl
  nameless (Ctor c k) h = refl
  nameless (Elim c q) h = refl
  nameless (Evar n ts) h = each_nameless ts h

  each_nameless : (ts : Trees) → EachHoldsOnly [] ts → hold_hypothesis ts ≡ false
  each_nameless none h = refl
  each_nameless (more t ts) h = both_false _ _ (nameless t h.0) (each_nameless ts h.1)

no_steps : (w : ℕ → ℕ → ℕ) (v : ℕ) (ts : Trees) → length (entries ts) ≡ 0 → steps_each w v ts ≡ 0
unfolding entries
no_steps w v none e = refl
no_steps w v (more t ts) e = absurd (omega (arith, e))

-- a variable with a value among no hypotheses
module _ (bank : Terms) (s : Places) (h : HasStore bank s) (kept : IsStore (store_of bank s)) (n : ℕ) (ls : List Link) (c : Closure) (ts : Trees) (is : tree_of bank c.term ≡ Evar n ts)
    (made : AreLinks bank (store_of bank s).variables ls) (has : HasClosure bank (store_of bank s).variables (length ls) c) (t : TermId) (e : value_at s n ≡ Some t) where
  bare_over : IsOver (store_of bank s).variables (Evar n ts)
  bare_over = along (IsOver (store_of bank s).variables) is has.term.over

  pub bare_inside : n < length s.variables
  bare_inside = along (λ k. n < k) (length-map s.variables (variable_of bank)) bare_over.0

  module _ (bare : (v : Variable) → slice_get s.variables n ≡ Some v → v.context ≡ []) where
    no_names : names_at (store_of bank s).variables n ≡ []
    unfolding names_at
    no_names =
        let v = there s.variables n bare_inside in
        ap (λ (o : Option TreeVariable). elim o [ Some v ↦ names_in v.context | None ↦ [] ]) (variable_told bank s n v.0 v.1) ∙ sym (names_told bank v.0.context)
        ∙ ap (map (λ k. text_of bank k.name)) (bare v.0 v.1)

    value_here : find_value (store_of bank s).values n ≡ Some (tree_of bank t)
    value_here = value_some bank s h kept n t e

    reads_nameless : holds_hypothesis (as_read (store_of bank s) (tree_of bank t)) ≡ false
    reads_nameless =
        nameless (as_read (store_of bank s) (tree_of bank t))
        (along (λ xs. HoldsOnly xs (as_read (store_of bank s) (tree_of bank t))) no_names (values_hold (store_of bank s).variables (store_of bank s).values kept.values n (tree_of bank t) value_here))

    reads_closed : loose (as_read (store_of bank s) (tree_of bank t)) ≤ 0
    reads_closed =
        loose-within 0 (as_read (store_of bank s) (tree_of bank t))
        (filled_within (store_of bank s).variables (store_of bank s).values kept.values 0 (tree_of bank t)
        (given_over (store_of bank s).variables (store_of bank s).values kept.values n (tree_of bank t) value_here).1)

    stands_itself : placed (store_of bank s) (scope_of bank ls c.around) c.base c.under (as_read (store_of bank s) (Evar n ts)) ≡ as_read (store_of bank s) (tree_of bank t)
    unfolding body_at
    stands_itself =
        ap (placed (store_of bank s) (scope_of bank ls c.around) c.base c.under)
        (reads_as_value (store_of bank s).variables (store_of bank s).values kept.values n (tree_of bank t) ts value_here bare_over.2
        ∙ stays_nameless (instantiating (zip (names_at (store_of bank s).variables n) (entries (filled_each (store_of bank s).variables (store_of bank s).values ts)))) (λ d i. refl) 0
        (as_read (store_of bank s) (tree_of bank t)) reads_nameless)
        ∙ stays_in (store_of bank s) (scope_of bank ls c.around) c.base c.under (as_read (store_of bank s) (tree_of bank t)) (omega (arith, reads_closed)) reads_nameless

    pub bare_turns : TurnsTo bank (store_of bank s) ls ls c (Some (record { term = t; around = Around.Nothing; base = 0; under = c.base + c.under }))
    bare_turns = record {
      more = [];
      longer = sym (append-nil ls);
      made = made;
      has = record {
        term = record {
          has = value_has bank s.values n t h.values e;
          over = (given_over (store_of bank s).variables (store_of bank s).values kept.values n (tree_of bank t) value_here).0;
        };
        around = tt;
      };
      same =
          alone (store_of bank s) (c.base + c.under) (as_read (store_of bank s) (tree_of bank t))
          ∙ sym (ap (λ z. placed (store_of bank s) (scope_of bank ls c.around) c.base c.under (as_read (store_of bank s) z)) is ∙ stands_itself);
      falls =
          omega (
            arith,
            ap (term_steps (store_of bank s).values (scope_of bank ls c.around)) is,
            given_steps (store_of bank s).variables (store_of bank s).values kept.values (λ m v. v) n 0 (tree_of bank t) value_here,
            ap (value_steps (store_of bank s).values n) (no_steps (value_steps (store_of bank s).values) (scope_steps (store_of bank s).values (scope_of bank ls c.around)) ts (bare_over.1 ∙ ap length no_names)),
          );
      deep = omega arith;
    }

-- another node stands for itself
abbrev pub IsOther : Node → Type 0
IsOther (Node.Var x) = ⊥
IsOther (Node.Evar n ts) = ⊥
IsOther node = Unit {0}

pub other_stays : (bank : Terms) (s : TreeStore) (ls : List Link) (c : Closure) (node : Node) → IsOther node → node_tree bank node ≡ tree_of bank c.term → TurnsTo bank s ls ls c None
other_stays bank s ls c node o e = (refl, along (IsSettled s (scope_of bank ls c.around) (depth_of c)) e (by node o))
  where
    by : (n : Node) → IsOther n → IsSettled s (scope_of bank ls c.around) (depth_of c) (node_tree bank n)
    by (Node.Rel i) o = tt
    by (Node.Var x) o = absurd o
    by (Node.Sort q) o = tt
    by (Node.Prod x a b) o = tt
    by (Node.Lam x a b) o = tt
    by (Node.Let x v a b) o = tt
    by (Node.App f a) o = tt
    by (Node.Const x) o = tt
    by (Node.Ind x) o = tt
    by (Node.Ctor x i) o = tt
    by (Node.Elim x q) o = tt
    by (Node.Evar n ts) o = absurd o

-- a term that holds no variable
module _ (bank : Terms) (s : TreeStore) (ls : List Link) (c : Closure) (b : Bool) (none : b ≡ holds_unknown (tree_of bank c.term)) (not_held : b ≡ false) where
  reads_plain : as_read s (tree_of bank c.term) ≡ tree_of bank c.term
  reads_plain = plain_read s.variables s.values (tree_of bank c.term) (sym none ∙ not_held)

  pub alone_plain : c.around ≡ Around.Nothing → c.base ≡ 0 → closure_tree bank s ls c ≡ tree_of bank c.term
  alone_plain a d =
      ap (placed s (scope_of bank ls c.around) c.base c.under) reads_plain
      ∙ ap₂ (λ z i. placed s (scope_of bank ls z) i c.under (tree_of bank c.term)) a d
      ∙ alone s c.under (tree_of bank c.term)

  pub closed_plain : (n : ℕ) → n ≡ loose (tree_of bank c.term) → n ≤ c.under → (k : Bool) → k ≡ holds_hypothesis (tree_of bank c.term) → k ≡ false → closure_tree bank s ls c ≡ tree_of bank c.term
  closed_plain n e l k f g =
      ap (placed s (scope_of bank ls c.around) c.base c.under) reads_plain
      ∙ stays_in s (scope_of bank ls c.around) c.base c.under (tree_of bank c.term) (omega (arith, e)) (sym f ∙ g)

-- pairs past the end of the second list
no_pairs : (cs : List Closure) → paired cs [] ≡ []
no_pairs [] = refl
no_pairs (c ∷ cs) = refl

pub paired_past : (work : List Pair) (cs ds : List Closure) (i : ℕ) → length ds ≤ i → work ≡ work ++ paired (drop i cs) (drop i ds)
paired_past work cs ds i h = sym (ap (λ z. work ++ paired (drop i cs) z) (drop_past i ds h) ∙ ap (λ z. work ++ z) (no_pairs (drop i cs)) ∙ append-nil work)
