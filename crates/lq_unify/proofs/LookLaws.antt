-- An item of what is left to look at is done, and what was asked stays asked.
use Rattle.std.proofs.Common.{◌≡◌, ◌<◌, ◌∙◌, inl, inr, ℕ, refl, sym, ap, ap₂, arith, List, [], ◌∷◌, ◌++◌, map, append_assoc, append-nil, Result, Ok, Err, Option, Some, None}
use Rattle.std.proofs.Common.{subst as along}
use Rattle.std.specs.Prelude.{OnOk, IfSome, option_map}
use Rattle.std.specs.List.{AllByRecursion}
use Rattle.lq_trees.specs.Tree.{Tree, Trees}
use Rattle.lq_trees.specs.Tree.Tree.{Rel, Var, Sort, Prod, Lam, Let, App, Const, Ind, Ctor, Elim, Evar}
use Rattle.lq_terms.specs.declared.nodes.NoMemory.{NoMemory}
use Rattle.lq_terms.specs.declared.nodes.Node.{Node}
use Rattle.lq_terms.specs.declared.nodes.TermId.{TermId}
use Rattle.lq_terms.specs.Terms.{Terms, HasTerm, node_tree, tree_of}
use Rattle.lq_terms.proofs.Builds.{all_front, all_back, all_both}
use Rattle.lq_solving.specs.Stores.{Variable, Assigned, Store, find_value, value}
use Rattle.lq_solving.specs.Kept.{IsOver, IsStore, Sound}
use Rattle.lq_evars.specs.Reading.{Item, visits, builds, tree_in, IsIn, finish, AreReady, weight, weights, Covers, with_term}
use Rattle.lq_evars.specs.Places.{Places, store_of, value_at, HasStore}
use Rattle.lq_evars.proofs.Lookups.{values_told}
use Rattle.lq_evars.proofs.ValueRead.{value_has}
use Rattle.lq_evars.proofs.Walks.{value_some}
use Rattle.lq_evars.specs.Turns.{parts_of as needed_of, with_value}
use Rattle.lq_evars.proofs.Steps.{in_back, finish_covers, are_ready_covers, finish-append, ready-front, ready-back, ready-append, weights-append, all_visits, visits-finish, visits-ready, visits-weigh, parts_in, parts_over, one_item}
use Rattle.lq_evars.proofs.TurnLaws.{parts_fewer}
use Rattle.lq_unify.specs.declared.holding.Holding.{Holding}
use Rattle.lq_unify.specs.declared.holding.Look.{Look}
use Rattle.lq_unify.specs.Parts.{parts_of}
use Rattle.lq_unify.specs.Holding.{AreHeld, trees_held, look_of, looks_of, looked_at, IsTermOf, Looking, Looked, Known, value_in_head, PutsValue, AsksFor}

pub looks-append : (bank : Terms) (ws added : List Look) → looks_of bank (ws ++ added) ≡ looks_of bank ws ++ looks_of bank added
looks-append bank [] added = refl
looks-append bank (w ∷ ws) added = ap (λ us. look_of bank w ∷ us) (looks-append bank ws added)

visits-looks : (bank : Terms) (ts : List TermId) → looks_of bank (map Look.Visit ts) ≡ all_visits (map (tree_of bank) ts)
visits-looks bank [] = refl
visits-looks bank (t ∷ ts) = ap (λ us. visits (tree_of bank t) ∷ us) (visits-looks bank ts)

looks_placed : (bank : Terms) (vs : List Variable) (ts : List TermId) → AllByRecursion (HasTerm bank) ts → AllByRecursion (IsOver vs) (map (tree_of bank) ts) → AllByRecursion (λ w. IsTermOf bank vs (looked_at w)) (map Look.Visit ts)
looks_placed bank vs [] h k = tt
looks_placed bank vs (t ∷ ts) h k = (record { has = h.0; over = k.0 }, looks_placed bank vs ts h.1 k.1)

module _ (bank : Terms) (s : Store) (sound : Sound s.variables s.values) (k : ℕ) where
  abbrev Placed : Look → Type 0
  Placed w = IsTermOf bank s.variables (looked_at w)

  positive : (w : Look) → 0 < weight s.values (look_of bank w)
  positive (Look.Visit t) = omega (arith, parts_fewer s.variables s.values sound (tree_of bank t))
  positive (Look.Build t) = omega arith

  term_is : (w : Look) → tree_in (look_of bank w) ≡ tree_of bank (looked_at w)
  term_is (Look.Visit t) = refl
  term_is (Look.Build t) = refl

  module _ (ws : List Look) (known : List (TermId × Holding)) where
    pub look_has : (w : Look) → Looking bank s k (ws ++ w ∷ []) known → IsTermOf bank s.variables (looked_at w)
    look_has w r = let last : AllByRecursion Placed (w ∷ []) = all_back Placed ws (w ∷ []) r.placed in last.0

    -- an item was done, by what is known then
    pub look_done : (w : Look) (later : List (TermId × Holding)) → Looking bank s k (ws ++ w ∷ []) known → AreHeld bank s k later → Covers (tree_of bank (looked_at w) ∷ trees_held bank known) (trees_held bank later) →
        Looked bank s k (ws ++ w ∷ []) ws known later
    look_done w later r are c =
        let split : looks_of bank (ws ++ w ∷ []) ≡ looks_of bank ws ++ look_of bank w ∷ [] = looks-append bank ws (w ∷ []) in
        let covered : Covers (tree_in (look_of bank w) ∷ trees_held bank known) (trees_held bank later) = along (λ t. Covers (t ∷ trees_held bank known) (trees_held bank later)) (sym (term_is w)) c in
        let before : AreReady s.values (looks_of bank ws ++ look_of bank w ∷ []) (trees_held bank known) = along (λ z. AreReady s.values z (trees_held bank known)) split r.ready in
        record {
          looking = record {
            placed = all_front Placed ws (w ∷ []) r.placed;
            ready = are_ready_covers s.values (looks_of bank ws) (tree_in (look_of bank w) ∷ trees_held bank known) (trees_held bank later) covered (ready-front s.values (looks_of bank ws) (look_of bank w ∷ []) (trees_held bank known) before);
            held = are;
          };
          covers = λ t h. finish_covers (looks_of bank ws) (tree_in (look_of bank w) ∷ trees_held bank known) (trees_held bank later) covered t
              (along (λ z. IsIn t z) (ap (λ z. finish z (trees_held bank known)) split ∙ finish-append (looks_of bank ws) (look_of bank w ∷ []) (trees_held bank known)) h);
          falls = omega (arith, ap (weights s.values) split, one_item (look_of bank w) s.values (positive w) (looks_of bank ws));
        }

    pub done_if : (w : Look) (later : List (TermId × Holding)) (o : Result (Unit {0}) NoMemory) → Looking bank s k (ws ++ w ∷ []) known → OnOk o (AreHeld bank s k later) →
        OnOk o (Covers (tree_of bank (looked_at w) ∷ trees_held bank known) (trees_held bank later)) → OnOk o (Looked bank s k (ws ++ w ∷ []) ws known later)
    done_if w later (Ok v) r are c = look_done w later r are c
    done_if w later (Err e) r are c = tt

    -- a term of which it is known what it holds
    pub known_done : (t : TermId) → Looking bank s k (ws ++ Look.Visit t ∷ []) known → IsIn (tree_of bank t) (trees_held bank known) → Looked bank s k (ws ++ Look.Visit t ∷ []) ws known known
    known_done t r i = look_done (Look.Visit t) known r r.held (λ u h. by u h)
      where
        by : (u : Tree) → IsIn u (tree_of bank t ∷ trees_held bank known) → IsIn u (trees_held bank known)
        by u (inl e) = along (λ z. IsIn z (trees_held bank known)) (sym e) i
        by u (inr h) = h

    -- a term is put off until its parts are known
    pub look_open : (t : TermId) (left : List Look) → Looking bank s k (ws ++ Look.Visit t ∷ []) known → AsksFor bank s.values (ws ++ Look.Build t ∷ []) left (tree_of bank t) →
        Looked bank s k (ws ++ Look.Visit t ∷ []) left known known
    look_open t left r a =
        let as_ : List Assigned = s.values in
        let T : Tree = tree_of bank t in
        let K : List Tree = trees_held bank known in
        let W : List Item = looks_of bank ws in
        let front : AllByRecursion Placed ws = all_front Placed ws (Look.Visit t ∷ []) r.placed in
        let back : AllByRecursion Placed (Look.Visit t ∷ []) = all_back Placed ws (Look.Visit t ∷ []) r.placed in
        let split : looks_of bank (ws ++ Look.Visit t ∷ []) ≡ W ++ visits T ∷ [] = looks-append bank ws (Look.Visit t ∷ []) in
        let before : AreReady as_ (W ++ visits T ∷ []) K = along (λ z. AreReady as_ z K) split r.ready in
        let parts : looks_of bank (map Look.Visit a.added) ≡ all_visits (needed_of as_ T) = visits-looks bank a.added ∙ ap all_visits a.are in
        let first : looks_of bank (ws ++ Look.Build t ∷ []) ≡ W ++ builds T ∷ [] = looks-append bank ws (Look.Build t ∷ []) in
        let after : looks_of bank left ≡ (W ++ builds T ∷ []) ++ all_visits (needed_of as_ T) =
        ap (looks_of bank) a.longer ∙ looks-append bank (ws ++ Look.Build t ∷ []) (map Look.Visit a.added) ∙ ap₂ (λ x y. x ++ y) first parts in
        let over : AllByRecursion (IsOver s.variables) (needed_of as_ T) = parts_over s.variables as_ sound T back.0.over in
        let works : AllByRecursion Placed (map Look.Visit a.added) = looks_placed bank s.variables a.added a.has (along (AllByRecursion (IsOver s.variables)) (sym a.are) over) in
        let P : List Tree = needed_of as_ T ++ K in
        let built : finish (all_visits (needed_of as_ T)) K ≡ P = visits-finish (needed_of as_ T) K in
        let covered : Covers (T ∷ K) (T ∷ P) = λ u h. by u h in
        let inner : AreReady as_ (W ++ builds T ∷ []) P =
        ready-append as_ W (builds T ∷ []) P (are_ready_covers as_ W (T ∷ K) (T ∷ P) covered (ready-front as_ W (visits T ∷ []) K before)) (tt, parts_in (needed_of as_ T) K) in
        let ready : AreReady as_ ((W ++ builds T ∷ []) ++ all_visits (needed_of as_ T)) K =
        ready-append as_ (W ++ builds T ∷ []) (all_visits (needed_of as_ T)) K (along (AreReady as_ (W ++ builds T ∷ [])) (sym built) inner) (visits-ready as_ (needed_of as_ T) K) in
        let ends : finish (looks_of bank left) K ≡ finish W (T ∷ P) =
        ap (λ z. finish z K) after ∙ finish-append (W ++ builds T ∷ []) (all_visits (needed_of as_ T)) K ∙ ap (finish (W ++ builds T ∷ [])) built ∙ finish-append W (builds T ∷ []) P in
        let began : finish (looks_of bank (ws ++ Look.Visit t ∷ [])) K ≡ finish W (T ∷ K) = ap (λ z. finish z K) split ∙ finish-append W (visits T ∷ []) K in
        record {
          looking = record {
            placed = along (AllByRecursion Placed) (sym a.longer)
                (all_both Placed (ws ++ Look.Build t ∷ []) (map Look.Visit a.added) (all_both Placed ws (Look.Build t ∷ []) front (record { has = back.0.has; over = back.0.over }, tt)) works);
            ready = along (λ z. AreReady as_ z K) (sym after) ready;
            held = r.held;
          };
          covers = λ u h. along (IsIn u) (sym ends) (finish_covers W (T ∷ K) (T ∷ P) covered u (along (IsIn u) began h));
          falls = omega (
            arith,
            ap (weights as_) after,
            ap (weights as_) split,
            weights-append as_ (W ++ builds T ∷ []) (all_visits (needed_of as_ T)),
            weights-append as_ W (builds T ∷ []),
            weights-append as_ W (visits T ∷ []),
            visits-weigh as_ (needed_of as_ T),
            parts_fewer s.variables as_ sound T,
          );
        }
      where
        by : (u : Tree) → IsIn u (tree_of bank t ∷ trees_held bank known) → IsIn u (tree_of bank t ∷ needed_of s.values (tree_of bank t) ++ trees_held bank known)
        by u (inl e) = inl e
        by u (inr h) = inr (in_back u (needed_of s.values (tree_of bank t)) (trees_held bank known) h)

    pub open_if : (t : TermId) (left : List Look) (o : Result (Unit {0}) NoMemory) → Looking bank s k (ws ++ Look.Visit t ∷ []) known → OnOk o (AsksFor bank s.values (ws ++ Look.Build t ∷ []) left (tree_of bank t)) →
        OnOk o (Looked bank s k (ws ++ Look.Visit t ∷ []) left known known)
    open_if t left (Ok v) r a = look_open t left r a
    open_if t left (Err e) r a = tt

    -- a term whose parts were looked at finds them
    pub build_finds : (w : Look) (t : TermId) → w ≡ Look.Build t → Looking bank s k (ws ++ w ∷ []) known → Known bank s k known t
    build_finds w t e r = by (along (λ z. Looking bank s k (ws ++ z ∷ []) known) e r)
      where
        by : Looking bank s k (ws ++ Look.Build t ∷ []) known → Known bank s k known t
        by q =
            let last : AreReady s.values (builds (tree_of bank t) ∷ []) (trees_held bank known) =
            ready-back s.values (looks_of bank ws) (builds (tree_of bank t) ∷ []) (trees_held bank known) (along (λ z. AreReady s.values z (trees_held bank known)) (looks-append bank ws (Look.Build t ∷ [])) q.ready) in
            record { term = look_has (Look.Build t) q; held = q.held; parts = last.1 }

    pub built_if : (w : Look) (t : TermId) (later : List (TermId × Holding)) (o : Result (Unit {0}) NoMemory) → w ≡ Look.Build t → Looking bank s k (ws ++ w ∷ []) known → OnOk o (AreHeld bank s k later) →
        OnOk o (Covers (tree_of bank t ∷ trees_held bank known) (trees_held bank later)) → OnOk o (Looked bank s k (ws ++ w ∷ []) ws known later)
    built_if w t later o e r are c =
        along (λ z. OnOk o (Looked bank s k (ws ++ z ∷ []) ws known later)) (sym e)
        (done_if (Look.Build t) later o (along (λ z. Looking bank s k (ws ++ z ∷ []) known) e r) are c)

-- a term is all that is left
pub looking_first : (bank : Terms) (s : Store) (k : ℕ) (t : TermId) → HasTerm bank t → IsOver s.variables (tree_of bank t) → Looking bank s k (Look.Visit t ∷ []) []
looking_first bank s k t h o = record { placed = (record { has = h; over = o }, tt); ready = (tt, tt); held = tt }

-- ---- parts and the value

pub needed_is : (as_ : List Assigned) (t : Tree) → with_value (value_in_head as_ t) (parts_of t) ≡ needed_of as_ t
unfolding parts_of
needed_is as_ (Rel i) = refl
needed_is as_ (Var x) = refl
needed_is as_ (Sort s) = refl
needed_is as_ (Prod x A B) = refl
needed_is as_ (Lam x A t) = refl
needed_is as_ (Let x v A t) = refl
needed_is as_ (App f a) = refl
needed_is as_ (Const c) = refl
needed_is as_ (Ind c) = refl
needed_is as_ (Ctor c k) = refl
needed_is as_ (Elim c s) = refl
needed_is as_ (Evar n ts) = refl

pub asks_for : (bank : Terms) (as_ : List Assigned) (old mid new : List Look) (t : Tree) (parts : List TermId) → PutsValue bank as_ old mid t → new ≡ mid ++ map Look.Visit parts → AllByRecursion (HasTerm bank) parts →
    map (tree_of bank) parts ≡ parts_of t → AsksFor bank as_ old new t
asks_for bank as_ old mid new t parts p e has are = by p.value p.longer p.has p.is
  where
    by : (o : Option TermId) → mid ≡ old ++ map Look.Visit (with_term o []) → IfSome o (HasTerm bank) → option_map (tree_of bank) o ≡ value_in_head as_ t → AsksFor bank as_ old new t
    by None f h i = record {
      added = parts;
      longer = e ∙ ap (λ z. z ++ map Look.Visit parts) (f ∙ append-nil old);
      has = has;
      are = are ∙ ap (λ o. with_value o (parts_of t)) i ∙ needed_is as_ t;
    }
    by (Some v) f h i = record {
      added = v ∷ parts;
      longer = e ∙ ap (λ z. z ++ map Look.Visit parts) f ∙ append_assoc old (Look.Visit v ∷ []) (map Look.Visit parts);
      has = (h, has);
      are = ap (λ ts. tree_of bank v ∷ ts) are ∙ ap (λ o. with_value o (parts_of t)) i ∙ needed_is as_ t;
    }

pub asks_if : (bank : Terms) (as_ : List Assigned) (old mid new : List Look) (t : Tree) (parts : List TermId) (o : Result (Unit {0}) NoMemory) → PutsValue bank as_ old mid t → OnOk o (new ≡ mid ++ map Look.Visit parts) → AllByRecursion (HasTerm bank) parts →
    map (tree_of bank) parts ≡ parts_of t → OnOk o (AsksFor bank as_ old new t)
asks_if bank as_ old mid new t parts (Ok v) p e has are = asks_for bank as_ old mid new t parts p e has are
asks_if bank as_ old mid new t parts (Err x) p e has are = tt

-- the value of a variable was put on
pub puts_some : (bank : Terms) (s : Places) → HasStore bank s → IsStore (store_of bank s) → (old new : List Look) (T : Tree) (n : ℕ) (ts : Trees) → T ≡ Evar n ts → (v : TermId) → value_at s n ≡ Some v →
    new ≡ old ++ Look.Visit v ∷ [] → PutsValue bank (store_of bank s).values old new T
puts_some bank s h i old new T n ts is v e f = record {
  value = Some v;
  longer = f;
  has = value_has bank s.values n v h.values e;
  is = sym (value_some bank s h i n v e) ∙ sym (ap (value_in_head (store_of bank s).values) is);
}

pub puts_none : (bank : Terms) (s : Places) → IsStore (store_of bank s) → (old : List Look) (T : Tree) (n : ℕ) (ts : Trees) → T ≡ Evar n ts → value_at s n ≡ None → PutsValue bank (store_of bank s).values old old T
unfolding value find_value
puts_none bank s i old T n ts is e = record {
  value = None;
  longer = sym (append-nil old);
  has = tt;
  is = sym (sym (values_told bank s n i) ∙ ap (option_map (tree_of bank)) e) ∙ sym (ap (value_in_head (store_of bank s).values) is);
}

pub puts_other : (bank : Terms) (as_ : List Assigned) (old : List Look) (node : Node) (t : TermId) → node_tree bank node ≡ tree_of bank t → ((n : ℕ) (ts : List TermId) → node ≡ Node.Evar n ts → ⊥) → PutsValue bank as_ old old (tree_of bank t)
puts_other bank as_ old node t e h = record {
  value = None;
  longer = sym (append-nil old);
  has = tt;
  is = by node h ∙ ap (value_in_head as_) e;
}
  where
    by : (d : Node) → ((n : ℕ) (ts : List TermId) → d ≡ Node.Evar n ts → ⊥) → ◌≡◌ {A = Option Tree} None (value_in_head as_ (node_tree bank d))
    by (Node.Rel i) k = refl
    by (Node.Var x) k = refl
    by (Node.Sort q) k = refl
    by (Node.Prod x a b) k = refl
    by (Node.Lam x a b) k = refl
    by (Node.Let x v a b) k = refl
    by (Node.App f a) k = refl
    by (Node.Const x) k = refl
    by (Node.Ind x) k = refl
    by (Node.Ctor x i) k = refl
    by (Node.Elim x q) k = refl
    by (Node.Evar n ts) k = absurd (k n ts refl)

-- a turn of the loop
module _ (bank : Terms) (s : Store) (k : ℕ) (ws rest left : List Look) (w : Look) (known more : List (TermId × Holding)) (e : ws ≡ rest ++ w ∷ []) (d : Looked bank s k (rest ++ w ∷ []) left known more) where
  pub turn_lighter : weights s.values (looks_of bank left) < weights s.values (looks_of bank ws)
  turn_lighter = along (λ z. weights s.values (looks_of bank left) < weights s.values (looks_of bank z)) (sym e) d.falls

  pub turn_covers : (t : Tree) → IsIn t (finish (looks_of bank ws) (trees_held bank known)) → IsIn t (finish (looks_of bank left) (trees_held bank more))
  turn_covers t i = d.covers t (along (λ z. IsIn t (finish (looks_of bank z) (trees_held bank known))) e i)
