-- A head variable with a value, and its value at its instance, by places of the bank.
use Rattle.std.proofs.Common.{◌≡◌, ◌<◌, ◌∙◌, ℕ, refl, sym, ap, ap₂, arith, List, [], ◌∷◌, map, length, Option, Some, None}
use Rattle.std.proofs.Common.{subst as along}
use Rattle.std.specs.Prelude.{zip, option_map}
use Rattle.std.specs.List.{AllByRecursion}
use Rattle.std.proofs.lemmas.List.{length-map}
use Rattle.lq_trees.specs.Tree.{Tree, Trees}
use Rattle.lq_trees.specs.Tree.Tree.{Rel, Var, Sort, Prod, Lam, Let, App, Const, Ind, Ctor, Elim, Evar}
use Rattle.lq_trees.specs.Change.{put, instance}
use Rattle.lq_trees.specs.Index.{Within, EachWithin}
use Rattle.lq_trees.specs.Reading.{Value}
use Rattle.lq_terms.specs.declared.nodes.Hypothesis.{Hypothesis}
use Rattle.lq_terms.specs.declared.nodes.Node.{Node}
use Rattle.lq_terms.specs.declared.nodes.TermId.{TermId}
use Rattle.lq_terms.specs.Terms.{Terms, HasTerm, IsTerm, Grows, node_tree, text_of, tree_of, trees_by}
use Rattle.lq_terms.specs.Contexts.{HasContext}
use Rattle.lq_terms.specs.Changes.{bindings, HasHypothesis}
use Rattle.lq_terms.specs.Telling.{values_in}
use Rattle.lq_calculus.specs.Contraction.{spine, apply}
use Rattle.lq_solving.specs.Stores.{Variable, Assigned, Store, body_at, names_at, find_value, value_told, values_of, told_of, read}
use Rattle.lq_solving.specs.Kept.{IsOver, IsStore}
use Rattle.lq_solving.proofs.ReadLaws.{given_over}
use Rattle.lq_evars.specs.Places.{Places, store_of, body_at as kept_at}
use Rattle.lq_unify.specs.Heads.{HasOpenHead, IsHead, head_rank}
use Rattle.lq_unify.specs.Solutions.{AreClosed}
use Rattle.lq_unify.specs.Exposing.{IsOfStore, IsHeadValue, IsUnfolded}
use Rattle.lq_unify.proofs.PartLaws.{entries_map}
use Rattle.lq_unify.proofs.ExposeLaws.{IsClosedOver, spine_over, open_spine, body_over, unfolds}

-- the head of a term is no application
pub spine_head : (t : Tree) (args : List Tree) → IsHead (spine t args).0
unfolding spine
spine_head (App f a) args = spine_head f (a ∷ args)
spine_head (Rel j) args = tt
spine_head (Var x) args = tt
spine_head (Sort u) args = tt
spine_head (Prod x A B) args = tt
spine_head (Lam x A B) args = tt
spine_head (Let x v A B) args = tt
spine_head (Const c) args = tt
spine_head (Ind c) args = tt
spine_head (Ctor c m) args = tt
spine_head (Elim c u) args = tt
spine_head (Evar m ts) args = tt

-- a head that is no variable is open
pub other_open : (bank : Terms) (as_ : List Assigned) (node : Node) (t : TermId) → node_tree bank node ≡ tree_of bank t → ((n : ℕ) (ts : List TermId) → node ≡ Node.Evar n ts → ⊥) → IsHead (tree_of bank t) → HasOpenHead as_ (tree_of bank t)
other_open bank as_ (Node.Rel i) t e h k = along (HasOpenHead as_) e tt
other_open bank as_ (Node.Var x) t e h k = along (HasOpenHead as_) e tt
other_open bank as_ (Node.Sort s) t e h k = along (HasOpenHead as_) e tt
other_open bank as_ (Node.Prod x a b) t e h k = along (HasOpenHead as_) e tt
other_open bank as_ (Node.Lam x a b) t e h k = along (HasOpenHead as_) e tt
other_open bank as_ (Node.Let x v a b) t e h k = along (HasOpenHead as_) e tt
other_open bank as_ (Node.App f a) t e h k = absurd (along IsHead (sym e) k)
other_open bank as_ (Node.Const x) t e h k = along (HasOpenHead as_) e tt
other_open bank as_ (Node.Ind x) t e h k = along (HasOpenHead as_) e tt
other_open bank as_ (Node.Ctor x m) t e h k = along (HasOpenHead as_) e tt
other_open bank as_ (Node.Elim x s) t e h k = along (HasOpenHead as_) e tt
other_open bank as_ (Node.Evar n ts) t e h k = absurd (h n ts refl)

some_value : {a b : Value} → Some a ≡ Some b → a ≡ b
some_value {a} e = ap (λ o. elim o [ Some x ↦ x | None ↦ a ]) e

-- what is told of a variable without a value, and of one with a value
told_none : (vs : List Variable) (n : ℕ) (o : Option Tree) → None ≡ value_told vs n o → o ≡ None
unfolding value_told
told_none vs n None e = refl
told_none vs n (Some b) e = absurd (grind arith)

told_some : (vs : List Variable) (n : ℕ) (o : Option Tree) (v : Value) → Some v ≡ value_told vs n o → (o ≡ Some v.body) × (names_at vs n ≡ v.names)
unfolding value_told
told_some vs n None v e = absurd (grind arith)
told_some vs n (Some b) v e = let q = some_value e in (ap (λ w. Some w.body) (sym q), sym (ap (λ w. w.names) q))

pub bindings_zip : (bank : Terms) (hs : List Hypothesis) (ts : List TermId) → bindings bank hs ts ≡ zip (map (λ h. text_of bank h.name) hs) (map (tree_of bank) ts)
bindings_zip bank [] ts = refl
bindings_zip bank (h ∷ hs) [] = refl
bindings_zip bank (h ∷ hs) (t ∷ ts) = ap (λ ps. (text_of bank h.name, tree_of bank t) ∷ ps) (bindings_zip bank hs ts)

pub context_names : (bank : Terms) (hs : List Hypothesis) → HasContext bank hs → AllByRecursion (HasHypothesis bank) hs
context_names bank [] h = tt
context_names bank (y ∷ hs) h = (h.0.name, context_names bank hs h.1)

each_closed : (bank : Terms) (ts : List TermId) → EachWithin 0 (trees_by (tree_of bank) ts) → AreClosed bank ts
each_closed bank [] h = tt
each_closed bank (t ∷ ts) h = (h.0, each_closed bank ts h.1)

module _ (bank : Terms) (s : Places) (i : IsStore (store_of bank s)) (n : ℕ) (told : values_in bank (kept_at s) n ≡ values_of (store_of bank s) n) where
  -- a variable of which nothing is kept has no value
  pub none_kept : kept_at s n ≡ None → find_value (store_of bank s).values n ≡ None
  unfolding values_of told_of
  none_kept e = told_none (store_of bank s).variables n (find_value (store_of bank s).values n) (ap (λ o. option_map (λ v. record { names = map (λ h. text_of bank h.name) v.0; body = tree_of bank v.1 }) o) (sym e) ∙ told)

  pub open_kept : (T : Tree) (ts : Trees) → T ≡ Evar n ts → kept_at s n ≡ None → HasOpenHead (store_of bank s).values T
  open_kept T ts q e = along (HasOpenHead (store_of bank s).values) (sym q) (none_kept e)

  module _ (hs : List Hypothesis) (v : TermId) (e : kept_at s n ≡ Some (hs, v)) where
    pub told_is : (find_value (store_of bank s).values n ≡ Some (tree_of bank v)) × (names_at (store_of bank s).variables n ≡ map (λ h. text_of bank h.name) hs)
    unfolding values_of told_of
    told_is =
        told_some (store_of bank s).variables n (find_value (store_of bank s).values n) (record { names = map (λ h. text_of bank h.name) hs; body = tree_of bank v })
        (ap (λ o. option_map (λ w. record { names = map (λ h. text_of bank h.name) w.0; body = tree_of bank w.1 }) o) (sym e) ∙ told)

    module _ (T : Tree) (ts : List TermId) (is : T ≡ Evar n (trees_by (tree_of bank) ts)) (over : IsOver (store_of bank s).variables T) (within : Within 0 T) where
      parts_over : IsOver (store_of bank s).variables (Evar n (trees_by (tree_of bank) ts))
      parts_over = along (IsOver (store_of bank s).variables) is over

      parts_within : EachWithin 0 (trees_by (tree_of bank) ts)
      parts_within = along (Within 0) is within

      pub as_many : length hs ≡ length ts
      as_many =
          sym (ap length told_is.1 ∙ length-map hs (λ h. text_of bank h.name))
          ∙ sym parts_over.1 ∙ ap length (entries_map bank ts) ∙ length-map ts (tree_of bank)

      pub entries_closed : AreClosed bank ts
      entries_closed = each_closed bank ts parts_within

      value_over : IsClosedOver (store_of bank s).variables (body_at (names_at (store_of bank s).variables n) (tree_of bank v) (trees_by (tree_of bank) ts))
      value_over =
          body_over (store_of bank s).variables (names_at (store_of bank s).variables n) (tree_of bank v) (trees_by (tree_of bank) ts)
          (given_over (store_of bank s).variables (store_of bank s).values i.values n (tree_of bank v) told_is.0) parts_over.2 parts_within

      value_is : instance (bindings bank hs ts) (tree_of bank v) ≡ body_at (names_at (store_of bank s).variables n) (tree_of bank v) (trees_by (tree_of bank) ts)
      unfolding body_at
      value_is = ap (λ ps. put ps 0 (tree_of bank v)) (bindings_zip bank hs ts ∙ ap₂ zip (sym told_is.1) (sym (entries_map bank ts)))

      pub head_value : (new : Terms) (u : TermId) → IsTerm new u (instance (bindings bank hs ts) (tree_of bank v)) → IsHeadValue (store_of bank s) T new u
      head_value new u made = record {
        number = n;
        entries = trees_by (tree_of bank) ts;
        body = tree_of bank v;
        head_is = is;
        found = told_is.0;
        is = record { has = made.has; is = made.is ∙ value_is };
        over = value_over.0;
        within = value_over.1;
      }

-- ---- the whole term

each_grown : (old new : Terms) → Grows old new → (ts : List TermId) → AllByRecursion (HasTerm old) ts → map (tree_of new) ts ≡ map (tree_of old) ts
each_grown old new g [] h = refl
each_grown old new g (t ∷ ts) h = ap₂ (λ u us. u ∷ us) (g.tree t h.0) (each_grown old new g ts h.1)

pub unfolded_is : (s : Store) → IsStore s → (old mid new : Terms) → Grows old mid → (term head u v : TermId) (args : List TermId) → IsOfStore old s term → spine (tree_of old term) [] ≡ (tree_of old head, map (tree_of old) args) →
    AllByRecursion (HasTerm old) args → IsHeadValue s (tree_of old head) mid u → IsTerm new v (apply (tree_of mid u) (map (tree_of mid) args)) → IsUnfolded s (tree_of old term) new v
unfolded_is s i old mid new g term head u v args of e has h made =
    let k = unfolds s i (tree_of old term) (of.over, of.within) (tree_of old head) (map (tree_of old) args) e h.number h.entries h.head_is h.body h.found (h.over, h.within) in
    let is : tree_of new v ≡ apply (body_at (names_at s.variables h.number) h.body h.entries) (map (tree_of old) args) = made.is ∙ ap₂ apply h.is.is (each_grown old mid g args has) in record {
      term = record { has = made.has; over = along (IsOver s.variables) (sym is) k.over.0; within = along (Within 0) (sym is) k.over.1 };
      reads = ap (read s) is ∙ k.reads;
      falls = along (λ z. head_rank s.values z < head_rank s.values (tree_of old term)) (sym is) k.falls;
    }

-- the head of a term, of which more is known
pub head_of_store : (bank : Terms) (s : Store) (term head : TermId) (args : List Tree) → IsOfStore bank s term → spine (tree_of bank term) [] ≡ (tree_of bank head, args) → HasTerm bank head → IsOfStore bank s head
head_of_store bank s term head args of e h =
    let q : IsClosedOver s.variables (tree_of bank head) = along (λ p. IsClosedOver s.variables p.0) e (spine_over s.variables (tree_of bank term) [] (of.over, of.within) tt).0 in
    record { has = h; over = q.0; within = q.1 }

pub whole_open : (bank : Terms) (as_ : List Assigned) (term head : TermId) (args : List Tree) → spine (tree_of bank term) [] ≡ (tree_of bank head, args) → (IsHead (tree_of bank head) → HasOpenHead as_ (tree_of bank head)) → HasOpenHead as_ (tree_of bank term)
whole_open bank as_ term head args e h =
    open_spine as_ (tree_of bank term) [] (along (λ p. HasOpenHead as_ p.0) (sym e) (h (along (λ p. IsHead p.0) e (spine_head (tree_of bank term) []))))
