-- What a look at a term finds is what the calls ask.
use Rattle.std.proofs.Common.{◌≡◌, ◌≤◌, ◌<◌, ◌+◌, ◌∙◌, ℕ, suc, refl, sym, ap, arith, eqb, eqb-true, Bool, true, false, ◌||◌, List, [], ◌∷◌, ◌++◌, length, get_or, drop, Option, Some, None}
use Rattle.std.proofs.Common.{subst as along}
use Rattle.std.specs.Prelude.{option_map, slice_get, is_none}
use Rattle.std.proofs.lemmas.List.{drop_more, drop_all, length-map, map-append}
use Rattle.lq_trees.specs.Tree.{Name, Tree, Trees, none, more, same_name}
use Rattle.lq_trees.specs.Tree.Tree.{Rel, Var, Sort, Prod, Lam, Let, App, Const, Ind, Ctor, Elim, Evar}
use Rattle.lq_trees.specs.Fresh.{is_listed}
use Rattle.lq_trees.specs.Hypotheses.{HoldsOnly, EachHoldsOnly}
use Rattle.lq_trees.specs.Marks.{loose, holds_hypothesis, hold_hypothesis, holds_unknown}
use Rattle.lq_trees.specs.Reading.{entries}
use Rattle.lq_trees.proofs.MarkLaws.{or_left, or_right, or_first, or_second, or_third, within-loose}
use Rattle.lq_terms.specs.declared.nodes.Hypothesis.{Hypothesis}
use Rattle.lq_terms.specs.declared.nodes.TermId.{TermId}
use Rattle.lq_terms.specs.Terms.{Terms, text_of, tree_of, trees_by}
use Rattle.lq_terms.specs.Contexts.{HasAllOf, HasContext, context_of, hypothesis_of}
use Rattle.lq_solving.specs.Occurs.{holds_variable, holds_variable_in}
use Rattle.lq_solving.specs.Claims.{IsPlain}
use Rattle.lq_solving.specs.Stores.{Variable as TreeVariable, Assigned, find_value, value, names_at, names_in, read}
use Rattle.lq_solving.specs.Kept.{IsOver, IsContext, IsStore, IsValue, IsVariable, OptionStands, StandsIn}
use Rattle.lq_solving.proofs.DoneLaws.{IsDone, EachIsDone, done_leads}
use Rattle.lq_solving.proofs.FreeLaws.{both_false}
use Rattle.lq_solving.proofs.ReadLaws.{filled_holds}
use Rattle.lq_solving.proofs.ElabKept.{context_under}
use Rattle.lq_evars.specs.declared.store.Variable.{Variable}
use Rattle.lq_evars.specs.Places.{Places, store_of, variable_of}
use Rattle.lq_evars.proofs.Bodies.{names_told}
use Rattle.lq_evars.proofs.Lookups.{variable_told}
use Rattle.lq_evars.proofs.ValueRead.{there}
use Rattle.lq_unify_rows.specs.Declaring.{Declarations}
use Rattle.lq_unify_rows.specs.Scenes.{IsScene, IsSeen, EachIsSeen, BodyIsSeen, MayCome, Takes, IsFree, EachIsFree}

-- ---- terms without hypotheses and variables

pub plain_over : (vs : List TreeVariable) (t : Tree) → holds_unknown t ≡ false → IsOver vs t
plain_over vs (Rel i) e = tt
plain_over vs (Var x) e = tt
plain_over vs (Sort s) e = tt
plain_over vs (Prod x A B) e = (plain_over vs A (or_left _ _ e), plain_over vs B (or_right _ _ e))
plain_over vs (Lam x A B) e = (plain_over vs A (or_left _ _ e), plain_over vs B (or_right _ _ e))
plain_over vs (Let x v A B) e = (
  plain_over vs v (or_first (holds_unknown v) (holds_unknown A) (holds_unknown B) e),
  plain_over vs A (or_second (holds_unknown v) (holds_unknown A) (holds_unknown B) e),
  plain_over vs B (or_third (holds_unknown v) (holds_unknown A) (holds_unknown B) e),
)
plain_over vs (App f a) e = (plain_over vs f (or_left _ _ e), plain_over vs a (or_right _ _ e))
plain_over vs (Const c) e = tt
plain_over vs (Ind c) e = tt
plain_over vs (Ctor c i) e = tt
plain_over vs (Elim c s) e = tt
plain_over vs (Evar n ts) e = absurd (grind arith)

pub plain_free : (as_ : List Assigned) (k : ℕ) (t : Tree) → holds_unknown t ≡ false → IsFree as_ k t
plain_free as_ k (Rel i) e = tt
plain_free as_ k (Var x) e = tt
plain_free as_ k (Sort s) e = tt
plain_free as_ k (Prod x A B) e = (plain_free as_ k A (or_left _ _ e), plain_free as_ k B (or_right _ _ e))
plain_free as_ k (Lam x A B) e = (plain_free as_ k A (or_left _ _ e), plain_free as_ k B (or_right _ _ e))
plain_free as_ k (Let x v A B) e = (
  plain_free as_ k v (or_first (holds_unknown v) (holds_unknown A) (holds_unknown B) e),
  plain_free as_ k A (or_second (holds_unknown v) (holds_unknown A) (holds_unknown B) e),
  plain_free as_ k B (or_third (holds_unknown v) (holds_unknown A) (holds_unknown B) e),
)
plain_free as_ k (App f a) e = (plain_free as_ k f (or_left _ _ e), plain_free as_ k a (or_right _ _ e))
plain_free as_ k (Const c) e = tt
plain_free as_ k (Ind c) e = tt
plain_free as_ k (Ctor c i) e = tt
plain_free as_ k (Elim c s) e = tt
plain_free as_ k (Evar n ts) e = absurd (grind arith)

mutual
  pub plain_holds : (xs : List Name) (t : Tree) → holds_hypothesis t ≡ false → HoldsOnly xs t
  plain_holds xs (Rel i) e = tt
  plain_holds xs (Var x) e = absurd (grind arith)
  plain_holds xs (Sort s) e = tt
  plain_holds xs (Prod x A B) e = (plain_holds xs A (or_left _ _ e), plain_holds xs B (or_right _ _ e))
  plain_holds xs (Lam x A B) e = (plain_holds xs A (or_left _ _ e), plain_holds xs B (or_right _ _ e))
  plain_holds xs (Let x v A B) e = (
    plain_holds xs v (or_first (holds_hypothesis v) (holds_hypothesis A) (holds_hypothesis B) e),
    plain_holds xs A (or_second (holds_hypothesis v) (holds_hypothesis A) (holds_hypothesis B) e),
    plain_holds xs B (or_third (holds_hypothesis v) (holds_hypothesis A) (holds_hypothesis B) e),
  )
  plain_holds xs (App f a) e = (plain_holds xs f (or_left _ _ e), plain_holds xs a (or_right _ _ e))
  plain_holds xs (Const c) e = tt
  plain_holds xs (Ind c) e = tt
  plain_holds xs (Ctor c i) e = tt
  plain_holds xs (Elim c s) e = tt
  plain_holds xs (Evar n ts) e = each_plain_holds xs ts e

  pub each_plain_holds : (xs : List Name) (ts : Trees) → hold_hypothesis ts ≡ false → EachHoldsOnly xs ts
  each_plain_holds xs none e = tt
  each_plain_holds xs (more t ts) e = (plain_holds xs t (or_left _ _ e), each_plain_holds xs ts (or_right _ _ e))

pub plain_seen : (bank : Terms) (s : Places) (hs : List Hypothesis) (n depth : ℕ) (t : Tree) → holds_hypothesis t ≡ false → holds_unknown t ≡ false → n ≡ loose t → n ≤ depth → IsSeen bank s hs depth t
plain_seen bank s hs n depth t e f i l = (within-loose depth t (along (λ m. m ≤ depth) i l), plain_holds (names_in (context_of bank hs)) t e, plain_over (store_of bank s).variables t f)

-- what a constant may stand for
pub plain_closed : (n : ℕ) (t : Tree) → holds_hypothesis t ≡ false → holds_unknown t ≡ false → n ≡ loose t → n ≡ 0 → IsPlain 0 t
plain_closed n t e f i z = record { over = plain_over [] t f; within = within-loose 0 t (along (λ m. m ≤ 0) (sym z ∙ i) (omega arith)); holds = plain_holds [] t e }

-- ---- names of hypotheses

listed_next : (bank : Terms) (hs : List Hypothesis) (i : ℕ) (d : Hypothesis) (x : Name) → i < length hs
    → is_listed (names_in (context_of bank (drop i hs))) x ≡ (same_name (text_of bank (get_or hs i d).name) x || is_listed (names_in (context_of bank (drop (i + 1) hs))) x)
unfolding is_listed
listed_next bank hs i d x l = rw (drop_more hs i d l) refl

nothing_listed : (x : Name) → is_listed [] x ≡ false
unfolding is_listed
nothing_listed x = refl

module _ (bank : Terms) (hs : List Hypothesis) (i : ℕ) (d : Hypothesis) (x : Name) where
  pub listed_found : i < length hs → same_name (text_of bank (get_or hs i d).name) x ≡ true → is_listed (names_in (context_of bank hs)) x ≡ is_listed (names_in (context_of bank (drop i hs))) x
      → true ≡ is_listed (names_in (context_of bank hs)) x
  listed_found l e so_far = sym (so_far ∙ listed_next bank hs i d x l ∙ ap (λ b. b || is_listed (names_in (context_of bank (drop (i + 1) hs))) x) e)

  pub listed_passed : i < length hs → same_name (text_of bank (get_or hs i d).name) x ≡ false → is_listed (names_in (context_of bank hs)) x ≡ is_listed (names_in (context_of bank (drop i hs))) x
      → is_listed (names_in (context_of bank hs)) x ≡ is_listed (names_in (context_of bank (drop (i + 1) hs))) x
  listed_passed l e so_far = so_far ∙ listed_next bank hs i d x l ∙ ap (λ b. b || is_listed (names_in (context_of bank (drop (i + 1) hs))) x) e

  pub listed_nowhere : length hs ≤ i → is_listed (names_in (context_of bank hs)) x ≡ is_listed (names_in (context_of bank (drop i hs))) x → false ≡ is_listed (names_in (context_of bank hs)) x
  listed_nowhere l so_far = sym (so_far ∙ ap (λ ks. is_listed (names_in (context_of bank ks)) x) (drop_all i hs l) ∙ nothing_listed x)

-- ---- the variables of the store

-- the names of a variable's context
pub names_are : (bank : Terms) (s : Places) (n : ℕ) (hs : List Hypothesis) → n < length s.variables → ((v : Variable) → slice_get s.variables n ≡ Some v → hs ≡ v.context) → names_at (store_of bank s).variables n ≡ names_in (context_of bank hs)
unfolding names_at
names_are bank s n hs h at =
    let v = there s.variables n h in
    ap (λ (o : Option TreeVariable). elim o [ Some w ↦ names_in w.context | None ↦ [] ]) (variable_told bank s n v.0 v.1)
    ∙ ap (λ ks. names_in (context_of bank ks)) (sym (at v.0 v.1))

pub takes : (bank : Terms) (s : Places) (n many : ℕ) (hs : List Hypothesis) → n < length s.variables → ((v : Variable) → slice_get s.variables n ≡ Some v → hs ≡ v.context) → many ≡ length hs → Takes bank s n many
takes bank s n many hs h at e = (
  along (λ m. n < m) (sym (length-map s.variables (variable_of bank))) h,
  e ∙ sym (ap length (names_are bank s n hs h at ∙ sym (names_told bank hs)) ∙ length-map hs (λ k. text_of bank k.name)),
)

pub entries_many : (tree : TermId → Tree) (ts : List TermId) → length (entries (trees_by tree ts)) ≡ length ts
unfolding entries
entries_many tree [] = refl
entries_many tree (t ∷ ts) = ap suc (entries_many tree ts)

-- a variable with its entries
pub variable_seen : (bank : Terms) (s : Places) (hs : List Hypothesis) (depth n many : ℕ) (ts : List TermId) (t : Tree) → Evar n (trees_by (tree_of bank) ts) ≡ t → many ≡ length ts
    → Takes bank s n many → EachIsSeen bank s hs depth (trees_by (tree_of bank) ts) → IsSeen bank s hs depth t
variable_seen bank s hs depth n many ts t e m k h =
    along (IsSeen bank s hs depth) e (h.0, h.1, (k.0, entries_many (tree_of bank) ts ∙ sym m ∙ k.1, h.2))

pub no_value : (bank : Terms) (s : Places) (n : ℕ) (o : Option TermId) → is_none o ≡ true → option_map (tree_of bank) o ≡ value (store_of bank s) n → find_value (store_of bank s).values n ≡ None
unfolding value find_value
no_value bank s n None e f = sym f
no_value bank s n (Some t) e f = absurd (grind arith)

-- two numbers that differ
pub apart : (a b : ℕ) → (a ≡ b → ⊥) → eqb a b ≡ false
apart a b f = by (eqb a b) (eqb-true a b)
  where
    by : (o : Bool) → (o ≡ true → a ≡ b) → o ≡ false
    by true g = absurd (f (g refl))
    by false g = refl

-- ---- what is seen stands

pub seen_stands : (bank : Terms) (s : Places) (hs : List Hypothesis) (t : Tree) → IsStore (store_of bank s) → IsSeen bank s hs 0 t → StandsIn (store_of bank s) (context_of bank hs) t
unfolding read
seen_stands bank s hs t i h = record {
  over = h.2;
  within = h.0;
  holds = filled_holds (store_of bank s).variables (store_of bank s).values i.values (names_in (context_of bank hs)) t h.2 h.1;
}

mutual
  free_done : (as_ : List Assigned) (k : ℕ) (t : Tree) → IsFree as_ k t → IsDone as_ t
  free_done as_ k (Rel i) h = tt
  free_done as_ k (Var x) h = tt
  free_done as_ k (Sort s) h = tt
  free_done as_ k (Prod x A B) h = (free_done as_ k A h.0, free_done as_ k B h.1)
  free_done as_ k (Lam x A B) h = (free_done as_ k A h.0, free_done as_ k B h.1)
  free_done as_ k (Let x v A B) h = (free_done as_ k v h.0, free_done as_ k A h.1, free_done as_ k B h.2)
  free_done as_ k (App f a) h = (free_done as_ k f h.0, free_done as_ k a h.1)
  free_done as_ k (Const c) h = tt
  free_done as_ k (Ind c) h = tt
  free_done as_ k (Ctor c i) h = tt
  free_done as_ k (Elim c s) h = tt
  free_done as_ k (Evar n ts) h = (h.0, each_free_done as_ k ts h.2)

  each_free_done : (as_ : List Assigned) (k : ℕ) (ts : Trees) → EachIsFree as_ k ts → EachIsDone as_ ts
  each_free_done as_ k none h = tt
  each_free_done as_ k (more t ts) h = (free_done as_ k t h.0, each_free_done as_ k ts h.1)

mutual
  unfolding holds_variable holds_variable_in

  free_apart : (as_ : List Assigned) (k : ℕ) (t : Tree) → IsFree as_ k t → holds_variable k t ≡ false
  free_apart as_ k (Rel i) h = refl
  free_apart as_ k (Var x) h = refl
  free_apart as_ k (Sort s) h = refl
  free_apart as_ k (Prod x A B) h = both_false _ _ (free_apart as_ k A h.0) (free_apart as_ k B h.1)
  free_apart as_ k (Lam x A B) h = both_false _ _ (free_apart as_ k A h.0) (free_apart as_ k B h.1)
  free_apart as_ k (Let x v A B) h = both_false _ _ (both_false _ _ (free_apart as_ k v h.0) (free_apart as_ k A h.1)) (free_apart as_ k B h.2)
  free_apart as_ k (App f a) h = both_false _ _ (free_apart as_ k f h.0) (free_apart as_ k a h.1)
  free_apart as_ k (Const c) h = refl
  free_apart as_ k (Ind c) h = refl
  free_apart as_ k (Ctor c i) h = refl
  free_apart as_ k (Elim c s) h = refl
  free_apart as_ k (Evar n ts) h = both_false _ _ h.1 (each_free_apart as_ k ts h.2)

  each_free_apart : (as_ : List Assigned) (k : ℕ) (ts : Trees) → EachIsFree as_ k ts → holds_variable_in k ts ≡ false
  each_free_apart as_ k none h = refl
  each_free_apart as_ k (more t ts) h = both_false _ _ (free_apart as_ k t h.0) (each_free_apart as_ k ts h.1)

-- a value that is seen among the hypotheses of its variable
pub seen_value : (bank : Terms) (s : Places) (k : ℕ) (hs : List Hypothesis) (t : Tree) → IsStore (store_of bank s) → k < length s.variables → ((v : Variable) → slice_get s.variables k ≡ Some v → hs ≡ v.context)
    → find_value (store_of bank s).values k ≡ None → IsSeen bank s hs 0 t → IsFree (store_of bank s).values k t
    → IsValue (store_of bank s).variables (store_of bank s).values (record { id = k; body = t })
seen_value bank s k hs t i l at new h f = record {
  inside = along (λ m. k < m) (sym (length-map s.variables (variable_of bank))) l;
  new = new;
  free = done_leads (store_of bank s).values k t (free_done (store_of bank s).values k t f) (free_apart (store_of bank s).values k t f);
  over = h.2;
  within = h.0;
  holds = filled_holds (store_of bank s).variables (store_of bank s).values i.values (names_at (store_of bank s).variables k) t h.2 (along (λ xs. HoldsOnly xs t) (sym (names_are bank s k hs l at)) h.1);
}

-- a variable in a context that stands
pub seen_variable : (bank : Terms) (s : Places) (hs : List Hypothesis) (v : Variable) → IsStore (store_of bank s) → IsContext (store_of bank s) (context_of bank hs) → v.context ≡ hs → IsSeen bank s hs 0 (tree_of bank v.kind) → IsVariable (store_of bank s) (variable_of bank v)
seen_variable bank s hs v i c e h =
    along (λ ks. IsContext (store_of bank s) (context_of bank ks) × StandsIn (store_of bank s) (context_of bank ks) (tree_of bank v.kind)) (sym e) (c, seen_stands bank s hs (tree_of bank v.kind) i h)

-- one hypothesis more
pub scene_next : (bank : Terms) (s : Places) (hs ks : List Hypothesis) (d : Declarations) (h : Hypothesis) → IsScene bank s hs d → HasAllOf bank h → MayCome bank s hs h → ks ≡ hs ++ h ∷ [] → IsScene bank s ks d
scene_next bank s hs ks d h i all c e = along (λ z. IsScene bank s z d) (sym e) (record {
  store = i.store;
  kept = i.kept;
  hypotheses = has hs i.hypotheses;
  context = along (IsContext (store_of bank s)) (sym (map-append (hypothesis_of bank) hs (h ∷ [])))
      (context_under (store_of bank s) (context_of bank hs) (hypothesis_of bank h) i.context c.new (body h.body c.body) (seen_stands bank s hs (tree_of bank h.kind) i.kept c.kind));
  rules = i.rules;
})
  where
    has : (hs : List Hypothesis) → HasContext bank hs → HasContext bank (hs ++ h ∷ [])
    has [] j = (all, tt)
    has (k ∷ ks) j = (j.0, has ks j.1)

    body : (o : Option TermId) → BodyIsSeen bank s hs o → OptionStands (store_of bank s) (names_in (context_of bank hs)) (option_map (tree_of bank) o)
    body None j = tt
    body (Some t) j = seen_stands bank s hs (tree_of bank t) i.kept j
