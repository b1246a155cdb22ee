-- The steps of the loops that build binders and products.
use Rattle.std.proofs.Common.{◌≡◌, ◌≤◌, ◌<◌, ◌+◌, ◌-◌, ◌∙◌, ℕ, zero, suc, refl, sym, ap, ap₂, arith, List, [], ◌∷◌, ◌++◌, length, map, take, drop, get_or, None, append_assoc}
use Rattle.std.proofs.Common.{subst as along}
use Rattle.std.specs.Prelude.{zip}
use Rattle.std.specs.List.{AllByRecursion}
use Rattle.std.proofs.lemmas.List.{drop_more, take_more, length-map, map-append, length-drop, length-take-le}
use Rattle.std.proofs.Math.Seq.{take-length}
use Rattle.lq_trees.specs.Tree.{Name, Tree, Hypothesis as TreeHypothesis, Context}
use Rattle.lq_trees.specs.Change.{put}
use Rattle.lq_trees.specs.Size.{size}
use Rattle.lq_trees.specs.Index.{Within, highest, last_index}
use Rattle.lq_terms.specs.declared.nodes.TermId.{TermId}
use Rattle.lq_terms.specs.declared.nodes.Hypothesis.{Hypothesis}
use Rattle.lq_terms.specs.Terms.{Terms, HasTerm, IsTerm, Grows, text_of, tree_of}
use Rattle.lq_terms.specs.Changes.{bindings, HasHypothesis}
use Rattle.lq_terms.specs.Contexts.{hypothesis_of, context_of, HasAllOf, HasContext}
use Rattle.lq_terms.proofs.Growth.{has-grown}
use Rattle.lq_calculus.specs.Declarations.{count_down}
use Rattle.lq_env.specs.declared.telescopes.Binder.{Binder}
use Rattle.lq_env.specs.Telescopes.{telescope, places_of, binders_behind, weight_of, AreApart}
use Rattle.lq_env.specs.Building.{HasBinder, binders_of, many}
use Rattle.lq_env.proofs.Families.{context_of-grown}
use Rattle.lq_env.proofs.Weights.{weight-append, length-weight, within-more, put-highest}

pub append_nil : {X : Type 0} (xs : List X) → xs ++ [] ≡ xs
append_nil [] = refl
append_nil (x ∷ xs) = ap (λ z. x ∷ z) (append_nil xs)

-- binders in a bank that has grown
module _ (old new : Terms) (g : Grows old new) where
  pub HasBinders-grown : (bs : List Binder) → AllByRecursion (HasBinder old) bs → AllByRecursion (HasBinder new) bs
  HasBinders-grown [] h = tt
  HasBinders-grown (b ∷ bs) h = ((omega (arith, h.0.0, g.names), omega (arith, h.0.1, g.nodes)), HasBinders-grown bs h.1)

  pub binders_of-grown : (bs : List Binder) → AllByRecursion (HasBinder old) bs → binders_of new bs ≡ binders_of old bs
  binders_of-grown [] h = refl
  binders_of-grown (b ∷ bs) h = ap₂ (λ x xs. x ∷ xs) (ap₂ (λ x t. (x, t)) (g.text b.name h.0.0) (g.tree b.kind h.0.1)) (binders_of-grown bs h.1)

  pub trees-grown : (ts : List TermId) → AllByRecursion (HasTerm old) ts → map (tree_of new) ts ≡ map (tree_of old) ts
  trees-grown [] h = refl
  trees-grown (t ∷ ts) h = ap₂ (λ x xs. x ∷ xs) (g.tree t h.0) (trees-grown ts h.1)

-- lists of which each element has a property
module _ {X : Type 0} (T : X → Type 0) where
  pub all_at : (xs : List X) (i : ℕ) (d : X) → AllByRecursion T xs → i < length xs → T (get_or xs i d)
  all_at [] i d h l = absurd (omega arith)
  all_at (x ∷ xs) zero d h l = h.0
  all_at (x ∷ xs) (suc i) d h l = all_at xs i d h.1 (omega arith)

  pub all_push : (xs : List X) (x : X) → AllByRecursion T xs → T x → AllByRecursion T (xs ++ x ∷ [])
  all_push [] x h p = (p, tt)
  all_push (y ∷ ys) x h p = (h.0, all_push ys x h.1 p)

  pub all_take : (i : ℕ) (xs : List X) → AllByRecursion T xs → AllByRecursion T (take i xs)
  all_take zero xs h = tt
  all_take (suc i) [] h = tt
  all_take (suc i) (x ∷ xs) h = (h.0, all_take i xs h.1)

  pub all_drop : (i : ℕ) (xs : List X) → AllByRecursion T xs → AllByRecursion T (drop i xs)
  all_drop zero xs h = h
  all_drop (suc i) [] h = tt
  all_drop (suc i) (x ∷ xs) h = all_drop i xs h.1

-- one binder further out
pub telescope_step :
    (first mid new : Terms) (bs : List Binder) (i j : ℕ) (d : Binder) (end : Tree) (whole t : TermId) → j ≡ i + 1 → i < length bs → AllByRecursion (HasBinder first) bs → Grows first mid
    → IsTerm mid whole (telescope (binders_of first (drop j bs)) end)
    → IsTerm new t (Tree.Prod (text_of mid (get_or bs i d).name) (tree_of mid (get_or bs i d).kind) (tree_of mid whole))
    → IsTerm new t (telescope (binders_of first (drop i bs)) end)
telescope_step first mid new bs i j d end whole t e l all g w h =
    let has : HasBinder first (get_or bs i d) = all_at (HasBinder first) bs i d all l in
    let same : Tree.Prod (text_of mid (get_or bs i d).name) (tree_of mid (get_or bs i d).kind) (tree_of mid whole) ≡ telescope (binders_of first (drop i bs)) end =
    prod_is (g.text (get_or bs i d).name has.0) (g.tree (get_or bs i d).kind has.1) (w.is ∙ ap (λ k. telescope (binders_of first (drop k bs)) end) e) ∙ ap (λ z. telescope (binders_of first z) end) (sym (drop_more bs i d l)) in
    record { has = h.has; is = h.is ∙ same }
  where
    prod_is : {x y : Name} {a b c e : Tree} → x ≡ y → a ≡ b → c ≡ e → Tree.Prod x a c ≡ Tree.Prod y b e
    prod_is p q r = λ i. Tree.Prod (p i) (q i) (r i)

-- one hypothesis more
pub context_more : (bank : Terms) (hs : List Hypothesis) (i : ℕ) (d : Hypothesis) → i < length hs → context_of bank (take (i + 1) hs) ≡ context_of bank (take i hs) ++ hypothesis_of bank (get_or hs i d) ∷ []
context_more bank hs i d l = ap (context_of bank) (take_more hs i d l) ∙ map-append (hypothesis_of bank) (take i hs) (get_or hs i d ∷ [])

pub weight_step :
    (bank : Terms) (hs : List Hypothesis) (i : ℕ) (d : Hypothesis) → i < length hs
    → weight_of (context_of bank (take (i + 1) hs)) ≡ weight_of (context_of bank (take i hs)) + (1 + size (tree_of bank (get_or hs i d).kind))
weight_step bank hs i d l =
    ap weight_of (context_more bank hs i d l) ∙ weight-append (context_of bank (take i hs)) (hypothesis_of bank (get_or hs i d) ∷ []) ∙ omega arith

-- one bound variable more
pub count_down-suc : (n : ℕ) → count_down (suc n) ≡ Tree.Rel n ∷ count_down n
unfolding count_down
count_down-suc n = refl

pub count_step :
    (old new : Terms) (ts : List TermId) (t : TermId) (i j : ℕ) (whole : List Tree) → j ≡ suc i → Grows old new → AllByRecursion (HasTerm old) ts → IsTerm new t (Tree.Rel i)
    → map (tree_of old) ts ++ count_down j ≡ whole → map (tree_of new) (ts ++ t ∷ []) ++ count_down i ≡ whole
count_step old new ts t i j whole e g has is h =
    ap (λ z. z ++ count_down i) (map-append (tree_of new) ts (t ∷ []))
    ∙ append_assoc (map (tree_of new) ts) (tree_of new t ∷ []) (count_down i)
    ∙ ap₂ (λ y z. y ++ z ∷ count_down i) (trees-grown old new g ts has) is.is
    ∙ ap (λ z. map (tree_of old) ts ++ z) (sym (ap count_down e ∙ count_down-suc i))
    ∙ h

pub length-count_down : (n : ℕ) → length (count_down n) ≡ n
unfolding count_down
length-count_down zero = refl
length-count_down (suc n) = ap suc (length-count_down n)

pub drop-count_down : (k n : ℕ) → drop k (count_down (k + n)) ≡ count_down n
unfolding count_down
drop-count_down zero n = ap count_down (omega arith)
drop-count_down (suc k) n = ap (λ z. drop (suc k) (count_down z)) one ∙ drop-count_down k n
  where
    one : suc k + n ≡ suc (k + n)
    one = omega arith

pub drop-map : {X Y : Type 0} (f : X → Y) (k : ℕ) (xs : List X) → map f (drop k xs) ≡ drop k (map f xs)
drop-map f zero xs = refl
drop-map f (suc k) [] = refl
drop-map f (suc k) (x ∷ xs) = drop-map f k xs

-- the places of hypotheses of a bank
pub bindings_zip : (bank : Terms) (hs : List Hypothesis) (ts : List TermId) → bindings bank hs ts ≡ zip (map (λ h. h.name) (context_of bank hs)) (map (tree_of bank) ts)
bindings_zip bank [] ts = refl
bindings_zip bank (h ∷ hs) [] = refl
bindings_zip bank (h ∷ hs) (t ∷ ts) = ap (λ z. (text_of bank h.name, tree_of bank t) ∷ z) (bindings_zip bank hs ts)

pub bindings_places : (bank : Terms) (hs : List Hypothesis) (ts : List TermId) → map (tree_of bank) ts ≡ count_down (length hs) → bindings bank hs ts ≡ places_of (context_of bank hs)
unfolding places_of
bindings_places bank hs ts e =
    bindings_zip bank hs ts ∙ ap (λ z. zip (map (λ h. h.name) (context_of bank hs)) z) (e ∙ ap count_down (sym (length-map hs (hypothesis_of bank))))

-- the bound variables of the hypotheses up to one
pub places_up_to :
    (bank : Terms) (hs : List Hypothesis) (ts : List TermId) (i k : ℕ) → k + i ≡ length hs → map (tree_of bank) ts ≡ count_down (length hs)
    → map (tree_of bank) (drop k ts) ≡ count_down i
places_up_to bank hs ts i k l e = drop-map (tree_of bank) k ts ∙ ap (drop k) (e ∙ ap count_down (sym l)) ∙ drop-count_down k i

-- one binder of a context more
pub behind_more : (before g : Context) (h : TreeHypothesis) → binders_behind before (g ++ h ∷ []) ≡ binders_behind before g ++ (h.name, put (places_of (before ++ g)) 0 h.kind) ∷ []
behind_more before [] h = ap (λ z. (h.name, put (places_of z) 0 h.kind) ∷ []) (sym (append_nil before))
behind_more before (k ∷ g) h =
    ap (λ z. (k.name, put (places_of before) 0 k.kind) ∷ z)
    (behind_more (before ++ k ∷ []) g h ∙ ap (λ z. binders_behind (before ++ k ∷ []) g ++ (h.name, put (places_of z) 0 h.kind) ∷ []) (append_assoc before (k ∷ []) g))

-- the rest of a list, as a slice gives it
pub take_rest : {X : Type 0} (k n : ℕ) (xs : List X) → n ≡ length xs - k → take n (drop k xs) ≡ drop k xs
take_rest k n xs e = ap (λ z. take z (drop k xs)) (e ∙ sym (length-drop k xs)) ∙ take-length (drop k xs)

pub context_names : (bank : Terms) (hs : List Hypothesis) → HasContext bank hs → AllByRecursion (HasHypothesis bank) hs
context_names bank [] h = tt
context_names bank (x ∷ xs) h = (h.0.name, context_names bank xs h.1)

pub length-places : (bank : Terms) (ts : List TermId) (n : ℕ) → map (tree_of bank) ts ≡ count_down n → length ts ≡ n
length-places bank ts n e = sym (length-map ts (tree_of bank)) ∙ ap length e ∙ length-count_down n

-- the types of a context, one after the other
module _ (bank : Terms) where
  pub kind_within : (hs : List Hypothesis) (i : ℕ) (d : Hypothesis) → AreApart (context_of bank hs) → i < length hs → Within 0 (tree_of bank (get_or hs i d).kind)
  kind_within [] i d a l = absurd (omega arith)
  kind_within (h ∷ hs) zero d a l = a.0
  kind_within (h ∷ hs) (suc i) d a l = kind_within hs i d a.2 (omega arith)

  pub kind_small : (hs : List Hypothesis) (i : ℕ) (d : Hypothesis) → i < length hs → size (tree_of bank (get_or hs i d).kind) ≤ weight_of (context_of bank hs)
  kind_small [] i d l = absurd (omega arith)
  kind_small (h ∷ hs) zero d l = omega arith
  kind_small (h ∷ hs) (suc i) d l = omega (arith, kind_small hs i d (omega arith))

module _
    (first mid : Terms) (g : Grows first mid) (hs : List Hypothesis) (ts : List TermId) (ctx : HasContext first hs) (has : AllByRecursion (HasTerm first) ts)
    (trees : map (tree_of first) ts ≡ count_down (length hs)) where
  -- the places that the hypotheses up to one have
  pub places_at : (i k : ℕ) → k + i ≡ length hs → bindings mid (take i hs) (drop k ts) ≡ places_of (context_of first (take i hs))
  places_at i k l =
      bindings_places mid (take i hs) (drop k ts)
      (trees-grown first mid g (drop k ts) (all_drop (HasTerm first) k ts has) ∙ places_up_to first hs ts i k l trees ∙ ap count_down (sym (length-take-le i hs (omega arith))))
      ∙ ap places_of (context_of-grown first mid g (take i hs) (all_take (HasAllOf first) i hs ctx))

  pub slice_places : (i k n : ℕ) → k ≡ length hs - i → i ≤ length hs → n ≡ length ts - k → bindings mid (take i hs) (take n (drop k ts)) ≡ places_of (context_of first (take i hs))
  slice_places i k n e l q = ap (bindings mid (take i hs)) (take_rest k n ts q) ∙ places_at i k (omega arith)

  pub kind_fits :
      (i : ℕ) (d : Hypothesis) → i < length hs → AreApart (context_of first hs) → weight_of (context_of first hs) ≤ 1000000
      → highest (put (places_of (context_of first (take i hs))) 0 (tree_of mid (get_or hs i d).kind)) ≤ last_index
  kind_fits i d l a w =
      let at : HasAllOf first (get_or hs i d) = all_at (HasAllOf first) hs i d ctx l in
      let same : tree_of mid (get_or hs i d).kind ≡ tree_of first (get_or hs i d).kind = g.tree (get_or hs i d).kind at.kind in
      let short : length (context_of first (take i hs)) ≤ many =
      omega (arith, length-map (take i hs) (hypothesis_of first), length-take-le i hs (omega arith), length-map hs (hypothesis_of first), length-weight (context_of first hs)) in
      along (λ t. highest (put (places_of (context_of first (take i hs))) 0 t) ≤ last_index) (sym same)
      (put-highest (context_of first (take i hs)) (tree_of first (get_or hs i d).kind) short
      (within-more 0 many (tree_of first (get_or hs i d).kind) (omega arith) (kind_within first hs i d a l)) (omega (arith, kind_small first hs i d l)))

  pub slice_fits :
      (i k n : ℕ) (d : Hypothesis) → k ≡ length hs - i → n ≡ length ts - k → i < length hs → AreApart (context_of first hs) → weight_of (context_of first hs) ≤ 1000000
      → highest (put (bindings mid (take i hs) (take n (drop k ts))) 0 (tree_of mid (get_or hs i d).kind)) ≤ last_index
  slice_fits i k n d e q l a w =
      along (λ ps. highest (put ps 0 (tree_of mid (get_or hs i d).kind)) ≤ last_index) (sym (slice_places i k n e (omega arith) q)) (kind_fits i d l a w)

  -- one more type is closed
  pub closed_step :
      (new : Terms) (bs more : List Binder) (i k n : ℕ) (d : Hypothesis) (kind : TermId) → k ≡ length hs - i → n ≡ length ts - k → i < length hs → Grows mid new
      → AllByRecursion (HasBinder mid) bs → more ≡ bs ++ record { name = (get_or hs i d).name; kind = kind } ∷ []
      → IsTerm new kind (put (bindings mid (take i hs) (take n (drop k ts))) 0 (tree_of mid (get_or hs i d).kind))
      → binders_of mid bs ≡ binders_behind [] (context_of first (take i hs))
      → binders_of new more ≡ binders_behind [] (context_of first (take (i + 1) hs))
  closed_step new bs more i k n d kind e q l g2 all m is closed =
      let at : HasAllOf first (get_or hs i d) = all_at (HasAllOf first) hs i d ctx l in
      let name : text_of new (get_or hs i d).name ≡ text_of first (get_or hs i d).name =
      g2.text (get_or hs i d).name (omega (arith, at.name, g.names)) ∙ g.text (get_or hs i d).name at.name in
      let type : tree_of new kind ≡ put (places_of (context_of first (take i hs))) 0 (tree_of first (get_or hs i d).kind) =
      is.is ∙ ap₂ (λ ps t. put ps 0 t) (slice_places i k n e (omega arith) q) (g.tree (get_or hs i d).kind at.kind) in
      ap (binders_of new) m
      ∙ map-append (λ b. (text_of new b.name, tree_of new b.kind)) bs (record { name = (get_or hs i d).name; kind = kind } ∷ [])
      ∙ ap₂ (λ x y. x ++ y ∷ []) (binders_of-grown mid new g2 bs all ∙ closed) (ap₂ (λ x t. (x, t)) name type)
      ∙ sym (ap (binders_behind []) (context_more first hs i d l) ∙ behind_more [] (context_of first (take i hs)) (hypothesis_of first (get_or hs i d)))

  pub has_step :
      (new : Terms) (bs more : List Binder) (i : ℕ) (d : Hypothesis) (kind : TermId) → i < length hs → Grows mid new
      → AllByRecursion (HasBinder mid) bs → more ≡ bs ++ record { name = (get_or hs i d).name; kind = kind } ∷ [] → HasTerm new kind → AllByRecursion (HasBinder new) more
  has_step new bs more i d kind l g2 all m h =
      let at : HasAllOf first (get_or hs i d) = all_at (HasAllOf first) hs i d ctx l in
      along (λ z. AllByRecursion (HasBinder new) z) (sym m)
      (all_push (HasBinder new) bs (record { name = (get_or hs i d).name; kind = kind }) (HasBinders-grown mid new g2 bs all) (omega (arith, at.name, g.names, g2.names), h))

-- the end of a count
pub count_done : (bank : Terms) (ts : List TermId) (i n : ℕ) → i ≤ 0 → map (tree_of bank) ts ++ count_down i ≡ count_down n → map (tree_of bank) ts ≡ count_down n
unfolding count_down
count_done bank ts zero n l h = sym (append_nil (map (tree_of bank) ts)) ∙ h
count_done bank ts (suc i) n l h = absurd (omega arith)

-- what an index reads beyond the end
abbrev pub no_hypothesis : Hypothesis
no_hypothesis = record { name = record { place = 0 }; body = None; kind = record { place = 0 } }

abbrev pub no_binder : Binder
no_binder = record { name = record { place = 0 }; kind = record { place = 0 } }

-- one term more in a bank that has grown
pub pushed_terms :
    (old new : Terms) (ts more : List TermId) (t : TermId) → Grows old new → AllByRecursion (HasTerm old) ts → HasTerm new t → more ≡ ts ++ t ∷ [] → AllByRecursion (HasTerm new) more
pushed_terms old new ts more t g h k e = along (λ z. AllByRecursion (HasTerm new) z) (sym e) (all_push (HasTerm new) ts t (has-grown old new ts g h) k)
