-- The hypotheses are gone through from the newest to the oldest.
use Rattle.std.proofs.Common.{◌≡◌, ◌<◌, ◌≤◌, ◌-◌, ℕ, zero, suc, refl, sym, ◌∙◌, ap, arith, Bool, true, false, ◌||◌, List, [], ◌∷◌, ◌++◌, length, get_or, reverse, take, map, Result}
use Rattle.std.proofs.Common.{subst as along}
use Rattle.std.proofs.Math.Seq.{take-suc}
use Rattle.std.proofs.lemmas.List.{reverse-append}
use Rattle.lq_trees.specs.Tree.{Name, Tree, Hypothesis, Context, same_name}
use Rattle.lq_trees.specs.Tree.Tree.{Var}
use Rattle.lq_trees.specs.Fresh.{is_listed}
use Rattle.lq_trees.specs.Ticks.{gives, ◌>>=◌, Outcome, done, failed, steps_out, ComesTo}
use Rattle.lq_trees.proofs.Outcomes.{comes_then, comes_gives, comes_fails}
use Rattle.lq_calculus.specs.Checking.{conv}
use Rattle.lq_calculus.specs.Declarations.{Env as Environment, rules_of}
use Rattle.lq_terms.specs.declared.nodes.Hypothesis.{Hypothesis as PlaceHypothesis}
use Rattle.lq_terms.specs.declared.nodes.NameId.{NameId}
use Rattle.lq_terms.specs.declared.nodes.TermId.{TermId}
use Rattle.lq_terms.specs.Terms.{Terms, text_of, tree_of}
use Rattle.lq_terms.specs.Contexts.{context_of, hypothesis_of}
use Rattle.lq_env.specs.declared.environment.Declared.{Declared}
use Rattle.lq_env.specs.Environments.{env_of}
use Rattle.lq_solving.specs.Stores.{Store, names_in, names_at, read, read_context}
use Rattle.lq_solving.specs.Kept.{Stands, StandBehind, IsContext}
use Rattle.lq_solving.specs.Elaboration.{Givens}
use Rattle.lq_solving.proofs.InstanceLaws.{is_same}
use Rattle.lq_solving.proofs.StandsLaws.{var_stands}
use Rattle.lq_solving.proofs.UnifyForms.{stands_more}
use Rattle.lq_evars.specs.Places.{Places, store_of}
use Rattle.lq_tactics.specs.Rows.{RowFault, Doing, Done, Step, done_by, given_to, no_assumption}
use Rattle.lq_tactics.specs.Primitives.{first_assumption}
use Rattle.lq_prims.specs.declared.faults.PrimFault.{PrimFault}
use Rattle.lq_prims.specs.Working.{Refuses, Tells}
use Rattle.lq_prims.specs.Scenes.{scene_by, context_at}
use Rattle.lq_prims.proofs.WorkLaws.{refuses_as, refuses_at, refuses_first}

module _ (E : Environment) (s : Store) (k : ℕ) (g : Context) (T : Tree) (vs : Givens) where
  -- what is left to do, the newest hypothesis first
  abbrev pub rest : Context → ℕ → Doing Done
  rest hs n = first_assumption (scene_by E s k g T vs n) hs

  -- what comes of these leads to what comes of those
  abbrev pub Follows : (hs js : Context) → (budget left : ℕ) → Type 0
  Follows hs js budget left = (o : Outcome RowFault Done) → ComesTo (rest js) left o → ComesTo (rest hs) budget o

  module _ (h : Hypothesis) (hs : Context) where
    -- the comparison of a hypothesis
    abbrev pub asks : ℕ → Doing Bool
    asks n = conv (rules_of E) (read_context s g) n (read s h.kind) T

    abbrev pub answers : Bool → ℕ → Doing Done
    answers b n = elim b as (λ z. Doing Done) [ true ↦ gives (done_by s (Var h.name) []) | false ↦ rest hs n ]

    rest_is : (n : ℕ) → rest (h ∷ hs) n ≡ (asks n >>= λ b. answers b n)
    unfolding first_assumption
    rest_is n = refl

    pub first_yes : (b left : ℕ) → ComesTo asks b (done true left) → ComesTo (rest (h ∷ hs)) b (done (done_by s (Var h.name) []) left)
    unfolding first_assumption
    first_yes b left c = comes_then asks answers b true left (done (done_by s (Var h.name) []) left) c (comes_gives (answers true) (done_by s (Var h.name) []) left (λ n. refl))

    pub first_no : (b left : ℕ) → ComesTo asks b (done false left) → Follows (h ∷ hs) hs b left
    unfolding first_assumption
    first_no b left c o d = comes_then asks answers b false left o c d

    pub first_refuses : (bank : Terms) (e : PrimFault) (b left : ℕ) → Refuses bank e asks b left → Refuses bank e (rest (h ∷ hs)) b left
    unfolding first_assumption
    first_refuses bank e b left r = refuses_first bank e asks answers b left r

  pub no_more : (bank : Terms) (b : ℕ) → Refuses bank PrimFault.NoAssumption (rest []) b b
  unfolding first_assumption
  no_more bank b = refuses_at bank PrimFault.NoAssumption no_assumption (rest []) b b refl (comes_fails (rest []) no_assumption b (λ n. refl))

  -- a refusal of what is left
  pub refuses_rest : (bank : Terms) (e : PrimFault) (hs js : Context) (budget l left : ℕ) → Follows hs js budget l → Refuses bank e (rest js) l left → Refuses bank e (rest hs) budget left
  refuses_rest bank e hs js budget l left f r = refuses_as bank e (rest js) (rest hs) l budget left (λ o. f steps_out o) (λ x o. f (failed x left) o) r

-- the hypotheses up to one, from the newest on
pub newest_first : {X Y : Type 0} (f : X → Y) (xs : List X) (i : ℕ) (d : X) → i < length xs → reverse (map f (take (suc i) xs)) ≡ f (get_or xs i d) ∷ reverse (map f (take i xs))
newest_first f xs i d l =
    ap (λ z. reverse (map f z)) (take-suc xs i d l) ∙ ap reverse (both f (take i xs) (get_or xs i d)) ∙ reverse-append (map f (take i xs)) (f (get_or xs i d) ∷ [])
  where
    both : {X Y : Type 0} (f : X → Y) (ys : List X) (y : X) → map f (ys ++ y ∷ []) ≡ map f ys ++ f y ∷ []
    both f [] y = refl
    both f (x ∷ ys) y = ap (λ z. f x ∷ z) (both f ys y)

-- ---- the look at one hypothesis, by places of a bank

among : (z x : Name) (xs ys : List Name) → (same_name z x || is_listed xs x) ≡ true → (same_name z x ≡ true → is_listed ys x ≡ true) → (is_listed xs x ≡ true → is_listed ys x ≡ true) → is_listed ys x ≡ true
among z x xs ys e f g = at (same_name z x) refl e
  where
    at : (b : Bool) → same_name z x ≡ b → (b || is_listed xs x) ≡ true → is_listed ys x ≡ true
    at true p q = f p
    at false p q = g q

behind_head : (a b : Bool) → b ≡ true → (a || b) ≡ true
behind_head true b e = refl
behind_head false b e = e

-- a hypothesis of a context: its type stands there, and its name is one of the context's
module _ (bank : Terms) (s : Store) (ys : List Name) where
  stand_at : (xs : List Name) (hs : List PlaceHypothesis) (j : ℕ) (d : PlaceHypothesis) → StandBehind s xs (context_of bank hs) → ((x : Name) → is_listed xs x ≡ true → is_listed ys x ≡ true) →
      ((x : Name) → is_listed (names_in (context_of bank hs)) x ≡ true → is_listed ys x ≡ true) → j < length hs →
      Stands s ys (tree_of bank (get_or hs j d).kind) × (is_listed ys (text_of bank (get_or hs j d).name) ≡ true)
  unfolding is_listed
  stand_at xs [] j d b e f l = absurd (omega (arith, l))
  stand_at xs (h ∷ hs) zero d b e f l =
      (stands_more s xs ys e (tree_of bank h.kind) b.2, f (text_of bank h.name) (ap (λ z. z || is_listed (names_in (context_of bank hs)) (text_of bank h.name)) (is_same (text_of bank h.name))))
  stand_at xs (h ∷ hs) (suc j) d b e f l =
      stand_at (text_of bank h.name ∷ xs) hs j d b.3
      (λ x q. among (text_of bank h.name) x xs ys q (λ r. f x (ap (λ z. z || is_listed (names_in (context_of bank hs)) x) r)) (e x))
      (λ x q. f x (behind_head (same_name (text_of bank h.name) x) (is_listed (names_in (context_of bank hs)) x) q)) (omega (arith, l))

pub kind_at : (bank : Terms) (s : Store) (hs : List PlaceHypothesis) (j : ℕ) (d : PlaceHypothesis) → IsContext s (context_of bank hs) → j < length hs →
    Stands s (names_in (context_of bank hs)) (tree_of bank (get_or hs j d).kind) × (is_listed (names_in (context_of bank hs)) (text_of bank (get_or hs j d).name) ≡ true)
unfolding is_listed
kind_at bank s hs j d c l = stand_at bank s (names_in (context_of bank hs)) [] hs j d c (λ x q. absurd (grind (arith, q))) (λ x q. q) l

module _ (bank : Terms) (E : Environment) (s : Store) (hs : List PlaceHypothesis) (T : Tree) (k : ℕ) (vs : Givens) (i : ℕ) (p : ℕ) (d : PlaceHypothesis) (next : suc i ≡ p) (l : i < length hs) (b0 b left : ℕ)
    (so_far : Follows E s k (context_of bank hs) T vs (reverse (context_of bank hs)) (reverse (context_of bank (take p hs))) b0 b) where
  -- the hypothesis
  abbrev pub one : Hypothesis
  one = hypothesis_of bank (get_or hs i d)

  -- those that are left after it
  abbrev pub others : Context
  others = reverse (context_of bank (take i hs))

  first_is : reverse (context_of bank (take p hs)) ≡ one ∷ others
  first_is = ap (λ z. reverse (context_of bank (take z hs))) (sym next) ∙ newest_first (hypothesis_of bank) hs i d l

  follows_one : Follows E s k (context_of bank hs) T vs (reverse (context_of bank hs)) (one ∷ others) b0 b
  follows_one = along (λ z. Follows E s k (context_of bank hs) T vs (reverse (context_of bank hs)) z b0 b) first_is so_far

  pub look_yes : ComesTo (asks E s k (context_of bank hs) T vs one others) b (done true left) →
      ComesTo (rest E s k (context_of bank hs) T vs (reverse (context_of bank hs))) b0 (done (done_by s (Var (text_of bank (get_or hs i d).name)) []) left)
  look_yes c = follows_one (done (done_by s (Var (text_of bank (get_or hs i d).name)) []) left) (first_yes E s k (context_of bank hs) T vs one others b left c)

  pub look_no : ComesTo (asks E s k (context_of bank hs) T vs one others) b (done false left) → Follows E s k (context_of bank hs) T vs (reverse (context_of bank hs)) others b0 left
  look_no c = λ o h. follows_one o (first_no E s k (context_of bank hs) T vs one others b left c o h)

  pub look_refused : (new : Terms) (e : PrimFault) → Refuses new e (asks E s k (context_of bank hs) T vs one others) b left → Refuses new e (rest E s k (context_of bank hs) T vs (reverse (context_of bank hs))) b0 left
  look_refused new e r =
      refuses_rest E s k (context_of bank hs) T vs new e (reverse (context_of bank hs)) (one ∷ others) b0 b left follows_one (first_refuses E s k (context_of bank hs) T vs one others new e b left r)

pub look_ends : (new bank : Terms) (E : Environment) (s : Store) (hs : List PlaceHypothesis) (T : Tree) (k : ℕ) (vs : Givens) (p : ℕ) (b0 b : ℕ) → p ≡ 0 →
    Follows E s k (context_of bank hs) T vs (reverse (context_of bank hs)) (reverse (context_of bank (take p hs))) b0 b → Refuses new PrimFault.NoAssumption (rest E s k (context_of bank hs) T vs (reverse (context_of bank hs))) b0 b
look_ends new bank E s hs T k vs p b0 b e so_far =
    refuses_rest E s k (context_of bank hs) T vs new PrimFault.NoAssumption (reverse (context_of bank hs)) [] b0 b b
    (along (λ z. Follows E s k (context_of bank hs) T vs (reverse (context_of bank hs)) (reverse (context_of bank (take z hs))) b0 b) e so_far) (no_more E s k (context_of bank hs) T vs new b)

-- a comparison in a bank that is the same
abbrev pub compared : Terms → List (NameId × Declared) → Places → List PlaceHypothesis → (kind wanted : TermId) → ℕ → Doing Bool
compared bank ds p hs t w n = conv (rules_of (env_of bank ds)) (read_context (store_of bank p) (context_of bank hs)) n (read (store_of bank p) (tree_of bank t)) (read (store_of bank p) (tree_of bank w))

module _ (mid bank : Terms) (same : mid ≡ bank) (ds : List (NameId × Declared)) (p : Places) (hs : List PlaceHypothesis) (t w : TermId) (is : read (store_of bank p) (tree_of bank w) ≡ tree_of bank w) (b left : ℕ) where
  abbrev pub asked : ℕ → Doing Bool
  asked n = conv (rules_of (env_of bank ds)) (read_context (store_of bank p) (context_of bank hs)) n (read (store_of bank p) (tree_of bank t)) (tree_of bank w)

  pub asked_comes : (q o : Bool) → q ≡ o → ComesTo (compared mid ds p hs t w) b (done q left) → ComesTo asked b (done o left)
  asked_comes q o e h =
      along (λ z. ComesTo {F = RowFault} (λ n. conv (rules_of (env_of bank ds)) (read_context (store_of bank p) (context_of bank hs)) n (read (store_of bank p) (tree_of bank t)) z) b (done o left)) is
      (along (λ z. ComesTo (compared z ds p hs t w) b (done o left)) same (along (λ z. ComesTo (compared mid ds p hs t w) b (done z left)) e h))

  pub asked_refused : (new : Terms) (e : PrimFault) → Refuses new e (compared mid ds p hs t w) b left → Refuses new e asked b left
  asked_refused new e h =
      along (λ z. Refuses new e (λ n. conv (rules_of (env_of bank ds)) (read_context (store_of bank p) (context_of bank hs)) n (read (store_of bank p) (tree_of bank t)) z) b left) is
      (along (λ z. Refuses new e (compared z ds p hs t w) b left) same h)

-- the hypothesis stands where the goal's variable stands
pub found_stands : (old new : Terms) (s : Store) (k : ℕ) (hs : List PlaceHypothesis) (x : NameId) (t : TermId) → names_at s.variables k ≡ names_in (context_at s k) → context_of old hs ≡ context_at s k →
    is_listed (names_in (context_of old hs)) (text_of old x) ≡ true → tree_of new t ≡ Var (text_of old x) → Stands s (names_at s.variables k) (tree_of new t)
found_stands old new s k hs x t n c l e =
    along (Stands s (names_at s.variables k)) (sym e) (along (λ z. Stands s z (Var (text_of old x))) (ap names_in c ∙ sym n) (var_stands s (names_in (context_of old hs)) (text_of old x) l))

-- ---- the place of the look

pub place_within : (p n : ℕ) → 0 < p → p ≤ n → p - 1 < n
place_within zero n a b = absurd (omega (arith, a))
place_within (suc p) n a b = omega (arith, b)

pub place_next : (p : ℕ) → 0 < p → suc (p - 1) ≡ p
place_next zero a = absurd (omega (arith, a))
place_next (suc p) a = omega arith

pub kind_in : (mid bank : Terms) → mid ≡ bank → (p : Places) (hs js : List PlaceHypothesis) → js ≡ hs → (j : ℕ) (d : PlaceHypothesis) → IsContext (store_of bank p) (context_of bank hs) → j < length js →
    Stands (store_of mid p) (names_in (context_of mid hs)) (tree_of mid (get_or js j d).kind)
kind_in mid bank same p hs js e j d c l =
    along (λ z. Stands (store_of z p) (names_in (context_of z hs)) (tree_of z (get_or js j d).kind)) (sym same)
    (along (λ z. Stands (store_of bank p) (names_in (context_of bank hs)) (tree_of bank (get_or z j d).kind)) (sym e) (kind_at bank (store_of bank p) hs j d c (along (λ z. j < length z) e l)).0)

pub name_in : (bank : Terms) (s : Store) (hs js : List PlaceHypothesis) → js ≡ hs → (j : ℕ) (d : PlaceHypothesis) → IsContext s (context_of bank hs) → j < length js →
    is_listed (names_in (context_of bank hs)) (text_of bank (get_or js j d).name) ≡ true
name_in bank s hs js e j d c l = along (λ z. is_listed (names_in (context_of bank hs)) (text_of bank (get_or z j d).name) ≡ true) (sym e) (kind_at bank s hs j d c (along (λ z. j < length z) e l)).1

-- the end of a row without new goals, with the store and the body told in another way
pub given_as : {X : Type 0} (bank : Terms) (tell : X → Step) (r : Result X PrimFault) (k : ℕ) (s t : Store) (u v : Tree) → s ≡ t → u ≡ v → Tells bank tell r (given_to k (done_by s u [])) → Tells bank tell r (given_to k (done_by t v []))
given_as bank tell r k s t u v e f h = along (λ z. Tells bank tell r (given_to k (done_by t z []))) f (along (λ z. Tells bank tell r (given_to k (done_by z u []))) e h)
