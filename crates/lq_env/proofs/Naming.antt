-- The names that a family declares, and those that are taken.
use Rattle.std.proofs.Common.{◌≡◌, ◌∙◌, ◌+◌, ◌<◌, ◌≤◌, ℕ, zero, suc, refl, sym, ap, ap₂, subst, arith, Bool, true, false, ◌||◌, List, [], ◌∷◌, ◌++◌, map, length, get_or, drop, take, Option, Some, None, is_some, Bor}
use Rattle.std.proofs.lemmas.List.{drop_more, drop_all, take_more}
use Rattle.std.specs.Prelude.{◌==◌}
use Rattle.std.specs.List.{list_any}
use Rattle.std.specs.Option.{option_copied}
use Rattle.lq_trees.specs.declared.Sort.{Sort as Universe}
use Rattle.lq_trees.specs.Tree.{Name, same_name}
use Rattle.lq_trees.specs.Fresh.{is_listed}
use Rattle.lq_terms.specs.declared.nodes.NameId.{NameId}
use Rattle.lq_terms.specs.Terms.{Terms, HasName, IsName, Grows, text_of}
use Rattle.lq_calculus.specs.Declarations.{eliminator_name, first_taken, name_taken, names_of}
use Rattle.lq_env.specs.declared.environment.Declared.{Declared}
use Rattle.lq_env.specs.Environments.{declared_of, env_of, IsOwn, IsEnv}
use Rattle.lq_env.specs.Inductive.{HasNames, texts_of, firsts, among, eliminator_named, eliminator_for}
use Rattle.lq_env.proofs.Lookups.{same_turned}
use Rattle.lq_env.proofs.Adding.{Alike, alike_more, listed_none, listed_some}

pub name_base : (c : Name) → c ++ 95 ∷ 105 ∷ 110 ∷ 100 ∷ [] ≡ eliminator_name c Universe.Base
unfolding eliminator_name
name_base c = refl

pub name_level : (c : Name) (i : ℕ) → c ++ 95 ∷ 114 ∷ 101 ∷ 99 ∷ (48 + i) ∷ [] ≡ eliminator_name c (Universe.Level i)
unfolding eliminator_name
name_level [] i = refl
name_level (x ∷ c) i = ap (λ xs. x ∷ xs) (name_level c i)

pub firsts-append : {A : Type 0} (ps qs : List (NameId × A)) → firsts (ps ++ qs) ≡ firsts ps ++ firsts qs
firsts-append [] qs = refl
firsts-append (p ∷ ps) qs = ap (λ xs. p.0 ∷ xs) (firsts-append ps qs)

-- the names of the pairs up to an index, and that one
pub firsts_more : {A : Type 0} (ps : List (NameId × A)) (i : ℕ) (d : NameId × A) → i < length ps → firsts (take (i + 1) ps) ≡ firsts (take i ps) ++ (get_or ps i d).0 ∷ []
firsts_more ps i d l = ap firsts (take_more ps i d l) ∙ firsts-append (take i ps) (get_or ps i d ∷ [])

-- among by a set's look
module _ (x : NameId) (test : NameId → Bool) (is_place : (y : NameId) → test y ≡ (x.place == y.place)) where
  pub among_any : (ys : List NameId) → list_any test ys ≡ among ys x
  among_any [] = refl
  among_any (y ∷ ys) = rw (is_place y, among_any ys) refl

-- what is listed decides the first that is taken
pub taken_alike : (a b : List Name) → Alike a b → (xs : List Name) → first_taken a xs ≡ first_taken b xs
unfolding first_taken
taken_alike a b h [] = refl
taken_alike a b h (x ∷ xs) = ap (λ (t : Bool). elim t [ true ↦ Some (name_taken x) | false ↦ first_taken (x ∷ a) xs ]) (h x) ∙ ap (λ z. elim (is_listed b x) [ true ↦ Some (name_taken x) | false ↦ z ]) (taken_alike (x ∷ a) (x ∷ b) (alike_more x a b h) xs)

-- names seen, and those of an environment
abbrev pub taken_of : Terms → List (NameId × Declared) → List NameId → List Name
taken_of bank ds seen = texts_of bank seen ++ names_of (env_of bank ds)

or_false : (b : Bool) → (b || false) ≡ b
or_false true = refl
or_false false = refl

-- a name is taken exactly where it is declared or was seen
pub taken_is : (bank : Terms) (ds : List (NameId × Declared)) (x : NameId) → IsEnv bank ds → IsOwn bank x → (seen : List NameId) → HasNames bank seen → is_listed (taken_of bank ds seen) (text_of bank x) ≡ (is_some (declared_of ds x) || among seen x)
unfolding is_listed
taken_is bank ds x p own [] h = by (declared_of ds x) refl
  where
    by : (o : Option Declared) → declared_of ds x ≡ o → is_listed (names_of (env_of bank ds)) (text_of bank x) ≡ (is_some o || false)
    by None e = listed_none bank x own (env_of bank ds) ds p.declared e
    by (Some d) e = listed_some bank x own (env_of bank ds) ds d p.declared e
taken_is bank ds x p own (y ∷ ys) h =
    ap (λ b. b || is_listed (taken_of bank ds ys) (text_of bank x)) (same_turned bank x y own h.0) ∙ ap (λ b. (x.place == y.place) || b) (taken_is bank ds x p own ys h.1)
    ∙ swap (x.place == y.place) (is_some (declared_of ds x)) (among ys x)
  where
    swap : (a b c : Bool) → (a || (b || c)) ≡ (b || (a || c))
    swap true true c = refl
    swap true false c = refl
    swap false true c = refl
    swap false false c = refl

-- one more that was seen
pub seen_more : (bank : Terms) (ds : List (NameId × Declared)) (seen : List NameId) (x : NameId) → Alike (text_of bank x ∷ taken_of bank ds seen) (taken_of bank ds (seen ++ x ∷ []))
unfolding is_listed
seen_more bank ds [] x y = refl
seen_more bank ds (z ∷ zs) x y = swap (same_name (text_of bank x) y) (same_name (text_of bank z) y) (is_listed (taken_of bank ds zs) y) ∙ ap (λ b. same_name (text_of bank z) y || b) (seen_more bank ds zs x y)
  where
    swap : (a b c : Bool) → (a || (b || c)) ≡ (b || (a || c))
    swap true true c = refl
    swap true false c = refl
    swap false true c = refl
    swap false false c = refl

pub names-push : (bank : Terms) (xs : List NameId) (x : NameId) → HasNames bank xs → HasName bank x → HasNames bank (xs ++ x ∷ [])
names-push bank [] x h k = (k, tt)
names-push bank (y ∷ ys) x h k = (h.0, names-push bank ys x h.1 k)

pub name_at : (bank : Terms) (xs : List NameId) (i : ℕ) (d : NameId) → HasNames bank xs → i < length xs → HasName bank (get_or xs i d)
name_at bank [] i d h l = absurd (omega arith)
name_at bank (x ∷ xs) zero d h l = h.0
name_at bank (x ∷ xs) (suc i) d h l = name_at bank xs i d h.1 (omega arith)

-- the search at an index: the name there is the first that is taken, or the search goes on
module _ (bank : Terms) (ds : List (NameId × Declared)) (names seen : List NameId) (i : ℕ) (d : NameId) (p : IsEnv bank ds) (has : HasNames bank names) (has_seen : HasNames bank seen) (l : i < length names) (own : IsOwn bank (get_or names i d))
    (so_far : first_taken (names_of (env_of bank ds)) (texts_of bank names) ≡ first_taken (taken_of bank ds seen) (texts_of bank (drop i names))) where
  at : first_taken (names_of (env_of bank ds)) (texts_of bank names)
      ≡ first_taken (taken_of bank ds seen) (text_of bank (get_or names i d) ∷ texts_of bank (drop (i + 1) names))
  at = so_far ∙ ap (λ xs. first_taken (taken_of bank ds seen) (texts_of bank xs)) (drop_more names i d l)

  pub taken_here : (is_some (declared_of ds (get_or names i d)) || among seen (get_or names i d)) ≡ true → first_taken (names_of (env_of bank ds)) (texts_of bank names) ≡ Some (name_taken (text_of bank (get_or names i d)))
  unfolding first_taken
  taken_here e =
      at ∙ ap (λ (t : Bool). elim t [ true ↦ Some (name_taken (text_of bank (get_or names i d))) | false ↦ first_taken (text_of bank (get_or names i d) ∷ taken_of bank ds seen) (texts_of bank (drop (i + 1) names)) ])
      (taken_is bank ds (get_or names i d) p own seen has_seen ∙ e)

  pub taken_later : (is_some (declared_of ds (get_or names i d)) || among seen (get_or names i d)) ≡ false
      → first_taken (names_of (env_of bank ds)) (texts_of bank names) ≡ first_taken (taken_of bank ds (seen ++ get_or names i d ∷ [])) (texts_of bank (drop (i + 1) names))
  unfolding first_taken
  taken_later e =
      at ∙ ap (λ (t : Bool). elim t [ true ↦ Some (name_taken (text_of bank (get_or names i d))) | false ↦ first_taken (text_of bank (get_or names i d) ∷ taken_of bank ds seen) (texts_of bank (drop (i + 1) names)) ])
      (taken_is bank ds (get_or names i d) p own seen has_seen ∙ e)
      ∙ taken_alike (text_of bank (get_or names i d) ∷ taken_of bank ds seen) (taken_of bank ds (seen ++ get_or names i d ∷ [])) (seen_more bank ds seen (get_or names i d)) (texts_of bank (drop (i + 1) names))

pub taken_nowhere : (bank : Terms) (ds : List (NameId × Declared)) (names seen : List NameId) (i : ℕ) → length names ≤ i
    → first_taken (names_of (env_of bank ds)) (texts_of bank names) ≡ first_taken (taken_of bank ds seen) (texts_of bank (drop i names)) → first_taken (names_of (env_of bank ds)) (texts_of bank names) ≡ None
unfolding first_taken
taken_nowhere bank ds names seen i l so_far = so_far ∙ ap (λ xs. first_taken (taken_of bank ds seen) (texts_of bank xs)) (drop_all i names l)

-- nothing is found
pub not_declared : {A : Type 0} (r : Option (Bor A)) (o : Option A) → option_copied r ≡ o → is_some r ≡ false → is_some o ≡ false
not_declared None o e h = ap is_some (sym e)
not_declared (Some b) o e h = absurd cc

-- a level that is at most 3 and none of 0, 1 and 2
pub last_level : (n : ℕ) → n ≤ 3 → (n ≡ 0 → ⊥) → (n ≡ 1 → ⊥) → (n ≡ 2 → ⊥) → n ≡ 3
last_level zero h a b d = absurd (a refl)
last_level (suc zero) h a b d = absurd (b refl)
last_level (suc (suc zero)) h a b d = absurd (d refl)
last_level (suc (suc (suc zero))) h a b d = refl
last_level (suc (suc (suc (suc n)))) h a b d = absurd (omega (arith, h))

pub HasNames-grown : (old new : Terms) → Grows old new → (xs : List NameId) → HasNames old xs → HasNames new xs
HasNames-grown old new g [] h = tt
HasNames-grown old new g (x ∷ xs) h = (omega (arith, h.0, g.names), HasNames-grown old new g xs h.1)

pub texts_of-grown : (old new : Terms) → Grows old new → (xs : List NameId) → HasNames old xs → texts_of new xs ≡ texts_of old xs
texts_of-grown old new g [] h = refl
texts_of-grown old new g (x ∷ xs) h = ap₂ (λ y ys. y ∷ ys) (g.text x h.0) (texts_of-grown old new g xs h.1)

pub named-grown : (old new : Terms) → Grows old new → (es : List (NameId × Universe)) → HasNames old (firsts es) → map (eliminator_named new) es ≡ map (eliminator_named old) es
named-grown old new g [] h = refl
named-grown old new g (e ∷ es) h = ap₂ (λ y ys. (y, e.1) ∷ ys) (g.text e.0 h.0) (named-grown old new g es h.1)

map-push : {A B : Type 0} (f : A → B) (xs : List A) (x : A) → map f (xs ++ x ∷ []) ≡ map f xs ++ f x ∷ []
map-push f [] x = refl
map-push f (y ∷ ys) x = ap (λ zs. f y ∷ zs) (map-push f ys x)

-- one more eliminator's name
module _ (old mid new : Terms) (c x : NameId) (es : List (NameId × Universe)) (ss : List Universe) (i : ℕ) (d : Universe) (g : Grows old mid) (h : Grows mid new) (has : HasNames mid (firsts es)) (own : HasName old c)
    (l : i < length ss) (named : IsName new x (eliminator_name (text_of mid c) (get_or ss i d))) where
  pub step_has : HasNames new (firsts (es ++ (x, get_or ss i d) ∷ []))
  step_has = subst (HasNames new) (sym (firsts-append es ((x, get_or ss i d) ∷ []))) (names-push new (firsts es) x (HasNames-grown mid new h (firsts es) has) named.has)

  pub step_named : map (eliminator_named mid) es ≡ map (eliminator_for (text_of old c)) (take i ss) → map (eliminator_named new) (es ++ (x, get_or ss i d) ∷ []) ≡ map (eliminator_for (text_of old c)) (take (i + 1) ss)
  step_named so_far =
      map-push (eliminator_named new) es (x, get_or ss i d)
      ∙ ap₂ (λ xs y. xs ++ (y, get_or ss i d) ∷ []) (named-grown mid new h es has ∙ so_far) (named.is ∙ ap (λ z. eliminator_name z (get_or ss i d)) (g.text c own))
      ∙ sym (map-push (eliminator_for (text_of old c)) (take i ss) (get_or ss i d)) ∙ ap (map (eliminator_for (text_of old c))) (sym (take_more ss i d l))
