-- The look for a name that is not taken, and the names of a context.
use Rattle.std.proofs.Common.{◌≡◌, ◌∙◌, ℕ, suc, ◌+◌, ◌<◌, List, [], ◌∷◌, ◌++◌, map, ◌≤◌, length, get_or, drop, refl, sym, ap, subst, true, false, ◌||◌, arith}
use Rattle.std.specs.Prelude.{decimal, codes, Result, Ok, Err, IfOk}
use Rattle.lq_terms.specs.declared.nodes.NoMemory.{NoMemory}
use Rattle.std.specs.List.{AllByRecursion}
use Rattle.std.proofs.lemmas.List.{drop_more, drop_all}
use Rattle.lq_trees.specs.Tree.{Name, Context, same_name}
use Rattle.lq_trees.specs.Fresh.{is_listed, fresh_from, fresh_of, fresh}
use Rattle.lq_terms.specs.declared.nodes.Hypothesis.{Hypothesis}
use Rattle.lq_terms.specs.declared.nodes.NameId.{NameId}
use Rattle.lq_terms.specs.Terms.{Terms, HasName, IsName, Grows, text_of}
use Rattle.lq_terms.specs.Contexts.{context_of, HasContext}
use Rattle.lq_terms.specs.Numbers.{IsFirstFree}

-- the names from an index on: the one there, or one of those behind it
pub listed_next :
    (f : NameId → Name) (ts : List NameId) (i : ℕ) (d : NameId) (x : Name) → i < length ts
    → is_listed (map f (drop i ts)) x ≡ (same_name (f (get_or ts i d)) x || is_listed (map f (drop (i + 1) ts)) x)
unfolding is_listed
listed_next f ts i d x l = rw (drop_more ts i d l) refl

pub none_listed : (x : Name) → is_listed [] x ≡ false
unfolding is_listed
none_listed x = refl

pub ruleset listing = (listed_next, none_listed)

-- the numbers from one on: that one, or those behind it
pub fresh_here : (taken : List Name) (x : Name) (k tries : ℕ) → is_listed taken (x ++ decimal k) ≡ false → fresh_from taken x k (suc tries) ≡ x ++ decimal k
unfolding fresh_from
fresh_here taken x k tries e = rw (e, fresh_from)

pub fresh_later : (taken : List Name) (x : Name) (k tries : ℕ) → is_listed taken (x ++ decimal k) ≡ true → fresh_from taken x k (suc tries) ≡ fresh_from taken x (suc k) tries
unfolding fresh_from
fresh_later taken x k tries e = rw (e, fresh_from)

pub fresh_last : (taken : List Name) (x : Name) (k : ℕ) → fresh_from taken x k 0 ≡ x ++ decimal k
unfolding fresh_from
fresh_last taken x k = refl

pub fresh_free : (taken : List Name) (x : Name) → is_listed taken x ≡ false → fresh_of taken x ≡ x
unfolding fresh_of
fresh_free taken x e = rw (e, fresh_of)

pub fresh_taken : (taken : List Name) (x : Name) → is_listed taken x ≡ true → fresh_of taken x ≡ fresh_from taken x 0 (length taken)
unfolding fresh_of
fresh_taken taken x e = rw (e, fresh_of)

-- a binder with no name, and one with a name
pub unnamed_base : (t : Name) → length t ≡ 0 → (g : Context) → fresh g t ≡ fresh_of (map (λ h. h.name) g) (codes "x")
unfolding fresh
unnamed_base [] e g = refl
unnamed_base (b ∷ bs) e g = absurd (omega arith)

pub named_base : (t : Name) → ¬ (length t ≡ 0) → (g : Context) → fresh g t ≡ fresh_of (map (λ h. h.name) g) t
unfolding fresh
named_base [] e g = absurd (e refl)
named_base (b ∷ bs) e g = refl

-- the names of a context are those of its hypotheses
pub context_names : (bank : Terms) (hs : List Hypothesis) → map (text_of bank) (map (λ h. h.name) hs) ≡ map (λ h. h.name) (context_of bank hs)
context_names bank [] = refl
context_names bank (h ∷ hs) = ap (λ xs. text_of bank h.name ∷ xs) (context_names bank hs)

pub names-grown : (old new : Terms) (xs : List NameId) → Grows old new → AllByRecursion (HasName old) xs → map (text_of new) xs ≡ map (text_of old) xs
names-grown old new [] g h = refl
names-grown old new (x ∷ xs) g h = rw (g.text x h.0, names-grown old new xs g h.1)

pub has_names-grown : (old new : Terms) (xs : List NameId) → Grows old new → AllByRecursion (HasName old) xs → AllByRecursion (HasName new) xs
has_names-grown old new [] g h = tt
has_names-grown old new (x ∷ xs) g h = (omega (arith, h.0), has_names-grown old new xs g h.1)

pub has_names : (bank : Terms) (hs : List Hypothesis) → HasContext bank hs → AllByRecursion (HasName bank) (map (λ h. h.name) hs)
has_names bank [] h = tt
has_names bank (x ∷ xs) h = (h.0.name, has_names bank xs h.1)

-- the look, as far as it has come
module _ (f : NameId → Name) (ts : List NameId) (i : ℕ) (d : NameId) (x : Name) where
  pub listed_found : i < length ts → same_name (f (get_or ts i d)) x ≡ true → is_listed (map f ts) x ≡ is_listed (map f (drop i ts)) x → true ≡ is_listed (map f ts) x
  listed_found l e so_far = sym (so_far ∙ listed_next f ts i d x l ∙ ap (λ b. b || is_listed (map f (drop (i + 1) ts)) x) e)

  pub listed_passed :
      i < length ts → same_name (f (get_or ts i d)) x ≡ false → is_listed (map f ts) x ≡ is_listed (map f (drop i ts)) x
      → is_listed (map f ts) x ≡ is_listed (map f (drop (i + 1) ts)) x
  listed_passed l e so_far = so_far ∙ listed_next f ts i d x l ∙ ap (λ b. b || is_listed (map f (drop (i + 1) ts)) x) e

  pub listed_nowhere : length ts ≤ i → is_listed (map f ts) x ≡ is_listed (map f (drop i ts)) x → false ≡ is_listed (map f ts) x
  listed_nowhere l so_far =
      let nothing : drop i ts ≡ [] = drop_all i ts l in
      sym (so_far ∙ ap (λ us. is_listed (map f us) x) nothing ∙ none_listed x)

-- the base is free
pub base_free : (old : Terms) (taken : List NameId) (base : NameId) → HasName old base → is_listed (map (text_of old) taken) (text_of old base) ≡ false → IsName old base (fresh_of (map (text_of old) taken) (text_of old base))
base_free old taken base has e = record { has = has; is = sym (fresh_free (map (text_of old) taken) (text_of old base) e) }

-- the name of a binder's variable, by the base and the names of the context
pub name_ends :
    (old mid new : Terms) (hs : List Hypothesis) (ts : List NameId) (b base x : NameId) → HasContext old hs → Grows old mid
    → ((g : Context) → fresh g (text_of old b) ≡ fresh_of (map (λ h. h.name) g) (text_of mid base))
    → ts ≡ map (λ h. h.name) hs
    → IsName new x (fresh_of (map (text_of mid) ts) (text_of mid base)) → IsName new x (fresh (context_of old hs) (text_of old b))
name_ends old mid new hs ts b base x has g from e named = record {
  has = named.has;
  is =
      named.is ∙ ap (λ us. fresh_of (map (text_of mid) us) (text_of mid base)) e
      ∙ ap (λ us. fresh_of us (text_of mid base)) (names-grown old mid (map (λ h. h.name) hs) g (has_names old hs has) ∙ context_names old hs)
      ∙ sym (from (context_of old hs));
}

-- the base of an unnamed binder
pub base_x : (r : Result NameId NoMemory) (new : Terms) (t : Name) → length t ≡ 0 → IfOk r (λ y. IsName new y (codes "x"))
    → IfOk r (λ y. (g : Context) → fresh g t ≡ fresh_of (map (λ h. h.name) g) (text_of new y))
base_x (Ok y) new t e named = λ g. unnamed_base t e g ∙ ap (λ z. fresh_of (map (λ h. h.name) g) z) (sym named.is)
base_x (Err fault) new t e named = tt

-- the base is taken, and the number is the first that is free
pub number_free :
    (old new : Terms) (taken : List NameId) (base : NameId) (k : ℕ) (r : Result NameId NoMemory) → is_listed (map (text_of old) taken) (text_of old base) ≡ true
    → IsFirstFree (map (text_of old) taken) (text_of old base) k → IfOk r (λ x. IsName new x (text_of old base ++ decimal k))
    → IfOk r (λ x. IsName new x (fresh_of (map (text_of old) taken) (text_of old base)))
number_free old new taken base k r listed first named =
    subst (λ (z : Name). IfOk r (λ x. IsName new x z))
    (sym
    (fresh_taken (map (text_of old) taken) (text_of old base) listed ∙ first))
    named

-- the same of a result
pub name_ends_in :
    (old mid new : Terms) (hs : List Hypothesis) (ts : List NameId) (b base : NameId) (r : Result NameId NoMemory) → HasContext old hs → Grows old mid
    → ((g : Context) → fresh g (text_of old b) ≡ fresh_of (map (λ h. h.name) g) (text_of mid base))
    → ts ≡ map (λ h. h.name) hs
    → IfOk r (λ x. IsName new x (fresh_of (map (text_of mid) ts) (text_of mid base))) → IfOk r (λ x. IsName new x (fresh (context_of old hs) (text_of old b)))
name_ends_in old mid new hs ts b base (Ok x) has g from e named = name_ends old mid new hs ts b base x has g from e named
name_ends_in old mid new hs ts b base (Err fault) has g from e named = tt

pub has_names_in : (old new : Terms) (hs : List Hypothesis) (ts : List NameId) → Grows old new → HasContext old hs → ts ≡ map (λ h. h.name) hs → AllByRecursion (HasName new) ts
has_names_in old new hs ts g has e = subst (AllByRecursion (HasName new)) (sym e) (has_names-grown old new (map (λ h. h.name) hs) g (has_names old hs has))
