-- Names placed in a bank, one after the other.
use Rattle.std.proofs.Common.{◌≡◌, ◌∙◌, refl, sym, ap, ap₂, subst, arith, ℕ, ◌+◌, ◌≤◌, ◌<◌, List, [], ◌∷◌, ◌++◌, map, take, length, get_or}
use Rattle.std.proofs.lemmas.List.{map-append, take_more, take_all}
use Rattle.std.specs.List.{AllByRecursion}
use Rattle.lq_trees.specs.Tree.{Name}
use Rattle.lq_terms.specs.declared.nodes.NameId.{NameId}
use Rattle.lq_terms.specs.Terms.{Terms, HasName, IsName, Grows, text_of}
use Rattle.lq_prims.specs.Leaving.{AreNames}

module _ (old new : Terms) (g : Grows old new) where
  pub names_grown : (xs : List NameId) (names : List Name) → AreNames old xs names → AreNames new xs names
  names_grown xs names a = record { have = all xs a.have; are = texts xs a.have ∙ a.are }
    where
      all : (ys : List NameId) → AllByRecursion (HasName old) ys → AllByRecursion (HasName new) ys
      all [] h = tt
      all (y ∷ ys) h = (omega (arith, h.0, g.names), all ys h.1)

      texts : (ys : List NameId) → AllByRecursion (HasName old) ys → map (text_of new) ys ≡ map (text_of old) ys
      texts [] h = refl
      texts (y ∷ ys) h = ap₂ (λ t ts. t ∷ ts) (g.text y h.0) (texts ys h.1)

-- one name more
pub names_more : (bank : Terms) (xs : List NameId) (names : List Name) (x : NameId) (name : Name) → AreNames bank xs names → IsName bank x name → AreNames bank (xs ++ x ∷ []) (names ++ name ∷ [])
names_more bank xs names x name a n = record { have = all xs a.have; are = texts xs names a.are }
  where
    all : (ys : List NameId) → AllByRecursion (HasName bank) ys → AllByRecursion (HasName bank) (ys ++ x ∷ [])
    all [] h = (n.has, tt)
    all (y ∷ ys) h = (h.0, all ys h.1)

    texts : (ys : List NameId) (ts : List Name) → map (text_of bank) ys ≡ ts → map (text_of bank) (ys ++ x ∷ []) ≡ ts ++ name ∷ []
    texts ys ts e = map-append (text_of bank) ys (x ∷ []) ∙ ap₂ (λ a b. a ++ b) e (ap (λ t. t ∷ []) n.is)

-- ---- the first of some names

pub none_placed : (bank : Terms) (xs : List NameId) (names : List Name) → xs ≡ [] → AreNames bank xs (take 0 names)
none_placed bank xs names e = subst (λ ys. AreNames bank ys (take 0 names)) (sym e) (record { have = tt; are = refl })

pub next_placed : (old new : Terms) → Grows old new → (xs ys : List NameId) (names : List Name) (i : ℕ) (d : Name) (x : NameId) → AreNames old xs (take i names) → IsName new x (get_or names i d) → ys ≡ xs ++ x ∷ [] → i < length names →
    AreNames new ys (take (i + 1) names)
next_placed old new g xs ys names i d x a n e l =
    subst (λ zs. AreNames new zs (take (i + 1) names)) (sym e) (subst (AreNames new (xs ++ x ∷ [])) (sym (take_more names i d l)) (names_more new xs (take i names) x (get_or names i d) (names_grown old new g xs (take i names) a) n))

pub all_placed : (bank : Terms) (xs : List NameId) (names : List Name) (i : ℕ) → AreNames bank xs (take i names) → length names ≤ i → AreNames bank xs names
all_placed bank xs names i a l = subst (AreNames bank xs) (take_all i names l) a

-- one name alone
pub one_placed : (bank : Terms) (xs ys : List NameId) (x : NameId) (name : Name) → xs ≡ [] → ys ≡ xs ++ x ∷ [] → IsName bank x name → AreNames bank ys (name ∷ [])
one_placed bank xs ys x name e f n = subst (λ zs. AreNames bank zs (name ∷ [])) (sym (f ∙ ap (λ zs. zs ++ x ∷ []) e)) (record { have = (n.has, tt); are = ap (λ t. t ∷ []) n.is })
