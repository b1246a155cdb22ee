-- The names of a family, one after the other.
use Rattle.std.proofs.Common.{◌≡◌, ◌∙◌, refl, sym, ap, ap₂, subst, arith, ℕ, ◌+◌, ◌<◌, ◌≤◌, List, [], ◌∷◌, ◌++◌, length, take, get_or, Option, Err}
use Rattle.std.specs.Prelude.{map}
use Rattle.std.specs.List.{AllByRecursion}
use Rattle.std.proofs.lemmas.List.{take_more, take_all, map-append}
use Rattle.lq_trees.specs.declared.Sort.{Sort as Universe}
use Rattle.lq_trees.specs.Tree.{Name, Tree}
use Rattle.lq_trees.specs.Tree.Tree.{Sort}
use Rattle.lq_calculus.specs.Declarations.{EnvFault as Fault, Family as TreeFamily, declared_names, eliminator_name, sorts, first_taken, names_of, name_taken, not_positive, nested_use, bad_result, elim_forbidden, env_too_large, env_too_deep}
use Rattle.lq_ast.specs.PlainCommands.{plain_constructor}
use Rattle.lq_ast.specs.declared.sentence.Constructor.{Constructor}
use Rattle.lq_terms.specs.declared.nodes.NameId.{NameId}
use Rattle.lq_terms.specs.declared.nodes.TermId.{TermId}
use Rattle.lq_terms.specs.Terms.{Terms, IsName, HasTerm, Grows, text_of}
use Rattle.lq_env.specs.declared.environment.Declared.{Declared}
use Rattle.lq_env.specs.declared.family.EnvFault.{EnvFault}
use Rattle.lq_env.specs.Environments.{IsEnv, env_of}
use Rattle.lq_env.specs.Families.{HasConstructor, constructor_of, constructors_of, Refuses}
use Rattle.lq_env.proofs.Families.{constructors_of-grown}
use Rattle.lq_env.proofs.Grown.{env_of-grown}
use Rattle.lq_env.proofs.Loops.{all_push}
use Rattle.lq_sessions.specs.Told.{of_env}
use Rattle.lq_sessions.specs.Declaring.{family_names}
use Rattle.lq_causes.specs.Stops.{env_stop}
use Rattle.lq_elaborated.specs.Naming.{AreNamed, NewOr}

abbrev written_name : Constructor → Name
written_name c = c.name

abbrev first_of : Name × Tree → Name
first_of c = c.0

none_taken : (cs : List Constructor) → take 0 cs ≡ []
none_taken [] = refl
none_taken (c ∷ cs) = refl

pub named_begins : (bank : Terms) (made : List (NameId × TermId)) (cs : List Constructor) → made ≡ [] → AreNamed bank made (take 0 cs)
named_begins bank made cs e = subst (AreNamed bank made) (sym (none_taken cs)) (subst (λ m. AreNamed bank m []) (sym e) (record { have = tt; names = refl }))

have_grown : (old new : Terms) → Grows old new → (cs : List (NameId × TermId)) → AllByRecursion (HasConstructor old) cs → AllByRecursion (HasConstructor new) cs
have_grown old new g [] h = tt
have_grown old new g (c ∷ cs) h = ((omega (arith, h.0.0, g.names), omega (arith, h.0.1, g.nodes)), have_grown old new g cs h.1)

pub named_goes : (old new : Terms) → Grows old new → (cs : List Constructor) (i : ℕ) (c : Constructor) → i < length cs → c ≡ get_or cs i c → (made more : List (NameId × TermId)) → AreNamed old made (take i cs) → (x : NameId) → IsName new x c.name →
    (k : TermId) → HasTerm new k → more ≡ made ++ (x, k) ∷ [] → AreNamed new more (take (i + 1) cs)
named_goes old new g cs i c l at made more a x n k h e =
    subst (λ m. AreNamed new m (take (i + 1) cs)) (sym e) (record {
      have = all_push (HasConstructor new) made (x, k) (have_grown old new g made a.have) (n.has, h);
      names =
          ap (map first_of) (map-append (constructor_of new) made ((x, k) ∷ []))
          ∙ map-append first_of (constructors_of new made) (constructor_of new (x, k) ∷ [])
          ∙ ap₂ (λ xs y. xs ++ y ∷ []) (ap (map first_of) (constructors_of-grown old new g made a.have) ∙ a.names) (n.is ∙ ap written_name at)
          ∙ sym (ap (map written_name) (take_more cs i c l) ∙ map-append written_name (take i cs) (get_or cs i c ∷ []));
    })

pub named_ends : (bank : Terms) (made : List (NameId × TermId)) (cs : List Constructor) (i : ℕ) → length cs ≤ i → AreNamed bank made (take i cs) → AreNamed bank made cs
named_ends bank made cs i l a = subst (AreNamed bank made) (take_all i cs l) a

-- ---- the names that a family declares

names_same : (cs : List Constructor) → map first_of (map (λ c. (c.0, Sort Universe.Base)) (map plain_constructor cs)) ≡ map written_name cs
unfolding plain_constructor
names_same [] = refl
names_same (c ∷ cs) = ap (λ z. c.name ∷ z) (names_same cs)

pub names_are : (bank : Terms) (f : TreeFamily) (x : Name) (made : List (NameId × TermId)) (cs : List Constructor) → f.name ≡ x → f.constructors ≡ constructors_of bank made → AreNamed bank made cs → declared_names f ≡ family_names x (map plain_constructor cs)
unfolding declared_names family_names
names_are bank f x made cs e u a = ap₂ (λ y ns. y ∷ ns ++ map (eliminator_name y) sorts) e (ap (map first_of) u ∙ a.names ∙ sym (names_same cs))

-- ---- the first of them that is taken

pub taken_is : (b0 b1 : Terms) → Grows b0 b1 → (ds : List (NameId × Declared)) → IsEnv b0 ds → (xs ys : List Name) → xs ≡ ys → first_taken (names_of (env_of b1 ds)) xs ≡ first_taken (names_of (env_of b0 ds)) ys
taken_is b0 b1 g ds i xs ys e = ap₂ (λ E z. first_taken (names_of E) z) (env_of-grown b0 b1 g ds i) e

pub taken_stops : (bank : Terms) (e : EnvFault) (o : Option Fault) → Refuses bank e o → NewOr bank (Err (env_stop e)) o
unfolding of_env
taken_stops bank (EnvFault.NameTaken x) o h = (h.0, name_taken (text_of bank x), h.1, refl)
taken_stops bank (EnvFault.NotPositive c k) o h = (h.0, not_positive (text_of bank c) k, h.1, refl)
taken_stops bank (EnvFault.NestedUse c k) o h = (h.0, nested_use (text_of bank c) k, h.1, refl)
taken_stops bank (EnvFault.BadResult c) o h = (h.0, bad_result (text_of bank c), h.1, refl)
taken_stops bank (EnvFault.ElimForbidden c s) o h = (h.0, elim_forbidden (text_of bank c) s, h.1, refl)
taken_stops bank EnvFault.TooLarge o h = (tt, env_too_large, h, refl)
taken_stops bank EnvFault.TooDeep o h = (tt, env_too_deep, h, refl)
taken_stops bank EnvFault.NoMemory o h = tt
