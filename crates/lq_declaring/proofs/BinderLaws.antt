-- The binders of a row have names of their own, and lie in the bank.
use Rattle.std.proofs.Common.{◌≡◌, ◌∙◌, refl, sym, ap, ap₂, subst, arith, ℕ, zero, suc, ◌+◌, ◌<◌, ◌^◌, Bool, true, false, ◌||◌, List, [], ◌∷◌, ◌++◌, length, take, drop, None}
use Rattle.std.proofs.lemmas.Bool.{true≢false}
use Rattle.std.proofs.lemmas.List.{length-map}
use Rattle.lq_trees.specs.Tree.{Name, Context, Hypothesis as TreeHypothesis, same_name}
use Rattle.lq_trees.specs.Index.{Within}
use Rattle.lq_trees.specs.Fresh.{is_listed, fresh, opened, under}
use Rattle.lq_terms.specs.declared.nodes.Hypothesis.{Hypothesis}
use Rattle.lq_terms.specs.declared.nodes.NameId.{NameId}
use Rattle.lq_terms.specs.declared.nodes.TermId.{TermId}
use Rattle.lq_terms.specs.Terms.{Terms, HasName, Grows, IsTerm, IsName, text_of, tree_of}
use Rattle.lq_terms.specs.Contexts.{context_of, hypothesis_of}
use Rattle.lq_env.specs.Families.{names_behind}
use Rattle.lq_kernel.specs.Closed.{IsScoped, IsContext}
use Rattle.lq_kernel.specs.Declaring.{IsOfferedNext, IsOfferedBehind}
use Rattle.lq_kernel.proofs.Trees.{within-opened}
use Rattle.lq_kernel.proofs.Grown.{IsScoped-grown, IsContext-grown, IsContext-push, context_of-push, context_at}
use Rattle.lq_solving.specs.Stores.{names_in}
use Rattle.lq_solving.proofs.FreshLaws.{fresh_new}
use Rattle.lq_declaring.specs.Rows.{Enters}

-- one binder more
offered_push : (names : List Name) (g : Context) (h : TreeHypothesis) → IsOfferedBehind names g → IsOfferedNext (names_behind names g) h → IsOfferedBehind names (g ++ h ∷ [])
offered_push names [] h p q = (q, tt)
offered_push names (i ∷ g) h p q = (p.0, offered_push (i.name ∷ names) g h p.1 q)

none_listed : (x : Name) → is_listed [] x ≡ false
unfolding is_listed
none_listed x = refl

-- a name that none has is none of those behind which binders stand
new_behind : (names : List Name) (g : Context) (x : Name) → is_listed names x ≡ false → is_listed (names_in g) x ≡ false → is_listed (names_behind names g) x ≡ false
unfolding is_listed
new_behind names [] x e h = e
new_behind names (i ∷ g) x e h = by (same_name i.name x) refl h (new_behind (i.name ∷ names) g x)
  where
    by : (b : Bool) → same_name i.name x ≡ b → (b || is_listed (names_in g) x) ≡ false →
        (is_listed (i.name ∷ names) x ≡ false → is_listed (names_in g) x ≡ false → is_listed (names_behind (i.name ∷ names) g) x ≡ false) →
        is_listed (names_behind (i.name ∷ names) g) x ≡ false
    by true k h go = absurd (true≢false h)
    by false k h go = go (ap (λ b. b || is_listed names x) k ∙ e) h

-- the first binders, and the others
pub offered_first : (names : List Name) (k : ℕ) (g : Context) → IsOfferedBehind names g → IsOfferedBehind names (take k g)
offered_first names zero [] p = tt
offered_first names zero (h ∷ g) p = tt
offered_first names (suc k) [] p = tt
offered_first names (suc k) (h ∷ g) p = (p.0, offered_first (h.name ∷ names) k g p.1)

pub offered_others : (names : List Name) (k : ℕ) (g : Context) → IsOfferedBehind names g → IsOfferedBehind (names_behind names (take k g)) (drop k g)
offered_others names zero [] p = tt
offered_others names zero (h ∷ g) p = p
offered_others names (suc k) [] p = tt
offered_others names (suc k) (h ∷ g) p = offered_others (h.name ∷ names) k g p.1

pub context_first : (bank : Terms) (k : ℕ) (hs : List Hypothesis) → IsContext bank hs → IsContext bank (take k hs)
context_first bank zero [] p = tt
context_first bank zero (h ∷ hs) p = tt
context_first bank (suc k) [] p = tt
context_first bank (suc k) (h ∷ hs) p = (p.0, context_first bank k hs p.1)

pub context_others : (bank : Terms) (k : ℕ) (hs : List Hypothesis) → IsContext bank hs → IsContext bank (drop k hs)
context_others bank zero [] p = tt
context_others bank zero (h ∷ hs) p = p
context_others bank (suc k) [] p = tt
context_others bank (suc k) (h ∷ hs) p = context_others bank k hs p.1

pub trees_first : (bank : Terms) (k : ℕ) (hs : List Hypothesis) → context_of bank (take k hs) ≡ take k (context_of bank hs)
trees_first bank zero [] = refl
trees_first bank zero (h ∷ hs) = refl
trees_first bank (suc k) [] = refl
trees_first bank (suc k) (h ∷ hs) = ap (λ g. hypothesis_of bank h ∷ g) (trees_first bank k hs)

pub trees_others : (bank : Terms) (k : ℕ) (hs : List Hypothesis) → context_of bank (drop k hs) ≡ drop k (context_of bank hs)
trees_others bank zero [] = refl
trees_others bank zero (h ∷ hs) = refl
trees_others bank (suc k) [] = refl
trees_others bank (suc k) (h ∷ hs) = trees_others bank k hs

-- a binder with a fresh name, and what stands under it
pub enters : (old named new : Terms) → Grows old named → Grows named new → (hs more : List Hypothesis) (x y : NameId) (A B t : TermId) →
    IsContext old hs → IsOfferedBehind [] (context_of old hs) → length hs < 2 ^ 64 → HasName old x → IsScoped old 0 A → IsScoped old 1 B →
    IsName named y (fresh (context_of old hs) (text_of old x)) → IsTerm new t (opened (text_of named y) (tree_of named B)) →
    more ≡ hs ++ record { name = y; body = None; kind = A } ∷ [] →
    Enters new more (context_of old hs) (text_of old x) (tree_of old A) (tree_of old B) t
unfolding under
enters old named new g k hs more x y A B t context offered few has kind rest name made e =
    record {
      context = subst (IsContext new) (sym e) (IsContext-push new hs h held (record { name = omega (arith, name.has, k.names); body = tt; kind = scoped }));
      offered = subst (IsOfferedBehind []) (sym are) (offered_push [] (context_of old hs) tree offered next);
      scoped = record { has = made.has; within = subst (Within 0) (sym made.is) (within-opened (text_of named y) (tree_of named B) (IsScoped-grown old named g 1 B rest).within) };
      binders_are = are;
      rest_is = made.is ∙ ap₂ opened name.is (g.tree B rest.has);
    }
  where
    h : Hypothesis
    h = record { name = y; body = None; kind = A }

    tree : TreeHypothesis
    tree = record { name = fresh (context_of old hs) (text_of old x); body = None; kind = tree_of old A }

    held : IsContext new hs
    held = IsContext-grown named new k hs (IsContext-grown old named g hs context)

    scoped : IsScoped new 0 A
    scoped = IsScoped-grown named new k 0 A (IsScoped-grown old named g 0 A kind)

    is : hypothesis_of new h ≡ tree
    is = ap₂ (λ z w. record { name = z; body = None; kind = w }) (k.text y name.has ∙ name.is) (k.tree A (IsScoped-grown old named g 0 A kind).has ∙ g.tree A kind.has)

    are : context_of new more ≡ context_of old hs ++ tree ∷ []
    are =
        ap (context_of new) e ∙ context_of-push new hs h
        ∙ ap₂ (λ G z. G ++ z ∷ []) (context_at named new k hs (context_of old hs) (IsContext-grown old named g hs context) (context_at old named g hs (context_of old hs) context refl)) is

    next : IsOfferedNext (names_behind [] (context_of old hs)) tree
    next = record {
      new = new_behind [] (context_of old hs) (fresh (context_of old hs) (text_of old x)) (none_listed (fresh (context_of old hs) (text_of old x))) (fresh_new (context_of old hs) (text_of old x) (omega (arith, few, length-map hs (hypothesis_of old))));
      bodiless = refl;
      within = kind.within;
    }
