-- The way through the products of a row.
use Rattle.std.proofs.Common.{◌≡◌, ◌∙◌, refl, sym, ap, ap₂, subst, arith, ℕ, suc, ◌+◌, ◌-◌, ◌≤◌, ◌<◌, Bool, true, false, List, [], ◌∷◌, length, length-append, take, drop, None}
use Rattle.lq_trees.specs.declared.Sort.{Sort as Universe}
use Rattle.lq_trees.specs.Tree.{Name, Tree, Context}
use Rattle.lq_trees.specs.Tree.Tree.{Rel, Var, Sort, Prod}
use Rattle.lq_trees.specs.Ticks.{gives}
use Rattle.std.specs.Prelude.{nat_lt, ◌==◌, if◌then◌else◌}
use Rattle.lq_trees.specs.Change.{substituting, lift}
use Rattle.lq_trees.specs.Size.{size, depth}
use Rattle.lq_trees.specs.Index.{Within}
use Rattle.lq_trees.specs.Fresh.{fresh, opened, under}
use Rattle.lq_terms.specs.declared.nodes.Hypothesis.{Hypothesis}
use Rattle.lq_terms.specs.declared.nodes.NameId.{NameId}
use Rattle.lq_terms.specs.declared.nodes.TermId.{TermId}
use Rattle.lq_terms.specs.Terms.{Terms, text_of, tree_of}
use Rattle.std.proofs.lemmas.List.{length-map, length-take, length-drop}
use Rattle.lq_terms.specs.Contexts.{context_of, hypothesis_of}
use Rattle.lq_calculus.specs.Typing.{is_product}
use Rattle.lq_kernel.specs.Closed.{IsScoped, IsContext}
use Rattle.lq_kernel.specs.Declaring.{IsOfferedBehind}
use Rattle.lq_kernel.specs.Steps.{IsSplit}
use Rattle.lq_kernel.proofs.Trees.{IsLeaf, measured-replace, size-opened}
use Rattle.lq_sessions.specs.Declaring.{row_of}
use Rattle.lq_declaring.specs.declared.rows.Row.{Row as Found}
use Rattle.lq_declaring.specs.Rows.{row_end, row_on, row_in, Enters, GoesBehind, IsOnWay, IsRow}
use Rattle.lq_declaring.proofs.RowLaws.{row_is, row_ends}
use Rattle.lq_declaring.proofs.BinderLaws.{offered_first, offered_others, context_first, context_others, trees_first, trees_others}

leaf_opened : (y : Name) (d i : ℕ) → IsLeaf ((substituting (Var y)).bound d i)
leaf_opened y d i = either (nat_lt i d) (i == d)
  where
    either : (a b : Bool) → IsLeaf (if a then Rel i else if b then lift d 0 (Var y) else Rel (i - 1))
    either true b = (refl, refl)
    either false true = (refl, refl)
    either false false = (refl, refl)

depth-opened : (y : Name) (t : Tree) → depth (opened y t) ≡ depth t
unfolding opened
depth-opened y t = (measured-replace (substituting (Var y)) (leaf_opened y) (λ d x. (refl, refl)) 0 t).1

-- before the first product
pub way_begins : (bank : Terms) (t : TermId) → IsScoped bank 0 t → IsOnWay bank [] (tree_of bank t) t
way_begins bank t h = record { turns = depth (tree_of bank t); deep = omega arith; few = omega arith; context = tt; offered = tt; scoped = h; row = λ k. row_is k (tree_of bank t) }

-- the domain and the rest of a product
pub parts_scoped : (bank : Terms) (t : TermId) (x : NameId) (A B : TermId) → IsScoped bank 0 t → IsSplit bank (x, A, B) t → IsScoped bank 0 A × IsScoped bank 1 B
parts_scoped bank t x A B h s =
    let w : Within 0 (Prod (text_of bank x) (tree_of bank A) (tree_of bank B)) = subst (Within 0) s.is h.within in
    (record { has = s.domain; within = w.0 }, record { has = s.rest; within = w.1 })

turned : (n m k : ℕ) (h : Context) (t B : Tree) (x : Name) (A : Tree) → t ≡ Prod x A B → n ≡ suc m → row_on n k h t ≡ row_on m k (under h (fresh h x) A) (opened (fresh h x) B)
unfolding row_on
turned n m k h t B x A e l = ap₂ (λ i u. row_on i k h u) l e

-- one binder more
one_added : (old new : Terms) (hs more : List Hypothesis) (x : Name) (A : Tree) → context_of new more ≡ under (context_of old hs) (fresh (context_of old hs) x) A → length more ≡ length hs + 1
unfolding under
one_added old new hs more x A e =
    sym (length-map more (hypothesis_of new)) ∙ ap length e ∙ length-append (context_of old hs) (record { name = fresh (context_of old hs) x; body = None; kind = A } ∷ [])
    ∙ ap (λ k. k + 1) (length-map hs (hypothesis_of old))

-- behind one product more
pub way_goes : (old new : Terms) (hs more : List Hypothesis) (T : Tree) (t inner : TermId) (x : NameId) (A B : TermId) →
    IsOnWay old hs T t → IsSplit old (x, A, B) t → Enters new more (context_of old hs) (text_of old x) (tree_of old A) (tree_of old B) inner → IsOnWay new more T inner
way_goes old new hs more T t inner x A B w s e =
    record {
      turns = w.turns - 1;
      deep = omega (arith, w.deep, ap depth s.is, ap depth e.rest_is, depth-opened (fresh (context_of old hs) (text_of old x)) (tree_of old B));
      few = omega (arith, w.deep, w.few, ap depth s.is, one_added old new hs more (text_of old x) (tree_of old A) e.binders_are);
      context = e.context;
      offered = e.offered;
      scoped = e.scoped;
      row = λ k.
          w.row k ∙ turned w.turns (w.turns - 1) k (context_of old hs) (tree_of old t) (tree_of old B) (text_of old x) (tree_of old A) s.is (omega (arith, w.deep, ap depth s.is))
          ∙ ap₂ (row_on (w.turns - 1) k) (sym e.binders_are) (sym e.rest_is);
    }

-- what is left gets smaller
pub way_falls : (old new : Terms) (hs more : List Hypothesis) (t inner : TermId) (x : NameId) (A B : TermId) →
    IsSplit old (x, A, B) t → Enters new more (context_of old hs) (text_of old x) (tree_of old A) (tree_of old B) inner → size (tree_of new inner) < size (tree_of old t)
way_falls old new hs more t inner x A B s e =
    omega (arith, ap size s.is, ap size e.rest_is, size-opened (fresh (context_of old hs) (text_of old x)) (tree_of old B))

-- behind the last one
pub way_ends : (bank : Terms) (hs : List Hypothesis) (T : Tree) (t : TermId) → IsOnWay bank hs T t → is_product (tree_of bank t) ≡ false → GoesBehind bank hs T t
way_ends bank hs T t w e = record { few = omega (arith, w.few); context = w.context; offered = w.offered; has = w.scoped.has; row = λ k. w.row k ∙ row_ends w.turns k (context_of bank hs) (tree_of bank t) e }

-- a row has at most as many binders as its term is deep
pub row_short : (hs : List Hypothesis) (k d : ℕ) (r : Found) → length hs ≤ d → r.parameters ≡ take k hs → r.indices ≡ drop k hs → length r.parameters + length r.indices ≤ d
row_short hs k d r few p i = omega (arith, few, ap length p, ap length i, length-take k hs, length-drop k hs)

-- the row that was gone through
pub row_found : (bank : Terms) (hs : List Hypothesis) (T : Tree) (t : TermId) (k : ℕ) (u : Universe) (r : Found) → GoesBehind bank hs T t → tree_of bank t ≡ Sort u →
    r.parameters ≡ take k hs → r.indices ≡ drop k hs → r.sort ≡ u → IsRow bank r × (row_of k T ≡ gives (row_in bank r))
unfolding row_end
row_found bank hs T t k u r g e p i s = (
  record {
    parameters = subst (IsContext bank) (sym p) (context_first bank k hs g.context);
    indices = subst (IsContext bank) (sym i) (context_others bank k hs g.context);
    offered_parameters = subst (IsOfferedBehind []) (sym first) (offered_first [] k (context_of bank hs) g.offered);
    offered_indices = rw (first, others) (offered_others [] k (context_of bank hs) g.offered);
  },
  g.row k ∙ ap (row_end k (context_of bank hs)) e ∙ rw (first, others, s) refl,
)
  where
    first : context_of bank r.parameters ≡ take k (context_of bank hs)
    first = ap (context_of bank) p ∙ trees_first bank k hs

    others : context_of bank r.indices ≡ drop k (context_of bank hs)
    others = ap (context_of bank) i ∙ trees_others bank k hs
