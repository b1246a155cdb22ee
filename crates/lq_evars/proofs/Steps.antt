-- An item of work is done, and what was asked stays asked.
use Rattle.std.proofs.Common.{◌≡◌, ◌<◌, ◌+◌, ◌*◌, ◌∙◌, inl, inr, refl, sym, ap, ap₂, arith, List, [], ◌∷◌, ◌++◌, map, Option, Some, None}
use Rattle.std.proofs.Common.{subst as along}
use Rattle.std.specs.List.{AllByRecursion}
use Rattle.lq_trees.specs.Tree.{Tree, Trees, none, more}
use Rattle.lq_trees.specs.Tree.Tree.{Rel, Var, Sort, Prod, Lam, Let, App, Const, Ind, Ctor, Elim, Evar}
use Rattle.lq_trees.specs.Reading.{entries}
use Rattle.lq_terms.specs.declared.nodes.TermId.{TermId}
use Rattle.lq_terms.specs.Terms.{Terms, HasTerm, Grows, tree_of}
use Rattle.lq_terms.proofs.Builds.{all_front, all_back, all_both}
use Rattle.lq_solving.specs.Stores.{Variable as TreeVariable, Assigned, find_value}
use Rattle.lq_solving.specs.Kept.{IsOver, EachIsOver, Sound, IsStore}
use Rattle.lq_solving.proofs.ReadLaws.{given_over}
use Rattle.lq_evars.specs.declared.work.Work.{Work}
use Rattle.lq_evars.specs.Places.{Places, store_of}
use Rattle.lq_evars.specs.Turns.{ranks, with_value, parts_of}
use Rattle.lq_evars.specs.Reading.{Item, visits, builds, tree_in, item_of, items_of, term_in, IsIn, finish, IsReady, AreReady, weight, weights, trees_known, IsOfStore, HasWork, AreRead, Reading, Covers, Stepped, Asks}
use Rattle.lq_evars.proofs.Growing.{store_of-grown, HasStore-grown}
use Rattle.lq_evars.proofs.TurnLaws.{parts_fewer}

-- ---- lists of trees

pub in_front : (t : Tree) (us vs : List Tree) → IsIn t us → IsIn t (us ++ vs)
in_front t [] vs h = absurd h
in_front t (u ∷ us) vs (inl e) = inl e
in_front t (u ∷ us) vs (inr h) = inr (in_front t us vs h)

pub in_back : (t : Tree) (us vs : List Tree) → IsIn t vs → IsIn t (us ++ vs)
in_back t [] vs h = h
in_back t (u ∷ us) vs h = inr (in_back t us vs h)

pub finish_covers : (ws : List Item) (ts us : List Tree) → Covers ts us → Covers (finish ws ts) (finish ws us)
finish_covers [] ts us c t h = c t h
finish_covers (w ∷ ws) ts us c t (inl e) = inl e
finish_covers (w ∷ ws) ts us c t (inr h) = inr (finish_covers ws ts us c t h)

pub all_covered : (ts us vs : List Tree) → Covers ts us → AllByRecursion (λ u. IsIn u ts) vs → AllByRecursion (λ u. IsIn u us) vs
all_covered ts us [] c h = tt
all_covered ts us (v ∷ vs) c h = (c v h.0, all_covered ts us vs c h.1)

pub ready_covers : (as_ : List Assigned) (w : Item) (ts us : List Tree) → Covers ts us → IsReady as_ w ts → IsReady as_ w us
ready_covers as_ (visits t) ts us c h = tt
ready_covers as_ (builds t) ts us c h = all_covered ts us (parts_of as_ t) c h

pub are_ready_covers : (as_ : List Assigned) (ws : List Item) (ts us : List Tree) → Covers ts us → AreReady as_ ws ts → AreReady as_ ws us
are_ready_covers as_ [] ts us c h = tt
are_ready_covers as_ (w ∷ ws) ts us c h = (are_ready_covers as_ ws ts us c h.0, ready_covers as_ w (finish ws ts) (finish ws us) (finish_covers ws ts us c) h.1)

pub finish-append : (ws added : List Item) (ts : List Tree) → finish (ws ++ added) ts ≡ finish ws (finish added ts)
finish-append [] added ts = refl
finish-append (w ∷ ws) added ts = ap (λ us. tree_in w ∷ us) (finish-append ws added ts)

pub ready-front : (as_ : List Assigned) (ws added : List Item) (ts : List Tree) → AreReady as_ (ws ++ added) ts → AreReady as_ ws (finish added ts)
ready-front as_ [] added ts h = tt
ready-front as_ (w ∷ ws) added ts h = (ready-front as_ ws added ts h.0, along (λ us. IsReady as_ w us) (finish-append ws added ts) h.1)

pub ready-back : (as_ : List Assigned) (ws added : List Item) (ts : List Tree) → AreReady as_ (ws ++ added) ts → AreReady as_ added ts
ready-back as_ [] added ts h = h
ready-back as_ (w ∷ ws) added ts h = ready-back as_ ws added ts h.0

pub ready-append : (as_ : List Assigned) (ws added : List Item) (ts : List Tree) → AreReady as_ ws (finish added ts) → AreReady as_ added ts → AreReady as_ (ws ++ added) ts
ready-append as_ [] added ts h k = k
ready-append as_ (w ∷ ws) added ts h k = (ready-append as_ ws added ts h.0 k, along (λ us. IsReady as_ w us) (sym (finish-append ws added ts)) h.1)

pub weights-append : (as_ : List Assigned) (ws added : List Item) → weights as_ (ws ++ added) ≡ weights as_ ws + weights as_ added
weights-append as_ [] added = omega arith
weights-append as_ (w ∷ ws) added = omega (arith, weights-append as_ ws added)

pub items-append : (bank : Terms) (ws added : List Work) → items_of bank (ws ++ added) ≡ items_of bank ws ++ items_of bank added
items-append bank [] added = refl
items-append bank (w ∷ ws) added = ap (λ us. item_of bank w ∷ us) (items-append bank ws added)

-- ---- the parts of a term

abbrev pub all_visits : List Tree → List Item
all_visits [] = []
all_visits (t ∷ ts) = visits t ∷ all_visits ts

pub visits-items : (bank : Terms) (ts : List TermId) → items_of bank (map Work.Visit ts) ≡ all_visits (map (tree_of bank) ts)
visits-items bank [] = refl
visits-items bank (t ∷ ts) = ap (λ us. visits (tree_of bank t) ∷ us) (visits-items bank ts)

pub visits-finish : (ts known : List Tree) → finish (all_visits ts) known ≡ ts ++ known
visits-finish [] known = refl
visits-finish (t ∷ ts) known = ap (λ us. t ∷ us) (visits-finish ts known)

pub visits-ready : (as_ : List Assigned) (ts known : List Tree) → AreReady as_ (all_visits ts) known
visits-ready as_ [] known = tt
visits-ready as_ (t ∷ ts) known = (visits-ready as_ ts known, tt)

pub visits-weigh : (as_ : List Assigned) (ts : List Tree) → weights as_ (all_visits ts) ≡ 2 * ranks as_ ts
visits-weigh as_ [] = omega arith
visits-weigh as_ (t ∷ ts) = omega (arith, visits-weigh as_ ts)

all_in : (us ts known : List Tree) → Covers ts known → AllByRecursion (λ u. IsIn u known) ts
all_in us [] known c = tt
all_in us (t ∷ ts) known c = (c t (inl refl), all_in us ts known (λ u h. c u (inr h)))

pub parts_in : (ts known : List Tree) → AllByRecursion (λ u. IsIn u (ts ++ known)) ts
parts_in ts known = all_in ts ts (ts ++ known) (λ u h. in_front u ts known h)

pub entries_over : (vs : List TreeVariable) (ts : Trees) → EachIsOver vs ts → AllByRecursion (IsOver vs) (entries ts)
unfolding entries
entries_over vs none h = tt
entries_over vs (more t ts) h = (h.0, entries_over vs ts h.1)

pub parts_over : (vs : List TreeVariable) (as_ : List Assigned) → Sound vs as_ → (t : Tree) → IsOver vs t → AllByRecursion (IsOver vs) (parts_of as_ t)
parts_over vs as_ s (Rel i) h = tt
parts_over vs as_ s (Var x) h = tt
parts_over vs as_ s (Sort q) h = tt
parts_over vs as_ s (Prod x A B) h = (h.0, (h.1, tt))
parts_over vs as_ s (Lam x A B) h = (h.0, (h.1, tt))
parts_over vs as_ s (Let x v A B) h = (h.0, (h.1, (h.2, tt)))
parts_over vs as_ s (App f a) h = (h.0, (h.1, tt))
parts_over vs as_ s (Const c) h = tt
parts_over vs as_ s (Ind c) h = tt
parts_over vs as_ s (Ctor c k) h = tt
parts_over vs as_ s (Elim c q) h = tt
parts_over vs as_ s (Evar n ts) h = by (find_value as_ n) (λ b e. (given_over vs as_ s n b e).0)
  where
    by : (o : Option Tree) → ((b : Tree) → o ≡ Some b → IsOver vs b) → AllByRecursion (IsOver vs) (with_value o (entries ts))
    by None f = entries_over vs ts h.2
    by (Some b) f = (f b refl, entries_over vs ts h.2)

pub works_of : (bank : Terms) (vs : List TreeVariable) (ts : List TermId) → AllByRecursion (HasTerm bank) ts → AllByRecursion (IsOver vs) (map (tree_of bank) ts) → AllByRecursion (HasWork bank vs) (map Work.Visit ts)
works_of bank vs [] h k = tt
works_of bank vs (t ∷ ts) h k = (record { has = h.0; over = k.0 }, works_of bank vs ts h.1 k.1)

-- ---- growth

pub part-grown : (old new : Terms) (vs : List TreeVariable) (t : TermId) → Grows old new → IsOfStore old vs t → IsOfStore new vs t
part-grown old new vs t g h = record { has = omega (arith, h.has, g.nodes); over = along (λ u. IsOver vs u) (sym (g.tree t h.has)) h.over }

pub works-grown : (old new : Terms) (vs : List TreeVariable) (ws : List Work) → Grows old new → AllByRecursion (HasWork old vs) ws → AllByRecursion (HasWork new vs) ws
works-grown old new vs [] g h = tt
works-grown old new vs (w ∷ ws) g h = (part-grown old new vs (term_in w) g h.0, works-grown old new vs ws g h.1)

pub item-grown : (old new : Terms) (vs : List TreeVariable) (w : Work) → Grows old new → HasWork old vs w → item_of new w ≡ item_of old w
item-grown old new vs (Work.Visit t) g h = ap visits (g.tree t h.has)
item-grown old new vs (Work.Build t) g h = ap builds (g.tree t h.has)

pub items-grown : (old new : Terms) (vs : List TreeVariable) (ws : List Work) → Grows old new → AllByRecursion (HasWork old vs) ws → items_of new ws ≡ items_of old ws
items-grown old new vs [] g h = refl
items-grown old new vs (w ∷ ws) g h = ap₂ (λ u us. u ∷ us) (item-grown old new vs w g h.0) (items-grown old new vs ws g h.1)

-- ---- an item is done

pub one_item : (w : Item) (as_ : List Assigned) → 0 < weight as_ w → (ws : List Item) → weights as_ ws < weights as_ (ws ++ w ∷ [])
one_item w as_ h ws = omega (arith, weights-append as_ ws (w ∷ []), h)

pub step_done :
    (old new : Terms) (s : Places) (ws : List Work) (w : Work) (known later : List (TermId × TermId)) → Reading old s (ws ++ w ∷ []) known → Grows old new
    → 0 < weight (store_of old s).values (item_of old w) → AreRead new s later → Covers (tree_of old (term_in w) ∷ trees_known old known) (trees_known new later)
    → Stepped old new s (ws ++ w ∷ []) ws known later
step_done old new s ws w known later r g l are c =
    let stays : store_of new s ≡ store_of old s = store_of-grown old new g s r.store in
    let as_ : List Assigned = (store_of old s).values in
    let front : AllByRecursion (HasWork old (store_of old s).variables) ws = all_front (HasWork old (store_of old s).variables) ws (w ∷ []) r.placed in
    let items : items_of new ws ≡ items_of old ws = items-grown old new (store_of old s).variables ws g front in
    let split : items_of old (ws ++ w ∷ []) ≡ items_of old ws ++ item_of old w ∷ [] = items-append old ws (w ∷ []) in
    let covered : Covers (tree_in (item_of old w) ∷ trees_known old known) (trees_known new later) = along (λ t. Covers (t ∷ trees_known old known) (trees_known new later)) (sym (term_is old w)) c in
    let before : AreReady as_ (items_of old ws ++ item_of old w ∷ []) (trees_known old known) = along (λ z. AreReady as_ z (trees_known old known)) split r.ready in
    let ready : AreReady as_ (items_of old ws) (trees_known new later) =
    are_ready_covers as_ (items_of old ws) (tree_in (item_of old w) ∷ trees_known old known) (trees_known new later) covered (ready-front as_ (items_of old ws) (item_of old w ∷ []) (trees_known old known) before) in
    record {
      reading = record {
        store = HasStore-grown old new g s r.store;
        kept = along IsStore (sym stays) r.kept;
        placed = along (λ z. AllByRecursion (HasWork new z.variables) ws) (sym stays) (works-grown old new (store_of old s).variables ws g front);
        ready = along (λ z. AreReady z.values (items_of new ws) (trees_known new later)) (sym stays) (along (λ z. AreReady as_ z (trees_known new later)) (sym items) ready);
        read = are;
      };
      covers = λ t h. along (λ z. IsIn t (finish z (trees_known new later))) (sym items)
          (finish_covers (items_of old ws) (tree_in (item_of old w) ∷ trees_known old known) (trees_known new later) covered t
          (along (λ z. IsIn t z) (ap (λ z. finish z (trees_known old known)) split ∙ finish-append (items_of old ws) (item_of old w ∷ []) (trees_known old known)) h));
      falls = omega (arith, ap (weights as_) items, ap (weights as_) split, one_item (item_of old w) as_ l (items_of old ws));
    }
  where
    term_is : (bank : Terms) (v : Work) → tree_in (item_of bank v) ≡ tree_of bank (term_in v)
    term_is bank (Work.Visit t) = refl
    term_is bank (Work.Build t) = refl

-- a term is put off until its parts are read
pub step_open :
    (bank : Terms) (s : Places) (ws left : List Work) (t : TermId) (known : List (TermId × TermId)) → Reading bank s (ws ++ Work.Visit t ∷ []) known
    → Asks bank (store_of bank s).values (ws ++ Work.Build t ∷ []) left (tree_of bank t) → Stepped bank bank s (ws ++ Work.Visit t ∷ []) left known known
step_open bank s ws left t known r a =
    let vs : List TreeVariable = (store_of bank s).variables in
    let as_ : List Assigned = (store_of bank s).values in
    let T : Tree = tree_of bank t in
    let K : List Tree = trees_known bank known in
    let front : AllByRecursion (HasWork bank vs) ws = all_front (HasWork bank vs) ws (Work.Visit t ∷ []) r.placed in
    let back : AllByRecursion (HasWork bank vs) (Work.Visit t ∷ []) = all_back (HasWork bank vs) ws (Work.Visit t ∷ []) r.placed in
    let split : items_of bank (ws ++ Work.Visit t ∷ []) ≡ items_of bank ws ++ visits T ∷ [] = items-append bank ws (Work.Visit t ∷ []) in
    let before : AreReady as_ (items_of bank ws ++ visits T ∷ []) K = along (λ z. AreReady as_ z K) split r.ready in
    let parts : items_of bank (map Work.Visit a.added) ≡ all_visits (parts_of as_ T) = visits-items bank a.added ∙ ap all_visits a.are in
    let first : items_of bank (ws ++ Work.Build t ∷ []) ≡ items_of bank ws ++ builds T ∷ [] = items-append bank ws (Work.Build t ∷ []) in
    let after : items_of bank left ≡ (items_of bank ws ++ builds T ∷ []) ++ all_visits (parts_of as_ T) =
    ap (items_of bank) a.longer ∙ items-append bank (ws ++ Work.Build t ∷ []) (map Work.Visit a.added) ∙ ap₂ (λ x y. x ++ y) first parts in
    let over : AllByRecursion (IsOver vs) (parts_of as_ T) = parts_over vs as_ r.kept.values T back.0.over in
    let works : AllByRecursion (HasWork bank vs) (map Work.Visit a.added) = works_of bank vs a.added a.has (along (AllByRecursion (IsOver vs)) (sym a.are) over) in
    let P : List Tree = parts_of as_ T ++ K in
    let built : finish (all_visits (parts_of as_ T)) K ≡ P = visits-finish (parts_of as_ T) K in
    let covered : Covers (T ∷ K) (T ∷ P) = λ u h. by u h in
    let inner : AreReady as_ (items_of bank ws ++ builds T ∷ []) P =
    ready-append as_ (items_of bank ws) (builds T ∷ []) P (are_ready_covers as_ (items_of bank ws) (T ∷ K) (T ∷ P) covered (ready-front as_ (items_of bank ws) (visits T ∷ []) K before)) (tt, parts_in (parts_of as_ T) K) in
    let ready : AreReady as_ ((items_of bank ws ++ builds T ∷ []) ++ all_visits (parts_of as_ T)) K =
    ready-append as_ (items_of bank ws ++ builds T ∷ []) (all_visits (parts_of as_ T)) K (along (AreReady as_ (items_of bank ws ++ builds T ∷ [])) (sym built) inner) (visits-ready as_ (parts_of as_ T) K) in
    let ends : finish (items_of bank left) K ≡ finish (items_of bank ws) (T ∷ P) =
    ap (λ z. finish z K) after ∙ finish-append (items_of bank ws ++ builds T ∷ []) (all_visits (parts_of as_ T)) K ∙ ap (finish (items_of bank ws ++ builds T ∷ [])) built ∙ finish-append (items_of bank ws) (builds T ∷ []) P in
    let began : finish (items_of bank (ws ++ Work.Visit t ∷ [])) K ≡ finish (items_of bank ws) (T ∷ K) = ap (λ z. finish z K) split ∙ finish-append (items_of bank ws) (visits T ∷ []) K in
    record {
      reading = record {
        store = r.store;
        kept = r.kept;
        placed = along (AllByRecursion (HasWork bank vs)) (sym a.longer)
            (all_both (HasWork bank vs) (ws ++ Work.Build t ∷ []) (map Work.Visit a.added) (all_both (HasWork bank vs) ws (Work.Build t ∷ []) front (record { has = back.0.has; over = back.0.over }, tt)) works);
        ready = along (λ z. AreReady as_ z K) (sym after) ready;
        read = r.read;
      };
      covers = λ u h. along (IsIn u) (sym ends) (finish_covers (items_of bank ws) (T ∷ K) (T ∷ P) covered u (along (IsIn u) began h));
      falls = omega (
        arith,
        ap (weights as_) after,
        ap (weights as_) split,
        weights-append as_ (items_of bank ws ++ builds T ∷ []) (all_visits (parts_of as_ T)),
        weights-append as_ (items_of bank ws) (builds T ∷ []),
        weights-append as_ (items_of bank ws) (visits T ∷ []),
        visits-weigh as_ (parts_of as_ T),
        parts_fewer vs as_ r.kept.values T,
      );
    }
  where
    by : (u : Tree) → IsIn u (tree_of bank t ∷ trees_known bank known) → IsIn u (tree_of bank t ∷ parts_of (store_of bank s).values (tree_of bank t) ++ trees_known bank known)
    by u (inl e) = inl e
    by u (inr h) = inr (in_back u (parts_of (store_of bank s).values (tree_of bank t)) (trees_known bank known) h)
