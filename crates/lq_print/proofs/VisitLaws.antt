-- What visits and other items put on comes to what is spelled.
use Rattle.std.proofs.Common.{◌≡◌, ℕ, ◌+◌, ◌*◌, ◌-◌, ◌<◌, ◌≤◌, Bool, List, [], ◌∷◌, ◌++◌, map, length, take, drop, refl, sym, ap, ◌∙◌, subst, arith, length-append, append-nil, append_assoc}
use Rattle.std.specs.Prelude.{Result, Ok, Err, OnOk, reverse}
use Rattle.std.specs.List.{AllByRecursion}
use Rattle.std.proofs.lemmas.List.{length-map, length-drop, take_all, drop-map}
use Rattle.lq_trees.specs.Tree.{Name, Tree}
use Rattle.lq_trees.specs.Tree.Tree.{Rel, Var, Sort, Prod, Lam, Let, App, Const, Ind, Ctor, Elim, Evar}
use Rattle.lq_trees.specs.Size.{size, sizes}
use Rattle.lq_calculus.specs.Declarations.{Env}
use Rattle.lq_terms.specs.Terms.{Terms, HasName, HasTerm, text_of, tree_of, trees_by}
use Rattle.lq_terms.specs.declared.nodes.NameId.{NameId}
use Rattle.lq_terms.specs.declared.nodes.TermId.{TermId}
use Rattle.lq_terms.specs.declared.nodes.NoMemory.{NoMemory}
use Rattle.lq_print.specs.declared.pieces.Binder.{Binder}
use Rattle.lq_print.specs.declared.pieces.Piece.{Piece}
use Rattle.lq_print.specs.declared.work.Scope.{Scope}
use Rattle.lq_print.specs.declared.work.Work.{Work}
use Rattle.lq_print.specs.declared.spelling.Spelling.{Spelling}
use Rattle.lq_print.specs.Tables.{text_at}
use Rattle.lq_print.specs.Spelling.{Over, product, function, local, Spelled, emit, put_name, enter, leave, over, hide, nearest, spell, spell_each}
use Rattle.lq_print.specs.Pieces.{inside_of, shown_in, HasPiece, spelled_of, IsSpelling, Longer, Spells}
use Rattle.lq_print.specs.Works.{over_at, done, run, HasScope, HasWork, weight, weights, Turned, Closes}
use Rattle.lq_print.proofs.TableLaws.{lengthens_self, lengthens_trans}
use Rattle.lq_print.proofs.Lists.{all_append, all_front, all_weaker}
use Rattle.lq_print.proofs.PieceLaws.{shown_kept, has_kept}

-- from an answer to what follows
pub on_ok : {P Q : Type 0} (r : Result (Unit {0}) NoMemory) → OnOk r P → (P → Q) → OnOk r Q
on_ok (Ok u) p f = f p
on_ok (Err e) p f = tt

positive : (t : Tree) → 0 < size t
positive (Rel i) = omega arith
positive (Var x) = omega arith
positive (Sort s) = omega arith
positive (Prod x A B) = omega arith
positive (Lam x A B) = omega arith
positive (Let x v A B) = omega arith
positive (App f a) = omega arith
positive (Const c) = omega arith
positive (Ind c) = omega arith
positive (Ctor c k) = omega arith
positive (Elim c s) = omega arith
positive (Evar n ts) = omega arith

pub longer_self : (s : Spelling) → Longer s s
longer_self s = record { texts = lengthens_self s.texts; more = []; names = sym (append-nil s.names.items) }

pub longer_trans : (a b c : Spelling) → Longer a b → Longer b c → Longer a c
longer_trans a b c p q = record {
  texts = lengthens_trans a.texts b.texts c.texts p.texts q.texts;
  more = p.more ++ q.more;
  names = q.names ∙ ap (λ ns. ns ++ q.more) p.names ∙ append_assoc a.names.items p.more q.more;
}

-- ---- what stays

module _ (bank : Terms) (env : Env) (old new : Spelling) (sound : IsSpelling bank old) (l : Longer old new) where
  count_kept : length old.names.items ≤ length new.names.items
  count_kept = omega (arith, ap length l.names, length-append old.names.items l.more)

  scope_kept : (o : Scope) → HasScope bank old o → HasScope bank new o
  scope_kept o h = record { name = h.name; low = omega (arith, h.low, count_kept); kind = h.kind }

  pub work_kept : (w : Work) → HasWork bank old w → HasWork bank new w
  work_kept (Work.Visit t) h = h
  work_kept (Work.Product o) h = scope_kept o h
  work_kept (Work.Function o) h = scope_kept o h
  work_kept (Work.Local o v) h = (scope_kept o h.0, h.1)
  work_kept (Work.Emit p) h =
      subst (λ ns. HasPiece bank new.texts ns p) (sym l.names) (has_kept bank old.texts new.texts old.names.items l.more l.texts sound.names p h)
  work_kept (Work.Hide n k) h = tt

  done_kept : (w : Work) → HasWork bank old w → (s : Spelled) → done bank env new w s ≡ done bank env old w s
  done_kept (Work.Visit t) h s = refl
  done_kept (Work.Product o) h s = refl
  done_kept (Work.Function o) h s = refl
  done_kept (Work.Local o v) h s = refl
  done_kept (Work.Emit p) h s =
      ap (λ q. emit q s) (ap (λ ns. shown_in bank new.texts ns p) l.names ∙ shown_kept bank old.texts new.texts old.names.items l.more l.texts sound.names p h)
  done_kept (Work.Hide n k) h s = refl

  pub run_kept : (ws : List Work) → AllByRecursion (HasWork bank old) ws → (s : Spelled) → run bank env new ws s ≡ run bank env old ws s
  run_kept [] h s = refl
  run_kept (w ∷ ws) h s = ap (done bank env new w) (run_kept ws h.1 s) ∙ done_kept w h.0 (run bank env old ws s)

pub run_append : (bank : Terms) (env : Env) (now : Spelling) (ws vs : List Work) (s : Spelled) → run bank env now (ws ++ vs) s ≡ run bank env now ws (run bank env now vs s)
run_append bank env now [] vs s = refl
run_append bank env now (w ∷ ws) vs s = ap (done bank env now w) (run_append bank env now ws vs s)

pub weights_append : (bank : Terms) (ws vs : List Work) → weights bank (ws ++ vs) ≡ weights bank ws + weights bank vs
weights_append bank [] vs = omega arith
weights_append bank (w ∷ ws) vs = omega (arith, weights_append bank ws vs)

-- ---- one item

module _ (bank : Terms) (env : Env) (ws : List Work) (old new : Spelling) where
  -- nothing is put on
  pub turned_plain : (f g : Spelled → Spelled) (m : ℕ) → 0 < m → ((s : Spelled) → f s ≡ g s) → Spells bank old new f → Turned bank env g m ws ws old new
  turned_plain f g m p e h = record {
    added = [];
    is = sym (append-nil ws);
    has = tt;
    spelling = h.spelling;
    longer = h.longer;
    same = h.same ∙ e (spelled_of bank old);
    lighter = omega arith;
  }

  pub turned_leaf : (t u : Tree) (f : Spelled → Spelled) → t ≡ u → ((s : Spelled) → f s ≡ spell env t s) → Spells bank old new f → Turned bank env (spell env u) (3 * size u) ws ws old new
  turned_leaf t u f e g h =
      turned_plain f (spell env u) (3 * size u) (omega (arith, positive u)) (λ s. g s ∙ ap (λ v. spell env v s) e) h

  -- a binder over a body
  pub turned_binder :
      (left : List Work) (then : Work) (body : TermId) (t u : Tree) → t ≡ u → left ≡ ws ++ then ∷ Work.Visit body ∷ [] → Spells bank old new enter
      → HasTerm bank body → HasWork bank old then → IsSpelling bank old → weight bank then + 3 * size (tree_of bank body) < 3 * size t
      → done bank env old then (spell env (tree_of bank body) (enter (spelled_of bank old))) ≡ spell env t (spelled_of bank old)
      → Turned bank env (spell env u) (3 * size u) ws left old new
  turned_binder left then body t u e is h printed has sound small same = record {
    added = then ∷ Work.Visit body ∷ [];
    is = is;
    has = (work_kept bank env old new sound h.longer then has, (printed, tt));
    spelling = h.spelling;
    longer = h.longer;
    same =
        run_kept bank env old new sound h.longer (then ∷ Work.Visit body ∷ []) (has, (printed, tt)) (spelled_of bank new)
        ∙ ap (λ s. done bank env old then (spell env (tree_of bank body) s)) h.same
        ∙ same
        ∙ ap (λ v. spell env v (spelled_of bank old)) e;
    lighter = omega (arith, small, ap size e);
  }

module _ (bank : Terms) (env : Env) (ws left : List Work) (old new : Spelling) (u : Tree) (sound : IsSpelling bank old) (h : Spells bank old new enter) (x : NameId) (named : HasName bank x) (low : ℕ) (from : low ≡ length old.names.items) where
  counted : low ≡ length (spelled_of bank old).names
  counted = from ∙ sym (length-map old.names.items (text_at old.texts))

  abbrev scope : TermId → Scope
  scope kind = record { name = x; low = low; kind = kind }

  has_scope : (kind : TermId) → HasTerm bank kind → HasScope bank old (scope kind)
  has_scope kind p = record { name = named; low = omega (arith, from); kind = p }

  pub turned_product :
      (kind rest : TermId) → Prod (text_of bank x) (tree_of bank kind) (tree_of bank rest) ≡ u → HasTerm bank kind → HasTerm bank rest
      → left ≡ ws ++ Work.Product (scope kind) ∷ Work.Visit rest ∷ [] → Turned bank env (spell env u) (3 * size u) ws left old new
  turned_product kind rest e a b is =
      turned_binder bank env ws old new left (Work.Product (scope kind)) rest (Prod (text_of bank x) (tree_of bank kind) (tree_of bank rest)) u e is h
      b (has_scope kind a) sound (omega arith)
      (let b = spell env (tree_of bank rest) (enter (spelled_of bank old)) in
      ap (λ k. emit (product (over (text_of bank x) k b)) (spell env (tree_of bank kind) (leave b))) counted)

  pub turned_function :
      (kind rest : TermId) → Lam (text_of bank x) (tree_of bank kind) (tree_of bank rest) ≡ u → HasTerm bank kind → HasTerm bank rest
      → left ≡ ws ++ Work.Function (scope kind) ∷ Work.Visit rest ∷ [] → Turned bank env (spell env u) (3 * size u) ws left old new
  turned_function kind rest e a b is =
      turned_binder bank env ws old new left (Work.Function (scope kind)) rest (Lam (text_of bank x) (tree_of bank kind) (tree_of bank rest)) u e is h
      b (has_scope kind a) sound (omega arith)
      (let b = spell env (tree_of bank rest) (enter (spelled_of bank old)) in
      ap (λ k. emit (function (over (text_of bank x) k b)) (spell env (tree_of bank kind) (leave b))) counted)

  pub turned_local :
      (value kind rest : TermId) → Let (text_of bank x) (tree_of bank value) (tree_of bank kind) (tree_of bank rest) ≡ u
      → HasTerm bank value → HasTerm bank kind → HasTerm bank rest
      → left ≡ ws ++ Work.Local (scope kind) value ∷ Work.Visit rest ∷ [] → Turned bank env (spell env u) (3 * size u) ws left old new
  turned_local value kind rest e v a b is =
      turned_binder bank env ws old new left (Work.Local (scope kind) value) rest (Let (text_of bank x) (tree_of bank value) (tree_of bank kind) (tree_of bank rest)) u e is h
      b (has_scope kind a, v) sound (omega arith)
      (let b = spell env (tree_of bank rest) (enter (spelled_of bank old)) in
      ap (λ k. emit (local (over (text_of bank x) k b)) (spell env (tree_of bank kind) (spell env (tree_of bank value) (leave b)))) counted)

module _ (bank : Terms) (env : Env) (ws left : List Work) (now : Spelling) (u : Tree) (sound : IsSpelling bank now) where
  pub turned_application :
      (f a : TermId) → App (tree_of bank f) (tree_of bank a) ≡ u → HasTerm bank f → HasTerm bank a
      → left ≡ ws ++ Work.Emit Piece.Applied ∷ Work.Visit f ∷ Work.Visit a ∷ [] → Turned bank env (spell env u) (3 * size u) ws left now now
  turned_application f a e p q is =
      record {
        added = Work.Emit Piece.Applied ∷ Work.Visit f ∷ Work.Visit a ∷ [];
        is = is;
        has = (tt, (p, (q, tt)));
        spelling = sound;
        longer = longer_self now;
        same = ap (λ v. spell env v (spelled_of bank now)) e;
        lighter = omega (arith, ap size e);
      }

  run_visits : (ts : List TermId) (s : Spelled) → run bank env now (map Work.Visit ts) s ≡ spell_each env (trees_by (tree_of bank) ts) s
  run_visits [] s = refl
  run_visits (t ∷ ts) s = ap (spell env (tree_of bank t)) (run_visits ts s)

  visits_weigh : (ts : List TermId) → weights bank (map Work.Visit ts) ≡ 3 * sizes (trees_by (tree_of bank) ts)
  visits_weigh [] = omega arith
  visits_weigh (t ∷ ts) = omega (arith, visits_weigh ts)

  has_visits : (ts : List TermId) → AllByRecursion (HasTerm bank) ts → AllByRecursion (HasWork bank now) (map Work.Visit ts)
  has_visits [] h = tt
  has_visits (t ∷ ts) h = (h.0, has_visits ts h.1)

  pub turned_instance :
      (n k : ℕ) (ts : List TermId) → Evar n (trees_by (tree_of bank) ts) ≡ u → AllByRecursion (HasTerm bank) ts → k ≡ length now.pieces.items
      → left ≡ ws ++ Work.Hide n k ∷ map Work.Visit ts → Turned bank env (spell env u) (3 * size u) ws left now now
  turned_instance n k ts e p from is =
      let counted : k ≡ length (spelled_of bank now).pieces = from ∙ sym (length-map now.pieces.items (shown_in bank now.texts now.names.items)) in
      record {
        added = Work.Hide n k ∷ map Work.Visit ts;
        is = is;
        has = (tt, has_visits ts p);
        spelling = sound;
        longer = longer_self now;
        same =
            ap (hide n k) (run_visits ts (spelled_of bank now)) ∙ ap (λ j. hide n j (spell_each env (trees_by (tree_of bank) ts) (spelled_of bank now))) counted
            ∙ ap (λ v. spell env v (spelled_of bank now)) e;
        lighter = omega (arith, ap size e, visits_weigh ts);
      }

-- ---- the end of a binder

pub closes :
    (bank : Terms) (o : Scope) (old new : Spelling) (b : Binder) → HasScope bank old o → new.texts ≡ old.texts → new.names.items ≡ old.names.items
    → b.name ≡ o.name → b.is_used ≡ nearest (reverse old.flags.items) → b.low ≡ o.low → b.high ≡ length old.names.items → Closes bank o old new b
closes bank o old new b h e f name used low high = record {
  has = record { name = subst (HasName bank) (sym name) h.name; low = omega (arith, h.low); high = omega (arith, ap length f) };
  is =
      same_over _ _ _ _ _ _ (ap (text_of bank) name) used
      (ap (λ ts. inside_of ts new.names.items b) e ∙ ap (λ ns. inside_of old.texts ns b) f
      ∙ ap (λ k. map (text_at old.texts) (take (k - b.low) (drop b.low old.names.items))) high
      ∙ ap (λ k. map (text_at old.texts) (take (length old.names.items - k) (drop k old.names.items))) low
      ∙ ap (map (text_at old.texts)) (take_all (length old.names.items - o.low) (drop o.low old.names.items) (omega (arith, length-drop o.low old.names.items)))
      ∙ sym (drop-map (text_at old.texts) o.low old.names.items));
}
  where
    same_over : (x y : Name) (u v : Bool) (xs ys : List Name) → x ≡ y → u ≡ v → xs ≡ ys →
        ◌≡◌ {A = Over} (record { own = x; used = u; inside = xs }) (record { own = y; used = v; inside = ys })
    same_over x y u v xs ys e f g = cc

module _ (bank : Terms) (env : Env) (ws left : List Work) (old new : Spelling) (o : Scope) (b : Binder) (c : Closes bank o old new b) (h : Spells bank old new leave) where
  pub closed_product : HasTerm bank o.kind → left ≡ ws ++ Work.Emit (Piece.Product b) ∷ Work.Visit o.kind ∷ [] →
      Turned bank env (done bank env old (Work.Product o)) (weight bank (Work.Product o)) ws left old new
  closed_product p is = record {
    added = Work.Emit (Piece.Product b) ∷ Work.Visit o.kind ∷ [];
    is = is;
    has = (c.has, (p, tt));
    spelling = h.spelling;
    longer = h.longer;
    same =
        ap (λ v. emit (product v) (spell env (tree_of bank o.kind) (spelled_of bank new))) c.is
        ∙ ap (λ s. emit (product (over_at bank o (spelled_of bank old))) (spell env (tree_of bank o.kind) s)) h.same;
    lighter = omega arith;
  }

  pub closed_function : HasTerm bank o.kind → left ≡ ws ++ Work.Emit (Piece.Function b) ∷ Work.Visit o.kind ∷ [] →
      Turned bank env (done bank env old (Work.Function o)) (weight bank (Work.Function o)) ws left old new
  closed_function p is = record {
    added = Work.Emit (Piece.Function b) ∷ Work.Visit o.kind ∷ [];
    is = is;
    has = (c.has, (p, tt));
    spelling = h.spelling;
    longer = h.longer;
    same =
        ap (λ v. emit (function v) (spell env (tree_of bank o.kind) (spelled_of bank new))) c.is
        ∙ ap (λ s. emit (function (over_at bank o (spelled_of bank old))) (spell env (tree_of bank o.kind) s)) h.same;
    lighter = omega arith;
  }

  pub closed_local : (v : TermId) → HasTerm bank o.kind → HasTerm bank v → left ≡ ws ++ Work.Emit (Piece.Local b) ∷ Work.Visit o.kind ∷ Work.Visit v ∷ [] →
      Turned bank env (done bank env old (Work.Local o v)) (weight bank (Work.Local o v)) ws left old new
  closed_local v p q is = record {
    added = Work.Emit (Piece.Local b) ∷ Work.Visit o.kind ∷ Work.Visit v ∷ [];
    is = is;
    has = (c.has, (p, (q, tt)));
    spelling = h.spelling;
    longer = h.longer;
    same =
        ap (λ w. emit (local w) (spell env (tree_of bank o.kind) (spell env (tree_of bank v) (spelled_of bank new)))) c.is
        ∙ ap (λ s. emit (local (over_at bank o (spelled_of bank old))) (spell env (tree_of bank o.kind) (spell env (tree_of bank v) s))) h.same;
    lighter = omega arith;
  }

-- ---- all items

-- what is left after an item comes to the same
pub turn_runs :
    (bank : Terms) (env : Env) (f : Spelled) (ws left : List Work) (w : Work) (old new : Spelling) → IsSpelling bank old → AllByRecursion (HasWork bank old) (ws ++ w ∷ [])
    → run bank env old (ws ++ w ∷ []) (spelled_of bank old) ≡ f → Turned bank env (done bank env old w) (weight bank w) ws left old new
    → AllByRecursion (HasWork bank new) left × (run bank env new left (spelled_of bank new) ≡ f)
turn_runs bank env f ws left w old new sound has so_far t =
    let front : AllByRecursion (HasWork bank old) ws = all_front (HasWork bank old) ws (w ∷ []) has in (
      subst (AllByRecursion (HasWork bank new)) (sym t.is)
          (all_append (HasWork bank new) ws t.added (all_weaker (HasWork bank old) (HasWork bank new) (work_kept bank env old new sound t.longer) ws front) t.has),
      ap (λ vs. run bank env new vs (spelled_of bank new)) t.is
          ∙ run_append bank env new ws t.added (spelled_of bank new)
          ∙ ap (run bank env new ws) t.same
          ∙ run_kept bank env old new sound t.longer ws front (done bank env old w (spelled_of bank old))
          ∙ sym (run_append bank env old ws (w ∷ []) (spelled_of bank old))
          ∙ so_far,
    )

pub turn_lighter :
    (bank : Terms) (env : Env) (f : Spelled → Spelled) (ws left : List Work) (w : Work) (old new : Spelling) → Turned bank env f (weight bank w) ws left old new
    → weights bank left < weights bank (ws ++ w ∷ [])
turn_lighter bank env f ws left w old new t =
    omega (arith, ap (weights bank) t.is, weights_append bank ws t.added, weights_append bank ws (w ∷ []), t.lighter)

-- a binder began, and what is to be done was put on
pub opened_ok :
    (r : Result (Unit {0}) NoMemory) (old new : Spelling) (ws left : List Work) (then : Work) (body : TermId)
    → OnOk r ((bank : Terms) → IsSpelling bank old → Spells bank old new enter) → OnOk r (left ≡ ws ++ then ∷ Work.Visit body ∷ [])
    → OnOk r (((bank : Terms) → IsSpelling bank old → Spells bank old new enter) × (left ≡ ws ++ then ∷ Work.Visit body ∷ []))
opened_ok (Ok u) old new ws left then body p q = (p, q)
opened_ok (Err e) old new ws left then body p q = tt

-- a name with an equal text
pub name_as : (bank : Terms) (old new : Spelling) (x y : Name) → x ≡ y → Spells bank old new (put_name x) → Spells bank old new (put_name y)
name_as bank old new x y e s = subst (λ z. Spells bank old new (put_name z)) e s

-- an equal item
pub item_as :
    (bank : Terms) (env : Env) (ws left : List Work) (old new : Spelling) (r : Result (Unit {0}) NoMemory) (w v : Work) → w ≡ v
    → OnOk r (Turned bank env (done bank env old v) (weight bank v) ws left old new) → OnOk r (Turned bank env (done bank env old w) (weight bank w) ws left old new)
item_as bank env ws left old new r w v e h = subst (λ u. OnOk r (Turned bank env (done bank env old u) (weight bank u) ws left old new)) (sym e) h

pub ok_always : {Q : Type 0} (r : Result (Unit {0}) NoMemory) → Q → OnOk r Q
ok_always (Ok u) q = q
ok_always (Err e) q = tt

-- two answers together
pub pair_ok : (P Q : Type 0) (r : Result (Unit {0}) NoMemory) → OnOk r P → OnOk r Q → OnOk r (P × Q)
pair_ok P Q (Ok u) p q = (p, q)
pair_ok P Q (Err e) p q = tt
