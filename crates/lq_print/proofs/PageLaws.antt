-- The printed binders, what pieces put on, and what stays while a term is written.
use Rattle.std.proofs.Common.{◌≡◌, ℕ, zero, suc, ◌+◌, ◌*◌, ◌-◌, ◌<◌, ◌≤◌, Bool, true, false, List, [], ◌∷◌, ◌++◌, map, length, take, get_or, Option, Some, None, refl, sym, ap, ◌∙◌, subst, arith, length-append, append-nil, append_assoc}
use Rattle.std.specs.Prelude.{reverse, option_map, slice_get, codes, Result, OnOk, MatchOption}
use Rattle.std.specs.List.{AllByRecursion}
use Rattle.std.proofs.lemmas.List.{length-reverse, length-map, get_or-reverse, map-append, reverse-reverse}
use Rattle.std.proofs.lemmas.Option.{slice_get-map, slice_get-get_or, slice_get_past}
use Rattle.lq_trees.specs.Tree.{Name, Tree}
use Rattle.lq_calculus.specs.Declarations.{Env}
use Rattle.lq_terms.specs.Terms.{Terms}
use Rattle.lq_terms.specs.declared.nodes.NoMemory.{NoMemory}
use Rattle.lq_texts.specs.Printing.{name_text, term_text}
use Rattle.lq_print.specs.declared.pieces.Piece.{Piece}
use Rattle.lq_print.specs.declared.spelling.Spelling.{Spelling}
use Rattle.lq_print.specs.declared.steps.Sign.{Sign}
use Rattle.lq_print.specs.declared.steps.Wanted.{Wanted}
use Rattle.lq_print.specs.declared.steps.Item.{Item}
use Rattle.lq_print.specs.Tables.{text_at, Lengthens, AreWithin}
use Rattle.lq_print.specs.Flat.{node_of, parts_of, flat, flats}
use Rattle.lq_print.specs.Writing.{Step, word, term, under, back, Written, further_out, act, play, opening, closing, product_steps, at_once, steps_for}
use Rattle.lq_print.specs.Pieces.{shown_in, shown_all, HasPiece}
use Rattle.lq_print.specs.Pages.{printed, sign_text, kind_of, step_in, steps_in, HasItem, closing_items, binder_items, product_items, local_items, HasPage, Writes, Puts}
use Rattle.lq_print.proofs.Lists.{all_append, all_front, all_back, all_push, all_reverse, all_weaker, push_nearest}
use Rattle.lq_print.proofs.TableLaws.{text_kept, within_kept, within_all_kept, texts_kept}
use Rattle.lq_print.proofs.PieceLaws.{all_shown_kept, all_has_kept}
use Rattle.lq_print.proofs.WriteLaws.{play_append, flat_parts, flats_append, plays}

-- the binder of a number, counted from the end, and none
pub binder_at : (ts : List Name) (ks : List ℕ) (i place d : ℕ) → place + (i + 1) ≡ length ks → slice_get (printed ts ks) i ≡ Some (text_at ts (get_or ks place d))
binder_at ts ks i place d e =
    let within : i < length ks = omega arith in
    let reversed : i < length (reverse ks) = omega (arith, length-reverse ks) in
    let there : length ks - 1 - i ≡ place = omega arith in
    slice_get-map (text_at ts) (reverse ks) i
    ∙ ap (option_map (text_at ts)) (slice_get-get_or (reverse ks) i d reversed ∙ ap Some (get_or-reverse ks i d within ∙ ap (λ k. get_or ks k d) there))

pub binder_past : (ts : List Name) (ks : List ℕ) (i : ℕ) → length ks ≤ i → slice_get (printed ts ks) i ≡ None
binder_past ts ks i l = slice_get_past (printed ts ks) i (omega (arith, length-map (reverse ks) (text_at ts), length-reverse ks))

-- ---- what stays where texts are added

module _ (ts us : List Name) (l : Lengthens ts us) where
  pub printed_kept : (ks : List ℕ) → AreWithin ts ks → printed us ks ≡ printed ts ks
  printed_kept ks h = texts_kept ts us (reverse ks) l (all_reverse (λ k. k < length ts) ks h)

  pub item_kept : (i : Item) → HasItem ts i → HasItem us i
  item_kept (Item.Word s) h = tt
  item_kept (Item.Term w) h = tt
  item_kept (Item.Under k) h = within_kept ts us k l h
  item_kept Item.Back h = tt

  step_kept : (i : Item) → HasItem ts i → step_in us i ≡ step_in ts i
  step_kept (Item.Word s) h = refl
  step_kept (Item.Term w) h = refl
  step_kept (Item.Under k) h = ap under (text_kept ts us k l h)
  step_kept Item.Back h = refl

  pub steps_kept : (is : List Item) → AllByRecursion (HasItem ts) is → steps_in us is ≡ steps_in ts is
  steps_kept [] h = refl
  steps_kept (i ∷ is) h = ap (λ s. s ∷ steps_in us is) (step_kept i h.0) ∙ ap (λ ss. step_in ts i ∷ ss) (steps_kept is h.1)

-- ---- what pieces put on

closing_has : (ts : List Name) (b : Bool) (items : List Item) → AllByRecursion (HasItem ts) items → AllByRecursion (HasItem ts) (closing_items b ++ items)
closing_has ts false items h = h
closing_has ts true items h = (tt, h)

closing_are : (ts : List Name) (b : Bool) (items : List Item) (steps : List Step) → steps_in ts items ≡ steps → steps_in ts (closing_items b ++ items) ≡ closing b ++ steps
closing_are ts false items steps e = e
closing_are ts true items steps e = ap (λ ss. word (codes ")") ∷ ss) e

closing_few : (b : Bool) (items : List Item) → length items ≤ 7 → length (closing_items b ++ items) ≤ 8
closing_few false items h = omega arith
closing_few true items h = omega arith

pub puts_closed :
    (ts : List Name) (b c : Bool) (old mid new items : List Item) (steps : List Step) → b ≡ c → mid ≡ old ++ closing_items b → new ≡ mid ++ items
    → AllByRecursion (HasItem ts) items → steps_in ts items ≡ steps → length items ≤ 7 → Puts ts old new (closing c ++ steps)
puts_closed ts b c old mid new items steps same from is has are few = record {
  added = closing_items b ++ items;
  is = is ∙ ap (λ z. z ++ items) from ∙ append_assoc old (closing_items b) items;
  has = closing_has ts b items has;
  are = closing_are ts b items steps are ∙ ap (λ d. closing d ++ steps) same;
  few = closing_few b items few;
}

module _ (ts : List Name) (k : ℕ) (within : k < length ts) where
  pub product_has : (y : Name) → AllByRecursion (HasItem ts) (product_items y k)
  product_has [] = (tt, (tt, (within, (tt, (tt, tt)))))
  product_has (b ∷ bs) = (tt, (tt, (within, (tt, (tt, tt)))))

  pub product_few : (y : Name) → length (product_items y k) ≤ 7
  product_few [] = omega arith
  product_few (b ∷ bs) = omega arith

  pub product_are : (y : Name) → text_at ts k ≡ y → steps_in ts (product_items y k) ≡ product_steps y
  product_are [] e = ap (λ z. back ∷ term 0 ∷ under z ∷ word (codes " -> ") ∷ term 1 ∷ []) e
  product_are (b ∷ bs) e = ap (λ z. back ∷ term 0 ∷ under z ∷ word (codes ", ") ∷ term 0 ∷ []) e

  pub function_has : AllByRecursion (HasItem ts) (binder_items k Sign.Becomes Wanted.Term)
  function_has = (tt, (tt, (within, (tt, (tt, tt)))))

  pub function_few : length (binder_items k Sign.Becomes Wanted.Term) ≤ 7
  function_few = omega arith

  pub local_has : AllByRecursion (HasItem ts) (local_items k)
  local_has = (tt, (tt, (within, (tt, (tt, (tt, (tt, tt)))))))

  pub local_few : length (local_items k) ≤ 7
  local_few = omega arith

  pub function_are : (y : Name) → text_at ts k ≡ y →
      steps_in ts (binder_items k Sign.Becomes Wanted.Term) ≡ back ∷ term 0 ∷ under y ∷ word (codes " => ") ∷ term 0 ∷ []
  function_are y e = ap (λ z. back ∷ term 0 ∷ under z ∷ word (codes " => ") ∷ term 0 ∷ []) e

  pub local_are : (y : Name) → text_at ts k ≡ y →
      steps_in ts (local_items k) ≡ back ∷ term 0 ∷ under y ∷ word (codes " in ") ∷ term 0 ∷ word (codes " := ") ∷ term 0 ∷ []
  local_are y e = ap (λ z. back ∷ term 0 ∷ under z ∷ word (codes " in ") ∷ term 0 ∷ word (codes " := ") ∷ term 0 ∷ []) e

-- what is written at once behind a bracket
pub front_is : (o m n f g : List ℕ) (b c : Bool) → b ≡ c → m ≡ o ++ opening b → f ≡ g → n ≡ m ++ f → n ≡ o ++ (opening c ++ g)
front_is o m n f g b c same from e is =
    is ∙ ap (λ z. z ++ f) from ∙ ap (λ z. (o ++ opening b) ++ z) e ∙ append_assoc o (opening b) g ∙ ap (λ d. o ++ (opening d ++ g)) same

-- nothing is put on
pub puts_none : (ts : List Name) (ws : List Item) → Puts ts ws ws []
puts_none ts ws = record { added = []; is = sym (append-nil ws); has = tt; are = refl; few = omega arith }

-- ---- steps

snoc_same : {X : Type 0} (xs ys : List X) (x y : X) → xs ++ x ∷ [] ≡ ys ++ y ∷ [] → (xs ≡ ys) × (x ≡ y)
snoc_same xs ys x y e =
    let turned : x ∷ reverse xs ≡ y ∷ reverse ys = sym (push_nearest xs x) ∙ ap reverse e ∙ push_nearest ys y in
    let tails : reverse xs ≡ reverse ys = cc in
    (sym (reverse-reverse xs) ∙ ap reverse tails ∙ reverse-reverse ys, (let heads : x ≡ y = cc in heads))

module _ (bank : Terms) (env : Env) (goal : List ℕ) (ts : List Name) (ws : List Item) where
  -- the last item is done first
  play_last : (i : Item) (s : Written) → play env (steps_in ts (ws ++ i ∷ [])) s ≡ play env (steps_in ts ws) (act env (step_in ts i) s)
  play_last i s = ap (λ ss. play env ss s) (map-append (step_in ts) ws (i ∷ [])) ∙ play_append env (steps_in ts ws) (step_in ts i ∷ []) s

module _ (bank : Terms) (env : Env) (goal : List ℕ) (out new_out : List ℕ) (ks : List ℕ) (ws : List Item) (s : Spelling) where
  pub word_writes : (g : Sign) → new_out ≡ out ++ sign_text g → Writes bank env goal out ks (ws ++ Item.Word g ∷ []) s → Writes bank env goal new_out ks ws s
  word_writes g e w = record {
    trees = w.trees;
    pieces = w.pieces;
    same =
        ap (λ (o : List ℕ). (play env (steps_in s.texts ws) (record { out = o; trees = w.trees; binders = printed s.texts ks })).out) e
        ∙ sym (ap (λ (r : Written). r.out) (play_last bank env goal s.texts ws (Item.Word g) (record { out = out; trees = w.trees; binders = printed s.texts ks })))
        ∙ w.same;
  }

  pub under_writes : (k : ℕ) (more : List ℕ) → more ≡ ks ++ k ∷ [] → new_out ≡ out → Writes bank env goal out ks (ws ++ Item.Under k ∷ []) s → Writes bank env goal new_out more ws s
  under_writes k more is e w = record {
    trees = w.trees;
    pieces = w.pieces;
    same =
        ap (λ (o : List ℕ). (play env (steps_in s.texts ws) (record { out = o; trees = w.trees; binders = printed s.texts more })).out) e
        ∙ ap (λ (bs : List Name). (play env (steps_in s.texts ws) (record { out = out; trees = w.trees; binders = bs })).out)
        (ap (printed s.texts) is ∙ ap (map (text_at s.texts)) (push_nearest ks k))
        ∙ sym (ap (λ (r : Written). r.out) (play_last bank env goal s.texts ws (Item.Under k) (record { out = out; trees = w.trees; binders = printed s.texts ks })))
        ∙ w.same;
  }

  pub back_writes : (fewer : List ℕ) → further_out (printed s.texts ks) ≡ printed s.texts fewer → new_out ≡ out → Writes bank env goal out ks (ws ++ Item.Back ∷ []) s →
      Writes bank env goal new_out fewer ws s
  back_writes fewer is e w = record {
    trees = w.trees;
    pieces = w.pieces;
    same =
        ap (λ (o : List ℕ). (play env (steps_in s.texts ws) (record { out = o; trees = w.trees; binders = printed s.texts fewer })).out) e
        ∙ ap (λ (bs : List Name). (play env (steps_in s.texts ws) (record { out = out; trees = w.trees; binders = bs })).out) (sym is)
        ∙ sym (ap (λ (r : Written). r.out) (play_last bank env goal s.texts ws Item.Back (record { out = out; trees = w.trees; binders = printed s.texts ks })))
        ∙ w.same;
  }

pub pop_last : (ts : List Name) (ks fewer : List ℕ) (k : ℕ) → ks ≡ fewer ++ k ∷ [] → further_out (printed ts ks) ≡ printed ts fewer
pop_last ts ks fewer k e = ap (λ bs. further_out (printed ts bs)) e ∙ ap (λ bs. further_out (map (text_at ts) bs)) (push_nearest fewer k)

pub pop_none : (ts : List Name) (ks fewer : List ℕ) → ks ≡ [] → fewer ≡ [] → further_out (printed ts ks) ≡ printed ts fewer
pop_none ts ks fewer e f = ap (λ bs. further_out (printed ts bs)) e ∙ ap (printed ts) (sym f)

-- the next term
module _ (bank : Terms) (env : Env) (goal out new_out : List ℕ) (ks : List ℕ) (ws left : List Item) (w : Wanted) (old new : Spelling) (ps : List Piece) (p : Piece) (page : HasPage bank ks (ws ++ Item.Term w ∷ []) old) (popped : old.pieces.items ≡ ps ++ p ∷ []) (pieces : new.pieces.items ≡ ps) (names : new.names.items ≡ old.names.items) (l : Lengthens old.texts new.texts) where
  all_pieces : AllByRecursion (HasPiece bank old.texts old.names.items) (ps ++ p ∷ [])
  all_pieces = subst (AllByRecursion (HasPiece bank old.texts old.names.items)) popped page.spelling.pieces

  front_pieces : AllByRecursion (HasPiece bank old.texts old.names.items) ps
  front_pieces = all_front (HasPiece bank old.texts old.names.items) ps (p ∷ []) all_pieces

  more_names : new.names.items ≡ old.names.items ++ []
  more_names = names ∙ sym (append-nil old.names.items)

  shown_left : shown_all bank new.texts new.names.items new.pieces.items ≡ shown_all bank old.texts old.names.items ps
  shown_left =
      ap (λ ns. shown_all bank new.texts ns new.pieces.items) more_names ∙ ap (shown_all bank new.texts (old.names.items ++ [])) pieces
      ∙ all_shown_kept bank old.texts new.texts old.names.items [] l page.spelling.names ps front_pieces

  pub next_page : (steps : List Step) → Puts new.texts ws left steps → HasPage bank ks left new
  next_page steps q = record {
    spelling = record {
      names = subst (AreWithin new.texts) (sym names) (within_all_kept old.texts new.texts old.names.items l page.spelling.names);
      pieces =
          subst (λ ns. AllByRecursion (HasPiece bank new.texts ns) new.pieces.items) (sym more_names)
          (subst (AllByRecursion (HasPiece bank new.texts (old.names.items ++ []))) (sym pieces)
          (all_has_kept bank old.texts new.texts old.names.items [] l page.spelling.names ps front_pieces));
    };
    names = within_all_kept old.texts new.texts ks l page.names;
    items =
        subst (AllByRecursion (HasItem new.texts)) (sym q.is)
        (all_append (HasItem new.texts) ws q.added
        (all_weaker (HasItem old.texts) (HasItem new.texts) (item_kept old.texts new.texts l) ws (all_front (HasItem old.texts) ws (Item.Term w ∷ []) page.items)) q.has);
  }

  pub next_lighter : (steps : List Step) → Puts new.texts ws left steps → 9 * length new.pieces.items + length left < 9 * length old.pieces.items + (length ws + 1)
  next_lighter steps q =
      omega (arith, ap length pieces, ap length popped, length-append ps (p ∷ []), ap length q.is, length-append ws q.added, q.few)

  pub next_writes :
      new_out ≡ out ++ at_once (kind_of w) (printed old.texts ks) (shown_in bank old.texts old.names.items p)
      → Puts new.texts ws left (steps_for (kind_of w) (printed old.texts ks) (shown_in bank old.texts old.names.items p))
      → Writes bank env goal out ks (ws ++ Item.Term w ∷ []) old → Writes bank env goal new_out ks left new
  next_writes e q x = by x.trees shown x.same
    where
      bs : List Name
      bs = printed old.texts ks

      k : ℕ
      k = kind_of w

      shown : shown_all bank old.texts old.names.items ps ++ shown_in bank old.texts old.names.items p ∷ [] ≡ flats env x.trees
      shown =
          sym (map-append (shown_in bank old.texts old.names.items) ps (p ∷ [])) ∙ ap (shown_all bank old.texts old.names.items) (sym popped) ∙ x.pieces

      by : (trees : List Tree) → shown_all bank old.texts old.names.items ps ++ shown_in bank old.texts old.names.items p ∷ [] ≡ flats env trees
          → (play env (steps_in old.texts (ws ++ Item.Term w ∷ [])) (record { out = out; trees = trees; binders = bs })).out ≡ goal
          → Writes bank env goal new_out ks left new
      by [] f same = absurd (omega (arith, ap length f, length-append (shown_all bank old.texts old.names.items ps) (shown_in bank old.texts old.names.items p ∷ [])))
      by (t ∷ ts) f same =
          let g =
          snoc_same (shown_all bank old.texts old.names.items ps) (flats env ts ++ flats env (parts_of t)) (shown_in bank old.texts old.names.items p) (node_of env t)
          (f ∙ ap (λ z. flats env ts ++ z) (flat_parts env t) ∙ sym (append_assoc (flats env ts) (flats env (parts_of t)) (node_of env t ∷ []))) in
          record {
            trees = parts_of t ++ ts;
            pieces = shown_left ∙ g.0 ∙ sym (flats_append env (parts_of t) ts);
            same =
                ap (λ (ss : List Step). (play env ss (record { out = new_out; trees = parts_of t ++ ts; binders = printed new.texts ks })).out)
                (ap (steps_in new.texts) q.is ∙ map-append (step_in new.texts) ws q.added
                ∙ ap (λ zs. zs ++ steps_in new.texts q.added)
                (steps_kept old.texts new.texts l ws (all_front (HasItem old.texts) ws (Item.Term w ∷ []) page.items))
                ∙ ap (λ zs. steps_in old.texts ws ++ zs) (q.are ∙ ap (steps_for k bs) g.1))
                ∙ ap (λ (cs : List Name). (play env (steps_in old.texts ws ++ steps_for k bs (node_of env t)) (record { out = new_out; trees = parts_of t ++ ts; binders = cs })).out)
                (printed_kept old.texts new.texts l ks page.names)
                ∙ ap (λ (o : List ℕ). (play env (steps_in old.texts ws ++ steps_for k bs (node_of env t)) (record { out = o; trees = parts_of t ++ ts; binders = bs })).out)
                (e ∙ ap (λ z. out ++ at_once k bs z) g.1)
                ∙ ap (λ (r : Written). r.out)
                (play_append env (steps_in old.texts ws) (steps_for k bs (node_of env t)) (record { out = out ++ at_once k bs (node_of env t); trees = parts_of t ++ ts; binders = bs })
                ∙ ap (play env (steps_in old.texts ws)) (plays env k out ts bs t)
                ∙ sym (play_last bank env goal old.texts ws (Item.Term w) (record { out = out; trees = t ∷ ts; binders = bs })))
                ∙ same;
          }

-- no term is left
module _ (bank : Terms) (env : Env) (goal out : List ℕ) (ks : List ℕ) (ws : List Item) (w : Wanted) (s : Spelling) where
  flat_some : (t : Tree) (ts : List Tree) → [] ≡ flats env (t ∷ ts) → ⊥
  flat_some t ts e =
      omega (
        arith,
        ap length (e ∙ ap (λ z. flats env ts ++ z) (flat_parts env t)),
        length-append (flats env ts) (flats env (parts_of t) ++ node_of env t ∷ []),
        length-append (flats env (parts_of t)) (node_of env t ∷ []),
      )

  pub none_writes : s.pieces.items ≡ [] → Writes bank env goal out ks (ws ++ Item.Term w ∷ []) s → Writes bank env goal out ks ws s
  none_writes e x = by x.trees (ap (shown_all bank s.texts s.names.items) (sym e) ∙ x.pieces) x.pieces x.same
    where
      by : (trees : List Tree) → [] ≡ flats env trees → shown_all bank s.texts s.names.items s.pieces.items ≡ flats env trees
          → (play env (steps_in s.texts (ws ++ Item.Term w ∷ [])) (record { out = out; trees = trees; binders = printed s.texts ks })).out ≡ goal
          → Writes bank env goal out ks ws s
      by [] f p same = record {
        trees = [];
        pieces = p;
        same = sym (ap (λ (r : Written). r.out) (play_last bank env goal s.texts ws (Item.Term w) (record { out = out; trees = []; binders = printed s.texts ks }))) ∙ same;
      }
      by (t ∷ ts) f p same = absurd (flat_some t ts f)

-- a page without its last item
pub page_front : (bank : Terms) (ks : List ℕ) (ws : List Item) (i : Item) (s : Spelling) → HasPage bank ks (ws ++ i ∷ []) s → HasPage bank ks ws s
page_front bank ks ws i s h = record { spelling = h.spelling; names = h.names; items = all_front (HasItem s.texts) ws (i ∷ []) h.items }

-- with one binder more
pub page_under : (bank : Terms) (ks more : List ℕ) (k : ℕ) (ws : List Item) (s : Spelling) → more ≡ ks ++ k ∷ [] → HasPage bank ks (ws ++ Item.Under k ∷ []) s → HasPage bank more ws s
page_under bank ks more k ws s e h = record {
  spelling = h.spelling;
  names = subst (AreWithin s.texts) (sym e) (all_push (λ j. j < length s.texts) ks k h.names (all_back (HasItem s.texts) ws (Item.Under k ∷ []) h.items).0);
  items = all_front (HasItem s.texts) ws (Item.Under k ∷ []) h.items;
}

-- the whole term
pub starts : (bank : Terms) (env : Env) (out : List ℕ) (s : Spelling) (t : Tree) → shown_all bank s.texts s.names.items s.pieces.items ≡ flat env t →
    Writes bank env (out ++ term_text env t) out [] (Item.Term Wanted.Term ∷ []) s
unfolding term_text
starts bank env out s t e = record { trees = t ∷ []; pieces = e; same = refl }

-- an equal piece
module _ (bank : Terms) (ts : List Name) (ns : List ℕ) (k : ℕ) (bs : List Name) where
  pub writes_as :
      (old new : List ℕ) (r : Result (Unit {0}) NoMemory) (p q : Piece) → p ≡ q → OnOk r (new ≡ old ++ at_once k bs (shown_in bank ts ns q))
      → OnOk r (new ≡ old ++ at_once k bs (shown_in bank ts ns p))
  writes_as old new r p q e h = subst (λ z. OnOk r (new ≡ old ++ at_once k bs (shown_in bank ts ns z))) (sym e) h

  pub puts_as :
      (us : List Name) (old new : List Item) (r : Result (Unit {0}) NoMemory) (p q : Piece) → p ≡ q → OnOk r (Puts us old new (steps_for k bs (shown_in bank ts ns q)))
      → OnOk r (Puts us old new (steps_for k bs (shown_in bank ts ns p)))
  puts_as us old new r p q e h = subst (λ z. OnOk r (Puts us old new (steps_for k bs (shown_in bank ts ns z)))) (sym e) h

-- a binder ends, if there is one
pub ended : (ts : List Name) (ks fewer : List ℕ) (r : Option ℕ) → MatchOption r ((ks ≡ []) × (fewer ≡ [])) (λ h. ks ≡ fewer ++ h ∷ []) → further_out (printed ts ks) ≡ printed ts fewer
ended ts ks fewer None m = pop_none ts ks fewer m.0 m.1
ended ts ks fewer (Some k) m = pop_last ts ks fewer k m

pub ended_within : (ts : List Name) (ks fewer : List ℕ) (r : Option ℕ) → MatchOption r ((ks ≡ []) × (fewer ≡ [])) (λ h. ks ≡ fewer ++ h ∷ []) → AreWithin ts ks → AreWithin ts fewer
ended_within ts ks fewer None m h = subst (AreWithin ts) (sym m.1) tt
ended_within ts ks fewer (Some k) m h = all_front (λ j. j < length ts) fewer (k ∷ []) (subst (AreWithin ts) m h)

-- the text of a binder's name
pub empty_name : (t : Name) → length t ≡ 0 → codes "_" ≡ name_text t
unfolding name_text
empty_name [] e = refl
empty_name (b ∷ bs) e = absurd (omega arith)

pub some_name : (t : Name) → ¬ (length t ≡ 0) → t ≡ name_text t
unfolding name_text
some_name [] e = absurd (e refl)
some_name (b ∷ bs) e = refl

-- the last piece is sound
pub next_has :
    (bank : Terms) (ks : List ℕ) (ws : List Item) (w : Wanted) (s : Spelling) (ps : List Piece) (p : Piece) → HasPage bank ks (ws ++ Item.Term w ∷ []) s
    → s.pieces.items ≡ ps ++ p ∷ [] → HasPiece bank s.texts s.names.items p
next_has bank ks ws w s ps p page popped =
    (all_back (HasPiece bank s.texts s.names.items) ps (p ∷ []) (subst (AllByRecursion (HasPiece bank s.texts s.names.items)) popped page.spelling.pieces)).0

-- the same of an equal spelling
pub writes_popped :
    (bank : Terms) (env : Env) (goal out ks : List ℕ) (ws : List Item) (old new : Spelling) → new.texts ≡ old.texts → new.names.items ≡ old.names.items
    → new.pieces.items ≡ old.pieces.items → Writes bank env goal out ks ws old → Writes bank env goal out ks ws new
writes_popped bank env goal out ks ws old new e f g w = record {
  trees = w.trees;
  pieces =
      ap (λ ts. shown_all bank ts new.names.items new.pieces.items) e ∙ ap (λ ns. shown_all bank old.texts ns new.pieces.items) f
      ∙ ap (shown_all bank old.texts old.names.items) g ∙ w.pieces;
  same =
      ap (λ ts. (play env (steps_in ts ws) (record { out = out; trees = w.trees; binders = printed ts ks })).out) e ∙ w.same;
}

-- a list of nothing
pub take_none : {X : Type 0} (n : ℕ) (xs : List X) → length xs ≡ 0 → take n xs ≡ xs
take_none zero [] e = refl
take_none (suc n) [] e = refl
take_none n (x ∷ xs) e = absurd (omega arith)

pub nothing_left : {X : Type 0} (xs : List X) → length xs ≡ 0 → xs ≡ []
nothing_left [] e = refl
nothing_left (x ∷ xs) e = absurd (omega arith)

-- all is written
pub all_written : (bank : Terms) (env : Env) (goal out ks : List ℕ) (ws : List Item) (s : Spelling) → length ws ≡ 0 → Writes bank env goal out ks ws s → out ≡ goal
all_written bank env goal out ks [] s e w = w.same
all_written bank env goal out ks (x ∷ xs) s e w = absurd (omega arith)

-- at the start
pub start_writes :
    (bank : Terms) (env : Env) (out : List ℕ) (s : Spelling) (t : Tree) (ks : List ℕ) (ws : List Item) → ks ≡ [] → ws ≡ Item.Term Wanted.Term ∷ []
    → shown_all bank s.texts s.names.items s.pieces.items ≡ flat env t → Writes bank env (out ++ term_text env t) out ks ws s
start_writes bank env out s t ks ws e f is =
    subst (λ zs. Writes bank env (out ++ term_text env t) out zs ws s) (sym e)
    (subst (λ vs. Writes bank env (out ++ term_text env t) out [] vs s) (sym f) (starts bank env out s t is))

-- an equal item
pub page_of : (bank : Terms) (ks : List ℕ) (ws : List Item) (s : Spelling) (i j : Item) → i ≡ j → HasPage bank ks (ws ++ i ∷ []) s → HasPage bank ks (ws ++ j ∷ []) s
page_of bank ks ws s i j e h = subst (λ z. HasPage bank ks (ws ++ z ∷ []) s) e h

pub writes_of :
    (bank : Terms) (env : Env) (goal out ks : List ℕ) (ws : List Item) (s : Spelling) (i j : Item) → i ≡ j → Writes bank env goal out ks (ws ++ i ∷ []) s
    → Writes bank env goal out ks (ws ++ j ∷ []) s
writes_of bank env goal out ks ws s i j e h = subst (λ z. Writes bank env goal out ks (ws ++ z ∷ []) s) e h

-- a page whose nearest binder ends
pub page_ended :
    (bank : Terms) (ks fewer : List ℕ) (r : Option ℕ) (ws : List Item) (s : Spelling) (i : Item) → MatchOption r ((ks ≡ []) × (fewer ≡ [])) (λ h. ks ≡ fewer ++ h ∷ [])
    → HasPage bank ks (ws ++ i ∷ []) s → HasPage bank fewer ws s
page_ended bank ks fewer r ws s i m h = record {
  spelling = h.spelling;
  names = ended_within s.texts ks fewer r m h.names;
  items = all_front (HasItem s.texts) ws (i ∷ []) h.items;
}
