-- What pieces stand for stays where texts and names are added.
use Rattle.std.proofs.Common.{◌≡◌, ℕ, ◌-◌, ◌<◌, ◌≤◌, Bool, false, List, [], ◌∷◌, ◌++◌, map, length, take, drop, refl, sym, ap, ◌∙◌, subst, arith, length-append, append-nil}
use Rattle.std.specs.Prelude.{reverse}
use Rattle.std.specs.List.{AllByRecursion}
use Rattle.std.proofs.lemmas.List.{map-append, take-append-le, take-map, drop-append-le, length-drop}
use Rattle.lq_trees.specs.Tree.{Name}
use Rattle.lq_terms.specs.Terms.{Terms}
use Rattle.lq_print.specs.declared.pieces.Binder.{Binder}
use Rattle.lq_print.specs.declared.pieces.Piece.{Piece}
use Rattle.lq_print.specs.declared.spelling.Spelling.{Spelling}
use Rattle.lq_print.specs.Tables.{text_at, IsText, Lengthens, AreWithin}
use Rattle.lq_print.specs.Spelling.{Over, Shown, named, product, function, local, unknown, Spelled, emit, put_name, put_bound, enter, hide, marked}
use Rattle.lq_print.specs.Pieces.{over_in, shown_in, shown_all, HasBinder, HasPiece, spelled_of, IsSpelling, Spells}
use Rattle.lq_print.proofs.TableLaws.{lengthens_self, text_kept, within_kept, within_all_kept, texts_kept, text_is, text_within}
use Rattle.lq_print.proofs.Lists.{all_push, all_take, all_drop, push_nearest}

-- the names between two places
between_kept : (ns more : List ℕ) (low high : ℕ) → low ≤ high → high ≤ length ns → take (high - low) (drop low (ns ++ more)) ≡ take (high - low) (drop low ns)
between_kept ns more low high l h =
    ap (take (high - low)) (drop-append-le low ns more (omega arith))
    ∙ take-append-le (high - low) (drop low ns) more (omega (arith, length-drop low ns))

module _ (bank : Terms) (ts us : List Name) (ns more : List ℕ) (l : Lengthens ts us) (w : AreWithin ts ns) where
  over_kept : (b : Binder) → HasBinder bank ns b → over_in bank us (ns ++ more) b ≡ over_in bank ts ns b
  over_kept b h =
      ap (λ (xs : List Name). with_inside xs) (ap (map (text_at us)) (between_kept ns more b.low b.high h.low h.high)
      ∙ texts_kept ts us (take (b.high - b.low) (drop b.low ns)) l (all_take (λ k. k < length ts) (b.high - b.low) (drop b.low ns) (all_drop (λ k. k < length ts) b.low ns w)))
    where
      with_inside : List Name → Over
      with_inside xs = record { own = (over_in bank ts ns b).own; used = b.is_used; inside = xs }

  pub shown_kept : (p : Piece) → HasPiece bank ts ns p → shown_in bank us (ns ++ more) p ≡ shown_in bank ts ns p
  shown_kept (Piece.Bound i) h = refl
  shown_kept (Piece.Named k) h = ap named (text_kept ts us k l h)
  shown_kept (Piece.Sort s) h = refl
  shown_kept Piece.Applied h = refl
  shown_kept (Piece.Product b) h = ap product (over_kept b h)
  shown_kept (Piece.Function b) h = ap function (over_kept b h)
  shown_kept (Piece.Local b) h = ap local (over_kept b h)
  shown_kept (Piece.Unknown n) h = refl

  binder_kept : (b : Binder) → HasBinder bank ns b → HasBinder bank (ns ++ more) b
  binder_kept b h = record { name = h.name; low = h.low; high = omega (arith, h.high, length-append ns more) }

  pub has_kept : (p : Piece) → HasPiece bank ts ns p → HasPiece bank us (ns ++ more) p
  has_kept (Piece.Bound i) h = tt
  has_kept (Piece.Named k) h = within_kept ts us k l h
  has_kept (Piece.Sort s) h = tt
  has_kept Piece.Applied h = tt
  has_kept (Piece.Product b) h = binder_kept b h
  has_kept (Piece.Function b) h = binder_kept b h
  has_kept (Piece.Local b) h = binder_kept b h
  has_kept (Piece.Unknown n) h = tt

  pub all_shown_kept : (ps : List Piece) → AllByRecursion (HasPiece bank ts ns) ps → shown_all bank us (ns ++ more) ps ≡ shown_all bank ts ns ps
  all_shown_kept [] h = refl
  all_shown_kept (p ∷ ps) h = ap (λ q. q ∷ shown_all bank us (ns ++ more) ps) (shown_kept p h.0) ∙ ap (λ qs. shown_in bank ts ns p ∷ qs) (all_shown_kept ps h.1)

  pub all_has_kept : (ps : List Piece) → AllByRecursion (HasPiece bank ts ns) ps → AllByRecursion (HasPiece bank us (ns ++ more)) ps
  all_has_kept [] h = tt
  all_has_kept (p ∷ ps) h = (has_kept p h.0, all_has_kept ps h.1)

-- ---- what each change of the spelling does

same_spelled : (xs ys : List Name) (fs gs : List Bool) (ps qs : List Shown) → xs ≡ ys → fs ≡ gs → ps ≡ qs →
    ◌≡◌ {A = Spelled} (record { names = xs; flags = fs; pieces = ps }) (record { names = ys; flags = gs; pieces = qs })
same_spelled xs ys fs gs ps qs e f g = cc

module _ (bank : Terms) (old new : Spelling) (sound : IsSpelling bank old) where
  -- pieces and flags were changed alone
  pub spells_by :
      (change : Spelled → Spelled) → new.texts ≡ old.texts → new.names.items ≡ old.names.items
      → AllByRecursion (HasPiece bank old.texts old.names.items) new.pieces.items
      → change (spelled_of bank old) ≡ record {
        names = map (text_at old.texts) old.names.items;
        flags = reverse new.flags.items;
        pieces = shown_all bank old.texts old.names.items new.pieces.items;
      }
      → Spells bank old new change
  spells_by change e f has is = record {
    spelling = record {
      names = subst (λ ts. AreWithin ts new.names.items) (sym e) (subst (AreWithin old.texts) (sym f) sound.names);
      pieces =
          subst (λ ts. AllByRecursion (HasPiece bank ts new.names.items) new.pieces.items) (sym e)
          (subst (λ ns. AllByRecursion (HasPiece bank old.texts ns) new.pieces.items) (sym f) has);
    };
    longer = record { texts = subst (Lengthens old.texts) (sym e) (lengthens_self old.texts); more = []; names = f ∙ sym (append-nil old.names.items) };
    same =
        same_spelled _ _ _ _ _ _
        (ap (λ ts. map (text_at ts) new.names.items) e ∙ ap (map (text_at old.texts)) f)
        refl
        (ap (λ ts. shown_all bank ts new.names.items new.pieces.items) e ∙ ap (λ ns. shown_all bank old.texts ns new.pieces.items) f)
        ∙ sym is;
  }

  pub spells_emit :
      (p : Piece) → HasPiece bank old.texts old.names.items p → new.texts ≡ old.texts → new.names.items ≡ old.names.items → new.flags.items ≡ old.flags.items
      → new.pieces.items ≡ old.pieces.items ++ p ∷ [] → Spells bank old new (emit (shown_in bank old.texts old.names.items p))
  spells_emit p h e f g k =
      spells_by (emit (shown_in bank old.texts old.names.items p)) e f
      (subst (AllByRecursion (HasPiece bank old.texts old.names.items)) (sym k) (all_push _ old.pieces.items p sound.pieces h))
      (same_spelled _ _ _ _ _ _ refl (ap reverse (sym g))
      (sym (ap (shown_all bank old.texts old.names.items) k ∙ map-append (shown_in bank old.texts old.names.items) old.pieces.items (p ∷ []))))

  pub spells_bound :
      (i : ℕ) → new.texts ≡ old.texts → new.names.items ≡ old.names.items → reverse new.flags.items ≡ marked i (reverse old.flags.items)
      → new.pieces.items ≡ old.pieces.items ++ Piece.Bound i ∷ [] → Spells bank old new (put_bound i)
  spells_bound i e f g k =
      spells_by (put_bound i) e f
      (subst (AllByRecursion (HasPiece bank old.texts old.names.items)) (sym k) (all_push _ old.pieces.items (Piece.Bound i) sound.pieces tt))
      (same_spelled _ _ _ _ _ _ refl (sym g)
      (sym (ap (shown_all bank old.texts old.names.items) k ∙ map-append (shown_in bank old.texts old.names.items) old.pieces.items (Piece.Bound i ∷ []))))

  pub spells_enter :
      new.texts ≡ old.texts → new.names.items ≡ old.names.items → new.flags.items ≡ old.flags.items ++ false ∷ []
      → new.pieces.items ≡ old.pieces.items → Spells bank old new enter
  spells_enter e f g k =
      spells_by enter e f
      (subst (AllByRecursion (HasPiece bank old.texts old.names.items)) (sym k) sound.pieces)
      (same_spelled _ _ _ _ _ _ refl (sym (ap reverse g ∙ push_nearest old.flags.items false)) (ap (shown_all bank old.texts old.names.items) (sym k)))

  pub spells_hide :
      (n k : ℕ) → new.texts ≡ old.texts → new.names.items ≡ old.names.items → new.flags.items ≡ old.flags.items
      → new.pieces.items ≡ take k old.pieces.items ++ Piece.Unknown n ∷ [] → Spells bank old new (hide n k)
  spells_hide n k e f g h =
      spells_by (hide n k) e f
      (subst (AllByRecursion (HasPiece bank old.texts old.names.items)) (sym h)
      (all_push _ (take k old.pieces.items) (Piece.Unknown n) (all_take _ k old.pieces.items sound.pieces) tt))
      (same_spelled _ _ _ _ _ _ refl (ap reverse (sym g))
      (ap (λ ps. ps ++ unknown n ∷ []) (take-map (shown_in bank old.texts old.names.items) k old.pieces.items)
      ∙ sym (ap (shown_all bank old.texts old.names.items) h ∙ map-append (shown_in bank old.texts old.names.items) (take k old.pieces.items) (Piece.Unknown n ∷ []))))

  pub spells_name :
      (n : ℕ) (x : Name) → IsText new.texts n x → Lengthens old.texts new.texts → new.names.items ≡ old.names.items ++ n ∷ [] → new.flags.items ≡ old.flags.items
      → new.pieces.items ≡ old.pieces.items ++ Piece.Named n ∷ [] → Spells bank old new (put_name x)
  spells_name n x t l f g k =
      let there : n < length new.texts = text_within new.texts n x t in
      record {
        spelling = record {
          names = subst (AreWithin new.texts) (sym f) (all_push _ old.names.items n (within_all_kept old.texts new.texts old.names.items l sound.names) there);
          pieces =
              subst (λ ns. AllByRecursion (HasPiece bank new.texts ns) new.pieces.items) (sym f)
              (subst (AllByRecursion (HasPiece bank new.texts (old.names.items ++ n ∷ []))) (sym k)
              (all_push _ old.pieces.items (Piece.Named n)
              (all_has_kept bank old.texts new.texts old.names.items (n ∷ []) l sound.names old.pieces.items sound.pieces) there));
        };
        longer = record { texts = l; more = n ∷ []; names = f };
        same =
            same_spelled _ _ _ _ _ _
            (ap (map (text_at new.texts)) f ∙ map-append (text_at new.texts) old.names.items (n ∷ [])
            ∙ ap (λ xs. xs ++ text_at new.texts n ∷ []) (texts_kept old.texts new.texts old.names.items l sound.names)
            ∙ ap (λ y. map (text_at old.texts) old.names.items ++ y ∷ []) (text_is new.texts n x t))
            (ap reverse g)
            (ap (λ ns. shown_all bank new.texts ns new.pieces.items) f
            ∙ ap (shown_all bank new.texts (old.names.items ++ n ∷ [])) k
            ∙ map-append (shown_in bank new.texts (old.names.items ++ n ∷ [])) old.pieces.items (Piece.Named n ∷ [])
            ∙ ap (λ qs. qs ++ named (text_at new.texts n) ∷ [])
            (all_shown_kept bank old.texts new.texts old.names.items (n ∷ []) l sound.names old.pieces.items sound.pieces)
            ∙ ap (λ y. shown_all bank old.texts old.names.items old.pieces.items ++ named y ∷ []) (text_is new.texts n x t));
      }
