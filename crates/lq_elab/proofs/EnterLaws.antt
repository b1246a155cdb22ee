-- Under a binder the state holds with one hypothesis and one frame more, and the rest is asked for.
use Rattle.std.proofs.Common.{◌≡◌, ◌≤◌, ◌+◌, ◌∙◌, ℕ, refl, sym, ap, ap₂, arith, false, List, [], ◌∷◌, ◌++◌, Option, None, Some}
use Rattle.std.proofs.Common.{subst as along}
use Rattle.std.specs.Prelude.{option_map}
use Rattle.lq_trees.specs.Tree.{Name, Tree}
use Rattle.lq_trees.specs.Fresh.{is_listed, opened}
use Rattle.lq_ast.specs.Syntax.{Surface}
use Rattle.lq_terms.specs.declared.nodes.NameId.{NameId}
use Rattle.lq_terms.specs.declared.nodes.TermId.{TermId}
use Rattle.lq_terms.specs.declared.nodes.Hypothesis.{Hypothesis}
use Rattle.lq_terms.specs.Terms.{Terms, HasName, HasTerm, Grows, text_of, tree_of}
use Rattle.lq_terms.specs.Contexts.{HasBody, HasAllOf, hypothesis_of, context_of}
use Rattle.lq_terms.proofs.Growth.{Grows-trans}
use Rattle.lq_terms.proofs.Tellings.{body-grown, context_of-grown}
use Rattle.lq_solving.specs.Stores.{Store, names_in}
use Rattle.lq_solving.specs.Kept.{IsContext, OptionStands, StandsIn}
use Rattle.lq_solving.specs.ElabFaults.{Elab}
use Rattle.lq_solving.specs.Elaboration.{Site as TreeSite, Found, bind}
use Rattle.lq_solving.proofs.ElabKept.{context_under}
use Rattle.lq_solving.proofs.InferKept.{names_more}
use Rattle.lq_solving.proofs.StoreLaws.{all_more}
use Rattle.lq_solving.proofs.StandsLaws.{open_stands}
use Rattle.lq_evars.specs.Places.{Places, store_of}
use Rattle.lq_evars.proofs.Growing.{store_of-grown}
use Rattle.lq_elab.specs.declared.entering.Under.{Under}
use Rattle.lq_elab.specs.declared.frames.Bound.{Bound}
use Rattle.lq_elab.specs.declared.frames.Frame.{Frame}
use Rattle.lq_elab.specs.declared.scope.Meaning.{Meaning}
use Rattle.lq_elab.specs.declared.sites.Site.{Site}
use Rattle.lq_elab.specs.declared.views.Asked.{Asked}
use Rattle.lq_elab.specs.declared.turns.Turn.{Turn}
use Rattle.lq_elab.specs.Waiting.{Spot, Waiting, waiting, found_work, asked_work, held_work, Leads}
use Rattle.lq_elab.specs.Waiting as tree
use Rattle.lq_elab.specs.Naming.{meaning, under_binder}
use Rattle.lq_elab.specs.Scopes.{IsScope, meaning_of}
use Rattle.lq_elab.specs.Views.{asked_tree}
use Rattle.lq_elab.specs.Frames.{part_of, shorter, outside, binders_with, binders_of, spot_of, waits, HasBound, HasPart, IsBound, PartBinds, FramesHold, PartStands, AllStand, weight_of, weights}
use Rattle.lq_elab.specs.Entering.{body_under, part_under, rest_part, spot_under, RestStands}
use Rattle.lq_elab.specs.States.{IsState, TurnStands, site_of, turn_work}
use Rattle.lq_elab.proofs.GoingLaws.{leads_same}
use Rattle.lq_elab.proofs.FrameLaws.{shorter_last, context_more, spot_grown, waits_grown}
use Rattle.lq_elab.proofs.StateLaws.{site_of_grown, state_grown, stands_grown, wanted_grown}

-- ---- the same work by equal things

pub asked_same : (d e : TreeSite) (us vs : List Waiting) (l m : Spot) (S T : Store) (v w : Option Tree) → d ≡ e → us ≡ vs → l ≡ m → S ≡ T → v ≡ w → (t : Surface) (n : ℕ) →
    asked_work d us l S t v n ≡ asked_work e vs m T t w n
asked_same d e us vs l m S T v w p q r s o t n =
    ap (λ z. asked_work z us l S t v n) p ∙ ap₂ (λ z y. asked_work e z y S t v n) q r ∙ ap₂ (λ z y. asked_work e vs m z t y n) s o

pub found_same : (d e : TreeSite) (us vs : List Waiting) (x y : Found) → d ≡ e → us ≡ vs → x ≡ y → (n : ℕ) → found_work d us x n ≡ found_work e vs y n
found_same d e us vs x y p q r n = ap (λ z. found_work z us x n) p ∙ ap₂ (λ z f. found_work e z f n) q r

-- ---- a binder's part, whose ever

pub outside_under : (u : Under) (b : Bound) (hs : List Hypothesis) → outside (part_under u b) hs ≡ shorter hs
outside_under (Under.Product k) b hs = refl
outside_under Under.Function b hs = refl
outside_under (Under.Definition v) b hs = refl

pub weight_under : (u : Under) (b : Bound) → weight_of (part_under u b) ≡ 2
weight_under (Under.Product k) b = refl
weight_under Under.Function b = refl
weight_under (Under.Definition v) b = refl

module _ (bank : Terms) where
  pub binders_under : (u : Under) (b : Bound) (bs : List (Name × Name)) → binders_with bank (part_under u b) bs ≡ bind (text_of bank b.binder) (text_of bank b.hypothesis) bs
  binders_under (Under.Product k) b bs = refl
  binders_under Under.Function b bs = refl
  binders_under (Under.Definition v) b bs = refl

  pub part_is : (u : Under) (b : Bound) → part_of bank (part_under u b) ≡ rest_part bank u (text_of bank b.binder) (text_of bank b.hypothesis) (tree_of bank b.kind)
  part_is (Under.Product k) b = refl
  part_is Under.Function b = refl
  part_is (Under.Definition v) b = refl

  has_under : (u : Under) (b : Bound) → HasBound bank b → HasBody bank (body_under u) → HasPart bank (part_under u b)
  has_under (Under.Product k) b h o = h
  has_under Under.Function b h o = h
  has_under (Under.Definition v) b h o = (h, o)

  pub bound_of : (u : Under) (b : Bound) → HasPart bank (part_under u b) → HasBound bank b × HasBody bank (body_under u)
  bound_of (Under.Product k) b h = (h, tt)
  bound_of Under.Function b h = (h, tt)
  bound_of (Under.Definition v) b h = (h.0, h.1)

  binds_under : (e : TreeSite) (hs : List Hypothesis) (fs : List Frame) (u : Under) (b : Bound) → IsBound bank e hs fs b (body_under u) → PartBinds bank e hs fs (part_under u b)
  binds_under e hs fs (Under.Product k) b h = h
  binds_under e hs fs Under.Function b h = h
  binds_under e hs fs (Under.Definition v) b h = h

  pub is_bound_of : (e : TreeSite) (hs : List Hypothesis) (fs : List Frame) (u : Under) (b : Bound) → PartBinds bank e hs fs (part_under u b) → IsBound bank e hs fs b (body_under u)
  is_bound_of e hs fs (Under.Product k) b h = h
  is_bound_of e hs fs Under.Function b h = h
  is_bound_of e hs fs (Under.Definition v) b h = h

  stands_under : (s : Store) (xs : List Name) (u : Under) (b : Bound) → PartStands s xs (part_of bank (part_under u b))
  stands_under s xs (Under.Product k) b = tt
  stands_under s xs Under.Function b = tt
  stands_under s xs (Under.Definition v) b = tt

-- the same over trees while the bank grows
rest_part_grown : (old new : Terms) → Grows old new → (u : Under) → HasBody old (body_under u) → (x y : Name) (A : Tree) → rest_part new u x y A ≡ rest_part old u x y A
rest_part_grown old new g (Under.Product k) h x y A = refl
rest_part_grown old new g Under.Function h x y A = refl
rest_part_grown old new g (Under.Definition v) h x y A = ap (λ z. tree.definition_rest x y z A) (g.tree v h)

-- ---- the state with the hypothesis and the frame

module _ (bank : Terms) (c : Site) (s : Places) (hs : List Hypothesis) (es : List (NameId × Meaning)) (fs : List Frame) (h : IsState bank c s hs es fs) (u : Under) (b : Bound) (w : Option TermId) where
  abbrev pub last : Hypothesis
  last = record { name = b.hypothesis; body = body_under u; kind = b.kind }

  abbrev pub one : Frame
  one = record { part = part_under u b; wanted = w }

  outside_is : outside (part_under u b) (hs ++ last ∷ []) ≡ hs
  outside_is = outside_under u b (hs ++ last ∷ []) ∙ shorter_last hs last

  pub waits_entered : waits bank (hs ++ last ∷ []) (one ∷ fs)
      ≡ waiting (spot_of bank hs fs) (option_map (tree_of bank) w) (rest_part bank u (text_of bank b.binder) (text_of bank b.hypothesis) (tree_of bank b.kind)) ∷ waits bank hs fs
  waits_entered =
      ap (λ gs. waiting (spot_of bank gs fs) (option_map (tree_of bank) w) (part_of bank (part_under u b)) ∷ waits bank gs fs) outside_is
      ∙ ap (λ p. waiting (spot_of bank hs fs) (option_map (tree_of bank) w) p ∷ waits bank hs fs) (part_is bank u b)

  pub spot_entered : spot_of bank (hs ++ last ∷ []) (one ∷ fs) ≡ under_binder (spot_of bank hs fs) (text_of bank b.binder) (hypothesis_of bank last)
  spot_entered = ap₂ (λ bs k. record { binders = bs; context = k }) (binders_under bank u b (binders_of bank fs)) (context_more bank hs last)

  module _ (has : HasBound bank b) (new : is_listed (names_in (context_of bank hs)) (text_of bank b.hypothesis) ≡ false)
      (hidden : meaning_of bank b.hidden ≡ meaning (site_of bank c) (spot_of bank hs fs) (text_of bank b.binder))
      (scope : List (NameId × Meaning)) (is : IsScope bank (meaning (site_of bank c) (under_binder (spot_of bank hs fs) (text_of bank b.binder) (hypothesis_of bank last))) scope)
      (body : HasBody bank (body_under u)) (stands : OptionStands (store_of bank s) (names_in (context_of bank hs)) (option_map (tree_of bank) (body_under u)))
      (kind : StandsIn (store_of bank s) (context_of bank hs) (tree_of bank b.kind))
      (wanted : HasBody bank w) (wanted_stands : OptionStands (store_of bank s) (names_in (context_of bank hs)) (option_map (tree_of bank) w)) where
    is_bound : IsBound bank (site_of bank c) (hs ++ last ∷ []) fs b (body_under u)
    is_bound = record {
      last = ap (λ gs. gs ++ last ∷ []) (sym (shorter_last hs last));
      hidden = hidden ∙ ap (λ gs. meaning (site_of bank c) (spot_of bank gs fs) (text_of bank b.binder)) (sym (shorter_last hs last));
    }

    pub state_entered : IsState bank c s (hs ++ last ∷ []) scope (one ∷ fs)
    state_entered = record {
      store = h.store;
      kept = h.kept;
      site = h.site;
      context = all_more (HasAllOf bank) hs last h.context (record { name = has.hypothesis; body = body; kind = has.kind });
      hypotheses = along (IsContext (store_of bank s)) (sym (context_more bank hs last)) (context_under (store_of bank s) (context_of bank hs) (hypothesis_of bank last) h.hypotheses new stands kind);
      frames = (has_under bank u b has body, wanted, binds_under bank (site_of bank c) (hs ++ last ∷ []) fs u b is_bound, along (λ gs. FramesHold bank (site_of bank c) gs fs) (sym outside_is) h.frames);
      stand = along (AllStand (store_of bank s)) (sym waits_entered) (wanted_stands, rest_stands (text_of bank b.binder) (text_of bank b.hypothesis) (tree_of bank b.kind), h.stand);
      scope = along (λ l. IsScope bank (meaning (site_of bank c) l) scope) (sym spot_entered) is;
    }
      where
        rest_stands : (x y : Name) (A : Tree) → PartStands (store_of bank s) (names_in (context_of bank hs)) (rest_part bank u x y A)
        rest_stands x y A = by u
          where
            by : (v : Under) → PartStands (store_of bank s) (names_in (context_of bank hs)) (rest_part bank v x y A)
            by (Under.Product k) = tt
            by Under.Function = tt
            by (Under.Definition v) = tt

-- ---- a binder is entered in a bank that grows, and what is wanted of the rest is opened in one that grows further

module _ (a b d : Terms) (g1 : Grows a b) (g2 : Grows b d) (c : Site) (s : Places) (hs : List Hypothesis) (es : List (NameId × Meaning)) (fs : List Frame) (h : IsState a c s hs es fs) (u : Under) (x : NameId) (K : TermId) (w B : Option TermId) (o : Option TermId) (ob : o ≡ body_under u)
    (name : HasName a x) (body : HasBody a (body_under u)) (stands : OptionStands (store_of a s) (names_in (context_of a hs)) (option_map (tree_of a) (body_under u)))
    (hk : HasTerm a K) (kind : StandsIn (store_of a s) (context_of a hs) (tree_of a K)) (hw : HasBody a w) (wanted : OptionStands (store_of a s) (names_in (context_of a hs)) (option_map (tree_of a) w))
    (hb : HasBody a B) (rest : RestStands (store_of a s) (names_in (context_of a hs)) (option_map (tree_of a) B))
    (m : Bound) (has : HasBound b m) (binder : m.binder ≡ x) (same : m.kind ≡ K) (y : Name) (named : text_of b m.hypothesis ≡ y)
    (new : is_listed (names_in (context_of b hs)) (text_of b m.hypothesis) ≡ false)
    (hidden : meaning_of b m.hidden ≡ meaning (site_of b c) (spot_of b hs fs) (text_of b x)) (scope : List (NameId × Meaning))
    (is : IsScope b (meaning (site_of b c) (under_binder (spot_of b hs fs) (text_of b x) (hypothesis_of b (record { name = m.hypothesis; body = o; kind = K })))) scope) where
  first : IsState b c s hs es fs
  first = state_grown a b g1 c s hs es fs h

  abbrev pub frame : Frame
  frame = record { part = part_under u m; wanted = w }

  abbrev pub own : Hypothesis
  own = record { name = m.hypothesis; body = body_under u; kind = m.kind }

  kind_there : StandsIn (store_of b s) (context_of b hs) (tree_of b m.kind)
  kind_there = along (λ z. StandsIn (store_of b s) (context_of b hs) (tree_of b z)) (sym same) (stands_grown a b g1 c s hs es fs h K hk kind)

  there : IsState b c s (hs ++ own ∷ []) scope (frame ∷ fs)
  there =
      let v = wanted_grown a b g1 c s hs es fs h (body_under u) body stands in
      let k = wanted_grown a b g1 c s hs es fs h w hw wanted in
      state_entered b c s hs es fs first u m w has new (hidden ∙ ap (λ z. meaning (site_of b c) (spot_of b hs fs) (text_of b z)) (sym binder)) scope
      (along (λ z. IsScope b (meaning (site_of b c) (under_binder (spot_of b hs fs) (text_of b z) (hypothesis_of b own))) scope) (sym binder)
      (along (λ z. IsScope b (meaning (site_of b c) (under_binder (spot_of b hs fs) (text_of b x) (hypothesis_of b (record { name = m.hypothesis; body = body_under u; kind = z })))) scope) (sym same)
      (along (λ z. IsScope b (meaning (site_of b c) (under_binder (spot_of b hs fs) (text_of b x) (hypothesis_of b (record { name = m.hypothesis; body = z; kind = K })))) scope) ob is)))
      v.0 v.1 kind_there k.0 k.1

  module _ (ks : List Hypothesis) (context : ks ≡ hs ++ record { name = m.hypothesis; body = o; kind = K } ∷ []) where
    context_is : ks ≡ hs ++ own ∷ []
    context_is =
        context ∙ ap (λ z. hs ++ record { name = m.hypothesis; body = z; kind = K } ∷ []) ob
        ∙ ap (λ z. hs ++ record { name = m.hypothesis; body = body_under u; kind = z } ∷ []) (sym same)

    pub state_descended : (ps : List Frame) → ps ≡ frame ∷ fs → IsState d c s ks scope ps
    state_descended ps e =
        along (λ z. IsState d c s ks scope z) (sym e) (along (λ z. IsState d c s z scope (frame ∷ fs)) (sym context_is) (state_grown b d g2 c s (hs ++ own ∷ []) scope (frame ∷ fs) there))

    ad : Grows a d
    ad = Grows-trans a b d g1 g2

    store_is : store_of d s ≡ store_of a s
    store_is = store_of-grown a d ad s h.store

    kind_is : tree_of b m.kind ≡ tree_of a K
    kind_is = ap (tree_of b) same ∙ g1.tree K hk

    binder_is : text_of b m.binder ≡ text_of a x
    binder_is = ap (text_of b) binder ∙ g1.text x name

    own_is : hypothesis_of b own ≡ record { name = y; body = option_map (tree_of a) (body_under u); kind = tree_of a K }
    own_is =
        ap (λ z. record { name = z; body = option_map (tree_of b) (body_under u); kind = tree_of b m.kind }) named
        ∙ ap₂ (λ z k. record { name = y; body = z; kind = k }) (body-grown a b g1 (body_under u) body) kind_is

    spot_is : spot_of d (hs ++ own ∷ []) (frame ∷ fs) ≡ spot_under a (spot_of a hs fs) u (text_of a x) y (tree_of a K)
    spot_is =
        spot_grown b d g2 (site_of b c) (hs ++ own ∷ []) (frame ∷ fs) there.context there.frames
        ∙ spot_entered b c s hs es fs first u m w
        ∙ ap₂ (λ l z. under_binder l z (hypothesis_of b own)) (spot_grown a b g1 (site_of a c) hs fs h.context h.frames) binder_is
        ∙ ap (under_binder (spot_of a hs fs) (text_of a x)) own_is

    waits_are : waits d (hs ++ own ∷ []) (frame ∷ fs)
        ≡ waiting (spot_of a hs fs) (option_map (tree_of a) w) (rest_part a u (text_of a x) y (tree_of a K)) ∷ waits a hs fs
    waits_are =
        waits_grown b d g2 (site_of b c) (hs ++ own ∷ []) (frame ∷ fs) there.context there.frames
        ∙ waits_entered b c s hs es fs first u m w
        ∙ ap₂ (λ l o. waiting l o (rest_part b u (text_of b m.binder) (text_of b m.hypothesis) (tree_of b m.kind)) ∷ waits b hs fs) (spot_grown a b g1 (site_of a c) hs fs h.context h.frames) (body-grown a b g1 w hw)
        ∙ ap (λ z. waiting (spot_of a hs fs) (option_map (tree_of a) w) z ∷ waits b hs fs)
        (ap₂ (λ z k. rest_part b u z k (tree_of b m.kind)) binder_is named ∙ ap (rest_part b u (text_of a x) y) kind_is ∙ rest_part_grown a b g1 u body (text_of a x) y (tree_of a K))
        ∙ ap (λ vs. waiting (spot_of a hs fs) (option_map (tree_of a) w) (rest_part a u (text_of a x) y (tree_of a K)) ∷ vs) (waits_grown a b g1 (site_of a c) hs fs h.context h.frames)

    module _ (q : Option TermId) (opens : option_map (tree_of d) q ≡ option_map (opened (text_of b m.hypothesis)) (option_map (tree_of b) B)) where
      first_is : option_map (tree_of d) q ≡ option_map (opened y) (option_map (tree_of a) B)
      first_is = opens ∙ ap₂ (λ z t. option_map (opened z) t) named (body-grown a b g1 B hb)

      pub descended_goes : (r : Asked) (ps : List Frame) → ps ≡ frame ∷ fs → (f : ℕ → Elab Found) (budget left : ℕ) →
          Leads f (asked_work (site_of a c) (waiting (spot_of a hs fs) (option_map (tree_of a) w) (rest_part a u (text_of a x) y (tree_of a K)) ∷ waits a hs fs)
          (spot_under a (spot_of a hs fs) u (text_of a x) y (tree_of a K)) (store_of a s) (asked_tree r) (option_map (opened y) (option_map (tree_of a) B))) budget left →
          Leads f (turn_work d c s ks ps (Turn.Ask r q)) budget left
      descended_goes r ps e f budget left l =
          along (λ z. Leads f (turn_work d c s ks z (Turn.Ask r q)) budget left) (sym e)
          (along (λ z. Leads f (turn_work d c s z (frame ∷ fs) (Turn.Ask r q)) budget left) (sym context_is)
          (leads_same f _ (turn_work d c s (hs ++ own ∷ []) (frame ∷ fs) (Turn.Ask r q)) budget left
          (λ n. sym (asked_same (site_of d c) (site_of a c) _ _ _ _ (store_of d s) (store_of a s) _ _ (site_of_grown a d ad (store_of a s) c h.site) waits_are spot_is store_is first_is (asked_tree r) n)) l))

      names_are : names_in (context_of d ks) ≡ names_in (context_of a hs) ++ y ∷ []
      names_are =
          ap (λ z. names_in (context_of d z)) context_is
          ∙ ap names_in (context_of-grown b d g2 (hs ++ own ∷ []) there.context ∙ context_more b hs own ∙ ap₂ (λ z k. z ++ k ∷ []) (context_of-grown a b g1 hs h.context) own_is)
          ∙ names_more (context_of a hs) (record { name = y; body = option_map (tree_of a) (body_under u); kind = tree_of a K })

      pub descended_stands : HasBody d q → (r : Asked) → TurnStands d s ks (Turn.Ask r q)
      descended_stands k r = (
        k,
        along (λ z. OptionStands z (names_in (context_of d ks)) (option_map (tree_of d) q)) (sym store_is)
            (along (λ z. OptionStands (store_of a s) z (option_map (tree_of d) q)) (sym names_are) (along (OptionStands (store_of a s) (names_in (context_of a hs) ++ y ∷ [])) (sym first_is) (opens_rest (option_map (tree_of a) B) rest))),
      )
        where
          opens_rest : (t : Option Tree) → RestStands (store_of a s) (names_in (context_of a hs)) t → OptionStands (store_of a s) (names_in (context_of a hs) ++ y ∷ []) (option_map (opened y) t)
          opens_rest None j = tt
          opens_rest (Some t) j = open_stands (store_of a s) h.kept (names_in (context_of a hs)) y t j

pub descended_falls : (u : Under) (m : Bound) (w : Option TermId) (fs ps : List Frame) → ps ≡ record { part = part_under u m; wanted = w } ∷ fs → weights ps + 0 ≤ 2 + weights fs
descended_falls u m w fs ps e = along (λ z. weights z + 0 ≤ 2 + weights fs) (sym e) (along (λ k. k + weights fs + 0 ≤ 2 + weights fs) (sym (weight_under u m)) (omega arith))
