-- The domain of a function agrees with the one that is wanted, and other parts that a term waits for.
use Rattle.std.proofs.Common.{◌≡◌, ◌∙◌, ℕ, refl, sym, ap, ap₂, arith, List, [], ◌∷◌, length, map, Option, None, Some, Result, Bor}
use Rattle.std.proofs.Common.{subst as along}
use Rattle.std.specs.Prelude.{option_map}
use Rattle.lq_trees.specs.declared.Sort.{Sort as Universe}
use Rattle.lq_trees.specs.Tree.{Name, Tree, Context}
use Rattle.lq_trees.specs.Tree.Tree.{App}
use Rattle.lq_trees.specs.Change.{subst}
use Rattle.lq_trees.specs.Fresh.{fresh, opened}
use Rattle.lq_trees.specs.Ticks.{gives, done, ComesTo}
use Rattle.lq_trees.proofs.Outcomes.{comes_gives}
use Rattle.lq_ast.specs.Plain.{plain}
use Rattle.lq_ast.specs.declared.surface.Surface.{Surface}
use Rattle.lq_terms.specs.declared.nodes.NameId.{NameId}
use Rattle.lq_terms.specs.declared.nodes.TermId.{TermId}
use Rattle.lq_terms.specs.declared.nodes.Hypothesis.{Hypothesis}
use Rattle.lq_terms.specs.Terms.{Terms, HasTerm, Grows, text_of, tree_of}
use Rattle.lq_terms.specs.Contexts.{HasBody, context_of}
use Rattle.lq_terms.proofs.Tellings.{body-grown, context_of-grown}
use Rattle.lq_solving.specs.Stores.{Store, names_in}
use Rattle.lq_solving.specs.Kept.{Stands, OptionStands, StandsIn}
use Rattle.lq_solving.specs.Elaboration.{Site as TreeSite, Found as TreeFound, found, found_sort, unified, domain_agrees, rest_wanted}
use Rattle.lq_solving.proofs.ElabSettled.{at}
use Rattle.lq_solving.proofs.ElabKept.{Grown}
use Rattle.lq_solving.proofs.StandsLaws.{app_stands, subst_stands}
use Rattle.lq_evars.specs.Places.{Places, store_of, HasStore}
use Rattle.lq_evars.proofs.Growing.{store_of-grown}
use Rattle.lq_elab.specs.declared.entering.Under.{Under}
use Rattle.lq_elab.specs.declared.finding.Found.{Found}
use Rattle.lq_elab.specs.declared.frames.Frame.{Frame}
use Rattle.lq_elab.specs.declared.frames.Part.{Part}
use Rattle.lq_elab.specs.declared.scope.Meaning.{Meaning}
use Rattle.lq_elab.specs.declared.sites.Site.{Site}
use Rattle.lq_elab.specs.declared.turns.Turn.{Turn}
use Rattle.lq_elab.specs.declared.views.Asked.{Asked}
use Rattle.lq_typing.specs.declared.faults.ElabFault.{ElabFault}
use Rattle.lq_elab.specs.Answers.{Comes, found_of, product_found}
use Rattle.lq_elab.specs.Ending.{IsMade, left_of, written_or}
use Rattle.lq_elab.specs.Entering.{rest_part, spot_under, RestStands}
use Rattle.lq_elab.specs.Frames.{pair_of, HasPair, ProductStands, spot_of, waits}
use Rattle.lq_elab.specs.Naming.{under_binder}
use Rattle.lq_elab.specs.States.{IsState, TurnStands, site_of, turn_work}
use Rattle.lq_elab.specs.Views.{asked_tree}
use Rattle.lq_elab.specs.Waiting.{waiting, function_rest, applied_argument, applied_function, kind_or, left_wanted, application_of, found_work, asked_work, held_work, Leads}
use Rattle.lq_elab.proofs.PartLaws.{leads_then, function_enters, last_ends, more_ends, work_there, sort_there}
use Rattle.lq_elab.proofs.EnterLaws.{asked_same}
use Rattle.lq_elab.proofs.FrameLaws.{spot_grown, waits_grown}
use Rattle.lq_elab.proofs.GoingLaws.{comes_same, leads_same}
use Rattle.lq_elab.proofs.SettleLaws.{state_settled, stands_settled}
use Rattle.lq_elab.proofs.StateLaws.{site_of_grown, state_grown, turn_grown}

-- ---- what is wanted behind a function's domain

pub left_has : (bank : Terms) (w : Option TermId) (p : Option (TermId × TermId)) → HasBody bank w → HasBody bank (left_of w p)
left_has bank w None h = h
left_has bank w (Some q) h = tt

pub left_stands : (bank : Terms) (S : Store) (xs : List Name) (w : Option TermId) (p : Option (TermId × TermId)) → OptionStands S xs (option_map (tree_of bank) w) → OptionStands S xs (option_map (tree_of bank) (left_of w p))
left_stands bank S xs w None h = h
left_stands bank S xs w (Some q) h = tt

pub rest_has : (bank : Terms) (p : Option (TermId × TermId)) → HasPair bank p → HasBody bank (option_map (λ q. q.1) p)
rest_has bank None h = tt
rest_has bank (Some q) h = h.1

pub rest_is_under : (bank : Terms) (S : Store) (xs : List Name) (p : Option (TermId × TermId)) → ProductStands S xs (option_map (pair_of bank) p) → RestStands S xs (option_map (tree_of bank) (option_map (λ q. q.1) p))
rest_is_under bank S xs None h = tt
rest_is_under bank S xs (Some q) h = h.1

left_there : (b d : Terms) → Grows b d → (w : Option TermId) (p : Option (TermId × TermId)) → HasBody b w → left_wanted (option_map (tree_of b) w) (option_map (pair_of b) p) ≡ option_map (tree_of d) (left_of w p)
unfolding left_wanted
left_there b d g w None h = sym (body-grown b d g w h)
left_there b d g w (Some q) h = refl

rest_there : (b d : Terms) → Grows b d → (y : Name) (p : Option (TermId × TermId)) → HasPair b p → rest_wanted y (option_map (pair_of b) p) ≡ option_map (opened y) (option_map (tree_of d) (option_map (λ q. q.1) p))
unfolding rest_wanted
rest_there b d g y None h = refl
rest_there b d g y (Some q) h = ap (λ z. Some (opened y z)) (sym (g.tree q.1 h.1))

pub pair_there : (b d : Terms) → Grows b d → (p : Option (TermId × TermId)) → HasPair b p → HasPair d p
pair_there b d g None h = tt
pair_there b d g (Some q) h = (omega (arith, h.0, g.nodes), omega (arith, h.1, g.nodes))

-- ---- the sort is found in a bank that grows, then the domains are unified in one that grows further, with a store that has grown

module _ (a b d : Terms) (g1 : Grows a b) (g2 : Grows b d) (c : Site) (s s1 : Places) (hs : List Hypothesis) (es : List (NameId × Meaning)) (fs : List Frame) (z : NameId) (r : Asked) (p : Option (TermId × TermId)) (w : Option TermId)
    (h : IsState a c s hs es (record { part = Part.FunctionDomain z r p; wanted = w } ∷ fs)) (x : Found) (k : TurnStands a s hs (Turn.Found x)) where
  abbrev pub frame : Frame
  frame = record { part = Part.FunctionDomain z r p; wanted = w }

  pub there : IsState b c s hs es (frame ∷ fs)
  there = state_grown a b g1 c s hs es (frame ∷ fs) h

  pub found_there : TurnStands b s hs (Turn.Found x)
  found_there = turn_grown a b g1 c s hs es (frame ∷ fs) h (Turn.Found x) k

  module _ (has : HasStore d s1) (grown : Grown (store_of b s) (store_of d s1)) where
    pub settled_then : IsState d c s1 hs es (frame ∷ fs)
    settled_then = state_settled b d g2 c s s1 hs es (frame ∷ fs) there has grown

    pub kind_then : StandsIn (store_of d s1) (context_of d hs) (tree_of d x.term)
    kind_then = stands_settled b d g2 c s s1 hs es (frame ∷ fs) there has grown x.term found_there.0 found_there.2

    pub function_entered : (u : Universe) (i l j : ℕ) → ComesTo (λ n. found_sort (at n (site_of a c)) (context_of a hs) (found_of a s x)) i (done u l) →
        ((K : Tree) → ComesTo (λ n. domain_agrees (at n (site_of b c)) (context_of b hs) (found (store_of b s) (tree_of b x.term) K) (option_map (pair_of b) p)) l (done (store_of d s1) j)) →
        Leads (turn_work a c s hs (frame ∷ fs) (Turn.Found x))
        (asked_work (site_of d c) (waiting (spot_of d hs fs) (option_map (tree_of d) (left_of w p)) (rest_part d Under.Function (text_of d z) (fresh (context_of d hs) (text_of d z)) (tree_of d x.term)) ∷ waits d hs fs)
        (spot_under d (spot_of d hs fs) Under.Function (text_of d z) (fresh (context_of d hs) (text_of d z)) (tree_of d x.term)) (store_of d s1) (asked_tree r)
        (option_map (opened (fresh (context_of d hs) (text_of d z))) (option_map (tree_of d) (option_map (λ q. q.1) p)))) i j
    function_entered u i l j sort agrees =
        leads_then (turn_work a c s hs (frame ∷ fs) (Turn.Found x)) (turn_work b c s hs (frame ∷ fs) (Turn.Found x)) _ i i j
        (work_there a b g1 c s hs es (frame ∷ fs) h x k i)
        (leads_same (turn_work b c s hs (frame ∷ fs) (Turn.Found x)) _ _ i j
        (λ n. asked_same (site_of b c) (site_of d c) _ _ _ _ (store_of d s1) (store_of d s1) _ _ (sym (site_of_grown b d g2 (store_of b s) c there.site)) waits_then spot_then refl
        (rest_there b d g2 (fresh (context_of b hs) (text_of b z)) p there.frames.0.1 ∙ ap (λ y. option_map (opened y) (option_map (tree_of d) (option_map (λ q. q.1) p))) name_then) (asked_tree r) n)
        (function_enters (site_of b c) (waits b hs fs) (spot_of b hs fs) (option_map (tree_of b) w) (found_of b s x) i j (text_of b z) (asked_tree r) (option_map (pair_of b) p) u (store_of d s1) l
        (sort_there a b g1 c s hs es (frame ∷ fs) h x k u i l sort) (agrees (tree_of b x.kind))))
      where
        context_then : context_of b hs ≡ context_of d hs
        context_then = sym (context_of-grown b d g2 hs there.context)

        text_then : text_of b z ≡ text_of d z
        text_then = sym (g2.text z there.frames.0.0)

        name_then : fresh (context_of b hs) (text_of b z) ≡ fresh (context_of d hs) (text_of d z)
        name_then = ap₂ fresh context_then text_then

        kind_is : tree_of b x.term ≡ tree_of d x.term
        kind_is = sym (g2.tree x.term found_there.0)

        spot_is : spot_of b hs fs ≡ spot_of d hs fs
        spot_is = sym (spot_grown b d g2 (site_of b c) hs fs there.context there.frames.3)

        waits_then : waiting (spot_of b hs fs) (left_wanted (option_map (tree_of b) w) (option_map (pair_of b) p)) (function_rest (text_of b z) (fresh (context_of b hs) (text_of b z)) (tree_of b x.term)) ∷ waits b hs fs
            ≡ waiting (spot_of d hs fs) (option_map (tree_of d) (left_of w p)) (function_rest (text_of d z) (fresh (context_of d hs) (text_of d z)) (tree_of d x.term)) ∷ waits d hs fs
        waits_then =
            ap₂ (λ l o. waiting l o (function_rest (text_of b z) (fresh (context_of b hs) (text_of b z)) (tree_of b x.term)) ∷ waits b hs fs) spot_is (left_there b d g2 w p there.frames.1)
            ∙ ap₂ (λ t y. waiting (spot_of d hs fs) (option_map (tree_of d) (left_of w p)) (function_rest t y (tree_of b x.term)) ∷ waits b hs fs) text_then name_then
            ∙ ap₂ (λ t vs. waiting (spot_of d hs fs) (option_map (tree_of d) (left_of w p)) (function_rest (text_of d z) (fresh (context_of d hs) (text_of d z)) t) ∷ vs) kind_is
            (sym (waits_grown b d g2 (site_of b c) hs fs there.context there.frames.3))

        spot_then : under_binder (spot_of b hs fs) (text_of b z) (record { name = fresh (context_of b hs) (text_of b z); body = None; kind = tree_of b x.term })
            ≡ under_binder (spot_of d hs fs) (text_of d z) (record { name = fresh (context_of d hs) (text_of d z); body = None; kind = tree_of d x.term })
        spot_then =
            ap₂ (λ l t. under_binder l t (record { name = fresh (context_of b hs) (text_of b z); body = None; kind = tree_of b x.term })) spot_is text_then
            ∙ ap₂ (λ y t. under_binder (spot_of d hs fs) (text_of d z) (record { name = y; body = None; kind = t })) name_then kind_is

    -- the same by terms that are given back
    pub function_entered_as : (v o : Option TermId) → v ≡ left_of w p → o ≡ option_map (λ q. q.1) p → (u : Universe) (i l j : ℕ) → ComesTo (λ n. found_sort (at n (site_of a c)) (context_of a hs) (found_of a s x)) i (done u l) →
        ((K : Tree) → ComesTo (λ n. domain_agrees (at n (site_of b c)) (context_of b hs) (found (store_of b s) (tree_of b x.term) K) (option_map (pair_of b) p)) l (done (store_of d s1) j)) →
        Leads (turn_work a c s hs (frame ∷ fs) (Turn.Found x))
        (asked_work (site_of d c) (waiting (spot_of d hs fs) (option_map (tree_of d) v) (rest_part d Under.Function (text_of d z) (fresh (context_of d hs) (text_of d z)) (tree_of d x.term)) ∷ waits d hs fs)
        (spot_under d (spot_of d hs fs) Under.Function (text_of d z) (fresh (context_of d hs) (text_of d z)) (tree_of d x.term)) (store_of d s1) (asked_tree r)
        (option_map (opened (fresh (context_of d hs) (text_of d z))) (option_map (tree_of d) o))) i j
    function_entered_as v o e1 e2 u i l j sort agrees =
        along (λ y. Leads (turn_work a c s hs (frame ∷ fs) (Turn.Found x))
        (asked_work (site_of d c) (waiting (spot_of d hs fs) (option_map (tree_of d) y) (rest_part d Under.Function (text_of d z) (fresh (context_of d hs) (text_of d z)) (tree_of d x.term)) ∷ waits d hs fs)
        (spot_under d (spot_of d hs fs) Under.Function (text_of d z) (fresh (context_of d hs) (text_of d z)) (tree_of d x.term)) (store_of d s1) (asked_tree r)
        (option_map (opened (fresh (context_of d hs) (text_of d z))) (option_map (tree_of d) o))) i j) (sym e1)
        (along (λ y. Leads (turn_work a c s hs (frame ∷ fs) (Turn.Found x))
        (asked_work (site_of d c) (waiting (spot_of d hs fs) (option_map (tree_of d) (left_of w p)) (rest_part d Under.Function (text_of d z) (fresh (context_of d hs) (text_of d z)) (tree_of d x.term)) ∷ waits d hs fs)
        (spot_under d (spot_of d hs fs) Under.Function (text_of d z) (fresh (context_of d hs) (text_of d z)) (tree_of d x.term)) (store_of d s1) (asked_tree r)
        (option_map (opened (fresh (context_of d hs) (text_of d z))) (option_map (tree_of d) y))) i j) (sym e2) (function_entered u i l j sort agrees))

-- ---- a domain where none is wanted agrees

pub none_wanted : (e : TreeSite) (g : Context) (x : TreeFound) (left : ℕ) → ComesTo (λ n. domain_agrees (at n e) g x None) left (done x.store left)
unfolding domain_agrees
none_wanted e g x left = comes_gives (λ n. gives x.store) x.store left (λ n. refl)

-- ---- the type of a local definition

pub written_is : (bank : Terms) (s : Places) (A : Option TermId) (x : Found) → tree_of bank (written_or A x.kind) ≡ kind_or (option_map (tree_of bank) A) (found_of bank s x)
unfolding kind_or
written_is bank s None x = refl
written_is bank s (Some A) x = refl

pub written_has : (bank : Terms) (A : Option TermId) (K : TermId) → HasBody bank A → HasTerm bank K → HasTerm bank (written_or A K)
written_has bank None K h k = k
written_has bank (Some A) K h k = h

pub written_stands : (bank : Terms) (S : Store) (xs : List Name) (A : Option TermId) (K : TermId) → OptionStands S xs (option_map (tree_of bank) A) → Stands S xs (tree_of bank K) → Stands S xs (tree_of bank (written_or A K))
written_stands bank S xs None K h k = k
written_stands bank S xs (Some A) K h k = h

-- ---- the product that a function's type is, in a bank that has grown

module _ (old new : Terms) (g : Grows old new) (c : Site) (s : Places) (hs : List Hypothesis) (es : List (NameId × Meaning)) (fs : List Frame) (h : IsState old c s hs es fs) (x : Found) (k : TurnStands old s hs (Turn.Found x)) where
  pub product_there : (p : Tree × Tree) (i j : ℕ) → ComesTo (λ n. product_found (at n (site_of old c)) (context_of old hs) (store_of old s) (tree_of old x.kind)) i (done p j) →
      ComesTo (λ n. product_found (at n (site_of new c)) (context_of new hs) (store_of new s) (tree_of new x.kind)) i (done p j)
  product_there p i j d =
      comes_same (λ n. product_found (at n (site_of new c)) (context_of new hs) (store_of new s) (tree_of new x.kind)) (λ n. product_found (at n (site_of old c)) (context_of old hs) (store_of old s) (tree_of old x.kind)) i (done p j)
      (λ n. ap₂ (λ z y. product_found (at n z) y (store_of new s) (tree_of new x.kind)) (site_of_grown old new g (store_of old s) c h.site) (context_of-grown old new g hs h.context)
      ∙ ap₂ (λ z y. product_found (at n (site_of old c)) (context_of old hs) z y) (store_of-grown old new g s h.store) (g.tree x.kind k.1)) d

-- ---- an application

module _ (a b : Terms) (g : Grows a b) (c : Site) (s : Places) (hs : List Hypothesis) (es : List (NameId × Meaning)) (fs : List Frame) (f B : TermId) (others : Bor (List Surface)) (w : Option TermId)
    (h : IsState a c s hs es (record { part = Part.Argument f B others; wanted = w } ∷ fs)) (x : Found) (k : TurnStands a s hs (Turn.Found x)) (y : Found)
    (made : IsMade b y (App (tree_of a f) (tree_of a x.term)) (subst (tree_of a x.term) (tree_of a B))) where
  app_state : IsState b c s hs es (record { part = Part.Argument f B others; wanted = w } ∷ fs)
  app_state = state_grown a b g c s hs es (record { part = Part.Argument f B others; wanted = w } ∷ fs) h

  app_found : TurnStands b s hs (Turn.Found x)
  app_found = turn_grown a b g c s hs es (record { part = Part.Argument f B others; wanted = w } ∷ fs) h (Turn.Found x) k

  term_is : tree_of b y.term ≡ App (tree_of b f) (tree_of b x.term)
  term_is = made.term.is ∙ ap₂ App (sym (g.tree f h.frames.0.0)) (sym (g.tree x.term k.0))

  type_is : tree_of b y.kind ≡ subst (tree_of b x.term) (tree_of b B)
  type_is = made.kind.is ∙ ap₂ subst (sym (g.tree x.term k.0)) (sym (g.tree B h.frames.0.1))

  pub application_stands : TurnStands b s hs (Turn.Found y)
  application_stands = (
    made.term.has,
    made.kind.has,
    along (StandsIn (store_of b s) (context_of b hs)) (sym term_is) (app_stands (store_of b s) app_state.kept (names_in (context_of b hs)) (tree_of b f) (tree_of b x.term) app_state.stand.1.0 app_found.2),
    along (StandsIn (store_of b s) (context_of b hs)) (sym type_is) (subst_stands (store_of b s) app_state.kept (names_in (context_of b hs)) (tree_of b x.term) (tree_of b B) app_found.2 app_state.stand.1.1),
  )

  app_is : found_of b s y ≡ application_of (tree_of b f) (tree_of b B) (found_of b s x)
  app_is = ap₂ (λ t u. found (store_of b s) t u) term_is type_is

  pub last_goes : others.now ≡ [] → (i : ℕ) → Leads (turn_work a c s hs (record { part = Part.Argument f B others; wanted = w } ∷ fs) (Turn.Found x))
      (held_work (site_of b c) (waits b hs fs) (context_of b hs) (option_map (tree_of b) w) (found_of b s y)) i i
  last_goes e i =
      leads_then (turn_work a c s hs (record { part = Part.Argument f B others; wanted = w } ∷ fs) (Turn.Found x)) (turn_work b c s hs (record { part = Part.Argument f B others; wanted = w } ∷ fs) (Turn.Found x)) _ i i i
      (work_there a b g c s hs es (record { part = Part.Argument f B others; wanted = w } ∷ fs) h x k i)
      (along (λ z. Leads (found_work (site_of b c) (waiting (spot_of b hs fs) (option_map (tree_of b) w) (applied_argument (tree_of b f) (tree_of b B) (map plain z)) ∷ waits b hs fs) (found_of b s x))
      (held_work (site_of b c) (waits b hs fs) (context_of b hs) (option_map (tree_of b) w) (found_of b s y)) i i) (sym e)
      (along (λ z. Leads (found_work (site_of b c) (waiting (spot_of b hs fs) (option_map (tree_of b) w) (applied_argument (tree_of b f) (tree_of b B) []) ∷ waits b hs fs) (found_of b s x))
      (held_work (site_of b c) (waits b hs fs) (context_of b hs) (option_map (tree_of b) w) z) i i) (sym app_is)
      (last_ends (site_of b c) (waits b hs fs) (spot_of b hs fs) (option_map (tree_of b) w) (found_of b s x) i i (tree_of b f) (tree_of b B))))

  pub more_goes : (n : Surface) (ns : List Surface) → others.now ≡ n ∷ ns → (i : ℕ) → Leads (turn_work a c s hs (record { part = Part.Argument f B others; wanted = w } ∷ fs) (Turn.Found x))
      (held_work (site_of b c) (waiting (spot_of b hs fs) (option_map (tree_of b) w) (applied_function (plain n) (map plain ns)) ∷ waits b hs fs) (context_of b hs) None (found_of b s y)) i i
  more_goes n ns e i =
      leads_then (turn_work a c s hs (record { part = Part.Argument f B others; wanted = w } ∷ fs) (Turn.Found x)) (turn_work b c s hs (record { part = Part.Argument f B others; wanted = w } ∷ fs) (Turn.Found x)) _ i i i
      (work_there a b g c s hs es (record { part = Part.Argument f B others; wanted = w } ∷ fs) h x k i)
      (along (λ z. Leads (found_work (site_of b c) (waiting (spot_of b hs fs) (option_map (tree_of b) w) (applied_argument (tree_of b f) (tree_of b B) (map plain z)) ∷ waits b hs fs) (found_of b s x))
      (held_work (site_of b c) (waiting (spot_of b hs fs) (option_map (tree_of b) w) (applied_function (plain n) (map plain ns)) ∷ waits b hs fs) (context_of b hs) None (found_of b s y)) i i) (sym e)
      (along (λ z. Leads (found_work (site_of b c) (waiting (spot_of b hs fs) (option_map (tree_of b) w) (applied_argument (tree_of b f) (tree_of b B) (plain n ∷ map plain ns)) ∷ waits b hs fs) (found_of b s x))
      (held_work (site_of b c) (waiting (spot_of b hs fs) (option_map (tree_of b) w) (applied_function (plain n) (map plain ns)) ∷ waits b hs fs) (context_of b hs) None z) i i) (sym app_is)
      (more_ends (site_of b c) (waits b hs fs) (spot_of b hs fs) (option_map (tree_of b) w) (found_of b s x) i i (tree_of b f) (tree_of b B) (plain n) (map plain ns))))

-- a list without entries
pub empty_is : {A : Type 0} (xs : List A) → length xs ≡ 0 → xs ≡ []
empty_is [] e = refl
empty_is (x ∷ xs) e = absurd (omega (arith, e))

-- what is said of a store and of the names of a context, in a bank that has grown
pub moved : (old new : Terms) (g : Grows old new) (c : Site) (s : Places) (hs : List Hypothesis) (es : List (NameId × Meaning)) (fs : List Frame) → IsState old c s hs es fs → (P : Store → List Name → Type 0) →
    P (store_of old s) (names_in (context_of old hs)) → P (store_of new s) (names_in (context_of new hs))
moved old new g c s hs es fs h P p =
    along (λ z. P z (names_in (context_of new hs))) (sym (store_of-grown old new g s h.store)) (along (λ z. P (store_of old s) (names_in z)) (sym (context_of-grown old new g hs h.context)) p)

-- the domain that is wanted is unified with
pub some_wanted : {C : Type 0} (e : TreeSite) (g : Context) (S : Store) (T K U R : Tree) (bank : Terms) (v : C → Store) (r : Result C ElabFault) (b l : ℕ) → Comes bank v r (λ n. unified (at n e) g S T U) b l →
    Comes bank v r (λ n. domain_agrees (at n e) g (found S T K) (Some (U, R))) b l
unfolding domain_agrees
some_wanted e g S T K U R bank v r b l h = h
