-- A rest was elaborated under its binder, and the whole is made of it: it stands outside the binder, and is held against what is wanted.
use Rattle.std.proofs.Common.{◌≡◌, ◌∙◌, ℕ, refl, sym, ap, ap₂, List, [], ◌∷◌, Option}
use Rattle.std.proofs.Common.{subst as along}
use Rattle.std.specs.Prelude.{option_map}
use Rattle.lq_trees.specs.declared.Sort.{Sort as Universe}
use Rattle.lq_trees.specs.Tree.{Name, Tree}
use Rattle.lq_trees.specs.Tree.Tree.{Prod, Lam, Let, Sort}
use Rattle.lq_trees.specs.Change.{subst, close}
use Rattle.lq_trees.specs.Ticks.{done, ComesTo}
use Rattle.lq_calculus.specs.Typing.{product_sort}
use Rattle.lq_terms.specs.declared.nodes.NameId.{NameId}
use Rattle.lq_terms.specs.declared.nodes.TermId.{TermId}
use Rattle.lq_terms.specs.declared.nodes.Hypothesis.{Hypothesis}
use Rattle.lq_terms.specs.Terms.{Terms, HasTerm, Grows, text_of, tree_of}
use Rattle.lq_terms.specs.Contexts.{context_of}
use Rattle.lq_terms.proofs.Growth.{Grows-trans}
use Rattle.lq_solving.specs.Stores.{names_in}
use Rattle.lq_solving.specs.Kept.{StandsIn}
use Rattle.lq_solving.specs.Elaboration.{found, found_sort}
use Rattle.lq_solving.proofs.ElabSettled.{at}
use Rattle.lq_solving.proofs.Later.{good_stands}
use Rattle.lq_solving.proofs.StandsLaws.{prod_stands, lam_stands, let_stands, subst_stands}
use Rattle.lq_evars.specs.Places.{Places, store_of}
use Rattle.lq_elab.specs.declared.entering.Under.{Under}
use Rattle.lq_elab.specs.declared.finding.Found.{Found}
use Rattle.lq_elab.specs.declared.frames.Bound.{Bound}
use Rattle.lq_elab.specs.declared.frames.Frame.{Frame}
use Rattle.lq_elab.specs.declared.scope.Meaning.{Meaning}
use Rattle.lq_elab.specs.declared.sites.Site.{Site}
use Rattle.lq_elab.specs.declared.turns.Turn.{Turn}
use Rattle.lq_elab.specs.Answers.{found_of}
use Rattle.lq_elab.specs.Ending.{IsMade}
use Rattle.lq_elab.specs.Entering.{part_under}
use Rattle.lq_elab.specs.Frames.{HasBound, shorter, spot_of, waits}
use Rattle.lq_elab.specs.States.{IsState, TurnStands, site_of, turn_work}
use Rattle.lq_elab.specs.Waiting.{Leads, held_work}
use Rattle.lq_elab.proofs.PartLaws.{leads_then, product_ends, function_ends, definition_ends, work_there, sort_there}
use Rattle.lq_elab.proofs.LeaveLaws.{has_bound, inner_context, ends, closed_inside}
use Rattle.lq_elab.proofs.StateLaws.{state_grown, turn_grown}

-- what the parts of a binder stand for is the same in a bank that has grown
module _ (b d : Terms) (g : Grows b d) (m : Bound) (has : HasBound b m) (t : TermId) (h : HasTerm b t) where
  rest_there : close (text_of b m.hypothesis) (tree_of b t) ≡ close (text_of d m.hypothesis) (tree_of d t)
  rest_there = sym (ap₂ close (g.text m.hypothesis has.hypothesis) (g.tree t h))

  pub product_there : Prod (text_of b m.binder) (tree_of b m.kind) (close (text_of b m.hypothesis) (tree_of b t)) ≡ Prod (text_of d m.binder) (tree_of d m.kind) (close (text_of d m.hypothesis) (tree_of d t))
  product_there =
      ap (λ z. Prod z (tree_of b m.kind) (close (text_of b m.hypothesis) (tree_of b t))) (sym (g.text m.binder has.binder))
      ∙ ap₂ (λ A B. Prod (text_of d m.binder) A B) (sym (g.tree m.kind has.kind)) rest_there

  pub lambda_there : Lam (text_of b m.binder) (tree_of b m.kind) (close (text_of b m.hypothesis) (tree_of b t)) ≡ Lam (text_of d m.binder) (tree_of d m.kind) (close (text_of d m.hypothesis) (tree_of d t))
  lambda_there =
      ap (λ z. Lam z (tree_of b m.kind) (close (text_of b m.hypothesis) (tree_of b t))) (sym (g.text m.binder has.binder))
      ∙ ap₂ (λ A B. Lam (text_of d m.binder) A B) (sym (g.tree m.kind has.kind)) rest_there

  module _ (v : TermId) (value : HasTerm b v) where
    pub let_there : Let (text_of b m.binder) (tree_of b v) (tree_of b m.kind) (close (text_of b m.hypothesis) (tree_of b t)) ≡ Let (text_of d m.binder) (tree_of d v) (tree_of d m.kind) (close (text_of d m.hypothesis) (tree_of d t))
    let_there =
        ap₂ (λ z u. Let z u (tree_of b m.kind) (close (text_of b m.hypothesis) (tree_of b t))) (sym (g.text m.binder has.binder)) (sym (g.tree v value))
        ∙ ap₂ (λ A B. Let (text_of d m.binder) (tree_of d v) A B) (sym (g.tree m.kind has.kind)) rest_there

    pub replaced_there : subst (tree_of b v) (close (text_of b m.hypothesis) (tree_of b t)) ≡ subst (tree_of d v) (close (text_of d m.hypothesis) (tree_of d t))
    replaced_there = ap₂ subst (sym (g.tree v value)) rest_there

-- what was made is what the definition finds
made_is : (bank : Terms) (s : Places) (y : Found) (t k T K : Tree) → IsMade bank y t k → t ≡ T → k ≡ K → found_of bank s y ≡ found (store_of bank s) T K
made_is bank s y t k T K h p q = ap₂ (λ a b. found (store_of bank s) a b) (h.term.is ∙ p) (h.kind.is ∙ q)

made_stands : (bank : Terms) (s : Places) (ks : List Hypothesis) (y : Found) (t k T K : Tree) → IsMade bank y t k → t ≡ T → k ≡ K → StandsIn (store_of bank s) (context_of bank ks) T → StandsIn (store_of bank s) (context_of bank ks) K →
    TurnStands bank s ks (Turn.Found y)
made_stands bank s ks y t k T K h p q a b =
    (h.term.has, h.kind.has, along (StandsIn (store_of bank s) (context_of bank ks)) (sym (h.term.is ∙ p)) a, along (StandsIn (store_of bank s) (context_of bank ks)) (sym (h.kind.is ∙ q)) b)

module _ (a b d : Terms) (ab : Grows a b) (bd : Grows b d) (c : Site) (s : Places) (ks : List Hypothesis) (es : List (NameId × Meaning)) (fs : List Frame) (m : Bound) (w : Option TermId) (x y : Found) where
  ad : Grows a d
  ad = Grows-trans a b d ab bd

  abbrev names : List Name
  names = names_in (context_of d (shorter ks))

  -- a product
  module _ (u : Universe) (h : IsState a c s ks es (record { part = part_under (Under.Product u) m; wanted = w } ∷ fs)) (k : TurnStands a s ks (Turn.Found x)) (v : Universe)
      (made : IsMade d y (Prod (text_of b m.binder) (tree_of b m.kind) (close (text_of b m.hypothesis) (tree_of b x.term))) (Sort v)) where
    product_state : IsState d c s ks es (record { part = part_under (Under.Product u) m; wanted = w } ∷ fs)
    product_state = state_grown a d ad c s ks es (record { part = part_under (Under.Product u) m; wanted = w } ∷ fs) h

    product_found : TurnStands d s ks (Turn.Found x)
    product_found = turn_grown a d ad c s ks es (record { part = part_under (Under.Product u) m; wanted = w } ∷ fs) h (Turn.Found x) k

    product_bound : HasBound b m
    product_bound = (has_bound b c s ks es fs (Under.Product u) m w (state_grown a b ab c s ks es (record { part = part_under (Under.Product u) m; wanted = w } ∷ fs) h)).0

    product_term : HasTerm b x.term
    product_term = (turn_grown a b ab c s ks es (record { part = part_under (Under.Product u) m; wanted = w } ∷ fs) h (Turn.Found x) k).0

    pub product_stands : TurnStands d s (shorter ks) (Turn.Found y)
    product_stands =
        made_stands d s (shorter ks) y _ (Sort v) _ (Sort v) made (product_there b d bd m product_bound x.term product_term) refl
        (prod_stands (store_of d s) product_state.kept names (text_of d m.binder) (tree_of d m.kind) (close (text_of d m.hypothesis) (tree_of d x.term)) (ends d c s ks es fs (Under.Product u) m w product_state).kind
        (closed_inside d c s ks es fs (Under.Product u) m w product_state (tree_of d x.term) product_found.2))
        (good_stands (store_of d s) product_state.kept [] names (Sort v) tt)

    pub product_made_goes : (t : Universe) → v ≡ product_sort u t → (i j : ℕ) → ComesTo (λ n. found_sort (at n (site_of a c)) (context_of a ks) (found_of a s x)) i (done t j) →
        Leads (turn_work a c s ks (record { part = part_under (Under.Product u) m; wanted = w } ∷ fs) (Turn.Found x))
        (held_work (site_of d c) (waits d (shorter ks) fs) (context_of d (shorter ks)) (option_map (tree_of d) w) (found_of d s y)) i j
    product_made_goes t e i j r =
        leads_then (turn_work a c s ks (record { part = part_under (Under.Product u) m; wanted = w } ∷ fs) (Turn.Found x)) (turn_work d c s ks (record { part = part_under (Under.Product u) m; wanted = w } ∷ fs) (Turn.Found x)) _ i i j
        (work_there a d ad c s ks es (record { part = part_under (Under.Product u) m; wanted = w } ∷ fs) h x k i)
        (along (λ z. Leads (turn_work d c s ks (record { part = part_under (Under.Product u) m; wanted = w } ∷ fs) (Turn.Found x)) (held_work (site_of d c) (waits d (shorter ks) fs) (context_of d (shorter ks)) (option_map (tree_of d) w) z) i j)
        (sym (made_is d s y _ (Sort v) _ (Sort (product_sort u t)) made (product_there b d bd m product_bound x.term product_term) (ap Sort e)))
        (product_ends (site_of d c) (waits d (shorter ks) fs) (spot_of d (shorter ks) fs) (option_map (tree_of d) w) (found_of d s x) i j (text_of d m.binder) (text_of d m.hypothesis) (tree_of d m.kind) u t
        (along (λ z. ComesTo (λ n. found_sort (at n (site_of d c)) z (found_of d s x)) i (done t j)) (inner_context d c s ks es fs (Under.Product u) m w product_state)
        (sort_there a d ad c s ks es (record { part = part_under (Under.Product u) m; wanted = w } ∷ fs) h x k t i j r))))

  -- a function
  module _ (h : IsState a c s ks es (record { part = part_under Under.Function m; wanted = w } ∷ fs)) (k : TurnStands a s ks (Turn.Found x))
      (made : IsMade d y (Lam (text_of b m.binder) (tree_of b m.kind) (close (text_of b m.hypothesis) (tree_of b x.term))) (Prod (text_of b m.binder) (tree_of b m.kind) (close (text_of b m.hypothesis) (tree_of b x.kind)))) where
    function_state : IsState d c s ks es (record { part = part_under Under.Function m; wanted = w } ∷ fs)
    function_state = state_grown a d ad c s ks es (record { part = part_under Under.Function m; wanted = w } ∷ fs) h

    function_found : TurnStands d s ks (Turn.Found x)
    function_found = turn_grown a d ad c s ks es (record { part = part_under Under.Function m; wanted = w } ∷ fs) h (Turn.Found x) k

    function_bound : HasBound b m
    function_bound = (has_bound b c s ks es fs Under.Function m w (state_grown a b ab c s ks es (record { part = part_under Under.Function m; wanted = w } ∷ fs) h)).0

    function_there : TurnStands b s ks (Turn.Found x)
    function_there = turn_grown a b ab c s ks es (record { part = part_under Under.Function m; wanted = w } ∷ fs) h (Turn.Found x) k

    pub function_stands : TurnStands d s (shorter ks) (Turn.Found y)
    function_stands =
        made_stands d s (shorter ks) y _ _ _ _ made (lambda_there b d bd m function_bound x.term function_there.0) (product_there b d bd m function_bound x.kind function_there.1)
        (lam_stands (store_of d s) function_state.kept names (text_of d m.binder) (tree_of d m.kind) (close (text_of d m.hypothesis) (tree_of d x.term)) (ends d c s ks es fs Under.Function m w function_state).kind
        (closed_inside d c s ks es fs Under.Function m w function_state (tree_of d x.term) function_found.2))
        (prod_stands (store_of d s) function_state.kept names (text_of d m.binder) (tree_of d m.kind) (close (text_of d m.hypothesis) (tree_of d x.kind)) (ends d c s ks es fs Under.Function m w function_state).kind
        (closed_inside d c s ks es fs Under.Function m w function_state (tree_of d x.kind) function_found.3))

    pub function_made_goes : (i : ℕ) → Leads (turn_work a c s ks (record { part = part_under Under.Function m; wanted = w } ∷ fs) (Turn.Found x))
        (held_work (site_of d c) (waits d (shorter ks) fs) (context_of d (shorter ks)) (option_map (tree_of d) w) (found_of d s y)) i i
    function_made_goes i =
        leads_then (turn_work a c s ks (record { part = part_under Under.Function m; wanted = w } ∷ fs) (Turn.Found x)) (turn_work d c s ks (record { part = part_under Under.Function m; wanted = w } ∷ fs) (Turn.Found x)) _ i i i
        (work_there a d ad c s ks es (record { part = part_under Under.Function m; wanted = w } ∷ fs) h x k i)
        (along (λ z. Leads (turn_work d c s ks (record { part = part_under Under.Function m; wanted = w } ∷ fs) (Turn.Found x)) (held_work (site_of d c) (waits d (shorter ks) fs) (context_of d (shorter ks)) (option_map (tree_of d) w) z) i i)
        (sym (made_is d s y _ _ _ _ made (lambda_there b d bd m function_bound x.term function_there.0) (product_there b d bd m function_bound x.kind function_there.1)))
        (function_ends (site_of d c) (waits d (shorter ks) fs) (spot_of d (shorter ks) fs) (option_map (tree_of d) w) (found_of d s x) i i (text_of d m.binder) (text_of d m.hypothesis) (tree_of d m.kind)))

  -- a local definition
  module _ (v : TermId) (h : IsState a c s ks es (record { part = part_under (Under.Definition v) m; wanted = w } ∷ fs)) (k : TurnStands a s ks (Turn.Found x))
      (made : IsMade d y (Let (text_of b m.binder) (tree_of b v) (tree_of b m.kind) (close (text_of b m.hypothesis) (tree_of b x.term))) (subst (tree_of b v) (close (text_of b m.hypothesis) (tree_of b x.kind)))) where
    definition_state : IsState d c s ks es (record { part = part_under (Under.Definition v) m; wanted = w } ∷ fs)
    definition_state = state_grown a d ad c s ks es (record { part = part_under (Under.Definition v) m; wanted = w } ∷ fs) h

    definition_found : TurnStands d s ks (Turn.Found x)
    definition_found = turn_grown a d ad c s ks es (record { part = part_under (Under.Definition v) m; wanted = w } ∷ fs) h (Turn.Found x) k

    definition_there : IsState b c s ks es (record { part = part_under (Under.Definition v) m; wanted = w } ∷ fs)
    definition_there = state_grown a b ab c s ks es (record { part = part_under (Under.Definition v) m; wanted = w } ∷ fs) h

    found_then : TurnStands b s ks (Turn.Found x)
    found_then = turn_grown a b ab c s ks es (record { part = part_under (Under.Definition v) m; wanted = w } ∷ fs) h (Turn.Found x) k

    pub definition_stands : TurnStands d s (shorter ks) (Turn.Found y)
    definition_stands =
        let e = ends d c s ks es fs (Under.Definition v) m w definition_state in
        made_stands d s (shorter ks) y _ _ _ _ made (let_there b d bd m definition_there.frames.0.0 x.term found_then.0 v definition_there.frames.0.1) (replaced_there b d bd m definition_there.frames.0.0 x.kind found_then.1 v definition_there.frames.0.1)
        (let_stands (store_of d s) definition_state.kept names (text_of d m.binder) (tree_of d v) (tree_of d m.kind) (close (text_of d m.hypothesis) (tree_of d x.term)) e.body e.kind
        (closed_inside d c s ks es fs (Under.Definition v) m w definition_state (tree_of d x.term) definition_found.2))
        (subst_stands (store_of d s) definition_state.kept names (tree_of d v) (close (text_of d m.hypothesis) (tree_of d x.kind)) e.body
        (closed_inside d c s ks es fs (Under.Definition v) m w definition_state (tree_of d x.kind) definition_found.3))

    pub definition_made_goes : (i : ℕ) → Leads (turn_work a c s ks (record { part = part_under (Under.Definition v) m; wanted = w } ∷ fs) (Turn.Found x))
        (held_work (site_of d c) (waits d (shorter ks) fs) (context_of d (shorter ks)) (option_map (tree_of d) w) (found_of d s y)) i i
    definition_made_goes i =
        leads_then (turn_work a c s ks (record { part = part_under (Under.Definition v) m; wanted = w } ∷ fs) (Turn.Found x)) (turn_work d c s ks (record { part = part_under (Under.Definition v) m; wanted = w } ∷ fs) (Turn.Found x)) _ i i i
        (work_there a d ad c s ks es (record { part = part_under (Under.Definition v) m; wanted = w } ∷ fs) h x k i)
        (along (λ z. Leads (turn_work d c s ks (record { part = part_under (Under.Definition v) m; wanted = w } ∷ fs) (Turn.Found x)) (held_work (site_of d c) (waits d (shorter ks) fs) (context_of d (shorter ks)) (option_map (tree_of d) w) z) i i)
        (sym (made_is d s y _ _ _ _ made (let_there b d bd m definition_there.frames.0.0 x.term found_then.0 v definition_there.frames.0.1) (replaced_there b d bd m definition_there.frames.0.0 x.kind found_then.1 v definition_there.frames.0.1)))
        (definition_ends (site_of d c) (waits d (shorter ks) fs) (spot_of d (shorter ks) fs) (option_map (tree_of d) w) (found_of d s x) i i (text_of d m.binder) (text_of d m.hypothesis) (tree_of d v) (tree_of d m.kind)))
