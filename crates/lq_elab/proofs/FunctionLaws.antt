-- Functions that are asked for, in a bank that has grown.
use Rattle.std.proofs.Common.{◌≡◌, ◌≤◌, ◌+◌, ◌*◌, ◌∙◌, ℕ, refl, sym, ap, ap₂, arith, false, List, ◌∷◌, Option, None, Result, Ok, Err, IfOk}
use Rattle.std.proofs.Common.{subst as along}
use Rattle.std.specs.Prelude.{option_map}
use Rattle.lq_trees.specs.Tree.{Name, Tree}
use Rattle.lq_trees.specs.Ticks.{◌>>=◌, fails, failed, done, ComesTo}
use Rattle.lq_trees.proofs.Outcomes.{comes_fails}
use Rattle.lq_ast.specs.Syntax.{Surface, Domain, Written, Missing}
use Rattle.lq_terms.specs.declared.nodes.NameId.{NameId}
use Rattle.lq_terms.specs.declared.nodes.TermId.{TermId}
use Rattle.lq_terms.specs.declared.nodes.Hypothesis.{Hypothesis}
use Rattle.lq_terms.specs.Terms.{Terms, HasName, Grows, text_of, tree_of}
use Rattle.lq_terms.specs.Contexts.{HasBody, context_of}
use Rattle.lq_terms.proofs.Tellings.{context_of-grown}
use Rattle.lq_solving.specs.Stores.{Store, names_in}
use Rattle.lq_solving.specs.ElabFaults.{Elab, cannot_infer}
use Rattle.lq_solving.specs.Elaboration.{Site as TreeSite, Found, wanted_product}
use Rattle.lq_solving.proofs.ElabSettled.{at}
use Rattle.lq_evars.specs.Places.{Places, store_of}
use Rattle.lq_evars.proofs.Growing.{store_of-grown}
use Rattle.lq_elab.specs.declared.frames.Frame.{Frame}
use Rattle.lq_elab.specs.declared.frames.Part.{Part}
use Rattle.lq_elab.specs.declared.scope.Meaning.{Meaning}
use Rattle.lq_elab.specs.declared.sites.Site.{Site}
use Rattle.lq_typing.specs.declared.faults.ElabFault.{ElabFault}
use Rattle.lq_typing.specs.Refusals.{Refuses}
use Rattle.lq_elab.specs.declared.turns.Turn.{Turn}
use Rattle.lq_elab.specs.declared.views.Asked.{Asked}
use Rattle.lq_elab.specs.declared.views.Row.{Row}
use Rattle.lq_elab.specs.Views.{row_tree}
use Rattle.lq_elab.specs.Waiting.{Spot, Waiting, waiting, function_domain, asked_work, Leads}
use Rattle.lq_elab.specs.Nodes.{bare_work, head_work}
use Rattle.lq_elab.specs.Frames.{ProductStands, pair_of, spot_of, waits, weights}
use Rattle.lq_elab.specs.States.{IsState, site_of, due}
use Rattle.lq_elab.proofs.AnswerLaws.{refuses_first, refuses_whole}
use Rattle.lq_elab.proofs.FrameLaws.{spot_grown, waits_grown}
use Rattle.lq_elab.proofs.GoingLaws.{leads_same, leads_done}
use Rattle.lq_elab.proofs.StateLaws.{site_of_grown, asked_moved}

-- the parts of the product that is wanted stand where they stood
pub parts_stand : (old new : Terms) → Grows old new → (c : Site) (s : Places) (hs : List Hypothesis) (scope : List (NameId × Meaning)) (fs : List Frame) → IsState old c s hs scope fs → (p : Option (Tree × Tree)) →
    ProductStands (store_of old s) (names_in (context_of old hs)) p → ProductStands (store_of new s) (names_in (context_of new hs)) p
parts_stand old new g c s hs scope fs h p k =
    along (λ z. ProductStands z (names_in (context_of new hs)) p) (sym (store_of-grown old new g s h.store))
    (along (λ z. ProductStands (store_of old s) (names_in z) p) (sym (context_of-grown old new g hs h.context)) k)

-- a turn that pays no tick, behind work that may have paid some
pub falls_more : (q : Result Turn ElabFault) (fs ps : List Frame) (l m : ℕ) → IfOk q (λ t. weights ps + due t ≤ 2 + weights fs) → m ≤ l → IfOk q (λ t. weights ps + due t + 4 * m ≤ 3 + weights fs + 4 * l)
falls_more (Ok t) fs ps l m h k = omega (arith, h, k)
falls_more (Err e) fs ps l m h k = tt

module _ (e : TreeSite) (vs : List Waiting) (l : Spot) (s : Store) (w : Option Tree) (x : Name) where
  -- a function whose binder has no type, where no product is wanted
  pub bare_fails : (k : ℕ) (t : Surface) (f : ℕ → Elab Found) (b i : ℕ) → Leads f (bare_work e vs l s w x k t None) b i → ComesTo f b (failed (cannot_infer k) i)
  bare_fails k t f b i h = h (failed (cannot_infer k) i) (comes_fails (λ n. fails (cannot_infer k)) (cannot_infer k) i (λ n. refl))

  -- the product that is wanted is refused
  pub head_refuses : (t : Surface) (d : Domain) (bank : Terms) (f : ℕ → Elab Found) (b i j : ℕ) (y : ElabFault) → Leads f (head_work e vs l s w false x d t) b i → Refuses bank y (λ n. wanted_product (at n e) l.context s w) i j → Refuses bank y f b j
  head_refuses t (Written A) bank f b i j y h k =
      refuses_whole bank f (head_work e vs l s w false x (Written A) t) b i j h y
      (refuses_first bank (λ n. wanted_product (at n e) l.context s w) (λ p n. asked_work e (waiting l w (function_domain x t p) ∷ vs) l s A None n) i j y k)
  head_refuses t (Missing p) bank f b i j y h k =
      refuses_whole bank f (head_work e vs l s w false x (Missing p) t) b i j h y
      (refuses_first bank (λ n. wanted_product (at n e) l.context s w) (λ o n. bare_work e vs l s w x p t o n) i j y k)

module _ (old new : Terms) (g : Grows old new) (c : Site) (s : Places) (hs : List Hypothesis) (scope : List (NameId × Meaning)) (fs : List Frame) (h : IsState old c s hs scope fs) (w : Option TermId) (has : HasBody old w) (x : NameId) (named : HasName old x)
    (o : Option (TermId × TermId)) (f : ℕ → Elab Found) (b i j : ℕ)
    (comes : ComesTo (λ n. wanted_product (at n (site_of old c)) (context_of old hs) (store_of old s) (option_map (tree_of old) w)) i (done (option_map (pair_of new) o) j)) where
  -- a function whose binder has a type
  pub typed_leads : (r : Row) (A : Surface) →
      Leads f (λ n. wanted_product (at n (site_of old c)) (context_of old hs) (store_of old s) (option_map (tree_of old) w)
      >>= λ p. asked_work (site_of old c) (waiting (spot_of old hs fs) (option_map (tree_of old) w) (function_domain (text_of old x) (row_tree r) p) ∷ waits old hs fs) (spot_of old hs fs) (store_of old s) A None n) b i →
      Leads f (asked_work (site_of new c) (waiting (spot_of new hs fs) (option_map (tree_of new) w) (function_domain (text_of new x) (row_tree r) (option_map (pair_of new) o)) ∷ waits new hs fs) (spot_of new hs fs) (store_of new s) A None) b j
  typed_leads r A l =
      leads_same f
      (asked_work (site_of old c) (waiting (spot_of old hs fs) (option_map (tree_of old) w) (function_domain (text_of old x) (row_tree r) (option_map (pair_of new) o)) ∷ waits old hs fs) (spot_of old hs fs) (store_of old s) A None)
      (asked_work (site_of new c) (waiting (spot_of new hs fs) (option_map (tree_of new) w) (function_domain (text_of new x) (row_tree r) (option_map (pair_of new) o)) ∷ waits new hs fs) (spot_of new hs fs) (store_of new s) A None) b j
      (λ n. sym (asked_moved old new g c s hs scope fs h (Part.FunctionDomain x (Asked.Row r) o) (function_domain (text_of old x) (row_tree r) (option_map (pair_of new) o))
      (ap (λ z. function_domain z (row_tree r) (option_map (pair_of new) o)) (g.text x named)) w None None has refl A n))
      (leads_done f (λ n. wanted_product (at n (site_of old c)) (context_of old hs) (store_of old s) (option_map (tree_of old) w))
      (λ p n. asked_work (site_of old c) (waiting (spot_of old hs fs) (option_map (tree_of old) w) (function_domain (text_of old x) (row_tree r) p) ∷ waits old hs fs) (spot_of old hs fs) (store_of old s) A None n) b i j (option_map (pair_of new) o) l comes)

  -- one whose binder has none
  bare_grown : (W : Option Tree) (k : ℕ) (t : Surface) (q : Option (Tree × Tree)) (n : ℕ) →
      bare_work (site_of old c) (waits old hs fs) (spot_of old hs fs) (store_of old s) W (text_of old x) k t q n ≡ bare_work (site_of new c) (waits new hs fs) (spot_of new hs fs) (store_of new s) W (text_of new x) k t q n
  bare_grown W k t q n =
      ap (λ e. bare_work e (waits old hs fs) (spot_of old hs fs) (store_of old s) W (text_of old x) k t q n) (sym (site_of_grown old new g (store_of old s) c h.site))
      ∙ ap₂ (λ vs l. bare_work (site_of new c) vs l (store_of old s) W (text_of old x) k t q n) (sym (waits_grown old new g (site_of old c) hs fs h.context h.frames)) (sym (spot_grown old new g (site_of old c) hs fs h.context h.frames))
      ∙ ap₂ (λ S y. bare_work (site_of new c) (waits new hs fs) (spot_of new hs fs) S W y k t q n) (sym (store_of-grown old new g s h.store)) (sym (g.text x named))

  pub bare_leads : (k : ℕ) (t : Surface) →
      Leads f (λ n. wanted_product (at n (site_of old c)) (context_of old hs) (store_of old s) (option_map (tree_of old) w)
      >>= λ p. bare_work (site_of old c) (waits old hs fs) (spot_of old hs fs) (store_of old s) (option_map (tree_of old) w) (text_of old x) k t p n) b i →
      Leads f (bare_work (site_of new c) (waits new hs fs) (spot_of new hs fs) (store_of new s) (option_map (tree_of old) w) (text_of new x) k t (option_map (pair_of new) o)) b j
  bare_leads k t l =
      leads_same f
      (bare_work (site_of old c) (waits old hs fs) (spot_of old hs fs) (store_of old s) (option_map (tree_of old) w) (text_of old x) k t (option_map (pair_of new) o))
      (bare_work (site_of new c) (waits new hs fs) (spot_of new hs fs) (store_of new s) (option_map (tree_of old) w) (text_of new x) k t (option_map (pair_of new) o)) b j
      (bare_grown (option_map (tree_of old) w) k t (option_map (pair_of new) o))
      (leads_done f (λ n. wanted_product (at n (site_of old c)) (context_of old hs) (store_of old s) (option_map (tree_of old) w))
      (λ p n. bare_work (site_of old c) (waits old hs fs) (spot_of old hs fs) (store_of old s) (option_map (tree_of old) w) (text_of old x) k t p n) b i j (option_map (pair_of new) o) l comes)
