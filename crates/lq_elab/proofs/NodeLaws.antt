-- A node of a term pays a tick, and then what is left of it goes on.
use Rattle.std.proofs.Common.{◌≡◌, ◌<◌, ◌+◌, ◌∙◌, ℕ, suc, refl, sym, ap, Bool, true, false, List, length, map, Option, None, Some}
use Rattle.std.proofs.lemmas.List.{length-map}
use Rattle.lq_trees.specs.declared.Sort.{Sort as Universe}
use Rattle.lq_trees.specs.Tree.{Name, Tree}
use Rattle.lq_trees.specs.Tree.Tree.{Sort}
use Rattle.lq_trees.specs.Ticks.{gives, fails, tick, faults_as, ◌>>=◌, steps_out, ComesTo}
use Rattle.lq_trees.specs.Fresh.{fresh, opened, under}
use Rattle.lq_trees.proofs.TickLaws.{bind_bind}
use Rattle.lq_calculus.specs.Checking.{sort_above}
use Rattle.lq_ast.specs.Syntax.{Surface, Domain, Fun, LetIn, Ident, Blank, PropSort, TypeSort, Meta, NewVar, Written, Missing}
use Rattle.lq_ast.specs.Plain.{plain, plain_domain, name_of}
use Rattle.lq_solving.specs.Stores.{Store}
use Rattle.lq_solving.specs.ElabFaults.{Elab, by_kernel, cannot_infer, unknown}
use Rattle.lq_solving.specs.Elaboration.{Site, Found, found, bind, wanted_product, function_found, name_found, blank_found, named_found, against, elaborate}
use Rattle.lq_solving.proofs.ElabSettled.{at}
use Rattle.lq_elab.specs.declared.views.View.{View}
use Rattle.lq_elab.specs.Arguments.{ticks}
use Rattle.lq_elab.specs.Views.{row_node, head_domain, row_tree, view_tree}
use Rattle.lq_elab.specs.Waiting.{Spot, Waiting, go_on, resumed, function_of, found_work, asked_work, held_work, Leads}
use Rattle.lq_elab.specs.Nodes.{bare_work, head_work, definition_work, held_leaf, sort_found, node_work}
use Rattle.lq_elab.proofs.GoingLaws.{same_then, leads_same, leads_paid, leads_lacks, product_asked, bare_product_asked, arrow_asked, function_asked, definition_asked}
use Rattle.lq_elab.proofs.GoingLaws.{bare_definition_asked, application_asked, cast_asked}

module _ (e : Site) (vs : List Waiting) (l : Spot) (s : Store) (w : Option Tree) (n : ℕ) where
  -- a function whose binder has no type
  bare_rest : (x : Name) (k : ℕ) (t : Surface) (o : Option (Tree × Tree)) →
      ((elim o as (λ _. Elab Found) [
        | None ↦ fails (cannot_infer k)
        | Some q ↦
            elaborate (at n e) (bind x (fresh l.context x) l.binders) (under l.context (fresh l.context x) q.0) s t (Some (opened (fresh l.context x) q.1)) >>= λ h.
            function_found (at n e) l.context w (Some q) (function_of x (fresh l.context x) q.0 h)
      ]) >>= go_on (at n e) vs) ≡ bare_work e vs l s w x k t o n
  unfolding resumed go_on function_found ◌>>=◌
  bare_rest x k t None = refl
  bare_rest x k t (Some q) = bind_bind (elaborate (at n e) (bind x (fresh l.context x) l.binders) (under l.context (fresh l.context x) q.0) s t (Some (opened (fresh l.context x) q.1))) _ (go_on (at n e) vs)

  bare_function_asked : (x : Name) (k : ℕ) (t : Surface) →
      asked_work e vs l s (Fun x (Missing k) t) w n ≡ ticks 1 (wanted_product (at n e) l.context s w >>= (λ p. bare_work e vs l s w x k t p n))
  unfolding elaborate ticks ◌>>=◌
  bare_function_asked x k t =
      ap tick (bind_bind (wanted_product (at n e) l.context s w) _ (go_on (at n e) vs) ∙ same_then (wanted_product (at n e) l.context s w) _ _ (λ p. bare_rest x k t p))

  head_asked : (p : Bool) (x : Name) (d : Domain) (t : Surface) → asked_work e vs l s (row_node p x d t) w n ≡ ticks 1 (head_work e vs l s w p x d t n)
  head_asked true x (Written A) t = product_asked e vs l w s x A t n
  head_asked true x (Missing k) t = bare_product_asked e vs l w s x k t n
  head_asked false x (Written A) t = function_asked e vs l w s x A t n
  head_asked false x (Missing k) t = bare_function_asked x k t

  let_asked : (x : Name) (d : Domain) (v t : Surface) → asked_work e vs l s (LetIn x d v t) w n ≡ ticks 1 (definition_work e vs l s w x d v t n)
  let_asked x (Written A) v t = definition_asked e vs l w s x A v t n
  let_asked x (Missing k) v t = bare_definition_asked e vs l w s x k v t n

  leaf_asked : (r : Elab Found) → (tick (r >>= against (at n e) l.context w) >>= go_on (at n e) vs) ≡ ticks 1 (r >>= (λ z. held_work e vs l.context w z n))
  unfolding ticks ◌>>=◌
  leaf_asked r = ap tick (bind_bind r (against (at n e) l.context w) (go_on (at n e) vs))

  name_asked : (x : Name) → asked_work e vs l s (Ident x) w n ≡ ticks 1 (held_leaf e vs l s w (λ m. name_found (at m e) l.binders l.context s x) n)
  unfolding elaborate
  name_asked x = leaf_asked (name_found (at n e) l.binders l.context s x)

  sort_asked : (u : Universe) → (tick (by_kernel (sort_above u) >>= λ A. against (at n e) l.context w (found s (Sort u) A)) >>= go_on (at n e) vs) ≡ ticks 1 (held_leaf e vs l s w (λ m. sort_found e vs l s w u) n)
  unfolding ticks ◌>>=◌
  sort_asked u =
      ap tick (bind_bind (by_kernel (sort_above u)) _ (go_on (at n e) vs) ∙ sym (bind_bind (by_kernel (sort_above u)) (λ A. gives (found s (Sort u) A)) (λ z. held_work e vs l.context w z n)))

  prop_asked : asked_work e vs l s PropSort w n ≡ ticks 1 (held_leaf e vs l s w (λ m. sort_found e vs l s w Universe.Base) n)
  unfolding elaborate against sort_above faults_as ticks ◌>>=◌
  prop_asked = refl

  type_asked : (i : ℕ) → asked_work e vs l s (TypeSort i) w n ≡ ticks 1 (held_leaf e vs l s w (λ m. sort_found e vs l s w (Universe.Level i)) n)
  unfolding elaborate
  type_asked i = sort_asked (Universe.Level i)

  blank_asked : (p : ℕ) → asked_work e vs l s (Blank p) w n ≡ ticks 1 (blank_found l.context s p w >>= (λ z. found_work e vs z n))
  unfolding elaborate ticks ◌>>=◌
  blank_asked p = refl

  named_asked : (x : Name) (p : ℕ) → asked_work e vs l s (NewVar x p) w n ≡ ticks 1 (named_found l.context s x p w >>= (λ z. found_work e vs z n))
  unfolding elaborate ticks ◌>>=◌
  named_asked x p = refl

  meta_asked : (x : Name) → asked_work e vs l s (Meta x) w n ≡ ticks 1 (fails (unknown x))
  unfolding elaborate ticks ◌>>=◌
  meta_asked x = refl

  several_asked : (t a : Surface) (as_ : List Surface) (m : ℕ) → length as_ ≡ m → (r : Elab Found) → ticks (suc (length as_)) r ≡ ticks 1 (ticks m r)
  unfolding ticks
  several_asked t a as_ m q r = ap (λ k. tick (ticks k r)) q

  pub node_asked : (v : View) → asked_work e vs l s (view_tree v) w n ≡ ticks 1 (node_work e vs l s w v n)
  node_asked (View.Binder h) = head_asked h.rest.is_product (name_of h.binder.now.name) (head_domain h) (row_tree h.rest)
  node_asked (View.LetIn x d v t) = let_asked (name_of x.now) (plain_domain d.now) (plain v.now) (plain t.now)
  node_asked (View.Arrow A B) = arrow_asked e vs l w s (plain A.now) (plain B.now) n
  node_asked (View.Apply f a as_) =
      application_asked e vs l w s (plain f.now) (plain a.now) (map plain as_.now) n
      ∙ several_asked (plain f.now) (plain a.now) (map plain as_.now) (length as_.now) (length-map as_.now plain) _
  node_asked (View.Ident x) = name_asked x.now
  node_asked (View.Blank p) = blank_asked p
  node_asked View.PropSort = prop_asked
  node_asked (View.TypeSort i) = type_asked i
  node_asked (View.Cast t A) = cast_asked e vs l w s (plain t.now) (plain A.now) n
  node_asked (View.Meta x) = meta_asked x.now
  node_asked (View.NewVar x p) = named_asked x.now p

-- a term that is asked for goes on behind its tick
pub node_leads : (e : Site) (vs : List Waiting) (l : Spot) (s : Store) (w : Option Tree) (v : View) (t : Surface) → view_tree v ≡ t → (f : ℕ → Elab Found) (b i j : ℕ) → 1 + j ≡ i →
    Leads f (asked_work e vs l s t w) b i → Leads f (node_work e vs l s w v) b j
node_leads e vs l s w v t q f b i j k h =
    leads_paid f (node_work e vs l s w v) b 1 i j k
    (leads_same f (asked_work e vs l s t w) (λ n. ticks 1 (node_work e vs l s w v n)) b i (λ n. ap (λ z. asked_work e vs l s z w n) (sym q) ∙ node_asked e vs l s w n v) h)

pub node_lacks : (e : Site) (vs : List Waiting) (l : Spot) (s : Store) (w : Option Tree) (v : View) (t : Surface) → view_tree v ≡ t → (f : ℕ → Elab Found) (b i : ℕ) → i < 1 → Leads f (asked_work e vs l s t w) b i → ComesTo f b steps_out
node_lacks e vs l s w v t q f b i k h =
    leads_lacks f (node_work e vs l s w v) b 1 i k
    (leads_same f (asked_work e vs l s t w) (λ n. ticks 1 (node_work e vs l s w v n)) b i (λ n. ap (λ z. asked_work e vs l s z w n) (sym q) ∙ node_asked e vs l s w n v) h)
