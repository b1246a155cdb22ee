-- A part was elaborated: the steps of what waits for it, by banks that grow.
use Rattle.std.proofs.Common.{◌≡◌, ◌≤◌, ◌∙◌, ℕ, refl, sym, ap, ap₂, arith, List, [], ◌∷◌, ◌++◌, Option, None, Some, Result, Ok, Err}
use Rattle.std.proofs.Common.{subst as along}
use Rattle.lq_trees.specs.declared.Sort.{Sort as Universe}
use Rattle.lq_trees.specs.Tree.{Name, Tree}
use Rattle.lq_trees.specs.Fresh.{fresh, under, under_let}
use Rattle.lq_trees.specs.Ticks.{◌>>=◌, done, ComesTo}
use Rattle.lq_ast.specs.Syntax.{Surface}
use Rattle.lq_terms.specs.declared.nodes.NameId.{NameId}
use Rattle.lq_terms.specs.declared.nodes.Hypothesis.{Hypothesis}
use Rattle.lq_terms.specs.Terms.{Terms, Grows, tree_of}
use Rattle.lq_terms.specs.Contexts.{context_of}
use Rattle.lq_terms.proofs.Growth.{Grows-trans}
use Rattle.lq_terms.proofs.Tellings.{context_of-grown}
use Rattle.lq_solving.specs.Stores.{Store}
use Rattle.lq_solving.specs.ElabFaults.{Elab}
use Rattle.lq_solving.specs.Elaboration.{Site as TreeSite, Found as TreeFound, found, found_sort, domain_agrees, rest_wanted}
use Rattle.lq_solving.proofs.ElabSettled.{at}
use Rattle.lq_solving.proofs.ElabKept.{Grown, grown_now}
use Rattle.lq_evars.specs.Places.{Places, store_of}
use Rattle.lq_evars.proofs.Growing.{store_of-grown}
use Rattle.lq_typing.specs.declared.faults.ElabFault.{ElabFault}
use Rattle.lq_typing.specs.Refusals.{Refuses}
use Rattle.lq_elab.specs.declared.finding.Found.{Found}
use Rattle.lq_elab.specs.declared.frames.Frame.{Frame}
use Rattle.lq_elab.specs.declared.scope.Meaning.{Meaning}
use Rattle.lq_elab.specs.declared.sites.Site.{Site}
use Rattle.lq_elab.specs.declared.turns.Turn.{Turn}
use Rattle.lq_elab.specs.Answers.{found_of}
use Rattle.lq_elab.specs.Waiting.{Spot, Waiting, waiting, product_domain, product_rest, function_domain, function_rest, definition_value, definition_rest, applied_function, applied_argument, cast_term}
use Rattle.lq_elab.specs.Waiting.{kind_or, left_wanted, product_of, function_of, definition_of, application_of, below, below_let, resumed, found_work, asked_work, held_work, Leads}
use Rattle.lq_elab.specs.Naming.{under_binder}
use Rattle.lq_elab.specs.Continuing.{Continues}
use Rattle.lq_elab.specs.States.{IsState, TurnStands, site_of, turn_work}
use Rattle.lq_elab.proofs.GoingLaws.{comes_same, leads_itself, leads_same, leads_done, agrees_work, product_domain_work, product_rest_work, function_domain_work, definition_value_work}
use Rattle.lq_elab.proofs.GoingLaws.{last_argument_work, more_arguments_work}
use Rattle.lq_elab.proofs.AnswerLaws.{refuses_first, refuses_rest, refuses_same}
use Rattle.lq_elab.proofs.StateLaws.{site_of_grown, asked_grown}

-- ---- work that leads to other work

pub leads_then : (f g h : ℕ → Elab TreeFound) (b l m : ℕ) → Leads f g b l → Leads g h l m → Leads f h b m
leads_then f g h b l m p q = λ o k. p o (q o k)

-- a first part was done, or is refused
pub first_done : {A : Type 0} (f : ℕ → Elab TreeFound) (x : ℕ → Elab A) (k : A → ℕ → Elab TreeFound) (i j : ℕ) (a : A) → ((n : ℕ) → f n ≡ (x n >>= (λ z. k z n))) → ComesTo x i (done a j) → Leads f (k a) i j
first_done f x k i j a q h = leads_done f x k i i j a (leads_same f f (λ n. x n >>= (λ z. k z n)) i i q (leads_itself f i)) h

pub first_refuses : {A : Type 0} (bank : Terms) (f : ℕ → Elab TreeFound) (x : ℕ → Elab A) (k : A → ℕ → Elab TreeFound) (i j : ℕ) (y : ElabFault) → ((n : ℕ) → f n ≡ (x n >>= (λ z. k z n))) → Refuses bank y x i j → Refuses bank y f i j
first_refuses bank f x k i j y q h = refuses_same bank (λ n. x n >>= (λ z. k z n)) f i j q y (refuses_first bank x k i j y h)

-- ---- the steps over trees

module _ (e : TreeSite) (vs : List Waiting) (l : Spot) (w : Option Tree) (x : TreeFound) (i j : ℕ) where
  -- the type that was found has a sort
  abbrev pub sorted : ℕ → Elab Universe
  sorted n = found_sort (at n e) l.context x

  -- a product, for its domain
  abbrev product_next : Name → Surface → Universe → ℕ → Elab TreeFound
  product_next y B u n = asked_work e (waiting l w (product_rest y (fresh l.context y) x.term u) ∷ vs) (below l y (fresh l.context y) x.term) x.store B None n

  pub product_enters : (y : Name) (B : Surface) (u : Universe) → ComesTo sorted i (done u j) → Leads (found_work e (waiting l w (product_domain y B) ∷ vs) x)
      (asked_work e (waiting l w (product_rest y (fresh l.context y) x.term u) ∷ vs) (under_binder l y (record { name = fresh l.context y; body = None; kind = x.term })) x.store B None) i j
  unfolding under
  product_enters y B u h = first_done (found_work e (waiting l w (product_domain y B) ∷ vs) x) sorted (product_next y B) i j u (product_domain_work e vs l w y B x) h

  pub product_refuses : (y : Name) (B : Surface) (bank : Terms) (z : ElabFault) → Refuses bank z sorted i j → Refuses bank z (found_work e (waiting l w (product_domain y B) ∷ vs) x) i j
  product_refuses y B bank z h = first_refuses bank (found_work e (waiting l w (product_domain y B) ∷ vs) x) sorted (product_next y B) i j z (product_domain_work e vs l w y B x) h

  -- a product, for its rest
  pub product_ends : (y z : Name) (A : Tree) (u v : Universe) → ComesTo (λ n. found_sort (at n e) (l.context ++ record { name = z; body = None; kind = A } ∷ []) x) i (done v j) →
      Leads (found_work e (waiting l w (product_rest y z A u) ∷ vs) x) (held_work e vs l.context w (product_of y z A u v x)) i j
  unfolding under
  product_ends y z A u v h =
      first_done (found_work e (waiting l w (product_rest y z A u) ∷ vs) x) (λ n. found_sort (at n e) (under l.context z A) x) (λ v n. held_work e vs l.context w (product_of y z A u v x) n) i j v (product_rest_work e vs l w y z A u x) h

  pub product_rest_refuses : (y z : Name) (A : Tree) (u : Universe) (bank : Terms) (a : ElabFault) → Refuses bank a (λ n. found_sort (at n e) (l.context ++ record { name = z; body = None; kind = A } ∷ []) x) i j →
      Refuses bank a (found_work e (waiting l w (product_rest y z A u) ∷ vs) x) i j
  unfolding under
  product_rest_refuses y z A u bank a h =
      first_refuses bank (found_work e (waiting l w (product_rest y z A u) ∷ vs) x) (λ n. found_sort (at n e) (under l.context z A) x) (λ v n. held_work e vs l.context w (product_of y z A u v x) n) i j a (product_rest_work e vs l w y z A u x) h

  -- a function, for its domain
  abbrev function_next : Name → Surface → Option (Tree × Tree) → Store → ℕ → Elab TreeFound
  function_next y t p s n = asked_work e (waiting l (left_wanted w p) (function_rest y (fresh l.context y) x.term) ∷ vs) (below l y (fresh l.context y) x.term) s t (rest_wanted (fresh l.context y) p) n

  abbrev function_agrees : Name → Surface → Option (Tree × Tree) → Universe → ℕ → Elab TreeFound
  function_agrees y t p u n = domain_agrees (at n e) l.context x p >>= (λ s. function_next y t p s n)

  pub function_enters : (y : Name) (t : Surface) (p : Option (Tree × Tree)) (u : Universe) (s : Store) (k : ℕ) → ComesTo sorted i (done u k) → ComesTo (λ n. domain_agrees (at n e) l.context x p) k (done s j) →
      Leads (found_work e (waiting l w (function_domain y t p) ∷ vs) x)
      (asked_work e (waiting l (left_wanted w p) (function_rest y (fresh l.context y) x.term) ∷ vs) (under_binder l y (record { name = fresh l.context y; body = None; kind = x.term })) s t (rest_wanted (fresh l.context y) p)) i j
  unfolding under
  function_enters y t p u s k h m =
      leads_then (found_work e (waiting l w (function_domain y t p) ∷ vs) x) (function_agrees y t p u) (function_next y t p s) i k j
      (first_done (found_work e (waiting l w (function_domain y t p) ∷ vs) x) sorted (function_agrees y t p) i k u (function_domain_work e vs l w y t p x) h)
      (first_done (function_agrees y t p u) (λ n. domain_agrees (at n e) l.context x p) (function_next y t p) k j s (λ n. refl) m)

  pub function_sort_refuses : (y : Name) (t : Surface) (p : Option (Tree × Tree)) (bank : Terms) (z : ElabFault) → Refuses bank z sorted i j → Refuses bank z (found_work e (waiting l w (function_domain y t p) ∷ vs) x) i j
  function_sort_refuses y t p bank z h = first_refuses bank (found_work e (waiting l w (function_domain y t p) ∷ vs) x) sorted (function_agrees y t p) i j z (function_domain_work e vs l w y t p x) h

  pub function_domain_refuses : (y : Name) (t : Surface) (p : Option (Tree × Tree)) (u : Universe) (k : ℕ) (bank : Terms) (z : ElabFault) → ComesTo sorted i (done u k) → Refuses bank z (λ n. domain_agrees (at n e) l.context x p) k j →
      Refuses bank z (found_work e (waiting l w (function_domain y t p) ∷ vs) x) i j
  function_domain_refuses y t p u k bank z h m =
      refuses_same bank (λ n. sorted n >>= (λ v. function_agrees y t p v n)) (found_work e (waiting l w (function_domain y t p) ∷ vs) x) i j (function_domain_work e vs l w y t p x) z
      (refuses_rest bank sorted (function_agrees y t p) i u k j z h (refuses_first bank (λ n. domain_agrees (at n e) l.context x p) (function_next y t p) k j z m))

  -- a function, for its rest: no tick is paid
  pub function_ends : (y z : Name) (A : Tree) → Leads (found_work e (waiting l w (function_rest y z A) ∷ vs) x) (held_work e vs l.context w (function_of y z A x)) i i
  unfolding resumed
  function_ends y z A = leads_same (found_work e (waiting l w (function_rest y z A) ∷ vs) x) _ _ i i (λ n. agrees_work e vs l w x (function_of y z A x) (function_rest y z A) w n refl) (leads_itself (found_work e (waiting l w (function_rest y z A) ∷ vs) x) i)

  -- a local definition, for its value
  pub definition_enters : (y : Name) (A : Option Tree) (t : Surface) → Leads (found_work e (waiting l w (definition_value y A t) ∷ vs) x)
      (asked_work e (waiting l w (definition_rest y (fresh l.context y) x.term (kind_or A x)) ∷ vs) (under_binder l y (record { name = fresh l.context y; body = Some x.term; kind = kind_or A x })) x.store t None) i i
  unfolding under_let
  definition_enters y A t =
      leads_same (found_work e (waiting l w (definition_value y A t) ∷ vs) x) _
      (asked_work e (waiting l w (definition_rest y (fresh l.context y) x.term (kind_or A x)) ∷ vs) (below_let l y (fresh l.context y) x.term (kind_or A x)) x.store t None) i i (definition_value_work e vs l w y A t x)
      (leads_itself (found_work e (waiting l w (definition_value y A t) ∷ vs) x) i)

  -- and for its rest
  pub definition_ends : (y z : Name) (v A : Tree) → Leads (found_work e (waiting l w (definition_rest y z v A) ∷ vs) x) (held_work e vs l.context w (definition_of y z v A x)) i i
  unfolding resumed
  definition_ends y z v A =
      leads_same (found_work e (waiting l w (definition_rest y z v A) ∷ vs) x) _ _ i i (λ n. agrees_work e vs l w x (definition_of y z v A x) (definition_rest y z v A) w n refl)
      (leads_itself (found_work e (waiting l w (definition_rest y z v A) ∷ vs) x) i)

  -- the last argument, and one with others behind it
  pub last_ends : (f B : Tree) → Leads (found_work e (waiting l w (applied_argument f B []) ∷ vs) x) (held_work e vs l.context w (application_of f B x)) i i
  last_ends f B = leads_same (found_work e (waiting l w (applied_argument f B []) ∷ vs) x) _ _ i i (last_argument_work e vs l w f B x) (leads_itself (found_work e (waiting l w (applied_argument f B []) ∷ vs) x) i)

  pub more_ends : (f B : Tree) (c : Surface) (cs : List Surface) → Leads (found_work e (waiting l w (applied_argument f B (c ∷ cs)) ∷ vs) x) (held_work e (waiting l w (applied_function c cs) ∷ vs) l.context None (application_of f B x)) i i
  more_ends f B c cs =
      leads_same (found_work e (waiting l w (applied_argument f B (c ∷ cs)) ∷ vs) x) _ _ i i (more_arguments_work e vs l w f B c cs x) (leads_itself (found_work e (waiting l w (applied_argument f B (c ∷ cs)) ∷ vs) x) i)

  -- a cast, for its term
  pub cast_ends : (A : Tree) → Leads (found_work e (waiting l w (cast_term A) ∷ vs) x) (held_work e vs l.context w (found x.store x.term A)) i i
  unfolding resumed
  cast_ends A = leads_same (found_work e (waiting l w (cast_term A) ∷ vs) x) _ _ i i (λ n. agrees_work e vs l w x (found x.store x.term A) (cast_term A) w n refl) (leads_itself (found_work e (waiting l w (cast_term A) ∷ vs) x) i)

-- ---- the same in a bank that has grown

module _ (old new : Terms) (g : Grows old new) (c : Site) (s : Places) (hs : List Hypothesis) (es : List (NameId × Meaning)) (fs : List Frame) (h : IsState old c s hs es fs) (x : Found) (k : TurnStands old s hs (Turn.Found x)) where
  pub work_there : (i : ℕ) → Leads (turn_work old c s hs fs (Turn.Found x)) (turn_work new c s hs fs (Turn.Found x)) i i
  work_there i =
      leads_same (turn_work old c s hs fs (Turn.Found x)) (turn_work old c s hs fs (Turn.Found x)) (turn_work new c s hs fs (Turn.Found x)) i i
      (λ n. sym (asked_grown old new g c s hs es fs h (Turn.Found x) k n)) (leads_itself (turn_work old c s hs fs (Turn.Found x)) i)

  pub found_there : found_of new s x ≡ found_of old s x
  found_there = ap (λ z. found z (tree_of new x.term) (tree_of new x.kind)) (store_of-grown old new g s h.store) ∙ ap₂ (λ a b. found (store_of old s) a b) (g.tree x.term k.0) (g.tree x.kind k.1)

  pub sort_there : (u : Universe) (i j : ℕ) → ComesTo (λ n. found_sort (at n (site_of old c)) (context_of old hs) (found_of old s x)) i (done u j) →
      ComesTo (λ n. found_sort (at n (site_of new c)) (context_of new hs) (found_of new s x)) i (done u j)
  sort_there u i j d =
      comes_same (λ n. found_sort (at n (site_of new c)) (context_of new hs) (found_of new s x)) (λ n. found_sort (at n (site_of old c)) (context_of old hs) (found_of old s x)) i (done u j)
      (λ n. ap (λ z. found_sort (at n z) (context_of new hs) (found_of new s x)) (site_of_grown old new g (store_of old s) c h.site)
      ∙ ap₂ (λ z y. found_sort (at n (site_of old c)) z y) (context_of-grown old new g hs h.context) found_there) d

  -- the store is the same
  pub store_stays : Grown (store_of old s) (store_of new s)
  store_stays = along (Grown (store_of old s)) (sym (store_of-grown old new g s h.store)) (grown_now (store_of old s) h.kept)

-- also in a bank that grows further
pub store_stays_on : (a b d : Terms) → Grows a b → Grows b d → (c : Site) (s : Places) (hs : List Hypothesis) (es : List (NameId × Meaning)) (fs : List Frame) → IsState a c s hs es fs → Grown (store_of a s) (store_of d s)
store_stays_on a b d g1 g2 c s hs es fs h = along (Grown (store_of a s)) (sym (store_of-grown a d (Grows-trans a b d g1 g2) s h.store)) (grown_now (store_of a s) h.kept)

-- by a store over trees, and a measure, that are as good
pub continues_as : (bank : Terms) (c : Site) (S T : Store) (s : Places) (hs : List Hypothesis) (es : List (NameId × Meaning)) (fs : List Frame) (r : Result Turn ElabFault) (f : ℕ → Elab TreeFound) (b left most more : ℕ) → S ≡ T → most ≤ more →
    Continues bank c S s hs es fs r f b left most → Continues bank c T s hs es fs r f b left more
continues_as bank c S T s hs es fs (Ok t) f b left most more e k h = record { state = h.state; stands = h.stands; grown = along (λ z. Grown z (store_of bank s)) e h.grown; falls = omega (arith, h.falls, k); leads = h.leads }
continues_as bank c S T s hs es fs (Err y) f b left most more e k h = h
