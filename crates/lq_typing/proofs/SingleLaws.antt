-- The nodes that ask for no part, by places of a bank.
use Rattle.std.proofs.Common.{◌≡◌, ◌<◌, ◌≤◌, ◌∙◌, ℕ, zero, suc, refl, sym, ap, ap₂, arith, List, [], ◌∷◌, map, length, Option, None, Some, Result, Ok, Err}
use Rattle.std.proofs.Common.{subst as along}
use Rattle.std.specs.Prelude.{IfOk, OnOk, slice_get, option_map, zip}
use Rattle.std.specs.List.{AllByRecursion}
use Rattle.std.proofs.lemmas.List.{length-map}
use Rattle.lq_trees.specs.Tree.{Name, Tree, Trees, Context}
use Rattle.lq_trees.specs.Tree.Tree.{Rel, Var, Sort, Prod, Lam, Let, App, Const, Ind, Ctor, Elim, Evar}
use Rattle.lq_trees.specs.Change.{put, instance}
use Rattle.lq_trees.specs.Index.{Within, EachWithin}
use Rattle.lq_trees.specs.Reading.{entries}
use Rattle.lq_trees.specs.Size.{fit}
use Rattle.lq_trees.specs.Ticks.{tick, Outcome, done, failed, steps_out, within, ComesTo}
use Rattle.lq_trees.proofs.Reach.{within-instance}
use Rattle.lq_trees.proofs.TickLaws.{left_of, within_falls}
use Rattle.lq_terms.specs.declared.nodes.Hypothesis.{Hypothesis}
use Rattle.lq_terms.specs.declared.nodes.NameId.{NameId}
use Rattle.lq_terms.specs.declared.nodes.Node.{Node}
use Rattle.lq_terms.specs.declared.nodes.NoMemory.{NoMemory}
use Rattle.lq_terms.specs.declared.nodes.TermId.{TermId}
use Rattle.lq_terms.specs.Terms.{Terms, HasName, HasTerm, node_tree, text_of, tree_of, trees_by}
use Rattle.lq_terms.specs.Changes.{bindings, HasHypothesis}
use Rattle.lq_terms.specs.Contexts.{hypothesis_of, context_of}
use Rattle.lq_calculus.specs.Contraction.{hypothesis}
use Rattle.lq_calculus.specs.Declarations.{Env as Environment}
use Rattle.lq_calculus.specs.Checking.{KernelFault as Fault, Kernel, fitting, unbound}
use Rattle.lq_inference.specs.Inference.{Open, closed, infer_by}
use Rattle.lq_solving.specs.Stores.{Variable as TreeVariable, Assigned, Store, names_in, names_at, body_at, read, read_context}
use Rattle.lq_solving.specs.Inference.{by_store_types}
use Rattle.lq_solving.specs.Kept.{IsOver, EachIsOver, IsContext, IsStore, IsVariable, StandsIn}
use Rattle.lq_solving.proofs.ElabKept.{kinds_stand}
use Rattle.lq_solving.proofs.KindLaws.{all_get}
use Rattle.lq_solving.proofs.OverLaws.{put_over, entries_over, entries_within}
use Rattle.lq_solving.proofs.Later.{reads_sort, reads_const, reads_ind, reads_ctor, reads_eliminator}
use Rattle.lq_evars.specs.declared.store.Variable.{Variable}
use Rattle.lq_evars.specs.Places.{Places, store_of, variable_of, HasVariable, HasStore}
use Rattle.lq_evars.proofs.ValueRead.{names_have, there, variable_has}
use Rattle.lq_evars.proofs.Lookups.{some_is, variable_told}
use Rattle.lq_evars.proofs.Fillings.{bindings_zip}
use Rattle.lq_kernel.specs.declared.faults.KernelFault.{KernelFault}
use Rattle.lq_kernel.specs.Steps.{Types, Fitted}
use Rattle.lq_kernel.proofs.Goes.{refuses_by}
use Rattle.lq_unify.proofs.PartLaws.{entries_map}
use Rattle.lq_unify.specs.Heads.{HasOpenHead}
use Rattle.lq_unify.specs.Solutions.{AreClosed}
use Rattle.lq_typing.specs.Going.{IsOpen, IsDeclared}
use Rattle.lq_typing.specs.Kinds.{Comes}
use Rattle.lq_typing.proofs.TypingLaws.{comes_same}
use Rattle.lq_typing.proofs.NodeLaws.{sort_same, constant_same, family_same, constructor_same, eliminator_same, hypothesis_typed, hypothesis_unbound, variable_typed}
use Rattle.lq_typing.proofs.FittedLaws.{fitted_refuses, fitted_comes}

-- ---- a term is no variable that has a value

pub head_open : (as_ : List Assigned) (t : Tree) → HasOpenHead as_ t → IsOpen as_ t
head_open as_ (Rel i) h = tt
head_open as_ (Var x) h = tt
head_open as_ (Sort u) h = tt
head_open as_ (Prod x A B) h = tt
head_open as_ (Lam x A B) h = tt
head_open as_ (Let x v A B) h = tt
head_open as_ (App f a) h = tt
head_open as_ (Const c) h = tt
head_open as_ (Ind c) h = tt
head_open as_ (Ctor c m) h = tt
head_open as_ (Elim c u) h = tt
head_open as_ (Evar m ts) h = h

pub all_open : (as_ : List Assigned) (bank : Terms) (r : Result TermId NoMemory) → IfOk r (λ t. HasOpenHead as_ (tree_of bank t)) → IfOk r (λ t. IsOpen as_ (tree_of bank t))
all_open as_ bank (Ok t) h = head_open as_ (tree_of bank t) h
all_open as_ bank (Err e) h = tt

pub other_open : (bank : Terms) (as_ : List Assigned) (node : Node) (t : TermId) → node_tree bank node ≡ tree_of bank t → ((n : ℕ) (ts : List TermId) → node ≡ Node.Evar n ts → ⊥) → IsOpen as_ (tree_of bank t)
other_open bank as_ (Node.Rel i) t e h = along (IsOpen as_) e tt
other_open bank as_ (Node.Var x) t e h = along (IsOpen as_) e tt
other_open bank as_ (Node.Sort s) t e h = along (IsOpen as_) e tt
other_open bank as_ (Node.Prod x a b) t e h = along (IsOpen as_) e tt
other_open bank as_ (Node.Lam x a b) t e h = along (IsOpen as_) e tt
other_open bank as_ (Node.Let x v a b) t e h = along (IsOpen as_) e tt
other_open bank as_ (Node.App f a) t e h = along (IsOpen as_) e tt
other_open bank as_ (Node.Const x) t e h = along (IsOpen as_) e tt
other_open bank as_ (Node.Ind x) t e h = along (IsOpen as_) e tt
other_open bank as_ (Node.Ctor x m) t e h = along (IsOpen as_) e tt
other_open bank as_ (Node.Elim x s) t e h = along (IsOpen as_) e tt
other_open bank as_ (Node.Evar n ts) t e h = absurd (h n ts refl)

-- ---- work that ends in a type within the limits

pub comes_fitted : (bank : Terms) (r : Result TermId KernelFault) (U : Tree) (f : ℕ → Kernel Tree) (b c : ℕ) → ((q : Outcome Fault Tree) → ComesTo (λ n. fitting U) c q → ComesTo f b q) → Fitted bank r U → Comes bank r f b c
comes_fitted bank (Ok t) U f b c k h = (h.0.has, ap fit h.0.is ∙ h.1, along (λ z. ComesTo f b (done z c)) (sym h.0.is) (k (done U c) (fitted_comes bank t U c h)))
comes_fitted bank (Err e) U f b c k h = refuses_by bank e (λ n. fitting U) c f b c (λ x. k (failed x c)) (k steps_out) (fitted_refuses bank e U c h)

-- ---- hypotheses

module _ (old new : Terms) (p : Places) (hs : List Hypothesis) (i : IsStore (store_of old p)) (x : NameId) (E : Environment) (b : ℕ) where
  -- the work
  abbrev hypothesis_work : ℕ → Kernel Tree
  hypothesis_work n = infer_by (by_store_types (store_of old p)) E n (read_context (store_of old p) (context_of old hs)) (read (store_of old p) (Var (text_of old x)))

  pub hypothesis_comes : (o : Option Hypothesis) (h : Hypothesis) (r : Result TermId KernelFault) → o ≡ Some h → option_map (hypothesis_of old) o ≡ hypothesis (context_of old hs) (text_of old x) →
      Fitted new r (read (store_of old p) (tree_of old h.kind)) → Comes new r hypothesis_work (suc b) b
  hypothesis_comes o h r e is f =
      comes_fitted new r (read (store_of old p) (tree_of old h.kind)) hypothesis_work (suc b) b
      (λ q. hypothesis_typed (store_of old p) i E (context_of old hs) b (text_of old x) (hypothesis_of old h) q (sym is ∙ ap (option_map (hypothesis_of old)) e)) f

  pub hypothesis_lacks : (o : Option Hypothesis) → o ≡ None → option_map (hypothesis_of old) o ≡ hypothesis (context_of old hs) (text_of old x) → HasName new x → text_of new x ≡ text_of old x →
      Comes new (Err (KernelFault.Unbound x)) hypothesis_work (suc b) b
  hypothesis_lacks o e is has same =
      (has, along (λ z. ComesTo hypothesis_work (suc b) (failed (unbound z) b)) (sym same) (hypothesis_unbound (store_of old p) i E (context_of old hs) b (text_of old x) (sym is ∙ ap (option_map (hypothesis_of old)) e)))

pub hypothesis_over : (bank : Terms) (p : Places) (hs : List Hypothesis) → IsContext (store_of bank p) (context_of bank hs) → (x : NameId) (o : Option Hypothesis) (h : Hypothesis) → o ≡ Some h →
    option_map (hypothesis_of bank) o ≡ hypothesis (context_of bank hs) (text_of bank x) → StandsIn (store_of bank p) (context_of bank hs) (tree_of bank h.kind)
hypothesis_over bank p hs c x o h e is = (kinds_stand (store_of bank p) (context_of bank hs) c (text_of bank x) (hypothesis_of bank h) (sym is ∙ ap (option_map (hypothesis_of bank)) e)).1

-- ---- variables

body_is_over : (vs : List TreeVariable) (xs : List Name) (b : Tree) (es : Trees) → IsOver vs b → EachIsOver vs es → IsOver vs (body_at xs b es)
unfolding body_at
body_is_over vs xs b es h q = put_over vs (zip xs (entries es)) (entries_over vs xs es q) 0 b h

body_is_within : (xs : List Name) (b : Tree) (es : Trees) → Within 0 b → EachWithin 0 es → Within 0 (body_at xs b es)
unfolding body_at
body_is_within xs b es h q = within-instance 0 (zip xs (entries es)) b (entries_within 0 xs es q) h

module _ (bank : Terms) (p : Places) (store : HasStore bank p) (i : IsStore (store_of bank p)) (k : ℕ) (inside : k < length p.variables) where
  -- the variable by places
  abbrev pub variable_there : Variable
  variable_there = (there p.variables k inside).0

  pub place_there : slice_get p.variables k ≡ Some variable_there
  place_there = (there p.variables k inside).1

  pub told_there : slice_get (store_of bank p).variables k ≡ Some (variable_of bank variable_there)
  told_there = variable_told bank p k variable_there place_there

  pub has_there : HasVariable bank variable_there
  has_there = variable_has bank p.variables k variable_there store.variables place_there

  pub stands_there : IsVariable (store_of bank p) (variable_of bank variable_there)
  stands_there = all_get (IsVariable (store_of bank p)) (store_of bank p).variables k (variable_of bank variable_there) i.variables told_there

  pub names_there : names_at (store_of bank p).variables k ≡ names_in (context_of bank variable_there.context)
  unfolding names_at
  names_there = ap (λ o. elim o as (λ z. List Name) [ Some v ↦ names_in v.context | None ↦ [] ]) told_there

  -- by what the store hands out
  module _ (hs : List Hypothesis) (A : TermId) (eh : (v : Variable) → slice_get p.variables k ≡ Some v → hs ≡ v.context) (eA : (v : Variable) → slice_get p.variables k ≡ Some v → A ≡ v.kind) (ts : List TermId) where
    pub names_given : AllByRecursion (HasHypothesis bank) hs
    names_given = along (AllByRecursion (HasHypothesis bank)) (sym (eh variable_there place_there)) (names_have bank variable_there.context has_there.context)

    pub kind_given : HasTerm bank A
    kind_given = along (HasTerm bank) (sym (eA variable_there place_there)) has_there.kind

    pub many_given : length ts ≡ length (names_at (store_of bank p).variables k) → length hs ≡ length ts
    many_given e =
        ap length (eh variable_there place_there) ∙ sym (length-map variable_there.context (λ h. text_of bank h.name)) ∙ ap length (sym (map-map variable_there.context)) ∙ ap length (sym names_there) ∙ sym e
      where
        map-map : (js : List Hypothesis) → names_in (context_of bank js) ≡ map (λ h. text_of bank h.name) js
        map-map [] = refl
        map-map (j ∷ js) = ap (λ xs. text_of bank j.name ∷ xs) (map-map js)

    names_same : (js : List Hypothesis) → map (λ h. text_of bank h.name) js ≡ names_in (context_of bank js)
    names_same [] = refl
    names_same (j ∷ js) = ap (λ xs. text_of bank j.name ∷ xs) (names_same js)

    pub instance_given : (v : TreeVariable) → slice_get (store_of bank p).variables k ≡ Some v → instance (bindings bank hs ts) (tree_of bank A) ≡ body_at (names_in v.context) v.kind (trees_by (tree_of bank) ts)
    unfolding body_at
    instance_given v e =
        ap₂ (λ ps t. put ps 0 t) (bindings_zip bank hs ts ∙ ap (λ xs. zip xs (entries (trees_by (tree_of bank) ts))) (ap (map (λ h. text_of bank h.name)) (eh variable_there place_there) ∙ names_same variable_there.context)) (ap (tree_of bank) (eA variable_there place_there))
        ∙ ap (λ w. put (zip (names_in w.context) (entries (trees_by (tree_of bank) ts))) 0 w.kind) (some_is (sym told_there ∙ e))

    -- the type at an instance is over the store, without loose bound variables
    pub over_given : EachIsOver (store_of bank p).variables (trees_by (tree_of bank) ts) → IsOver (store_of bank p).variables (instance (bindings bank hs ts) (tree_of bank A))
    over_given o =
        along (IsOver (store_of bank p).variables) (sym (instance_given (variable_of bank variable_there) told_there))
        (body_is_over (store_of bank p).variables (names_in (context_of bank variable_there.context)) (tree_of bank variable_there.kind) (trees_by (tree_of bank) ts) stands_there.1.over o)

    pub within_given : EachWithin 0 (trees_by (tree_of bank) ts) → Within 0 (instance (bindings bank hs ts) (tree_of bank A))
    within_given w =
        along (Within 0) (sym (instance_given (variable_of bank variable_there) told_there))
        (body_is_within (names_in (context_of bank variable_there.context)) (tree_of bank variable_there.kind) (trees_by (tree_of bank) ts) stands_there.1.within w)

pub closed_given : (bank : Terms) (ts : List TermId) → EachWithin 0 (trees_by (tree_of bank) ts) → AreClosed bank ts
closed_given bank [] h = tt
closed_given bank (t ∷ ts) h = (h.0, closed_given bank ts h.1)

module _ (old new : Terms) (p : Places) (i : IsStore (store_of old p)) (E : Environment) (g : Context) (b : ℕ) (t : TermId) (k : ℕ) (ts : List TermId) (is : tree_of old t ≡ Evar k (trees_by (tree_of old) ts)) where
  pub variable_comes : (r : Result TermId KernelFault) (v : TreeVariable) → IsOpen (store_of old p).values (tree_of old t) → IsOver (store_of old p).variables (tree_of old t) → slice_get (store_of old p).variables k ≡ Some v →
      IsOver (store_of old p).variables v.kind → Fitted new r (read (store_of old p) (body_at (names_in v.context) v.kind (trees_by (tree_of old) ts))) →
      Comes new r (λ n. infer_by (by_store_types (store_of old p)) E n (read_context (store_of old p) g) (read (store_of old p) (tree_of old t))) (suc b) b
  variable_comes r v free over known kind f =
      along (λ z. Comes new r (λ n. infer_by (by_store_types (store_of old p)) E n (read_context (store_of old p) g) (read (store_of old p) z)) (suc b) b) (sym is)
      (comes_fitted new r (read (store_of old p) (body_at (names_in v.context) v.kind (trees_by (tree_of old) ts)))
      (λ n. infer_by (by_store_types (store_of old p)) E n (read_context (store_of old p) g) (read (store_of old p) (Evar k (trees_by (tree_of old) ts)))) (suc b) b
      (variable_typed (store_of old p) i E g b k (trees_by (tree_of old) ts) v (along (IsOpen (store_of old p).values) is free) known kind (along (IsOver (store_of old p).variables) is over).2) f)

module _ (old new : Terms) (p : Places) where
  pub many_found : (t : TermId) (k : ℕ) (ts us : List TermId) → us ≡ ts → tree_of old t ≡ Evar k (trees_by (tree_of old) ts) → IsOver (store_of old p).variables (tree_of old t) → length us ≡ length (names_at (store_of old p).variables k)
  many_found t k ts us e is over = ap length e ∙ sym (trees_length ts) ∙ (along (IsOver (store_of old p).variables) is over).1
    where
      trees_length : (vs : List TermId) → length (entries (trees_by (tree_of old) vs)) ≡ length vs
      trees_length vs = ap length (entries_map old vs) ∙ length-map vs (tree_of old)

  pub variable_found : (store : HasStore old p) (i : IsStore (store_of old p)) (E : Environment) (g : Context) (b : ℕ) (t : TermId) (k : ℕ) (ts us : List TermId) → us ≡ ts → tree_of old t ≡ Evar k (trees_by (tree_of old) ts) →
      (r : Result TermId KernelFault) → IsOpen (store_of old p).values (tree_of old t) → IsOver (store_of old p).variables (tree_of old t) →
      ((v : TreeVariable) → slice_get (store_of old p).variables k ≡ Some v → Fitted new r (read (store_of old p) (body_at (names_in v.context) v.kind (trees_by (tree_of old) us)))) →
      Comes new r (λ n. infer_by (by_store_types (store_of old p)) E n (read_context (store_of old p) g) (read (store_of old p) (tree_of old t))) (suc b) b
  variable_found store i E g b t k ts us e is r free over answer =
      let inside : k < length p.variables = along (λ z. k < z) (length-map p.variables (variable_of old)) (along (IsOver (store_of old p).variables) is over).0 in
      variable_comes old new p i E g b t k ts is r (variable_of old (variable_there old p store i k inside)) free over (told_there old p store i k inside) (stands_there old p store i k inside).1.over
      (along (λ z. Fitted new r (read (store_of old p) (body_at (names_in (context_of old (variable_there old p store i k inside).context)) (tree_of old (variable_there old p store i k inside).kind) (trees_by (tree_of old) z)))) e
      (answer (variable_of old (variable_there old p store i k inside)) (told_there old p store i k inside)))

-- ---- declared names and sorts

module _ (s : Store) (E : Environment) (g : Context) where
  pub declared_same : (t : Tree) → IsDeclared t → (n : ℕ) → infer_by (by_store_types s) E n (read_context s g) (read s t) ≡ infer_by closed E n [] t
  unfolding read
  declared_same (Sort u) h n = ap (infer_by (by_store_types s) E n (read_context s g)) (reads_sort s.variables s.values u) ∙ sort_same (by_store_types s) closed E (read_context s g) [] u n
  declared_same (Const c) h n = ap (infer_by (by_store_types s) E n (read_context s g)) (reads_const s.variables s.values c) ∙ constant_same (by_store_types s) closed E (read_context s g) [] c n
  declared_same (Ind c) h n = ap (infer_by (by_store_types s) E n (read_context s g)) (reads_ind s.variables s.values c) ∙ family_same (by_store_types s) closed E (read_context s g) [] c n
  declared_same (Ctor c m) h n = ap (infer_by (by_store_types s) E n (read_context s g)) (reads_ctor s.variables s.values c m) ∙ constructor_same (by_store_types s) closed E (read_context s g) [] c m n
  declared_same (Elim c u) h n = ap (infer_by (by_store_types s) E n (read_context s g)) (reads_eliminator s.variables s.values c u) ∙ eliminator_same (by_store_types s) closed E (read_context s g) [] c u n
  declared_same (Rel i) h n = absurd h
  declared_same (Var x) h n = absurd h
  declared_same (Prod x A B) h n = absurd h
  declared_same (Lam x A B) h n = absurd h
  declared_same (Let x v A B) h n = absurd h
  declared_same (App f a) h n = absurd h
  declared_same (Evar m ts) h n = absurd h

  pub declared_comes : (bank : Terms) (r : Result TermId KernelFault) (t : Tree) (b left : ℕ) → IsDeclared t → Types bank r (λ n. infer_by closed E n [] t) b left → Comes bank r (λ n. infer_by (by_store_types s) E n (read_context s g) (read s t)) b left
  declared_comes bank (Ok u) t b left d h =
      (h.0.term.has, h.0.fits, comes_same (λ n. infer_by (by_store_types s) E n (read_context s g) (read s t)) (λ n. infer_by closed E n [] t) b (done (tree_of bank u) left) (declared_same t d) h.1)
  declared_comes bank (Err e) t b left d h =
      refuses_by bank e (λ n. infer_by closed E n [] t) b (λ n. infer_by (by_store_types s) E n (read_context s g) (read s t)) b left
      (λ x k. comes_same (λ n. infer_by (by_store_types s) E n (read_context s g) (read s t)) (λ n. infer_by closed E n [] t) b (failed x left) (declared_same t d) k)
      (λ k. comes_same (λ n. infer_by (by_store_types s) E n (read_context s g) (read s t)) (λ n. infer_by closed E n [] t) b steps_out (declared_same t d) k) h

-- ---- each node pays a tick

pub ticks_first : (o : Open) (E : Environment) (n : ℕ) (g : Context) (t : Tree) → (r : Kernel Tree) × (infer_by o E (suc n) g t ≡ tick r)
unfolding infer_by
ticks_first o E n g (Rel i) = (_, refl)
ticks_first o E n g (Var x) = (_, refl)
ticks_first o E n g (Sort u) = (_, refl)
ticks_first o E n g (Prod x A B) = (_, refl)
ticks_first o E n g (Lam x A B) = (_, refl)
ticks_first o E n g (Let x v A B) = (_, refl)
ticks_first o E n g (App f a) = (_, refl)
ticks_first o E n g (Const c) = (_, refl)
ticks_first o E n g (Ind c) = (_, refl)
ticks_first o E n g (Ctor c m) = (_, refl)
ticks_first o E n g (Elim c u) = (_, refl)
ticks_first o E n g (Evar m ts) = (_, refl)

tick_paid : (b : ℕ) (r : Kernel Tree) (T : Tree) (left : ℕ) → within b (tick r) ≡ done T left → left < b
unfolding within left_of
tick_paid zero r T left e = absurd (grind arith)
tick_paid (suc b) r T left e = let h = along (λ z. left_of z ≤ b) e (within_falls b r) in omega (arith, h)

pub infer_pays : (o : Open) (E : Environment) (g : Context) (t T : Tree) (b left : ℕ) → ComesTo (λ n. infer_by o E n g t) b (done T left) → left < b
infer_pays o E g t T b left h = let k = ticks_first o E b g t in tick_paid b k.0 T left (ap (within b) (sym k.1) ∙ h (suc b) (omega arith))

pub pays_infer : (bank : Terms) (r : Result TermId KernelFault) (o : Open) (E : Environment) (g : Context) (t : Tree) (b left : ℕ) → Comes bank r (λ n. infer_by o E n g t) b left → IfOk r (λ u. left < b)
pays_infer bank (Ok u) o E g t b left h = infer_pays o E g t (tree_of bank u) b left h.2
pays_infer bank (Err e) o E g t b left h = tt

pub types_pay : (bank : Terms) (r : Result TermId KernelFault) (o : Open) (E : Environment) (g : Context) (t : Tree) (b left : ℕ) → Types bank r (λ n. infer_by o E n g t) b left → OnOk r (left < b)
types_pay bank (Ok u) o E g t b left h = infer_pays o E g t (tree_of bank u) b left h.1
types_pay bank (Err e) o E g t b left h = tt

-- ---- without a tick, and with one

infer_unpaid_at : (o : Open) (E : Environment) (g : Context) (t : Tree) (n : ℕ) → 0 < n → within 0 (infer_by o E n g t) ≡ steps_out
unfolding within
infer_unpaid_at o E g t zero i = absurd (omega arith)
infer_unpaid_at o E g t (suc n) i = ap (λ z. within 0 z) (ticks_first o E n g t).1

pub infer_unpaid : (o : Open) (E : Environment) (g : Context) (t : Tree) (b : ℕ) → b ≡ 0 → ComesTo (λ n. infer_by o E n g t) b steps_out
infer_unpaid o E g t b e = along (λ z. ComesTo (λ n. infer_by o E n g t) z steps_out) (sym e) (λ n i. infer_unpaid_at o E g t n i)

module _ (old new : Terms) (p : Places) (E : Environment) (hs js : List Hypothesis) (e : js ≡ hs) (T U : Tree) (q : T ≡ U) (l b : ℕ) (i : l ≡ suc b) (r : Result TermId KernelFault) where
  -- the work on a tree in a context
  abbrev single_work : List Hypothesis → Tree → ℕ → Kernel Tree
  single_work ks V n = infer_by (by_store_types (store_of old p)) E n (read_context (store_of old p) (context_of old ks)) (read (store_of old p) V)

  pub single_by : Comes new r (single_work js U) (suc b) b → Comes new r (single_work hs T) l b
  single_by h =
      along (λ z. Comes new r (single_work hs T) z b) (sym i)
      (along (λ z. Comes new r (single_work hs z) (suc b) b) (sym q) (along (λ z. Comes new r (single_work z U) (suc b) b) e h))
