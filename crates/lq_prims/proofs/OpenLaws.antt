-- A type is opened into premises, one by one.
use Rattle.std.specs.Prelude.{leb}
use Rattle.std.proofs.Common.{◌≡◌, ◌∙◌, ◌<◌, ◌≤◌, ◌-◌, ℕ, suc, refl, sym, ap, ap₂, arith, leb-false, Bool, true, false, List, [], ◌∷◌, ◌++◌, map, length, reverse, Option, None, Result, Ok, Err}
use Rattle.std.proofs.Common.{subst as along}
use Rattle.std.proofs.lemmas.List.{map-append, reverse-append}
use Rattle.std.specs.List.{AllByRecursion}
use Rattle.lq_trees.specs.Tree.{Name, Tree, Context}
use Rattle.lq_trees.specs.Tree.Tree.{Rel, Var, Sort, Prod, Lam, Let, App, Const, Ind, Ctor, Elim, Evar}
use Rattle.lq_trees.specs.Change.{subst}
use Rattle.lq_trees.specs.Ticks.{gives, fails, tick, cut, ◌>>=◌, done, ComesTo}
use Rattle.lq_trees.proofs.Outcomes.{comes_gives}
use Rattle.lq_calculus.specs.Declarations.{Env as Environment}
use Rattle.lq_terms.specs.declared.nodes.Hypothesis.{Hypothesis}
use Rattle.lq_terms.specs.declared.nodes.NameId.{NameId}
use Rattle.lq_terms.specs.declared.nodes.TermId.{TermId}
use Rattle.lq_terms.specs.Terms.{Terms, HasName, HasTerm, IsTerm, Grows, tree_of, text_of}
use Rattle.lq_solving.specs.Stores.{Store, StoreFault, Variable, count, names_in, most_variables, new_variable, store_full, with_variable}
use Rattle.lq_solving.proofs.InstanceLaws.{length_map}
use Rattle.lq_solving.proofs.ElabKept.{Grown}
use Rattle.lq_solving.proofs.Good.{IsGood, good_holds, good_within}
use Rattle.lq_solving.proofs.Later.{Later, good_stands, later_keeps, later_variables}
use Rattle.lq_solving.proofs.StoreLaws.{context_keeps}
use Rattle.lq_solving.proofs.StandsLaws.{StandsUnder, domain_stands, rest_stands, subst_stands}
use Rattle.lq_solving.specs.Kept.{IsContext, IsStore, Stands, StandsIn}
use Rattle.lq_trees.specs.Hypotheses.{HoldsOnly}
use Rattle.lq_trees.specs.Index.{Within}
use Rattle.lq_evars.specs.declared.store.Variable.{Variable as PlacedVariable}
use Rattle.lq_evars.specs.Places.{Places, HasStore, one_more, store_of, variable_of}
use Rattle.lq_evars.proofs.Having.{more_has}
use Rattle.lq_terms.specs.Contexts.{context_of}
use Rattle.lq_terms.proofs.Growth.{Grows-refl}
use Rattle.lq_tactics.proofs.RowsKept.{IsMade, head_good, variable_made}
use Rattle.lq_prims.specs.Making.{HasIn, IsIn}
use Rattle.lq_solving.specs.Elaboration.{Givens}
use Rattle.lq_evars.proofs.Growing.{store_of-grown}
use Rattle.lq_tactics.specs.Rows.{Doing, Scene, store_work, head_of, goal_term}
use Rattle.lq_tactics.specs.Applying.{Opening as TreeOpening, premise_more, opened_more, open_type}
use Rattle.lq_tactics.specs.Primitives.{is_binder}
use Rattle.lq_prims.specs.declared.faults.PrimFault.{PrimFault}
use Rattle.lq_prims.specs.declared.opening.Opening.{Opening}
use Rattle.lq_prims.specs.Opening.{opening_of, opening_then, openings_of, HasOpening, Carries, Opens, open_work}
use Rattle.lq_prims.specs.Scenes.{IsDeclared, scene_by, form_work}
use Rattle.lq_env.specs.declared.environment.Declared.{Declared}
use Rattle.lq_env.specs.Environments.{env_of}
use Rattle.lq_solving.specs.Claims.{ArePlainDeclarations}
use Rattle.lq_prims.specs.Working.{Refuses, Does}
use Rattle.lq_prims.proofs.MakingLaws.{in_grown, in_later, same_context, same_store, term_grown}
use Rattle.lq_prims.proofs.WorkLaws.{refuses_first, refuses_then, refuses_same, does_same, does_then, does_after, comes_is_given}

-- work, and what is told of its answer, then more
pub then_again : {A B C : Type 0} (w : Doing A) (k : A → Doing B) (h : B → Doing C) → (w >>= λ a. k a >>= h) ≡ ((w >>= k) >>= h)
unfolding ◌>>=◌
then_again (gives a) k h = refl
then_again (fails x) k h = refl
then_again cut k h = refl
then_again (tick w) k h = ap tick (then_again w k h)

-- what the rest comes to is what the whole comes to
abbrev pub Leads : (whole rest : ℕ → Doing (List TreeOpening)) → (budget left : ℕ) → Type 0
Leads whole rest b l = (late : Terms) (ps : List TreeOpening) (q : Result (Unit {0}) PrimFault) (left : ℕ) → Does late (λ u. ps) q rest l left → Does late (λ u. ps) q whole b left

-- ---- one premise more

pub more_made : (c : Scene) (o : TreeOpening) (x : Name) (A B : Tree) (s1 : Store) (k : ℕ) (g : Context) → c.context ≡ g → store_work (new_variable o.store (record { context = g; kind = A; name = None })) ≡ gives (s1, k) → (p : TreeOpening) →
    record { store = s1; premises = o.premises ++ k ∷ []; names = o.names ++ x ∷ []; rest = subst (goal_term k g) B } ≡ p → premise_more c o x A B ≡ gives p
unfolding premise_more ◌>>=◌
more_made c o x A B s1 k g e h p is =
    ap (λ z. store_work (new_variable o.store (record { context = z; kind = A; name = None })) >>= λ r. gives (record { store = r.0; premises = o.premises ++ r.1 ∷ []; names = o.names ++ x ∷ []; rest = subst (goal_term r.1 z) B })) e
    ∙ ap (λ w. w >>= λ r. gives (record { store = r.0; premises = o.premises ++ r.1 ∷ []; names = o.names ++ x ∷ []; rest = subst (goal_term r.1 g) B })) h ∙ ap gives is

pub more_refused : (bank : Terms) (e : PrimFault) (c : Scene) (o : TreeOpening) (x : Name) (A B : Tree) (g : Context) → c.context ≡ g → (b : ℕ) → Refuses bank e (λ n. store_work (new_variable o.store (record { context = g; kind = A; name = None }))) b b →
    Refuses bank e (λ n. premise_more c o x A B) b b
unfolding premise_more
more_refused bank e c o x A B g q b h =
    refuses_first bank e (λ n. store_work (new_variable o.store (record { context = c.context; kind = A; name = None })))
    (λ r n. gives (record { store = r.0; premises = o.premises ++ (r.1 ∷ []); names = o.names ++ (x ∷ []); rest = subst (goal_term r.1 c.context) B })) b b
    (along (λ z. Refuses bank e (λ n. store_work (new_variable o.store (record { context = z; kind = A; name = None }))) b b) (sym q) h)

-- a new variable, where there is room
pub made_room : (s : Store) (v : Variable) (s1 : Store) (k : ℕ) → new_variable s v ≡ Ok (s1, k) → (count s < 16777216) × (k ≡ count s)
unfolding new_variable
made_room s v s1 k e = at (leb most_variables (count s)) refl e
  where
    at : (b : Bool) → leb most_variables (count s) ≡ b → ◌≡◌ {A = Result (Store × ℕ) StoreFault} (elim b as (λ z. Result (Store × ℕ) StoreFault) [ true ↦ Err store_full | false ↦ Ok (with_variable s v, count s) ]) (Ok (s1, k)) → (count s < 16777216) × (k ≡ count s)
    at true f y = absurd (grind (arith, y))
    at false f y = (omega (arith, leb-false most_variables (count s) f), sym (ap (λ r. elim r as (λ z. ℕ) [ Ok p ↦ p.1 | Err x ↦ 0 ]) y))

module _ (bank : Terms) (p p1 : Places) (hs : List Hypothesis) (t : TermId) (k : ℕ) (i : IsIn bank p hs) (h : HasIn bank p hs t)
    (m : new_variable (store_of bank p) (record { context = context_of bank hs; kind = tree_of bank t; name = None }) ≡ Ok (store_of bank p1, k)) (e : p1 ≡ one_more p (record { context = hs; kind = t; name = None })) where
  pub made : IsMade (store_of bank p) (context_of bank hs) (store_of bank p1, k)
  made = variable_made (store_of bank p) (context_of bank hs) (tree_of bank t) (store_of bank p1, k) i.kept i.stands h.stands m

  made_has : HasStore bank p1
  made_has = along (HasStore bank) (sym e) (more_has bank p (record { context = hs; kind = t; name = None }) i.store (record { context = i.has; kind = h.has; name = tt }))

  pub made_in : IsIn bank p1 hs
  made_in = in_later bank bank (Grows-refl bank) p hs i p1 made_has made.grown

  pub made_number : (k ≡ length p.variables) × (length p.variables < 16777216)
  made_number =
      let r = made_room (store_of bank p) (record { context = context_of bank hs; kind = tree_of bank t; name = None }) (store_of bank p1) k m in
      let l = length_map (variable_of bank) p.variables in
      (omega (arith, r.1, l), omega (arith, r.0, l))

  pub made_more : length p1.variables ≡ suc (length p.variables)
  made_more = ap (λ z. length z.variables) e ∙ length_one p.variables
    where
      length_one : (vs : List PlacedVariable) → length (vs ++ record { context = hs; kind = t; name = None } ∷ []) ≡ suc (length vs)
      length_one [] = refl
      length_one (v ∷ vs) = omega (arith, length_one vs)

-- a variable's term stands where it was made
pub made_stands : (bank new : Terms) → Grows bank new → (p : Places) (hs : List Hypothesis) → IsIn bank p hs → (k : ℕ) (t : TermId) → IsTerm new t (goal_term k (context_of bank hs)) → StandsIn (store_of bank p) (context_of bank hs) (goal_term k (context_of bank hs)) →
    HasIn new p hs t
made_stands bank new grows p hs i k t is h = record {
  has = is.has;
  stands = along (λ z. StandsIn z (context_of new hs) (tree_of new t)) (sym (same_store bank new grows p hs i))
      (along (λ z. StandsIn (store_of bank p) z (tree_of new t)) (sym (same_context bank new grows p hs i)) (along (StandsIn (store_of bank p) (context_of bank hs)) (sym is.is) h));
}

-- ---- one premise more, by its parts

module _ (old new : Terms) (grows : Grows old new) (hs : List Hypothesis) (o : Opening) (h : HasOpening old hs o) (x : NameId) (A B : TermId)
    (good : IsGood (store_of old o.store).variables (store_of old o.store).values (names_in (context_of old hs)) 0 (Prod (text_of old x) (tree_of old A) (tree_of old B))) where
  abbrev pub s : Store
  s = store_of old o.store

  abbrev pub xs : List Name
  xs = names_in (context_of old hs)

  product : Stands s xs (Prod (text_of old x) (tree_of old A) (tree_of old B))
  product = good_stands s h.place.kept s.values xs (Prod (text_of old x) (tree_of old A) (tree_of old B)) good

  pub domain_in : HasTerm old A → HasIn old o.store hs A
  domain_in has = record { has = has; stands = domain_stands s h.place.kept xs (text_of old x) (tree_of old A) (tree_of old B) product }

  pub rest_held : HasTerm old B → HoldsOnly (names_in (context_of new hs)) (tree_of new B)
  rest_held has = along (λ z. HoldsOnly (names_in z) (tree_of new B)) (sym (same_context old new grows o.store hs h.place)) (along (HoldsOnly xs) (sym (grows.tree B has)) (good_holds s.variables s.values xs 1 (tree_of old B) good.1))

  pub rest_within : HasTerm old B → Within 1 (tree_of new B)
  rest_within has = along (Within 1) (sym (grows.tree B has)) (good_within s.variables s.values xs 1 (tree_of old B) good.1)

  -- what is left stands, once the bound variable has its value
  module _ (p1 : Places) (later : Terms) (more : Grows new later) (i : IsIn new p1 hs) (g : Grown s (store_of new p1)) (v : TermId) (j : HasIn new p1 hs v) (r : TermId) (has : HasTerm old B)
      (is : IsTerm later r (subst (tree_of new v) (tree_of new B))) where
    pub rest_in : HasIn later p1 hs r
    rest_in = record {
      has = is.has;
      stands = along (λ z. StandsIn z (context_of later hs) (tree_of later r)) (sym (same_store new later more p1 hs i))
          (along (λ z. StandsIn (store_of new p1) z (tree_of later r)) (sym (same_context new later more p1 hs i)) (along (StandsIn (store_of new p1) (context_of new hs)) (sym is.is)
          (along (λ z. Stands (store_of new p1) (names_in z) (subst (tree_of new v) (tree_of new B))) (sym (same_context old new grows o.store hs h.place))
          (subst_stands (store_of new p1) g.store xs (tree_of new v) (tree_of new B)
          (along (λ z. Stands (store_of new p1) (names_in z) (tree_of new v)) (same_context old new grows o.store hs h.place) j.stands)
          (along (StandsUnder (store_of new p1) xs 1) (sym (grows.tree B has)) (rest_stands (store_of new p1) g.store xs (text_of old x) (tree_of old A) (tree_of old B) (g.keeps xs (Prod (text_of old x) (tree_of old A) (tree_of old B)) product)))))));
    }

-- an opening with one premise more, once it lies in a bank
pub opening_more : (old new : Terms) (hs : List Hypothesis) (o p : Opening) (x : NameId) (k : ℕ) → Grows old new → HasOpening old hs o → HasName old x → IsIn new p.store hs → HasIn new p.store hs p.rest → p.names.items ≡ o.names.items ++ x ∷ [] →
    p.premises.items ≡ o.premises.items ++ k ∷ [] → k ≡ length o.store.variables → length p.store.variables ≡ suc (length o.store.variables) → HasOpening new hs p
opening_more old new hs o p x k grows h name i r e f number more = record {
  place = i;
  rest = r;
  names = along (AllByRecursion (HasName new)) (sym e) (names_on o.names.items h.names);
  premises = along (AllByRecursion (λ j. j < length p.store.variables)) (sym f) (numbers_on o.premises.items h.premises);
}
  where
    names_on : (ys : List NameId) → AllByRecursion (HasName old) ys → AllByRecursion (HasName new) (ys ++ x ∷ [])
    names_on [] a = (omega (arith, name, grows.names), tt)
    names_on (y ∷ ys) a = (omega (arith, a.0, grows.names), names_on ys a.1)

    numbers_on : (js : List ℕ) → AllByRecursion (λ j. j < length o.store.variables) js → AllByRecursion (λ j. j < length p.store.variables) (js ++ k ∷ [])
    numbers_on [] a = (omega (arith, number, more), tt)
    numbers_on (j ∷ js) a = (omega (arith, a.0, more), numbers_on js a.1)

-- its tree
pub more_tree : (old new : Terms) (hs : List Hypothesis) (o p : Opening) (x : NameId) (k : ℕ) (v B : Tree) → Grows old new → HasOpening old hs o → HasName old x → p.names.items ≡ o.names.items ++ x ∷ [] → p.premises.items ≡ o.premises.items ++ k ∷ [] →
    tree_of new p.rest ≡ subst v B → (s1 : Store) → s1 ≡ store_of new p.store →
    record { store = s1; premises = o.premises.items ++ k ∷ []; names = map (text_of old) o.names.items ++ text_of old x ∷ []; rest = subst v B } ≡ opening_of new p
more_tree old new hs o p x k v B grows h name e f r s1 q =
    ap (λ z. record { store = z; premises = o.premises.items ++ k ∷ []; names = map (text_of old) o.names.items ++ text_of old x ∷ []; rest = subst v B }) q
    ∙ ap₂ (λ ks ns. record { store = store_of new p.store; premises = ks; names = ns; rest = subst v B }) (sym f) (sym (ap (map (text_of new)) e ∙ texts_on o.names.items h.names))
    ∙ ap (λ u. record { store = store_of new p.store; premises = p.premises.items; names = map (text_of new) p.names.items; rest = u }) (sym r)
  where
    texts_on : (ys : List NameId) → AllByRecursion (HasName old) ys → map (text_of new) (ys ++ x ∷ []) ≡ map (text_of old) ys ++ text_of old x ∷ []
    texts_on [] a = ap (λ y. y ∷ []) (grows.text x name)
    texts_on (y ∷ ys) a = ap₂ (λ z zs. z ∷ zs) (grows.text y a.0) (texts_on ys a.1)

-- a weak head form is as it reads
pub form_good : (E : Environment) → ArePlainDeclarations E → (s : Store) → IsStore s → (g : Context) → IsContext s g → (t T : Tree) (b l : ℕ) → StandsIn s g t → ComesTo (form_work E s g t) b (done T l) → IsGood s.variables s.values (names_in g) 0 T
unfolding head_of
form_good E plain s i g c t T b l h y = head_good (scene_by E s 0 g (Rel 0) [] (suc b)) plain s i c t T h (comes_is_given (form_work E s g t) b l T y)

-- the same of a product in a bank that has grown
pub product_good : (old mid : Terms) (grows : Grows old mid) (ds : List (NameId × Declared)) → IsDeclared old ds → (hs : List Hypothesis) (o : Opening) → HasOpening old hs o → (t : Tree) (b l : ℕ) →
    ComesTo (form_work (env_of old ds) (store_of old o.store) (context_of old hs) (tree_of old o.rest)) b (done t l) → (y : NameId) (C D : TermId) → t ≡ Prod (text_of mid y) (tree_of mid C) (tree_of mid D) →
    IsGood (store_of mid o.store).variables (store_of mid o.store).values (names_in (context_of mid hs)) 0 (Prod (text_of mid y) (tree_of mid C) (tree_of mid D))
product_good old mid grows ds d hs o h t b l w y C D e =
    along (λ z. IsGood z.variables z.values (names_in (context_of mid hs)) 0 (Prod (text_of mid y) (tree_of mid C) (tree_of mid D))) (sym (same_store old mid grows o.store hs h.place))
    (along (λ z. IsGood (store_of old o.store).variables (store_of old o.store).values (names_in z) 0 (Prod (text_of mid y) (tree_of mid C) (tree_of mid D))) (sym (same_context old mid grows o.store hs h.place))
    (along (IsGood (store_of old o.store).variables (store_of old o.store).values (names_in (context_of old hs)) 0) e
    (form_good (env_of old ds) d.plain (store_of old o.store) h.place.kept (context_of old hs) h.place.stands (tree_of old o.rest) t b l h.rest.stands w)))

-- ---- one step of the openings

module _ (E : Environment) (s : Store) (k : ℕ) (g : Context) (T : Tree) (vs : Givens) (o : TreeOpening) (m : ℕ) (os : List TreeOpening) (b : ℕ) where
  abbrev c : ℕ → Scene
  c n = scene_by E s k g T vs n

  abbrev from_form : Tree → ℕ → Doing (List TreeOpening)
  from_form t n = opened_more (c n) (open_type (c n) m) o os t >>= λ p. gives p.0

  step_is : (n : ℕ) → (form_work E o.store g o.rest n >>= λ t. from_form t n) ≡ open_work (c n) (suc m) o os
  unfolding open_work open_type head_of
  step_is n = then_again (form_work E o.store g o.rest n) (opened_more (c n) (open_type (c n) m) o os) (λ p. gives p.0)

  pub step_refused : (bank : Terms) (e : PrimFault) (l : ℕ) → Refuses bank e (form_work E o.store g o.rest) b l → Refuses bank e (λ n. open_work (c n) (suc m) o os) b l
  step_refused bank e l h = refuses_same bank e (λ n. form_work E o.store g o.rest n >>= λ t. from_form t n) (λ n. open_work (c n) (suc m) o os) b l step_is (refuses_first bank e (form_work E o.store g o.rest) from_form b l h)

  module _ (t : Tree) (l : ℕ) (h : ComesTo (form_work E o.store g o.rest) b (done t l)) where
    stepped : {X : Type 0} (bank : Terms) (tell : X → List TreeOpening) (q : Result X PrimFault) (left : ℕ) → Does bank tell q (from_form t) l left → Does bank tell q (λ n. open_work (c n) (suc m) o os) b left
    stepped bank tell q left d =
        does_same bank tell q (λ n. form_work E o.store g o.rest n >>= λ t. from_form t n) (λ n. open_work (c n) (suc m) o os) b left step_is (does_then bank tell q (form_work E o.store g o.rest) from_form b l left t h d)

    ends_at : (u : Tree) → is_binder u ≡ false → (n : ℕ) → from_form u n ≡ gives (o ∷ os)
    unfolding opened_more is_binder ◌>>=◌
    ends_at (Prod x A B) e n = absurd (grind (arith, e))
    ends_at (Let x v A B) e n = absurd (grind (arith, e))
    ends_at (Rel i) e n = refl
    ends_at (Var x) e n = refl
    ends_at (Sort u) e n = refl
    ends_at (Lam x A u) e n = refl
    ends_at (App f a) e n = refl
    ends_at (Const x) e n = refl
    ends_at (Ind x) e n = refl
    ends_at (Ctor x i) e n = refl
    ends_at (Elim x u) e n = refl
    ends_at (Evar i ts) e n = refl

    ends_let : (x : Name) (v A B : Tree) (n : ℕ) → from_form (Let x v A B) n ≡ gives (o ∷ os)
    unfolding opened_more ◌>>=◌
    ends_let x v A B n = refl

    pub step_ends : (bank : Terms) → is_binder t ≡ false → ComesTo (λ n. open_work (c n) (suc m) o os) b (done (o ∷ os) l)
    step_ends bank e = stepped {X = Unit {0}} bank (λ u. o ∷ os) (Ok tt) l (comes_gives (from_form t) (o ∷ os) l (λ n. ends_at t e n))

    pub step_ends_let : (bank : Terms) (x : Name) (v A B : Tree) → t ≡ Let x v A B → ComesTo (λ n. open_work (c n) (suc m) o os) b (done (o ∷ os) l)
    step_ends_let bank x v A B e = stepped {X = Unit {0}} bank (λ u. o ∷ os) (Ok tt) l (comes_gives (from_form t) (o ∷ os) l (λ n. ap (λ z. from_form z n) e ∙ ends_let x v A B n))

    module _ (x : Name) (A B : Tree) (e : t ≡ Prod x A B) where
      product_is : (n : ℕ) → (premise_more (c n) o x A B >>= λ p. open_work (c n) m p (o ∷ os)) ≡ from_form t n
      unfolding opened_more open_work
      product_is n = then_again (premise_more (c n) o x A B) (λ p. open_type (c n) m p (o ∷ os)) (λ p. gives p.0) ∙ ap (λ z. from_form z n) (sym e)

      pub step_product : (p : TreeOpening) → ((n : ℕ) → premise_more (c n) o x A B ≡ gives p) → {X : Type 0} (bank : Terms) (tell : X → List TreeOpening) (q : Result X PrimFault) (left : ℕ) → Does bank tell q (λ n. open_work (c n) m p (o ∷ os)) l left →
          Does bank tell q (λ n. open_work (c n) (suc m) o os) b left
      step_product p h bank tell q left d =
          stepped bank tell q left (does_same bank tell q (λ n. premise_more (c n) o x A B >>= λ p. open_work (c n) m p (o ∷ os)) (from_form t) l left product_is
          (does_after bank tell q (λ n. premise_more (c n) o x A B) (λ p n. open_work (c n) m p (o ∷ os)) l left p h d))

      pub product_refused : (bank : Terms) (f : PrimFault) → ((a : ℕ) → Refuses bank f (λ n. premise_more (c 0) o x A B) a a) → ((n : ℕ) → premise_more (c 0) o x A B ≡ premise_more (c n) o x A B) → Refuses bank f (λ n. open_work (c n) (suc m) o os) b l
      product_refused bank f r same =
          refuses_same bank f (λ n. form_work E o.store g o.rest n >>= λ t. from_form t n) (λ n. open_work (c n) (suc m) o os) b l step_is
          (refuses_then bank f (form_work E o.store g o.rest) from_form b l l t h
          (refuses_same bank f (λ n. premise_more (c n) o x A B >>= λ p. open_work (c n) m p (o ∷ os)) (from_form t) l l product_is
          (refuses_first bank f (λ n. premise_more (c n) o x A B) (λ p n. open_work (c n) m p (o ∷ os)) l l (refuses_same bank f (λ n. premise_more (c 0) o x A B) (λ n. premise_more (c n) o x A B) l l same (r l)))))

-- the scene's bound is not looked at
pub premise_same : (E : Environment) (s : Store) (k : ℕ) (g : Context) (T : Tree) (vs : Givens) (o : TreeOpening) (x : Name) (A B : Tree) (n : ℕ) → premise_more (scene_by E s k g T vs 0) o x A B ≡ premise_more (scene_by E s k g T vs n) o x A B
unfolding premise_more
premise_same E s k g T vs o x A B n = refl

-- ---- openings in a bank that has grown

module _ (old new : Terms) (grows : Grows old new) (hs : List Hypothesis) where
  names_same : (xs : List NameId) → AllByRecursion (HasName old) xs → (map (text_of new) xs ≡ map (text_of old) xs) × AllByRecursion (HasName new) xs
  names_same [] h = (refl, tt)
  names_same (x ∷ xs) h = let r = names_same xs h.1 in (ap₂ (λ y ys. y ∷ ys) (grows.text x h.0) r.0, (omega (arith, h.0, grows.names), r.1))

  pub opening_same : (o : Opening) → HasOpening old hs o → opening_of new o ≡ opening_of old o
  opening_same o h =
      ap (λ z. record { store = z; premises = o.premises.items; names = map (text_of new) o.names.items; rest = tree_of new o.rest }) (store_of-grown old new grows o.store h.place.store)
      ∙ ap₂ (λ y t. record { store = store_of old o.store; premises = o.premises.items; names = y; rest = t }) (names_same o.names.items h.names).0 (grows.tree o.rest h.rest.has)

  pub opening_grown : (o : Opening) → HasOpening old hs o → HasOpening new hs o
  opening_grown o h = record {
    place = in_grown old new grows o.store hs h.place;
    rest = term_grown old new grows o.store hs h.place o.rest h.rest;
    names = (names_same o.names.items h.names).1;
    premises = h.premises;
  }

  pub openings_grown : (os : List Opening) → AllByRecursion (HasOpening old hs) os → (map (opening_of new) os ≡ map (opening_of old) os) × AllByRecursion (HasOpening new hs) os
  openings_grown [] h = (refl, tt)
  openings_grown (o ∷ os) h = let r = openings_grown os h.1 in (ap₂ (λ y ys. y ∷ ys) (opening_same o h.0) r.0, (opening_grown o h.0, r.1))

  pub carries_grown : (t : TermId) (os : List Opening) → AllByRecursion (HasOpening old hs) os → AllByRecursion (Carries old hs t) os → AllByRecursion (Carries new hs t) os
  carries_grown t [] h k = tt
  carries_grown t (o ∷ os) h k = (term_grown old new grows o.store hs h.0.place t k.0, carries_grown t os h.1 k.1)

-- openings, and one behind them
pub all_before : (P : Opening → Type 0) (os ps : List Opening) (o : Opening) → ps ≡ os ++ o ∷ [] → AllByRecursion P ps → AllByRecursion P os × P o
all_before P os ps o e h = parts os (along (AllByRecursion P) e h)
  where
    parts : (qs : List Opening) → AllByRecursion P (qs ++ o ∷ []) → AllByRecursion P qs × P o
    parts [] a = (tt, a.0)
    parts (q ∷ qs) a = let r = parts qs a.1 in ((a.0, r.0), r.1)

-- one opening more behind others
pub openings_more : (bank : Terms) (os ps : List Opening) (o : Opening) → ps ≡ os ++ o ∷ [] → openings_of bank ps ≡ opening_of bank o ∷ openings_of bank os
openings_more bank os ps o e =
    ap (openings_of bank) e ∙ ap reverse (map-append (opening_of bank) os (o ∷ [])) ∙ reverse-append (map (opening_of bank) os) (opening_of bank o ∷ [])

pub all_behind : (P : Opening → Type 0) (os ps : List Opening) (o : Opening) → ps ≡ os ++ o ∷ [] → AllByRecursion P os → P o → AllByRecursion P ps
all_behind P os ps o e h k = along (AllByRecursion P) (sym e) (more os h)
  where
    more : (qs : List Opening) → AllByRecursion P qs → AllByRecursion P (qs ++ o ∷ [])
    more [] a = (k, tt)
    more (q ∷ qs) a = (a.0, more qs a.1)

-- an opening once its rest was unified, over the store then
pub opening_unified : (mid new : Terms) → Grows mid new → (hs : List Hypothesis) (o : Opening) → HasOpening mid hs o → (p : Places) → HasStore new p → IsStore (store_of new p) → Later (store_of mid o.store) (store_of new p) →
    HasOpening new hs (record { store = p; premises = o.premises; names = o.names; rest = o.rest })
opening_unified mid new grows hs o h p has kept l =
    let keeps = later_keeps l h.place.kept in
    let same = sym (same_context mid new grows o.store hs h.place) in
    let many : count (store_of new p) ≡ count (store_of mid o.store) = ap length (later_variables l) in
    record {
      place = record {
        store = has;
        kept = kept;
        has = (in_grown mid new grows o.store hs h.place).has;
        stands = along (IsContext (store_of new p)) same (context_keeps (store_of mid o.store) (store_of new p) keeps [] (context_of mid hs) h.place.stands);
      };
      rest = record {
        has = omega (arith, h.rest.has, grows.nodes);
        stands = along (λ z. StandsIn (store_of new p) z (tree_of new o.rest)) same (along (StandsIn (store_of new p) (context_of mid hs)) (sym (grows.tree o.rest h.rest.has)) (keeps (names_in (context_of mid hs)) (tree_of mid o.rest) h.rest.stands));
      };
      names = (names_same mid new grows hs o.names.items h.names).1;
      premises = along (λ n. AllByRecursion (λ k. k < n) o.premises.items) (omega (arith, many, length_map (variable_of new) p.variables, length_map (variable_of mid) o.store.variables)) h.premises;
    }

pub unified_tree : (mid new : Terms) → Grows mid new → (hs : List Hypothesis) (o : Opening) → HasOpening mid hs o → (p : Places) →
    opening_then (opening_of mid o, store_of new p) ≡ opening_of new (record { store = p; premises = o.premises; names = o.names; rest = o.rest })
unified_tree mid new grows hs o h p =
    ap₂ (λ y t. record { store = store_of new p; premises = o.premises.items; names = y; rest = t }) (sym (names_same mid new grows hs o.names.items h.names).0) (sym (grows.tree o.rest h.rest.has))

-- a term without premises
pub not_opened_has : (bank : Terms) (hs : List Hypothesis) (p : Places) (t : TermId) (o : Opening) → IsIn bank p hs → HasIn bank p hs t → o.store ≡ p → o.rest ≡ t → o.names.items ≡ [] → o.premises.items ≡ [] → HasOpening bank hs o
not_opened_has bank hs p t o i h s r n k = record {
  place = along (λ z. IsIn bank z hs) (sym s) i;
  rest = along (λ z. HasIn bank z hs o.rest) (sym s) (along (HasIn bank p hs) (sym r) h);
  names = along (AllByRecursion (HasName bank)) (sym n) tt;
  premises = along (AllByRecursion (λ j. j < length o.store.variables)) (sym k) tt;
}

-- a step by an equal environment, context and opening
pub opens_as : (bank : Terms) (r : Result (Option Opening) PrimFault) (E1 E2 : Environment) (s : Store) (k : ℕ) (g1 g2 : Context) (T : Tree) (vs : Givens) (o : TreeOpening) (b l : ℕ) → E1 ≡ E2 → g1 ≡ g2 →
    Opens bank r (λ n. scene_by E1 s k g1 T vs n) o b l → Opens bank r (λ n. scene_by E2 s k g2 T vs n) o b l
opens_as bank r E1 E2 s k g1 g2 T vs o b l e f h =
    along (λ z. Opens bank r (λ n. scene_by z s k g2 T vs n) o b l) e (along (λ z. Opens bank r (λ n. scene_by E1 s k z T vs n) o b l) f h)

-- openings that went behind others, in a bank that has grown
pub openings_then : (mid new : Terms) → Grows mid new → (hs : List Hypothesis) (os ps : List Opening) (o : Opening) → ps ≡ os ++ o ∷ [] → AllByRecursion (HasOpening mid hs) os → HasOpening mid hs o → openings_of new ps ≡ opening_of mid o ∷ openings_of mid os
openings_then mid new grows hs os ps o e h k = openings_more new os ps o e ∙ ap₂ (λ y ys. y ∷ ys) (opening_same mid new grows hs o k) (ap reverse (openings_grown mid new grows hs os h).0)

-- the number is one more than another
pub one_less : (n : ℕ) → 1 ≤ n → suc (n - 1) ≡ n
one_less n l = omega (arith, l)
