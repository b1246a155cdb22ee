-- What was true of a goal and of terms is true in a bank that has grown, and answers there are answers here.
use Rattle.std.proofs.Common.{◌≡◌, ◌∙◌, ℕ, List, refl, sym, ap, ap₂, arith, true, false, Option, Some, None, Result}
use Rattle.std.proofs.Common.{subst as along}
use Rattle.std.specs.Prelude.{option_map}
use Rattle.lq_trees.specs.Tree.{Name, Tree, Context}
use Rattle.lq_trees.specs.Tree.Tree.{Let}
use Rattle.lq_trees.specs.Fresh.{is_listed}
use Rattle.lq_calculus.specs.Declarations.{Env as Environment}
use Rattle.lq_terms.specs.declared.nodes.NameId.{NameId}
use Rattle.lq_terms.specs.declared.nodes.TermId.{TermId}
use Rattle.lq_terms.specs.Terms.{Terms, HasName, HasTerm, Grows, text_of, tree_of}
use Rattle.lq_trees.specs.Hypotheses.{HoldsOnly}
use Rattle.lq_solving.specs.Stores.{Store, names_in, read}
use Rattle.lq_solving.specs.Kept.{IsStore, StandsIn, Stands}
use Rattle.lq_solving.specs.Elaboration.{Givens}
use Rattle.lq_solving.proofs.Later.{reads_let}
use Rattle.lq_solving.proofs.StandsLaws.{StandsUnder, domain_stands, rest_stands}
use Rattle.lq_evars.specs.Places.{Places, HasNameOr, store_of}
use Rattle.lq_evars.proofs.Growing.{store_of-grown}
use Rattle.lq_tactics.specs.Rows.{Done}
use Rattle.lq_tactics.specs.Primitives.{under_product, under_value, intro_on, is_binder}
use Rattle.lq_prims.specs.declared.binders.Binder.{Binder}
use Rattle.lq_prims.specs.declared.faults.PrimFault.{PrimFault}
use Rattle.lq_prims.specs.Binders.{binder_tree, HasBinder}
use Rattle.lq_prims.specs.Scenes.{IsGoal, context_at, scene_by}
use Rattle.lq_prims.specs.Working.{Does}
use Rattle.lq_trees.specs.Tree.{Hypothesis}
use Rattle.lq_trees.specs.Fresh.{opened, under, under_let}
use Rattle.lq_tactics.specs.Rows.{Scene, new_goal}
use Rattle.lq_prims.specs.Scenes.{behind}

pub name_later : (old new : Terms) → Grows old new → (o : Option NameId) → HasNameOr old o → HasNameOr new o × (option_map (text_of new) o ≡ option_map (text_of old) o)
name_later old new g None h = (tt, refl)
name_later old new g (Some x) h = (omega (arith, h, g.names), ap Some (g.text x h))

pub binder_yes : (bank : Terms) (b : Binder) → is_binder (binder_tree bank b) ≡ true
unfolding is_binder
binder_yes bank (Binder.Product x A B) = refl
binder_yes bank (Binder.Definition x v A B) = refl

module _ (old new : Terms) (grows : Grows old new) (p : Places) (k : ℕ) (q : IsGoal old p k) where
  same : store_of new p ≡ store_of old p
  same = store_of-grown old new grows p q.store

  pub unlisted_later : (x : Name) → is_listed (names_in (context_at (store_of old p) k)) x ≡ false → is_listed (names_in (context_at (store_of new p) k)) x ≡ false
  unlisted_later x h = along (λ z. is_listed (names_in (context_at z k)) x ≡ false) (sym same) h

  pub stands_later : (t : TermId) → HasTerm old t → StandsIn (store_of old p) (context_at (store_of old p) k) (tree_of old t) → StandsIn (store_of new p) (context_at (store_of new p) k) (tree_of new t)
  stands_later t has h = along (λ z. StandsIn z (context_at z k) (tree_of new t)) (sym same) (along (StandsIn (store_of old p) (context_at (store_of old p) k)) (sym (grows.tree t has)) h)

  pub under_later : (t : TermId) → HasTerm old t → StandsUnder (store_of old p) (names_in (context_at (store_of old p) k)) 1 (tree_of old t) → StandsUnder (store_of new p) (names_in (context_at (store_of new p) k)) 1 (tree_of new t)
  under_later t has h =
      along (λ z. StandsUnder z (names_in (context_at z k)) 1 (tree_of new t)) (sym same) (along (StandsUnder (store_of old p) (names_in (context_at (store_of old p) k)) 1) (sym (grows.tree t has)) h)

  module _ {X : Type 0} (bank : Terms) (tell : X → Done) (r : Result X PrimFault) (E : Environment) (T : Tree) (vs : Givens) (b left : ℕ) where
    pub product_before : (x : Name) (A B : TermId) → HasTerm old A → HasTerm old B →
        Does bank tell r (λ n. under_product (scene_by E (store_of new p) k (context_at (store_of new p) k) T vs n) x x (tree_of new A) (tree_of new B)) b left →
        Does bank tell r (λ n. under_product (scene_by E (store_of old p) k (context_at (store_of old p) k) T vs n) x x (tree_of old A) (tree_of old B)) b left
    product_before x A B a c h =
        along (λ z. Does bank tell r (λ n. under_product (scene_by E (store_of old p) k (context_at (store_of old p) k) T vs n) x x (tree_of old A) z) b left) (grows.tree B c)
        (along (λ z. Does bank tell r (λ n. under_product (scene_by E (store_of old p) k (context_at (store_of old p) k) T vs n) x x z (tree_of new B)) b left) (grows.tree A a)
        (along (λ z. Does bank tell r (λ n. under_product (scene_by E z k (context_at z k) T vs n) x x (tree_of new A) (tree_of new B)) b left) same h))

    pub value_before : (x : Name) (v A B : TermId) → HasTerm old v → HasTerm old A → HasTerm old B →
        Does bank tell r (λ n. under_value (scene_by E (store_of new p) k (context_at (store_of new p) k) T vs n) x x (tree_of new v) (tree_of new A) (tree_of new B)) b left →
        Does bank tell r (λ n. under_value (scene_by E (store_of old p) k (context_at (store_of old p) k) T vs n) x x (tree_of old v) (tree_of old A) (tree_of old B)) b left
    value_before x v A B w a c h =
        along (λ z. Does bank tell r (λ n. under_value (scene_by E (store_of old p) k (context_at (store_of old p) k) T vs n) x x (tree_of old v) (tree_of old A) z) b left) (grows.tree B c)
        (along (λ z. Does bank tell r (λ n. under_value (scene_by E (store_of old p) k (context_at (store_of old p) k) T vs n) x x (tree_of old v) z (tree_of new B)) b left) (grows.tree A a)
        (along (λ z. Does bank tell r (λ n. under_value (scene_by E (store_of old p) k (context_at (store_of old p) k) T vs n) x x z (tree_of new A) (tree_of new B)) b left) (grows.tree v w)
        (along (λ z. Does bank tell r (λ n. under_value (scene_by E z k (context_at z k) T vs n) x x (tree_of new v) (tree_of new A) (tree_of new B)) b left) same h)))

    pub intro_before : (o : Option NameId) (t : Tree) → HasNameOr old o → Does bank tell r (λ n. intro_on (scene_by E (store_of new p) k (context_at (store_of new p) k) T vs n) (option_map (text_of new) o) t) b left →
        Does bank tell r (λ n. intro_on (scene_by E (store_of old p) k (context_at (store_of old p) k) T vs n) (option_map (text_of old) o) t) b left
    intro_before o t has h =
        along (λ z. Does bank tell r (λ n. intro_on (scene_by E (store_of old p) k (context_at (store_of old p) k) T vs n) z t) b left) (name_later old new grows o has).1
        (along (λ z. Does bank tell r (λ n. intro_on (scene_by E z k (context_at z k) T vs n) (option_map (text_of new) o) t) b left) same h)

-- ---- a new goal under a binder

module _ (old new : Terms) (grows : Grows old new) (p : Places) (k : ℕ) (q : IsGoal old p k) {X : Type 0} (bank : Terms) (tell : X → Store × ℕ) (r : Result X PrimFault) (c : ℕ → Scene) (b left : ℕ) where
  goal_before : (h1 h0 : Hypothesis) (x1 x0 : Name) (B1 B0 : Tree) → h1 ≡ h0 → x1 ≡ x0 → B1 ≡ B0 →
      Does bank tell r (λ n. new_goal (c n) (store_of new p) (behind (context_at (store_of new p) k) h1) (opened x1 B1)) b left → Does bank tell r (λ n. new_goal (c n) (store_of old p) (behind (context_at (store_of old p) k) h0) (opened x0 B0)) b left
  goal_before h1 h0 x1 x0 B1 B0 e f i h =
      along (λ z. Does bank tell r (λ n. new_goal (c n) (store_of old p) (behind (context_at (store_of old p) k) h0) (opened x0 z)) b left) i
      (along (λ z. Does bank tell r (λ n. new_goal (c n) (store_of old p) (behind (context_at (store_of old p) k) h0) (opened z B1)) b left) f
      (along (λ z. Does bank tell r (λ n. new_goal (c n) (store_of old p) (behind (context_at (store_of old p) k) z) (opened x1 B1)) b left) e
      (along (λ z. Does bank tell r (λ n. new_goal (c n) z (behind (context_at z k) h1) (opened x1 B1)) b left) (store_of-grown old new grows p q.store) h)))

  pub product_goal_before : (x : NameId) (A B : TermId) → HasName old x → HasTerm old A → HasTerm old B →
      Does bank tell r (λ n. new_goal (c n) (store_of new p) (behind (context_at (store_of new p) k) (record { name = text_of new x; body = None; kind = tree_of new A })) (opened (text_of new x) (tree_of new B))) b left →
      Does bank tell r (λ n. new_goal (c n) (store_of old p) (under (context_at (store_of old p) k) (text_of old x) (tree_of old A)) (opened (text_of old x) (tree_of old B))) b left
  unfolding under
  product_goal_before x A B hx a c h =
      goal_before (record { name = text_of new x; body = None; kind = tree_of new A }) (record { name = text_of old x; body = None; kind = tree_of old A }) (text_of new x) (text_of old x) (tree_of new B) (tree_of old B)
      (ap₂ (λ y T. record { name = y; body = None; kind = T }) (grows.text x hx) (grows.tree A a)) (grows.text x hx) (grows.tree B c) h

  pub value_goal_before : (x : NameId) (v A B : TermId) → HasName old x → HasTerm old v → HasTerm old A → HasTerm old B →
      Does bank tell r (λ n. new_goal (c n) (store_of new p) (behind (context_at (store_of new p) k) (record { name = text_of new x; body = Some (tree_of new v); kind = tree_of new A })) (opened (text_of new x) (tree_of new B))) b left →
      Does bank tell r (λ n. new_goal (c n) (store_of old p) (under_let (context_at (store_of old p) k) (text_of old x) (tree_of old v) (tree_of old A)) (opened (text_of old x) (tree_of old B))) b left
  unfolding under_let
  value_goal_before x v A B hx w a c h =
      goal_before (record { name = text_of new x; body = Some (tree_of new v); kind = tree_of new A }) (record { name = text_of old x; body = Some (tree_of old v); kind = tree_of old A }) (text_of new x) (text_of old x) (tree_of new B) (tree_of old B)
      (ap₂ (λ y T. record { name = y; body = Some (tree_of new v); kind = T }) (grows.text x hx) (grows.tree A a) ∙ ap (λ w. record { name = text_of old x; body = Some w; kind = tree_of old A }) (grows.tree v w)) (grows.text x hx) (grows.tree B c) h

-- ---- the parts of a binder

let_parts : (s : Store) (xs : List Name) (x : Name) (v A B : Tree) → Stands s xs (Let x v A B) → Stands s xs v × Stands s xs A × StandsUnder s xs 1 B
unfolding read
let_parts s xs x v A B h =
    let q = along (HoldsOnly xs) (reads_let s.variables s.values x v A B) h.holds in (
      record { over = h.over.0; within = h.within.0; holds = q.0 },
      record { over = h.over.1; within = h.within.1; holds = q.1 },
      record { over = h.over.2; within = h.within.2; holds = q.2 },
    )

pub record ProductHas (bank : Terms) (s : Store) (xs : Context) (x : NameId) (A B : TermId) : Type 0 where
  pub name : HasName bank x
  pub domain : HasTerm bank A
  pub rest : HasTerm bank B
  pub domain_stands : StandsIn s xs (tree_of bank A)
  pub rest_stands : StandsUnder s (names_in xs) 1 (tree_of bank B)

pub product_has : (bank : Terms) (s : Store) → IsStore s → (g : Context) (b : Binder) (x : NameId) (A B : TermId) → b ≡ Binder.Product x A B → HasBinder bank b → StandsIn s g (binder_tree bank b) → ProductHas bank s g x A B
product_has bank s i g b x A B e h k =
    let a = along (HasBinder bank) e h in
    let c = along (λ z. StandsIn s g (binder_tree bank z)) e k in
    record {
      name = a.0;
      domain = a.1;
      rest = a.2;
      domain_stands = domain_stands s i (names_in g) (text_of bank x) (tree_of bank A) (tree_of bank B) c;
      rest_stands = rest_stands s i (names_in g) (text_of bank x) (tree_of bank A) (tree_of bank B) c;
    }

pub record ValueHas (bank : Terms) (s : Store) (xs : Context) (x : NameId) (v A B : TermId) : Type 0 where
  pub name : HasName bank x
  pub value : HasTerm bank v
  pub kind : HasTerm bank A
  pub rest : HasTerm bank B
  pub value_stands : StandsIn s xs (tree_of bank v)
  pub kind_stands : StandsIn s xs (tree_of bank A)
  pub rest_stands : StandsUnder s (names_in xs) 1 (tree_of bank B)

pub value_has : (bank : Terms) (s : Store) → IsStore s → (g : Context) (b : Binder) (x : NameId) (v A B : TermId) → b ≡ Binder.Definition x v A B → HasBinder bank b → StandsIn s g (binder_tree bank b) → ValueHas bank s g x v A B
value_has bank s i g b x v A B e h k =
    let a = along (HasBinder bank) e h in
    let c = let_parts s (names_in g) (text_of bank x) (tree_of bank v) (tree_of bank A) (tree_of bank B) (along (λ z. StandsIn s g (binder_tree bank z)) e k) in
    record { name = a.0; value = a.1; kind = a.2; rest = a.3; value_stands = c.0; kind_stands = c.1; rest_stands = c.2 }
