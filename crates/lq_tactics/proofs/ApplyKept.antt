-- Terms applied to a goal keep what holds.
use Rattle.std.proofs.Common.{◌≡◌, ◌≤◌, ◌<◌, ◌+◌, ◌^◌, ◌∙◌, ℕ, zero, suc, refl, ap, codes, arith, eqb, Bool, true, false, List, [], ◌∷◌, ◌++◌, length, Option, Some, None}
use Rattle.std.proofs.Common.{subst as along}
use Rattle.std.specs.List.{AllByRecursion}
use Rattle.lq_trees.specs.Tree.{Name, Tree, Context, same_name}
use Rattle.lq_trees.specs.Tree.Tree.{Rel, Var, Sort, Prod, Lam, Let, App, Const, Ind, Ctor, Elim, Evar}
use Rattle.lq_trees.specs.Ticks.{gives}
use Rattle.lq_calculus.specs.Contraction.{apply}
use Rattle.lq_calculus.proofs.ConvSound.{Gives, gives_bind}
use Rattle.lq_ast.specs.Syntax.{Surface}
use Rattle.lq_solving.specs.Stores.{Store, names_in, count, has_value, is_open, read, new_variable}
use Rattle.lq_solving.specs.Kept.{Stands, StandsIn, OptionStands, IsContext, IsStore}
use Rattle.lq_solving.specs.Unification.{UnifyFault, unify}
use Rattle.lq_solving.specs.ElabFaults.{by_unify, unify_fault}
use Rattle.lq_solving.specs.Elaboration.{Found, elaborate_call}
use Rattle.lq_solving.proofs.StoreLaws.{context_keeps}
use Rattle.lq_solving.proofs.StandsLaws.{app_stands, domain_stands, rest_stands, subst_stands}
use Rattle.lq_solving.proofs.Moving.{AllHave}
use Rattle.lq_solving.proofs.Good.{IsGood}
use Rattle.lq_solving.proofs.Later.{good_stands}
use Rattle.lq_solving.proofs.ElabKept.{Grown, grown_now, grown_then, by_gives, unified_grown}
use Rattle.lq_solving.proofs.ElabStands.{IsSite, Finds, deep, call_finds}
use Rattle.lq_states.specs.Goals.{without}
use Rattle.lq_states.specs.Kept.{times}
use Rattle.lq_states.proofs.ListLaws.{times_append}
use Rattle.lq_tactics.specs.Rows.{RowFault, Doing, by_elab, store_work, Scene, Done, site, rules, elab_work, needed, told, head_of, as_goals, goal_term, open_of, made_open, term_of}
use Rattle.lq_tactics.specs.Applying.{Opening, Openings, not_opened, premise_more, opened_more, open_type, most_premises, opened_type, first_opening, premise_terms, dependent_in, determined, applied_to, applied_or, apply_found, do_apply}
use Rattle.lq_tactics.specs.Primitives.{equality_of}
use Rattle.lq_tactics.proofs.NumberLists.{IsAmong, filtered_among, filtered_keeps, open_filters, without_among}
use Rattle.lq_tactics.proofs.RowsKept.{IsScene, AreNew, IsReached, IsMade, needed_is, read_stands, head_good, same_values, unborn_valueless, variable_made, store_ok, all_retyped}
use Rattle.lq_tactics.proofs.StepsKept.{scene_valueless, one_once, one_is, first_stands}

-- room for the names that elaboration and unification make
abbrev pub HasRoom : Scene → ℕ → Type 0
HasRoom c n = length c.context + n + c.bound < 10 ^ 64

-- a term that is written is found
pub term_found : (c : Scene) → IsScene c → (t : Surface) (w : Option Tree) (f : Found) → OptionStands c.store (names_in c.context) w → HasRoom c (deep t) → Gives (term_of c t w) f → Finds c.store c.context f
unfolding term_of
term_found c s t w f h few y = call_finds (site c) c.store t w f at s.store h few (by_gives by_elab (elaborate_call (site c) c.store t w) f y)
  where
    at : IsSite (site c) c.store c.context
    at = record { plain = s.plain; outer = s.context; inside = λ x l. l; values = s.values }

-- a term that is written is found, whatever it is elaborated to
abbrev pub IsFound : Scene → Surface → Option Tree → Type 0
IsFound c t w = (f : Found) → Gives (term_of c t w) f → Finds c.store c.context f

-- applied to terms
pub apply_stands : (s : Store) → IsStore s → (xs : List Name) (f : Tree) (ts : List Tree) → Stands s xs f → AllByRecursion (Stands s xs) ts → Stands s xs (apply f ts)
unfolding apply
apply_stands s i xs f [] h k = h
apply_stands s i xs f (t ∷ ts) h k = apply_stands s i xs (App f t) ts (app_stands s i xs f t h k.0) k.1

-- ---- equalities

module _ (s : Store) (i : IsStore s) (xs : List Name) where
  -- the sides of an equality as read
  pub sides_stand : (T : Tree) (args : List Tree) (e : Tree × Tree × Tree) → AllHave (IsGood s.variables s.values xs 0) args → equality_of (T, args) ≡ Some e →
      Stands s xs e.0 × Stands s xs e.1 × Stands s xs e.2
  unfolding equality_of
  sides_stand (Ind x) (A ∷ a ∷ b ∷ []) e h q = at (same_name x (codes "eq")) q
    where
      at : (o : Bool) → elim o as (λ z. Option (Tree × Tree × Tree)) [ true ↦ Some (A, a, b) | false ↦ None ] ≡ Some e → Stands s xs e.0 × Stands s xs e.1 × Stands s xs e.2
      at false p = absurd (grind (arith, p))
      at true p =
          along (λ z. Stands s xs z.0 × Stands s xs z.1 × Stands s xs z.2) (ap (λ o. elim o as (λ z. Tree × Tree × Tree) [ Some z ↦ z | None ↦ e ]) p) (
            good_stands s i s.values xs A h.0,
            good_stands s i s.values xs a h.1.0,
            good_stands s i s.values xs b h.1.1.0,
          )
  sides_stand (Ind x) [] e h q = absurd (grind (arith, q))
  sides_stand (Ind x) (A ∷ []) e h q = absurd (grind (arith, q))
  sides_stand (Ind x) (A ∷ a ∷ []) e h q = absurd (grind (arith, q))
  sides_stand (Ind x) (A ∷ a ∷ b ∷ t ∷ ts) e h q = absurd (grind (arith, q))
  sides_stand (Rel x) args e h q = absurd (grind (arith, q))
  sides_stand (Var x) args e h q = absurd (grind (arith, q))
  sides_stand (Sort x) args e h q = absurd (grind (arith, q))
  sides_stand (Prod x A B) args e h q = absurd (grind (arith, q))
  sides_stand (Lam x A B) args e h q = absurd (grind (arith, q))
  sides_stand (Let x v A B) args e h q = absurd (grind (arith, q))
  sides_stand (App f a) args e h q = absurd (grind (arith, q))
  sides_stand (Const x) args e h q = absurd (grind (arith, q))
  sides_stand (Ctor x k) args e h q = absurd (grind (arith, q))
  sides_stand (Elim x u) args e h q = absurd (grind (arith, q))
  sides_stand (Evar k ts) args e h q = absurd (grind (arith, q))

-- ---- a type opened into premises

-- a term applied to premises: made variables, in a store that has grown from the one of the term
pub record IsOpening (g : Context) (s : Store) (o : Opening) : Type 0 where
  pub grown : Grown s o.store
  pub rest : StandsIn o.store g o.rest
  pub premises : AreNew s o.store o.premises
  pub terms : (k : ℕ) → 1 ≤ times o.premises k → StandsIn o.store g (goal_term k g)

pub not_opened_is : (g : Context) (f : Found) → IsStore f.store → StandsIn f.store g f.kind → IsOpening g f.store (not_opened f)
unfolding times
not_opened_is g f i h = record {
  grown = grown_now f.store i;
  rest = h;
  premises = record { once = λ k. omega arith; inside = λ k l. absurd (omega (arith, l)); valueless = λ k l. absurd (omega (arith, l)); new = λ k l. absurd (omega (arith, l)) };
  terms = λ k l. absurd (omega (arith, l));
}

-- one premise more
last_or : (ks : List ℕ) (j k : ℕ) (P : Type 0) → 1 ≤ times (ks ++ j ∷ []) k → (1 ≤ times ks k → P) → (j ≡ k → P) → P
last_or ks j k P l f g = at (times ks k) refl (times (j ∷ []) k) refl
  where
    at : (n : ℕ) → times ks k ≡ n → (m : ℕ) → times (j ∷ []) k ≡ m → P
    at (suc n) e m q = f (omega (arith, e))
    at zero e (suc m) q = g (one_is j k (omega (arith, q)))
    at zero e zero q = absurd (omega (arith, l, e, q, times_append ks (j ∷ []) k))

pub premise_opening : (c : Scene) (s : Store) (o p : Opening) (x : Name) (A B : Tree) → IsContext s c.context → IsOpening c.context s o → StandsIn o.store c.context (Prod x A B) → Gives (premise_more c o x A B) p → IsOpening c.context s p
unfolding premise_more
premise_opening c s o p x A B g h k y =
    let r = gives_bind (store_work (new_variable o.store (record { context = c.context; kind = A; name = None }))) _ p y in
    let i = h.grown.store in
    let m = variable_made o.store c.context A r.0 i (context_keeps s o.store h.grown.keeps [] c.context g) (domain_stands o.store i (names_in c.context) x A B k) (store_ok _ r.0 r.1) in
    along (IsOpening c.context s) r.2 (record {
      grown = grown_then s o.store r.0.0 h.grown m.grown;
      rest = subst_stands r.0.0 m.grown.store (names_in c.context) (goal_term r.0.1 c.context) B m.term
          (rest_stands r.0.0 m.grown.store (names_in c.context) x A B (m.grown.keeps (names_in c.context) (Prod x A B) k));
      premises = record {
        once = λ j. once r.0 m j (times o.premises j) refl;
        inside = λ j l. last_or o.premises r.0.1 j (j < count r.0.0) l (λ a. omega (arith, h.premises.inside j a, m.many)) (λ e. omega (arith, e, m.number, m.many));
        valueless = λ j l. last_or o.premises r.0.1 j (has_value r.0.0 j ≡ false) l (λ a. same_values o.store r.0.0 m.values j ∙ h.premises.valueless j a)
            (λ e. same_values o.store r.0.0 m.values j ∙ unborn_valueless o.store i j (omega (arith, e, m.number)));
        new = λ j l. last_or o.premises r.0.1 j (count s ≤ j) l (λ a. h.premises.new j a) (λ e. omega (arith, e, m.number, h.grown.more));
      };
      terms = λ j l. last_or o.premises r.0.1 j (StandsIn r.0.0 c.context (goal_term j c.context)) l (λ a. m.grown.keeps (names_in c.context) (goal_term j c.context) (h.terms j a))
          (λ e. along (λ z. StandsIn r.0.0 c.context (goal_term z c.context)) e m.term);
    })
  where
    once : (r : Store × ℕ) → IsMade o.store c.context r → (j n : ℕ) → times o.premises j ≡ n → times (o.premises ++ r.1 ∷ []) j ≤ 1
    once r m j zero e = omega (arith, e, times_append o.premises (r.1 ∷ []) j, one_once r.1 j)
    once r m j (suc n) e = none (times (r.1 ∷ []) j) refl
      where
        none : (i : ℕ) → times (r.1 ∷ []) j ≡ i → times (o.premises ++ r.1 ∷ []) j ≤ 1
        none zero q = omega (arith, e, q, times_append o.premises (r.1 ∷ []) j, h.premises.once j)
        none (suc i) q = absurd (omega (arith, one_is r.1 j (omega (arith, q)), h.premises.inside j (omega (arith, e)), m.number))

-- the weak head form in which the type ends is as read, and stands
abbrev pub EndsIn : Context → List Opening → Tree → Type 0
EndsIn g [] t = Unit {0}
EndsIn g (o ∷ os) t = IsGood o.store.variables o.store.values (names_in g) 0 t

-- the openings, and the weak head form in which the type ends
abbrev pub AreOpenings : Context → Store → Openings → Type 0
AreOpenings g s p = AllByRecursion (IsOpening g s) p.0 × EndsIn g p.0 p.1

module _ (c : Scene) (s : IsScene c) (base : Store) (context : IsContext base c.context) where
  more_opened : (go : Opening → List Opening → Doing Openings) (o : Opening) (os : List Opening) (T : Tree) (p : Openings) →
      ((q : Opening) (qs : List Opening) → IsOpening c.context base q → AllByRecursion (IsOpening c.context base) qs → Gives (go q qs) p → AreOpenings c.context base p) →
      IsOpening c.context base o → AllByRecursion (IsOpening c.context base) os → IsGood o.store.variables o.store.values (names_in c.context) 0 T → Gives (opened_more c go o os T) p → AreOpenings c.context base p
  unfolding opened_more
  more_opened go o os (Prod x A B) p f h k t y =
      let q = gives_bind (premise_more c o x A B) _ p y in f q.0 (o ∷ os) (premise_opening c base o q.0 x A B context h (good_stands o.store h.grown.store o.store.values (names_in c.context) (Prod x A B) t) q.1) (h, k) q.2
  more_opened go o os (Rel x) p f h k t y = along (AreOpenings c.context base) y ((h, k), t)
  more_opened go o os (Var x) p f h k t y = along (AreOpenings c.context base) y ((h, k), t)
  more_opened go o os (Sort x) p f h k t y = along (AreOpenings c.context base) y ((h, k), t)
  more_opened go o os (Lam x A u) p f h k t y = along (AreOpenings c.context base) y ((h, k), t)
  more_opened go o os (Let x v A u) p f h k t y = along (AreOpenings c.context base) y ((h, k), t)
  more_opened go o os (App u v) p f h k t y = along (AreOpenings c.context base) y ((h, k), t)
  more_opened go o os (Const x) p f h k t y = along (AreOpenings c.context base) y ((h, k), t)
  more_opened go o os (Ind x) p f h k t y = along (AreOpenings c.context base) y ((h, k), t)
  more_opened go o os (Ctor x j) p f h k t y = along (AreOpenings c.context base) y ((h, k), t)
  more_opened go o os (Elim x u) p f h k t y = along (AreOpenings c.context base) y ((h, k), t)
  more_opened go o os (Evar j ts) p f h k t y = along (AreOpenings c.context base) y ((h, k), t)

  pub type_opened : (m : ℕ) (o : Opening) (os : List Opening) (p : Openings) → IsOpening c.context base o → AllByRecursion (IsOpening c.context base) os → Gives (open_type c m o os) p → AreOpenings c.context base p
  unfolding open_type
  type_opened zero o os p h k y = absurd y
  type_opened (suc m) o os p h k y =
      let T = gives_bind (head_of c o.store o.rest) _ p y in
      more_opened (open_type c m) o os T.0 p (λ q qs a b z. type_opened m q qs p a b z) h k
      (head_good c s.plain o.store h.grown.store (context_keeps base o.store h.grown.keeps [] c.context context) o.rest T.0 h.rest T.1) T.2

  -- ---- the opening whose rest unifies

  -- an opening, with the store after its unification
  abbrev pub IsChosen : Option (Opening × Store) → Type 0
  IsChosen None = Unit {0}
  IsChosen (Some q) = IsOpening c.context base q.0 × Grown q.0.store q.1

  pub opening_chosen : (T : Tree) (os : List Opening) (a : Option (Opening × Store)) → StandsIn base c.context T → HasRoom c 0 → AllByRecursion (IsOpening c.context base) os → Gives (first_opening c T os) a → IsChosen a
  unfolding first_opening
  opening_chosen T [] a t few h y = along IsChosen y tt
  opening_chosen T (o ∷ os) a t few h y =
      let u = gives_bind (elab_work (by_unify (unify (rules c) c.bound c.context o.store o.rest T))) _ a y in
      at u.0 (by_gives unify_fault (unify (rules c) c.bound c.context o.store o.rest T) u.0 (by_gives by_elab (by_unify (unify (rules c) c.bound c.context o.store o.rest T)) u.0 u.1)) u.2
      (λ z. opening_chosen T os a t few h.1 z)
    where
      at : (o1 : Option Store) → Gives {F = UnifyFault} (unify (rules c) c.bound c.context o.store o.rest T) o1 →
          Gives {F = RowFault} (elim o1 as (λ z. Doing (Option (Opening × Store))) [ Some s1 ↦ gives (Some (o, s1)) | None ↦ first_opening c T os ]) a → (Gives (first_opening c T os) a → IsChosen a) → IsChosen a
      at (Some s1) k z ih =
          along IsChosen z (
            h.0,
            unified_grown (rules c) s.plain.rules c.bound o.store s1 c.context o.rest T (omega (arith, few)) h.0.grown.store (context_keeps base o.store h.0.grown.keeps [] c.context context)
                h.0.rest (h.0.grown.keeps (names_in c.context) T t) k,
          )
      at None k z ih = ih z

-- a fault that carries terms is no answer
pub told_none : {A : Type 0} (ts : List Tree) (e : RowFault) (a : A) → Gives (told ts e) a → ⊥
unfolding told
told_none [] e a y = y
told_none (t ∷ ts) e a y = let q = gives_bind (needed t) _ a y in told_none ts e a q.2

-- ---- the end

-- a list of variables, each of which stands
pub all_terms : (P : ℕ → Type 0) (ks : List ℕ) → ((k : ℕ) → 1 ≤ times ks k → P k) → AllByRecursion P ks
unfolding times
all_terms P [] f = tt
all_terms P (k ∷ ks) f = (f k (first_stands k ks), all_terms P ks (λ j l. f j (there j (eqb k j) l)))
  where
    there : (j : ℕ) (b : Bool) → 1 ≤ times ks j → 1 ≤ elim b as (λ z. ℕ) [ true ↦ 1 + times ks j | false ↦ times ks j ]
    there j true l = omega (arith, l)
    there j false l = l

pub premises_stand : (c : Scene) (s : Store) (ks : List ℕ) → AllByRecursion (λ k. StandsIn s c.context (goal_term k c.context)) ks → AllByRecursion (StandsIn s c.context) (premise_terms c ks)
unfolding premise_terms
premises_stand c s [] h = tt
premises_stand c s (k ∷ ks) h = (h.0, premises_stand c s ks h.1)

-- premises without a value as goals
pub premises_new : (s0 s s1 s2 : Store) (ks among : List ℕ) → AreNew s0 s ks → Grown s s1 → s2.values ≡ s1.values → count s1 ≤ count s2 → IsAmong among (open_of s1 ks) → AreNew s0 s2 among
premises_new s0 s s1 s2 ks among h g e n f = record {
  once = λ k. omega (arith, f k, within k, h.once k);
  inside = λ k l. omega (arith, h.inside k (omega (arith, f k, within k, l)), g.more, n);
  valueless = λ k l. same_values s1 s2 e k ∙ (scene_valueless s1 k (filtered_keeps (is_open s1) (open_of s1) (open_filters s1) ks k (omega (arith, f k, l)))).1;
  new = λ k l. h.new k (omega (arith, f k, within k, l));
}
  where
    within : IsAmong (open_of s1 ks) ks
    within = filtered_among (is_open s1) (open_of s1) (open_filters s1) ks

pub applied_reached : (c : Scene) → IsScene c → (strict : Bool) (f : Found) (o : Opening) (s : Store) (d : Done) → Finds c.store c.context f → IsOpening c.context f.store o → Grown o.store s → Gives (applied_to c strict f o s) d → IsReached c d
unfolding applied_to
applied_reached c i strict f o s d h k g y =
    let needed_ones = dependent_in s o (made_open c.store s) in
    let ok = gives_bind (determined strict s o needed_ones) _ d y in
    let goals = without needed_ones (open_of s o.premises) in
    let a = gives_bind (as_goals c s goals) _ d ok.2 in
    let r = all_retyped c s a.0 goals g.store a.1 in
    let from_found = grown_then f.store o.store a.0 k.grown (grown_then o.store s a.0 g r.grown) in
    along (IsReached c) a.2 (record {
      grown = grown_then c.store f.store a.0 h.0 from_found;
      body = apply_stands a.0 r.grown.store (names_in c.context) f.term (premise_terms c o.premises) (from_found.keeps (names_in c.context) f.term h.1)
          (premises_stand c a.0 o.premises (all_terms (λ j. StandsIn a.0 c.context (goal_term j c.context)) o.premises
          (λ j l. (grown_then o.store s a.0 g r.grown).keeps (names_in c.context) (goal_term j c.context) (k.terms j l))));
      goals = older c.store f.store a.0 goals h.0 (premises_new f.store o.store s a.0 o.premises goals k.premises g r.values r.grown.more (without_among needed_ones (open_of s o.premises)));
    })
  where
    older : (s0 s1 s2 : Store) (ks : List ℕ) → Grown s0 s1 → AreNew s1 s2 ks → AreNew s0 s2 ks
    older s0 s1 s2 ks l m = record { once = m.once; inside = m.inside; valueless = m.valueless; new = λ j p. omega (arith, m.new j p, l.more) }

-- a term with its type, applied to the goal
pub apply_found_reached : (c : Scene) → IsScene c → (strict : Bool) (f : Found) (d : Done) → Finds c.store c.context f → HasRoom c 0 → Gives (apply_found c strict f) d → IsReached c d
unfolding apply_found applied_or
apply_found_reached c i strict f d h few y =
    let T = gives_bind (needed (read f.store c.kind)) _ d y in
    let g = context_keeps c.store f.store h.0.keeps [] c.context i.context in
    let stands = along (StandsIn f.store c.context) (needed_is (read f.store c.kind) T.0 T.1) (read_stands f.store h.0.store (names_in c.context) c.kind (h.0.keeps (names_in c.context) c.kind i.kind)) in
    let os = gives_bind (opened_type c f) _ d T.2 in
    let openings = type_opened c i f.store g most_premises (not_opened f) [] os.0 (not_opened_is c.context f h.0.store h.2) tt os.1 in
    let o = gives_bind (first_opening c T.0 os.0.0) _ d os.2 in
    at T.0 o.0 (opening_chosen c i f.store g T.0 os.0.0 o.0 stands few openings.0 o.1) o.2
  where
    at : (T : Tree) (o : Option (Opening × Store)) → (elim o as (λ z. Type 0) [ None ↦ Unit {0} | Some q ↦ IsOpening c.context f.store q.0 × Grown q.0.store q.1 ]) → Gives (applied_or c strict f T o) d → IsReached c d
    at T None k z = absurd (told_none (read f.store f.term ∷ T ∷ []) _ d z)
    at T (Some q) k z = applied_reached c i strict f q.0 q.1 d h k.0 k.1 z

pub apply_reached : (c : Scene) → IsScene c → (strict : Bool) (t : Surface) (d : Done) → IsFound c t None → HasRoom c 0 → Gives (do_apply c strict t) d → IsReached c d
unfolding do_apply
apply_reached c i strict t d find few y =
    let f = gives_bind (term_of c t None) _ d y in
    apply_found_reached c i strict f.0 d (find f.0 f.1) few f.2
