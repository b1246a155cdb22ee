-- Elaboration keeps what holds of a store, and what it finds stands in the context.
use Rattle.std.proofs.Common.{◌≡◌, ◌≤◌, ◌<◌, ◌+◌, ◌^◌, ◌∙◌, ℕ, suc, refl, sym, ap, ap₂, arith, Bool, true, false, ◌||◌, List, [], ◌∷◌, ◌++◌, map, length, append_assoc, Option, Some, None, Result, Ok, Err}
use Rattle.std.proofs.Common.{subst as along}
use Rattle.std.specs.Prelude.{leb, slice_get}
use Rattle.lq_trees.specs.declared.Fit.{Fit}
use Rattle.lq_trees.specs.Tree.{Name, Tree, Context, Hypothesis, same_name}
use Rattle.lq_trees.specs.Tree.Tree.{Evar}
use Rattle.lq_trees.specs.Fresh.{is_listed}
use Rattle.lq_trees.specs.Size.{fit}
use Rattle.lq_trees.specs.Reading.{entries}
use Rattle.lq_trees.specs.Ticks.{Paid, gives, fails, tick, cut, faults_as, ◌>>=◌}
use Rattle.lq_trees.specs.Rules.{Rules}
use Rattle.lq_calculus.specs.Contraction.{hypothesis, whnf}
use Rattle.lq_calculus.specs.Declarations.{Env, rules_of, variables}
use Rattle.lq_calculus.proofs.ConvSound.{Gives, gives_bind}
use Rattle.lq_solving.specs.Stores.{Store, Variable, Assigned, StoreFault, names_in, names_at, find_value, own_instance, instance_list, count, most_variables, read, read_context, read_hypothesis, named_variable, new_variable, with_variable, with_value}
use Rattle.lq_solving.specs.Kept.{IsOver, Stands, OptionStands, StandBehind, IsContext, IsStore}
use Rattle.lq_inference.specs.Inference.{infer_by}
use Rattle.lq_solving.specs.Inference.{by_store_types, infer_open}
use Rattle.lq_solving.specs.Unification.{Answer, unify}
use Rattle.lq_solving.specs.ElabFaults.{ElabFault, Elab, elab_fitting, carrying, store_fault, by_unify, by_store, kernel_fault, unify_fault, type_of}
use Rattle.lq_solving.specs.Elaboration.{Site, Found, found, form_of, unified, made}
use Rattle.lq_solving.specs.Claims.{ArePlainRules, ArePlainDeclarations}
use Rattle.lq_solving.proofs.StoreLaws.{Keeps, more_over, more_keeps, more_store, get_end, length_one_more, names_stay}
use Rattle.lq_solving.proofs.Good.{IsGood, EachIsGood, no_name, form_good}
use Rattle.lq_solving.proofs.InstanceLaws.{is_same}
use Rattle.lq_solving.proofs.Later.{Later, now, given_later, body_of, later_store, later_keeps, later_variables, good_read, good_stands, bodies_good}
use Rattle.lq_solving.proofs.UnifyForms.{stands_more}
use Rattle.lq_solving.proofs.UnifyProved.{unify_sound, bodies_stand}
use Rattle.lq_solving.proofs.InferKept.{IsGoodContext, infer_good}

-- ---- a store that has grown

-- values that were given since
abbrev pub Newer : Store → Store → Type 0
Newer s s1 = (as_ : List Assigned) × (s1.values ≡ as_ ++ s.values)

-- a store as the calls keep it, in which all that stood in the old one stands; its variables are there, with their contexts, and its values
pub record Grown (s s1 : Store) : Type 0 where
  pub store : IsStore s1
  pub keeps : Keeps s s1
  pub over : (t : Tree) → IsOver s.variables t → IsOver s1.variables t
  pub more : count s ≤ count s1
  pub names : (k : ℕ) → k < count s → names_at s1.variables k ≡ names_at s.variables k
  pub newer : Newer s s1

pub grown_now : (s : Store) → IsStore s → Grown s s
grown_now s i = record { store = i; keeps = λ xs t h. h; over = λ t h. h; more = omega arith; names = λ k l. refl; newer = ([], refl) }

newer_then : (s s1 s2 : Store) → Newer s s1 → Newer s1 s2 → Newer s s2
newer_then s s1 s2 m n = (n.0 ++ m.0, n.1 ∙ ap (λ z. n.0 ++ z) m.1 ∙ sym (append_assoc n.0 m.0 s.values))

pub grown_then : (s s1 s2 : Store) → Grown s s1 → Grown s1 s2 → Grown s s2
grown_then s s1 s2 g h = record {
  store = h.store;
  keeps = λ xs t k. h.keeps xs t (g.keeps xs t k);
  over = λ t k. h.over t (g.over t k);
  more = omega (arith, g.more, h.more);
  names = λ k l. h.names k (omega (arith, l, g.more)) ∙ g.names k l;
  newer = newer_then s s1 s2 g.newer h.newer;
}

later_newer : {s s1 : Store} → Later s s1 → Newer s s1
unfolding with_value
later_newer now = ([], refl)
later_newer (given_later {s1} l k b may) = let q = later_newer l in (record { id = k; body = b } ∷ q.0, ap (λ z. record { id = k; body = b } ∷ z) q.1)

-- ---- contexts

or_false : (a b : Bool) → (a || b) ≡ false → (a ≡ false) × (b ≡ false)
or_false false b e = (refl, e)
or_false true b e = absurd (grind (arith, e))

among : (z x : Name) (xs ys : List Name) → is_listed (z ∷ xs) x ≡ true → (same_name z x ≡ true → is_listed ys x ≡ true) → (is_listed xs x ≡ true → is_listed ys x ≡ true) → is_listed ys x ≡ true
unfolding is_listed
among z x xs ys e f g = at (same_name z x) refl e
  where
    at : (b : Bool) → same_name z x ≡ b → (b || is_listed xs x) ≡ true → is_listed ys x ≡ true
    at true p q = f p
    at false p q = g q

listed_tail : (z x : Name) (xs : List Name) → is_listed xs x ≡ true → is_listed (z ∷ xs) x ≡ true
unfolding is_listed
listed_tail z x xs e = at (same_name z x)
  where
    at : (b : Bool) → (b || is_listed xs x) ≡ true
    at true = refl
    at false = e

listed_head : (z x : Name) (xs : List Name) → same_name z x ≡ true → is_listed (z ∷ xs) x ≡ true
unfolding is_listed
listed_head z x xs e = ap (λ b. b || is_listed xs x) e

unlisted_parts : (z x : Name) (xs : List Name) → is_listed (z ∷ xs) x ≡ false → (same_name z x ≡ false) × (is_listed xs x ≡ false)
unfolding is_listed
unlisted_parts z x xs e = or_false (same_name z x) (is_listed xs x) e

unlisted_more : (z x : Name) (xs : List Name) → same_name z x ≡ false → is_listed xs x ≡ false → is_listed (z ∷ xs) x ≡ false
unfolding is_listed
unlisted_more z x xs e f = ap₂ (λ a b. a || b) e f

-- one hypothesis more, with a new name, over those that are there
behind_more : (s : Store) (xs : List Name) (g : Context) (h : Hypothesis) → StandBehind s xs g → is_listed xs h.name ≡ false → is_listed (names_in g) h.name ≡ false →
    ((ys : List Name) → ((x : Name) → is_listed xs x ≡ true → is_listed ys x ≡ true) → ((x : Name) → is_listed (names_in g) x ≡ true → is_listed ys x ≡ true) → OptionStands s ys h.body × Stands s ys h.kind) →
    StandBehind s xs (g ++ h ∷ [])
behind_more s xs [] h b new apart p = let q = p xs (λ x e. e) (λ x e. absurd (none_listed x e)) in (new, q.0, q.1, tt)
  where
    none_listed : (x : Name) → is_listed [] x ≡ true → ⊥
    none_listed x e = no_name x e
behind_more s xs (k ∷ g) h b new apart p =
    let u = unlisted_parts k.name h.name (names_in g) apart in (
      b.0,
      b.1,
      b.2,
      behind_more s (k.name ∷ xs) g h b.3 (unlisted_more k.name h.name xs u.0 new) u.1
          (λ ys e f. p ys (λ x l. e x (listed_tail k.name x xs l)) (λ x l. among k.name x (names_in g) ys l (λ q. e x (listed_head k.name x xs q)) (f x))),
    )

pub context_under : (s : Store) (g : Context) (h : Hypothesis) → IsContext s g → is_listed (names_in g) h.name ≡ false → OptionStands s (names_in g) h.body → Stands s (names_in g) h.kind → IsContext s (g ++ h ∷ [])
unfolding is_listed
context_under s g h c new body kind =
    behind_more s [] g h c refl new (λ ys e f. (option h.body body ys f, stands_more s (names_in g) ys f h.kind kind))
  where
    option : (o : Option Tree) → OptionStands s (names_in g) o → (ys : List Name) → ((x : Name) → is_listed (names_in g) x ≡ true → is_listed ys x ≡ true) → OptionStands s ys o
    option None k ys f = tt
    option (Some t) k ys f = stands_more s (names_in g) ys f t k

kind_behind : (s : Store) (xs ys : List Name) (g : Context) → StandBehind s xs g → ((x : Name) → is_listed xs x ≡ true → is_listed ys x ≡ true) → ((x : Name) → is_listed (names_in g) x ≡ true → is_listed ys x ≡ true) →
    (x : Name) (h : Hypothesis) → hypothesis g x ≡ Some h → (is_listed ys h.name ≡ true) × Stands s ys h.kind
unfolding hypothesis
kind_behind s xs ys [] b e f x h q = absurd (grind (arith, q))
kind_behind s xs ys (k ∷ g) b e f x h q =
    at (same_name k.name x) q (λ z. kind_behind s (k.name ∷ xs) ys g b.3 (λ y l. among k.name y xs ys l (λ m. f y (listed_head k.name y (names_in g) m)) (e y)) (λ y l. f y (listed_tail k.name y (names_in g) l)) x h z)
  where
    at : (o : Bool) → elim o as (λ z. Option Hypothesis) [ true ↦ Some k | false ↦ hypothesis g x ] ≡ Some h →
        (hypothesis g x ≡ Some h → (is_listed ys h.name ≡ true) × Stands s ys h.kind) → (is_listed ys h.name ≡ true) × Stands s ys h.kind
    at false z ih = ih z
    at true z ih =
        along (λ i. (is_listed ys i.name ≡ true) × Stands s ys i.kind) (ap (λ o. elim o as (λ z. Hypothesis) [ Some i ↦ i | None ↦ k ]) z)
        (f k.name (listed_head k.name k.name (names_in g) (is_same k.name)), stands_more s xs ys e k.kind b.2)

pub kinds_stand : (s : Store) (g : Context) → IsContext s g → (x : Name) (h : Hypothesis) → hypothesis g x ≡ Some h → (is_listed (names_in g) h.name ≡ true) × Stands s (names_in g) h.kind
kinds_stand s g c x h q = kind_behind s [] (names_in g) g c (λ y l. absurd (no_name y l)) (λ y l. l) x h q

-- ---- what lower calls give

-- work of the kernel, of unification and of the store within elaboration
pub by_gives : {F G A : Type 0} (h : F → G) (r : Paid F A) (a : A) → Gives (faults_as h r) a → Gives r a
unfolding faults_as
by_gives h (gives b) a y = y
by_gives h (fails f) a y = absurd y
by_gives h cut a y = absurd y
by_gives h (tick r) a y = by_gives h r a y

pub elab_fits : (t T : Tree) → Gives (elab_fitting t) T → t ≡ T
unfolding elab_fitting
elab_fits t T y = at (fit t) y
  where
    at : (o : Fit) → Gives {F = ElabFault} (elim o [ Fit.Fits ↦ gives t | Fit.TooLarge ↦ fails ElabFault.elab_too_large | Fit.TooDeep ↦ fails ElabFault.elab_too_deep ]) T → t ≡ T
    at Fit.Fits z = z
    at Fit.TooLarge z = absurd z
    at Fit.TooDeep z = absurd z

-- a context as read has good terms
read_names : (s : Store) (g : Context) → names_in (read_context s g) ≡ names_in g
unfolding read_context read_hypothesis
read_names s [] = refl
read_names s (h ∷ g) = ap (λ z. h.name ∷ z) (read_names s g)

read_found : (s : Store) (g : Context) (x : Name) (h : Hypothesis) → hypothesis (read_context s g) x ≡ Some h → (k : Hypothesis) × (hypothesis g x ≡ Some k) × (h ≡ read_hypothesis s k)
unfolding hypothesis read_context read_hypothesis
read_found s [] x h e = absurd (grind (arith, e))
read_found s (i ∷ g) x h e = at (same_name i.name x) e (λ f. read_found s g x h f)
  where
    at : (b : Bool) → elim b as (λ z. Option Hypothesis) [ true ↦ Some (read_hypothesis s i) | false ↦ hypothesis (map (read_hypothesis s) g) x ] ≡ Some h →
        (hypothesis (map (read_hypothesis s) g) x ≡ Some h → (k : Hypothesis) × (hypothesis g x ≡ Some k) × (h ≡ read_hypothesis s k)) →
        (k : Hypothesis) × (elim b as (λ z. Option Hypothesis) [ true ↦ Some i | false ↦ hypothesis g x ] ≡ Some k) × (h ≡ read_hypothesis s k)
    at true f ih = (i, refl, sym (ap (λ o. elim o as (λ z. Hypothesis) [ Some k ↦ k | None ↦ h ]) f))
    at false f ih = ih f

read_body_is : (s : Store) (k : Hypothesis) (b : Tree) → (read_hypothesis s k).body ≡ Some b → (c : Tree) × (k.body ≡ Some c) × (b ≡ read s c)
unfolding read_hypothesis
read_body_is s k b e = at k.body e
  where
    at : (o : Option Tree) → elim o as (λ z. Option Tree) [ None ↦ None | Some c ↦ Some (read s c) ] ≡ Some b → (c : Tree) × (o ≡ Some c) × (b ≡ read s c)
    at None f = absurd (grind (arith, f))
    at (Some c) f = (c, refl, sym (ap (λ o. elim o as (λ z. Tree) [ Some t ↦ t | None ↦ b ]) f))

pub read_context_good : (s : Store) → IsStore s → (g : Context) → IsContext s g → IsGoodContext s.variables s.values (read_context s g)
unfolding read_hypothesis
read_context_good s i g c = record {
  named = λ x h e. named x h (read_found s g x h e);
  kinds = λ x h e. kinds x h (read_found s g x h e);
  bodies = λ x b e. bodies x b (hypothesis (read_context s g) x) refl e;
}
  where
    named : (x : Name) (h : Hypothesis) → ((k : Hypothesis) × (hypothesis g x ≡ Some k) × (h ≡ read_hypothesis s k)) → is_listed (names_in (read_context s g)) h.name ≡ true
    named x h q =
        along (λ xs. is_listed xs h.name ≡ true) (sym (read_names s g)) (along (λ y. is_listed (names_in g) y ≡ true) (sym (ap (λ z. z.name) q.2)) (kinds_stand s g c x q.0 q.1).0)

    kinds : (x : Name) (h : Hypothesis) → ((k : Hypothesis) × (hypothesis g x ≡ Some k) × (h ≡ read_hypothesis s k)) → IsGood s.variables s.values (names_in (read_context s g)) 0 h.kind
    kinds x h q =
        along (λ xs. IsGood s.variables s.values xs 0 h.kind) (sym (read_names s g))
        (along (IsGood s.variables s.values (names_in g) 0) (sym (ap (λ z. z.kind) q.2)) (good_read s i (names_in g) q.0.kind (kinds_stand s g c x q.0 q.1).1))

    bodies : (x : Name) (b : Tree) (o : Option Hypothesis) → hypothesis (read_context s g) x ≡ o → body_of o ≡ Some b → IsGood s.variables s.values (names_in (read_context s g)) 0 b
    bodies x b None e f = absurd (grind (arith, f))
    bodies x b (Some h) e f =
        let q = read_found s g x h e in
        let r = read_body_is s q.0 b (sym (ap (λ z. z.body) q.2) ∙ f) in
        along (λ xs. IsGood s.variables s.values xs 0 b) (sym (read_names s g))
        (along (IsGood s.variables s.values (names_in g) 0) (sym r.2) (good_read s i (names_in g) r.0 (bodies_stand s g c x r.0 (ap body_of q.1 ∙ r.1))))

-- the type of a term that stands
pub type_stands : (env : Env) → ArePlainDeclarations env → (n : ℕ) (s : Store) → IsStore s → (g : Context) → IsContext s g → (t A : Tree) → Stands s (names_in g) t →
    Gives (type_of env n s g t) A → Stands s (names_in g) A
unfolding type_of infer_open
type_stands env plain n s i g c t A h y =
    let good = along (λ xs. IsGood s.variables s.values xs 0 (read s t)) (sym (read_names s g)) (good_read s i (names_in g) t h) in
    let kind = infer_good env plain s i n (read_context s g) (read_context_good s i g c) (read s t) A good (by_gives kernel_fault (infer_by (by_store_types s) env n (read_context s g) (read s t)) A y) in
    good_stands s i s.values (names_in g) A (along (λ xs. IsGood s.variables s.values xs 0 A) (read_names s g) kind)

-- a weak head form
pub form_stands : (e : Site) → ArePlainDeclarations e.env → (g : Context) (s : Store) → IsStore s → IsContext s g → (A T : Tree) → Stands s (names_in g) A → Gives (form_of e g s A) T → Stands s (names_in g) T
unfolding form_of
form_stands e plain g s i c A T h y =
    let a = gives_bind (whnf (rules_of e.env) (read_context s g) e.bound (read s A)) elab_fitting T y in
    along (Stands s (names_in g)) (elab_fits a.0 T a.2)
    (good_stands s i s.values (names_in g) a.0
    (form_good s.variables s.values (names_in g) ElabFault (rules_of e.env) plain.rules (read_context s g) (bodies_good (rules_of e.env) s i g (bodies_stand s g c)) e.bound (read s A) a.0 (good_read s i (names_in g) A h) a.1))

-- ---- unification, and new variables

pub unified_grown : (r : Rules) → ArePlainRules r → (n : ℕ) (s s1 : Store) (g : Context) (A B : Tree) → length g + n < 10 ^ 64 → IsStore s → IsContext s g → Stands s (names_in g) A → Stands s (names_in g) B →
    Gives (unify r n g s A B) (Some s1) → Grown s s1
unified_grown r plain n s s1 g A B few i c a b y =
    let l = (unify_sound r plain n g s s1 A B few i (bodies_stand s g c) a b y).0 in
    record {
      store = later_store l i;
      keeps = later_keeps l i;
      over = λ t o. along (λ vs. IsOver vs t) (sym (later_variables l)) o;
      more = along (λ vs. count s ≤ length vs) (sym (later_variables l)) (omega arith);
      names = λ k h. ap (λ vs. names_at vs k) (later_variables l);
      newer = later_newer l;
    }

-- found and wanted unify
pub agreed_grown : (e : Site) → ArePlainDeclarations e.env → (g : Context) (s s1 : Store) (A B : Tree) → length g + e.bound < 10 ^ 64 → IsStore s → IsContext s g → Stands s (names_in g) A → Stands s (names_in g) B →
    Gives (unified e g s A B) s1 → Grown s s1
unfolding unified carrying
agreed_grown e plain g s s1 A B few i c a b y =
    let q = gives_bind (by_unify (unify (rules_of e.env) e.bound g s A B)) _ s1 y in
    at q.0 (by_gives unify_fault (unify (rules_of e.env) e.bound g s A B) q.0 q.1) q.2
  where
    at : (o : Answer) → Gives (unify (rules_of e.env) e.bound g s A B) o →
        Gives {F = ElabFault} (elim o as (λ z. Elab Store) [ Some s2 ↦ gives s2 | None ↦ carrying (read s A ∷ read s B ∷ []) (ElabFault.found_wanted (read s A) (read s B)) ]) s1 → Grown s s1
    at (Some s2) k z = unified_grown (rules_of e.env) plain.rules e.bound s s1 g A B few i c a b (along (λ x. Gives (unify (rules_of e.env) e.bound g s A B) (Some x)) z k)
    at None k z = absurd (carries (read s A ∷ read s B ∷ []) z)
      where
        carries : (ts : List Tree) → Gives {F = ElabFault} {A = Store} (carrying ts (ElabFault.found_wanted (read s A) (read s B))) s1 → ⊥
        carries [] z = z
        carries (t ∷ ts) z = let q = gives_bind (elab_fitting t) _ s1 z in carries ts q.2

-- each hypothesis for itself
own_good : (vs : List Variable) (xs : List Name) (g : Context) → ((x : Name) → is_listed (names_in g) x ≡ true → is_listed xs x ≡ true) → EachIsGood vs [] xs 0 (own_instance g)
unfolding own_instance instance_list variables
own_good vs xs [] f = tt
own_good vs xs (h ∷ g) f = (f h.name (listed_head h.name h.name (names_in g) (is_same h.name)), own_good vs xs g (λ x l. f x (listed_tail h.name x (names_in g) l)))

own_many : (g : Context) → length (entries (own_instance g)) ≡ length (names_in g)
unfolding own_instance instance_list variables entries
own_many [] = refl
own_many (h ∷ g) = ap suc (own_many g)

-- a new variable of the context
pub made_grown : (g : Context) (s : Store) (A : Tree) (x : Option Name) (f : Found) → IsStore s → IsContext s g → Stands s (names_in g) A → ((y : Name) → x ≡ Some y → named_variable s y ≡ None) →
    Gives (made g s A x) f → Grown s f.store × Stands f.store (names_in g) f.term × Stands f.store (names_in g) f.kind
unfolding made new_variable by_store with_variable names_at find_value ◌>>=◌
made_grown g s A x f i c a new y = at (leb most_variables (count s)) y
  where
    v : Variable
    v = record { context = g; kind = A; name = x }

    grown : Grown s (with_variable s v)
    grown = record {
      store = more_store s v i (c, a) new;
      keeps = more_keeps s v i.values;
      over = λ t o. more_over s.variables v t o;
      more = omega (arith, length_one_more s.variables v);
      names = λ k l. names_stay s.variables v k l;
      newer = ([], refl);
    }

    names : names_at (s.variables ++ v ∷ []) (count s) ≡ names_in g
    names = names_of (slice_get (s.variables ++ v ∷ []) (length s.variables)) (get_end s.variables v)
      where
        names_of : (o : Option Variable) → o ≡ Some v → elim o as (λ z. List Name) [ Some w ↦ names_in w.context | None ↦ [] ] ≡ names_in g
        names_of o e = ap (λ z. elim z as (λ z. List Name) [ Some w ↦ names_in w.context | None ↦ [] ]) e

    term : Stands (with_variable s v) (names_in g) (Evar (count s) (own_instance g))
    term =
        good_stands (with_variable s v) grown.store [] (names_in g) (Evar (count s) (own_instance g))
        (omega (arith, length_one_more s.variables v), own_many g ∙ sym (ap length names), refl, own_good (s.variables ++ v ∷ []) (names_in g) g (λ z l. l))

    at : (b : Bool) → Gives {F = ElabFault} ((elim (elim b as (λ z. Result (Store × ℕ) StoreFault) [ true ↦ Err StoreFault.store_full | false ↦ Ok (with_variable s v, count s) ]) as (λ z. Elab (Store × ℕ)) [ Ok r ↦ gives r | Err k ↦ fails (store_fault k) ]) >>= λ r. gives (found r.0 (Evar r.1 (own_instance g)) A)) f →
        Grown s f.store × Stands f.store (names_in g) f.term × Stands f.store (names_in g) f.kind
    at true z = absurd z
    at false z =
        along (λ h. Grown s h.store × Stands h.store (names_in g) h.term × Stands h.store (names_in g) h.kind) z
        (grown, term, more_keeps s v i.values (names_in g) A a)
