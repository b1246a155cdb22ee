-- `clear`, `revert` and `rename` keep what holds.
use Rattle.std.proofs.Common.{◌≡◌, ◌∙◌, ℕ, refl, sym, ap, arith, Bool, true, false, ◌||◌, List, [], ◌∷◌, ◌++◌, Option, Some, None}
use Rattle.std.proofs.Common.{subst as along}
use Rattle.lq_trees.specs.Tree.{Name, Tree, Trees, Hypothesis, Context, none, more, same_name}
use Rattle.lq_trees.specs.Tree.Tree.{Rel, Var, Sort, Prod, Lam, Let, App, Const, Ind, Ctor, Elim, Evar}
use Rattle.lq_trees.specs.Change.{close}
use Rattle.lq_trees.specs.Fresh.{is_listed}
use Rattle.lq_trees.specs.Hypotheses.{HoldsOnly, EachHoldsOnly}
use Rattle.lq_trees.specs.Ticks.{gives, fails, ◌>>=◌}
use Rattle.lq_calculus.specs.Contraction.{hypothesis}
use Rattle.lq_calculus.proofs.ConvSound.{Gives, gives_bind, same_name_is}
use Rattle.lq_solving.specs.Occurs.{holds_hypothesis, holds_hypothesis_in}
use Rattle.lq_solving.specs.Stores.{Store, names_in, has_value, read}
use Rattle.lq_solving.specs.Kept.{Stands, StandsIn, OptionStands, StandBehind, IsContext, IsStore}
use Rattle.lq_solving.proofs.InstanceLaws.{is_same}
use Rattle.lq_solving.proofs.UnifyForms.{stands_more}
use Rattle.lq_solving.proofs.Good.{no_name}
use Rattle.lq_solving.proofs.StandsLaws.{StandsUnder, listed_more, listed_end, close_stands, prod_stands, let_stands, app_stands, var_stands}
use Rattle.lq_solving.proofs.ElabKept.{grown_now, kinds_stand}
use Rattle.lq_tactics.specs.Rows.{RowFault, Doing, Scene, Done, Step, done_by, new_goal, goal_term, ended, not_a_hypothesis, still_used}
use Rattle.lq_tactics.specs.Hypotheses.{hypothesis_named, hypothesis_holds, some_holds, without_name, do_clear, reverted_type, reverted_body, do_revert, revert_each}
use Rattle.lq_tactics.proofs.RowsKept.{IsScene, kind_reads, IsReached, IsStep, goal_made, ended_kept}
use Rattle.lq_tactics.proofs.StepsKept.{stays_kept, then_kept}
use Rattle.lq_tactics.proofs.IntroKept.{one_new}

-- ---- a hypothesis that does not stand in a term

-- of these names, those that are not x are among the others
abbrev pub AreOthers : Name → List Name → List Name → Type 0
AreOthers x xs ys = (y : Name) → is_listed xs y ≡ true → same_name x y ≡ false → is_listed ys y ≡ true

or_false : (a b : Bool) → (a || b) ≡ false → (a ≡ false) × (b ≡ false)
or_false false b e = (refl, e)
or_false true b e = absurd (grind (arith, e))

mutual
  unfolding holds_hypothesis holds_hypothesis_in

  holds_others : (x : Name) (xs ys : List Name) → AreOthers x xs ys → (t : Tree) → HoldsOnly xs t → holds_hypothesis x t ≡ false → HoldsOnly ys t
  holds_others x xs ys f (Rel i) h e = tt
  holds_others x xs ys f (Var y) h e = f y h e
  holds_others x xs ys f (Sort u) h e = tt
  holds_others x xs ys f (Prod y A B) h e =
      let q = or_false (holds_hypothesis x A) (holds_hypothesis x B) e in (holds_others x xs ys f A h.0 q.0, holds_others x xs ys f B h.1 q.1)
  holds_others x xs ys f (Lam y A t) h e =
      let q = or_false (holds_hypothesis x A) (holds_hypothesis x t) e in (holds_others x xs ys f A h.0 q.0, holds_others x xs ys f t h.1 q.1)
  holds_others x xs ys f (Let y v A t) h e =
      let r = or_false (holds_hypothesis x v || holds_hypothesis x A) (holds_hypothesis x t) e in
      let q = or_false (holds_hypothesis x v) (holds_hypothesis x A) r.0 in
      (holds_others x xs ys f v h.0 q.0, holds_others x xs ys f A h.1 q.1, holds_others x xs ys f t h.2 r.1)
  holds_others x xs ys f (App g a) h e =
      let q = or_false (holds_hypothesis x g) (holds_hypothesis x a) e in (holds_others x xs ys f g h.0 q.0, holds_others x xs ys f a h.1 q.1)
  holds_others x xs ys f (Const c) h e = tt
  holds_others x xs ys f (Ind c) h e = tt
  holds_others x xs ys f (Ctor c k) h e = tt
  holds_others x xs ys f (Elim c u) h e = tt
  holds_others x xs ys f (Evar n ts) h e = each_holds_others x xs ys f ts h e

  each_holds_others : (x : Name) (xs ys : List Name) → AreOthers x xs ys → (ts : Trees) → EachHoldsOnly xs ts → holds_hypothesis_in x ts ≡ false → EachHoldsOnly ys ts
  each_holds_others x xs ys f none h e = tt
  each_holds_others x xs ys f (more t ts) h e =
      let q = or_false (holds_hypothesis x t) (holds_hypothesis_in x ts) e in (holds_others x xs ys f t h.0 q.0, each_holds_others x xs ys f ts h.1 q.1)

stands_others : (s : Store) (x : Name) (xs ys : List Name) → AreOthers x xs ys → (t : Tree) → Stands s xs t → holds_hypothesis x (read s t) ≡ false → Stands s ys t
stands_others s x xs ys f t h e = record { over = h.over; within = h.within; holds = holds_others x xs ys f (read s t) h.holds e }

-- ---- a context without a hypothesis

-- a name more, before both or not among the second
others_more : (x z : Name) (xs ys : List Name) → AreOthers x xs ys → AreOthers x (z ∷ xs) (z ∷ ys)
unfolding is_listed
others_more x z xs ys f y e n = at (same_name z y) e
  where
    at : (b : Bool) → (b || is_listed xs y) ≡ true → (b || is_listed ys y) ≡ true
    at true p = refl
    at false p = f y p n

others_same : (x z : Name) (xs ys : List Name) → same_name z x ≡ true → AreOthers x xs ys → AreOthers x (z ∷ xs) ys
unfolding is_listed
others_same x z xs ys e f y l n = at (same_name z y) refl l
  where
    at : (b : Bool) → same_name z y ≡ b → (b || is_listed xs y) ≡ true → is_listed ys y ≡ true
    at true p q = absurd (grind (arith, sym n ∙ ap (λ w. same_name w y) (sym (same_name_is z x e)) ∙ p))
    at false p q = f y q n

not_listed : (ys xs : List Name) (z : Name) → ((y : Name) → is_listed ys y ≡ true → is_listed xs y ≡ true) → is_listed xs z ≡ false → is_listed ys z ≡ false
not_listed ys xs z f e = at (is_listed ys z) refl
  where
    at : (b : Bool) → is_listed ys z ≡ b → b ≡ false
    at true p = absurd (grind (arith, sym (f z p) ∙ e))
    at false p = refl

within_more : (z : Name) (ys xs : List Name) → ((y : Name) → is_listed ys y ≡ true → is_listed xs y ≡ true) → (y : Name) → is_listed (z ∷ ys) y ≡ true → is_listed (z ∷ xs) y ≡ true
unfolding is_listed
within_more z ys xs f y e = at (same_name z y) e
  where
    at : (b : Bool) → (b || is_listed ys y) ≡ true → (b || is_listed xs y) ≡ true
    at true p = refl
    at false p = f y p

pub tail_listed : (z : Name) (xs : List Name) (y : Name) → is_listed xs y ≡ true → is_listed (z ∷ xs) y ≡ true
unfolding is_listed
tail_listed z xs y e = at (same_name z y)
  where
    at : (b : Bool) → (b || is_listed xs y) ≡ true
    at true = refl
    at false = e

-- the names that are left are among those that were, and all but x
pub names_within : (x : Name) (g : Context) (y : Name) → is_listed (names_in (without_name x g)) y ≡ true → is_listed (names_in g) y ≡ true
unfolding without_name
names_within x [] y e = e
names_within x (h ∷ g) y e = at (same_name h.name x) e (λ z. names_within x g z)
  where
    at : (b : Bool) → is_listed (names_in (elim b as (λ z. Context) [ true ↦ without_name x g | false ↦ h ∷ without_name x g ])) y ≡ true →
        ((z : Name) → is_listed (names_in (without_name x g)) z ≡ true → is_listed (names_in g) z ≡ true) → is_listed (h.name ∷ names_in g) y ≡ true
    at true p ih = tail_listed h.name (names_in g) y (ih y p)
    at false p ih = within_more h.name (names_in (without_name x g)) (names_in g) ih y p

pub names_others : (x : Name) (g : Context) → AreOthers x (names_in g) (names_in (without_name x g))
unfolding without_name
names_others x [] y e n = e
names_others x (h ∷ g) y e n = at (same_name h.name x) refl (names_others x g)
  where
    at : (b : Bool) → same_name h.name x ≡ b → AreOthers x (names_in g) (names_in (without_name x g)) →
        is_listed (names_in (elim b as (λ z. Context) [ true ↦ without_name x g | false ↦ h ∷ without_name x g ])) y ≡ true
    at true p ih = others_same x h.name (names_in g) (names_in (without_name x g)) p ih y e n
    at false p ih = others_more x h.name (names_in g) (names_in (without_name x g)) ih y e n

-- what a hypothesis that does not depend on x holds
option_others : (s : Store) (x : Name) (xs ys : List Name) → AreOthers x xs ys → (h : Hypothesis) → OptionStands s xs h.body → Stands s xs h.kind → hypothesis_holds s x h ≡ false → OptionStands s ys h.body × Stands s ys h.kind
unfolding hypothesis_holds
option_others s x xs ys f h b k e = at h.body b e
  where
    at : (o : Option Tree) → OptionStands s xs o →
        elim o as (λ z. Bool) [ None ↦ holds_hypothesis x (read s h.kind) | Some t ↦ holds_hypothesis x (read s t) || holds_hypothesis x (read s h.kind) ] ≡ false → OptionStands s ys o × Stands s ys h.kind
    at None p q = (tt, stands_others s x xs ys f h.kind k q)
    at (Some t) p q = let r = or_false (holds_hypothesis x (read s t)) (holds_hypothesis x (read s h.kind)) q in (stands_others s x xs ys f t p r.0, stands_others s x xs ys f h.kind k r.1)

behind_without : (s : Store) (x : Name) (xs ys : List Name) (g : Context) → StandBehind s xs g → AreOthers x xs ys → ((y : Name) → is_listed ys y ≡ true → is_listed xs y ≡ true) →
    some_holds s x (without_name x g) ≡ false → StandBehind s ys (without_name x g)
unfolding without_name some_holds
behind_without s x xs ys [] b f w e = tt
behind_without s x xs ys (h ∷ g) b f w e =
    at (same_name h.name x) refl e
    (λ p q. behind_without s x (h.name ∷ xs) ys g b.3 (others_same x h.name xs ys p f) (λ y l. tail_listed h.name xs y (w y l)) q)
    (λ q. behind_without s x (h.name ∷ xs) (h.name ∷ ys) g b.3 (others_more x h.name xs ys f) (within_more h.name ys xs w) q)
  where
    at : (o : Bool) → same_name h.name x ≡ o → some_holds s x (elim o as (λ z. Context) [ true ↦ without_name x g | false ↦ h ∷ without_name x g ]) ≡ false →
        (same_name h.name x ≡ true → some_holds s x (without_name x g) ≡ false → StandBehind s ys (without_name x g)) →
        (some_holds s x (without_name x g) ≡ false → StandBehind s (h.name ∷ ys) (without_name x g)) →
        StandBehind s ys (elim o as (λ z. Context) [ true ↦ without_name x g | false ↦ h ∷ without_name x g ])
    at true p q there here = there p q
    at false p q there here =
        let r = or_false (hypothesis_holds s x h) (some_holds s x (without_name x g)) q in
        let o = option_others s x xs ys f h b.1 b.2 r.0 in
        (not_listed ys xs h.name w b.0, o.0, o.1, here r.1)

pub context_without : (s : Store) (x : Name) (g : Context) → IsContext s g → some_holds s x (without_name x g) ≡ false → IsContext s (without_name x g)
context_without s x g c e = behind_without s x [] [] g c (λ y l n. l) (λ y l. l) e

-- a hypothesis's own body and type stand among those before it
own_parts : (s : Store) (x : Name) (xs ys : List Name) (g : Context) (h : Hypothesis) → StandBehind s xs g → ((y : Name) → is_listed xs y ≡ true → is_listed ys y ≡ true) →
    ((y : Name) → is_listed (names_in (without_name x g)) y ≡ true → is_listed ys y ≡ true) → hypothesis g x ≡ Some h → OptionStands s ys h.body × Stands s ys h.kind
unfolding hypothesis without_name is_listed
own_parts s x xs ys [] h b f w e = absurd (grind (arith, e))
own_parts s x xs ys (k ∷ g) h b f w e = at (same_name k.name x) e w (λ v q. own_parts s x (k.name ∷ xs) ys g h b.3 (λ y l. among y l (v k.name (head_listed k.name (names_in (without_name x g))))) (λ y l. v y (tail_listed k.name (names_in (without_name x g)) y l)) q)
  where
    head_listed : (z : Name) (zs : List Name) → is_listed (z ∷ zs) z ≡ true
    head_listed z zs = first (same_name z z) (is_same z)
      where
        first : (o : Bool) → o ≡ true → (o || is_listed zs z) ≡ true
        first true p = refl
        first false p = absurd (grind (arith, p))

    among : (y : Name) → is_listed (k.name ∷ xs) y ≡ true → is_listed ys k.name ≡ true → is_listed ys y ≡ true
    among y l m = by (same_name k.name y) refl l
      where
        by : (o : Bool) → same_name k.name y ≡ o → (o || is_listed xs y) ≡ true → is_listed ys y ≡ true
        by true p q = along (λ z. is_listed ys z ≡ true) (same_name_is k.name y p) m
        by false p q = f y q

    option : (o : Option Tree) → OptionStands s xs o → OptionStands s ys o
    option None p = tt
    option (Some t) p = stands_more s xs ys f t p

    at : (o : Bool) → elim o as (λ z. Option Hypothesis) [ true ↦ Some k | false ↦ hypothesis g x ] ≡ Some h →
        ((y : Name) → is_listed (names_in (elim o as (λ z. Context) [ true ↦ without_name x g | false ↦ k ∷ without_name x g ])) y ≡ true → is_listed ys y ≡ true) →
        (((y : Name) → is_listed (k.name ∷ names_in (without_name x g)) y ≡ true → is_listed ys y ≡ true) → hypothesis g x ≡ Some h → OptionStands s ys h.body × Stands s ys h.kind) →
        OptionStands s ys h.body × Stands s ys h.kind
    at true q v ih = along (λ i. OptionStands s ys i.body × Stands s ys i.kind) (ap (λ o. elim o as (λ z. Hypothesis) [ Some i ↦ i | None ↦ k ]) q) (option k.body b.1, stands_more s xs ys f k.kind b.2)
    at false q v ih = ih v q

-- ---- the rows

pub named_is : (c : Scene) (x : Name) (h : Hypothesis) → Gives (hypothesis_named c x) h → hypothesis c.context x ≡ Some h
unfolding hypothesis_named
named_is c x h y = at (hypothesis c.context x) y
  where
    at : (o : Option Hypothesis) → Gives {F = RowFault} (elim o as (λ z. Doing Hypothesis) [ Some i ↦ gives i | None ↦ fails (not_a_hypothesis x) ]) h → o ≡ Some h
    at (Some i) z = ap Some z
    at None z = absurd z

pub found_name : (g : Context) (x : Name) (h : Hypothesis) → hypothesis g x ≡ Some h → h.name ≡ x
unfolding hypothesis
found_name [] x h e = absurd (grind (arith, e))
found_name (k ∷ g) x h e = at (same_name k.name x) refl e (λ q. found_name g x h q)
  where
    at : (o : Bool) → same_name k.name x ≡ o → elim o as (λ z. Option Hypothesis) [ true ↦ Some k | false ↦ hypothesis g x ] ≡ Some h → (hypothesis g x ≡ Some h → h.name ≡ x) → h.name ≡ x
    at true p q ih = sym (ap (λ o. elim o as (λ z. Name) [ Some i ↦ i.name | None ↦ k.name ]) q) ∙ same_name_is k.name x p
    at false p q ih = ih q

module _ (c : Scene) (s : IsScene c) where
  -- the new goal has the context without x
  less_reached : (x : Name) (T : Tree) (body : ℕ → Tree) (d : Done) → some_holds c.store x (without_name x c.context) ≡ false → Stands c.store (names_in (without_name x c.context)) T →
      ((s1 : Store) (k : ℕ) → IsStore s1 → StandsIn s1 c.context (goal_term k (without_name x c.context)) → StandsIn s1 c.context (body k)) →
      Gives (new_goal c c.store (without_name x c.context) T >>= λ r. gives (done_by r.0 (body r.1) (r.1 ∷ []))) d → IsReached c d
  less_reached x T body d e t f y =
      let r = gives_bind (new_goal c c.store (without_name x c.context) T) _ d y in
      let m = goal_made c c.store (without_name x c.context) T r.0 s.store (context_without c.store x c.context s.context e) t r.1 in
      along (IsReached c) r.2 (record {
        grown = m.grown;
        body = f r.0.0 r.0.1 m.grown.store (stands_more r.0.0 (names_in (without_name x c.context)) (names_in c.context) (names_within x c.context) (goal_term r.0.1 (without_name x c.context)) m.term);
        goals = one_new c.store c.store (without_name x c.context) r.0 (grown_now c.store s.store) s.store m;
      })

  pub clear_reached : (x : Name) (d : Done) → Gives (do_clear c x) d → IsReached c d
  unfolding do_clear
  clear_reached x d y =
      let h = gives_bind (hypothesis_named c x) _ d y in at (some_holds c.store x (without_name x c.context) || holds_hypothesis x c.kind) refl h.2
    where
      at : (o : Bool) → (some_holds c.store x (without_name x c.context) || holds_hypothesis x c.kind) ≡ o →
          Gives {F = RowFault} (elim o as (λ z. Doing Done) [
            | true ↦ fails (still_used x)
            | false ↦ new_goal c c.store (without_name x c.context) c.kind >>= λ r. gives (done_by r.0 (goal_term r.1 (without_name x c.context)) (r.1 ∷ []))
          ]) d → IsReached c d
      at true e z = absurd z
      at false e z =
          let q = or_false (some_holds c.store x (without_name x c.context)) (holds_hypothesis x c.kind) e in
          less_reached x c.kind (λ k. goal_term k (without_name x c.context)) d q.0
          (stands_others c.store x (names_in c.context) (names_in (without_name x c.context)) (names_others x c.context) c.kind s.kind (ap (holds_hypothesis x) (kind_reads c s) ∙ q.1)) (λ s1 k i h. h) z

  pub revert_reached : (x : Name) (d : Done) → Gives (do_revert c x) d → IsReached c d
  unfolding do_revert reverted_type reverted_body
  revert_reached x d y =
      let h = gives_bind (hypothesis_named c x) _ d y in at h.0 (named_is c x h.0 h.1) (some_holds c.store x (without_name x c.context)) refl h.2
    where
      ys : List Name
      ys = names_in (without_name x c.context)

      -- the goal's type under the hypothesis
      shut : (h : Hypothesis) → h.name ≡ x → StandsUnder c.store ys 1 (close h.name c.kind)
      shut h e =
          close_stands c.store s.store ys h.name c.kind (stands_more c.store (names_in c.context) (ys ++ h.name ∷ []) (λ y l. at_name h e y l) c.kind s.kind)
        where
          at_name : (i : Hypothesis) → i.name ≡ x → (y : Name) → is_listed (names_in c.context) y ≡ true → is_listed (ys ++ i.name ∷ []) y ≡ true
          at_name i p y l = by (same_name x y) refl
            where
              by : (o : Bool) → same_name x y ≡ o → is_listed (ys ++ i.name ∷ []) y ≡ true
              by true q = along (λ z. is_listed (ys ++ i.name ∷ []) z ≡ true) (p ∙ same_name_is x y q) (listed_end ys i.name)
              by false q = listed_more ys (i.name ∷ []) y (names_others x c.context y l q)

      kind_is : (h : Hypothesis) (o : Option Tree) → h.name ≡ x → OptionStands c.store ys o → Stands c.store ys h.kind → Stands c.store ys (reverted_type h o c.kind)
      kind_is h None e b k = prod_stands c.store s.store ys h.name h.kind (close h.name c.kind) k (shut h e)
      kind_is h (Some t) e b k = let_stands c.store s.store ys h.name t h.kind (close h.name c.kind) b k (shut h e)

      body_is : (h : Hypothesis) (o : Option Tree) → is_listed (names_in c.context) h.name ≡ true → (s1 : Store) (k : ℕ) → IsStore s1 → StandsIn s1 c.context (goal_term k (without_name x c.context)) →
          StandsIn s1 c.context (reverted_body h o (goal_term k (without_name x c.context)))
      body_is h None l s1 k i t = app_stands s1 i (names_in c.context) (goal_term k (without_name x c.context)) (Var h.name) t (var_stands s1 (names_in c.context) h.name l)
      body_is h (Some b) l s1 k i t = t

      at : (h : Hypothesis) → hypothesis c.context x ≡ Some h → (o : Bool) → some_holds c.store x (without_name x c.context) ≡ o →
          Gives {F = RowFault} (elim o as (λ z. Doing Done) [
            | true ↦ fails (still_used x)
            | false ↦ new_goal c c.store (without_name x c.context) (reverted_type h h.body c.kind) >>= λ r. gives (done_by r.0 (reverted_body h h.body (goal_term r.1 (without_name x c.context))) (r.1 ∷ []))
          ]) d → IsReached c d
      at h q true e z = absurd z
      at h q false e z =
          let name = found_name c.context x h q in
          let p = own_parts c.store x [] ys c.context h s.context (λ y l. absurd (no_name y l)) (λ y l. l) q in
          less_reached x (reverted_type h h.body c.kind) (λ k. reverted_body h h.body (goal_term k (without_name x c.context))) d e (kind_is h h.body name p.0 p.1)
          (body_is h h.body (kinds_stand c.store c.context s.context x h q).0) z

pub revert_each_kept : (xs : List Name) (c : Scene) (st : Step) → IsScene c → has_value c.store c.goal ≡ false → Gives (revert_each xs c) st → IsStep c st
unfolding revert_each
revert_each_kept [] c st s e y = along (IsStep c) y (stays_kept c s e)
revert_each_kept (x ∷ xs) c st s e y =
    let a = gives_bind (ended c (do_revert c x)) _ st y in
    let k = ended_kept c (do_revert c x) a.0 s (λ d z. revert_reached c s x d z) a.1 in
    then_kept c a.0 st (revert_each xs) s k (λ j d l v q sd z. revert_each_kept xs d st sd (along (λ w. has_value w.store w.goal ≡ false) q.is v) z) a.2
