-- `rename` keeps what holds.
use Rattle.std.proofs.Common.{◌≡◌, ◌+◌, ◌∙◌, ℕ, suc, refl, sym, ap, arith, Bool, true, false, ◌||◌, if◌then◌else◌, List, [], ◌∷◌, length, Option, Some, None}
use Rattle.std.proofs.Common.{subst as along}
use Rattle.lq_trees.specs.Tree.{Name, Tree, Trees, Context, none, more, same_name, value_of}
use Rattle.lq_trees.specs.Tree.Tree.{Rel, Var, Sort, Prod, Lam, Let, App, Const, Ind, Ctor, Elim, Evar}
use Rattle.lq_trees.specs.Change.{put, standing}
use Rattle.lq_trees.specs.Fresh.{is_listed}
use Rattle.lq_trees.specs.Index.{Within, EachWithin}
use Rattle.lq_trees.specs.Hypotheses.{HoldsOnly, EachHoldsOnly}
use Rattle.lq_trees.specs.Reading.{entries}
use Rattle.lq_calculus.specs.Declarations.{variables}
use Rattle.lq_calculus.proofs.ConvSound.{Gives, gives_bind, same_name_is}
use Rattle.lq_solving.specs.Stores.{Store, Variable, Assigned, names_in, names_at, find_value, put_value, fill_values, read_values, read_next, read, own_instance, instance_list}
use Rattle.lq_solving.specs.Kept.{IsOver, Sound, Stands, OptionStands, StandBehind, IsStore}
use Rattle.lq_solving.proofs.LiftLaws.{put_each}
use Rattle.lq_solving.proofs.InstanceLaws.{is_same}
use Rattle.lq_solving.proofs.ValueLaws.{value_puts}
use Rattle.lq_solving.proofs.OverLaws.{put_over}
use Rattle.lq_solving.proofs.ReadLaws.{filled, filled_over, newest_closed}
use Rattle.lq_solving.proofs.Good.{EachIsGood, no_name}
use Rattle.lq_solving.proofs.Later.{good_stands}
use Rattle.lq_solving.proofs.ElabKept.{grown_now}
use Rattle.lq_tactics.specs.Rows.{Scene, Done, new_goal, goal_term, unused}
use Rattle.lq_tactics.specs.Hypotheses.{hypothesis_named, renamed, renamed_in, do_rename}
use Rattle.lq_tactics.proofs.RowsKept.{IsScene, IsReached, goal_made}
use Rattle.lq_tactics.proofs.IntroKept.{one_new, unused_new}

-- the name that a name becomes
abbrev pub turned : Name → Name → Name → Name
turned x y z = elim (same_name z x) as (λ w. Name) [ true ↦ y | false ↦ z ]

or_false : (a b : Bool) → (a || b) ≡ false → (a ≡ false) × (b ≡ false)
or_false false b e = (refl, e)
or_false true b e = absurd (grind (arith, e))

both_false : (a b : Bool) → a ≡ false → b ≡ false → (a || b) ≡ false
both_false a b e f = ap (λ z. z || b) e ∙ f

none_listed : (x : Name) → is_listed [] x ≡ false
unfolding is_listed
none_listed x = refl

module _ (x y : Name) where
  -- reading and renaming, one after the other in either order
  renamed_reads : (vs : List Variable) (as_ : List Assigned) → Sound vs as_ → (t : Tree) → IsOver vs t → filled vs as_ (put ((x, Var y) ∷ []) 0 t) ≡ put ((x, Var y) ∷ []) 0 (filled vs as_ t)
  unfolding fill_values read_values read_next put_value
  renamed_reads vs [] s t o = refl
  renamed_reads vs (a ∷ older) s t o =
      ap (put_value a.id (names_at vs a.id) (filled vs older a.body)) (renamed_reads vs older s.0 t o)
      ∙ value_puts vs a.id (filled vs older a.body) ((x, Var y) ∷ []) 0 s.1.holds (newest_closed vs a older s) over_all (filled vs older t) (filled_over vs older s.0 t o)
    where
      over_all : (z : Name) (v : Tree) → value_of ((x, Var y) ∷ []) z ≡ Some v → IsOver vs v
      over_all z v e = at (same_name z x) e
        where
          at : (b : Bool) → (if b then Some (Var y) else None) ≡ Some v → IsOver vs v
          at true f = along (IsOver vs) (ap (λ o. elim o as (λ w. Tree) [ Some w ↦ w | None ↦ v ]) f) tt
          at false f = absurd (grind (arith, f))

  name_is : (d : ℕ) (z : Name) → standing (value_of ((x, Var y) ∷ []) z) d z ≡ Var (turned x y z)
  name_is d z = at (same_name z x)
    where
      at : (b : Bool) → standing (if b then Some (Var y) else None) d z ≡ Var (elim b as (λ w. Name) [ true ↦ y | false ↦ z ])
      at true = refl
      at false = refl

  -- the names that are held are turned
  abbrev pub Turns : List Name → List Name → Type 0
  Turns xs ys = (z : Name) → is_listed xs z ≡ true → is_listed ys (turned x y z) ≡ true

  module _ (xs ys : List Name) (f : Turns xs ys) where
    mutual
      renamed_holds : (d : ℕ) (t : Tree) → HoldsOnly xs t → HoldsOnly ys (put ((x, Var y) ∷ []) d t)
      renamed_holds d (Rel i) h = tt
      renamed_holds d (Var z) h = along (HoldsOnly ys) (sym (name_is d z)) (f z h)
      renamed_holds d (Sort u) h = tt
      renamed_holds d (Prod z A B) h = (renamed_holds d A h.0, renamed_holds (d + 1) B h.1)
      renamed_holds d (Lam z A B) h = (renamed_holds d A h.0, renamed_holds (d + 1) B h.1)
      renamed_holds d (Let z v A B) h = (renamed_holds d v h.0, renamed_holds d A h.1, renamed_holds (d + 1) B h.2)
      renamed_holds d (App g a) h = (renamed_holds d g h.0, renamed_holds d a h.1)
      renamed_holds d (Const c) h = tt
      renamed_holds d (Ind c) h = tt
      renamed_holds d (Ctor c k) h = tt
      renamed_holds d (Elim c u) h = tt
      renamed_holds d (Evar n ts) h = each_renamed_holds d ts h

      each_renamed_holds : (d : ℕ) (ts : Trees) → EachHoldsOnly xs ts → EachHoldsOnly ys (put_each ((x, Var y) ∷ []) d ts)
      each_renamed_holds d none h = tt
      each_renamed_holds d (more t ts) h = (renamed_holds d t h.0, each_renamed_holds d ts h.1)

  mutual
    renamed_within : (d n : ℕ) (t : Tree) → Within n t → Within n (put ((x, Var y) ∷ []) d t)
    renamed_within d n (Rel i) w = w
    renamed_within d n (Var z) w = along (Within n) (sym (name_is d z)) tt
    renamed_within d n (Sort u) w = tt
    renamed_within d n (Prod z A B) w = (renamed_within d n A w.0, renamed_within (d + 1) (n + 1) B w.1)
    renamed_within d n (Lam z A B) w = (renamed_within d n A w.0, renamed_within (d + 1) (n + 1) B w.1)
    renamed_within d n (Let z v A B) w = (renamed_within d n v w.0, renamed_within d n A w.1, renamed_within (d + 1) (n + 1) B w.2)
    renamed_within d n (App g a) w = (renamed_within d n g w.0, renamed_within d n a w.1)
    renamed_within d n (Const c) w = tt
    renamed_within d n (Ind c) w = tt
    renamed_within d n (Ctor c k) w = tt
    renamed_within d n (Elim c u) w = tt
    renamed_within d n (Evar k ts) w = each_renamed_within d n ts w

    each_renamed_within : (d n : ℕ) (ts : Trees) → EachWithin n ts → EachWithin n (put_each ((x, Var y) ∷ []) d ts)
    each_renamed_within d n none w = tt
    each_renamed_within d n (more t ts) w = (renamed_within d n t w.0, each_renamed_within d n ts w.1)

  renamed_stands : (s : Store) → IsStore s → (xs ys : List Name) → Turns xs ys → (t : Tree) → Stands s xs t → Stands s ys (renamed x y t)
  unfolding read
  renamed_stands s i xs ys f t h = record {
    over = put_over s.variables ((x, Var y) ∷ []) over_all 0 t h.over;
    within = renamed_within 0 0 t h.within;
    holds = along (HoldsOnly ys) (sym (renamed_reads s.variables s.values i.values t h.over)) (renamed_holds xs ys f 0 (read s t) h.holds);
  }
    where
      over_all : (z : Name) (v : Tree) → value_of ((x, Var y) ∷ []) z ≡ Some v → IsOver s.variables v
      over_all z v e = at (same_name z x) e
        where
          at : (b : Bool) → (if b then Some (Var y) else None) ≡ Some v → IsOver s.variables v
          at true g = along (IsOver s.variables) (ap (λ o. elim o as (λ w. Tree) [ Some w ↦ w | None ↦ v ]) g) tt
          at false g = absurd (grind (arith, g))

  -- ---- contexts

  -- the second names are the first, turned
  abbrev AreTurned : List Name → List Name → Type 0
  AreTurned xs ys = Turns xs ys × ((w : Name) → is_listed ys w ≡ true → (z : Name) × (is_listed xs z ≡ true) × (turned x y z ≡ w))

  turned_more : (n : Name) (xs ys : List Name) → AreTurned xs ys → AreTurned (n ∷ xs) (turned x y n ∷ ys)
  unfolding is_listed
  turned_more n xs ys h = (there, back)
    where
      there : (z : Name) → is_listed (n ∷ xs) z ≡ true → is_listed (turned x y n ∷ ys) (turned x y z) ≡ true
      there z e = at (same_name n z) refl e
        where
          later : (b c : Bool) → c ≡ true → (b || c) ≡ true
          later true c p = refl
          later false c p = p

          at : (b : Bool) → same_name n z ≡ b → (b || is_listed xs z) ≡ true → (same_name (turned x y n) (turned x y z) || is_listed ys (turned x y z)) ≡ true
          at true p q = along (λ w. (same_name (turned x y n) (turned x y w) || is_listed ys (turned x y w)) ≡ true) (same_name_is n z p) (ap (λ b. b || is_listed ys (turned x y n)) (is_same (turned x y n)))
          at false p q = later (same_name (turned x y n) (turned x y z)) (is_listed ys (turned x y z)) (h.0 z q)

      back : (w : Name) → is_listed (turned x y n ∷ ys) w ≡ true → (z : Name) × (is_listed (n ∷ xs) z ≡ true) × (turned x y z ≡ w)
      back w e = at (same_name (turned x y n) w) refl e
        where
          later : (b c : Bool) → c ≡ true → (b || c) ≡ true
          later true c p = refl
          later false c p = p

          at : (b : Bool) → same_name (turned x y n) w ≡ b → (b || is_listed ys w) ≡ true → (z : Name) × (is_listed (n ∷ xs) z ≡ true) × (turned x y z ≡ w)
          at true p q = (n, ap (λ b. b || is_listed xs n) (is_same n), same_name_is (turned x y n) w p)
          at false p q = let r = h.1 w q in (r.0, later (same_name n r.0) (is_listed xs r.0) r.1, r.2)

  -- a name that was new is, turned, new too, where y is no name of theirs
  turned_new : (n : Name) (xs ys : List Name) → AreTurned xs ys → is_listed xs n ≡ false → is_listed xs y ≡ false → same_name n y ≡ false → is_listed ys (turned x y n) ≡ false
  turned_new n xs ys h new apart other = at (is_listed ys (turned x y n)) refl
    where
      same : (z : Name) → is_listed xs z ≡ true → turned x y z ≡ turned x y n → ⊥
      same z l e = by (same_name z x) (same_name n x) refl refl e
        where
          clash : z ≡ n → ⊥
          clash p = grind (arith, sym new ∙ ap (is_listed xs) (sym p) ∙ l)

          by : (b c : Bool) → same_name z x ≡ b → same_name n x ≡ c → elim b as (λ w. Name) [ true ↦ y | false ↦ z ] ≡ elim c as (λ w. Name) [ true ↦ y | false ↦ n ] → ⊥
          by true true p q g = clash (same_name_is z x p ∙ sym (same_name_is n x q))
          by true false p q g = grind (arith, sym other ∙ ap (λ w. same_name w y) (sym g) ∙ is_same y)
          by false true p q g = grind (arith, sym apart ∙ ap (is_listed xs) (sym g) ∙ l)
          by false false p q g = clash g

      at : (b : Bool) → is_listed ys (turned x y n) ≡ b → b ≡ false
      at false e = refl
      at true e = let r = h.1 (turned x y n) e in absurd (same r.0 r.1 r.2)

  behind_renamed : (s : Store) → IsStore s → (xs ys : List Name) (g : Context) → StandBehind s xs g → AreTurned xs ys → is_listed xs y ≡ false → is_listed (names_in g) y ≡ false → StandBehind s ys (renamed_in x y g)
  unfolding renamed_in is_listed
  behind_renamed s i xs ys [] b f e n = tt
  behind_renamed s i xs ys (h ∷ g) b f e n =
      let q = or_false (same_name h.name y) (is_listed (names_in g) y) n in (
        turned_new h.name xs ys f b.0 e q.0,
        option h.body b.1,
        renamed_stands s i xs ys f.0 h.kind b.2,
        behind_renamed s i (h.name ∷ xs) (turned x y h.name ∷ ys) g b.3 (turned_more h.name xs ys f) (both_false (same_name h.name y) (is_listed xs y) q.0 e) q.1,
      )
    where
      option : (o : Option Tree) → OptionStands s xs o → OptionStands s ys (elim o as (λ z. Option Tree) [ None ↦ None | Some t ↦ Some (renamed x y t) ])
      option None p = tt
      option (Some t) p = renamed_stands s i xs ys f.0 t p

  -- the names of the context, turned
  context_turned : (g : Context) → Turns (names_in g) (names_in (renamed_in x y g))
  unfolding renamed_in is_listed
  context_turned [] z e = e
  context_turned (h ∷ g) z e = at (same_name h.name z) refl e (context_turned g)
    where
      later : (b c : Bool) → c ≡ true → (b || c) ≡ true
      later true c p = refl
      later false c p = p

      at : (b : Bool) → same_name h.name z ≡ b → (b || is_listed (names_in g) z) ≡ true → Turns (names_in g) (names_in (renamed_in x y g)) →
          (same_name (turned x y h.name) (turned x y z) || is_listed (names_in (renamed_in x y g)) (turned x y z)) ≡ true
      at true p q ih =
          along (λ w. (same_name (turned x y h.name) (turned x y w) || is_listed (names_in (renamed_in x y g)) (turned x y w)) ≡ true) (same_name_is h.name z p)
          (ap (λ b. b || is_listed (names_in (renamed_in x y g)) (turned x y h.name)) (is_same (turned x y h.name)))
      at false p q ih = later (same_name (turned x y h.name) (turned x y z)) (is_listed (names_in (renamed_in x y g)) (turned x y z)) (ih z q)

  many_renamed : (g : Context) → length (names_in (renamed_in x y g)) ≡ length (names_in g)
  unfolding renamed_in
  many_renamed [] = refl
  many_renamed (h ∷ g) = ap suc (many_renamed g)

-- each hypothesis for itself
own_good : (vs : List Variable) (xs : List Name) (g : Context) → ((x : Name) → is_listed (names_in g) x ≡ true → is_listed xs x ≡ true) → EachIsGood vs [] xs 0 (own_instance g)
unfolding own_instance instance_list variables is_listed
own_good vs xs [] f = tt
own_good vs xs (h ∷ g) f = (f h.name (ap (λ b. b || is_listed (names_in g) h.name) (is_same h.name)), own_good vs xs g (λ x l. f x (later (same_name h.name x) (is_listed (names_in g) x) l)))
  where
    later : (b c : Bool) → c ≡ true → (b || c) ≡ true
    later true c p = refl
    later false c p = p

own_many : (g : Context) → length (entries (own_instance g)) ≡ length (names_in g)
unfolding own_instance instance_list variables entries
own_many [] = refl
own_many (h ∷ g) = ap suc (own_many g)

pub rename_reached : (c : Scene) → IsScene c → (x y : Name) (d : Done) → Gives (do_rename c x y) d → IsReached c d
unfolding do_rename names_at find_value
rename_reached c s x y d k =
    let h = gives_bind (hypothesis_named c x) _ d k in
    let n = gives_bind (unused c y) _ d h.2 in
    let new = unused_new c y n.0 n.1 in
    let g = behind_renamed x y c.store s.store [] [] c.context s.context ((λ z e. absurd (no_name z e)), (λ w e. absurd (no_name w e))) (none_listed y) new in
    let kind = renamed_stands x y c.store s.store (names_in c.context) (names_in (renamed_in x y c.context)) (context_turned x y c.context) c.kind s.kind in
    let r = gives_bind (new_goal c c.store (renamed_in x y c.context) (renamed x y c.kind)) _ d n.2 in
    let m = goal_made c c.store (renamed_in x y c.context) (renamed x y c.kind) r.0 s.store g kind r.1 in
    along (IsReached c) r.2 (record {
      grown = m.grown;
      body = good_stands r.0.0 m.grown.store [] (names_in c.context) (goal_term r.0.1 c.context) (
        omega (arith, m.number, m.many),
        own_many c.context ∙ sym (many_renamed x y c.context) ∙ ap (λ e. length (names_in e)) (sym m.there.2) ∙ sym (ap (λ o. length (elim o as (λ z. List Name) [ Some w ↦ names_in w.context | None ↦ [] ])) m.there.1),
        refl,
        own_good r.0.0.variables (names_in c.context) c.context (λ z e. e),
      );
      goals = one_new c.store c.store (renamed_in x y c.context) r.0 (grown_now c.store s.store) s.store m;
    })
