-- `intros`, step by step.
use Rattle.std.proofs.Common.{◌≡◌, ◌<◌, ◌≤◌, ◌+◌, ◌∙◌, ℕ, suc, refl, sym, ap, Bool, true, false, List, [], ◌∷◌, map, length, drop, get_or, Some, None, Result, Ok, Err}
use Rattle.std.specs.List.{AllByRecursion}
use Rattle.std.proofs.lemmas.List.{drop_more, drop_all}
use Rattle.std.proofs.lemmas.Option.{slice_get-get_or}
use Rattle.std.proofs.Common.{subst as along}
use Rattle.lq_trees.specs.Tree.{Name, Tree, Context}
use Rattle.lq_trees.specs.Ticks.{gives, ◌>>=◌}
use Rattle.lq_trees.proofs.Outcomes.{comes_gives}
use Rattle.lq_calculus.specs.Declarations.{Env as Environment}
use Rattle.lq_terms.specs.declared.nodes.NameId.{NameId}
use Rattle.lq_terms.specs.Terms.{Terms, HasName, Grows, tree_of, text_of}
use Rattle.lq_solving.specs.Stores.{Store}
use Rattle.lq_solving.specs.Elaboration.{Givens}
use Rattle.lq_evars.specs.Places.{Places, store_of}
use Rattle.lq_tactics.specs.Rows.{Doing, Scene, Step, ended, then_next, stays}
use Rattle.lq_tactics.specs.Primitives.{do_intro, is_binder, intro_all, intro_each}
use Rattle.lq_prims.specs.declared.faults.PrimFault.{PrimFault}
use Rattle.lq_prims.specs.declared.moving.Placed.{Placed}
use Rattle.lq_prims.specs.Moving.{step_then, Moves}
use Rattle.lq_prims.specs.Scenes.{context_at, scene_by, step_by}
use Rattle.lq_prims.specs.Working.{Does, Refuses}
use Rattle.lq_prims.proofs.SceneLaws.{all_at as each_at}
use Rattle.lq_prims.proofs.WorkLaws.{does_same, refuses_same}

-- what the rest comes to is what the whole comes to
abbrev pub Goes : (whole rest : ℕ → Doing Step) → (budget left : ℕ) → Type 0
Goes whole rest b l = (late : Terms) (tell : ℕ → Step) (q : Result ℕ PrimFault) (left : ℕ) → Does late tell q rest l left → Does late tell q whole b left

pub goes_then : (f g h : ℕ → Doing Step) (b l m : ℕ) → Goes f g b l → Goes g h l m → Goes f h b m
goes_then f g h b l m p q late tell r left k = p late tell r left (q late tell r left k)

module _ (E : Environment) (s : Store) (k : ℕ) (g : Context) (T : Tree) (vs : Givens) where
  abbrev c : ℕ → Scene
  c n = scene_by E s k g T vs n

  all_at : (b : Bool) → is_binder T ≡ b → (m n : ℕ) → elim b as (λ z. Doing Step) [ false ↦ gives (stays (c n)) | true ↦ ended (c n) (do_intro (c n) None) >>= λ st. then_next (c n) st (intro_all m) ] ≡ intro_all (suc m) (c n)
  unfolding intro_all
  all_at b e m n = ap (λ z. elim z as (λ w. Doing Step) [ false ↦ gives (stays (c n)) | true ↦ ended (c n) (do_intro (c n) None) >>= λ st. then_next (c n) st (intro_all m) ]) (sym e)

  -- the goal's type has a binder
  pub all_moves : (m : ℕ) (bank : Terms) (p : Places) (r : Placed) (b l : ℕ) → is_binder T ≡ true → Moves bank E p vs (Ok r) c None b l →
      Goes (λ n. intro_all (suc m) (c n)) (λ n. intro_all m (scene_by E (store_of bank p) r.goal (context_at (store_of bank p) r.goal) (tree_of bank r.kind) vs n)) b l
  all_moves m bank p r b l e h late tell q left y =
      does_same late tell q (λ n. step_then (c n) None (intro_all m)) (λ n. intro_all (suc m) (c n)) b left (all_at true e m) (h (λ n. intro_all m) late tell q left y)

  -- it has none
  pub all_stays : (m : ℕ) (late : Terms) (tell : ℕ → Step) (b : ℕ) → is_binder T ≡ false → step_by s (k ∷ []) ≡ tell k → Does late tell (Ok k) (λ n. intro_all (suc m) (c n)) b b
  all_stays m late tell b e i = comes_gives (λ n. intro_all (suc m) (c n)) (tell k) b (λ n. sym (all_at false e m n) ∙ ap gives i)

  -- no more binders are looked for
  pub none_more : (late : Terms) (tell : ℕ → Step) (b : ℕ) → step_by s (k ∷ []) ≡ tell k → Does late tell (Ok k) (λ n. intro_all 0 (c n)) b b
  unfolding intro_all
  none_more late tell b i = comes_gives (λ n. intro_all 0 (c n)) (tell k) b (λ n. ap gives i)

  -- `intro` is refused
  pub all_refused : (m : ℕ) (bank : Terms) (p : Places) (e : PrimFault) (b l : ℕ) → is_binder T ≡ true → Moves bank E p vs (Err e) c None b l → Refuses bank e (λ n. intro_all (suc m) (c n)) b l
  all_refused m bank p e b l y h = refuses_same bank e (λ n. step_then (c n) None (intro_all m)) (λ n. intro_all (suc m) (c n)) b l (all_at true y m) (h (λ n. intro_all m))

-- the same by an equal environment, where the number is given
module _ (E E0 : Environment) (same : E ≡ E0) (s : Store) (k : ℕ) (g : Context) (T : Tree) (vs : Givens) (m m0 : ℕ) (next : suc m ≡ m0) where
  pub moves_by : (bank : Terms) (p : Places) (r : Placed) (b l : ℕ) → is_binder T ≡ true → Moves bank E p vs (Ok r) (λ n. scene_by E s k g T vs n) None b l →
      Goes (λ n. intro_all m0 (scene_by E0 s k g T vs n)) (λ n. intro_all m (scene_by E0 (store_of bank p) r.goal (context_at (store_of bank p) r.goal) (tree_of bank r.kind) vs n)) b l
  moves_by bank p r b l e h =
      along (λ z. Goes (λ n. intro_all z (scene_by E0 s k g T vs n)) (λ n. intro_all m (scene_by E0 (store_of bank p) r.goal (context_at (store_of bank p) r.goal) (tree_of bank r.kind) vs n)) b l) next
      (along (λ z. Goes (λ n. intro_all (suc m) (scene_by z s k g T vs n)) (λ n. intro_all m (scene_by z (store_of bank p) r.goal (context_at (store_of bank p) r.goal) (tree_of bank r.kind) vs n)) b l) same
      (all_moves E s k g T vs m bank p r b l e h))

  pub stays_by : (late : Terms) (tell : ℕ → Step) (b : ℕ) → is_binder T ≡ false → step_by s (k ∷ []) ≡ tell k → Does late tell (Ok k) (λ n. intro_all m0 (scene_by E0 s k g T vs n)) b b
  stays_by late tell b e i =
      along (λ z. Does late tell (Ok k) (λ n. intro_all z (scene_by E0 s k g T vs n)) b b) next (all_stays E0 s k g T vs m late tell b e i)

  pub refused_by : (bank : Terms) (p : Places) (e : PrimFault) (b l : ℕ) → is_binder T ≡ true → Moves bank E p vs (Err e) (λ n. scene_by E s k g T vs n) None b l → Refuses bank e (λ n. intro_all m0 (scene_by E0 s k g T vs n)) b l
  refused_by bank p e b l y h =
      along (λ z. Refuses bank e (λ n. intro_all z (scene_by E0 s k g T vs n)) b l) next
      (along (λ z. Refuses bank e (λ n. intro_all (suc m) (scene_by z s k g T vs n)) b l) same (all_refused E s k g T vs m bank p e b l y h))

-- ---- with names

-- one name more
module _ (E E0 : Environment) (same : E ≡ E0) (s : Store) (k : ℕ) (g : Context) (T : Tree) (vs : Givens) (x : Name) (xs ys : List Name) (next : x ∷ xs ≡ ys) where
  each_is : (n : ℕ) → step_then (scene_by E s k g T vs n) (Some x) (intro_each xs) ≡ intro_each (x ∷ xs) (scene_by E s k g T vs n)
  unfolding intro_each
  each_is n = refl

  pub each_moves : (bank : Terms) (p : Places) (r : Placed) (b l : ℕ) → Moves bank E p vs (Ok r) (λ n. scene_by E s k g T vs n) (Some x) b l →
      Goes (λ n. intro_each ys (scene_by E0 s k g T vs n)) (λ n. intro_each xs (scene_by E0 (store_of bank p) r.goal (context_at (store_of bank p) r.goal) (tree_of bank r.kind) vs n)) b l
  each_moves bank p r b l h =
      along (λ z. Goes (λ n. intro_each z (scene_by E0 s k g T vs n)) (λ n. intro_each xs (scene_by E0 (store_of bank p) r.goal (context_at (store_of bank p) r.goal) (tree_of bank r.kind) vs n)) b l) next
      (along (λ z. Goes (λ n. intro_each (x ∷ xs) (scene_by z s k g T vs n)) (λ n. intro_each xs (scene_by z (store_of bank p) r.goal (context_at (store_of bank p) r.goal) (tree_of bank r.kind) vs n)) b l) same
      (λ late tell q left y. does_same late tell q (λ n. step_then (scene_by E s k g T vs n) (Some x) (intro_each xs)) (λ n. intro_each (x ∷ xs) (scene_by E s k g T vs n)) b left each_is (h (λ n. intro_each xs) late tell q left y)))

  pub each_refused : (bank : Terms) (p : Places) (e : PrimFault) (b l : ℕ) → Moves bank E p vs (Err e) (λ n. scene_by E s k g T vs n) (Some x) b l → Refuses bank e (λ n. intro_each ys (scene_by E0 s k g T vs n)) b l
  each_refused bank p e b l h =
      along (λ z. Refuses bank e (λ n. intro_each z (scene_by E0 s k g T vs n)) b l) next
      (along (λ z. Refuses bank e (λ n. intro_each (x ∷ xs) (scene_by z s k g T vs n)) b l) same
      (refuses_same bank e (λ n. step_then (scene_by E s k g T vs n) (Some x) (intro_each xs)) (λ n. intro_each (x ∷ xs) (scene_by E s k g T vs n)) b l each_is (h (λ n. intro_each xs))))

-- no name is left
pub each_ends : (E : Environment) (s : Store) (k : ℕ) (g : Context) (T : Tree) (vs : Givens) (xs : List Name) → xs ≡ [] → (late : Terms) (tell : ℕ → Step) (b : ℕ) → step_by s (k ∷ []) ≡ tell k →
    Does late tell (Ok k) (λ n. intro_each xs (scene_by E s k g T vs n)) b b
unfolding intro_each
each_ends E s k g T vs xs e late tell b i =
    along (λ z. Does late tell (Ok k) (λ n. intro_each z (scene_by E s k g T vs n)) b b) (sym e) (comes_gives (λ n. intro_each [] (scene_by E s k g T vs n)) (tell k) b (λ n. ap gives i))

-- the names that are left
module _ (bank mid : Terms) (grows : Grows bank mid) (names : List NameId) (has : AllByRecursion (HasName bank) names) (i : ℕ) (d : NameId) where
  pub name_has : i < length names → HasName bank (get_or names i d)
  name_has l = each_at (HasName bank) names i (get_or names i d) has (slice_get-get_or names i d l)

  pub names_more : i < length names → text_of mid (get_or names i d) ∷ map (text_of bank) (drop (i + 1) names) ≡ map (text_of bank) (drop i names)
  names_more l =
      ap (λ z. z ∷ map (text_of bank) (drop (i + 1) names)) (grows.text (get_or names i d) (name_has l)) ∙ sym (ap (map (text_of bank)) (drop_more names i d l))

  pub names_end : length names ≤ i → map (text_of bank) (drop i names) ≡ []
  names_end l = ap (map (text_of bank)) (drop_all i names l)
