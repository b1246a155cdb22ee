-- Constructors that are read one after the other, and what stops a family.
use Rattle.std.proofs.Common.{◌≡◌, ◌∙◌, refl, sym, ap, ap₂, subst, arith, ℕ, ◌+◌, ◌<◌, ◌≤◌, List, [], ◌∷◌, ◌++◌, length, take, drop, get_or, Option, Some, None, Result, Ok, Err}
use Rattle.std.specs.List.{AllByRecursion}
use Rattle.std.proofs.lemmas.List.{drop_more, take_more, map-append, length-map}
use Rattle.lq_trees.specs.Tree.{Name, Tree}
use Rattle.lq_trees.specs.Index.{Within}
use Rattle.lq_trees.specs.Ticks.{gives, fails, ◌>>=◌, within}
use Rattle.lq_trees.specs.declared.Fit.{Fit}
use Rattle.lq_trees.specs.Size.{size, depth, fit}
use Rattle.lq_trees.proofs.Reach.{fits_depth}
use Rattle.lq_calculus.specs.Declarations.{Env as Environment}
use Rattle.lq_calculus.specs.Checking.{declare_family}
use Rattle.lq_terms.specs.declared.nodes.NameId.{NameId}
use Rattle.lq_terms.specs.declared.nodes.TermId.{TermId}
use Rattle.lq_terms.specs.Terms.{Terms, HasName, HasTerm, IsTerm, Grows, text_of, tree_of}
use Rattle.lq_env.specs.Families.{HasConstructor, constructor_of, constructors_of}
use Rattle.lq_env.proofs.Families.{constructors_of-grown}
use Rattle.lq_env.proofs.Loops.{all_push}
use Rattle.lq_solving.specs.Stores.{Store, StoreFault as Lack, read, read_too_large, read_too_deep, size_fault, read_fitting}
use Rattle.lq_sessions.specs.Told.{of_store}
use Rattle.lq_solving.specs.Kept.{IsStore}
use Rattle.lq_evars.specs.declared.store.StoreFault.{StoreFault}
use Rattle.lq_evars.specs.Reading.{Answers}
use Rattle.lq_evars.specs.Places.{Places, store_of, HasStore}
use Rattle.lq_evars.proofs.Growing.{store_of-grown}
use Rattle.lq_goals.proofs.Seeing.{readable_grown}
use Rattle.lq_terms.specs.Contexts.{hypothesis_of}
use Rattle.lq_kernel.specs.Declaring.{IsOffered}
use Rattle.lq_kernel.proofs.Grown.{has_context}
use Rattle.lq_declaring.specs.declared.rows.Row.{Row as Found}
use Rattle.lq_declaring.specs.declared.rows.RowFault.{RowFault}
use Rattle.lq_declaring.specs.Rows.{IsRow, FindsRow, row_in}
use Rattle.lq_kernel.specs.Closed.{IsScoped}
use Rattle.lq_texts.specs.Causes.{not_a_sort}
use Rattle.lq_print.specs.declared.causes.TermCause.{TermCause}
use Rattle.lq_print.specs.declared.causes.Cause.{Cause}
use Rattle.lq_sessions.specs.Sessions.{Work}
use Rattle.lq_sessions.specs.Declaring.{Row, row_of, fitting_work, kernel_work, read_each, terms_of, family_by}
use Rattle.lq_causes.specs.declared.stops.Stop.{Stop}
use Rattle.lq_causes.specs.Stopping.{Stops}
use Rattle.lq_declaring.specs.Constants.{Declares, Passes, IsSolved}
use Rattle.lq_declaring.specs.Families.{CanReadIt, AreRead, ReadsEach, ReadsAll, family_rest, row_stop}
use Rattle.lq_env.specs.declared.environment.Declared.{Declared}
use Rattle.lq_env.specs.Environments.{IsEnv, env_of}
use Rattle.lq_env.proofs.Grown.{env_of-grown, IsEnv-grown}
use Rattle.lq_goals.specs.Seen.{IsReadable}
use Rattle.lq_declaring.proofs.RowLaws.{taken_over, left_over}
use Rattle.lq_declaring.proofs.ConstantLaws.{fits_first, passes_first, passes_as, reads_scoped, checked_left, declares_as}

-- ---- constructors in order

pub none_read : (bank : Terms) (s : Store) (rs : List (NameId × TermId)) → rs ≡ [] → AreRead bank s [] rs
none_read bank s rs e = subst (AreRead bank s []) (sym e) (record { are = refl; have = tt; within = tt })

have_grown : (old new : Terms) → Grows old new → (cs : List (NameId × TermId)) → AllByRecursion (HasConstructor old) cs → AllByRecursion (HasConstructor new) cs
have_grown old new g [] h = tt
have_grown old new g (c ∷ cs) h = ((omega (arith, h.0.0, g.names), omega (arith, h.0.1, g.nodes)), have_grown old new g cs h.1)

within_grown : (old new : Terms) → Grows old new → (cs : List (NameId × TermId)) → AllByRecursion (HasConstructor old) cs → AllByRecursion (λ c. Within 0 (tree_of old c.1)) cs →
    AllByRecursion (λ c. Within 0 (tree_of new c.1)) cs
within_grown old new g [] h w = tt
within_grown old new g (c ∷ cs) h w = (subst (Within 0) (sym (g.tree c.1 h.0.1)) w.0, within_grown old new g cs h.1 w.1)

pub read_grown : (old new : Terms) → Grows old new → (s : Store) (cs : List (Name × Tree)) (rs : List (NameId × TermId)) → AreRead old s cs rs → AreRead new s cs rs
read_grown old new g s cs rs a = record {
  are = constructors_of-grown old new g rs a.have ∙ a.are;
  have = have_grown old new g rs a.have;
  within = within_grown old new g rs a.have a.within;
}

each_read_append : (s : Store) (xs ys : List (Name × Tree)) → read_each s (xs ++ ys) ≡ read_each s xs ++ read_each s ys
each_read_append s xs ys = map-append (λ c. (c.0, read s c.1)) xs ys

-- one more constructor, behind those that are read
module _ (b0 old new : Terms) (grown : Grows b0 old) (g : Grows old new) (s : Store) (k : IsStore s) (cs : List (NameId × TermId)) (i : ℕ) (d : NameId × TermId) (l : i < length cs) where
  abbrev at : NameId × TermId
  at = get_or cs i d

  taken : constructors_of b0 (take (i + 1) cs) ≡ constructors_of b0 (take i cs) ++ constructor_of b0 at ∷ []
  taken = ap (constructors_of b0) (take_more cs i d l) ∙ map-append (constructor_of b0) (take i cs) (at ∷ [])

  pub more_read : (rs more : List (NameId × TermId)) (r : TermId) → AreRead old s (constructors_of b0 (take i cs)) rs → HasName b0 at.0 → Within 0 (tree_of b0 at.1) →
      IsTerm new r (read s (tree_of b0 at.1)) → more ≡ rs ++ (at.0, r) ∷ [] → AreRead new s (constructors_of b0 (take (i + 1) cs)) more
  more_read rs more r a n w t e =
      let h = read_grown old new g s (constructors_of b0 (take i cs)) rs a in
      subst (AreRead new s (constructors_of b0 (take (i + 1) cs))) (sym e) (record {
        are =
            map-append (constructor_of new) rs ((at.0, r) ∷ [])
            ∙ ap₂ (λ xs c. xs ++ c ∷ []) h.are (ap₂ (λ x u. (x, u)) (g.text at.0 (omega (arith, n, grown.names)) ∙ grown.text at.0 n) t.is)
            ∙ sym (each_read_append s (constructors_of b0 (take i cs)) (constructor_of b0 at ∷ []))
            ∙ ap (read_each s) (sym taken);
        have = all_push (HasConstructor new) rs (at.0, r) h.have (omega (arith, n, grown.names, g.names), t.has);
        within = all_push (λ c. Within 0 (tree_of new c.1)) rs (at.0, r) h.within (reads_scoped new s r (tree_of b0 at.1) k w t).within;
      })

  left_is : terms_of (constructors_of b0 (drop i cs)) ≡ tree_of b0 at.1 ∷ terms_of (constructors_of b0 (drop (i + 1) cs))
  left_is = ap (λ xs. terms_of (constructors_of b0 xs)) (drop_more cs i d l)

  -- the work that is left behind one that fits
  pub fit_more : (r : TermId) → Answers new (Ok r) (read_fitting s (tree_of b0 at.1)) → fitting_work s (terms_of (constructors_of b0 cs)) ≡ fitting_work s (terms_of (constructors_of b0 (drop i cs))) →
      fitting_work s (terms_of (constructors_of b0 cs)) ≡ fitting_work s (terms_of (constructors_of b0 (drop (i + 1) cs)))
  fit_more r a e = e ∙ ap (fitting_work s) left_is ∙ (fits_first new s r (tree_of b0 at.1) (terms_of (constructors_of b0 (drop (i + 1) cs))) a).1

  -- one that does not fit
  pub unfit_at : (e : StoreFault) → Answers new (Err e) (read_fitting s (tree_of b0 at.1)) → fitting_work s (terms_of (constructors_of b0 cs)) ≡ fitting_work s (terms_of (constructors_of b0 (drop i cs))) →
      Passes e s (terms_of (constructors_of b0 cs))
  unfit_at f a e =
      passes_as s f (terms_of (constructors_of b0 cs)) (tree_of b0 at.1 ∷ terms_of (constructors_of b0 (drop (i + 1) cs))) (e ∙ ap (fitting_work s) left_is)
      (passes_first new s f (tree_of b0 at.1) (terms_of (constructors_of b0 (drop (i + 1) cs))) a)

-- ---- in a bank that has grown

pub answers_grown : (b0 old new : Terms) → Grows b0 old → (s : Places) → HasStore b0 s → (t : TermId) → HasTerm b0 t → (r : Result TermId StoreFault) →
    Answers new r (read_fitting (store_of old s) (tree_of old t)) → Answers new r (read_fitting (store_of b0 s) (tree_of b0 t))
answers_grown b0 old new g s h t k r a = subst (Answers new r) (ap₂ read_fitting (store_of-grown b0 old g s h) (g.tree t k)) a

can_read_each_grown : (old new : Terms) → Grows old new → (s : Places) → HasStore old s → (cs : List (NameId × TermId)) → AllByRecursion (CanReadIt old s) cs → AllByRecursion (CanReadIt new s) cs
can_read_each_grown old new g s h [] k = tt
can_read_each_grown old new g s h (c ∷ cs) k = ((omega (arith, k.0.0, g.names), readable_grown old new g s h c.1 k.0.1), can_read_each_grown old new g s h cs k.1)

pub can_read_each : (old new : Terms) → Grows old new → (s : Places) → HasStore old s → (cs : List (NameId × TermId)) → AllByRecursion (CanReadIt old s) cs →
    AllByRecursion (CanReadIt new s) cs × (constructors_of new cs ≡ constructors_of old cs)
can_read_each old new g s h cs k = (can_read_each_grown old new g s h cs k, constructors_of-grown old new g cs (have cs k))
  where
    have : (cs : List (NameId × TermId)) → AllByRecursion (CanReadIt old s) cs → AllByRecursion (HasConstructor old) cs
    have [] k = tt
    have (c ∷ cs) k = ((k.0.0, k.0.1.has), have cs k.1)

pub each_read_of : (b0 bank : Terms) (s : Store) (cs : List (NameId × TermId)) (i : ℕ) (rs : List (NameId × TermId)) → length cs ≤ i →
    AreRead bank s (constructors_of b0 (take i cs)) rs → fitting_work s (terms_of (constructors_of b0 cs)) ≡ fitting_work s (terms_of (constructors_of b0 (drop i cs))) →
    ReadsEach bank (Ok rs) s (constructors_of b0 cs)
unfolding fitting_work
each_read_of b0 bank s cs i rs l a e = (
  subst (λ xs. AreRead bank s (constructors_of b0 xs) rs) (taken_over cs i l) a,
  e ∙ ap (λ xs. fitting_work s (terms_of (constructors_of b0 xs))) (left_over cs i l),
)

-- the arity in front of them
pub all_read_of : (b0 b1 b2 : Terms) → Grows b0 b1 → Grows b1 b2 → (s : Places) → HasStore b0 s → IsStore (store_of b0 s) → (arity r : TermId) → IsReadable b0 s arity → (cs rs : List (NameId × TermId)) →
    AllByRecursion (CanReadIt b0 s) cs → Answers b1 (Ok r) (read_fitting (store_of b0 s) (tree_of b0 arity)) → ReadsEach b2 (Ok rs) (store_of b1 s) (constructors_of b1 cs) →
    ReadsAll b2 (Ok (r, rs)) (store_of b0 s) (tree_of b0 arity) (constructors_of b0 cs) × IsScoped b2 0 r
all_read_of b0 b1 b2 g h s has k arity r readable cs rs can a each =
    let st = store_of b0 s in
    let ts = constructors_of b0 cs in
    let f = fits_first b1 st r (tree_of b0 arity) (terms_of ts) a in
    let one : IsTerm b2 r (read st (tree_of b0 arity)) = record { has = omega (arith, f.0.has, h.nodes); is = h.tree r f.0.has ∙ f.0.is } in
    let all : ReadsEach b2 (Ok rs) st ts = subst (λ z. ReadsEach b2 (Ok rs) z ts) (store_of-grown b0 b1 g s has) (subst (ReadsEach b2 (Ok rs) (store_of b1 s)) (can_read_each b0 b1 g s has cs can).1 each) in (
      (one, all.0, f.1 ∙ all.1),
      reads_scoped b2 st r (tree_of b0 arity) k readable.within one,
    )

pub all_passes : (b0 b1 b2 : Terms) → Grows b0 b1 → (s : Places) → HasStore b0 s → (arity r : TermId) (cs : List (NameId × TermId)) → AllByRecursion (CanReadIt b0 s) cs → (e : StoreFault) →
    Answers b1 (Ok r) (read_fitting (store_of b0 s) (tree_of b0 arity)) → ReadsEach b2 (Err e) (store_of b1 s) (constructors_of b1 cs) →
    Passes e (store_of b0 s) (tree_of b0 arity ∷ terms_of (constructors_of b0 cs))
all_passes b0 b1 b2 g s has arity r cs can e a each =
    let st = store_of b0 s in
    let ts = constructors_of b0 cs in
    passes_as st e (tree_of b0 arity ∷ terms_of ts) (terms_of ts) (fits_first b1 st r (tree_of b0 arity) (terms_of ts) a).1
    (subst (λ z. ReadsEach b2 (Err e) z ts) (store_of-grown b0 b1 g s has) (subst (ReadsEach b2 (Err e) (store_of b1 s)) (can_read_each b0 b1 g s has cs can).1 each))

-- ---- what stops a family

module _ (bank : Terms) (env : Environment) (x : Name) (k : ℕ) (s : Store) (A : Tree) (cs : List (Name × Tree)) (b : ℕ) (solved : IsSolved s (Ok tt)) (fit : fitting_work s (A ∷ terms_of cs) ≡ gives tt) where
  -- the row by which the work goes on
  abbrev behind_row : ℕ → Work Row → Work Environment
  behind_row n w = w >>= λ q. kernel_work (declare_family env n (family_by x q (read_each s cs)))

  pub stops_row : (t : TermId) → HasTerm bank t → row_of k (read s A) ≡ fails (not_a_sort (tree_of bank t)) → Stops bank (Stop.Refused (Cause.Term (TermCause.NotASort t))) (family_rest env x k s A cs) b b
  unfolding within ◌>>=◌
  stops_row t h e = (h, λ n l. ap (within b) (checked_left bank s (A ∷ terms_of cs) (λ m. behind_row m (row_of k (read s A))) b solved fit n) ∙ ap (λ w. within b (behind_row n w)) e)

  pub stops_no_row : (e : RowFault) (w : Work Row) → row_of k (read s A) ≡ w → FindsRow bank (Err e) w → Stops bank (row_stop e) (family_rest env x k s A cs) b b
  stops_no_row (RowFault.NotASort u) w q f = stops_row u f.0 (q ∙ f.1)
  stops_no_row RowFault.NoMemory w q f = tt

  pub family_left : (q : Row) (read_constructors : List (Name × Tree)) → row_of k (read s A) ≡ gives q → read_constructors ≡ read_each s cs →
      (n : ℕ) → family_rest env x k s A cs n ≡ kernel_work (declare_family env n (family_by x q read_constructors))
  unfolding ◌>>=◌
  family_left q rs e f n =
      checked_left bank s (A ∷ terms_of cs) (λ m. behind_row m (row_of k (read s A))) b solved fit n ∙ ap (behind_row n) e
      ∙ ap (λ z. kernel_work (declare_family env n (family_by x q z))) (sym f)

-- ---- a family as it is offered

within_trees : (bank : Terms) (cs : List (NameId × TermId)) → AllByRecursion (λ c. Within 0 (tree_of bank c.1)) cs → AllByRecursion (λ c. Within 0 c.1) (constructors_of bank cs)
within_trees bank [] w = tt
within_trees bank (c ∷ cs) w = (w.0, within_trees bank cs w.1)

pub offered : (bank : Terms) (x : NameId) (row : Found) (cs : List (NameId × TermId)) → HasName bank x → IsRow bank row → length row.parameters + length row.indices < 4294967296 →
    AllByRecursion (HasConstructor bank) cs → AllByRecursion (λ c. Within 0 (tree_of bank c.1)) cs → length cs < 4294967296 →
    IsOffered bank (record { name = x; parameters = row.parameters; indices = row.indices; sort = row.sort; constructors = cs })
offered bank x row cs n r few have within few_constructors =
    record {
      has = record { name = n; parameters = has_context bank row.parameters r.parameters; indices = has_context bank row.indices r.indices; constructors = have };
      tree = record {
        parameters = r.offered_parameters;
        indices = r.offered_indices;
        constructors = within_trees bank cs within;
        few_parameters = omega (arith, few, length-map row.parameters (hypothesis_of bank));
        few_indices = omega (arith, few, length-map row.indices (hypothesis_of bank));
        few_constructors = omega (arith, few_constructors, length-map cs (constructor_of bank));
      };
    }

-- ---- the family, in a bank that has grown

module _ (b0 b1 b2 b3 : Terms) (g : Grows b0 b1) (h : Grows b1 b2) (ds new : List (NameId × Declared)) (i : IsEnv b0 ds) (x : NameId) (named : HasName b0 x) (k : ℕ) (s : Store) (A : Tree) (cs : List (Name × Tree))
    (b : ℕ) (solved : IsSolved s (Ok tt)) (fit : fitting_work s (A ∷ terms_of cs) ≡ gives tt) where
  pub family_declared : (arity : TermId) (rs : List (NameId × TermId)) (row : Found) (r : Result (Unit {0}) Stop) (left : ℕ) → tree_of b1 arity ≡ read s A → AreRead b1 s cs rs →
      row_of k (tree_of b1 arity) ≡ gives (row_in b2 row) →
      Declares b3 r new (λ n. kernel_work (declare_family (env_of b2 ds) n (family_by (text_of b2 x) (row_in b2 row) (constructors_of b2 rs)))) b left →
      Declares b3 r new (family_rest (env_of b0 ds) (text_of b0 x) k s A cs) b left
  family_declared arity rs row r left a c e d =
      declares_as b3 r new (family_rest (env_of b0 ds) (text_of b0 x) k s A cs) (λ n. kernel_work (declare_family (env_of b2 ds) n (family_by (text_of b2 x) (row_in b2 row) (constructors_of b2 rs)))) b left
      (λ n. family_left b3 (env_of b0 ds) (text_of b0 x) k s A cs b solved fit (row_in b2 row) (constructors_of b2 rs) (ap (row_of k) (sym a) ∙ e) (constructors_of-grown b1 b2 h rs c.have ∙ c.are) n ∙ sym (same n)) d
    where
      same : (n : ℕ) → kernel_work (declare_family (env_of b2 ds) n (family_by (text_of b2 x) (row_in b2 row) (constructors_of b2 rs)))
          ≡ kernel_work (declare_family (env_of b0 ds) n (family_by (text_of b0 x) (row_in b2 row) (constructors_of b2 rs)))
      same n =
          ap₂ (λ E z. kernel_work (declare_family E n (family_by z (row_in b2 row) (constructors_of b2 rs)))) (env_of-grown b1 b2 h ds (IsEnv-grown b0 b1 g ds i) ∙ env_of-grown b0 b1 g ds i)
          (h.text x (omega (arith, named, g.names)) ∙ g.text x named)

-- a term within the limits is not deep
fitting_deep : (s : Store) (t : Tree) (ts : List Tree) → fitting_work s (t ∷ ts) ≡ gives tt → depth (read s t) ≤ 2000
unfolding fitting_work size_fault of_store
fitting_deep s t ts e = at (fit (read s t)) refl e
  where
    at : (o : Fit) → fit (read s t) ≡ o →
        elim (elim o as (λ z. Option Lack) [ Fit.Fits ↦ None | Fit.TooLarge ↦ Some read_too_large | Fit.TooDeep ↦ Some read_too_deep ]) as (λ z. Work (Unit {0})) [ Some f ↦ fails (of_store f) | None ↦ fitting_work s ts ] ≡ gives tt →
        depth (read s t) ≤ 2000
    at Fit.Fits q e = fits_depth (size (read s t)) (depth (read s t)) q
    at Fit.TooLarge q e = grind arith
    at Fit.TooDeep q e = grind arith

pub few_binders : (s : Store) (t : Tree) (ts : List Tree) (u : Tree) (n : ℕ) → fitting_work s (t ∷ ts) ≡ gives tt → u ≡ read s t → n ≤ depth u → n < 4294967296
few_binders s t ts u n f e l = omega (arith, l, ap depth e, fitting_deep s t ts f)
