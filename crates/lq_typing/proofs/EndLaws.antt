-- The type at a node's end: the code makes a term whose reading it is.
use Rattle.std.proofs.Common.{◌≡◌, ◌∙◌, ℕ, suc, refl, sym, ap, arith, List, [], ◌∷◌, Some}
use Rattle.std.proofs.Common.{subst as along}
use Rattle.lq_trees.specs.declared.Fit.{Fit}
use Rattle.lq_trees.specs.Tree.{Name, Tree, Trees, Context}
use Rattle.lq_trees.specs.Tree.Tree.{Prod}
use Rattle.lq_trees.specs.Change.{subst, close}
use Rattle.lq_trees.specs.Size.{fit}
use Rattle.lq_trees.specs.Ticks.{done, ComesTo}
use Rattle.lq_trees.proofs.Outcomes.{comes_then}
use Rattle.lq_calculus.specs.Declarations.{Env}
use Rattle.lq_calculus.specs.Checking.{fitting}
use Rattle.lq_calculus.proofs.ConvSound.{done_gives}
use Rattle.lq_inference.specs.Inference.{infer_by}
use Rattle.lq_solving.specs.Stores.{Variable, Assigned, Store, names_in, names_at, body_at, put_value, read, read_context, read_values, fill_values, read_next}
use Rattle.lq_solving.specs.Kept.{IsOver, EachIsOver, Sound, Stands, StandsIn, IsContext, IsStore}
use Rattle.lq_solving.specs.Claims.{ArePlainDeclarations}
use Rattle.lq_solving.specs.Inference.{by_store_types, variable_kind}
use Rattle.lq_solving.proofs.ReadLaws.{filled, filled_each, fill_each, filled_over, each_filled_over, newest_closed, older_reads}
use Rattle.lq_solving.proofs.DoneLaws.{filled_done, done_reads}
use Rattle.lq_solving.proofs.Good.{IsGood, good_done}
use Rattle.lq_solving.proofs.Later.{reads_prod, good_read, good_stands}
use Rattle.lq_solving.proofs.Closing.{reads_close}
use Rattle.lq_solving.proofs.StandsLaws.{StandsUnder, prod_stands, close_stands, subst_stands}
use Rattle.lq_solving.proofs.InferKept.{infer_good}
use Rattle.lq_solving.proofs.ElabKept.{read_context_good}
use Rattle.lq_typing.specs.Typing.{Part, shorter, go_on, Leads}
use Rattle.lq_typing.specs.Kept.{kept_asked, kept_typed}
use Rattle.lq_typing.specs.Standing.{RestStands, EndsIn, Asked, Typed}
use Rattle.lq_typing.proofs.KeptLaws.{subst_read, names_read}

module _ (s : Store) (i : IsStore s) (g : Context) where
  -- what is read stands, and reads as itself
  pub read_stands : (t : Tree) → StandsIn s g t → StandsIn s g (read s t)
  read_stands t h = good_stands s i s.values (names_in g) (read s t) (good_read s i (names_in g) t h)

  pub read_twice : (t : Tree) → read s (read s t) ≡ read s t
  unfolding read
  read_twice t = done_reads s.variables s.values (read s t) (filled_done s.variables s.values i.values t)

  -- a function's type
  module _ (y : Name) (T : Tree) (last : EndsIn g y) (k : StandsIn s g T) (e : read s T ≡ T) where
    pub closed_stands : StandsUnder s (names_in (shorter g)) 1 (close y T)
    closed_stands = close_stands s i (names_in (shorter g)) y T (along (λ xs. Stands s xs T) last k)

    pub closed_reads : read s (close y T) ≡ close y T
    unfolding read
    closed_reads = reads_close s.variables s.values i.values y 0 T k.over ∙ ap (close y) e

    pub function_reads : (x : Name) (A : Tree) → read s (Prod x A (close y T)) ≡ Prod x (read s A) (close y T)
    unfolding read
    function_reads x A = reads_prod s.variables s.values x A (close y T) ∙ ap (Prod x (read s A)) closed_reads

    pub function_stands : (x : Name) (A : Tree) → StandsIn s (shorter g) A → StandsIn s (shorter g) (Prod x A (close y T))
    function_stands x A a = prod_stands s i (names_in (shorter g)) x A (close y T) a closed_stands

    -- a local definition's type
    pub definition_reads : (v : Tree) → read s (subst v (close y T)) ≡ subst (read s v) (close y T)
    definition_reads v = subst_read s i v (close y T) ∙ ap (subst (read s v)) closed_reads

    pub definition_stands : (v : Tree) → StandsIn s (shorter g) v → StandsIn s (shorter g) (subst v (close y T))
    definition_stands v h = subst_stands s i (names_in (shorter g)) v (close y T) h closed_stands

  -- an application's type
  pub argument_reads : (a R : Tree) → read s R ≡ R → read s (subst a R) ≡ subst (read s a) R
  argument_reads a R e = subst_read s i a R ∙ ap (subst (read s a)) e

  pub argument_stands : (a R : Tree) → StandsIn s g a → RestStands s g R → StandsIn s g (subst a R)
  argument_stands a R h k = subst_stands s i (names_in g) a R h (record { over = k.over; within = k.within; holds = k.holds })

-- a body at an instance, as read
pub body_reads : (vs : List Variable) (as_ : List Assigned) → Sound vs as_ → (xs : List Name) (B : Tree) (ts : Trees) → IsOver vs B → EachIsOver vs ts →
    filled vs as_ (body_at xs B ts) ≡ body_at xs (filled vs as_ B) (filled_each vs as_ ts)
unfolding fill_values read_values read_next fill_each
body_reads vs [] s xs B ts h k = refl
body_reads vs (a ∷ older) s xs B ts h k =
    ap (put_newest) (body_reads vs older s.0 xs B ts h k)
    ∙ older_reads vs a.id (filled vs older a.body) (filled vs older B) xs (filled_each vs older ts) s.1.holds (newest_closed vs a older s) (filled_over vs older s.0 B h) (each_filled_over vs older s.0 ts k)
  where
    put_newest : Tree → Tree
    put_newest t = put_value a.id (names_at vs a.id) (filled vs older a.body) t

-- the type of a variable is what its kept type, at the kept instance, reads as
pub variable_reads : (s : Store) → IsStore s → (k : ℕ) (ts : Trees) (v : Variable) → IsOver s.variables v.kind → EachIsOver s.variables ts →
    variable_kind s k (filled_each s.variables s.values ts) (Some v) ≡ fitting (read s (body_at (names_in v.context) v.kind ts))
unfolding variable_kind read
variable_reads s i k ts v h e = ap fitting (sym (body_reads s.variables s.values i.values (names_in v.context) v.kind ts h e))

-- ---- a node that asks for nothing

module _ (s : Store) (i : IsStore s) (env : Env) (plain : ArePlainDeclarations env) (ws : List Part) (g : Context) (t T : Tree) (b left : ℕ)
    (h : ComesTo (λ n. infer_by (by_store_types s) env n (read_context s g) (read s t)) b (done T left)) where
  pub kept_found : Leads (kept_asked s env ws g t) (kept_typed s env ws g T) b left
  kept_found = λ r m. comes_then (λ n. infer_by (by_store_types s) env n (read_context s g) (read s t)) (λ U n. go_on (by_store_types s) env n _ (read_context s g) U) b T left r h m

  found_good : IsContext s g → StandsIn s g t → IsGood s.variables s.values (names_in g) 0 T
  found_good c k =
      along (λ xs. IsGood s.variables s.values xs 0 T) (names_read s g)
      (infer_good env plain s i (suc b) (read_context s g) (read_context_good s i g c) (read s t) T (along (λ xs. IsGood s.variables s.values xs 0 (read s t)) (sym (names_read s g)) (good_read s i (names_in g) t k))
      (done_gives b (infer_by (by_store_types s) env (suc b) (read_context s g) (read s t)) T left (h (suc b) (omega arith))))

  pub found_typed : Asked s ws g t → fit T ≡ Fit.Fits → Typed s ws g T
  unfolding read
  found_typed k f =
      let good = found_good k.context k.term in
      record {
        context = k.context;
        kind = good_stands s i s.values (names_in g) T good;
        reads = done_reads s.variables s.values T (good_done s.variables s.values (names_in g) 0 T good);
        fits = f;
        parts = k.parts;
      }
