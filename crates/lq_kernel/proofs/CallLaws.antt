-- What the kernel's calls tell, by what the functions that they call tell.
use Rattle.std.proofs.Common.{◌≡◌, ◌∙◌, ℕ, refl, sym, ap, subst, List, [], ◌∷◌, Option, Some, None, Result, Ok, Err}
use Rattle.std.specs.Result.{IsErrAnd}
use Rattle.std.specs.Prelude.{IfOk}
use Rattle.lq_trees.specs.Tree.{Name, Tree, Context}
use Rattle.lq_trees.specs.Ticks.{gives, fails, ◌>>=◌, done, failed, ComesTo}
use Rattle.lq_trees.proofs.Outcomes.{comes_fails, comes_is}
use Rattle.lq_terms.specs.declared.nodes.TermId.{TermId}
use Rattle.lq_terms.specs.Terms.{Terms, text_of, tree_of}
use Rattle.lq_calculus.specs.Declarations.{Env as Environment}
use Rattle.lq_calculus.specs.Typing.{Derives}
use Rattle.lq_calculus.specs.Checking.{Kernel, unbound, infer, check, strange, known, infer_call, check_call}
use Rattle.lq_calculus.proofs.Claims.{infer_sound, check_sound}
use Rattle.lq_kernel.specs.declared.faults.KernelFault.{KernelFault}
use Rattle.lq_kernel.specs.Answers.{Refuses, Infers, Checks}
use Rattle.lq_kernel.specs.Steps.{Types, Knows, KnowsAll}
use Rattle.lq_kernel.proofs.Goes.{goes_same, types_goes, checks_goes, err_out}
use Rattle.lq_kernel.proofs.LookLaws.{names_in}

-- the look for strange names
pub known_next : (g : Context) (t : Tree) (ts : List Tree) → strange (names_in g) t ≡ None → known g (t ∷ ts) ≡ known g ts
unfolding known
known_next g t ts e = ap (λ o. elim o [ Some x ↦ fails (unbound x) | None ↦ known g ts ]) e

pub known_stops : (g : Context) (t : Tree) (ts : List Tree) (x : Name) → strange (names_in g) t ≡ Some x → known g (t ∷ ts) ≡ fails (unbound x)
unfolding known
known_stops g t ts x e = ap (λ o. elim o [ Some y ↦ fails (unbound y) | None ↦ known g ts ]) e

pub known_all : (g : Context) → known g [] ≡ gives (tt {0})
unfolding known
known_all g = refl

-- a look that ends well found nothing
pub known_gives : (g : Context) (t : Tree) (ts : List Tree) → known g (t ∷ ts) ≡ gives (tt {0}) → (strange (names_in g) t ≡ None) × (known g ts ≡ gives (tt {0}))
unfolding known
known_gives g t ts e = by (strange (names_in g) t) e
  where
    by : (o : Option Name) → ◌≡◌ {A = Kernel (Unit {0})} (elim o [ Some x ↦ fails (unbound x) | None ↦ known g ts ]) (gives (tt {0})) → (o ≡ None) × (known g ts ≡ gives (tt {0}))
    by None h = (refl, h)
    by (Some x) h = absurd cc

-- a look that fails at its first tree fails whatever comes behind it
pub known_longer : (g : Context) (t : Tree) (ts : List Tree) (x : Name) → known g (t ∷ []) ≡ fails (unbound x) → known g (t ∷ ts) ≡ fails (unbound x)
unfolding known
known_longer g t ts x e = by (strange (names_in g) t) e
  where
    by : (o : Option Name) → ◌≡◌ {A = Kernel (Unit {0})} (elim o [ Some y ↦ fails (unbound y) | None ↦ known g [] ]) (fails (unbound x)) → ◌≡◌ {A = Kernel (Unit {0})} (elim o [ Some y ↦ fails (unbound y) | None ↦ known g ts ]) (fails (unbound x))
    by None h = absurd cc
    by (Some y) h = h

-- a look at one more tree
pub knows_next : (bank : Terms) (r : Result (Unit {0}) KernelFault) (g : Context) (t : Tree) (ts : List Tree) → strange (names_in g) t ≡ None → KnowsAll bank r (known g ts) → KnowsAll bank r (known g (t ∷ ts))
knows_next bank r g t ts e h = subst (KnowsAll bank r) (sym (known_next g t ts e)) h

pub knows_one : (bank : Terms) (r : Result (Unit {0}) KernelFault) (g : Context) (t : Tree) → Knows bank r (names_in g) t → KnowsAll bank r (known g (t ∷ []))
knows_one bank (Ok ok) g t h = known_next g t [] h ∙ known_all g
knows_one bank (Err (KernelFault.Unbound x)) g t h = (h.0, known_stops g t [] (text_of bank x) h.1)
knows_one bank (Err KernelFault.NoMemory) g t h = tt
knows_one bank (Err (KernelFault.NotAProduct u)) g t h = absurd h
knows_one bank (Err (KernelFault.NotASort u)) g t h = absurd h
knows_one bank (Err (KernelFault.Mismatch u v)) g t h = absurd h
knows_one bank (Err KernelFault.NoSortAbove) g t h = absurd h
knows_one bank (Err (KernelFault.HasVariable n)) g t h = absurd h
knows_one bank (Err KernelFault.StepsOut) g t h = absurd h
knows_one bank (Err (KernelFault.TooBig x k)) g t h = absurd h
knows_one bank (Err KernelFault.TooLarge) g t h = absurd h
knows_one bank (Err KernelFault.TooDeep) g t h = absurd h
knows_one bank (Err (KernelFault.Env e)) g t h = absurd h

-- the refusal of a look is one of a longer look
pub knows_all_by : (bank : Terms) (e : KernelFault) (look whole : Kernel (Unit {0})) → ((x : Name) → look ≡ fails (unbound x) → whole ≡ fails (unbound x)) → KnowsAll bank (Err e) look → KnowsAll bank (Err e) whole
knows_all_by bank (KernelFault.Unbound x) look whole m h = (h.0, m (text_of bank x) h.1)
knows_all_by bank KernelFault.NoMemory look whole m h = tt
knows_all_by bank (KernelFault.NotAProduct t) look whole m h = absurd h
knows_all_by bank (KernelFault.NotASort t) look whole m h = absurd h
knows_all_by bank (KernelFault.Mismatch t u) look whole m h = absurd h
knows_all_by bank KernelFault.NoSortAbove look whole m h = absurd h
knows_all_by bank (KernelFault.HasVariable n) look whole m h = absurd h
knows_all_by bank KernelFault.StepsOut look whole m h = absurd h
knows_all_by bank (KernelFault.TooBig x k) look whole m h = absurd h
knows_all_by bank KernelFault.TooLarge look whole m h = absurd h
knows_all_by bank KernelFault.TooDeep look whole m h = absurd h
knows_all_by bank (KernelFault.Env k) look whole m h = absurd h

-- and one of the work that begins with it
pub knows_all_stop : {A : Type 0} (bank : Terms) (e : KernelFault) (look : Kernel (Unit {0})) (f : ℕ → Kernel A) (b : ℕ) → KnowsAll bank (Err e) look → ((x : Name) → look ≡ fails (unbound x) → ComesTo f b (failed (unbound x) b)) → Refuses bank e f b b
knows_all_stop bank (KernelFault.Unbound x) look f b h m = (h.0, m (text_of bank x) h.1)
knows_all_stop bank KernelFault.NoMemory look f b h m = tt
knows_all_stop bank (KernelFault.NotAProduct t) look f b h m = absurd h
knows_all_stop bank (KernelFault.NotASort t) look f b h m = absurd h
knows_all_stop bank (KernelFault.Mismatch t u) look f b h m = absurd h
knows_all_stop bank KernelFault.NoSortAbove look f b h m = absurd h
knows_all_stop bank (KernelFault.HasVariable n) look f b h m = absurd h
knows_all_stop bank KernelFault.StepsOut look f b h m = absurd h
knows_all_stop bank (KernelFault.TooBig x k) look f b h m = absurd h
knows_all_stop bank KernelFault.TooLarge look f b h m = absurd h
knows_all_stop bank KernelFault.TooDeep look f b h m = absurd h
knows_all_stop bank (KernelFault.Env k) look f b h m = absurd h

-- the refusal of a strange name is one of the work that begins with the look
pub knows_stop :
    {A : Type 0} (bank : Terms) (e : KernelFault) (xs : List Name) (T : Tree) (f : ℕ → Kernel A) (b : ℕ) → Knows bank (Err e) xs T → ((x : Name) → strange xs T ≡ Some x → ComesTo f b (failed (unbound x) b)) → Refuses bank e f b b
knows_stop bank (KernelFault.Unbound x) xs T f b h m = (h.0, m (text_of bank x) h.1)
knows_stop bank (KernelFault.NotAProduct t) xs T f b h m = absurd h
knows_stop bank (KernelFault.NotASort t) xs T f b h m = absurd h
knows_stop bank (KernelFault.Mismatch t u) xs T f b h m = absurd h
knows_stop bank KernelFault.NoSortAbove xs T f b h m = absurd h
knows_stop bank (KernelFault.HasVariable n) xs T f b h m = absurd h
knows_stop bank KernelFault.StepsOut xs T f b h m = absurd h
knows_stop bank (KernelFault.TooBig x k) xs T f b h m = absurd h
knows_stop bank KernelFault.TooLarge xs T f b h m = absurd h
knows_stop bank KernelFault.TooDeep xs T f b h m = absurd h
knows_stop bank (KernelFault.Env k) xs T f b h m = absurd h
knows_stop bank KernelFault.NoMemory xs T f b h m = tt

module _ (E : Environment) (G : Context) (T : Tree) where
  infer_known : strange (names_in G) T ≡ None → (n : ℕ) → infer_call E n G T ≡ infer E n G T
  unfolding infer_call ◌>>=◌
  infer_known e n = ap (λ w. w >>= λ ok. infer E n G T) (known_next G T [] e ∙ known_all G)

  infer_strange : (x : Name) → strange (names_in G) T ≡ Some x → (n : ℕ) → infer_call E n G T ≡ fails (unbound x)
  unfolding infer_call ◌>>=◌
  infer_strange x e n = ap (λ w. w >>= λ ok. infer E n G T) (known_stops G T [] x e)

  pub infers_strange : (bank : Terms) (r : Result TermId KernelFault) (e : KernelFault) (b : ℕ) → IsErrAnd r (λ y. y ≡ e) → Knows bank (Err e) (names_in G) T → Infers bank r (λ n. infer_call E n G T) b b
  infers_strange bank r e b i h =
      err_out (λ z. Infers bank z (λ n. infer_call E n G T) b b) r e i
      (knows_stop bank e (names_in G) T (λ n. infer_call E n G T) b h (λ x k. comes_fails (λ n. infer_call E n G T) (unbound x) b (infer_strange x k)))

  pub infers_type : (new : Terms) (r : Result TermId KernelFault) (b left : ℕ) → strange (names_in G) T ≡ None → Types new r (λ n. infer E n G T) b left → Infers new r (λ n. infer_call E n G T) b left
  infers_type new r b left k h = told r (types_goes new r (λ n. infer_call E n G T) b (λ n. infer E n G T) b left (goes_same (λ n. infer_call E n G T) (λ n. infer E n G T) b (infer_known k)) h)
    where
      told : (r : Result TermId KernelFault) → Types new r (λ n. infer_call E n G T) b left → Infers new r (λ n. infer_call E n G T) b left
      told (Ok t) m = (m.0.term.has, m.1)
      told (Err e) m = m

  pub infers_derives : (new : Terms) (r : Result TermId KernelFault) (b left : ℕ) → Infers new r (λ n. infer_call E n G T) b left → IfOk r (λ t. Derives E G T (tree_of new t))
  infers_derives new (Ok t) b left h = infer_sound E G T (tree_of new t) b left (comes_is (λ n. infer_call E n G T) b (done (tree_of new t) left) h.1)
  infers_derives new (Err e) b left h = tt

module _ (E : Environment) (G : Context) (T A : Tree) where
  check_known : strange (names_in G) T ≡ None → strange (names_in G) A ≡ None → (n : ℕ) → check_call E n G T A ≡ check E n G T A
  unfolding check_call ◌>>=◌
  check_known e f n = ap (λ w. w >>= λ ok. check E n G T A) (known_next G T (A ∷ []) e ∙ known_next G A [] f ∙ known_all G)

  check_first : (x : Name) → strange (names_in G) T ≡ Some x → (n : ℕ) → check_call E n G T A ≡ fails (unbound x)
  unfolding check_call ◌>>=◌
  check_first x e n = ap (λ w. w >>= λ ok. check E n G T A) (known_stops G T (A ∷ []) x e)

  check_second : (x : Name) → strange (names_in G) T ≡ None → strange (names_in G) A ≡ Some x → (n : ℕ) → check_call E n G T A ≡ fails (unbound x)
  unfolding check_call ◌>>=◌
  check_second x e f n = ap (λ w. w >>= λ ok. check E n G T A) (known_next G T (A ∷ []) e ∙ known_stops G A [] x f)

  pub checks_first : (bank : Terms) (r : Result (Unit {0}) KernelFault) (e : KernelFault) (b : ℕ) → IsErrAnd r (λ y. y ≡ e) → Knows bank (Err e) (names_in G) T → Checks bank r (λ n. check_call E n G T A) b b
  checks_first bank r e b i h =
      err_out (λ z. Checks bank z (λ n. check_call E n G T A) b b) r e i
      (knows_stop bank e (names_in G) T (λ n. check_call E n G T A) b h (λ x k. comes_fails (λ n. check_call E n G T A) (unbound x) b (check_first x k)))

  pub checks_second : (bank : Terms) (r : Result (Unit {0}) KernelFault) (e : KernelFault) (b : ℕ) → IsErrAnd r (λ y. y ≡ e) → strange (names_in G) T ≡ None → Knows bank (Err e) (names_in G) A → Checks bank r (λ n. check_call E n G T A) b b
  checks_second bank r e b i k h =
      err_out (λ z. Checks bank z (λ n. check_call E n G T A) b b) r e i
      (knows_stop bank e (names_in G) A (λ n. check_call E n G T A) b h (λ x m. comes_fails (λ n. check_call E n G T A) (unbound x) b (check_second x k m)))

  pub checks_type : (new : Terms) (r : Result (Unit {0}) KernelFault) (b left : ℕ) → strange (names_in G) T ≡ None → strange (names_in G) A ≡ None → Checks new r (λ n. check E n G T A) b left → Checks new r (λ n. check_call E n G T A) b left
  checks_type new r b left k l h = checks_goes new r (λ n. check_call E n G T A) b (λ n. check E n G T A) b left (goes_same (λ n. check_call E n G T A) (λ n. check E n G T A) b (check_known k l)) h

  pub checks_derived : (b left : ℕ) → ComesTo (λ n. check_call E n G T A) b (done (tt {0}) left) → Derives E G T A
  checks_derived b left h = check_sound E G T A b left (comes_is (λ n. check_call E n G T A) b (done (tt {0}) left) h)
