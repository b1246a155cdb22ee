-- Telescopes: their sorts, and those of their domains.
use Rattle.std.proofs.Common.{◌≡◌, ◌∙◌, ◌+◌, ◌<◌, ◌≤◌, ℕ, zero, suc, refl, sym, ap, subst, arith, append_assoc, append-nil, List, [], ◌∷◌, ◌++◌, drop, length, get_or, Option, Some, None, Result, Ok, Err, true, false}
use Rattle.std.proofs.lemmas.List.{drop_more, drop_all}
use Rattle.std.specs.Prelude.{OnOk}
use Rattle.std.specs.Result.{IsErrAnd}
use Rattle.lq_trees.specs.declared.Sort.{Sort as Universe}
use Rattle.lq_trees.specs.Tree.{Name, Tree, Context}
use Rattle.lq_trees.specs.Tree.Tree.{Sort, Prod}
use Rattle.lq_trees.specs.Index.{Within}
use Rattle.lq_trees.specs.Fresh.{fresh, opened, under}
use Rattle.lq_trees.specs.Ticks.{gives, ◌>>=◌, done, ComesTo}
use Rattle.lq_trees.proofs.TickLaws.{left_of, within_falls}
use Rattle.lq_trees.proofs.Outcomes.{comes_gives}
use Rattle.lq_terms.specs.declared.nodes.TermId.{TermId}
use Rattle.lq_terms.specs.declared.nodes.NameId.{NameId}
use Rattle.lq_terms.specs.Terms.{Terms}
use Rattle.lq_calculus.specs.Contraction.{head_form, contract}
use Rattle.lq_calculus.specs.Declarations.{Env as Environment, all_proofs}
use Rattle.lq_calculus.specs.Typing.{product_sort, is_product, is_above, first_big}
use Rattle.lq_calculus.specs.Checking.{Kernel, fitting, as_sort, needed_form, sort_of, domain_sorts}
use Rattle.lq_inference.specs.Inference.{Open, closed, infer_by}
use Rattle.lq_calculus.proofs.ConvSound.{done_gives}
use Rattle.lq_calculus.proofs.DeclareSound.{gives_answer}
use Rattle.lq_kernel.specs.declared.faults.KernelFault.{KernelFault}
use Rattle.lq_kernel.specs.Answers.{Refuses}
use Rattle.lq_kernel.specs.Closed.{IsScoped}
use Rattle.lq_kernel.specs.Steps.{Sorts, IsSplit, sort_by, inside_of}
use Rattle.lq_kernel.proofs.Goes.{goes_then, goes_tick}
use Rattle.lq_kernel.proofs.ClosedLaws.{sorts_are}
use Rattle.lq_kernel.proofs.Cycle.{sorts_stop, infer_tick, ticked, out_of_ticks, prod_domain_stops, prod_rest_stops, prod_comes}

-- a sort is its own weak head form, at no tick
sort_form : (E : Environment) (n : ℕ) (g : Context) (s : Universe) → (needed_form E n g (Sort s) >>= as_sort) ≡ gives s
unfolding needed_form head_form contract fitting as_sort ◌>>=◌
sort_form E zero g s = refl
sort_form E (suc n) g s = refl

-- the sort of a product whose own tick is paid, by inference that is given the types of variables
module _ (o : Open) (E : Environment) (G : Context) (x : Name) (A B : Tree) (bank : Terms) (b c left : ℕ) (tick_paid : b ≡ c + 1) where
  by_domain_stops : (r : Result Universe KernelFault) (e : KernelFault) → IsErrAnd r (λ y. y ≡ e) → Refuses bank e (λ n. sort_by o E n G A) c left → Sorts bank r (λ n. sort_by o E n G (Prod x A B)) b left
  by_domain_stops r e i h = sorts_stop o E G (Prod x A B) bank b left r e i (ticked o E G (Prod x A B) bank (Err e) b c left tick_paid (prod_domain_stops o E G x A B bank c left (Err e) e refl h))

  by_rest_stops : (s : Universe) (d : ℕ) (r : Result Universe KernelFault) (e : KernelFault) → IsErrAnd r (λ y. y ≡ e) → ComesTo (λ n. sort_by o E n G A) c (done s d)
      → Refuses bank e (λ n. sort_by o E n (G ++ (record { name = fresh G x; body = None; kind = A } ∷ [])) (opened (fresh G x) B)) d left → Sorts bank r (λ n. sort_by o E n G (Prod x A B)) b left
  by_rest_stops s d r e i h k = sorts_stop o E G (Prod x A B) bank b left r e i (ticked o E G (Prod x A B) bank (Err e) b c left tick_paid (prod_rest_stops o E G x A B bank c left s d (Err e) e refl h k))

  by_ends : (s1 s2 s : Universe) (d : ℕ) → ComesTo (λ n. sort_by o E n G A) c (done s1 d) → ComesTo (λ n. sort_by o E n (G ++ (record { name = fresh G x; body = None; kind = A } ∷ [])) (opened (fresh G x) B)) d (done s2 left)
      → s ≡ product_sort s1 s2 → ComesTo (λ n. sort_by o E n G (Prod x A B)) b (done s left)
  unfolding sort_by
  by_ends s1 s2 s d h k e =
      subst (λ z. ComesTo (λ n. sort_by o E n G (Prod x A B)) b (done z left)) (sym e)
      (goes_then (λ n. infer_by o E n G (Prod x A B)) (λ K n. needed_form E n G K >>= as_sort) b (Sort (product_sort s1 s2)) left
      (goes_tick (λ n. infer_by o E n G (Prod x A B)) (inside_of o E G (Prod x A B)) b c (infer_tick o E G (Prod x A B)) tick_paid _ (prod_comes o E G x A B bank c left s1 s2 d h k)) _
      (comes_gives (λ n. needed_form E n G (Sort (product_sort s1 s2)) >>= as_sort) (product_sort s1 s2) left (λ n. sort_form E n G (product_sort s1 s2))))

-- no tick is left for a product
by_out : (o : Open) (E : Environment) (G : Context) (T : Tree) (bank : Terms) (b left : ℕ) → b ≡ 0 → left ≡ 0 → Refuses bank KernelFault.StepsOut (λ n. sort_by o E n G T) b left
by_out o E G T bank b left e f = sorts_stop o E G T bank b left (Err KernelFault.StepsOut) KernelFault.StepsOut refl (out_of_ticks o E G T b left e f)

-- the same of the kernel's
module _ (E : Environment) (G : Context) (x : Name) (A B : Tree) (bank : Terms) (b c left : ℕ) (tick_paid : b ≡ c + 1) where
  pub row_domain_stops : (r : Result Universe KernelFault) (e : KernelFault) → IsErrAnd r (λ y. y ≡ e) → Refuses bank e (λ n. sort_of E n G A) c left → Sorts bank r (λ n. sort_of E n G (Prod x A B)) b left
  row_domain_stops =
      subst (λ (S : ℕ → Context → Tree → Kernel Universe). (r : Result Universe KernelFault) (e : KernelFault) → IsErrAnd r (λ y. y ≡ e) → Refuses bank e (λ n. S n G A) c left → Sorts bank r (λ n. S n G (Prod x A B)) b left) (sorts_are E)
      (by_domain_stops closed E G x A B bank b c left tick_paid)

  pub row_rest_stops : (s : Universe) (d : ℕ) (r : Result Universe KernelFault) (e : KernelFault) → IsErrAnd r (λ y. y ≡ e) → ComesTo (λ n. sort_of E n G A) c (done s d)
      → Refuses bank e (λ n. sort_of E n (G ++ (record { name = fresh G x; body = None; kind = A } ∷ [])) (opened (fresh G x) B)) d left → Sorts bank r (λ n. sort_of E n G (Prod x A B)) b left
  row_rest_stops =
      subst (λ (S : ℕ → Context → Tree → Kernel Universe). (s : Universe) (d : ℕ) (r : Result Universe KernelFault) (e : KernelFault) → IsErrAnd r (λ y. y ≡ e) → ComesTo (λ n. S n G A) c (done s d)
      → Refuses bank e (λ n. S n (G ++ (record { name = fresh G x; body = None; kind = A } ∷ [])) (opened (fresh G x) B)) d left → Sorts bank r (λ n. S n G (Prod x A B)) b left) (sorts_are E)
      (by_rest_stops closed E G x A B bank b c left tick_paid)

  pub row_ends : (s1 s2 s : Universe) (d : ℕ) → ComesTo (λ n. sort_of E n G A) c (done s1 d) → ComesTo (λ n. sort_of E n (G ++ (record { name = fresh G x; body = None; kind = A } ∷ [])) (opened (fresh G x) B)) d (done s2 left)
      → s ≡ product_sort s1 s2 → ComesTo (λ n. sort_of E n G (Prod x A B)) b (done s left)
  row_ends =
      subst (λ (S : ℕ → Context → Tree → Kernel Universe). (s1 s2 s : Universe) (d : ℕ) → ComesTo (λ n. S n G A) c (done s1 d) → ComesTo (λ n. S n (G ++ (record { name = fresh G x; body = None; kind = A } ∷ [])) (opened (fresh G x) B)) d (done s2 left)
      → s ≡ product_sort s1 s2 → ComesTo (λ n. S n G (Prod x A B)) b (done s left)) (sorts_are E)
      (by_ends closed E G x A B bank b c left tick_paid)

pub row_out : (E : Environment) (G : Context) (T : Tree) (bank : Terms) (b left : ℕ) → b ≡ 0 → left ≡ 0 → Refuses bank KernelFault.StepsOut (λ n. sort_of E n G T) b left
row_out E G T bank b left e f = subst (λ (S : ℕ → Context → Tree → Kernel Universe). Refuses bank KernelFault.StepsOut (λ n. S n G T) b left) (sorts_are E) (by_out closed E G T bank b left e f)

-- the sorts of the domains
pub falls : {A : Type 0} (f : ℕ → Kernel A) (b : ℕ) (a : A) (left : ℕ) → ComesTo f b (done a left) → left ≤ b
unfolding left_of
falls f b a left h = subst (λ o. left_of o ≤ b) (h (suc b) (omega arith)) (within_falls b (f (suc b)))

module _ (E : Environment) (G : Context) (x : Name) (A B : Tree) (b c d : ℕ) (s : Universe) where
  row_one : (n : ℕ) → c < n → ComesTo (λ n. sort_of E n G A) c (done s d)
      → domain_sorts E (suc n) G (Prod x A B) ≡ s ∷ domain_sorts E n (G ++ (record { name = fresh G x; body = None; kind = A } ∷ [])) (opened (fresh G x) B)
  unfolding domain_sorts under
  row_one n l h =
      ap (λ o. elim o as (λ z. List Universe) [ None ↦ [] | Some u ↦ u ∷ domain_sorts E n (G ++ (record { name = fresh G x; body = None; kind = A } ∷ [])) (opened (fresh G x) B) ])
      (gives_answer (sort_of E n G A) s (done_gives c (sort_of E n G A) s d (h n l)))

  pub row_next : (old all : List Universe) → b ≡ c + 1 → ComesTo (λ n. sort_of E n G A) c (done s d)
      → ((n : ℕ) → d < n → all ≡ (old ++ s ∷ []) ++ domain_sorts E n (G ++ (record { name = fresh G x; body = None; kind = A } ∷ [])) (opened (fresh G x) B))
      → (n : ℕ) → b < n → all ≡ old ++ domain_sorts E n G (Prod x A B)
  row_next old all e h k zero l = absurd (omega arith)
  row_next old all e h k (suc n) l =
      k n (let m = falls (λ n. sort_of E n G A) c s d h in omega arith) ∙ append_assoc old (s ∷ []) (domain_sorts E n (G ++ (record { name = fresh G x; body = None; kind = A } ∷ [])) (opened (fresh G x) B))
      ∙ ap (λ z. old ++ z) (sym (row_one n (omega arith) h))

pub row_none : (E : Environment) (n : ℕ) (G : Context) (T : Tree) → is_product T ≡ false → domain_sorts E n G T ≡ []
unfolding domain_sorts is_product
row_none E zero G T e = refl
row_none E (suc n) G (Prod x A B) e = absurd cc
row_none E (suc n) G _ e = refl

pub row_nothing : (r : Result Universe KernelFault) (E : Environment) (G : Context) (T : Tree) (sorts : List Universe) (b : ℕ) → is_product T ≡ false → OnOk r ((n : ℕ) → b < n → sorts ≡ sorts ++ domain_sorts E n G T)
row_nothing (Ok s) E G T sorts b e = λ n l. sym (ap (λ z. sorts ++ z) (row_none E n G T e) ∙ append-nil sorts)
row_nothing (Err k) E G T sorts b e = tt

-- the first sort that is too high
module _ (s : Universe) (domains : List Universe) (i : ℕ) (a : Universe) where
  big_at : i < length domains → first_big s (i + 1) (drop i domains) ≡ elim (is_above (get_or domains i a) s) [ true ↦ Some (i + 1) | false ↦ first_big s (i + 1 + 1) (drop (i + 1) domains) ]
  unfolding first_big
  big_at l = let e : suc (i + 1) ≡ i + 1 + 1 = omega arith in ap (first_big s (i + 1)) (drop_more domains i a l) ∙ ap (λ k. elim (is_above (get_or domains i a) s) [ true ↦ Some (i + 1) | false ↦ first_big s k (drop (i + 1) domains) ]) e

  pub big_here : i < length domains → first_big s 1 domains ≡ first_big s (i + 1) (drop i domains) → is_above (get_or domains i a) s ≡ true → Some (i + 1) ≡ first_big s 1 domains
  big_here l so_far e = sym (so_far ∙ big_at l ∙ ap (λ b. elim b as (λ z. Option ℕ) [ true ↦ Some (i + 1) | false ↦ first_big s (i + 1 + 1) (drop (i + 1) domains) ]) e)

  pub big_later : i < length domains → first_big s 1 domains ≡ first_big s (i + 1) (drop i domains) → is_above (get_or domains i a) s ≡ false → first_big s 1 domains ≡ first_big s (i + 1 + 1) (drop (i + 1) domains)
  big_later l so_far e = so_far ∙ big_at l ∙ ap (λ b. elim b as (λ z. Option ℕ) [ true ↦ Some (i + 1) | false ↦ first_big s (i + 1 + 1) (drop (i + 1) domains) ]) e

pub big_nowhere : (s : Universe) (domains : List Universe) (i : ℕ) → length domains ≤ i → first_big s 1 domains ≡ first_big s (i + 1) (drop i domains) → None ≡ first_big s 1 domains
unfolding first_big
big_nowhere s domains i l so_far = sym (so_far ∙ ap (first_big s (i + 1)) (drop_all i domains l))

-- whether all arguments are proofs
module _ (domains : List Universe) (i : ℕ) (a : Universe) where
  proofs_at : i < length domains → all_proofs (drop i domains) ≡ all_proofs (get_or domains i a ∷ drop (i + 1) domains)
  proofs_at l = ap all_proofs (drop_more domains i a l)

  pub proof_not : (k : ℕ) → i < length domains → all_proofs domains ≡ all_proofs (drop i domains) → get_or domains i a ≡ Universe.Level k → false ≡ all_proofs domains
  unfolding all_proofs
  proof_not k l so_far e = sym (so_far ∙ proofs_at l ∙ ap (λ z. all_proofs (z ∷ drop (i + 1) domains)) e)

  pub proof_here : i < length domains → all_proofs domains ≡ all_proofs (drop i domains) → get_or domains i a ≡ Universe.Base → all_proofs domains ≡ all_proofs (drop (i + 1) domains)
  unfolding all_proofs
  proof_here l so_far e = so_far ∙ proofs_at l ∙ ap (λ z. all_proofs (z ∷ drop (i + 1) domains)) e

pub proofs_end : (domains : List Universe) (i : ℕ) → length domains ≤ i → all_proofs domains ≡ all_proofs (drop i domains) → true ≡ all_proofs domains
unfolding all_proofs
proofs_end domains i l so_far = sym (so_far ∙ ap all_proofs (drop_all i domains l))

-- the rest of a telescope has one loose bound variable at most
pub rest_scoped : (bank : Terms) (t : TermId) (x : NameId) (kind rest : TermId) → IsScoped bank 0 t → IsSplit bank (x, kind, rest) t → IsScoped bank 1 rest
rest_scoped bank t x kind rest h domains = record { has = domains.rest; within = (subst (Within 0) domains.is h.within).1 }
