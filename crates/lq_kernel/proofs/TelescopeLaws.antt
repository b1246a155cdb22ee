-- Looks at and sorts of contexts and constructors, one after the other.
use Rattle.std.proofs.Common.{◌≡◌, ◌∙◌, ◌+◌, ◌<◌, ◌≤◌, ℕ, zero, suc, sym, ap, subst, List, [], ◌∷◌, ◌++◌, map, take, drop, length, get_or, Result, Ok, Err}
use Rattle.std.proofs.lemmas.List.{drop_more, drop_all, take_more}
use Rattle.std.specs.Result.{IsErrAnd}
use Rattle.lq_trees.specs.declared.Sort.{Sort as Universe}
use Rattle.lq_trees.specs.Tree.{Name, Tree, Context, Hypothesis as TreeHypothesis}
use Rattle.lq_trees.specs.Ticks.{gives, fails, ◌>>=◌, done, ComesTo}
use Rattle.lq_trees.proofs.Outcomes.{comes_gives}
use Rattle.lq_terms.specs.declared.nodes.NameId.{NameId}
use Rattle.lq_terms.specs.declared.nodes.TermId.{TermId}
use Rattle.lq_terms.specs.declared.nodes.Hypothesis.{Hypothesis}
use Rattle.lq_terms.specs.Terms.{Terms, tree_of}
use Rattle.lq_terms.specs.Contexts.{hypothesis_of, context_of}
use Rattle.lq_calculus.specs.Declarations.{Env as Environment}
use Rattle.lq_calculus.specs.Checking.{Kernel, unbound, known, known_context, sort_of, sorts_of}
use Rattle.lq_env.specs.Families.{constructors_of}
use Rattle.lq_kernel.specs.declared.faults.KernelFault.{KernelFault}
use Rattle.lq_kernel.specs.Answers.{Refuses, Checks}
use Rattle.lq_kernel.specs.Closed.{IsContext}
use Rattle.lq_kernel.specs.Steps.{Knows, KnowsAll}
use Rattle.lq_kernel.proofs.Goes.{Goes, goes_then, goes_on, refuses_goes, refuses_first, err_out}
use Rattle.lq_kernel.proofs.Grown.{context_of-push}
use Rattle.lq_kernel.proofs.CallLaws.{known_next, known_longer, knows_one, knows_all_by}
use Rattle.lq_kernel.proofs.LookLaws.{names_in}

-- the hypotheses before an index, and what they promise
pub before_scoped : (bank : Terms) (hs : List Hypothesis) (i : ℕ) → IsContext bank hs → IsContext bank (take i hs)
before_scoped bank hs zero p = tt
before_scoped bank [] (suc i) p = tt
before_scoped bank (h ∷ hs) (suc i) p = (p.0, before_scoped bank hs i p.1)

-- a look at one hypothesis, and at those behind it
known_step : (before hs : Context) (h : TreeHypothesis) → known before (h.kind ∷ []) ≡ gives (tt {0}) → known_context before (h ∷ hs) ≡ known_context (before ++ (h ∷ [])) hs
unfolding known_context ◌>>=◌
known_step before hs h e = ap (λ w. w >>= λ ok. known_context (before ++ (h ∷ [])) hs) e

known_halt : (before hs : Context) (h : TreeHypothesis) (x : Name) → known before (h.kind ∷ []) ≡ fails (unbound x) → known_context before (h ∷ hs) ≡ fails (unbound x)
unfolding known_context ◌>>=◌
known_halt before hs h x e = ap (λ w. w >>= λ ok. known_context (before ++ (h ∷ [])) hs) e

module _ (bank : Terms) (hs : List Hypothesis) (i : ℕ) (d : Hypothesis) (l : i < length hs) where
  parts : context_of bank (drop i hs) ≡ hypothesis_of bank (get_or hs i d) ∷ context_of bank (drop (i + 1) hs)
  parts = ap (context_of bank) (drop_more hs i d l)

  longer : context_of bank (take (i + 1) hs) ≡ context_of bank (take i hs) ++ (hypothesis_of bank (get_or hs i d) ∷ [])
  longer = ap (context_of bank) (take_more hs i d l) ∙ context_of-push bank (take i hs) (get_or hs i d)

  module _ (so_far : known_context [] (context_of bank hs) ≡ known_context (context_of bank (take i hs)) (context_of bank (drop i hs))) where
    pub known_later :
        (before : List Hypothesis) (ok : Unit {0}) → before ≡ take i hs → Knows bank (Ok ok) (names_in (context_of bank before)) (tree_of bank (get_or hs i d).kind)
        → known_context [] (context_of bank hs) ≡ known_context (context_of bank (take (i + 1) hs)) (context_of bank (drop (i + 1) hs))
    known_later before ok b k =
        so_far ∙ ap (known_context (context_of bank (take i hs))) parts
        ∙ known_step (context_of bank (take i hs)) (context_of bank (drop (i + 1) hs)) (hypothesis_of bank (get_or hs i d)) (knows_one bank (Ok ok) (context_of bank (take i hs)) (tree_of bank (get_or hs i d).kind) (subst (λ z. Knows bank (Ok ok) (names_in (context_of bank z)) (tree_of bank (get_or hs i d).kind)) b k))
        ∙ ap (λ G. known_context G (context_of bank (drop (i + 1) hs))) (sym longer)

    pub known_refused :
        (before whole : List Hypothesis) (r : Result (Unit {0}) KernelFault) (e : KernelFault) → before ≡ take i hs → hs ≡ whole → IsErrAnd r (λ y. y ≡ e) → Knows bank (Err e) (names_in (context_of bank before)) (tree_of bank (get_or hs i d).kind)
        → KnowsAll bank r (known_context [] (context_of bank whole))
    known_refused before whole r e b same j k =
        err_out (λ z. KnowsAll bank z (known_context [] (context_of bank whole))) r e j
        (subst (λ zs. KnowsAll bank (Err e) (known_context [] (context_of bank zs))) same
        (knows_all_by bank e (known (context_of bank (take i hs)) (tree_of bank (get_or hs i d).kind ∷ [])) (known_context [] (context_of bank hs))
        (λ x f. so_far ∙ ap (known_context (context_of bank (take i hs))) parts ∙ known_halt (context_of bank (take i hs)) (context_of bank (drop (i + 1) hs)) (hypothesis_of bank (get_or hs i d)) x f)
        (knows_one bank (Err e) (context_of bank (take i hs)) (tree_of bank (get_or hs i d).kind) (subst (λ z. Knows bank (Err e) (names_in (context_of bank z)) (tree_of bank (get_or hs i d).kind)) b k))))

pub known_end : (bank : Terms) (hs whole : List Hypothesis) (i : ℕ) → length hs ≤ i → hs ≡ whole → known_context [] (context_of bank hs) ≡ known_context (context_of bank (take i hs)) (context_of bank (drop i hs)) → known_context [] (context_of bank whole) ≡ gives (tt {0})
unfolding known_context
known_end bank hs whole i l same so_far = ap (λ zs. known_context [] (context_of bank zs)) (sym same) ∙ so_far ∙ ap (λ zs. known_context (context_of bank (take i hs)) (context_of bank zs)) (drop_all i hs l)

-- a look at the constructors from an index on
module _ (bank : Terms) (G : Context) (cs : List (NameId × TermId)) (i : ℕ) (d : NameId × TermId) (l : i < length cs) where
  abbrev kinds : List (NameId × TermId) → List Tree
  kinds es = map (λ c. c.1) (constructors_of bank es)

  kind_parts : kinds (drop i cs) ≡ tree_of bank (get_or cs i d).1 ∷ kinds (drop (i + 1) cs)
  kind_parts = ap kinds (drop_more cs i d l)

  pub kinds_later : (ok : Unit {0}) → Knows bank (Ok ok) (names_in G) (tree_of bank (get_or cs i d).1) → known G (kinds cs) ≡ known G (kinds (drop i cs)) → known G (kinds cs) ≡ known G (kinds (drop (i + 1) cs))
  kinds_later ok k so_far = so_far ∙ ap (known G) kind_parts ∙ known_next G (tree_of bank (get_or cs i d).1) (kinds (drop (i + 1) cs)) k

  pub kinds_refused : (whole : List (NameId × TermId)) (r : Result (Unit {0}) KernelFault) (e : KernelFault) → cs ≡ whole → IsErrAnd r (λ y. y ≡ e) → Knows bank (Err e) (names_in G) (tree_of bank (get_or cs i d).1) → known G (kinds cs) ≡ known G (kinds (drop i cs))
      → KnowsAll bank r (known G (kinds whole))
  kinds_refused whole r e same j k so_far =
      err_out (λ z. KnowsAll bank z (known G (kinds whole))) r e j
      (subst (λ zs. KnowsAll bank (Err e) (known G (kinds zs))) same
      (knows_all_by bank e (known G (tree_of bank (get_or cs i d).1 ∷ [])) (known G (kinds cs)) (λ x f. so_far ∙ ap (known G) kind_parts ∙ known_longer G (tree_of bank (get_or cs i d).1) (kinds (drop (i + 1) cs)) x f) (knows_one bank (Err e) G (tree_of bank (get_or cs i d).1) k)))

pub kinds_end : (bank : Terms) (G : Context) (cs whole : List (NameId × TermId)) (i : ℕ) → length cs ≤ i → cs ≡ whole
    → known G (map (λ c. c.1) (constructors_of bank cs)) ≡ known G (map (λ c. c.1) (constructors_of bank (drop i cs))) → known G (map (λ c. c.1) (constructors_of bank whole)) ≡ gives (tt {0})
unfolding known
kinds_end bank G cs whole i l same so_far = ap (λ es. known G (map (λ c. c.1) (constructors_of bank es))) (sym same) ∙ so_far ∙ ap (λ es. known G (map (λ c. c.1) (constructors_of bank es))) (drop_all i cs l)

-- the sorts of a context's types from an index on
module _ (E : Environment) (bank : Terms) (hs : List Hypothesis) (i : ℕ) (d : Hypothesis) (l : i < length hs) (b c : ℕ)
    (so_far : Goes (Unit {0}) (λ n. sorts_of E n [] (context_of bank hs)) b (λ n. sorts_of E n (context_of bank (take i hs)) (context_of bank (drop i hs))) c) where
  abbrev here : Context
  here = context_of bank (take i hs)

  abbrev kind : Tree
  kind = tree_of bank (get_or hs i d).kind

  abbrev rest : ℕ → Kernel (Unit {0})
  rest n = sorts_of E n (here ++ (hypothesis_of bank (get_or hs i d) ∷ [])) (context_of bank (drop (i + 1) hs))

  start : Goes (Unit {0}) (λ n. sorts_of E n [] (context_of bank hs)) b (λ n. sort_of E n here kind >>= λ s. rest n) c
  unfolding sorts_of
  start = subst (λ zs. Goes (Unit {0}) (λ n. sorts_of E n [] (context_of bank hs)) b (λ n. sorts_of E n here zs) c) (parts bank hs i d l) so_far

  pub sorts_later : (s : Universe) (left : ℕ) → ComesTo (λ n. sort_of E n here kind) c (done s left)
      → Goes (Unit {0}) (λ n. sorts_of E n [] (context_of bank hs)) b (λ n. sorts_of E n (context_of bank (take (i + 1) hs)) (context_of bank (drop (i + 1) hs))) left
  sorts_later s left h =
      subst (λ G. Goes (Unit {0}) (λ n. sorts_of E n [] (context_of bank hs)) b (λ n. sorts_of E n G (context_of bank (drop (i + 1) hs))) left) (sym (longer bank hs i d l))
      (goes_on (λ n. sorts_of E n [] (context_of bank hs)) (λ n. sort_of E n here kind >>= λ s. rest n) rest b c left start (goes_then (λ n. sort_of E n here kind) (λ s n. rest n) c s left h))

  pub sorts_refused : (new : Terms) (whole : List Hypothesis) (r : Result (Unit {0}) KernelFault) (e : KernelFault) (left : ℕ) → hs ≡ whole → IsErrAnd r (λ y. y ≡ e) → Refuses new e (λ n. sort_of E n here kind) c left
      → Checks new r (λ n. sorts_of E n [] (context_of bank whole)) b left
  sorts_refused new whole r e left same j k =
      err_out (λ z. Checks new z (λ n. sorts_of E n [] (context_of bank whole)) b left) r e j
      (subst (λ zs. Refuses new e (λ n. sorts_of E n [] (context_of bank zs)) b left) same
      (refuses_goes new e (λ n. sorts_of E n [] (context_of bank hs)) b (λ n. sort_of E n here kind >>= λ s. rest n) c left start (refuses_first new e (λ n. sort_of E n here kind) (λ s n. rest n) c left k)))

pub sorts_first : (E : Environment) (bank : Terms) (hs : List Hypothesis) (b : ℕ) → Goes (Unit {0}) (λ n. sorts_of E n [] (context_of bank hs)) b (λ n. sorts_of E n [] (context_of bank hs)) b
sorts_first E bank hs b = λ o h. h

pub sorts_end : (E : Environment) (bank : Terms) (hs whole : List Hypothesis) (i b c : ℕ) → length hs ≤ i → hs ≡ whole
    → Goes (Unit {0}) (λ n. sorts_of E n [] (context_of bank hs)) b (λ n. sorts_of E n (context_of bank (take i hs)) (context_of bank (drop i hs))) c → ComesTo (λ n. sorts_of E n [] (context_of bank whole)) b (done (tt {0}) c)
unfolding sorts_of
sorts_end E bank hs whole i b c l same so_far =
    subst (λ zs. ComesTo (λ n. sorts_of E n [] (context_of bank zs)) b (done (tt {0}) c)) same
    (so_far _ (comes_gives (λ n. sorts_of E n (context_of bank (take i hs)) (context_of bank (drop i hs))) (tt {0}) c (λ n. ap (λ zs. sorts_of E n (context_of bank (take i hs)) (context_of bank zs)) (drop_all i hs l))))
