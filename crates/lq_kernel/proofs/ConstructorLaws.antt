-- The checks of a family's constructors, one after the other.
use Rattle.std.proofs.Common.{◌≡◌, ◌∙◌, ◌+◌, ◌<◌, ◌≤◌, ℕ, refl, sym, ap, subst, arith, append_assoc, append-nil, List, [], ◌∷◌, ◌++◌, drop, length, get_or, Some, None, Result, Ok, Err, Bool, true, false}
use Rattle.std.proofs.lemmas.List.{drop_more, drop_all, length-append}
use Rattle.std.specs.Prelude.{IfErr}
use Rattle.std.specs.Result.{IsErrAnd}
use Rattle.lq_trees.specs.declared.Sort.{Sort as Universe}
use Rattle.lq_trees.specs.Tree.{Name, Tree, Context}
use Rattle.lq_trees.specs.Ticks.{gives, fails, cut, tick, ◌>>=◌, done, failed, within, ComesTo}
use Rattle.lq_trees.proofs.TickLaws.{bind_gives}
use Rattle.lq_trees.proofs.Outcomes.{comes_gives, comes_fails}
use Rattle.lq_terms.specs.declared.nodes.NameId.{NameId}
use Rattle.lq_terms.specs.declared.nodes.TermId.{TermId}
use Rattle.lq_terms.specs.Terms.{Terms, text_of, tree_of}
use Rattle.lq_calculus.specs.Declarations.{Env as Environment, Family as TreeFamily, all_proofs, is_small}
use Rattle.lq_calculus.specs.Typing.{first_big}
use Rattle.lq_calculus.specs.Checking.{Kernel, too_big, sort_of, domain_sorts, not_big, check_constructors}
use Rattle.lq_env.specs.Families.{constructors_of}
use Rattle.lq_kernel.specs.declared.faults.KernelFault.{KernelFault}
use Rattle.lq_kernel.specs.Answers.{Refuses}
use Rattle.lq_kernel.specs.Declaring.{constructor_work, IsFound, FindsSmall}
use Rattle.lq_kernel.proofs.Goes.{Goes, goes_then, goes_on, goes_same, refuses_goes, refuses_first, err_out}

-- one constructor
module _ (E : Environment) (g : Context) (s : Universe) (x : Name) (t : Tree) (b left : ℕ) where
  pub constructor_stops : (bank : Terms) (e : KernelFault) → Refuses bank e (λ n. sort_of E n g t) b left → Refuses bank e (λ n. constructor_work E n g s x t) b left
  unfolding constructor_work
  constructor_stops bank e r = refuses_first bank e (λ n. sort_of E n g t) (λ k n. not_big x (first_big s 1 (domain_sorts E n g t)) >>= λ ok. gives (domain_sorts E n g t)) b left r

  module _ (domains : List Universe) (reckoned : (n : ℕ) → b < n → domains ≡ domain_sorts E n g t) (k : Universe) (sort : ComesTo (λ n. sort_of E n g t) b (done k left)) where
    abbrev sizes : ℕ → Kernel (List Universe)
    sizes n = not_big x (first_big s 1 domains) >>= λ ok. gives domains

    sized : Goes (List Universe) (λ n. constructor_work E n g s x t) b sizes left
    unfolding constructor_work
    sized =
        λ o h n l. ap (λ z. within b (sort_of E n g t >>= λ j. not_big x (first_big s 1 z) >>= λ ok. gives z)) (sym (reckoned n l)) ∙ goes_then (λ n. sort_of E n g t) (λ j n. sizes n) b k left sort o h n l

    pub constructor_big : (j : ℕ) → Some j ≡ first_big s 1 domains → ComesTo (λ n. constructor_work E n g s x t) b (failed (too_big x j) left)
    unfolding not_big ◌>>=◌
    constructor_big j e = sized (failed (too_big x j) left) (comes_fails sizes (too_big x j) left (λ n. ap (λ o. not_big x o >>= λ ok. gives domains) (sym e)))

    pub constructor_ends : None ≡ first_big s 1 domains → ComesTo (λ n. constructor_work E n g s x t) b (done domains left)
    unfolding not_big ◌>>=◌
    constructor_ends e = sized (done domains left) (comes_gives sizes domains left (λ n. ap (λ o. not_big x o >>= λ ok. gives domains) (sym e)))

-- one constructor in front of others
module _ (found : List (List Universe)) (domains : List Universe) where
  third : (rest : Kernel (List (List Universe))) → (rest >>= (λ fd. gives (domains ∷ fd)) >>= (λ more. gives (found ++ more))) ≡ (rest >>= (λ more. gives ((found ++ domains ∷ []) ++ more)))
  unfolding ◌>>=◌
  third (gives fd) = ap gives (sym (append_assoc found (domains ∷ []) fd))
  third (fails f) = refl
  third cut = refl
  third (tick r) = ap tick (third r)

  second : (q : Kernel (Unit {0})) (rest : Kernel (List (List Universe)))
      → ((q >>= λ ok. rest >>= λ fd. gives (domains ∷ fd)) >>= (λ more. gives (found ++ more))) ≡ ((q >>= λ ok. gives domains) >>= (λ r. rest >>= λ more. gives ((found ++ r ∷ []) ++ more)))
  unfolding ◌>>=◌
  second (gives ok) rest = third rest
  second (fails f) rest = refl
  second cut rest = refl
  second (tick q) rest = ap tick (second q rest)

  first : (sort : Kernel Universe) (q : Kernel (Unit {0})) (rest : Kernel (List (List Universe)))
      → ((sort >>= λ s. q >>= λ ok. rest >>= λ fd. gives (domains ∷ fd)) >>= (λ more. gives (found ++ more))) ≡ ((sort >>= λ s. q >>= λ ok. gives domains) >>= (λ r. rest >>= λ more. gives ((found ++ r ∷ []) ++ more)))
  unfolding ◌>>=◌
  first (gives s) q rest = second q rest
  first (fails f) q rest = refl
  first cut q rest = refl
  first (tick r) q rest = ap tick (first r q rest)

-- the constructors from an index on, behind what was found so far
pub record SoFar (E : Environment) (f : TreeFamily) (bank : Terms) (cs : List (NameId × TermId)) (i b left : ℕ) (small : Bool) : Type 0 where
  pub found : List (List Universe)
  pub number : length found ≡ i
  pub is : small ≡ is_small found
  pub goes : Goes (List (List Universe)) (λ n. check_constructors E n f (constructors_of bank cs)) b (λ n. check_constructors E n f (constructors_of bank (drop i cs)) >>= λ more. gives (found ++ more)) left

pub so_far_first : (E : Environment) (f : TreeFamily) (bank : Terms) (cs : List (NameId × TermId)) (b : ℕ) → SoFar E f bank cs 0 b b true
unfolding is_small
so_far_first E f bank cs b = record {
  found = [];
  number = refl;
  is = refl;
  goes = goes_same (λ n. check_constructors E n f (constructors_of bank cs)) (λ n. check_constructors E n f (constructors_of bank cs) >>= λ more. gives more) b (λ n. sym (bind_gives (check_constructors E n f (constructors_of bank cs))));
}

module _ (E : Environment) (f : TreeFamily) (bank : Terms) (cs : List (NameId × TermId)) (i b left : ℕ) (small : Bool) (d : NameId × TermId) (l : i < length cs) (so_far : SoFar E f bank cs i b left small) where
  abbrev work : ℕ → Kernel (List Universe)
  work n = constructor_work E n f.parameters f.sort (text_of bank (get_or cs i d).0) (tree_of bank (get_or cs i d).1)

  abbrev later : List Universe → ℕ → Kernel (List (List Universe))
  later domains n = check_constructors E n f (constructors_of bank (drop (i + 1) cs)) >>= λ more. gives ((so_far.found ++ domains ∷ []) ++ more)

  next : (n : ℕ) → (check_constructors E n f (constructors_of bank (drop i cs)) >>= λ more. gives (so_far.found ++ more)) ≡ (work n >>= λ domains. later domains n)
  unfolding check_constructors constructor_work
  next n =
      ap (λ es. check_constructors E n f (constructors_of bank es) >>= λ more. gives (so_far.found ++ more)) (drop_more cs i d l)
      ∙ first so_far.found (domain_sorts E n f.parameters (tree_of bank (get_or cs i d).1)) (sort_of E n f.parameters (tree_of bank (get_or cs i d).1))
      (not_big (text_of bank (get_or cs i d).0) (first_big f.sort 1 (domain_sorts E n f.parameters (tree_of bank (get_or cs i d).1)))) (check_constructors E n f (constructors_of bank (drop (i + 1) cs)))

  start : Goes (List (List Universe)) (λ n. check_constructors E n f (constructors_of bank cs)) b (λ n. work n >>= λ domains. later domains n) left
  start =
      goes_on (λ n. check_constructors E n f (constructors_of bank cs)) (λ n. check_constructors E n f (constructors_of bank (drop i cs)) >>= λ more. gives (so_far.found ++ more)) (λ n. work n >>= λ domains. later domains n) b left left so_far.goes
      (goes_same (λ n. check_constructors E n f (constructors_of bank (drop i cs)) >>= λ more. gives (so_far.found ++ more)) (λ n. work n >>= λ domains. later domains n) left next)

  pub constructors_refused : (new : Terms) (r : Result Bool KernelFault) (e : KernelFault) (c : ℕ) → IsErrAnd r (λ y. y ≡ e) → Refuses new e work left c → FindsSmall new r (λ n. check_constructors E n f (constructors_of bank cs)) b c
  constructors_refused new r e c j k =
      err_out (λ z. FindsSmall new z (λ n. check_constructors E n f (constructors_of bank cs)) b c) r e j
      (refuses_goes new e (λ n. check_constructors E n f (constructors_of bank cs)) b (λ n. work n >>= λ domains. later domains n) left c start (refuses_first new e work later left c k))

  pub constructors_later : (domains : List Universe) (c : ℕ) (smaller : Bool) → ComesTo work left (done domains c) → ((found : List (List Universe)) → length found ≡ i → smaller ≡ is_small (found ++ domains ∷ [])) → SoFar E f bank cs (i + 1) b c smaller
  constructors_later domains c smaller h k = record {
    found = so_far.found ++ domains ∷ [];
    number = length-append so_far.found (domains ∷ []) ∙ ap (λ m. m + 1) so_far.number;
    is = k so_far.found so_far.number;
    goes = goes_on (λ n. check_constructors E n f (constructors_of bank cs)) (λ n. work n >>= λ domains. later domains n) (later domains) b left c start (goes_then work later left domains c h);
  }

pub constructors_end : (E : Environment) (f : TreeFamily) (bank : Terms) (cs : List (NameId × TermId)) (i b left : ℕ) (small : Bool) → length cs ≤ i → SoFar E f bank cs i b left small
    → IsFound small (λ n. check_constructors E n f (constructors_of bank cs)) b left
unfolding check_constructors ◌>>=◌
constructors_end E f bank cs i b left small l so_far = record {
  found = so_far.found;
  comes = so_far.goes (done so_far.found left)
      (comes_gives (λ n. check_constructors E n f (constructors_of bank (drop i cs)) >>= λ more. gives (so_far.found ++ more)) so_far.found left
      (λ n. ap (λ es. check_constructors E n f (constructors_of bank es) >>= λ more. gives (so_far.found ++ more)) (drop_all i cs l) ∙ ap gives (append-nil so_far.found)));
  is = so_far.is;
}

-- the smallness with one more constructor
pub small_first : (domains : List Universe) (found : List (List Universe)) → length found ≡ 0 → all_proofs domains ≡ is_small (found ++ domains ∷ [])
unfolding is_small
small_first domains [] e = refl
small_first domains (r ∷ rs) e = absurd (omega (arith, e))

pub small_later : (domains : List Universe) (found : List (List Universe)) → 0 < length found → false ≡ is_small (found ++ domains ∷ [])
unfolding is_small
small_later domains [] l = absurd (omega (arith, l))
small_later domains (r ∷ []) l = refl
small_later domains (r ∷ q ∷ rs) l = refl

-- what is returned where a call was refused
pub refused_by : {A : Type 0} (P : KernelFault → Type 0) (r : Result A KernelFault) (e : KernelFault) → IsErrAnd r (λ y. y ≡ e) → P e → IfErr r P
refused_by P (Ok a) e h p = tt
refused_by P (Err y) e h p = subst P (sym h) p

-- of the same constructors
pub found_whole : (new : Terms) (r : Result Bool KernelFault) (E : Environment) (f : TreeFamily) (bank : Terms) (cs whole : List (NameId × TermId)) (b left : ℕ) → cs ≡ whole → FindsSmall new r (λ n. check_constructors E n f (constructors_of bank cs)) b left
    → FindsSmall new r (λ n. check_constructors E n f (constructors_of bank whole)) b left
found_whole new r E f bank cs whole b left e h = subst (λ zs. FindsSmall new r (λ n. check_constructors E n f (constructors_of bank zs)) b left) e h
