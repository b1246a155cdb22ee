-- Elaboration keeps what holds of a store, and what it finds stands in the context: node by node.
use Rattle.std.proofs.Common.{◌≡◌, ◌<◌, ◌+◌, ◌^◌, ℕ, suc, refl, sym, ap, arith, Bool, true, false, ◌&&◌, List, [], ◌∷◌, ◌++◌, length, length-append, Option, Some, None}
use Rattle.std.proofs.Common.{subst as along}
use Rattle.lq_trees.specs.declared.Sort.{Sort as Universe}
use Rattle.lq_trees.specs.Tree.{Name, Tree, Trees, Context, Hypothesis, none, more, value_of}
use Rattle.lq_trees.specs.Tree.Tree.{Rel, Var, Sort, Prod, Lam, Let, App, Const, Ind, Ctor, Elim, Evar}
use Rattle.lq_trees.specs.Change.{close, subst}
use Rattle.lq_trees.specs.Fresh.{is_listed, fresh, opened, under, under_let}
use Rattle.lq_trees.specs.Index.{Within}
use Rattle.lq_trees.specs.Hypotheses.{HoldsOnly, EachHoldsOnly}
use Rattle.lq_trees.specs.Ticks.{gives, fails, ◌>>=◌}
use Rattle.lq_calculus.specs.Contraction.{hypothesis}
use Rattle.lq_calculus.specs.Declarations.{Entry, lookup, constant, family, arity, constructor, eliminator}
use Rattle.lq_calculus.specs.Typing.{product_sort}
use Rattle.lq_calculus.specs.Checking.{sort_above, constant_kind, family_kind, ctor_kind, elim_kind}
use Rattle.lq_calculus.proofs.ConvSound.{Gives, gives_bind}
use Rattle.lq_ast.specs.Syntax.{Surface, Domain, Forall, Fun, LetIn, Arrow, Applied, Ident, Blank, PropSort, TypeSort, Cast, Meta, NewVar, Written, Missing}
use Rattle.lq_solving.specs.Occurs.{only_names, only_names_in}
use Rattle.lq_solving.specs.Stores.{Store, names_in, named_variable, read}
use Rattle.lq_solving.specs.Kept.{IsOver, Stands, OptionStands, IsContext, IsStore}
use Rattle.lq_solving.specs.ElabFaults.{ElabFault, Elab, elab_fitting, by_kernel, kernel_fault, type_of}
use Rattle.lq_solving.specs.Elaboration.{Given, given_term, given_name, given_other, Site, Found, found, form_of, product_form, found_sort, unified, against, entry_found, hypothesis_or, value_found, outer_found, name_found, bind, made, blank_found, named_found, as_wanted, wanted_product, domain_agrees, rest_wanted, function_found, elaborate, domain_found, elaborate_call}
use Rattle.lq_solving.specs.Claims.{ArePlainDeclarations}
use Rattle.lq_solving.proofs.FreeLaws.{and_both}
use Rattle.lq_solving.proofs.StoreLaws.{context_keeps}
use Rattle.lq_solving.proofs.FreshLaws.{fresh_new}
use Rattle.lq_solving.proofs.Later.{good_stands}
use Rattle.lq_solving.proofs.UnifyForms.{stands_more}
use Rattle.lq_solving.proofs.StandsLaws.{StandsUnder, listed_more, var_stands, prod_stands, lam_stands, let_stands, app_stands, domain_stands, rest_stands, close_stands, open_stands, subst_stands}
use Rattle.lq_solving.proofs.InferKept.{names_more, constant_good, family_good, constructor_good, eliminator_good, above_good}
use Rattle.lq_solving.proofs.ElabKept.{Grown, grown_now, grown_then, context_under, kinds_stand, by_gives, type_stands, form_stands, agreed_grown, made_grown}

-- what the site promises: plain declarations, a context over the store whose names are there, and values over the store
pub record IsSite (e : Site) (s : Store) (g : Context) : Type 0 where
  pub plain : ArePlainDeclarations e.env
  pub outer : IsContext s e.outer
  pub inside : (x : Name) → is_listed (names_in e.outer) x ≡ true → is_listed (names_in g) x ≡ true
  pub values : (x : Name) (t : Tree) → value_of e.values x ≡ Some (given_term t) → IsOver s.variables t × Within 0 t

-- what is found: a store that has grown, a term and its type that stand in the context
abbrev pub Finds : Store → Context → Found → Type 0
Finds s g f = Grown s f.store × Stands f.store (names_in g) f.term × Stands f.store (names_in g) f.kind

finds_then : (s s1 : Store) (g : Context) (f : Found) → Grown s s1 → Finds s1 g f → Finds s g f
finds_then s s1 g f k h = (grown_then s s1 f.store k h.0, h.1, h.2)

site_later : (e : Site) (s s1 : Store) (g : Context) → IsSite e s g → Grown s s1 → IsSite e s1 g
site_later e s s1 g k h = record {
  plain = k.plain;
  outer = context_keeps s s1 h.keeps [] e.outer k.outer;
  inside = k.inside;
  values = λ x t q. let v = k.values x t q in (h.over t v.0, v.1);
}

site_under : (e : Site) (s : Store) (g : Context) (h : Hypothesis) → IsSite e s g → IsSite e s (g ++ h ∷ [])
site_under e s g h k = record {
  plain = k.plain;
  outer = k.outer;
  inside = λ x l. along (λ xs. is_listed xs x ≡ true) (sym (names_more g h)) (listed_more (names_in g) (h.name ∷ []) x (k.inside x l));
  values = k.values;
}

-- how many nodes a surface has
abbrev mutual
  pub deep : Surface → ℕ
  deep (Forall x d B) = suc (deep_domain d + deep B)
  deep (Fun x d t) = suc (deep_domain d + deep t)
  deep (LetIn x d v t) = suc (deep_domain d + deep v + deep t)
  deep (Arrow A B) = suc (deep A + deep B)
  deep (Applied f a) = suc (deep f + deep a)
  deep (Ident x) = 1
  deep (Blank p) = 1
  deep PropSort = 1
  deep (TypeSort i) = 1
  deep (Cast t A) = suc (deep t + deep A)
  deep (Meta x) = 1
  deep (NewVar x p) = 1

  pub deep_domain : Domain → ℕ
  deep_domain (Written A) = deep A
  deep_domain (Missing p) = 0

-- ---- leaves

sort_stands : (s : Store) → IsStore s → (xs : List Name) (u : Universe) → Stands s xs (Sort u)
sort_stands s i xs u = good_stands s i [] xs (Sort u) tt

mutual
  unfolding only_names only_names_in

  only_holds : (xs : List Name) → (t : Tree) → only_names xs t ≡ true → HoldsOnly xs t
  only_holds xs (Rel i) e = tt
  only_holds xs (Var x) e = e
  only_holds xs (Sort u) e = tt
  only_holds xs (Prod x A B) e = let q = and_both (only_names xs A) (only_names xs B) e in (only_holds xs A q.0, only_holds xs B q.1)
  only_holds xs (Lam x A t) e = let q = and_both (only_names xs A) (only_names xs t) e in (only_holds xs A q.0, only_holds xs t q.1)
  only_holds xs (Let x v A t) e =
      let r = and_both (only_names xs v && only_names xs A) (only_names xs t) e in
      let q = and_both (only_names xs v) (only_names xs A) r.0 in
      (only_holds xs v q.0, only_holds xs A q.1, only_holds xs t r.1)
  only_holds xs (App f a) e = let q = and_both (only_names xs f) (only_names xs a) e in (only_holds xs f q.0, only_holds xs a q.1)
  only_holds xs (Const c) e = tt
  only_holds xs (Ind c) e = tt
  only_holds xs (Ctor c k) e = tt
  only_holds xs (Elim c u) e = tt
  only_holds xs (Evar n ts) e = each_only_holds xs ts e

  each_only_holds : (xs : List Name) → (ts : Trees) → only_names_in xs ts ≡ true → EachHoldsOnly xs ts
  each_only_holds xs none e = tt
  each_only_holds xs (more t ts) e = let q = and_both (only_names xs t) (only_names_in xs ts) e in (only_holds xs t q.0, each_only_holds xs ts q.1)

module _ (e : Site) (g : Context) (s : Store) (site : IsSite e s g) (i : IsStore s) (c : IsContext s g) where
  -- a hypothesis of the context or of the outer one
  hypothesis_finds : (d : Context) → IsContext s d → ((x : Name) → is_listed (names_in d) x ≡ true → is_listed (names_in g) x ≡ true) → (x : Name) (p : Elab Found) (f : Found) →
      (Gives p f → Finds s g f) → Gives (hypothesis_or s (hypothesis d x) p) f → Finds s g f
  unfolding hypothesis_or
  hypothesis_finds d k inside x p f otherwise y = at (hypothesis d x) refl y
    where
      at : (o : Option Hypothesis) → hypothesis d x ≡ o → Gives (hypothesis_or s o p) f → Finds s g f
      at None q z = otherwise z
      at (Some h) q z =
          let stands = kinds_stand s d k x h q in
          along (Finds s g) z (grown_now s i, var_stands s (names_in g) h.name (inside h.name stands.0), stands_more s (names_in d) (names_in g) inside h.kind stands.1)

  entry_finds : (x : Name) (f : Found) → Gives (entry_found e s x (lookup e.env x)) f → Finds s g f
  unfolding entry_found
  entry_finds x f y = at (lookup e.env x) refl y
    where
      leaf : (t K : Tree) → Stands s (names_in g) t → Stands s (names_in g) K → found s t K ≡ f → Finds s g f
      leaf t K a b q = along (Finds s g) q (grown_now s i, a, b)

      at : (o : Option Entry) → lookup e.env x ≡ o → Gives (entry_found e s x o) f → Finds s g f
      at None q z = absurd z
      at (Some (constant A t opaque)) q z =
          let r = gives_bind (by_kernel (constant_kind x (Some (constant A t opaque)))) _ f z in
          leaf (Const x) r.0 (good_stands s i [] (names_in g) (Const x) tt)
          (good_stands s i s.values (names_in g) r.0 (constant_good e.env site.plain s i (names_in g) x r.0 (along (λ o. Gives (constant_kind x o) r.0) (sym q) (by_gives kernel_fault (constant_kind x (Some (constant A t opaque))) r.0 r.1)))) r.2
      at (Some (family d ss)) q z =
          let r = gives_bind (by_kernel (family_kind x (Some (family d ss)))) _ f z in
          leaf (Ind x) r.0 (good_stands s i [] (names_in g) (Ind x) tt)
          (good_stands s i s.values (names_in g) r.0 (family_good e.env site.plain s i (names_in g) x r.0 (along (λ o. Gives (family_kind x o) r.0) (sym q) (by_gives kernel_fault (family_kind x (Some (family d ss))) r.0 r.1)))) r.2
      at (Some (arity A)) q z =
          let r = gives_bind (by_kernel (family_kind x (Some (arity A)))) _ f z in
          leaf (Ind x) r.0 (good_stands s i [] (names_in g) (Ind x) tt)
          (good_stands s i s.values (names_in g) r.0 (family_good e.env site.plain s i (names_in g) x r.0 (along (λ o. Gives (family_kind x o) r.0) (sym q) (by_gives kernel_fault (family_kind x (Some (arity A))) r.0 r.1)))) r.2
      at (Some (constructor d k)) q z =
          let r = gives_bind (by_kernel (ctor_kind d k (lookup e.env d))) _ f z in
          leaf (Ctor d k) r.0 (good_stands s i [] (names_in g) (Ctor d k) tt)
          (good_stands s i s.values (names_in g) r.0 (constructor_good e.env site.plain s i (names_in g) d k r.0 (by_gives kernel_fault (ctor_kind d k (lookup e.env d)) r.0 r.1))) r.2
      at (Some (eliminator d u)) q z =
          let r = gives_bind (by_kernel (elim_kind d u (lookup e.env d))) _ f z in
          leaf (Elim d u) r.0 (good_stands s i [] (names_in g) (Elim d u) tt)
          (good_stands s i s.values (names_in g) r.0 (eliminator_good e.env site.plain s i (names_in g) d u r.0 (by_gives kernel_fault (elim_kind d u (lookup e.env d)) r.0 r.1))) r.2

  value_finds : (x : Name) (v : Given) (f : Found) → value_of e.values x ≡ Some v → Gives (value_found e s x v) f → Finds s g f
  unfolding value_found
  value_finds x (given_term t) f q y = at (only_names (names_in e.outer) (read s t)) refl y
    where
      at : (o : Bool) → only_names (names_in e.outer) (read s t) ≡ o →
          Gives {F = ElabFault} (elim o as (λ z. Elab Found) [ false ↦ fails (ElabFault.unknown x) | true ↦ type_of e.env e.bound s e.outer t >>= λ A. gives (found s t A) ]) f → Finds s g f
      at false r z = absurd z
      at true r z =
          let k = site.values x t q in
          let stands : Stands s (names_in e.outer) t = record { over = k.0; within = k.1; holds = only_holds (names_in e.outer) (read s t) r } in
          let a = gives_bind (type_of e.env e.bound s e.outer t) _ f z in
          along (Finds s g) a.2 (
            grown_now s i,
            stands_more s (names_in e.outer) (names_in g) site.inside t stands,
            stands_more s (names_in e.outer) (names_in g) site.inside a.0 (type_stands e.env site.plain e.bound s i e.outer site.outer t a.0 stands a.1),
          )
  value_finds x (given_name y) f q z = hypothesis_finds e.outer site.outer site.inside y (fails (ElabFault.unknown x)) f (λ p. absurd p) z
  value_finds x given_other f q z = absurd z

  pub name_finds : (b : List (Name × Name)) (x : Name) (f : Found) → Gives (name_found e b g s x) f → Finds s g f
  unfolding name_found outer_found
  name_finds b x f y = at (value_of b x) y
    where
      outer : (o : Option Given) → value_of e.values x ≡ o → Gives (outer_found e s x o) f → Finds s g f
      outer (Some v) q z = value_finds x v f q z
      outer None q z = hypothesis_finds e.outer site.outer site.inside x (entry_found e s x (lookup e.env x)) f (λ p. entry_finds x f p) z

      at : (o : Option Name) → Gives {F = ElabFault} (elim o as (λ z. Elab Found) [ Some u ↦ hypothesis_or s (hypothesis g u) (fails (ElabFault.unknown x)) | None ↦ outer_found e s x (value_of e.values x) ]) f → Finds s g f
      at (Some u) z = hypothesis_finds g c (λ v l. l) u (fails (ElabFault.unknown x)) f (λ p. absurd p) z
      at None z = outer (value_of e.values x) refl z

-- ---- rules that nodes share

-- what was found against what is wanted
against_finds : (e : Site) (g : Context) (s : Store) (w : Option Tree) (f h : Found) → ArePlainDeclarations e.env → length g + e.bound < 10 ^ 64 → IsContext s g → OptionStands s (names_in g) w → Finds s g f →
    Gives (against e g w f) h → Finds s g h
unfolding against
against_finds e g s None f h plain few c w k y =
    let a = gives_bind (elab_fitting (read f.store f.kind)) _ h y in along (Finds s g) a.2 k
against_finds e g s (Some A) f h plain few c w k y =
    let a = gives_bind (elab_fitting (read f.store f.kind)) _ h y in
    let b = gives_bind (unified e g f.store f.kind A) _ h a.2 in
    let grown = agreed_grown e plain g f.store b.0 f.kind A few k.0.store (context_keeps s f.store k.0.keeps [] g c) k.2 (k.0.keeps (names_in g) A w) b.1 in
    along (Finds s g) b.2 (grown_then s f.store b.0 k.0 grown, grown.keeps (names_in g) f.term k.1, grown.keeps (names_in g) f.kind k.2)

-- under one more hypothesis
abbrev Under : Site → Store → Context → Hypothesis → Type 0
Under e s g h = IsSite e s (g ++ h ∷ []) × IsContext s (g ++ h ∷ [])

under_is : (e : Site) (s : Store) (g : Context) (h : Hypothesis) → IsSite e s g → IsContext s g → is_listed (names_in g) h.name ≡ false → OptionStands s (names_in g) h.body → Stands s (names_in g) h.kind → Under e s g h
under_is e s g h site c new body kind = (site_under e s g h site, context_under s g h c new body kind)

-- a term found under the hypothesis, closed
shut : (s : Store) → IsStore s → (g : Context) (h : Hypothesis) (t : Tree) → Stands s (names_in (g ++ h ∷ [])) t → StandsUnder s (names_in g) 1 (close h.name t)
shut s i g h t k = close_stands s i (names_in g) h.name t (along (λ xs. Stands s xs t) (names_more g h) k)

-- a rest, opened
unshut : (s : Store) → IsStore s → (g : Context) (h : Hypothesis) (t : Tree) → StandsUnder s (names_in g) 1 t → Stands s (names_in (g ++ h ∷ [])) (opened h.name t)
unshut s i g h t k = along (λ xs. Stands s xs (opened h.name t)) (sym (names_more g h)) (open_stands s i (names_in g) h.name t k)

-- a product that is wanted
abbrev WantedStands : Store → Context → Option (Tree × Tree) → Type 0
WantedStands s g None = Unit {0}
WantedStands s g (Some p) = (x : Name) × Stands s (names_in g) (Prod x p.0 p.1)

as_wanted_stands : (s : Store) (g : Context) (T : Tree) → Stands s (names_in g) T → WantedStands s g (as_wanted T)
unfolding as_wanted
as_wanted_stands s g (Prod x A B) h = (x, h)
as_wanted_stands s g (Rel j) h = tt
as_wanted_stands s g (Var x) h = tt
as_wanted_stands s g (Sort u) h = tt
as_wanted_stands s g (Lam x A B) h = tt
as_wanted_stands s g (Let x v A B) h = tt
as_wanted_stands s g (App f a) h = tt
as_wanted_stands s g (Const x) h = tt
as_wanted_stands s g (Ind x) h = tt
as_wanted_stands s g (Ctor x k) h = tt
as_wanted_stands s g (Elim x u) h = tt
as_wanted_stands s g (Evar k ts) h = tt

wanted_stands : (e : Site) → ArePlainDeclarations e.env → (g : Context) (s : Store) → IsStore s → IsContext s g → (w : Option Tree) (p : Option (Tree × Tree)) → OptionStands s (names_in g) w → Gives (wanted_product e g s w) p → WantedStands s g p
unfolding wanted_product
wanted_stands e plain g s i c None p w y = along (WantedStands s g) y tt
wanted_stands e plain g s i c (Some A) p w y =
    let a = gives_bind (form_of e g s A) _ p y in along (WantedStands s g) a.2 (as_wanted_stands s g a.0 (form_stands e plain g s i c A a.0 w a.1))

wanted_later : (s s1 : Store) (g : Context) (p : Option (Tree × Tree)) → Grown s s1 → WantedStands s g p → WantedStands s1 g p
wanted_later s s1 g None h w = tt
wanted_later s s1 g (Some p) h w = (w.0, h.keeps (names_in g) (Prod w.0 p.0 p.1) w.1)

rest_wanted_stands : (s : Store) → IsStore s → (g : Context) (h : Hypothesis) (p : Option (Tree × Tree)) → WantedStands s g p → OptionStands s (names_in (g ++ h ∷ [])) (rest_wanted h.name p)
unfolding rest_wanted
rest_wanted_stands s i g h None w = tt
rest_wanted_stands s i g h (Some p) w = unshut s i g h p.1 (rest_stands s i (names_in g) w.0 p.0 p.1 w.1)

domain_grown : (e : Site) (g : Context) (s : Store) (f : Found) (p : Option (Tree × Tree)) (s1 : Store) → ArePlainDeclarations e.env → length g + e.bound < 10 ^ 64 → IsContext f.store g → IsStore f.store →
    Stands f.store (names_in g) f.term → WantedStands f.store g p → Gives (domain_agrees e g f p) s1 → Grown f.store s1
unfolding domain_agrees
domain_grown e g s f None s1 plain few c i t w y = along (Grown f.store) y (grown_now f.store i)
domain_grown e g s f (Some p) s1 plain few c i t w y = agreed_grown e plain g f.store s1 f.term p.0 few i c t (domain_stands f.store i (names_in g) w.0 p.0 p.1 w.1) y

function_finds : (e : Site) (g : Context) (s : Store) (w : Option Tree) (p : Option (Tree × Tree)) (f h : Found) → ArePlainDeclarations e.env → length g + e.bound < 10 ^ 64 → IsContext s g → OptionStands s (names_in g) w → Finds s g f →
    Gives (function_found e g w p f) h → Finds s g h
unfolding function_found
function_finds e g s w None f h plain few c k r y = against_finds e g s w f h plain few c k r y
function_finds e g s w (Some p) f h plain few c k r y = against_finds e g s None f h plain few c tt r y

-- a product's parts
product_is : (T : Tree) (p : Tree × Tree) → Gives (product_form T) p → (x : Name) × (T ≡ Prod x p.0 p.1)
unfolding product_form
product_is (Prod x A B) p y = (x, ap (λ q. Prod x q.0 q.1) y)
product_is (Rel j) p y = absurd y
product_is (Var x) p y = absurd y
product_is (Sort u) p y = absurd y
product_is (Lam x A B) p y = absurd y
product_is (Let x v A B) p y = absurd y
product_is (App f a) p y = absurd y
product_is (Const x) p y = absurd y
product_is (Ind x) p y = absurd y
product_is (Ctor x k) p y = absurd y
product_is (Elim x u) p y = absurd y
product_is (Evar k ts) p y = absurd y

-- ---- the nodes

abbrev Kept : Surface → Type 0
Kept t = (e : Site) (b : List (Name × Name)) (g : Context) (s : Store) (w : Option Tree) (f : Found) → IsSite e s g → IsStore s → IsContext s g → OptionStands s (names_in g) w →
    length g + deep t + e.bound < 10 ^ 64 → Gives (elaborate e b g s t w) f → Finds s g f

longer_by : (g : Context) (h : Hypothesis) → length (g ++ h ∷ []) ≡ length g + 1
longer_by g h = length-append g (h ∷ [])

-- an abstraction without a written domain
missing_finds : (t : Surface) → Kept t → (x : Name) (j : ℕ) (e : Site) (b : List (Name × Name)) (g : Context) (s : Store) (w : Option Tree) (f : Found) → IsSite e s g → IsStore s → IsContext s g → OptionStands s (names_in g) w →
    suc (length g + deep t + e.bound) < 10 ^ 64 → (p : Option (Tree × Tree)) → WantedStands s g p →
    Gives {F = ElabFault} (elim p as (λ z. Elab Found) [
      | None ↦ fails (ElabFault.cannot_infer j)
      | Some q ↦
          elaborate e (bind x (fresh g x) b) (under g (fresh g x) q.0) s t (Some (opened (fresh g x) q.1)) >>= λ h.
          function_found e g w (Some q) (found h.store (Lam x q.0 (close (fresh g x) h.term)) (Prod x q.0 (close (fresh g x) h.kind)))
    ]) f → Finds s g f
unfolding under
missing_finds t kept x j e b g s w f site i c k few None wanted y = absurd y
missing_finds t kept x j e b g s w f site i c k few (Some q) wanted y =
    let h : Hypothesis = record { name = fresh g x; body = None; kind = q.0 } in
    let domain = domain_stands s i (names_in g) wanted.0 q.0 q.1 wanted.1 in
    let u = under_is e s g h site c (fresh_new g x (omega (arith, few))) tt domain in
    let q4 = gives_bind (elaborate e (bind x (fresh g x) b) (under g (fresh g x) q.0) s t (Some (opened (fresh g x) q.1))) _ f y in
    let d4 = kept e (bind x (fresh g x) b) (g ++ h ∷ []) s (Some (opened (fresh g x) q.1)) q4.0 u.0 i u.1 (unshut s i g h q.1 (rest_stands s i (names_in g) wanted.0 q.0 q.1 wanted.1)) (omega (arith, few, longer_by g h)) q4.1 in
    let last = d4.0.keeps (names_in g) q.0 domain in
    function_finds e g s w (Some q) (found q4.0.store (Lam x q.0 (close (fresh g x) q4.0.term)) (Prod x q.0 (close (fresh g x) q4.0.kind))) f site.plain (omega (arith, few)) c k (
      d4.0,
      lam_stands q4.0.store d4.0.store (names_in g) x q.0 (close (fresh g x) q4.0.term) last (shut q4.0.store d4.0.store g h q4.0.term d4.1),
      prod_stands q4.0.store d4.0.store (names_in g) x q.0 (close (fresh g x) q4.0.kind) last (shut q4.0.store d4.0.store g h q4.0.kind d4.2),
    ) q4.2

-- a local definition, from its value and its rest
let_finds : (e : Site) (g : Context) (s : Store) (w : Option Tree) (f : Found) (x : Name) (v : Found) (A : Tree) (r : Found) (h : Hypothesis) → h.name ≡ fresh g x → ArePlainDeclarations e.env → length g + e.bound < 10 ^ 64 → IsContext s g →
    OptionStands s (names_in g) w → Grown s v.store → Stands v.store (names_in g) v.term → Stands v.store (names_in g) A → Finds v.store (g ++ h ∷ []) r →
    Gives (against e g w (found r.store (Let x v.term A (close (fresh g x) r.term)) (subst v.term (close (fresh g x) r.kind)))) f → Finds s g f
let_finds e g s w f x v A r h name plain few c k grown term kind d y =
    let value = d.0.keeps (names_in g) v.term term in
    against_finds e g s w (found r.store (Let x v.term A (close (fresh g x) r.term)) (subst v.term (close (fresh g x) r.kind))) f plain few c k (
      grown_then s v.store r.store grown d.0,
      let_stands r.store d.0.store (names_in g) x v.term A (close (fresh g x) r.term) value (d.0.keeps (names_in g) A kind) (along (λ z. StandsUnder r.store (names_in g) 1 (close z r.term)) name (shut r.store d.0.store g h r.term d.1)),
      subst_stands r.store d.0.store (names_in g) v.term (close (fresh g x) r.kind) value (along (λ z. StandsUnder r.store (names_in g) 1 (close z r.kind)) name (shut r.store d.0.store g h r.kind d.2)),
    ) y

-- new variables
blank_finds : (g : Context) (s : Store) (j : ℕ) (w : Option Tree) (f : Found) → IsStore s → IsContext s g → OptionStands s (names_in g) w → Gives (blank_found g s j w) f → Finds s g f
unfolding blank_found
blank_finds g s j None f i c k y = absurd y
blank_finds g s j (Some A) f i c k y = made_grown g s A None f i c k (λ z e. absurd (grind (arith, e))) y

named_finds : (g : Context) (s : Store) (x : Name) (j : ℕ) (w : Option Tree) (f : Found) → IsStore s → IsContext s g → OptionStands s (names_in g) w → Gives (named_found g s x j w) f → Finds s g f
unfolding named_found
named_finds g s x j None f i c k y = absurd y
named_finds g s x j (Some A) f i c k y = at (named_variable s x) refl y
  where
    at : (o : Option ℕ) → named_variable s x ≡ o → Gives {F = ElabFault} (elim o as (λ z. Elab Found) [ Some n ↦ fails (ElabFault.name_in_use x) | None ↦ made g s A (Some x) ]) f → Finds s g f
    at (Some n) e z = absurd z
    at None e z = made_grown g s A (Some x) f i c k (λ v q. along (λ u. named_variable s u ≡ None) (ap (λ r. elim r as (λ u. Name) [ Some u ↦ u | None ↦ x ]) q) e) z

mutual
  unfolding elaborate domain_found under under_let

  pub elaborate_finds : (t : Surface) → Kept t
  elaborate_finds (Forall x d B) e b g s w f site i c k few y =
      let q1 = gives_bind (domain_found e b g s d) _ f y in
      let d1 = domain_finds d e b g s q1.0 site i c (omega (arith, few)) q1.1 in
      let q2 = gives_bind (found_sort e g q1.0) _ f q1.2 in
      let h : Hypothesis = record { name = fresh g x; body = None; kind = q1.0.term } in
      let site1 = site_later e s q1.0.store g site d1.0 in
      let c1 = context_keeps s q1.0.store d1.0.keeps [] g c in
      let u = under_is e q1.0.store g h site1 c1 (fresh_new g x (omega (arith, few))) tt d1.1 in
      let q3 = gives_bind (elaborate e (bind x (fresh g x) b) (under g (fresh g x) q1.0.term) q1.0.store B None) _ f q2.2 in
      let d3 = elaborate_finds B e (bind x (fresh g x) b) (g ++ h ∷ []) q1.0.store None q3.0 u.0 d1.0.store u.1 tt (omega (arith, few, longer_by g h)) q3.1 in
      let q4 = gives_bind (found_sort e (under g (fresh g x) q1.0.term) q3.0) _ f q3.2 in
      let g1 = grown_then s q1.0.store q3.0.store d1.0 d3.0 in
      against_finds e g s w (found q3.0.store (Prod x q1.0.term (close (fresh g x) q3.0.term)) (Sort (product_sort q2.0 q4.0))) f site.plain (omega (arith, few)) c k (
        g1,
        prod_stands q3.0.store d3.0.store (names_in g) x q1.0.term (close (fresh g x) q3.0.term) (d3.0.keeps (names_in g) q1.0.term d1.1) (shut q3.0.store d3.0.store g h q3.0.term d3.1),
        sort_stands q3.0.store d3.0.store (names_in g) (product_sort q2.0 q4.0),
      ) q4.2
  elaborate_finds (Arrow A B) e b g s w f site i c k few y =
      let q1 = gives_bind (elaborate e b g s A None) _ f y in
      let d1 = elaborate_finds A e b g s None q1.0 site i c tt (omega (arith, few)) q1.1 in
      let q2 = gives_bind (found_sort e g q1.0) _ f q1.2 in
      let h : Hypothesis = record { name = fresh g []; body = None; kind = q1.0.term } in
      let site1 = site_later e s q1.0.store g site d1.0 in
      let c1 = context_keeps s q1.0.store d1.0.keeps [] g c in
      let u = under_is e q1.0.store g h site1 c1 (fresh_new g [] (omega (arith, few))) tt d1.1 in
      let q3 = gives_bind (elaborate e b (under g (fresh g []) q1.0.term) q1.0.store B None) _ f q2.2 in
      let d3 = elaborate_finds B e b (g ++ h ∷ []) q1.0.store None q3.0 u.0 d1.0.store u.1 tt (omega (arith, few, longer_by g h)) q3.1 in
      let q4 = gives_bind (found_sort e (under g (fresh g []) q1.0.term) q3.0) _ f q3.2 in
      let g1 = grown_then s q1.0.store q3.0.store d1.0 d3.0 in
      against_finds e g s w (found q3.0.store (Prod [] q1.0.term (close (fresh g []) q3.0.term)) (Sort (product_sort q2.0 q4.0))) f site.plain (omega (arith, few)) c k (
        g1,
        prod_stands q3.0.store d3.0.store (names_in g) [] q1.0.term (close (fresh g []) q3.0.term) (d3.0.keeps (names_in g) q1.0.term d1.1) (shut q3.0.store d3.0.store g h q3.0.term d3.1),
        sort_stands q3.0.store d3.0.store (names_in g) (product_sort q2.0 q4.0),
      ) q4.2
  elaborate_finds (Fun x (Written A) t) e b g s w f site i c k few y =
      let p = gives_bind (wanted_product e g s w) _ f y in
      let wanted = wanted_stands e site.plain g s i c w p.0 k p.1 in
      let q1 = gives_bind (elaborate e b g s A None) _ f p.2 in
      let d1 = elaborate_finds A e b g s None q1.0 site i c tt (omega (arith, few)) q1.1 in
      let q2 = gives_bind (found_sort e g q1.0) _ f q1.2 in
      let c1 = context_keeps s q1.0.store d1.0.keeps [] g c in
      let q3 = gives_bind (domain_agrees e g q1.0 p.0) _ f q2.2 in
      let g3 = domain_grown e g s q1.0 p.0 q3.0 site.plain (omega (arith, few)) c1 d1.0.store d1.1 (wanted_later s q1.0.store g p.0 d1.0 wanted) q3.1 in
      let g2 = grown_then s q1.0.store q3.0 d1.0 g3 in
      let h : Hypothesis = record { name = fresh g x; body = None; kind = q1.0.term } in
      let domain = g3.keeps (names_in g) q1.0.term d1.1 in
      let u = under_is e q3.0 g h (site_later e s q3.0 g site g2) (context_keeps s q3.0 g2.keeps [] g c) (fresh_new g x (omega (arith, few))) tt domain in
      let q4 = gives_bind (elaborate e (bind x (fresh g x) b) (under g (fresh g x) q1.0.term) q3.0 t (rest_wanted (fresh g x) p.0)) _ f q3.2 in
      let d4 = elaborate_finds t e (bind x (fresh g x) b) (g ++ h ∷ []) q3.0 (rest_wanted (fresh g x) p.0) q4.0 u.0 g2.store u.1
      (rest_wanted_stands q3.0 g2.store g h p.0 (wanted_later s q3.0 g p.0 g2 wanted)) (omega (arith, few, longer_by g h)) q4.1 in
      let last = d4.0.keeps (names_in g) q1.0.term domain in
      function_finds e g s w p.0 (found q4.0.store (Lam x q1.0.term (close (fresh g x) q4.0.term)) (Prod x q1.0.term (close (fresh g x) q4.0.kind))) f site.plain (omega (arith, few)) c k (
        grown_then s q3.0 q4.0.store g2 d4.0,
        lam_stands q4.0.store d4.0.store (names_in g) x q1.0.term (close (fresh g x) q4.0.term) last (shut q4.0.store d4.0.store g h q4.0.term d4.1),
        prod_stands q4.0.store d4.0.store (names_in g) x q1.0.term (close (fresh g x) q4.0.kind) last (shut q4.0.store d4.0.store g h q4.0.kind d4.2),
      ) q4.2
  elaborate_finds (Fun x (Missing j) t) e b g s w f site i c k few y =
      let p = gives_bind (wanted_product e g s w) _ f y in
      missing_finds t (elaborate_finds t) x j e b g s w f site i c k (omega (arith, few)) p.0 (wanted_stands e site.plain g s i c w p.0 k p.1) p.2
  elaborate_finds (LetIn x (Written A) v t) e b g s w f site i c k few y =
      let q1 = gives_bind (elaborate e b g s A None) _ f y in
      let d1 = elaborate_finds A e b g s None q1.0 site i c tt (omega (arith, few)) q1.1 in
      let q2 = gives_bind (found_sort e g q1.0) _ f q1.2 in
      let q3 = gives_bind (elaborate e b g q1.0.store v (Some q1.0.term)) _ f q2.2 in
      let d3 = elaborate_finds v e b g q1.0.store (Some q1.0.term) q3.0 (site_later e s q1.0.store g site d1.0) d1.0.store (context_keeps s q1.0.store d1.0.keeps [] g c) d1.1 (omega (arith, few)) q3.1 in
      let g3 = grown_then s q1.0.store q3.0.store d1.0 d3.0 in
      let domain = d3.0.keeps (names_in g) q1.0.term d1.1 in
      let h : Hypothesis = record { name = fresh g x; body = Some q3.0.term; kind = q1.0.term } in
      let u = under_is e q3.0.store g h (site_later e s q3.0.store g site g3) (context_keeps s q3.0.store g3.keeps [] g c) (fresh_new g x (omega (arith, few))) d3.1 domain in
      let q4 = gives_bind (elaborate e (bind x (fresh g x) b) (under_let g (fresh g x) q3.0.term q1.0.term) q3.0.store t None) _ f q3.2 in
      let d4 = elaborate_finds t e (bind x (fresh g x) b) (g ++ h ∷ []) q3.0.store None q4.0 u.0 g3.store u.1 tt (omega (arith, few, longer_by g h)) q4.1 in
      let_finds e g s w f x q3.0 q1.0.term q4.0 h refl site.plain (omega (arith, few)) c k g3 d3.1 domain d4 q4.2
  elaborate_finds (LetIn x (Missing j) v t) e b g s w f site i c k few y =
      let q3 = gives_bind (elaborate e b g s v None) _ f y in
      let d3 = elaborate_finds v e b g s None q3.0 site i c tt (omega (arith, few)) q3.1 in
      let h : Hypothesis = record { name = fresh g x; body = Some q3.0.term; kind = q3.0.kind } in
      let u = under_is e q3.0.store g h (site_later e s q3.0.store g site d3.0) (context_keeps s q3.0.store d3.0.keeps [] g c) (fresh_new g x (omega (arith, few))) d3.1 d3.2 in
      let q4 = gives_bind (elaborate e (bind x (fresh g x) b) (under_let g (fresh g x) q3.0.term q3.0.kind) q3.0.store t None) _ f q3.2 in
      let d4 = elaborate_finds t e (bind x (fresh g x) b) (g ++ h ∷ []) q3.0.store None q4.0 u.0 d3.0.store u.1 tt (omega (arith, few, longer_by g h)) q4.1 in
      let_finds e g s w f x q3.0 q3.0.kind q4.0 h refl site.plain (omega (arith, few)) c k d3.0 d3.1 d3.2 d4 q4.2
  elaborate_finds (Applied t a) e b g s w f site i c k few y =
      let q1 = gives_bind (elaborate e b g s t None) _ f y in
      let d1 = elaborate_finds t e b g s None q1.0 site i c tt (omega (arith, few)) q1.1 in
      let c1 = context_keeps s q1.0.store d1.0.keeps [] g c in
      let q2 = gives_bind (form_of e g q1.0.store q1.0.kind >>= product_form) _ f q1.2 in
      let q3 = gives_bind (form_of e g q1.0.store q1.0.kind) product_form q2.0 q2.1 in
      let is = product_is q3.0 q2.0 q3.2 in
      let product = along (Stands q1.0.store (names_in g)) is.1 (form_stands e site.plain g q1.0.store d1.0.store c1 q1.0.kind q3.0 d1.2 q3.1) in
      let q4 = gives_bind (elaborate e b g q1.0.store a (Some q2.0.0)) _ f q2.2 in
      let d4 = elaborate_finds a e b g q1.0.store (Some q2.0.0) q4.0 (site_later e s q1.0.store g site d1.0) d1.0.store c1 (domain_stands q1.0.store d1.0.store (names_in g) is.0 q2.0.0 q2.0.1 product) (omega (arith, few)) q4.1 in
      against_finds e g s w (found q4.0.store (App q1.0.term q4.0.term) (subst q4.0.term q2.0.1)) f site.plain (omega (arith, few)) c k (
        grown_then s q1.0.store q4.0.store d1.0 d4.0,
        app_stands q4.0.store d4.0.store (names_in g) q1.0.term q4.0.term (d4.0.keeps (names_in g) q1.0.term d1.1) d4.1,
        subst_stands q4.0.store d4.0.store (names_in g) q4.0.term q2.0.1 d4.1
            (rest_stands q4.0.store d4.0.store (names_in g) is.0 q2.0.0 q2.0.1 (d4.0.keeps (names_in g) (Prod is.0 q2.0.0 q2.0.1) product)),
      ) q4.2
  elaborate_finds (Ident x) e b g s w f site i c k few y =
      let q1 = gives_bind (name_found e b g s x) _ f y in
      against_finds e g s w q1.0 f site.plain (omega (arith, few)) c k (name_finds e g s site i c b x q1.0 q1.1) q1.2
  elaborate_finds (Blank j) e b g s w f site i c k few y = blank_finds g s j w f i c k y
  elaborate_finds PropSort e b g s w f site i c k few y =
      against_finds e g s w (found s (Sort Universe.Base) (Sort (Universe.Level 0))) f site.plain (omega (arith, few)) c k
      (grown_now s i, sort_stands s i (names_in g) Universe.Base, sort_stands s i (names_in g) (Universe.Level 0)) y
  elaborate_finds (TypeSort j) e b g s w f site i c k few y =
      let q1 = gives_bind (by_kernel (sort_above (Universe.Level j))) _ f y in
      against_finds e g s w (found s (Sort (Universe.Level j)) q1.0) f site.plain (omega (arith, few)) c k (
        grown_now s i,
        sort_stands s i (names_in g) (Universe.Level j),
        good_stands s i s.values (names_in g) q1.0 (above_good e.env site.plain s i (names_in g) (Universe.Level j) q1.0 (by_gives kernel_fault (sort_above (Universe.Level j)) q1.0 q1.1)),
      ) q1.2
  elaborate_finds (Cast t A) e b g s w f site i c k few y =
      let q1 = gives_bind (elaborate e b g s A None) _ f y in
      let d1 = elaborate_finds A e b g s None q1.0 site i c tt (omega (arith, few)) q1.1 in
      let q2 = gives_bind (found_sort e g q1.0) _ f q1.2 in
      let q3 = gives_bind (elaborate e b g q1.0.store t (Some q1.0.term)) _ f q2.2 in
      let d3 = elaborate_finds t e b g q1.0.store (Some q1.0.term) q3.0 (site_later e s q1.0.store g site d1.0) d1.0.store (context_keeps s q1.0.store d1.0.keeps [] g c) d1.1 (omega (arith, few)) q3.1 in
      against_finds e g s w (found q3.0.store q3.0.term q1.0.term) f site.plain (omega (arith, few)) c k
      (grown_then s q1.0.store q3.0.store d1.0 d3.0, d3.1, d3.0.keeps (names_in g) q1.0.term d1.1) q3.2
  elaborate_finds (Meta x) e b g s w f site i c k few y = absurd y
  elaborate_finds (NewVar x j) e b g s w f site i c k few y = named_finds g s x j w f i c k y

  pub domain_finds : (d : Domain) (e : Site) (b : List (Name × Name)) (g : Context) (s : Store) (f : Found) → IsSite e s g → IsStore s → IsContext s g → length g + deep_domain d + e.bound < 10 ^ 64 →
      Gives (domain_found e b g s d) f → Finds s g f
  domain_finds (Written A) e b g s f site i c few y = elaborate_finds A e b g s None f site i c tt few y
  domain_finds (Missing j) e b g s f site i c few y = absurd y

-- the call
pub call_finds : (e : Site) (s : Store) (t : Surface) (w : Option Tree) (f : Found) → IsSite e s e.outer → IsStore s → OptionStands s (names_in e.outer) w →
    length e.outer + deep t + e.bound < 10 ^ 64 → Gives (elaborate_call e s t w) f → Finds s e.outer f
unfolding elaborate_call
call_finds e s t w f site i k few y =
    let q = gives_bind (elaborate e [] e.outer s t w) _ f y in
    let a = gives_bind (elab_fitting (read q.0.store q.0.term)) _ f q.2 in
    let b = gives_bind (elab_fitting (read q.0.store q.0.kind)) _ f a.2 in
    along (Finds s e.outer) b.2 (elaborate_finds t e [] e.outer s w q.0 site i site.outer k few q.1)
