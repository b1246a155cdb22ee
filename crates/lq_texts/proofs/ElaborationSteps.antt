-- What elaboration that succeeds gives, form by form.
use Rattle.std.proofs.Common.{◌≡◌, ℕ, Bool, true, false, List, [], ◌∷◌, Option, Some, None, refl, sym, ap, ◌∙◌, subst as along}
use Rattle.lq_trees.specs.declared.Sort.{Sort as Universe}
use Rattle.std.proofs.Common.{map}
use Rattle.std.proofs.lemmas.Slice.Eq.{bytes_eq-Decides}
use Rattle.lq_trees.specs.Tree.{Name, Tree, Context, Hypothesis, value_of, same_name}
use Rattle.lq_trees.specs.Tree.Tree.{Var, Sort, Prod, Lam, Let, App, Const, Ind, Ctor, Elim}
use Rattle.lq_trees.specs.Change.{close}
use Rattle.lq_trees.specs.Ticks.{fails}
use Rattle.lq_trees.specs.Fresh.{is_listed, fresh, under, under_let}
use Rattle.lq_calculus.specs.Contraction.{hypothesis}
use Rattle.lq_calculus.specs.Declarations.{Entry, constant, family, arity, constructor, eliminator, lookup}
use Rattle.lq_calculus.proofs.ConvSound.{Gives, gives_bind}
use Rattle.lq_ast.specs.Syntax.{Surface, Fun, LetIn, Applied, Ident, PropSort, TypeSort, Written}
use Rattle.lq_solving.specs.Stores.{Store}
use Rattle.lq_solving.specs.ElabFaults.{Elab, unknown}
use Rattle.lq_solving.specs.Elaboration.{Site, Found, against, function_found, entry_found, hypothesis_or, outer_found, name_found, bind, elaborate, domain_found}
use Rattle.lq_texts.specs.Printing.{product_surface}
use Rattle.lq_texts.specs.ReadBack.{IsConstant, IsFamily}

-- what is held against a wanted type keeps its term
against_term : (e : Site) (g : Context) (w : Option Tree) (f r : Found) → Gives (against e g w f) r → r.term ≡ f.term
unfolding against
against_term e g None f r h = let a = gives_bind _ _ r h in ap (λ (x : Found). x.term) (sym a.2)
against_term e g (Some A) f r h =
    let a = gives_bind _ _ r h in
    let b = gives_bind _ _ r a.2 in
    ap (λ (x : Found). x.term) (sym b.2)

function_term : (e : Site) (g : Context) (w : Option Tree) (p : Option (Tree × Tree)) (f r : Found) → Gives (function_found e g w p f) r → r.term ≡ f.term
unfolding function_found
function_term e g w None f r h = against_term e g w f r h
function_term e g w (Some p) f r h = against_term e g None f r h

module _ (e : Site) (b : List (Name × Name)) (g : Context) (s : Store) (w : Option Tree) (r : Found) where
  -- a domain, and the rest under its hypothesis
  pub product_gives : (y : Name) (A B : Surface) → Gives (elaborate e b g s (product_surface y A B) w) r →
      (f : Found) × Gives (elaborate e b g s A None) f × (k : Found)
      × Gives (elaborate e (bind y (fresh g y) b) (under g (fresh g y) f.term) f.store B None) k × (r.term ≡ Prod y f.term (close (fresh g y) k.term))
  unfolding product_surface elaborate domain_found bind
  product_gives [] A B h =
      let f = gives_bind _ _ r h in
      let s1 = gives_bind _ _ r f.2 in
      let k = gives_bind _ _ r s1.2 in
      let s2 = gives_bind _ _ r k.2 in
      (f.0, f.1, k.0, k.1, against_term e g w _ r s2.2)
  product_gives (c ∷ cs) A B h =
      let f = gives_bind _ _ r h in
      let s1 = gives_bind _ _ r f.2 in
      let k = gives_bind _ _ r s1.2 in
      let s2 = gives_bind _ _ r k.2 in
      (f.0, f.1, k.0, k.1, against_term e g w _ r s2.2)

  pub function_gives : (y : Name) (A t : Surface) → Gives (elaborate e b g s (Fun y (Written A) t) w) r →
      (f : Found) × Gives (elaborate e b g s A None) f × (s2 : Store) × (v : Option Tree) × (k : Found)
      × Gives (elaborate e (bind y (fresh g y) b) (under g (fresh g y) f.term) s2 t v) k × (r.term ≡ Lam y f.term (close (fresh g y) k.term))
  unfolding elaborate
  function_gives y A t h =
      let p = gives_bind _ _ r h in
      let f = gives_bind _ _ r p.2 in
      let s1 = gives_bind _ _ r f.2 in
      let s2 = gives_bind _ _ r s1.2 in
      let k = gives_bind _ _ r s2.2 in
      (f.0, f.1, s2.0, _, k.0, k.1, function_term e g w p.0 _ r k.2)

  pub let_gives : (y : Name) (A v t : Surface) → Gives (elaborate e b g s (LetIn y (Written A) v t) w) r →
      (f : Found) × Gives (elaborate e b g s A None) f × (u : Found) × Gives (elaborate e b g f.store v (Some f.term)) u × (k : Found)
      × Gives (elaborate e (bind y (fresh g y) b) (under_let g (fresh g y) u.term f.term) u.store t None) k ×
      (r.term ≡ Let y u.term f.term (close (fresh g y) k.term))
  unfolding elaborate
  let_gives y A v t h =
      let f = gives_bind _ _ r h in
      let s1 = gives_bind _ _ r f.2 in
      let u = gives_bind _ _ r s1.2 in
      let k = gives_bind _ _ r u.2 in
      (f.0, f.1, u.0, u.1, k.0, k.1, against_term e g w _ r k.2)

  pub applied_gives : (t a : Surface) → Gives (elaborate e b g s (Applied t a) w) r →
      (f : Found) × Gives (elaborate e b g s t None) f × (v : Option Tree) × (k : Found) × Gives (elaborate e b g f.store a v) k ×
      (r.term ≡ App f.term k.term)
  unfolding elaborate
  applied_gives t a h =
      let f = gives_bind _ _ r h in
      let p = gives_bind _ _ r f.2 in
      let k = gives_bind _ _ r p.2 in
      (f.0, f.1, _, k.0, k.1, against_term e g w _ r k.2)

  pub base_gives : Gives (elaborate e b g s PropSort w) r → r.term ≡ Sort Universe.Base
  unfolding elaborate
  base_gives h = against_term e g w _ r h

  pub level_gives : (i : ℕ) → Gives (elaborate e b g s (TypeSort i) w) r → r.term ≡ Sort (Universe.Level i)
  unfolding elaborate
  level_gives i h = let a = gives_bind _ _ r h in against_term e g w _ r a.2

  pub name_gives : (x : Name) → Gives (elaborate e b g s (Ident x) w) r → (f : Found) × Gives (name_found e b g s x) f × (r.term ≡ f.term)
  unfolding elaborate
  name_gives x h = let f = gives_bind _ _ r h in (f.0, f.1, against_term e g w f.0 r f.2)

-- ---- names

-- the hypothesis of a name has that name
hypothesis_named : (g : Context) (y : Name) (h : Hypothesis) → hypothesis g y ≡ Some h → h.name ≡ y
unfolding hypothesis
hypothesis_named [] y h e = absurd cc
hypothesis_named (k ∷ g) y h e = by (same_name k.name y) refl e (hypothesis_named g y h)
  where
    by : (b : Bool) → same_name k.name y ≡ b → elim b as (λ _. Option Hypothesis) [ true ↦ Some k | false ↦ hypothesis g y ] ≡ Some h →
        (hypothesis g y ≡ Some h → h.name ≡ y) → h.name ≡ y
    by true f e others = let same : k ≡ h = cc in ap (λ (x : Hypothesis). x.name) (sym same) ∙ (bytes_eq-Decides k.name y).0 f
    by false f e others = others e

-- a name that a context has
hypothesis_there : (g : Context) (y : Name) → is_listed (map (λ h. h.name) g) y ≡ true → (h : Hypothesis) × (hypothesis g y ≡ Some h)
unfolding hypothesis is_listed
hypothesis_there [] y e = absurd cc
hypothesis_there (k ∷ g) y e = by (same_name k.name y) e (hypothesis_there g y)
  where
    by : (b : Bool) → Rattle.std.specs.Prelude.◌||◌ b (is_listed (map (λ h. h.name) g) y) ≡ true →
        (is_listed (map (λ h. h.name) g) y ≡ true → (h : Hypothesis) × (hypothesis g y ≡ Some h)) →
        (h : Hypothesis) × (elim b as (λ _. Option Hypothesis) [ true ↦ Some k | false ↦ hypothesis g y ] ≡ Some h)
    by true e others = (k, refl)
    by false e others = others e

-- a hypothesis or nothing
or_fails : (s : Store) (g : Context) (y x : Name) (o : Option Hypothesis) (f : Found) → hypothesis g y ≡ o → Gives (hypothesis_or s o (fails (unknown x))) f →
    f.term ≡ Var y
unfolding hypothesis_or
or_fails s g y x (Some h) f e k = ap (λ (r : Found). r.term) (sym k) ∙ ap Var (hypothesis_named g y h e)
or_fails s g y x None f e k = absurd k

or_hypothesis : (s : Store) (g : Context) (y : Name) (h : Hypothesis) (other : Elab Found) (f : Found) → hypothesis g y ≡ Some h →
    Gives (hypothesis_or s (hypothesis g y) other) f → f.term ≡ Var y
unfolding hypothesis_or
or_hypothesis s g y h other f e k =
    let m = along (λ o. Gives (hypothesis_or s o other) f) e k in ap (λ (r : Found). r.term) (sym m) ∙ ap Var (hypothesis_named g y h e)

module _ (e : Site) (no_values : e.values ≡ []) (b : List (Name × Name)) (g : Context) (s : Store) (x : Name) (f : Found) where
  -- a name that a binder has
  pub bound_gives : (y : Name) → value_of b x ≡ Some y → Gives (name_found e b g s x) f → f.term ≡ Var y
  unfolding name_found
  bound_gives y h k =
      or_fails s g y x (hypothesis g y) f refl
      (along (λ o. Gives
      (elim o as (λ _. Elab Found) [ Some y ↦ hypothesis_or s (hypothesis g y) (fails (unknown x)) | None ↦ outer_found e s x (value_of e.values x) ]) f)
      h k)

  outer_gives : value_of b x ≡ None → Gives (name_found e b g s x) f → Gives (hypothesis_or s (hypothesis e.outer x) (entry_found e s x (lookup e.env x))) f
  unfolding name_found outer_found
  outer_gives h k =
      let m = along (λ o. Gives
      (elim o as (λ _. Elab Found) [ Some y ↦ hypothesis_or s (hypothesis g y) (fails (unknown x)) | None ↦ outer_found e s x (value_of e.values x) ]) f)
      h k in
      along (λ vs. Gives (outer_found e s x (value_of vs x)) f) no_values m

  -- a hypothesis of the context
  pub hypothesis_gives : value_of b x ≡ None → is_listed (map (λ h. h.name) e.outer) x ≡ true → Gives (name_found e b g s x) f → f.term ≡ Var x
  hypothesis_gives h there k = let y =
      hypothesis_there e.outer x there in or_hypothesis s e.outer x y.0 (entry_found e s x (lookup e.env x)) f y.1 (outer_gives h k)

  -- a global
  pub entry_gives : value_of b x ≡ None → hypothesis e.outer x ≡ None → Gives (name_found e b g s x) f → Gives (entry_found e s x (lookup e.env x)) f
  unfolding hypothesis_or
  entry_gives h none k = along (λ o. Gives (hypothesis_or s o (entry_found e s x (lookup e.env x))) f) none (outer_gives h k)

module _ (e : Site) (s : Store) (x : Name) (f : Found) where
  pub constant_gives : (o : Option Entry) → IsConstant o → Gives (entry_found e s x o) f → f.term ≡ Const x
  unfolding entry_found
  constant_gives (Some (constant A t opaque)) i k = let a = gives_bind _ _ f k in ap (λ (r : Found). r.term) (sym a.2)
  constant_gives None i k = absurd i
  constant_gives (Some (family d ss)) i k = absurd i
  constant_gives (Some (arity A)) i k = absurd i
  constant_gives (Some (constructor c n)) i k = absurd i
  constant_gives (Some (eliminator c u)) i k = absurd i

  pub family_gives : (o : Option Entry) → IsFamily o → Gives (entry_found e s x o) f → f.term ≡ Ind x
  unfolding entry_found
  family_gives (Some (family d ss)) i k = let a = gives_bind _ _ f k in ap (λ (r : Found). r.term) (sym a.2)
  family_gives None i k = absurd i
  family_gives (Some (constant A t opaque)) i k = absurd i
  family_gives (Some (arity A)) i k = absurd i
  family_gives (Some (constructor c n)) i k = absurd i
  family_gives (Some (eliminator c u)) i k = absurd i

  pub constructor_gives : (c : Name) (n : ℕ) → lookup e.env x ≡ Some (constructor c n) → Gives (entry_found e s x (lookup e.env x)) f → f.term ≡ Ctor c n
  unfolding entry_found
  constructor_gives c n i k = let m = along (λ o. Gives (entry_found e s x o) f) i k in let a = gives_bind _ _ f m in ap (λ (r : Found). r.term) (sym a.2)

  pub eliminator_gives : (c : Name) (u : Universe) → lookup e.env x ≡ Some (eliminator c u) → Gives (entry_found e s x (lookup e.env x)) f → f.term ≡ Elim c u
  unfolding entry_found
  eliminator_gives c u i k = let m = along (λ o. Gives (entry_found e s x o) f) i k in let a = gives_bind _ _ f m in ap (λ (r : Found). r.term) (sym a.2)
