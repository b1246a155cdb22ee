-- Terms as they are kept give the parts that terms as read give, as soon as their heads are read.
use Rattle.std.proofs.Common.{◌≡◌, ◌∙◌, ℕ, refl, sym, ap, ap₂, List, [], ◌∷◌, ◌++◌, map, Option, Some, None, codes}
use Rattle.std.proofs.lemmas.List.{map-append}
use Rattle.lq_trees.specs.Tree.{Name, Tree, Trees, Context}
use Rattle.lq_trees.specs.Tree.Tree.{Rel, Var, Sort, Prod, Lam, Let, App, Const, Ind, Ctor, Elim, Evar}
use Rattle.lq_trees.specs.Fresh.{fresh, fresh_of}
use Rattle.lq_trees.specs.Reading.{entries}
use Rattle.lq_calculus.specs.Contraction.{spine}
use Rattle.lq_solving.specs.Stores.{Variable, Assigned, Store, names_in, read, read_hypothesis, read_context, read_values, read_next, fill_values, put_value, names_at}
use Rattle.lq_solving.specs.Kept.{IsStore}
use Rattle.lq_solving.specs.Unification.{Sides, is_variable}
use Rattle.lq_solving.specs.Waiting.{Waiting, parts, reducing}
use Rattle.lq_solving.proofs.ReadLaws.{filled, filled_each, fill_each, open_stays}
use Rattle.lq_solving.proofs.Later.{Later, later_trans, later_reads, reads_prod, reads_lam, reads_let, reads_app, reads_var, reads_sort, reads_const, reads_ind, reads_ctor, reads_eliminator}
use Rattle.lq_solving.proofs.ValueLaws.{entries_value}
use Rattle.lq_unify.specs.Heads.{HasOpenHead}
use Rattle.lq_unify.specs.Unread.{SameSides, SameParts, SameWaiting, formed}

-- ---- contexts

pub names_read : (s : Store) (g : Context) → names_in (read_context s g) ≡ names_in g
unfolding read_context read_hypothesis
names_read s [] = refl
names_read s (h ∷ g) = ap (λ xs. h.name ∷ xs) (names_read s g)

pub same_names : (s : Store) (g h : Context) → read_context s g ≡ read_context s h → names_in g ≡ names_in h
same_names s g h e = sym (names_read s g) ∙ ap names_in e ∙ names_read s h

pub same_fresh : (s : Store) (g h : Context) (x : Name) → read_context s g ≡ read_context s h → fresh g x ≡ fresh h x
unfolding fresh
same_fresh s g h [] e = ap (λ xs. fresh_of xs (codes "x")) (same_names s g h e)
same_fresh s g h (b ∷ bs) e = ap (λ xs. fresh_of xs (b ∷ bs)) (same_names s g h e)

pub context_append : (s : Store) (g h : Context) → read_context s (g ++ h) ≡ read_context s g ++ read_context s h
unfolding read_context
context_append s g h = map-append (read_hypothesis s) g h

-- ---- later stores

module _ {s s1 : Store} (l : Later s s1) (h : IsStore s) where
  body_later : (o : Option Tree) → elim (elim o as (λ z. Option Tree) [ None ↦ None | Some b ↦ Some (read s b) ]) as (λ z. Option Tree) [ None ↦ None | Some b ↦ Some (read s1 b) ]
      ≡ elim o as (λ z. Option Tree) [ None ↦ None | Some b ↦ Some (read s1 b) ]
  body_later None = refl
  body_later (Some b) = ap Some (later_reads l h b)

  pub context_later : (g : Context) → read_context s1 (read_context s g) ≡ read_context s1 g
  unfolding read_context read_hypothesis
  context_later [] = refl
  context_later (i ∷ g) = ap₂ (λ j f. j ∷ f) (ap₂ (λ b k. record { name = i.name; body = b; kind = k }) (body_later i.body) (later_reads l h i.kind)) (context_later g)

  pub same_context_later : (g f : Context) → read_context s g ≡ read_context s f → read_context s1 g ≡ read_context s1 f
  same_context_later g f e = sym (context_later g) ∙ ap (read_context s1) e ∙ context_later f

  pub same_later : (t u : Tree) → read s t ≡ read s u → read s1 t ≡ read s1 u
  same_later t u e = sym (later_reads l h t) ∙ ap (read s1) e ∙ later_reads l h u

  pub sides_later : (p q : Sides) → SameSides s p q → SameSides s1 p q
  sides_later p q e = record {
    context = same_context_later p.context q.context e.context;
    left = same_later p.left q.left e.left;
    right = same_later p.right q.right e.right;
  }

  pub parts_later : (ps qs : List Sides) → SameParts s ps qs → SameParts s1 ps qs
  parts_later [] [] e = tt
  parts_later (p ∷ ps) (q ∷ qs) e = (sides_later p q e.0, parts_later ps qs e.1)
  parts_later [] (q ∷ qs) e = absurd e
  parts_later (p ∷ ps) [] e = absurd e

  pub waiting_later : (vs ws : List Waiting) → SameWaiting s vs ws → SameWaiting s1 vs ws
  waiting_later [] [] e = tt
  waiting_later (parts ps ∷ vs) (parts qs ∷ ws) e = (parts_later ps qs e.0, waiting_later vs ws e.1)
  waiting_later (reducing g s0 t u ∷ vs) (reducing f s2 T U ∷ ws) e =
      (e.0, record { later = later_trans e.1.later l; context = e.1.context; left = e.1.left; right = e.1.right }, e.2)
  waiting_later [] (w ∷ ws) e = absurd e
  waiting_later (parts ps ∷ vs) [] e = absurd e
  waiting_later (reducing g s0 t u ∷ vs) [] e = absurd e
  waiting_later (parts ps ∷ vs) (reducing f s2 T U ∷ ws) e = absurd e
  waiting_later (reducing g s0 t u ∷ vs) (parts qs ∷ ws) e = absurd e

-- ---- a term whose head is read

pub entries_filled : (vs : List Variable) (as_ : List Assigned) (ts : Trees) → entries (filled_each vs as_ ts) ≡ map (filled vs as_) (entries ts)
unfolding fill_each fill_values read_values read_next
entries_filled vs [] ts = by (entries ts)
  where
    by : (us : List Tree) → us ≡ map (λ t. t) us
    by [] = refl
    by (u ∷ us) = ap (λ ws. u ∷ ws) (by us)
entries_filled vs (a ∷ older) ts =
    entries_value a.id (names_at vs a.id) (filled vs older a.body) (filled_each vs older ts)
    ∙ ap (map (put_value a.id (names_at vs a.id) (filled vs older a.body))) (entries_filled vs older ts) ∙ twice (entries ts)
  where
    twice : (us : List Tree) → map (put_value a.id (names_at vs a.id) (filled vs older a.body)) (map (filled vs older) us) ≡ map (λ t. put_value a.id (names_at vs a.id) (filled vs older a.body) (filled vs older t)) us
    twice [] = refl
    twice (u ∷ us) = ap (λ ws. put_value a.id (names_at vs a.id) (filled vs older a.body) (filled vs older u) ∷ ws) (twice us)

pub reads_rel : (vs : List Variable) (as_ : List Assigned) (i : ℕ) → filled vs as_ (Rel i) ≡ Rel i
unfolding fill_values read_values read_next put_value
reads_rel vs [] i = refl
reads_rel vs (a ∷ older) i = ap (put_value a.id (names_at vs a.id) (filled vs older a.body)) (reads_rel vs older i)

pub variable_formed : (f : Tree → Tree) (fs : Trees → Trees) (t : Tree) → is_variable (formed f fs t) ≡ is_variable t
unfolding formed is_variable
variable_formed f fs (Rel i) = refl
variable_formed f fs (Var x) = refl
variable_formed f fs (Sort s) = refl
variable_formed f fs (Prod x A B) = refl
variable_formed f fs (Lam x A t) = refl
variable_formed f fs (Let x v A t) = refl
variable_formed f fs (App g a) = refl
variable_formed f fs (Const c) = refl
variable_formed f fs (Ind c) = refl
variable_formed f fs (Ctor c k) = refl
variable_formed f fs (Elim c s) = refl
variable_formed f fs (Evar n ts) = refl

pub formed_reads : (vs : List Variable) (as_ : List Assigned) (t : Tree) → HasOpenHead as_ t → filled vs as_ t ≡ formed (filled vs as_) (filled_each vs as_) t
unfolding formed
formed_reads vs as_ (Rel i) h = reads_rel vs as_ i
formed_reads vs as_ (Var x) h = reads_var vs as_ x
formed_reads vs as_ (Sort s) h = reads_sort vs as_ s
formed_reads vs as_ (Prod x A B) h = reads_prod vs as_ x A B
formed_reads vs as_ (Lam x A t) h = reads_lam vs as_ x A t
formed_reads vs as_ (Let x v A t) h = reads_let vs as_ x v A t
formed_reads vs as_ (App f a) h = reads_app vs as_ f a
formed_reads vs as_ (Const c) h = reads_const vs as_ c
formed_reads vs as_ (Ind c) h = reads_ind vs as_ c
formed_reads vs as_ (Ctor c k) h = reads_ctor vs as_ c k
formed_reads vs as_ (Elim c s) h = reads_eliminator vs as_ c s
formed_reads vs as_ (Evar n ts) h = open_stays vs as_ n ts h

-- head and arguments as read
abbrev pub read_spine : (Tree → Tree) → Tree × List Tree → Tree × List Tree
read_spine f p = (f p.0, map f p.1)

pub spine_reads : (vs : List Variable) (as_ : List Assigned) (t : Tree) (args : List Tree) → HasOpenHead as_ t → spine (filled vs as_ t) (map (filled vs as_) args) ≡ read_spine (filled vs as_) (spine t args)
unfolding spine formed
spine_reads vs as_ (App f a) args h = ap (λ z. spine z (map (filled vs as_) args)) (reads_app vs as_ f a) ∙ spine_reads vs as_ f (a ∷ args) h
spine_reads vs as_ (Rel i) args h = ap (λ z. spine z (map (filled vs as_) args)) (formed_reads vs as_ (Rel i) h) ∙ ap (λ z. (z, map (filled vs as_) args)) (sym (formed_reads vs as_ (Rel i) h))
spine_reads vs as_ (Var x) args h = ap (λ z. spine z (map (filled vs as_) args)) (formed_reads vs as_ (Var x) h) ∙ ap (λ z. (z, map (filled vs as_) args)) (sym (formed_reads vs as_ (Var x) h))
spine_reads vs as_ (Sort s) args h = ap (λ z. spine z (map (filled vs as_) args)) (formed_reads vs as_ (Sort s) h) ∙ ap (λ z. (z, map (filled vs as_) args)) (sym (formed_reads vs as_ (Sort s) h))
spine_reads vs as_ (Prod x A B) args h = ap (λ z. spine z (map (filled vs as_) args)) (formed_reads vs as_ (Prod x A B) h) ∙ ap (λ z. (z, map (filled vs as_) args)) (sym (formed_reads vs as_ (Prod x A B) h))
spine_reads vs as_ (Lam x A t) args h = ap (λ z. spine z (map (filled vs as_) args)) (formed_reads vs as_ (Lam x A t) h) ∙ ap (λ z. (z, map (filled vs as_) args)) (sym (formed_reads vs as_ (Lam x A t) h))
spine_reads vs as_ (Let x v A t) args h = ap (λ z. spine z (map (filled vs as_) args)) (formed_reads vs as_ (Let x v A t) h) ∙ ap (λ z. (z, map (filled vs as_) args)) (sym (formed_reads vs as_ (Let x v A t) h))
spine_reads vs as_ (Const c) args h = ap (λ z. spine z (map (filled vs as_) args)) (formed_reads vs as_ (Const c) h) ∙ ap (λ z. (z, map (filled vs as_) args)) (sym (formed_reads vs as_ (Const c) h))
spine_reads vs as_ (Ind c) args h = ap (λ z. spine z (map (filled vs as_) args)) (formed_reads vs as_ (Ind c) h) ∙ ap (λ z. (z, map (filled vs as_) args)) (sym (formed_reads vs as_ (Ind c) h))
spine_reads vs as_ (Ctor c k) args h = ap (λ z. spine z (map (filled vs as_) args)) (formed_reads vs as_ (Ctor c k) h) ∙ ap (λ z. (z, map (filled vs as_) args)) (sym (formed_reads vs as_ (Ctor c k) h))
spine_reads vs as_ (Elim c s) args h = ap (λ z. spine z (map (filled vs as_) args)) (formed_reads vs as_ (Elim c s) h) ∙ ap (λ z. (z, map (filled vs as_) args)) (sym (formed_reads vs as_ (Elim c s) h))
spine_reads vs as_ (Evar n ts) args h = ap (λ z. spine z (map (filled vs as_) args)) (formed_reads vs as_ (Evar n ts) h) ∙ ap (λ z. (z, map (filled vs as_) args)) (sym (formed_reads vs as_ (Evar n ts) h))

-- the head of a spine is open where the term's is
pub spine_open : (as_ : List Assigned) (t : Tree) (args : List Tree) → HasOpenHead as_ t → HasOpenHead as_ (spine t args).0
unfolding spine
spine_open as_ (App f a) args h = spine_open as_ f (a ∷ args) h
spine_open as_ (Rel i) args h = h
spine_open as_ (Var x) args h = h
spine_open as_ (Sort s) args h = h
spine_open as_ (Prod x A B) args h = h
spine_open as_ (Lam x A t) args h = h
spine_open as_ (Let x v A t) args h = h
spine_open as_ (Const c) args h = h
spine_open as_ (Ind c) args h = h
spine_open as_ (Ctor c k) args h = h
spine_open as_ (Elim c s) args h = h
spine_open as_ (Evar n ts) args h = h

pub variable_reads : (vs : List Variable) (as_ : List Assigned) (t : Tree) → HasOpenHead as_ t → is_variable (filled vs as_ t) ≡ is_variable t
variable_reads vs as_ t h = ap is_variable (formed_reads vs as_ t h) ∙ variable_formed (filled vs as_) (filled_each vs as_) t
