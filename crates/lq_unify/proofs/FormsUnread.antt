-- The parts by the forms of two terms as they are kept, whose heads are read, are those of the terms as read.
use Rattle.std.proofs.Common.{◌≡◌, ◌∙◌, ◌-◌, ℕ, zero, suc, refl, sym, ap, ap₂, arith, Bool, true, false, ◌&&◌, ◌||◌, eqb, leb, List, [], ◌∷◌, ◌++◌, map, length, take, drop, Option, Some, None}
use Rattle.std.proofs.Common.{subst as along}
use Rattle.std.proofs.lemmas.List.{length-map}
use Rattle.lq_trees.specs.Tree.{Name, Tree, Trees, Hypothesis, Context, same_name}
use Rattle.lq_trees.specs.Tree.Tree.{Var, Sort, Prod, Lam, Let, App, Const, Ind, Ctor, Elim, Evar}
use Rattle.lq_trees.specs.Change.{fill}
use Rattle.lq_trees.specs.Fresh.{fresh, opened, under, under_let}
use Rattle.lq_trees.specs.Reading.{entries}
use Rattle.lq_calculus.specs.Contraction.{apply, spine}
use Rattle.lq_calculus.specs.Checking.{same_sort}
use Rattle.lq_solving.specs.Stores.{Store, read, read_hypothesis, read_context}
use Rattle.lq_solving.specs.Kept.{IsStore}
use Rattle.lq_solving.specs.Unification.{Sides, sides, parts_of, one_variable, no_parts_if, is_variable, application_parts, same_form, split_last, split_left, split_right, first_some, parts_by_form}
use Rattle.lq_solving.proofs.ReadLaws.{filled, filled_each}
use Rattle.lq_solving.proofs.Later.{now, later_reads, reads_apply, reads_opened}
use Rattle.lq_unify.specs.Heads.{HasOpenHead}
use Rattle.lq_unify.specs.Unread.{SameSides, SameOption, formed}
use Rattle.lq_unify.proofs.UnreadLaws.{same_fresh, context_append, entries_filled, formed_reads, read_spine, spine_reads, spine_open, variable_reads}

module _ (s : Store) (i : IsStore s) where
  -- a term as read
  abbrev r : Tree → Tree
  r t = filled s.variables s.values t

  abbrev rs : Trees → Trees
  rs ts = filled_each s.variables s.values ts

  -- what is read reads as itself
  pub twice : (t : Tree) → read s (read s t) ≡ read s t
  twice t = later_reads now i t

  pub same_read : (t : Tree) → read s t ≡ read s (r t)
  unfolding read
  same_read t = sym (later_reads now i t)

  -- parts that are there no more than others
  pub same_none : (b : Bool) → SameOption s (no_parts_if b) (no_parts_if b)
  unfolding no_parts_if
  same_none true = tt
  same_none false = tt

  module _ (g h : Context) (e : read_context s g ≡ read_context s h) where
    pub same_sides : (t u : Tree) → SameSides s (sides g t u) (sides h (r t) (r u))
    same_sides t u = record { context = e; left = same_read t; right = same_read u }

    -- under a binder of that name
    under_reads : (x y : Name) (o p : Option Tree) (A B : Tree) → x ≡ y → elim o as (λ z. Option Tree) [ None ↦ None | Some b ↦ Some (read s b) ] ≡ elim p as (λ z. Option Tree) [ None ↦ None | Some b ↦ Some (read s b) ] → read s A ≡ read s B →
        read_context s (g ++ (record { name = x; body = o; kind = A } ∷ [])) ≡ read_context s (h ++ (record { name = y; body = p; kind = B } ∷ []))
    unfolding read_hypothesis read_context
    under_reads x y o p A B n b k =
        context_append s g (record { name = x; body = o; kind = A } ∷ [])
        ∙ ap₂ (λ f l. f ++ l) e (ap (λ j. j ∷ []) (hypothesis_is n b k))
        ∙ sym (context_append s h (record { name = y; body = p; kind = B } ∷ []))
      where
        hypothesis_is : {x1 y1 : Name} {o1 p1 : Option Tree} {A1 B1 : Tree} → x1 ≡ y1 → o1 ≡ p1 → A1 ≡ B1 → ◌≡◌ {A = Hypothesis} (record { name = x1; body = o1; kind = A1 }) (record { name = y1; body = p1; kind = B1 })
        hypothesis_is q w z = rw (q, w, z) refl

    -- what is under a binder, opened
    opened_reads : (x y : Name) (t : Tree) → x ≡ y → read s (opened x t) ≡ read s (opened y (r t))
    unfolding read
    opened_reads x y t n =
        ap (λ z. r (opened z t)) n ∙ reads_opened s.variables s.values i.values y t ∙ ap (fill (Var y ∷ []) 0) (same_read t) ∙ sym (reads_opened s.variables s.values i.values y (r t))

    pub same_under : (x : Name) (A t u : Tree) → SameSides s (sides (under g (fresh g x) A) (opened (fresh g x) t) (opened (fresh g x) u)) (sides (under h (fresh h x) (r A)) (opened (fresh h x) (r t)) (opened (fresh h x) (r u)))
    unfolding under
    same_under x A t u = let n = same_fresh s g h x e in record {
      context = under_reads (fresh g x) (fresh h x) None None A (r A) n refl (same_read A);
      left = opened_reads (fresh g x) (fresh h x) t n;
      right = opened_reads (fresh g x) (fresh h x) u n;
    }

    pub same_under_let : (x : Name) (v A t u : Tree) →
        SameSides s (sides (under_let g (fresh g x) v A) (opened (fresh g x) t) (opened (fresh g x) u)) (sides (under_let h (fresh h x) (r v) (r A)) (opened (fresh h x) (r t)) (opened (fresh h x) (r u)))
    unfolding under_let
    same_under_let x v A t u = let n = same_fresh s g h x e in record {
      context = under_reads (fresh g x) (fresh h x) (Some v) (Some (r v)) A (r A) n (ap Some (same_read v)) (same_read A);
      left = opened_reads (fresh g x) (fresh h x) t n;
      right = opened_reads (fresh g x) (fresh h x) u n;
    }

    -- lists of terms, pairwise
    pub same_parts_of : (ts us : List Tree) → SameOption s (parts_of g ts us) (parts_of h (map r ts) (map r us))
    unfolding parts_of
    same_parts_of [] [] = tt
    same_parts_of [] (u ∷ us) = tt
    same_parts_of (t ∷ ts) [] = tt
    same_parts_of (t ∷ ts) (u ∷ us) = by (parts_of g ts us) (parts_of h (map r ts) (map r us)) (same_parts_of ts us)
      where
        by : (o p : Option (List Sides)) → SameOption s o p → SameOption s (elim o as (λ z. Option (List Sides)) [ None ↦ None | Some ps ↦ Some (sides g t u ∷ ps) ]) (elim p as (λ z. Option (List Sides)) [ None ↦ None | Some ps ↦ Some (sides h (r t) (r u) ∷ ps) ])
        by None None q = tt
        by (Some ps) (Some qs) q = (same_sides t u, q)
        by None (Some qs) q = absurd q
        by (Some ps) None q = absurd q

    -- both are one variable
    pub same_one : (t u : Tree) → SameOption s (one_variable g t u) (one_variable h (formed r rs t) (formed r rs u))
    unfolding one_variable formed
    same_one (Evar k es) (Evar l fs) = by (eqb k l)
      where
        instances : SameOption s (parts_of g (entries es) (entries fs)) (parts_of h (entries (rs es)) (entries (rs fs)))
        instances =
            along (λ us. SameOption s (parts_of g (entries es) (entries fs)) (parts_of h us (entries (rs fs)))) (sym (entries_filled s.variables s.values es))
            (along (λ us. SameOption s (parts_of g (entries es) (entries fs)) (parts_of h (map r (entries es)) us)) (sym (entries_filled s.variables s.values fs)) (same_parts_of (entries es) (entries fs)))

        by : (b : Bool) → SameOption s (elim b as (λ z. Option (List Sides)) [ true ↦ parts_of g (entries es) (entries fs) | false ↦ None ]) (elim b as (λ z. Option (List Sides)) [ true ↦ parts_of h (entries (rs es)) (entries (rs fs)) | false ↦ None ])
        by true = instances
        by false = tt
    same_one _ _ = tt

    -- applications
    pub same_application : (p q : Tree × List Tree) → HasOpenHead s.values p.0 → HasOpenHead s.values q.0 → SameOption s (application_parts g p q) (application_parts h (read_spine r p) (read_spine r q))
    unfolding application_parts
    same_application p q a b =
        along (λ z. SameOption s (application_parts g p q) (elim z as (λ w. Option (List Sides)) [ true ↦ None | false ↦ parts_of h (map r (p.0 ∷ p.1)) (map r (q.0 ∷ q.1)) ]))
        (ap₂ (λ m n. m || n) (sym (variable_reads s.variables s.values p.0 a)) (sym (variable_reads s.variables s.values q.0 b))) (by (is_variable p.0 || is_variable q.0))
      where
        by : (z : Bool) → SameOption s (elim z as (λ w. Option (List Sides)) [ true ↦ None | false ↦ parts_of g (p.0 ∷ p.1) (q.0 ∷ q.1) ]) (elim z as (λ w. Option (List Sides)) [ true ↦ None | false ↦ parts_of h (map r (p.0 ∷ p.1)) (map r (q.0 ∷ q.1)) ])
        by true = tt
        by false = same_parts_of (p.0 ∷ p.1) (q.0 ∷ q.1)

    pub same_form_formed : (t u : Tree) → HasOpenHead s.values t → HasOpenHead s.values u → SameOption s (same_form g t u) (same_form h (formed r rs t) (formed r rs u))
    unfolding same_form formed
    same_form_formed (Var x) (Var y) a b = same_none (same_name x y)
    same_form_formed (Sort x) (Sort y) a b = same_none (same_sort x y)
    same_form_formed (Const x) (Const y) a b = same_none (same_name x y)
    same_form_formed (Ind x) (Ind y) a b = same_none (same_name x y)
    same_form_formed (Ctor x k) (Ctor y l) a b = same_none (same_name x y && eqb k l)
    same_form_formed (Elim x k) (Elim y l) a b = same_none (same_name x y && same_sort k l)
    same_form_formed (Prod x A B) (Prod y C D) a b = (same_sides A C, (same_under x A B D, tt))
    same_form_formed (Lam x A B) (Lam y C D) a b = (same_sides A C, (same_under x A B D, tt))
    same_form_formed (Let x v A B) (Let y w C D) a b = (same_sides v w, (same_sides A C, (same_under_let x v A B D, tt)))
    same_form_formed (App f c) (App k d) a b =
        along (λ z. SameOption s (application_parts g (spine (App f c) []) (spine (App k d) [])) (application_parts h z (spine (App (r k) (r d)) []))) (sym (spine_formed f c a))
        (along (λ z. SameOption s (application_parts g (spine (App f c) []) (spine (App k d) [])) (application_parts h (read_spine r (spine (App f c) [])) z)) (sym (spine_formed k d b))
        (same_application (spine (App f c) []) (spine (App k d) []) (spine_open s.values (App f c) [] a) (spine_open s.values (App k d) [] b)))
      where
        spine_formed : (f1 c1 : Tree) → HasOpenHead s.values f1 → spine (App (r f1) (r c1)) [] ≡ read_spine r (spine (App f1 c1) [])
        spine_formed f1 c1 o = ap (λ z. spine z []) (sym (formed_reads s.variables s.values (App f1 c1) o)) ∙ spine_reads s.variables s.values (App f1 c1) [] o
    same_form_formed _ _ a b = tt

    -- ---- a variable with arguments, and an application

    last_args : (n : ℕ) (us : List Tree) → split_last n (map r us) ≡ (map r (split_last n us).0, map r (split_last n us).1)
    unfolding split_last
    last_args n us =
        ap₂ (λ a b. (a, b)) (ap (λ m. take (m - n) (map r us)) (length-map us r) ∙ taken (length us - n) us) (ap (λ m. drop (m - n) (map r us)) (length-map us r) ∙ dropped (length us - n) us)
      where
        taken : (m : ℕ) (ws : List Tree) → take m (map r ws) ≡ map r (take m ws)
        taken zero ws = refl
        taken (suc m) [] = refl
        taken (suc m) (w ∷ ws) = ap (λ z. r w ∷ z) (taken m ws)

        dropped : (m : ℕ) (ws : List Tree) → drop m (map r ws) ≡ map r (drop m ws)
        dropped zero ws = refl
        dropped (suc m) [] = refl
        dropped (suc m) (w ∷ ws) = dropped m ws

    -- whether a head with so many arguments may be split off
    abbrev splits : Tree → ℕ → ℕ → Bool
    splits t m n = is_variable t && leb 1 m && leb m n

    splits_read : (p q : Tree × List Tree) → HasOpenHead s.values p.0 → splits (r p.0) (length (map r p.1)) (length (map r q.1)) ≡ splits p.0 (length p.1) (length q.1)
    splits_read p q a =
        ap (λ b. b && leb 1 (length (map r p.1)) && leb (length (map r p.1)) (length (map r q.1))) (variable_reads s.variables s.values p.0 a)
        ∙ ap₂ (λ m n. is_variable p.0 && leb 1 m && leb m n) (length-map p.1 r) (length-map q.1 r)

    -- the other side without its last arguments, and those
    abbrev other_parts : Tree × List Tree → ℕ → List Tree
    other_parts q n = apply q.0 (split_last n q.1).0 ∷ (split_last n q.1).1

    other_read : (q : Tree × List Tree) (p : List Tree) → other_parts (read_spine r q) (length (map r p)) ≡ map r (other_parts q (length p))
    other_read q p =
        ap (other_parts (read_spine r q)) (length-map p r)
        ∙ ap (λ k. apply (r q.0) k.0 ∷ k.1) (last_args (length p) q.1)
        ∙ ap (λ t. t ∷ map r (split_last (length p) q.1).1) (sym (reads_apply s.variables s.values q.0 (split_last (length p) q.1).0))

    if_splits : (b c : Bool) (o p : Option (List Sides)) → b ≡ c → SameOption s o p → SameOption s (elim b as (λ z. Option (List Sides)) [ false ↦ None | true ↦ o ]) (elim c as (λ z. Option (List Sides)) [ false ↦ None | true ↦ p ])
    if_splits true true o p q k = k
    if_splits false false o p q k = tt
    if_splits true false o p q k = absurd (grind arith)
    if_splits false true o p q k = absurd (grind arith)

    pub same_left : (p q : Tree × List Tree) → HasOpenHead s.values p.0 → SameOption s (split_left g p q) (split_left h (read_spine r p) (read_spine r q))
    unfolding split_left
    same_left p q a =
        if_splits (splits p.0 (length p.1) (length q.1)) (splits (r p.0) (length (map r p.1)) (length (map r q.1))) _ _ (sym (splits_read p q a))
        (along (λ us. SameOption s (parts_of g (p.0 ∷ p.1) (other_parts q (length p.1))) (parts_of h (map r (p.0 ∷ p.1)) us)) (sym (other_read q p.1)) (same_parts_of (p.0 ∷ p.1) (other_parts q (length p.1))))

    pub same_right : (p q : Tree × List Tree) → HasOpenHead s.values q.0 → SameOption s (split_right g p q) (split_right h (read_spine r p) (read_spine r q))
    unfolding split_right
    same_right p q a =
        if_splits (splits q.0 (length q.1) (length p.1)) (splits (r q.0) (length (map r q.1)) (length (map r p.1))) _ _ (sym (splits_read q p a))
        (along (λ us. SameOption s (parts_of g (other_parts p (length q.1)) (q.0 ∷ q.1)) (parts_of h us (map r (q.0 ∷ q.1)))) (sym (other_read p q.1)) (same_parts_of (other_parts p (length q.1)) (q.0 ∷ q.1)))

    same_first : (o o1 p p1 : Option (List Sides)) → SameOption s o p → SameOption s o1 p1 → SameOption s (first_some o o1) (first_some p p1)
    unfolding first_some
    same_first None o1 None p1 a b = b
    same_first (Some x) o1 (Some y) p1 a b = a
    same_first None o1 (Some y) p1 a b = absurd a
    same_first (Some x) o1 None p1 a b = absurd a

    -- ---- both together

    pub same_by_form : (t u : Tree) → HasOpenHead s.values t → HasOpenHead s.values u → SameOption s (parts_by_form g t u) (parts_by_form h (read s t) (read s u))
    unfolding parts_by_form read
    same_by_form t u a b =
        along (λ z. SameOption s (parts_by_form g t u) (first_some (same_form h (r t) (r u)) (first_some (split_left h z (spine (r u) [])) (split_right h z (spine (r u) []))))) (sym (spine_reads s.variables s.values t [] a))
        (along (λ z. SameOption s (parts_by_form g t u) (first_some (same_form h (r t) (r u)) (first_some (split_left h (read_spine r (spine t [])) z) (split_right h (read_spine r (spine t [])) z)))) (sym (spine_reads s.variables s.values u [] b))
        (along (λ z. SameOption s (parts_by_form g t u) (first_some (same_form h z (r u)) (first_some (split_left h (read_spine r (spine t [])) (read_spine r (spine u []))) (split_right h (read_spine r (spine t [])) (read_spine r (spine u []))))))
        (sym (formed_reads s.variables s.values t a))
        (along (λ z. SameOption s (parts_by_form g t u) (first_some (same_form h (formed r rs t) z) (first_some (split_left h (read_spine r (spine t [])) (read_spine r (spine u []))) (split_right h (read_spine r (spine t [])) (read_spine r (spine u []))))))
        (sym (formed_reads s.variables s.values u b))
        (same_first (same_form g t u) _ (same_form h (formed r rs t) (formed r rs u)) _ (same_form_formed t u a b)
        (same_first (split_left g (spine t []) (spine u [])) _ (split_left h (read_spine r (spine t [])) (read_spine r (spine u []))) _ (same_left (spine t []) (spine u []) (spine_open s.values t [] a))
        (same_right (spine t []) (spine u []) (spine_open s.values u [] b)))))))

    pub same_one_read : (t u : Tree) → HasOpenHead s.values t → HasOpenHead s.values u → SameOption s (one_variable g t u) (one_variable h (read s t) (read s u))
    unfolding read
    same_one_read t u a b =
        along (λ z. SameOption s (one_variable g t u) (one_variable h z (r u))) (sym (formed_reads s.variables s.values t a))
        (along (λ z. SameOption s (one_variable g t u) (one_variable h (formed r rs t) z)) (sym (formed_reads s.variables s.values u b)) (same_one t u))
