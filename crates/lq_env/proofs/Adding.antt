-- More declarations behind an environment.
use Rattle.std.proofs.Common.{◌≡◌, ◌∙◌, refl, sym, ap, subst, Bool, true, false, ◌||◌, List, [], ◌∷◌, ◌++◌, Option, Some, None, Result, Ok, Err, inl, inr, OnOk, IfErr}
use Rattle.std.specs.Prelude.{if◌then◌else◌, ◌==◌}
use Rattle.lq_trees.specs.Tree.{Name, same_name}
use Rattle.lq_trees.specs.Fresh.{is_listed}
use Rattle.lq_terms.specs.declared.nodes.NameId.{NameId}
use Rattle.lq_terms.specs.declared.nodes.TermId.{TermId}
use Rattle.lq_terms.specs.Terms.{Terms, text_of, tree_of}
use Rattle.lq_terms.specs.Telling.{IsClosed}
use Rattle.lq_calculus.specs.Declarations.{Env as Environment, EnvFault as Fault, lookup, names_of, first_taken, name_taken, add_constant}
use Rattle.lq_env.specs.declared.family.EnvFault.{EnvFault}
use Rattle.lq_env.specs.declared.environment.Entry.{Entry}
use Rattle.lq_env.specs.declared.environment.Declared.{Declared}
use Rattle.lq_env.specs.Environments.{declared_of, entry_of, named_of, env_of, with_arity, IsOwn, IsDeclared, AreDeclared, AreNew, IsEnv, Adds, TakenOr, fault_in}
use Rattle.lq_env.proofs.Lookups.{same_turned}
use Rattle.lq_env.proofs.Grown.{Keeps, AreDeclared-more}

pub env_of-append : (bank : Terms) (ds es : List (NameId × Declared)) → env_of bank (ds ++ es) ≡ env_of bank ds ++ env_of bank es
env_of-append bank [] es = refl
env_of-append bank (d ∷ ds) es = ap (λ xs. named_of bank d ∷ xs) (env_of-append bank ds es)

pub declared-append : (bank : Terms) (env : Environment) (ds es : List (NameId × Declared)) → AreDeclared bank env ds → AreDeclared bank env es → AreDeclared bank env (ds ++ es)
declared-append bank env [] es h k = k
declared-append bank env (d ∷ ds) es h k = (h.0, declared-append bank env ds es h.1 k)

-- what is found is found with more behind it
pub keeps-append : (env more : Environment) → Keeps env (env ++ more)
keeps-append [] more c e h = absurd cc
keeps-append (d ∷ ds) more c e h = either (same_name c d.0) h (λ k. keeps-append ds more c e k)
  where
    either :
        (b : Bool) → (if b then Some d.1 else lookup ds c) ≡ Some e → (lookup ds c ≡ Some e → lookup (ds ++ more) c ≡ Some e)
        → (if b then Some d.1 else lookup (ds ++ more) c) ≡ Some e
    either true h k = h
    either false h k = k h

-- names by what is listed
abbrev pub Alike : List Name → List Name → Type 0
Alike xs ys = (x : Name) → is_listed xs x ≡ is_listed ys x

pub alike_more : (y : Name) (xs ys : List Name) → Alike xs ys → Alike (y ∷ xs) (y ∷ ys)
unfolding is_listed
alike_more y xs ys a x = ap (λ b. same_name y x || b) (a x)

-- the names of an environment, the newest first, before others
abbrev pub names_after : List Name → Environment → List Name
names_after xs [] = xs
names_after xs (e ∷ es) = names_after (e.0 ∷ xs) es

or_swap : (a b c : Bool) → (a || (b || c)) ≡ (b || (a || c))
or_swap true true c = refl
or_swap true false c = refl
or_swap false true c = refl
or_swap false false c = refl

pub after_alike : (xs : List Name) (env : Environment) → Alike (names_after xs env) (names_of env ++ xs)
unfolding is_listed
after_alike xs [] x = refl
after_alike xs (e ∷ es) x = after_alike (e.0 ∷ xs) es x ∙ behind (names_of es)
  where
    behind : (ys : List Name) → is_listed (ys ++ e.0 ∷ xs) x ≡ (same_name e.0 x || is_listed (ys ++ xs) x)
    behind [] = refl
    behind (y ∷ ys) = ap (λ b. same_name y x || b) (behind ys) ∙ or_swap (same_name y x) (same_name e.0 x) (is_listed (ys ++ xs) x)

pub names_append : (a b : Environment) → names_of (a ++ b) ≡ names_of a ++ names_of b
names_append [] b = refl
names_append (e ∷ es) b = ap (λ xs. e.0 ∷ xs) (names_append es b)

no_more : (xs : List Name) → xs ++ [] ≡ xs
no_more [] = refl
no_more (x ∷ xs) = ap (λ ys. x ∷ ys) (no_more xs)

pub new-append : (xs : List Name) (env more : Environment) → AreNew xs env → AreNew (names_after xs env) more → AreNew xs (env ++ more)
new-append xs [] more h k = k
new-append xs (e ∷ es) more h k = (h.0, new-append (e.0 ∷ xs) es more h.1 k)

-- what is not taken is new
pub untaken_new : (taken xs : List Name) (more : Environment) → Alike taken xs → first_taken taken (names_of more) ≡ None → AreNew xs more
unfolding first_taken
untaken_new taken xs [] a h = tt
untaken_new taken xs (e ∷ es) a h = by (is_listed taken e.0) refl h (λ k. untaken_new (e.0 ∷ taken) (e.0 ∷ xs) es (alike_more e.0 taken xs a) k)
  where
    by :
        (b : Bool) → is_listed taken e.0 ≡ b → ◌≡◌ {A = Option Fault} (elim b [ true ↦ Some (name_taken e.0) | false ↦ first_taken (e.0 ∷ taken) (names_of es) ]) None
        → (first_taken (e.0 ∷ taken) (names_of es) ≡ None → AreNew (e.0 ∷ xs) es) → AreNew xs (e ∷ es)
    by true f k m = absurd cc
    by false f k m = (sym (a e.0) ∙ f, m k)

-- an environment with more, whose names are new
pub env-append :
    (bank : Terms) (ds es : List (NameId × Declared)) → IsEnv bank ds → first_taken (names_of (env_of bank ds)) (names_of (env_of bank es)) ≡ None
    → AreDeclared bank (env_of bank (ds ++ es)) es → IsEnv bank (ds ++ es)
env-append bank ds es p h k =
    let keeps : Keeps (env_of bank ds) (env_of bank (ds ++ es)) = subst (Keeps (env_of bank ds)) (sym (env_of-append bank ds es)) (keeps-append (env_of bank ds) (env_of bank es)) in
    let listed : Alike (names_of (env_of bank ds)) (names_after [] (env_of bank ds)) =
    λ x. sym (after_alike [] (env_of bank ds) x ∙ ap (λ xs. is_listed xs x) (no_more (names_of (env_of bank ds)))) in
    record {
      declared = declared-append bank (env_of bank (ds ++ es)) ds es (AreDeclared-more bank (env_of bank ds) (env_of bank (ds ++ es)) keeps ds p.declared) k;
      distinct = subst (AreNew []) (sym (env_of-append bank ds es))
          (new-append [] (env_of bank ds) (env_of bank es) p.distinct (untaken_new (names_of (env_of bank ds)) (names_after [] (env_of bank ds)) (env_of bank es) listed h));
    }

-- a name is listed exactly where it is declared
pub listed_none : (bank : Terms) (x : NameId) → IsOwn bank x → (env : Environment) (ds : List (NameId × Declared)) → AreDeclared bank env ds → declared_of ds x ≡ None → is_listed (names_of (env_of bank ds)) (text_of bank x) ≡ false
unfolding is_listed
listed_none bank x own env [] p e = refl
listed_none bank x own env (d ∷ ds) p e = either (x.place == d.0.place) (same_name (text_of bank d.0) (text_of bank x)) e (same_turned bank x d.0 own p.0.name) (λ f. listed_none bank x own env ds p.1 f)
  where
    either :
        (a b : Bool) → (if a then Some d.1 else declared_of ds x) ≡ None → b ≡ a → (declared_of ds x ≡ None → is_listed (names_of (env_of bank ds)) (text_of bank x) ≡ false)
        → (b || is_listed (names_of (env_of bank ds)) (text_of bank x)) ≡ false
    either true true e s k = absurd cc
    either true false e s k = absurd cc
    either false true e s k = absurd cc
    either false false e s k = k e

pub listed_some : (bank : Terms) (x : NameId) → IsOwn bank x → (env : Environment) (ds : List (NameId × Declared)) (v : Declared) → AreDeclared bank env ds → declared_of ds x ≡ Some v → is_listed (names_of (env_of bank ds)) (text_of bank x) ≡ true
unfolding is_listed
listed_some bank x own env [] v p e = absurd cc
listed_some bank x own env (d ∷ ds) v p e = either (x.place == d.0.place) (same_name (text_of bank d.0) (text_of bank x)) e (same_turned bank x d.0 own p.0.name) (λ f. listed_some bank x own env ds v p.1 f)
  where
    either :
        (a b : Bool) → (if a then Some d.1 else declared_of ds x) ≡ Some v → b ≡ a → (declared_of ds x ≡ Some v → is_listed (names_of (env_of bank ds)) (text_of bank x) ≡ true)
        → (b || is_listed (names_of (env_of bank ds)) (text_of bank x)) ≡ true
    either a true e s k = refl
    either true false e s k = absurd cc
    either false false e s k = k e

-- one more declaration, or its refusal
module _ (bank : Terms) (ds : List (NameId × Declared)) (x : NameId) (v : Declared) (p : IsEnv bank ds) (own : IsOwn bank x) where
  abbrev pub after : Result Environment Fault
  after = elim (is_listed (names_of (env_of bank ds)) (text_of bank x)) [ true ↦ Err (name_taken (text_of bank x)) | false ↦ Ok (env_of bank ds ++ (text_of bank x, entry_of bank v.entry) ∷ []) ]

  pub added : declared_of ds x ≡ None → IsDeclared bank (env_of bank (ds ++ (x, v) ∷ [])) (x, v) → Adds bank (Ok tt) (ds ++ (x, v) ∷ []) after
  unfolding first_taken
  added e h =
      let l : is_listed (names_of (env_of bank ds)) (text_of bank x) ≡ false = listed_none bank x own (env_of bank ds) ds p.declared e in (
        env-append bank ds ((x, v) ∷ []) p (ap (λ (b : Bool). elim b [ true ↦ Some (name_taken (text_of bank x)) | false ↦ None ]) l) (h, tt),
        ap (λ (b : Bool). elim b [ true ↦ Err (name_taken (text_of bank x)) | false ↦ Ok (env_of bank ds ++ (text_of bank x, entry_of bank v.entry) ∷ []) ]) l ∙ ap Ok (sym (env_of-append bank ds ((x, v) ∷ []))),
      )

  pub refused : (e : EnvFault) (new : List (NameId × Declared)) → TakenOr ds x e → Adds bank (Err e) new after
  refused e new (inr k) = subst (λ z. Adds bank (Err z) new after) (sym k) tt
  refused e new (inl k) =
      subst (λ z. Adds bank (Err z) new after) (sym k.0)
      (own.has, ap (λ (b : Bool). fault_in (elim b [ true ↦ Err (name_taken (text_of bank x)) | false ↦ Ok (env_of bank ds ++ (text_of bank x, entry_of bank v.entry) ∷ []) ])) (listed_some bank x own (env_of bank ds) ds k.1 p.declared k.2))

  -- either
  pub adds : (r : Result (Unit {0}) EnvFault) (new : List (NameId × Declared)) → OnOk r (declared_of ds x ≡ None) → OnOk r (new ≡ ds ++ (x, v) ∷ []) → IfErr r (TakenOr ds x)
      → IsDeclared bank (env_of bank (ds ++ (x, v) ∷ [])) (x, v) → Adds bank r new after
  adds (Ok ok) new e is k h = subst (λ z. Adds bank (Ok ok) z after) (sym is) (added e h)
  adds (Err e) new n is k h = refused e new k

pub adds_constant :
    (bank : Terms) (ds : List (NameId × Declared)) (x : NameId) (A t : TermId) (opaque : Bool) (r : Result (Unit {0}) EnvFault) (new : List (NameId × Declared)) → IsEnv bank ds → IsOwn bank x → IsClosed bank 0 A
    → IsClosed bank 0 t → OnOk r (declared_of ds x ≡ None) → OnOk r (new ≡ ds ++ (x, record { entry = Entry.Constant A t opaque; kind = Some A; made = None }) ∷ []) → IfErr r (TakenOr ds x)
    → Adds bank r new (add_constant (env_of bank ds) (text_of bank x) (tree_of bank A) (tree_of bank t) opaque)
unfolding add_constant
adds_constant bank ds x A t opaque r new p own h k n is e =
    adds bank ds x (record { entry = Entry.Constant A t opaque; kind = Some A; made = None }) p own r new n is e (record { name = own.has; entry = (h, k); kind = refl; made = refl })

pub adds_arity :
    (bank : Terms) (ds : List (NameId × Declared)) (x : NameId) (A : TermId) (r : Result (Unit {0}) EnvFault) (new : List (NameId × Declared)) → IsEnv bank ds → IsOwn bank x → IsClosed bank 0 A
    → OnOk r (declared_of ds x ≡ None) → OnOk r (new ≡ ds ++ (x, record { entry = Entry.Arity A; kind = Some A; made = None }) ∷ []) → IfErr r (TakenOr ds x)
    → Adds bank r new (with_arity (env_of bank ds) (text_of bank x) (tree_of bank A))
adds_arity bank ds x A r new p own h n is e =
    adds bank ds x (record { entry = Entry.Arity A; kind = Some A; made = None }) p own r new n is e (record { name = own.has; entry = h; kind = refl; made = refl })
