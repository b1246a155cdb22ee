-- New variables, by the calls of the store and of the bank.
use Rattle.std.proofs.Common.{◌≡◌, ◌<◌, ◌≤◌, ◌+◌, ◌∙◌, ℕ, zero, suc, refl, sym, ap, ap₂, arith, List, [], ◌∷◌, ◌++◌, map, length, take, get_or, Option, None, Some, Result, Ok, Err, IfOk}
use Rattle.std.proofs.Common.{OnOk}
use Rattle.std.proofs.Common.{subst as along}
use Rattle.std.specs.Prelude.{option_map}
use Rattle.std.specs.List.{AllByRecursion}
use Rattle.std.proofs.lemmas.List.{take_more, take_all}
use Rattle.lq_trees.specs.Tree.{Name, Tree, Context, Hypothesis as TreeHypothesis, more}
use Rattle.lq_trees.specs.Tree.Tree.{Var, Evar}
use Rattle.lq_trees.specs.Ticks.{gives, fails, ◌>>=◌, done, ComesTo}
use Rattle.lq_trees.proofs.Outcomes.{comes_gives, comes_fails}
use Rattle.lq_calculus.specs.Declarations.{variables}
use Rattle.lq_calculus.proofs.ConvSound.{done_gives}
use Rattle.lq_terms.specs.declared.nodes.Hypothesis.{Hypothesis}
use Rattle.lq_terms.specs.declared.nodes.NameId.{NameId}
use Rattle.lq_terms.specs.declared.nodes.TermId.{TermId}
use Rattle.lq_terms.specs.Terms.{Terms, HasName, HasTerm, IsTerm, AreTerms, Grows, text_of, tree_of, trees_by}
use Rattle.lq_terms.specs.Contexts.{HasContext, hypothesis_of, context_of}
use Rattle.lq_terms.proofs.Growth.{Grows-refl, Grows-trans}
use Rattle.lq_solving.specs.Stores.{Variable as TreeVariable, Store, instance_list, own_instance, new_variable, store_full, names_in}
use Rattle.lq_solving.specs.Stores.{named_variable}
use Rattle.lq_solving.specs.Kept.{IsContext, IsStore, Stands}
use Rattle.lq_solving.specs.ElabFaults.{by_store, store_fault, full}
use Rattle.lq_solving.specs.Elaboration.{Found, found, made}
use Rattle.lq_solving.proofs.ElabKept.{Grown, made_grown}
use Rattle.lq_solving.proofs.StoreLaws.{all_more}
use Rattle.lq_evars.specs.declared.store.StoreFault.{StoreFault}
use Rattle.lq_evars.specs.declared.store.Variable.{Variable}
use Rattle.lq_evars.specs.Places.{Places, store_of, variable_of, HasVariable, HasStore, HasNameOr, Makes, one_more, IsOwn, IsOwnOr, IsNewName}
use Rattle.lq_evars.proofs.Growing.{store_of-grown}
use Rattle.lq_evars.proofs.Lookups.{numbers_told}
use Rattle.lq_typing.specs.declared.faults.ElabFault.{ElabFault}
use Rattle.lq_elab.specs.declared.finding.Found.{Found as CodeFound}
use Rattle.lq_elab.specs.Answers.{Comes, found_of}
use Rattle.lq_elab.specs.Agreeing.{read_fault}
use Rattle.lq_terms.proofs.Tellings.{context_of-grown}
use Rattle.lq_elab.proofs.AnswerLaws.{comes_as}
use Rattle.lq_elab.proofs.FrameLaws.{context_more}

-- the entries of an instance
pub entries_are : (bank : Terms) (ts : List TermId) → trees_by (tree_of bank) ts ≡ instance_list (map (tree_of bank) ts)
unfolding instance_list
entries_are bank [] = refl
entries_are bank (t ∷ ts) = ap (more (tree_of bank t)) (entries_are bank ts)

-- the store has one variable more
pub has_more : (bank : Terms) (s : Places) (v : Variable) → HasStore bank s → HasContext bank v.context → HasTerm bank v.kind → IsOwnOr bank v.name → HasStore bank (one_more s v)
has_more bank s v h c k own = record {
  variables = all_more (HasVariable bank) s.variables v h.variables (record { context = c; kind = k; name = named v.name own });
  values = h.values;
}
  where
    named : (o : Option NameId) → IsOwnOr bank o → HasNameOr bank o
    named None q = tt
    named (Some x) q = q.has

-- the new variable of the definition
module _ (g : Context) (S : Store) (A : Tree) (x : Option Name) where
  abbrev v : TreeVariable
  v = record { context = g; kind = A; name = x }

  pub made_is : (S1 : Store) (k : ℕ) → new_variable S v ≡ Ok (S1, k) → made g S A x ≡ gives (found S1 (Evar k (own_instance g)) A)
  unfolding made by_store ◌>>=◌
  made_is S1 k e = ap (λ r. by_store r >>= (λ q. gives (found q.0 (Evar q.1 (own_instance g)) A))) e

  pub made_full : new_variable S v ≡ Err store_full → made g S A x ≡ fails full
  unfolding made by_store store_fault ◌>>=◌
  made_full e = ap (λ r. by_store r >>= (λ q. gives (found q.0 (Evar q.1 (own_instance g)) A))) e

-- by the calls: a variable is made, and then the term of it
module _ (old new : Terms) (grows : Grows old new) (s s1 : Places) (hs : List Hypothesis) (kind : TermId) (name : Option NameId) (has1 : HasStore old s1) (hk : HasTerm old kind) where
  abbrev V : TreeVariable
  V = variable_of old (record { context = hs; kind = kind; name = name })

  pub made_comes : (k : ℕ) (ts : List TermId) (t : TermId) → new_variable (store_of old s) V ≡ Ok (store_of old s1, k) → AreTerms old ts (own_instance (context_of old hs)) → IsTerm new t (Evar k (trees_by (tree_of old) ts)) → (left : ℕ) →
      ComesTo (λ n. made (context_of old hs) (store_of old s) (tree_of old kind) (option_map (text_of old) name)) left (done (found (store_of new s1) (tree_of new t) (tree_of new kind)) left)
  made_comes k ts t e are is left =
      along (λ z. ComesTo (λ n. made (context_of old hs) (store_of old s) (tree_of old kind) (option_map (text_of old) name)) left (done z left)) (sym same)
      (comes_gives (λ n. made (context_of old hs) (store_of old s) (tree_of old kind) (option_map (text_of old) name)) (found (store_of old s1) (Evar k (own_instance (context_of old hs))) (tree_of old kind)) left
      (λ n. made_is (context_of old hs) (store_of old s) (tree_of old kind) (option_map (text_of old) name) (store_of old s1) k e))
    where
      same : found (store_of new s1) (tree_of new t) (tree_of new kind) ≡ found (store_of old s1) (Evar k (own_instance (context_of old hs))) (tree_of old kind)
      same =
          ap (λ z. found z (tree_of new t) (tree_of new kind)) (store_of-grown old new grows s1 has1)
          ∙ ap (λ z. found (store_of old s1) z (tree_of new kind)) (is.is ∙ ap (Evar k) are.are)
          ∙ ap (λ z. found (store_of old s1) (Evar k (own_instance (context_of old hs))) z) (grows.tree kind hk)

-- a refusal of the store
pub made_refused : (bank : Terms) (s s1 : Places) (hs : List Hypothesis) (kind : TermId) (name : Option NameId) (f : StoreFault) →
    Makes bank (Err f) s1 (new_variable (store_of bank s) (variable_of bank (record { context = hs; kind = kind; name = name }))) → (later : Terms) (C : CodeFound → Found) (left : ℕ) →
    Comes later C (Err (read_fault f)) (λ n. made (context_of bank hs) (store_of bank s) (tree_of bank kind) (option_map (text_of bank) name)) left left
made_refused bank s s1 hs kind name StoreFault.TooLarge h later C left = absurd h
made_refused bank s s1 hs kind name StoreFault.TooDeep h later C left = absurd h
made_refused bank s s1 hs kind name StoreFault.Full h later C left =
    comes_fails (λ n. made (context_of bank hs) (store_of bank s) (tree_of bank kind) (option_map (text_of bank) name)) full left
    (λ n. made_full (context_of bank hs) (store_of bank s) (tree_of bank kind) (option_map (text_of bank) name) h)
made_refused bank s s1 hs kind name StoreFault.NoMemory h later C left = tt

-- ---- each hypothesis for itself

vars_more : (g : Context) (h : TreeHypothesis) → variables (g ++ h ∷ []) ≡ variables g ++ Var h.name ∷ []
unfolding variables
vars_more [] h = refl
vars_more (k ∷ g) h = ap (λ z. Var k.name ∷ z) (vars_more g h)

trees_more : (bank : Terms) (ts : List TermId) (t : TermId) → map (tree_of bank) (ts ++ t ∷ []) ≡ map (tree_of bank) ts ++ tree_of bank t ∷ []
trees_more bank [] t = refl
trees_more bank (u ∷ ts) t = ap (λ z. tree_of bank u ∷ z) (trees_more bank ts t)

trees_grown : (old new : Terms) → Grows old new → (ts : List TermId) → AllByRecursion (HasTerm old) ts → (map (tree_of new) ts ≡ map (tree_of old) ts) × AllByRecursion (HasTerm new) ts
trees_grown old new g [] h = (refl, tt)
trees_grown old new g (t ∷ ts) h = let r = trees_grown old new g ts h.1 in (ap₂ (λ a b. a ∷ b) (g.tree t h.0) r.0, (omega (arith, h.0, g.nodes), r.1))

pub name_at : (bank : Terms) (hs : List Hypothesis) → HasContext bank hs → (i : ℕ) (d : Hypothesis) → i < length hs → HasName bank (get_or hs i d).name
name_at bank [] h i d l = absurd (omega (arith, l))
name_at bank (y ∷ hs) h zero d l = h.0.name
name_at bank (y ∷ hs) h (suc i) d l = name_at bank hs h.1 i d (omega (arith, l))

-- the entries so far
pub record AreOwn (old bank : Terms) (hs : List Hypothesis) (i : ℕ) (ts : List TermId) : Type 0 where
  pub grows : Grows old bank
  pub terms : AllByRecursion (HasTerm bank) ts
  pub are : map (tree_of bank) ts ≡ variables (context_of old (take i hs))

pub own_none : (bank : Terms) (hs : List Hypothesis) → AreOwn bank bank hs 0 []
unfolding variables
own_none bank hs = record { grows = Grows-refl bank; terms = tt; are = refl }

pub own_more : (old bank new : Terms) (hs : List Hypothesis) → HasContext old hs → (i : ℕ) (d : Hypothesis) → i < length hs → (ts : List TermId) → AreOwn old bank hs i ts → Grows bank new → (t : TermId) → IsTerm new t (Var (text_of bank (get_or hs i d).name)) →
    AreOwn old new hs (i + 1) (ts ++ t ∷ [])
own_more old bank new hs c i d l ts h g t made =
    let r = trees_grown bank new g ts h.terms in record {
      grows = Grows-trans old bank new h.grows g;
      terms = all_more (HasTerm new) ts t r.1 made.has;
      are =
          trees_more new ts t ∙ ap₂ (λ a b. a ++ b ∷ []) (r.0 ∙ h.are) (made.is ∙ ap Var (h.grows.text (get_or hs i d).name (name_at old hs c i d l)))
          ∙ sym (ap (λ k. variables (context_of old k)) (take_more hs i d l) ∙ ap variables (context_more old (take i hs) (get_or hs i d)) ∙ vars_more (context_of old (take i hs)) (hypothesis_of old (get_or hs i d)));
    }

pub own_all : (old bank : Terms) (hs : List Hypothesis) (i : ℕ) → length hs ≤ i → (ts : List TermId) → AreOwn old bank hs i ts → AreTerms bank ts (own_instance (context_of old hs))
unfolding own_instance
own_all old bank hs i l ts h = record {
  has = h.terms;
  are = entries_are bank ts ∙ ap instance_list (h.are ∙ ap (λ k. variables (context_of old k)) (take_all i hs l));
}

-- ---- by the call of the store

module _ (old : Terms) (s s1 : Places) (hs own : List Hypothesis) (same : own ≡ hs) (kind : TermId) (name : Option NameId) (has : HasStore old s) (c : HasContext old hs) (hk : HasTerm old kind) (o : IsOwnOr old name)
    (added : s1 ≡ one_more s (record { context = own; kind = kind; name = name })) where
  pub added_has : HasStore old s1
  added_has = along (HasStore old) (sym (added ∙ ap (λ z. one_more s (record { context = z; kind = kind; name = name })) same)) (has_more old s (record { context = hs; kind = kind; name = name }) has c hk o)

  pub added_comes : (new : Terms) (g : Grows old new) (k : ℕ) (ts : List TermId) (t : TermId) → new_variable (store_of old s) (variable_of old (record { context = own; kind = kind; name = name })) ≡ Ok (store_of old s1, k) →
      AreTerms old ts (own_instance (context_of old hs)) → IsTerm new t (Evar k (trees_by (tree_of old) ts)) → (left : ℕ) →
      ComesTo (λ n. made (context_of old hs) (store_of old s) (tree_of old kind) (option_map (text_of old) name)) left (done (found (store_of new s1) (tree_of new t) (tree_of new kind)) left)
  added_comes new g k ts t told are is left =
      made_comes old new g s s1 hs kind name added_has hk k ts t
      (along (λ z. new_variable (store_of old s) (variable_of old (record { context = z; kind = kind; name = name })) ≡ Ok (store_of old s1, k)) same told) are is left

-- the name is one of the bank's own later
pub own_later : (old new : Terms) → Grows old new → ((x y : NameId) → HasName new x → HasName new y → text_of new x ≡ text_of new y → x ≡ y) → (name : Option NameId) → IsOwnOr old name → IsOwnOr new name
own_later old new g apart None h = tt
own_later old new g apart (Some x) h = let k : HasName new x = omega (arith, h.has, g.names) in record { has = k; apart = λ y hy e. apart y x hy k e }

-- the same name, in both banks
pub name_same : (old new : Terms) → Grows old new → (name : Option NameId) → IsOwnOr old name → option_map (text_of new) name ≡ option_map (text_of old) name
name_same old new g None h = refl
name_same old new g (Some x) h = ap Some (g.text x h.has)

-- no variable has it
pub no_named : (bank : Terms) (s : Places) → HasStore bank s → (name : Option NameId) → IsOwnOr bank name → IsNewName s name → (x : Name) → option_map (text_of bank) name ≡ Some x → named_variable (store_of bank s) x ≡ None
no_named bank s h None o new x e = absurd (grind (arith, e))
no_named bank s h (Some y) o new x e = along (λ z. named_variable (store_of bank s) z ≡ None) (some_name (text_of bank y) x e) (sym (numbers_told bank s y h o) ∙ new)
  where
    some_name : (a b : Name) → ◌≡◌ {A = Option Name} (Some a) (Some b) → a ≡ b
    some_name a b q = grind (arith, q)

-- the variable was made in a bank that had grown
module _ (old mid new : Terms) (g : Grows old mid) (s s1 : Places) (hs : List Hypothesis) (kind : TermId) (name : Option NameId) (has : HasStore old s) (c : HasContext old hs) (hk : HasTerm old kind) (o : IsOwnOr old name) (q : Result CodeFound ElabFault)
    (answer : (left : ℕ) → Comes new (found_of new s1) q (λ n. made (context_of mid hs) (store_of mid s) (tree_of mid kind) (option_map (text_of mid) name)) left left) where
  same_made : (n : ℕ) → made (context_of old hs) (store_of old s) (tree_of old kind) (option_map (text_of old) name) ≡ made (context_of mid hs) (store_of mid s) (tree_of mid kind) (option_map (text_of mid) name)
  same_made n =
      ap₂ (λ a b. made a b (tree_of old kind) (option_map (text_of old) name)) (sym (context_of-grown old mid g hs c)) (sym (store_of-grown old mid g s has))
      ∙ ap₂ (made (context_of mid hs) (store_of mid s)) (sym (g.tree kind hk)) (sym (name_same old mid g name o))

  pub made_answer : (left : ℕ) → Comes new (found_of new s1) q (λ n. made (context_of old hs) (store_of old s) (tree_of old kind) (option_map (text_of old) name)) left left
  made_answer left =
      comes_as new (found_of new s1) q (λ n. made (context_of old hs) (store_of old s) (tree_of old kind) (option_map (text_of old) name)) (λ n. made (context_of mid hs) (store_of mid s) (tree_of mid kind) (option_map (text_of mid) name)) left left
      same_made (answer left)

  module _ (i : IsStore (store_of old s)) (ctx : IsContext (store_of old s) (context_of old hs)) (stands : Stands (store_of old s) (names_in (context_of old hs)) (tree_of old kind)) (fresh : IsNewName s name) where
    finds : (r : CodeFound) → ComesTo (λ n. made (context_of old hs) (store_of old s) (tree_of old kind) (option_map (text_of old) name)) 0 (done (found_of new s1 r) 0) →
        Grown (store_of old s) (store_of new s1) × Stands (store_of new s1) (names_in (context_of old hs)) (tree_of new r.term) × Stands (store_of new s1) (names_in (context_of old hs)) (tree_of new r.kind)
    finds r h =
        made_grown (context_of old hs) (store_of old s) (tree_of old kind) (option_map (text_of old) name) (found_of new s1 r) i ctx stands (no_named old s has name o fresh)
        (done_gives 0 (made (context_of old hs) (store_of old s) (tree_of old kind) (option_map (text_of old) name)) (found_of new s1 r) 0 (h 1 (omega arith)))

    pub made_store : OnOk q (Grown (store_of old s) (store_of new s1))
    made_store = go q (made_answer 0)
      where
        go : (r : Result CodeFound ElabFault) → Comes new (found_of new s1) r (λ n. made (context_of old hs) (store_of old s) (tree_of old kind) (option_map (text_of old) name)) 0 0 → OnOk r (Grown (store_of old s) (store_of new s1))
        go (Ok r) h = (finds r h).0
        go (Err y) h = tt

    pub made_stands : IfOk q (λ f. Stands (store_of new s1) (names_in (context_of old hs)) (tree_of new f.term))
    made_stands = go q (made_answer 0)
      where
        go : (r : Result CodeFound ElabFault) → Comes new (found_of new s1) r (λ n. made (context_of old hs) (store_of old s) (tree_of old kind) (option_map (text_of old) name)) 0 0 →
            IfOk r (λ f. Stands (store_of new s1) (names_in (context_of old hs)) (tree_of new f.term))
        go (Ok r) h = (finds r h).1
        go (Err y) h = tt

-- a name of the bank is its own
pub own_name : (bank : Terms) (x : NameId) → ((y z : NameId) → HasName bank y → HasName bank z → text_of bank y ≡ text_of bank z → y ≡ z) → HasName bank x → IsOwn bank x
own_name bank x apart has = record { has = has; apart = λ y hy e. apart y x hy has e }
