-- Constructors that calls elaborate one after the other.
use Rattle.std.proofs.Common.{◌≡◌, ◌∙◌, refl, sym, ap, ap₂, subst, arith, ℕ, ◌+◌, ◌<◌, ◌≤◌, List, [], ◌∷◌, ◌++◌, length, drop, get_or}
use Rattle.std.specs.Prelude.{map}
use Rattle.std.specs.List.{AllByRecursion}
use Rattle.std.proofs.lemmas.List.{drop_more, drop_all, map-append, length-append}
use Rattle.lq_trees.specs.Tree.{Name, Context}
use Rattle.lq_trees.specs.Index.{Within}
use Rattle.lq_trees.specs.Ticks.{done, ComesTo}
use Rattle.lq_calculus.specs.Declarations.{Env}
use Rattle.lq_ast.specs.Syntax.{Surface}
use Rattle.lq_ast.specs.Plain.{plain}
use Rattle.lq_ast.specs.PlainCommands.{plain_constructor}
use Rattle.lq_ast.specs.declared.sentence.Constructor.{Constructor}
use Rattle.lq_terms.specs.declared.nodes.NameId.{NameId}
use Rattle.lq_terms.specs.declared.nodes.TermId.{TermId}
use Rattle.lq_terms.specs.declared.nodes.Hypothesis.{Hypothesis}
use Rattle.lq_terms.specs.Terms.{Terms, IsName, Grows, tree_of}
use Rattle.lq_terms.specs.Contexts.{HasContext, context_of}
use Rattle.lq_terms.proofs.Tellings.{context_of-grown}
use Rattle.lq_env.specs.declared.environment.Declared.{Declared}
use Rattle.lq_env.specs.Environments.{IsEnv, env_of}
use Rattle.lq_env.specs.Families.{HasConstructor, constructor_of, constructors_of}
use Rattle.lq_env.proofs.Families.{constructors_of-grown}
use Rattle.lq_env.proofs.Grown.{env_of-grown}
use Rattle.lq_env.proofs.Loops.{all_push}
use Rattle.lq_solving.specs.Elaboration.{Found, found}
use Rattle.lq_solving.specs.Kept.{IsOver, IsStore, IsContext}
use Rattle.lq_solving.specs.Stores.{Store}
use Rattle.lq_solving.proofs.ElabKept.{Grown, grown_now, grown_then}
use Rattle.lq_solving.proofs.StoreLaws.{context_keeps}
use Rattle.lq_evars.specs.Places.{Places, store_of, HasStore}
use Rattle.lq_goals.specs.Seen.{IsReadable}
use Rattle.lq_sessions.specs.Sessions.{Work}
use Rattle.lq_sessions.specs.Declaring.{type_work, constructors_work}
use Rattle.lq_declaring.specs.Families.{CanReadIt}
use Rattle.lq_causes.specs.declared.stops.Stop.{Stop}
use Rattle.lq_causes.specs.Stopping.{Stops}
use Rattle.lq_elaborated.specs.declared.terms.Typed.{Typed}
use Rattle.lq_elaborated.specs.Families.{IsConstructor, AreConstructors}
use Rattle.lq_elaborated.specs.Finding.{IsTyped, found_in}
use Rattle.lq_elaborated.proofs.ConstructorLaws.{ConstructorsLead, lead_itself, lead_next, lead_end, lead_stops}
use Rattle.lq_elaborated.proofs.DefineLaws.{readable}
use Rattle.lq_elaborated.proofs.FindLaws.{found_same, typed_grown}

-- a constructor's type that was elaborated, and its name in a bank that has grown
pub constructor_is : (old new : Terms) → Grows old new → (S : Store) (s : Places) (c : Context) (e : Typed) → IsTyped old S s c e → (x : NameId) (name : Name) → IsName new x name → (f : ℕ → Work Found) (b left : ℕ) →
    ComesTo f b (done (found_in old s e) left) → IsConstructor new S s name f b left (x, e.term)
constructor_is old new g S s c e h x name n f b left w =
    let t = typed_grown old new g S s c e h in
    record {
      store = t.store;
      grown = t.grown;
      name = n.has;
      name_is = n.is;
      readable = (readable new S s c e t).0;
      kind = tree_of new e.kind;
      work = subst (λ F. ComesTo f b (done F left)) (sym (found_same old new g S s c e h)) w;
    }

-- ---- those that can be read still can where bank and store have grown

can_more : (old new : Terms) → Grows old new → (s s1 : Places) → Grown (store_of old s) (store_of new s1) → (cs : List (NameId × TermId)) → AllByRecursion (CanReadIt old s) cs → AllByRecursion (CanReadIt new s1) cs
can_more old new g s s1 m [] k = tt
can_more old new g s s1 m (c ∷ cs) k = (
  (
    omega (arith, k.0.0, g.names),
    record {
      has = omega (arith, k.0.1.has, g.nodes);
      over = subst (IsOver (store_of new s1).variables) (sym (g.tree c.1 k.0.1.has)) (m.over (tree_of old c.1) k.0.1.over);
      within = subst (Within 0) (sym (g.tree c.1 k.0.1.has)) k.0.1.within;
    },
  ),
  can_more old new g s s1 m cs k.1,
)

have_all : (bank : Terms) (s : Places) (cs : List (NameId × TermId)) → AllByRecursion (CanReadIt bank s) cs → AllByRecursion (HasConstructor bank) cs
have_all bank s [] k = tt
have_all bank s (c ∷ cs) k = ((k.0.0, k.0.1.has), have_all bank s cs k.1)

-- ---- on the way through the constructors

-- so many are elaborated, and those that are left lead to the outcome of all
pub record AreSoFar (bank : Terms) (E : Env) (ps : Context) (S : Store) (s : Places) (cs : List Constructor) (i : ℕ) (b : ℕ) (made : List (NameId × TermId)) (left : ℕ) : Type 0 where
  pub store : HasStore bank s
  pub grown : Grown S (store_of bank s)
  pub readable : AllByRecursion (CanReadIt bank s) made
  pub leads : ConstructorsLead E ps S (map plain_constructor cs) b (constructors_of bank made) (store_of bank s) (map plain_constructor (drop i cs)) left
  pub few : length made ≡ i

pub so_far_begins : (bank : Terms) (E : Env) (ps : Context) (s : Places) → HasStore bank s → IsStore (store_of bank s) → (cs : List Constructor) (b : ℕ) (made : List (NameId × TermId)) → made ≡ [] →
    AreSoFar bank E ps (store_of bank s) s cs 0 b made b
so_far_begins bank E ps s h k cs b made e =
    subst (λ m. AreSoFar bank E ps (store_of bank s) s cs 0 b m b) (sym e) (record {
      store = h;
      grown = grown_now (store_of bank s) k;
      readable = tt;
      leads = lead_itself E ps (store_of bank s) (map plain_constructor cs) b;
      few = refl;
    })

-- the context stands still
pub context_stands : (b0 bank : Terms) → Grows b0 bank → (S : Store) (s : Places) (hs : List Hypothesis) → HasContext b0 hs → IsContext S (context_of b0 hs) → Grown S (store_of bank s) → IsContext (store_of bank s) (context_of bank hs)
context_stands b0 bank g S s hs h c m =
    subst (IsContext (store_of bank s)) (sym (context_of-grown b0 bank g hs h)) (context_keeps S (store_of bank s) m.keeps [] (context_of b0 hs) c)

module _ (b0 mid : Terms) (g0 : Grows b0 mid) (ds : List (NameId × Declared)) (env : IsEnv b0 ds) (hs : List Hypothesis) (has : HasContext b0 hs) (S : Store) (s : Places) (cs : List Constructor) (i : ℕ) (b : ℕ) (made : List (NameId × TermId)) (left : ℕ)
    (h : AreSoFar mid (env_of b0 ds) (context_of b0 hs) S s cs i b made left) where
  abbrev one_work : Constructor → ℕ → Work Found
  one_work c n = type_work (env_of mid ds) n (context_of mid hs) (store_of mid s) (plain c.kind)

  abbrev one_then : Constructor → ℕ → Work Found
  one_then c n = type_work (env_of b0 ds) n (context_of b0 hs) (store_of mid s) (plain c.kind)

  work_is : (c : Constructor) → one_work c ≡ one_then c
  work_is c = ap₂ (λ E ps n. type_work E n ps (store_of mid s) (plain c.kind)) (env_of-grown b0 mid g0 ds env) (context_of-grown b0 mid g0 hs has)

  abbrev leads_on : List (Name × Surface) → Type 0
  leads_on rest = ConstructorsLead (env_of b0 ds) (context_of b0 hs) S (map plain_constructor cs) b (constructors_of mid made) (store_of mid s) rest left

  module _ (l : i < length cs) (c : Constructor) (at : c ≡ get_or cs i c) where
    leads_here : leads_on ((c.name, plain c.kind) ∷ map plain_constructor (drop (i + 1) cs))
    unfolding plain_constructor
    leads_here =
        subst (λ z. leads_on (plain_constructor z ∷ map plain_constructor (drop (i + 1) cs))) (sym at)
        (subst (λ z. leads_on (map plain_constructor z)) (drop_more cs i c l) h.leads)

    -- one more
    pub so_far_goes : (new : Terms) → Grows mid new → (s1 : Places) (p : NameId × TermId) (more : List (NameId × TermId)) (l2 : ℕ) → IsConstructor new (store_of mid s) s1 c.name (one_work c) left l2 p → more ≡ made ++ p ∷ [] →
        AreSoFar new (env_of b0 ds) (context_of b0 hs) S s1 cs (i + 1) b more l2
    so_far_goes new g s1 p more l2 k e =
        subst (λ m. AreSoFar new (env_of b0 ds) (context_of b0 hs) S s1 cs (i + 1) b m l2) (sym e) (record {
          store = k.store;
          grown = grown_then S (store_of mid s) (store_of new s1) h.grown k.grown;
          readable = all_push (CanReadIt new s1) made p (can_more mid new g s s1 k.grown made h.readable) (k.name, k.readable);
          leads =
              subst (λ z. ConstructorsLead (env_of b0 ds) (context_of b0 hs) S (map plain_constructor cs) b z (store_of new s1) (map plain_constructor (drop (i + 1) cs)) l2) (sym made_is)
              (lead_next (env_of b0 ds) (context_of b0 hs) S (map plain_constructor cs) b (constructors_of mid made) (store_of mid s) (c.name, plain c.kind) (map plain_constructor (drop (i + 1) cs))
              (found (store_of new s1) (tree_of new p.1) k.kind) left l2 leads_here (subst (λ f. ComesTo f left (done (found (store_of new s1) (tree_of new p.1) k.kind) l2)) (work_is c) k.work));
          few = length-append made (p ∷ []) ∙ ap (λ z. z + 1) h.few;
        })
      where
        made_is : constructors_of new (made ++ p ∷ []) ≡ constructors_of mid made ++ (c.name, tree_of new p.1) ∷ []
        made_is =
            map-append (constructor_of new) made (p ∷ [])
            ∙ ap₂ (λ xs x. xs ++ (x, tree_of new p.1) ∷ []) (constructors_of-grown mid new g made (have_all mid s made h.readable)) k.name_is

    -- one is refused
    pub so_far_stops : (new : Terms) (l2 : ℕ) (stop : Stop) → Stops new stop (one_work c) left l2 → Stops new stop (λ n. constructors_work (env_of b0 ds) n (context_of b0 hs) S (map plain_constructor cs)) b l2
    so_far_stops new l2 stop k =
        lead_stops (env_of b0 ds) (context_of b0 hs) S (map plain_constructor cs) b new (constructors_of mid made) (store_of mid s) (c.name, plain c.kind) (map plain_constructor (drop (i + 1) cs)) left l2 stop leads_here
        (subst (λ f. Stops new stop f left l2) (work_is c) k)

  -- all are elaborated
  pub so_far_ends : length cs ≤ i → AreConstructors mid S s (λ n. constructors_work (env_of b0 ds) n (context_of b0 hs) S (map plain_constructor cs)) b left made
  so_far_ends l = record {
    store = h.store;
    grown = h.grown;
    readable = h.readable;
    work =
        lead_end (env_of b0 ds) (context_of b0 hs) S (map plain_constructor cs) b (constructors_of mid made) (store_of mid s) left
        (subst (λ z. leads_on (map plain_constructor z)) (drop_all i cs l) h.leads);
  }

-- what can be read still can where bank and store have grown
pub readable_more : (old new : Terms) → Grows old new → (s s1 : Places) → Grown (store_of old s) (store_of new s1) → (t : TermId) → IsReadable old s t → IsReadable new s1 t
readable_more old new g s s1 m t k = record {
  has = omega (arith, k.has, g.nodes);
  over = subst (IsOver (store_of new s1).variables) (sym (g.tree t k.has)) (m.over (tree_of old t) k.over);
  within = subst (Within 0) (sym (g.tree t k.has)) k.within;
}
