-- What the kernel needs of a bank stays as the bank grows.
use Rattle.std.proofs.Common.{◌≡◌, ◌∙◌, take, ℕ, refl, sym, ap, ap₂, subst, arith, List, [], ◌∷◌, ◌++◌, Option, Some, None}
use Rattle.std.specs.Prelude.{option_map, MatchOption}
use Rattle.lq_trees.specs.Tree.{Name, Tree, Context, Hypothesis as TreeHypothesis}
use Rattle.lq_trees.specs.Index.{Within}
use Rattle.lq_trees.specs.Change.{close}
use Rattle.lq_trees.specs.Fresh.{fresh, opened}
use Rattle.lq_trees.proofs.Reach.{within-close}
use Rattle.lq_terms.specs.declared.nodes.NameId.{NameId}
use Rattle.lq_terms.specs.declared.nodes.TermId.{TermId}
use Rattle.lq_terms.specs.declared.nodes.Hypothesis.{Hypothesis}
use Rattle.lq_terms.specs.Terms.{Terms, HasName, HasTerm, Grows, IsTerm, IsName, text_of, tree_of}
use Rattle.lq_terms.specs.declared.bank.BankMark.{BankMark}
use Rattle.lq_terms.specs.Mark.{mark_of, undone}
use Rattle.lq_terms.specs.Contexts.{hypothesis_of, context_of, HasBody, HasContext}
use Rattle.lq_terms.proofs.Growth.{Grows-trans}
use Rattle.lq_terms.proofs.Tellings.{context_of-grown as terms_context_of-grown}
use Rattle.lq_calculus.specs.Declarations.{Env as Environment}
use Rattle.lq_env.specs.declared.environment.Declared.{Declared}
use Rattle.lq_env.specs.Environments.{IsEnv, env_of}
use Rattle.lq_env.proofs.Grown.{IsEnv-grown as env_IsEnv-grown, env_of-grown as env_env_of-grown}
use Rattle.lq_kernel.specs.Closed.{IsScoped, IsBody, IsHypothesis, IsContext}
use Rattle.lq_kernel.specs.Steps.{IsType, IsVariable}
use Rattle.lq_kernel.proofs.Trees.{within-opened}

-- the bank has what the context names
pub has_context : (bank : Terms) (hs : List Hypothesis) → IsContext bank hs → HasContext bank hs
has_context bank [] p = tt
has_context bank (h ∷ hs) p = (record { name = p.0.name; body = has_body h.body p.0.body; kind = p.0.kind.has }, has_context bank hs p.1)
  where
    has_body : (o : Option TermId) → IsBody bank o → HasBody bank o
    has_body None q = tt
    has_body (Some t) q = q.has

module _ (old new : Terms) (g : Grows old new) where
  pub IsScoped-grown : (n : ℕ) (t : TermId) → IsScoped old n t → IsScoped new n t
  IsScoped-grown n t h = record { has = omega (arith, h.has, g.nodes); within = subst (Within n) (sym (g.tree t h.has)) h.within }

  pub IsBody-grown : (o : Option TermId) → IsBody old o → IsBody new o
  IsBody-grown None h = tt
  IsBody-grown (Some t) h = IsScoped-grown 0 t h

  pub IsContext-grown : (hs : List Hypothesis) → IsContext old hs → IsContext new hs
  IsContext-grown [] h = tt
  IsContext-grown (x ∷ xs) h =
      (record { name = omega (arith, h.0.name, g.names); body = IsBody-grown x.body h.0.body; kind = IsScoped-grown 0 x.kind h.0.kind }, IsContext-grown xs h.1)

  pub IsEnv-grown : (ds : List (NameId × Declared)) → IsEnv old ds → IsEnv new ds
  IsEnv-grown ds h = env_IsEnv-grown old new g ds h

  -- what they stand for stays
  pub context_at : (hs : List Hypothesis) (G : Context) → IsContext old hs → context_of old hs ≡ G → context_of new hs ≡ G
  context_at hs G h e = terms_context_of-grown old new g hs (has_context old hs h) ∙ e

  pub env_at : (ds : List (NameId × Declared)) (E : Environment) → IsEnv old ds → env_of old ds ≡ E → env_of new ds ≡ E
  env_at ds E h e = env_env_of-grown old new g ds h ∙ e

  pub tree_at : (t : TermId) (T : Tree) → HasTerm old t → tree_of old t ≡ T → tree_of new t ≡ T
  tree_at t T h e = g.tree t h ∙ e

  pub text_at : (x : NameId) (X : Name) → HasName old x → text_of old x ≡ X → text_of new x ≡ X
  text_at x X h e = g.text x h ∙ e

-- a type has no loose bound variable
pub type_scoped : (bank : Terms) (t : TermId) → IsType bank t (tree_of bank t) → IsScoped bank 0 t
type_scoped bank t h = record { has = h.term.has; within = h.within }

-- one more hypothesis
pub IsContext-push : (bank : Terms) (hs : List Hypothesis) (h : Hypothesis) → IsContext bank hs → IsHypothesis bank h → IsContext bank (hs ++ h ∷ [])
IsContext-push bank [] h p q = (q, tt)
IsContext-push bank (x ∷ xs) h p q = (p.0, IsContext-push bank xs h p.1 q)

pub context_of-push : (bank : Terms) (hs : List Hypothesis) (h : Hypothesis) → context_of bank (hs ++ h ∷ []) ≡ context_of bank hs ++ hypothesis_of bank h ∷ []
context_of-push bank [] h = refl
context_of-push bank (x ∷ xs) h = ap (λ ys. hypothesis_of bank x ∷ ys) (context_of-push bank xs h)

-- a type under a binder, closed
pub closed_scoped : (old new : Terms) (body rest : TermId) (x : NameId) → IsScoped old 0 body → IsTerm new rest (close (text_of old x) (tree_of old body)) → IsScoped new 1 rest
closed_scoped old new body rest x h made = record { has = made.has; within = subst (Within 1) (sym made.is) (within-close 0 (text_of old x) (tree_of old body) h.within) }

-- the name of a variable, by the hypotheses of a context
pub named_at : (old new : Terms) (hs ks : List Hypothesis) (binder y : NameId) → ks ≡ hs → IsName new y (fresh (context_of old ks) (text_of old binder)) → IsName new y (fresh (context_of old hs) (text_of old binder))
named_at old new hs ks binder y e h = subst (λ z. IsName new y (fresh (context_of old z) (text_of old binder))) e h

-- a hypothesis by its parts
made_of : {a b : Name} {o q : Option Tree} {s t : Tree} → a ≡ b → o ≡ q → s ≡ t → ◌≡◌ {A = TreeHypothesis} (record { name = a; body = o; kind = s }) (record { name = b; body = q; kind = t })
made_of e f k = rw (e, f, k) refl

module _ (old new : Terms) (g : Grows old new) where
  -- what a body stands for stays
  pub body_at : (o : Option TermId) (q : Option Tree) → IsBody old o → option_map (tree_of old) o ≡ q → option_map (tree_of new) o ≡ q
  body_at None q h e = e
  body_at (Some t) q h e = ap (λ z. Some z) (g.tree t h.has) ∙ e

  pub IsHypothesis-grown : (h : Hypothesis) → IsHypothesis old h → IsHypothesis new h
  IsHypothesis-grown h p = record { name = omega (arith, p.name, g.names); body = IsBody-grown old new g h.body p.body; kind = IsScoped-grown old new g 0 h.kind p.kind }

  pub hypothesis_at : (h : Hypothesis) (H : TreeHypothesis) → IsHypothesis old h → hypothesis_of old h ≡ H → hypothesis_of new h ≡ H
  hypothesis_at h H p e = made_of (g.text h.name p.name) (body_at h.body _ p.body refl) (g.tree h.kind p.kind.has) ∙ e

  -- a context that is as it was
  pub IsContext-kept : (hs ks : List Hypothesis) → ks ≡ hs → IsContext old hs → IsContext new ks
  IsContext-kept hs ks e h = subst (IsContext new) (sym e) (IsContext-grown old new g hs h)

  pub context_kept : (hs ks : List Hypothesis) (G : Context) → ks ≡ hs → IsContext old hs → context_of old hs ≡ G → context_of new ks ≡ G
  context_kept hs ks G e h i = ap (context_of new) e ∙ context_at old new g hs G h i

-- the hypothesis that stands for a binder's variable
pub variable_is :
    (old named : Terms) (g : Grows old named) (hs : List Hypothesis) (binder y : NameId) (body : Option TermId) (kind : TermId) → IsBody old body → IsScoped old 0 kind → IsName named y (fresh (context_of old hs) (text_of old binder))
    → (G : Context) (x : Name) (o : Option Tree) (A : Tree) → context_of old hs ≡ G → text_of old binder ≡ x → option_map (tree_of old) body ≡ o → tree_of old kind ≡ A
    → IsVariable named (record { name = y; body = body; kind = kind }) (record { name = fresh G x; body = o; kind = A })
variable_is old named g hs binder y body kind hb hk named_as G x o A eg ex eo ea = record {
  scoped = record { name = named_as.has; body = IsBody-grown old named g body hb; kind = IsScoped-grown old named g 0 kind hk };
  is = made_of (named_as.is ∙ ap₂ fresh eg ex) (body_at old named g body o hb eo) (tree_at old named g kind A hk.has ea);
}

-- all that the work under a binder is given, and what it stands for
pub record Ready (old bank : Terms) (ds : List (NameId × Declared)) (hs : List Hypothesis) (v : Hypothesis) (r : TermId) (E : Environment) (G : Context) (H : TreeHypothesis) (B : Tree) : Type 0 where
  pub grows : Grows old bank
  pub env : IsEnv bank ds
  pub context : IsContext bank hs
  pub variable : IsHypothesis bank v
  pub rest : IsScoped bank 1 r
  pub env_is : env_of bank ds ≡ E
  pub context_is : context_of bank hs ≡ G
  pub variable_is : hypothesis_of bank v ≡ H
  pub rest_is : tree_of bank r ≡ B

pub ready :
    (old mid new : Terms) (g : Grows old mid) (h : Grows mid new) (ds : List (NameId × Declared)) (hs ks : List Hypothesis) (v : Hypothesis) (binder : NameId) (body : Option TermId) (kind r : TermId) (E : Environment) (G : Context) → ks ≡ hs
    → IsEnv old ds → env_of old ds ≡ E → IsContext old hs → context_of old hs ≡ G → HasName old binder → IsBody old body → HasTerm old kind → IsScoped old 1 r
    → ((H : Context) (x : Name) (o : Option Tree) (A : Tree) → context_of mid ks ≡ H → text_of mid binder ≡ x → option_map (tree_of mid) body ≡ o → tree_of mid kind ≡ A → IsVariable new v (record { name = fresh H x; body = o; kind = A }))
    → Ready old new ds ks v r E G (record { name = fresh G (text_of old binder); body = option_map (tree_of old) body; kind = tree_of old kind }) (tree_of old r)
ready old mid new g h ds hs ks v binder body kind r E G same he ee hc ec hx hb hk hr told =
    let whole : Grows old new = Grows-trans old mid new g h in
    let variable : IsVariable new v (record { name = fresh G (text_of old binder); body = option_map (tree_of old) body; kind = tree_of old kind }) =
    told G (text_of old binder) (option_map (tree_of old) body) (tree_of old kind) (context_kept old mid g hs ks G same hc ec) (g.text binder hx) (body_at old mid g body _ hb refl) (g.tree kind hk) in
    record {
      grows = whole;
      env = IsEnv-grown old new whole ds he;
      context = IsContext-kept old new whole hs ks same hc;
      variable = variable.scoped;
      rest = IsScoped-grown old new whole 1 r hr;
      env_is = env_at old new whole ds E he ee;
      context_is = context_kept old new whole hs ks G same hc ec;
      variable_is = variable.is;
      rest_is = whole.tree r hr.has;
    }

-- the work under a binder begins: the term with the variable, in the context with the variable
pub record Begins (bank : Terms) (ds : List (NameId × Declared)) (hs : List Hypothesis) (t : TermId) (E : Environment) (G : Context) (T : Tree) : Type 0 where
  pub env : IsEnv bank ds
  pub context : IsContext bank hs
  pub term : IsScoped bank 0 t
  pub env_is : env_of bank ds ≡ E
  pub context_is : context_of bank hs ≡ G
  pub term_is : tree_of bank t ≡ T

pub begins :
    (old new : Terms) (g : Grows old new) (ds : List (NameId × Declared)) (hs ks : List Hypothesis) (v : Hypothesis) (r t : TermId) (E : Environment) (G : Context) (H : TreeHypothesis) (B : Tree) → ks ≡ hs ++ v ∷ []
    → IsEnv old ds → env_of old ds ≡ E → IsContext old hs → context_of old hs ≡ G → IsHypothesis old v → hypothesis_of old v ≡ H → IsScoped old 1 r → tree_of old r ≡ B → IsTerm new t (opened (text_of old v.name) (tree_of old r))
    → Begins new ds ks t E (G ++ H ∷ []) (opened H.name B)
begins old new g ds hs ks v r t E G H B made he ee hc ec hv ev hr er term = record {
  env = IsEnv-grown old new g ds he;
  context = subst (IsContext new) (sym made) (IsContext-push new hs v (IsContext-grown old new g hs hc) (IsHypothesis-grown old new g v hv));
  term = record { has = term.has; within = subst (Within 0) (sym term.is) (within-opened (text_of old v.name) (tree_of old r) hr.within) };
  env_is = env_at old new g ds E he ee;
  context_is = ap (context_of new) made ∙ context_of-push new hs v ∙ ap₂ (λ K z. K ++ z ∷ []) (context_at old new g hs G hc ec) (hypothesis_at old new g v H hv ev);
  term_is = term.is ∙ ap₂ opened (ap (λ z. z.name) ev) er;
}

-- one hypothesis more and one less
snoc_same : (a b : Hypothesis) (xs ys : List Hypothesis) → xs ++ a ∷ [] ≡ ys ++ b ∷ [] → xs ≡ ys
snoc_same a b [] [] e = refl
snoc_same a b [] (y ∷ []) e = grind (arith, e)
snoc_same a b [] (y ∷ z ∷ ys) e = grind (arith, e)
snoc_same a b (x ∷ []) [] e = grind (arith, e)
snoc_same a b (x ∷ z ∷ xs) [] e = grind (arith, e)
snoc_same a b (x ∷ xs) (y ∷ ys) e = grind (arith, e, snoc_same a b xs ys)

pub popped : (o : Option Hypothesis) (before pushed after : List Hypothesis) (v : Hypothesis) → pushed ≡ before ++ v ∷ [] → MatchOption o ((pushed ≡ []) × (after ≡ [])) (λ h. pushed ≡ after ++ h ∷ []) → after ≡ before
popped None [] pushed after v e h = h.1
popped None (x ∷ xs) pushed after v e h = grind (arith, e, h.0)
popped (Some k) before pushed after v e h = snoc_same k v after before (sym h ∙ e)

-- the nodes made after a mark are dropped
pub nodes_back : (old bank new : Terms) (mark : BankMark) → Grows old bank → mark ≡ mark_of old → new ≡ undone mark bank → new.nodes ≡ old.nodes
nodes_back old bank new mark g m u = ap (λ z. z.nodes) u ∙ ap (λ (k : BankMark). take k.nodes bank.nodes) m ∙ g.kept
