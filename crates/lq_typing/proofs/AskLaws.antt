-- The type of a term is asked for: a tick, and then a part, or the type.
use Rattle.std.proofs.Common.{◌≡◌, ◌<◌, ℕ, zero, suc, refl, sym, ap, arith, List, ◌∷◌, map, Result, Ok, Err}
use Rattle.std.proofs.Common.{subst as along}
use Rattle.lq_trees.specs.Tree.{Tree, Context}
use Rattle.lq_trees.specs.Tree.Tree.{Prod, Lam, Let}
use Rattle.lq_trees.specs.Hypotheses.{HoldsOnly}
use Rattle.lq_trees.specs.Ticks.{◌>>=◌, failed, steps_out, within, ComesTo}
use Rattle.lq_terms.specs.declared.nodes.Hypothesis.{Hypothesis}
use Rattle.lq_terms.specs.declared.nodes.TermId.{TermId}
use Rattle.lq_terms.specs.Terms.{Terms, Grows, tree_of}
use Rattle.lq_terms.specs.Contexts.{context_of}
use Rattle.lq_calculus.specs.Declarations.{Env as Environment}
use Rattle.lq_calculus.specs.Checking.{Kernel}
use Rattle.lq_inference.specs.Inference.{Open, infer_by}
use Rattle.lq_solving.specs.Claims.{ArePlainDeclarations}
use Rattle.lq_solving.specs.Stores.{Store, names_in, read, read_context}
use Rattle.lq_solving.specs.Inference.{by_store_types}
use Rattle.lq_solving.specs.Kept.{IsStore}
use Rattle.lq_evars.specs.Places.{Places, store_of, HasStore}
use Rattle.lq_kernel.specs.declared.faults.KernelFault.{KernelFault}
use Rattle.lq_kernel.proofs.Goes.{refuses_by, refuses_first}
use Rattle.lq_unify.specs.Exposing.{IsOfStore}
use Rattle.lq_typing.specs.declared.waiting.Frame.{Frame}
use Rattle.lq_typing.specs.declared.waiting.Turn.{Turn}
use Rattle.lq_typing.specs.Typing.{Part, product_domain, product_rest, function_domain, function_rest, definition_kind, definition_value, definition_rest, applied_function, applied_argument, go_on, asked_work, Leads}
use Rattle.lq_typing.specs.Kept.{read_part, kept_asked}
use Rattle.lq_typing.specs.Standing.{Asked}
use Rattle.lq_typing.specs.Frames.{part_of, parts_of, turn_work, IsTurn}
use Rattle.lq_typing.specs.Going.{Goes, AsksFor, HasFirst, Pays, turn_found}
use Rattle.lq_typing.specs.Kinds.{Comes}
use Rattle.lq_typing.proofs.KeptLaws.{shown, kept_product, kept_function, kept_definition, kept_application}
use Rattle.lq_typing.proofs.StandingLaws.{asked_product, asked_function, asked_definition, asked_application}
use Rattle.lq_typing.proofs.EndLaws.{kept_found, found_typed}
use Rattle.lq_typing.proofs.SingleLaws.{ticks_first}
use Rattle.lq_typing.proofs.TurnLaws.{At, at_all, at_grown, at_waiting, asks_there, finds_there}

-- ---- a part first

module _ (s : Store) (ws : List Part) (g : Context) where
  pub first_stands : (w : Part) (a t : Tree) → AsksFor w a t → Asked s ws g t → Asked s (w ∷ ws) g a
  first_stands (product_domain x A B) a t h k = along (Asked s (product_domain x A B ∷ ws) g) (sym h.1) (asked_product s ws g x A B (along (Asked s ws g) h.0 k))
  first_stands (function_domain x A B) a t h k = along (Asked s (function_domain x A B ∷ ws) g) (sym h.1) (asked_function s ws g x A B (along (Asked s ws g) h.0 k))
  first_stands (definition_kind x v A B) a t h k = along (Asked s (definition_kind x v A B ∷ ws) g) (sym h.1) (asked_definition s ws g x v A B (along (Asked s ws g) h.0 k))
  first_stands (applied_function b) a t h k = asked_application s ws g a b (along (Asked s ws g) h k)
  first_stands (product_rest u) a t h k = absurd h
  first_stands (function_rest x y A) a t h k = absurd h
  first_stands (definition_value x v A B) a t h k = absurd h
  first_stands (definition_rest y v) a t h k = absurd h
  first_stands (applied_argument b D R) a t h k = absurd h

  module _ (i : IsStore s) (E : Environment) (b : ℕ) where
    pub first_leads : (w : Part) (a t : Tree) → AsksFor w a t → Leads (kept_asked s E ws g t) (kept_asked s E (w ∷ ws) g a) (suc b) b
    first_leads (product_domain x A B) a t h =
        along (λ z. Leads (kept_asked s E ws g z) (kept_asked s E (product_domain x A B ∷ ws) g a) (suc b) b) (sym h.0)
        (along (λ z. Leads (kept_asked s E ws g (Prod x A B)) (kept_asked s E (product_domain x A B ∷ ws) g z) (suc b) b) (sym h.1) (kept_product s i E ws g b x A B))
    first_leads (function_domain x A B) a t h =
        along (λ z. Leads (kept_asked s E ws g z) (kept_asked s E (function_domain x A B ∷ ws) g a) (suc b) b) (sym h.0)
        (along (λ z. Leads (kept_asked s E ws g (Lam x A B)) (kept_asked s E (function_domain x A B ∷ ws) g z) (suc b) b) (sym h.1) (kept_function s i E ws g b x A B))
    first_leads (definition_kind x v A B) a t h =
        along (λ z. Leads (kept_asked s E ws g z) (kept_asked s E (definition_kind x v A B ∷ ws) g a) (suc b) b) (sym h.0)
        (along (λ z. Leads (kept_asked s E ws g (Let x v A B)) (kept_asked s E (definition_kind x v A B ∷ ws) g z) (suc b) b) (sym h.1) (kept_definition s i E ws g b x v A B))
    first_leads (applied_function c) a t h =
        along (λ z. Leads (kept_asked s E ws g z) (kept_asked s E (applied_function c ∷ ws) g a) (suc b) b) (sym h) (kept_application s i E ws g b a c)
    first_leads (product_rest u) a t h = absurd h
    first_leads (function_rest x y A) a t h = absurd h
    first_leads (definition_value x v A B) a t h = absurd h
    first_leads (definition_rest y v) a t h = absurd h
    first_leads (applied_argument c D R) a t h = absurd h

-- ---- without a tick

unpaid_at : (o : Open) (E : Environment) (ws : List Part) (g : Context) (t : Tree) (n : ℕ) → 0 < n → within 0 (asked_work o E ws g t n) ≡ steps_out
unfolding ◌>>=◌ within
unpaid_at o E ws g t zero i = absurd (omega arith)
unpaid_at o E ws g t (suc n) i = let k = ticks_first o E n g t in ap (λ z. within 0 (z >>= go_on o E (suc n) ws g)) k.1

pub no_tick : (o : Open) (E : Environment) (ws : List Part) (g : Context) (t : Tree) (b : ℕ) → b ≡ 0 → ComesTo (asked_work o E ws g t) b steps_out
no_tick o E ws g t b e = along (λ z. ComesTo (asked_work o E ws g t) z steps_out) (sym e) (λ n i. unpaid_at o E ws g t n i)

-- ---- by places

module _ (bank : Terms) (p : Places) (E : Environment) (hs : List Hypothesis) (fs : List Frame) (store : HasStore bank p) (i : IsStore (store_of bank p)) (t : TermId) (turn : IsTurn bank p hs fs (Turn.Ask t)) where
  -- the work that is left
  abbrev work : ℕ → Kernel Tree
  work = turn_work bank p E hs fs (Turn.Ask t)

  abbrev here : At bank p hs fs (store_of bank p) (parts_of bank fs) (context_of bank hs)
  here = at_all bank p hs fs (Turn.Ask t) store turn

  pub paid_goes : (f : Frame) (a : TermId) → HasFirst bank (f, a) t → (r : Result Turn KernelFault) (ps : List Frame) (b l : ℕ) → Pays r f a fs ps b l → Goes bank p E hs ps r work b l
  paid_goes f a h (Ok next) ps b l q =
      along (λ z. Goes bank p E hs ps (Ok z) work b l) (sym q.0)
      (asks_there bank p hs ps (store_of bank p) (part_of bank f ∷ parts_of bank fs) (context_of bank hs)
      (at_waiting bank p hs fs (store_of bank p) (parts_of bank fs) (context_of bank hs) here ps f (part_of bank f) q.1 h.frame refl) E a (tree_of bank a) (record { has = h.part; is = refl })
      (first_stands (store_of bank p) (parts_of bank fs) (context_of bank hs) (part_of bank f) (tree_of bank a) (tree_of bank t) h.asks turn.stands.1) work b l
      (along (λ z. Leads work (kept_asked (store_of bank p) E (part_of bank f ∷ parts_of bank fs) (context_of bank hs) (tree_of bank a)) z l) (sym q.2)
      (first_leads (store_of bank p) (parts_of bank fs) (context_of bank hs) i E l (part_of bank f) (tree_of bank a) (tree_of bank t) h.asks)))
  paid_goes f a h (Err KernelFault.StepsOut) ps b l q =
      (no_tick (by_store_types (store_of bank p)) E (map (read_part (store_of bank p)) (parts_of bank fs)) (read_context (store_of bank p) (context_of bank hs)) (read (store_of bank p) (tree_of bank t)) b q.0, q.1)
  paid_goes f a h (Err KernelFault.NoMemory) ps b l q = tt
  paid_goes f a h (Err (KernelFault.Unbound x)) ps b l q = absurd q
  paid_goes f a h (Err (KernelFault.NotAProduct u)) ps b l q = absurd q
  paid_goes f a h (Err (KernelFault.NotASort u)) ps b l q = absurd q
  paid_goes f a h (Err (KernelFault.Mismatch u v)) ps b l q = absurd q
  paid_goes f a h (Err KernelFault.NoSortAbove) ps b l q = absurd q
  paid_goes f a h (Err (KernelFault.HasVariable n)) ps b l q = absurd q
  paid_goes f a h (Err (KernelFault.TooBig x n)) ps b l q = absurd q
  paid_goes f a h (Err KernelFault.TooLarge) ps b l q = absurd q
  paid_goes f a h (Err KernelFault.TooDeep) ps b l q = absurd q
  paid_goes f a h (Err (KernelFault.Env e)) ps b l q = absurd q

  pub single_goes : ArePlainDeclarations E → (new : Terms) → Grows bank new → (r : Result TermId KernelFault) (b l : ℕ) →
      Comes new r (λ n. infer_by (by_store_types (store_of bank p)) E n (read_context (store_of bank p) (context_of bank hs)) (read (store_of bank p) (tree_of bank t))) b l → Goes new p E hs fs (turn_found r) work b l
  single_goes plain new m (Ok u) b l h =
      finds_there new p hs fs (store_of bank p) (parts_of bank fs) (context_of bank hs) (at_grown bank new m p hs fs (store_of bank p) (parts_of bank fs) (context_of bank hs) here) E u (tree_of new u) (record { has = h.0; is = refl })
      (found_typed (store_of bank p) i E plain (parts_of bank fs) (context_of bank hs) (tree_of bank t) (tree_of new u) b l h.2 turn.stands.1 h.1) work b l
      (kept_found (store_of bank p) i E plain (parts_of bank fs) (context_of bank hs) (tree_of bank t) (tree_of new u) b l h.2)
  single_goes plain new m (Err e) b l h =
      refuses_first new e (λ n. infer_by (by_store_types (store_of bank p)) E n (read_context (store_of bank p) (context_of bank hs)) (read (store_of bank p) (tree_of bank t)))
      (λ V n. go_on (by_store_types (store_of bank p)) E n (map (read_part (store_of bank p)) (parts_of bank fs)) (read_context (store_of bank p) (context_of bank hs)) V) b l h

  -- ---- a term that reads the same

  module _ (new : Terms) (m : Grows bank new) (u : TermId) (of : IsOfStore new (store_of bank p) u) (same : read (store_of bank p) (tree_of new u) ≡ read (store_of bank p) (tree_of bank t)) where
    shown_goes : (b : ℕ) → Goes new p E hs fs (Ok (Turn.Ask u)) work b b
    shown_goes b =
        asks_there new p hs fs (store_of bank p) (parts_of bank fs) (context_of bank hs) (at_grown bank new m p hs fs (store_of bank p) (parts_of bank fs) (context_of bank hs) here) E u (tree_of new u) (record { has = of.has; is = refl })
        (record {
          context = turn.stands.1.context;
          term = record { over = of.over; within = of.within; holds = along (HoldsOnly (names_in (context_of bank hs))) (sym same) turn.stands.1.term.holds };
          parts = turn.stands.1.parts;
        }) work b b
        (λ o h. along (λ z. ComesTo z b o) (shown (store_of bank p) i E (parts_of bank fs) (context_of bank hs) b (tree_of new u) (tree_of bank t) same) h)

    pub shown_turn : IsTurn new p hs fs (Turn.Ask u)
    shown_turn = (shown_goes 0).0

    pub shown_same : (last : Terms) (r : Result Turn KernelFault) (ks : List Hypothesis) (ps : List Frame) (b l : ℕ) → Goes last p E ks ps r (turn_work new p E hs fs (Turn.Ask u)) b l → Goes last p E ks ps r work b l
    shown_same last (Ok next) ks ps b l h = (h.0, λ o k. (shown_goes b).1 o (h.1 o k))
    shown_same last (Err e) ks ps b l h = refuses_by last e (turn_work new p E hs fs (Turn.Ask u)) b work b l (λ x. (shown_goes b).1 (failed x l)) ((shown_goes b).1 steps_out) h
