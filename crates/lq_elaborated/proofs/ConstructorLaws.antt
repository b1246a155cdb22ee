-- The types of constructors, elaborated one after the other.
use Rattle.std.proofs.Common.{◌≡◌, refl, sym, ap, subst, ℕ, List, [], ◌∷◌, ◌++◌, append_assoc, append-nil}
use Rattle.lq_trees.specs.Tree.{Name, Tree, Context}
use Rattle.lq_trees.specs.Ticks.{gives, ◌>>=◌, Outcome, done, failed, steps_out, ComesTo}
use Rattle.lq_trees.proofs.Outcomes.{comes_gives, comes_then, comes_failed, comes_spent}
use Rattle.lq_calculus.specs.Declarations.{Env}
use Rattle.lq_ast.specs.Syntax.{Surface}
use Rattle.lq_solving.specs.Elaboration.{Found}
use Rattle.lq_solving.specs.Stores.{Store}
use Rattle.lq_terms.specs.Terms.{Terms}
use Rattle.lq_texts.specs.Causes.{Cause as ScriptCause}
use Rattle.lq_sessions.specs.Sessions.{Work}
use Rattle.lq_sessions.specs.Declaring.{type_work, constructors_work}
use Rattle.lq_causes.specs.declared.stops.Stop.{Stop}
use Rattle.lq_causes.specs.Stopping.{Stops}
use Rattle.lq_elaborated.proofs.FindLaws.{stops_by, stops_first}

abbrev Elaborated : Type 0
Elaborated = Store × List (Name × Tree)

-- an outcome with constructors that were elaborated before
abbrev pub with_front : List (Name × Tree) → Outcome ScriptCause Elaborated → Outcome ScriptCause Elaborated
with_front cs (done r left) = done (r.0, cs ++ r.1) left
with_front cs (failed c left) = failed c left
with_front cs steps_out = steps_out

-- the constructors that are left lead to the whole's outcome
abbrev pub ConstructorsLead : Env → Context → Store → List (Name × Surface) → (budget : ℕ) → (front : List (Name × Tree)) → Store → List (Name × Surface) → (left : ℕ) → Type 0
ConstructorsLead env ps st0 all b front st rest left =
    (o : Outcome ScriptCause Elaborated) → ComesTo (λ n. constructors_work env n ps st rest) left o → ComesTo (λ n. constructors_work env n ps st0 all) b (with_front front o)

front_none : (o : Outcome ScriptCause Elaborated) → with_front [] o ≡ o
front_none (done r left) = refl
front_none (failed c left) = refl
front_none steps_out = refl

front_more : (cs : List (Name × Tree)) (c : Name × Tree) (o : Outcome ScriptCause Elaborated) → with_front cs (with_front (c ∷ []) o) ≡ with_front (cs ++ c ∷ []) o
front_more cs c (done r left) = ap (λ z. done (r.0, z) left) (sym (append_assoc cs (c ∷ []) r.1))
front_more cs c (failed d left) = refl
front_more cs c steps_out = refl

module _ (env : Env) (ps : Context) where
  abbrev behind : Name × Surface → List (Name × Surface) → Found → ℕ → Work Elaborated
  behind c rest f n = constructors_work env n ps f.store rest >>= λ r. gives (r.0, (c.0, f.term) ∷ r.1)

  -- one constructor in front of the others
  one_front : (st : Store) (c : Name × Surface) (rest : List (Name × Surface)) (F : Found) (left l2 : ℕ) → ComesTo (λ n. type_work env n ps st c.1) left (done F l2) → (o : Outcome ScriptCause Elaborated) →
      ComesTo (λ n. constructors_work env n ps F.store rest) l2 o → ComesTo (λ n. constructors_work env n ps st (c ∷ rest)) left (with_front ((c.0, F.term) ∷ []) o)
  unfolding constructors_work
  one_front st c rest F left l2 h o k =
      comes_then (λ n. type_work env n ps st c.1) (behind c rest) left F l2 (with_front ((c.0, F.term) ∷ []) o) h (at o k)
    where
      at : (o : Outcome ScriptCause Elaborated) → ComesTo (λ n. constructors_work env n ps F.store rest) l2 o → ComesTo (behind c rest F) l2 (with_front ((c.0, F.term) ∷ []) o)
      at (done r l3) k =
          comes_then (λ n. constructors_work env n ps F.store rest) (λ r n. gives (r.0, (c.0, F.term) ∷ r.1)) l2 r l3 (done (r.0, (c.0, F.term) ∷ r.1) l3) k
          (comes_gives (λ n. gives (r.0, (c.0, F.term) ∷ r.1)) (r.0, (c.0, F.term) ∷ r.1) l3 (λ n. refl))
      at (failed d l3) k = comes_failed (λ n. constructors_work env n ps F.store rest) (λ r n. gives (r.0, (c.0, F.term) ∷ r.1)) l2 d l3 k
      at steps_out k = comes_spent (λ n. constructors_work env n ps F.store rest) (λ r n. gives (r.0, (c.0, F.term) ∷ r.1)) l2 k

  module _ (st0 : Store) (all : List (Name × Surface)) (b : ℕ) where
    -- none is elaborated yet
    pub lead_itself : ConstructorsLead env ps st0 all b [] st0 all b
    lead_itself o h = subst (ComesTo (λ n. constructors_work env n ps st0 all) b) (sym (front_none o)) h

    -- one more is
    pub lead_next : (front : List (Name × Tree)) (st : Store) (c : Name × Surface) (rest : List (Name × Surface)) (F : Found) (left l2 : ℕ) → ConstructorsLead env ps st0 all b front st (c ∷ rest) left →
        ComesTo (λ n. type_work env n ps st c.1) left (done F l2) → ConstructorsLead env ps st0 all b (front ++ (c.0, F.term) ∷ []) F.store rest l2
    lead_next front st c rest F left l2 leads h o k =
        subst (ComesTo (λ n. constructors_work env n ps st0 all) b) (front_more front (c.0, F.term) o) (leads (with_front ((c.0, F.term) ∷ []) o) (one_front st c rest F left l2 h o k))

    -- all are
    pub lead_end : (front : List (Name × Tree)) (st : Store) (left : ℕ) → ConstructorsLead env ps st0 all b front st [] left → ComesTo (λ n. constructors_work env n ps st0 all) b (done (st, front) left)
    unfolding constructors_work
    lead_end front st left leads =
        subst (λ z. ComesTo (λ n. constructors_work env n ps st0 all) b (done (st, z) left)) (append-nil front) (leads (done (st, []) left) (comes_gives (λ n. constructors_work env n ps st []) (st, []) left (λ n. refl)))

    -- one is refused
    pub lead_stops : (bank : Terms) (front : List (Name × Tree)) (st : Store) (c : Name × Surface) (rest : List (Name × Surface)) (left l2 : ℕ) (stop : Stop) → ConstructorsLead env ps st0 all b front st (c ∷ rest) left →
        Stops bank stop (λ n. type_work env n ps st c.1) left l2 → Stops bank stop (λ n. constructors_work env n ps st0 all) b l2
    unfolding constructors_work
    lead_stops bank front st c rest left l2 stop leads h =
        stops_by bank (λ n. constructors_work env n ps st (c ∷ rest)) (λ n. constructors_work env n ps st0 all) left b l2 (λ d e. leads (failed d l2) e) (λ e. leads steps_out e) stop
        (stops_first bank (λ n. type_work env n ps st c.1) (behind c rest) left l2 stop h)
