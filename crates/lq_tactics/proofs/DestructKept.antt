-- `destruct` keeps what holds.
use Rattle.std.proofs.Common.{◌≡◌, ◌<◌, ◌+◌, ◌^◌, ◌∙◌, sym, ap, arith, false, List, [], length, Option, Some, None}
use Rattle.std.proofs.Common.{subst as along}
use Rattle.lq_trees.specs.Tree.{Name, Tree}
use Rattle.lq_trees.specs.Tree.Tree.{Rel, Var, Sort, Prod, Lam, Let, App, Const, Ind, Ctor, Elim, Evar}
use Rattle.lq_trees.specs.Ticks.{◌>>=◌}
use Rattle.lq_calculus.proofs.ConvSound.{Gives, gives_bind}
use Rattle.lq_ast.specs.Syntax.{Surface}
use Rattle.lq_solving.specs.Stores.{names_in, read}
use Rattle.lq_solving.specs.Elaboration.{Found, found}
use Rattle.lq_solving.proofs.StandsLaws.{var_stands}
use Rattle.lq_solving.proofs.ElabKept.{Grown, grown_now, grown_then}
use Rattle.lq_solving.proofs.ElabStands.{Finds, deep}
use Rattle.lq_tactics.specs.Rows.{Scene, Step, renewed, term_of}
use Rattle.lq_tactics.specs.Elimination.{eliminate_and_intro, eliminate_hypothesis, reverting, destructed, do_destruct}
use Rattle.lq_tactics.proofs.RowsKept.{IsScene, IsStep}
use Rattle.lq_tactics.proofs.ApplyKept.{HasRoom, term_found}
use Rattle.lq_tactics.proofs.RetypingKept.{renewed_is, renewed_kept}
use Rattle.lq_tactics.proofs.BranchesKept.{eliminate_and_intro_kept}
use Rattle.lq_tactics.proofs.ArgumentsKept.{eliminate_few}
use Rattle.lq_tactics.proofs.RevertingKept.{reverting_kept}

-- a step on the goal in a store that has grown
step_earlier : (c d : Scene) (st : Step) → Grown c.store d.store → d.goal ≡ c.goal → IsStep d st → IsStep c st
step_earlier c d st g e k = record {
  grown = grown_then c.store d.store st.store g k.grown;
  once = k.once;
  inside = k.inside;
  valueless = k.valueless;
  new = λ j l m. k.new j l (omega (arith, m, g.more)) ∙ e;
}

module _ (c : Scene) (s : IsScene c) (few : length c.context + 4000 < 10 ^ 64) where
  -- a hypothesis
  hypothesis_destructed : (f : Found) (x : Name) (names : Option (List (List Name))) (st : Step) → Finds c.store c.context f →
      Gives (renewed c f.store >>= λ d. reverting d x (λ A ds e. eliminate_hypothesis false x A ds names e)) st → IsStep c st
  unfolding eliminate_hypothesis
  hypothesis_destructed f x names st k y =
      let d = gives_bind (renewed c f.store) _ st y in
      let is = renewed_is c d.0 f.store d.1 in
      let store : d.0.store ≡ f.store = sym (ap (λ z. z.store) is) in
      let context : d.0.context ≡ c.context = sym (ap (λ z. z.context) is) in
      let goal : d.0.goal ≡ c.goal = sym (ap (λ z. z.goal) is) in
      step_earlier c d.0 st (along (Grown c.store) (sym store) k.0) goal
      (reverting_kept d.0 x _ st (renewed_kept c d.0 f.store s k.0 d.1)
      (λ A ds e se a l n z.
      eliminate_and_intro_kept (record { keeps = false; own_name = Some x; reverted = ds }) names (found e.store (Var x) A) e st se
      (grown_now e.store se.store, var_stands e.store (names_in e.context) x l, a)
      (λ el w o. (eliminate_few e (found e.store (Var x) A) el w, omega (arith, n, few, ap length context))) z) d.2)

  -- another term
  term_destructed : (f : Found) (names : Option (List (List Name))) (st : Step) → Finds c.store c.context f →
      Gives (eliminate_and_intro (record { keeps = false; own_name = None; reverted = [] }) names f c) st → IsStep c st
  term_destructed f names st k y =
      eliminate_and_intro_kept (record { keeps = false; own_name = None; reverted = [] }) names f c st s k (λ e w o. (eliminate_few c f e w, omega (arith, few))) y

  destructed_kept : (f : Found) (t : Tree) (names : Option (List (List Name))) (st : Step) → Finds c.store c.context f → Gives (destructed c f t names) st →
      IsStep c st
  unfolding destructed
  destructed_kept f (Var x) names st k y = hypothesis_destructed f x names st k y
  destructed_kept f (Rel i) names st k y = term_destructed f names st k y
  destructed_kept f (Sort u) names st k y = term_destructed f names st k y
  destructed_kept f (Prod x A B) names st k y = term_destructed f names st k y
  destructed_kept f (Lam x A t) names st k y = term_destructed f names st k y
  destructed_kept f (Let x v A t) names st k y = term_destructed f names st k y
  destructed_kept f (App g a) names st k y = term_destructed f names st k y
  destructed_kept f (Const x) names st k y = term_destructed f names st k y
  destructed_kept f (Ind x) names st k y = term_destructed f names st k y
  destructed_kept f (Ctor x i) names st k y = term_destructed f names st k y
  destructed_kept f (Elim x u) names st k y = term_destructed f names st k y
  destructed_kept f (Evar i ts) names st k y = term_destructed f names st k y

-- 4,000 names: two for each argument of a constructor, of which a goal within the limits has at most 2,000
pub destruct_kept : (c : Scene) → IsScene c → (t : Surface) (names : Option (List (List Name))) (st : Step) → HasRoom c (deep t + 4000) →
    Gives (do_destruct c t names) st → IsStep c st
unfolding do_destruct
destruct_kept c s t names st few y =
    let f = gives_bind (term_of c t None) _ st y in
    destructed_kept c s (omega (arith, few)) f.0 (read f.0.store f.0.term) names st (term_found c s t None f.0 tt (omega (arith, few)) f.1) f.2
