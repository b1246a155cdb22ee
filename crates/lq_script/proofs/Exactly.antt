-- `exact`, by the places of a bank.
use Rattle.std.proofs.Common.{◌≡◌, ◌↔◌, ◌≤◌, refl, sym, ◌∙◌, ap, ap₂, List, length, Option, Some, None, Ok, Err, Bool, true, false, arith}
use Rattle.std.proofs.Common.{subst as along}
use Rattle.std.specs.Prelude.{IsTrue}
use Rattle.std.proofs.lemmas.Bool.{false_from_ne_true}
use Rattle.std.proofs.lemmas.List.{length-map}
use Rattle.lq_trees.specs.Tree.{Name, Tree, Context}
use Rattle.lq_trees.specs.Same.{Same}
use Rattle.lq_terms.specs.declared.nodes.NameId.{NameId}
use Rattle.lq_terms.specs.declared.nodes.TermId.{TermId}
use Rattle.lq_terms.specs.declared.nodes.Node.{Node}
use Rattle.lq_terms.specs.declared.nodes.Hypothesis.{Hypothesis}
use Rattle.lq_terms.specs.Terms.{Terms, HasTerm, IsTerm, IsName, Grows, text_of, tree_of, node_tree}
use Rattle.lq_terms.specs.Contexts.{context_of, hypothesis_of, HasContext}
use Rattle.lq_output.specs.Faults.{not_built, differs}
use Rattle.lq_output.specs.Alike.{alike}
use Rattle.lq_output.specs.Steps as steps
use Rattle.lq_output.specs.Steps.{known_as, exactly, abstracted}
use Rattle.lq_output.proofs.AlikeLaws.{alike_same, same_alike}
use Rattle.lq_env.specs.declared.environment.Declared.{Declared}
use Rattle.lq_env.specs.Environments.{IsEnv, env_of}
use Rattle.lq_script.specs.Introduced.{Introduced, names_of, abstraction}
use Rattle.lq_script.specs.Proofs.{IsKnown, IsStatement}
use Rattle.lq_script.proofs.Grown.{env_of-grown}
use Rattle.lq_script.proofs.Introductions.{introduced_fewer}
use Rattle.lq_script.proofs.Proving.{context_of-grown}

-- a goal has at most 200 hypotheses
pub few_hypotheses : (bank : Terms) (hs : List Hypothesis) (statement conclusion : TermId) → IsStatement bank statement → Introduced (tree_of bank statement) (context_of bank hs) (tree_of bank conclusion) → length hs ≤ 200
few_hypotheses bank hs statement conclusion s i = omega (arith, introduced_fewer i s.simple, s.low, length-map hs (hypothesis_of bank))

exactly_none : (g : Context) (T : Tree) (o : Option (Tree × Tree)) → o ≡ None → exactly g T o ≡ Err not_built
unfolding exactly
exactly_none g T o e = rw (e, exactly)

exactly_differs : (g : Context) (T t A : Tree) (o : Option (Tree × Tree)) → o ≡ Some (t, A) → alike A T ≡ false → exactly g T o ≡ Err (differs A T)
unfolding exactly
exactly_differs g T t A o e a = rw (e, exactly) (rw a refl)

exactly_same : (g : Context) (T t A : Tree) (o : Option (Tree × Tree)) → o ≡ Some (t, A) → alike A T ≡ true → exactly g T o ≡ Ok (steps.finished (abstracted g t))
unfolding exactly
exactly_same g T t A o e a = rw (e, exactly) (rw a refl)

module _ (old m1 : Terms) (ps : List (NameId × Declared)) (hs : List Hypothesis) (x : NameId) (text : Name) (conclusion : TermId) (g1 : Grows old m1) (env : IsEnv old ps) (c : HasContext old hs) (n : IsName m1 x text) (T : HasTerm old conclusion) where
  known_same : known_as (env_of m1 ps) (context_of m1 hs) (text_of m1 x) ≡ known_as (env_of old ps) (context_of old hs) text
  known_same = ap₂ (λ e h. known_as e h (text_of m1 x)) (env_of-grown old m1 ps g1 env) (context_of-grown old m1 hs g1 c) ∙ ap (known_as (env_of old ps) (context_of old hs)) n.is

  pub exact_nothing : known_as (env_of m1 ps) (context_of m1 hs) (text_of m1 x) ≡ None → exactly (context_of old hs) (tree_of old conclusion) (known_as (env_of old ps) (context_of old hs) text) ≡ Err not_built
  exact_nothing e = exactly_none (context_of old hs) (tree_of old conclusion) _ (sym known_same ∙ e)

  module _ (leaf : Node) (kind : TermId) (k : IsKnown m1 (context_of m1 hs) (known_as (env_of m1 ps) (context_of m1 hs) (text_of m1 x)) leaf kind) (r : Bool) (d : IsTrue r ↔ Same (tree_of m1 kind) (tree_of m1 conclusion)) where
    pub exact_differs :
        r ≡ false → HasTerm m1 kind × HasTerm m1 conclusion
        × (exactly (context_of old hs) (tree_of old conclusion) (known_as (env_of old ps) (context_of old hs) text) ≡ Err (differs (tree_of m1 kind) (tree_of m1 conclusion)))
    exact_differs e =
        let unlike : alike (tree_of m1 kind) (tree_of m1 conclusion) ≡ false = false_from_ne_true _ (λ t. let s : r ≡ true = d.1 (alike_same _ _ t) in cc) in
        let there : tree_of m1 conclusion ≡ tree_of old conclusion = g1.tree conclusion T in (
          k.has,
          omega (arith, g1.nodes),
          exactly_differs (context_of old hs) (tree_of old conclusion) k.term (tree_of m1 kind) _ (sym known_same ∙ k.is) (ap (alike (tree_of m1 kind)) (sym there) ∙ unlike)
              ∙ ap (λ z. Err (differs (tree_of m1 kind) z)) (sym there),
        )

    pub exact_finished :
        r ≡ true → (statement : TermId) → IsStatement old statement → Introduced (tree_of old statement) (context_of old hs) (tree_of old conclusion) → (new : Terms) (t : TermId)
        → IsTerm new t (abstraction (names_of (context_of m1 hs)) (tree_of m1 statement) (node_tree m1 leaf))
        → HasTerm new t × (exactly (context_of old hs) (tree_of old conclusion) (known_as (env_of old ps) (context_of old hs) text) ≡ Ok (steps.finished (tree_of new t)))
    exact_finished e statement s i new t made =
        let there : tree_of m1 conclusion ≡ tree_of old conclusion = g1.tree conclusion T in
        let same : alike (tree_of m1 kind) (tree_of m1 conclusion) ≡ true = same_alike _ _ (d.0 e) in
        let reached : Introduced (tree_of old statement) (context_of m1 hs) (tree_of old conclusion) = along (λ z. Introduced (tree_of old statement) z (tree_of old conclusion)) (sym (context_of-grown old m1 hs g1 c)) i in (
          made.has,
          exactly_same (context_of old hs) (tree_of old conclusion) k.term (tree_of m1 kind) _ (sym known_same ∙ k.is) (ap (alike (tree_of m1 kind)) (sym there) ∙ same)
              ∙ ap (λ z. Ok (steps.finished z))
              (ap (λ z. abstracted z k.term) (sym (context_of-grown old m1 hs g1 c))
              ∙ k.leaf (tree_of old statement) (tree_of old conclusion) reached s.simple
              ∙ ap (λ z. abstraction (names_of (context_of m1 hs)) z (node_tree m1 leaf)) (sym (g1.tree statement s.has))
              ∙ sym made.is),
        )
