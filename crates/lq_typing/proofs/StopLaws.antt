-- A refusal of what is done first, once a type was found, is that of all the work.
use Rattle.std.proofs.Common.{◌≡◌, ℕ, refl, sym, List, ◌∷◌, map, Result, Ok, Err}
use Rattle.std.proofs.Common.{subst as along}
use Rattle.std.specs.Result.{IsErrAnd}
use Rattle.lq_trees.specs.declared.Sort.{Sort as Universe}
use Rattle.lq_trees.specs.Tree.{Tree, Context}
use Rattle.lq_trees.specs.Tree.Tree.{Sort}
use Rattle.lq_trees.specs.Change.{subst}
use Rattle.lq_trees.specs.Fresh.{fresh, opened, under, under_let}
use Rattle.lq_trees.specs.Ticks.{gives, ◌>>=◌}
use Rattle.lq_terms.specs.declared.nodes.Hypothesis.{Hypothesis}
use Rattle.lq_terms.specs.declared.nodes.NameId.{NameId}
use Rattle.lq_terms.specs.declared.nodes.TermId.{TermId}
use Rattle.lq_terms.specs.Terms.{Terms, text_of, tree_of}
use Rattle.lq_terms.specs.Contexts.{context_of}
use Rattle.lq_calculus.specs.Declarations.{Env as Environment}
use Rattle.lq_calculus.specs.Typing.{product_sort}
use Rattle.lq_calculus.specs.Checking.{Kernel, as_sort, as_product, fitting, needed_form, matching}
use Rattle.lq_inference.specs.Inference.{Open, matching_by}
use Rattle.lq_solving.specs.Stores.{Store, read, read_context}
use Rattle.lq_solving.specs.Inference.{by_store_types}
use Rattle.lq_evars.specs.Places.{Places, store_of}
use Rattle.lq_kernel.specs.declared.faults.KernelFault.{KernelFault}
use Rattle.lq_kernel.specs.Answers.{Refuses}
use Rattle.lq_kernel.proofs.Goes.{refuses_by}
use Rattle.lq_typing.specs.declared.waiting.Frame.{Frame}
use Rattle.lq_typing.specs.declared.waiting.Turn.{Turn}
use Rattle.lq_typing.specs.Typing.{Part, product_domain, product_rest, function_domain, function_rest, definition_kind, definition_value, definition_rest, applied_function, applied_argument, resumed}
use Rattle.lq_typing.specs.Kept.{read_part}
use Rattle.lq_typing.specs.Frames.{parts_of, turn_work}
use Rattle.lq_typing.specs.Going.{Goes}
use Rattle.lq_typing.proofs.TypingLaws.{more_failed, more_spent}
use Rattle.lq_typing.proofs.ArmLaws.{first_refused}

-- what is returned where a call was refused
pub goes_out : (bank : Terms) (p : Places) (E : Environment) (hs : List Hypothesis) (fs : List Frame) (f : ℕ → Kernel Tree) (b l : ℕ) (r : Result Turn KernelFault) (e : KernelFault) → IsErrAnd r (λ y. y ≡ e) → Refuses bank e f b l → Goes bank p E hs fs r f b l
goes_out bank p E hs fs f b l (Ok t) e h q = absurd h
goes_out bank p E hs fs f b l (Err y) e h q = along (λ z. Refuses bank z f b l) (sym h) q

module _ (old : Terms) (p : Places) (E : Environment) (hs : List Hypothesis) (fs : List Frame) (K : TermId) (bank : Terms) (e : KernelFault) (b l : ℕ) where
  -- over trees: the store, what waits behind the nearest as read, the context as read, the type that was found
  abbrev s : Store
  s = store_of old p

  abbrev vs : List Part
  vs = map (read_part s) (parts_of old fs)

  abbrev G : Context
  G = read_context s (context_of old hs)

  abbrev T : Tree
  T = tree_of old K

  abbrev o : Open
  o = by_store_types s

  -- the sort, and the product, that the type must be
  abbrev sort_work : ℕ → Kernel Universe
  sort_work n = needed_form E n G T >>= as_sort

  abbrev split_work : ℕ → Kernel (Tree × Tree)
  split_work n = needed_form E n G T >>= as_product

  pub product_stops : (x : NameId) (A B : TermId) → Refuses bank e sort_work b l → Refuses bank e (turn_work old p E hs (Frame.ProductDomain x A B ∷ fs) (Turn.Found K)) b l
  unfolding read_part resumed
  product_stops x A B h =
      refuses_by bank e sort_work b (turn_work old p E hs (Frame.ProductDomain x A B ∷ fs) (Turn.Found K)) b l
      (λ z. more_failed o E vs (product_domain (text_of old x) (read s (tree_of old A)) (read s (tree_of old B))) G T b sort_work (λ u. product_rest u) (λ u. under G (fresh G (text_of old x)) (read s (tree_of old A))) (λ u. opened (fresh G (text_of old x)) (read s (tree_of old B))) (λ n. refl) z l)
      (more_spent o E vs (product_domain (text_of old x) (read s (tree_of old A)) (read s (tree_of old B))) G T b sort_work (λ u. product_rest u) (λ u. under G (fresh G (text_of old x)) (read s (tree_of old A))) (λ u. opened (fresh G (text_of old x)) (read s (tree_of old B))) (λ n. refl)) h

  pub product_rest_stops : (u : Universe) → Refuses bank e sort_work b l → Refuses bank e (turn_work old p E hs (Frame.ProductRest u ∷ fs) (Turn.Found K)) b l
  unfolding read_part resumed
  product_rest_stops u h = first_refused o E (product_rest u) vs G T sort_work (λ v n. gives (Sort (product_sort u v))) (λ n. refl) bank e b l h

  pub function_stops : (x : NameId) (A B : TermId) → Refuses bank e sort_work b l → Refuses bank e (turn_work old p E hs (Frame.FunctionDomain x A B ∷ fs) (Turn.Found K)) b l
  unfolding read_part resumed
  function_stops x A B h =
      refuses_by bank e sort_work b (turn_work old p E hs (Frame.FunctionDomain x A B ∷ fs) (Turn.Found K)) b l
      (λ z. more_failed o E vs (function_domain (text_of old x) (read s (tree_of old A)) (read s (tree_of old B))) G T b sort_work (λ u. function_rest (text_of old x) (fresh G (text_of old x)) (read s (tree_of old A))) (λ u. under G (fresh G (text_of old x)) (read s (tree_of old A))) (λ u. opened (fresh G (text_of old x)) (read s (tree_of old B))) (λ n. refl) z l)
      (more_spent o E vs (function_domain (text_of old x) (read s (tree_of old A)) (read s (tree_of old B))) G T b sort_work (λ u. function_rest (text_of old x) (fresh G (text_of old x)) (read s (tree_of old A))) (λ u. under G (fresh G (text_of old x)) (read s (tree_of old A))) (λ u. opened (fresh G (text_of old x)) (read s (tree_of old B))) (λ n. refl)) h

  pub definition_stops : (x : NameId) (v A B : TermId) → Refuses bank e sort_work b l → Refuses bank e (turn_work old p E hs (Frame.DefinitionKind x v A B ∷ fs) (Turn.Found K)) b l
  unfolding read_part resumed
  definition_stops x v A B h =
      refuses_by bank e sort_work b (turn_work old p E hs (Frame.DefinitionKind x v A B ∷ fs) (Turn.Found K)) b l
      (λ z. more_failed o E vs (definition_kind (text_of old x) (read s (tree_of old v)) (read s (tree_of old A)) (read s (tree_of old B))) G T b sort_work (λ u. definition_value (text_of old x) (read s (tree_of old v)) (read s (tree_of old A)) (read s (tree_of old B))) (λ u. G) (λ u. read s (tree_of old v)) (λ n. refl) z l)
      (more_spent o E vs (definition_kind (text_of old x) (read s (tree_of old v)) (read s (tree_of old A)) (read s (tree_of old B))) G T b sort_work (λ u. definition_value (text_of old x) (read s (tree_of old v)) (read s (tree_of old A)) (read s (tree_of old B))) (λ u. G) (λ u. read s (tree_of old v)) (λ n. refl)) h

  pub value_stops : (x : NameId) (v A B : TermId) → Refuses bank e (λ n. matching_by o E n G T (read s (tree_of old A))) b l → Refuses bank e (turn_work old p E hs (Frame.DefinitionValue x v A B ∷ fs) (Turn.Found K)) b l
  unfolding read_part resumed
  value_stops x v A B h =
      refuses_by bank e (λ n. matching_by o E n G T (read s (tree_of old A))) b (turn_work old p E hs (Frame.DefinitionValue x v A B ∷ fs) (Turn.Found K)) b l
      (λ z. more_failed o E vs (definition_value (text_of old x) (read s (tree_of old v)) (read s (tree_of old A)) (read s (tree_of old B))) G T b (λ n. matching_by o E n G T (read s (tree_of old A))) (λ u. definition_rest (fresh G (text_of old x)) (read s (tree_of old v)))
      (λ u. under_let G (fresh G (text_of old x)) (read s (tree_of old v)) (read s (tree_of old A))) (λ u. opened (fresh G (text_of old x)) (read s (tree_of old B))) (λ n. refl) z l)
      (more_spent o E vs (definition_value (text_of old x) (read s (tree_of old v)) (read s (tree_of old A)) (read s (tree_of old B))) G T b (λ n. matching_by o E n G T (read s (tree_of old A))) (λ u. definition_rest (fresh G (text_of old x)) (read s (tree_of old v)))
      (λ u. under_let G (fresh G (text_of old x)) (read s (tree_of old v)) (read s (tree_of old A))) (λ u. opened (fresh G (text_of old x)) (read s (tree_of old B))) (λ n. refl)) h

  pub applied_stops : (a : TermId) → Refuses bank e split_work b l → Refuses bank e (turn_work old p E hs (Frame.Function a ∷ fs) (Turn.Found K)) b l
  unfolding read_part resumed
  applied_stops a h =
      refuses_by bank e split_work b (turn_work old p E hs (Frame.Function a ∷ fs) (Turn.Found K)) b l
      (λ z. more_failed o E vs (applied_function (read s (tree_of old a))) G T b split_work (λ q. applied_argument (read s (tree_of old a)) q.0 q.1) (λ q. G) (λ q. read s (tree_of old a)) (λ n. refl) z l)
      (more_spent o E vs (applied_function (read s (tree_of old a))) G T b split_work (λ q. applied_argument (read s (tree_of old a)) q.0 q.1) (λ q. G) (λ q. read s (tree_of old a)) (λ n. refl)) h

  pub argument_stops : (a D R : TermId) → Refuses bank e (λ n. matching E n G T (tree_of old D)) b l → Refuses bank e (turn_work old p E hs (Frame.Argument a D R ∷ fs) (Turn.Found K)) b l
  unfolding read_part resumed
  argument_stops a D R h =
      first_refused o E (applied_argument (read s (tree_of old a)) (tree_of old D) (tree_of old R)) vs G T (λ n. matching E n G T (tree_of old D)) (λ ok n. fitting (subst (read s (tree_of old a)) (tree_of old R))) (λ n. refl) bank e b l h
