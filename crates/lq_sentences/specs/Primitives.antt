-- The grammar of the primitives, each behind its word.
use Rattle.std.specs.Prelude.{ℕ, ◌+◌, true, false, List, [], ◌∷◌, Option, codes}
use Rattle.lq_grammar.specs.declared.token.Symbol.{Symbol}
use Rattle.lq_grammar.specs.declared.token.Symbol.TheVariants.{ColonEqual, BackArrow, OpenRound, CloseRound, OpenSquare, CloseSquare, Colon, Bar}
use Rattle.lq_trees.specs.Tree.{Name}
use Rattle.lq_ast.specs.Syntax.{Surface}
use Rattle.lq_ast.specs.Syntax as form
use Rattle.lq_ast.specs.Tactics.{Tac, prim, rule}
use Rattle.lq_sentences.specs.declared.forms.Primitive.{Primitive}
use Rattle.lq_sentences.specs.declared.forms.Primitive.TheVariants as which
use Rattle.lq_sentences.specs.Words.{is_number, is_sign, reads}
use Rattle.lq_sentences.specs.Rules.{Rule, pure, ◌>>=◌, ◌<$>◌}
use Rattle.lq_sentences.specs.Parts.{expect, expect_word, eat, maybe, many, separated, a_name, a_number, names, name_word, is_spare}
use Rattle.lq_sentences.specs.Terms.{term}
use Rattle.lq_sentences.specs.Patterns.{free_spot}
use Rattle.lq_sentences.specs.Levels.{Here, a_term}

abbrev pub with_term : Here → (Surface → Tac) → Rule Tac
with_term h node = node <$> a_term h

abbrev pub with_name : Here → (Name → Tac) → Rule Tac
with_name h node = node <$> a_name (h.n + 1)

-- `(x : A)` and `(x := t)`, with n levels inside
abbrev pub pair : ℕ → Symbol → Rule (Name × Surface)
pair n sign = do
  _ ← expect (n + 1) OpenRound
  x ← a_name n
  _ ← expect n sign
  t ← term n free_spot
  _ ← expect (n + 1) CloseRound
  pure (x, t)

abbrev pub with_pair : Here → (Name → Surface → Tac) → Symbol → Rule Tac
with_pair h node sign = (λ p. node p.0 p.1) <$> pair h.n sign

-- [name]
abbrev pub intro_form : Here → Rule Tac
intro_form h = (λ x. prim (form.intro x)) <$> maybe (is_spare h.ends) (a_name (h.n + 1))

-- {name}
abbrev pub intros_form : Here → Rule Tac
intros_form h = (λ xs. prim (form.intros xs)) <$> many (h.n + 1) (is_spare h.ends) name_word []

-- [number]
abbrev pub constructor_form : Here → Rule Tac
constructor_form h = (λ k. prim (form.constructor k)) <$> maybe is_number (a_number (h.n + 1))

-- `as [x y | z]`, with n levels inside
abbrev pub as_names : ℕ → Rule (List (List Name))
as_names n = do
  _ ← expect_word (n + 1) (codes "as")
  _ ← expect (n + 1) OpenSquare
  xs ← separated n Bar (names n)
  _ ← expect (n + 1) CloseSquare
  pure xs

abbrev pub as_part : Here → Rule (Option (List (List Name)))
as_part h = maybe (reads (codes "as")) (as_names h.n)

abbrev pub induction_form : Here → Rule Tac
induction_form h = do
  x ← a_name (h.n + 1)
  branches ← as_part h
  pure (rule (form.induction x branches))

abbrev pub destruct_form : Here → Rule Tac
destruct_form h = do
  t ← a_term h
  branches ← as_part h
  pure (rule (form.destruct t branches))

-- ["<-"] term
abbrev pub rewrite_form : Here → Rule Tac
rewrite_form h = do
  is_back ← eat (h.n + 1) (is_sign BackArrow)
  t ← a_term h
  pure (rule (elim is_back [ true ↦ form.rewrite_back t | false ↦ form.rewrite t ]))

-- name "into" name
abbrev pub rename_form : Here → Rule Tac
rename_form h = do
  x ← a_name (h.n + 1)
  _ ← expect_word (h.n + 1) (codes "into")
  y ← a_name (h.n + 1)
  pure (rule (form.rename x y))

-- each word of a primitive
unfoldable pub primitive_words : List (Name × Primitive)
primitive_words =
    (codes "intro", which.Intro)
    ∷ (codes "intros", which.Intros)
    ∷ (codes "exact", which.Exact)
    ∷ (codes "refine", which.Refine)
    ∷ (codes "apply", which.Apply)
    ∷ (codes "eapply", which.Eapply)
    ∷ (codes "assumption", which.Assumption)
    ∷ (codes "constructor", which.Constructor)
    ∷ (codes "split", which.Split)
    ∷ (codes "left", which.Left)
    ∷ (codes "right", which.Right)
    ∷ (codes "exists", which.Exists)
    ∷ (codes "assert", which.Assert)
    ∷ (codes "cut", which.Cut)
    ∷ (codes "pose", which.Pose)
    ∷ (codes "exfalso", which.Exfalso)
    ∷ (codes "reflexivity", which.Reflexivity)
    ∷ (codes "elim", which.Elim)
    ∷ (codes "induction", which.Induction)
    ∷ (codes "destruct", which.Destruct)
    ∷ (codes "rewrite", which.Rewrite)
    ∷ (codes "unfold", which.Unfold)
    ∷ (codes "change", which.Change)
    ∷ (codes "hnf", which.Hnf)
    ∷ (codes "compute", which.Compute)
    ∷ (codes "clear", which.Clear)
    ∷ (codes "rename", which.Rename)
    ∷ (codes "revert", which.Revert)
    ∷ (codes "generalize", which.Generalize)
    ∷ []

-- what stands behind the word of a primitive
abbrev pub primitive : Here → Primitive → Rule Tac
primitive h which.Intro = intro_form h
primitive h which.Intros = intros_form h
primitive h which.Exact = with_term h (λ t. prim (form.exact t))
primitive h which.Refine = with_term h (λ t. prim (form.refine t))
primitive h which.Apply = with_term h (λ t. prim (form.apply_with t))
primitive h which.Eapply = with_term h (λ t. prim (form.eapply t))
primitive h which.Assumption = pure (prim form.assumption)
primitive h which.Constructor = constructor_form h
primitive h which.Split = pure (prim form.split)
primitive h which.Left = pure (prim form.to_left)
primitive h which.Right = pure (prim form.to_right)
primitive h which.Exists = with_term h (λ t. prim (form.exists t))
primitive h which.Assert = with_pair h (λ x A. prim (form.assert_that x A)) Colon
primitive h which.Cut = with_term h (λ A. prim (form.cut_by A))
primitive h which.Pose = with_pair h (λ x t. prim (form.pose x t)) ColonEqual
primitive h which.Exfalso = pure (prim form.exfalso)
primitive h which.Reflexivity = pure (prim form.reflexivity)
primitive h which.Elim = with_term h (λ t. rule (form.elimination_of t))
primitive h which.Induction = induction_form h
primitive h which.Destruct = destruct_form h
primitive h which.Rewrite = rewrite_form h
primitive h which.Unfold = with_name h (λ x. rule (form.unfold_constant x))
primitive h which.Change = with_term h (λ A. rule (form.change A))
primitive h which.Hnf = pure (rule form.hnf)
primitive h which.Compute = pure (rule form.compute)
primitive h which.Clear = with_name h (λ x. rule (form.clear x))
primitive h which.Rename = rename_form h
primitive h which.Revert = with_name h (λ x. rule (form.revert x))
primitive h which.Generalize = with_term h (λ t. rule (form.generalize t))
