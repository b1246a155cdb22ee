-- The texts of goals, one after another.
use Rattle.std.proofs.Common.{◌≡◌, ◌∙◌, ℕ, suc, ◌+◌, ◌<◌, List, [], ◌∷◌, ◌++◌, map, length, take, get_or, sym, ap, arith, append-nil, append_assoc}
use Rattle.std.proofs.lemmas.List.{take_more, map-append, length-map, length-take-le}
use Rattle.lq_calculus.specs.Declarations.{Env}
use Rattle.lq_terms.specs.Terms.{Terms}
use Rattle.lq_texts.specs.Views.{Goal, goal_text, goal_texts}
use Rattle.lq_goals.specs.declared.views.GoalView.{GoalView}
use Rattle.lq_print.specs.Goals.{goal_of}

pub no_goals : (env : Env) (out : List ℕ) → out ≡ out ++ goal_texts env 1 []
unfolding goal_texts
no_goals env out = sym (append-nil out)

-- goals, and one more behind them
texts_push : (env : Env) (i : ℕ) (gs : List Goal) (g : Goal) → goal_texts env i (gs ++ g ∷ []) ≡ goal_texts env i gs ++ goal_text env (i + length gs) g
unfolding goal_texts
texts_push env i [] g = append-nil (goal_text env i g) ∙ ap (λ k. goal_text env k g) (omega arith)
texts_push env i (h ∷ gs) g =
    ap (λ z. goal_text env i h ++ z) (texts_push env (suc i) gs g ∙ ap (λ k. goal_texts env (suc i) gs ++ goal_text env k g) (omega arith))
    ∙ sym (append_assoc (goal_text env i h) (goal_texts env (suc i) gs) (goal_text env (i + length (h ∷ gs)) g))

pub one_more_goal :
    (bank : Terms) (env : Env) (out mid new : List ℕ) (gs : List GoalView) (k : ℕ) (g : GoalView) → k < length gs → g ≡ get_or gs k g
    → mid ≡ out ++ goal_texts env 1 (map (goal_of bank) (take k gs)) → new ≡ mid ++ goal_text env (k + 1) (goal_of bank g)
    → new ≡ out ++ goal_texts env 1 (map (goal_of bank) (take (k + 1) gs))
one_more_goal bank env out mid new gs k g l at so_far e =
    e ∙ ap (λ z. z ++ goal_text env (k + 1) (goal_of bank g)) so_far
    ∙ append_assoc out (goal_texts env 1 (map (goal_of bank) (take k gs))) (goal_text env (k + 1) (goal_of bank g))
    ∙ ap (λ z. out ++ z)
    (ap (λ j. goal_texts env 1 (map (goal_of bank) (take k gs)) ++ goal_text env j (goal_of bank g))
    (omega (arith, length-map (take k gs) (goal_of bank), length-take-le k gs (omega arith)))
    ∙ sym (texts_push env 1 (map (goal_of bank) (take k gs)) (goal_of bank g))
    ∙ ap (goal_texts env 1)
    (sym (ap (map (goal_of bank)) (take_more gs k g l) ∙ map-append (goal_of bank) (take k gs) (get_or gs k g ∷ [])
    ∙ ap (λ x. map (goal_of bank) (take k gs) ++ goal_of bank x ∷ []) (sym at))))
