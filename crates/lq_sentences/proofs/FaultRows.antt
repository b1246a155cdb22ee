-- Faults of sentences and their places, computed.
use Rattle.std.specs.Prelude.{◌≡◌, refl, ℕ, zero, suc, List, [], ◌++◌, codes, Some, Err}
use Rattle.lq_sentences.specs.declared.fault.SyntaxFault.TheVariants.{Unexpected, EndInside}
use Rattle.lq_sentences.proofs.Computing.{reading}
use Rattle.lq_sentences.proofs.Trying.{tree_at}

-- some bytes so many times
unfoldable times : ℕ → List ℕ → List ℕ
times zero xs = []
times (suc n) xs = xs ++ times n xs

-- `?x` stands in patterns alone
pattern_variable : tree_at (codes "Check ?x.") 0 ≡ Some (Err (Unexpected 7))
unfolding reading
pattern_variable = refl

reserved_name : tree_at (codes "Definition let := x.") 0 ≡ Some (Err (Unexpected 11))
unfolding reading
reserved_name = refl

reserved_binder : tree_at (codes "intro fun.") 0 ≡ Some (Err (Unexpected 6))
unfolding reading
reserved_binder = refl

dot_inside : tree_at (codes "exact a.b. ") 0 ≡ Some (Err (Unexpected 7))
unfolding reading
dot_inside = refl

no_statement : tree_at (codes "Theorem t := x.") 0 ≡ Some (Err (Unexpected 10))
unfolding reading
no_statement = refl

no_term : tree_at (codes "Check (.") 0 ≡ Some (Err (Unexpected 7))
unfolding reading
no_term = refl

-- before `{` a selector is one number or a name
span_brace : tree_at (codes "1-1: { a.") 0 ≡ Some (Err (Unexpected 5))
unfolding reading
span_brace = refl

list_brace : tree_at (codes "1, 2: { a.") 0 ≡ Some (Err (Unexpected 6))
unfolding reading
list_brace = refl

sole_brace : tree_at (codes "!: { a.") 0 ≡ Some (Err (Unexpected 3))
unfolding reading
sole_brace = refl

-- one place may be filled
two_fills : tree_at (codes "a; [b .. | c .. ].") 0 ≡ Some (Err (Unexpected 13))
unfolding reading
two_fills = refl

-- behind `reverse goal` a clause has hypotheses or `|-`
goal_pattern : tree_at (codes "match reverse goal with x => a end.") 0 ≡ Some (Err (Unexpected 26))
unfolding reading
goal_pattern = refl

sequent_on_term : tree_at (codes "match x with |- A => a end.") 0 ≡ Some (Err (Unexpected 13))
unfolding reading
sequent_on_term = refl

-- a command's word may be the name of a call
further : tree_at (codes "Qed Qed Prop fun.") 0 ≡ Some (Err (Unexpected 13))
unfolding reading
further = refl

empty_first : tree_at (codes "first [].") 0 ≡ Some (Err (Unexpected 7))
unfolding reading
empty_first = refl

bad_level : tree_at (codes "exact Type 4.") 0 ≡ Some (Err (Unexpected 11))
unfolding reading
bad_level = refl

end_inside : tree_at (codes "exact x") 0 ≡ Some (Err (EndInside 7))
unfolding reading
end_inside = refl

fail_alone : tree_at (codes "Fail") 0 ≡ Some (Err (EndInside 4))
unfolding reading
fail_alone = refl

-- the place is the end of the text
open_comment_behind : tree_at (codes "intro x  ") 0 ≡ Some (Err (EndInside 9))
unfolding reading
open_comment_behind = refl
