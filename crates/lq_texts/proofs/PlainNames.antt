-- A plain name is one token, alone and before other text; so is one with a number behind it.
use Rattle.std.proofs.Common.{◌≡◌, ℕ, zero, suc, ◌+◌, ◌-◌, ◌≤◌, Bool, true, false, List, [], ◌∷◌, drop, length, Option, Some, None, refl, sym, ap, ◌∙◌, subst, arith, if◌then◌else◌, inl, inr}
use Rattle.std.specs.Prelude.{nat_lt}
use Rattle.bstr.specs.Utf8.{decoded}
use Rattle.bstr.proofs.lemmas.PieceLemmas.{piece-bounds}
use Rattle.lq_grammar.specs.declared.fault.LexFault.TheVariants.{BadChar}
use Rattle.lq_grammar.specs.declared.token.Class.{Class}
use Rattle.lq_grammar.specs.declared.token.Class.TheVariants as class
use Rattle.lq_grammar.specs.declared.token.Token.{Token}
use Rattle.lq_grammar.specs.declared.token.TokenKind.TheVariants as kind
use Rattle.lq_grammar.specs.Cells.{Cells, over, broken, letter, cells_from, cells, place, front, past, goes_on}
use Rattle.lq_grammar.specs.Tokens.{Found, nothing, word, crossing, flaw, token, continues_name, longest_name, name_at, class_of, found_at, found}
use Rattle.lq_trees.specs.Tree.{Name}
use Rattle.lq_texts.proofs.NameLexing.{IsLexed, char_of, first_char}
use Rattle.lq_texts.proofs.Runs.{Run, run_end, run_more}
use Rattle.lq_texts.proofs.KindLaws.{IsNameKind, NotNamed, class_not}

-- ---- the characters of a name

-- what a name leaves
name_rest : (p : ℕ) (cs rest : Cells) (t : Token) → name_at p cs ≡ word t rest → past continues_name cs ≡ rest
unfolding name_at
name_rest p cs rest t e = step (nat_lt longest_name (place (past continues_name cs) - p)) (goes_on continues_name (past continues_name cs)) e
  where
    step : (a b : Bool) → (if a then flaw (BadChar p) else if b then crossing kind.Name else token kind.Name p (past continues_name cs)) ≡ word t rest →
        past continues_name cs ≡ rest
    step true b f = absurd cc
    step false true f = absurd cc
    step false false f = cc

behind_first : (m b : ℕ) (bs : List ℕ) → 1 ≤ m → drop (m - 1) bs ≡ drop m (b ∷ bs)
behind_first zero b bs h = absurd (omega arith)
behind_first (suc m) b bs h = let one : suc m - 1 ≡ m = omega arith in ap (λ j. drop j bs) one

-- characters that all pass a test
run_from : (test : ℕ → Bool) (k at : ℕ) (bs : List ℕ) (n : ℕ) → past test (cells_from k at bs) ≡ over n → Run test (drop k bs)
unfolding past cells_from
run_from test zero at [] n e = run_end
run_from test (suc k) at [] n e = run_end
run_from test (suc k) at (b ∷ bs) n e = run_from test k (at + 1) bs n e
run_from test zero at (b ∷ bs) n e = step (decoded (b ∷ bs)).char refl e (run_from test ((decoded (b ∷ bs)).size - 1) (at + 1) bs n)
  where
    passed : (c : ℕ) (cs : Cells) (t : Bool) → test c ≡ t → elim t as (λ _. Cells) [ true ↦ past test cs | false ↦ letter at c cs ] ≡ over n →
        (test c ≡ true) × (past test cs ≡ over n)
    passed c cs true f g = (f, g)
    passed c cs false f g = absurd cc

    step : (o : Option ℕ) → (decoded (b ∷ bs)).char ≡ o →
        past test (elim o as (λ _. Cells) [ None ↦ broken at | Some c ↦ letter at c (cells_from ((decoded (b ∷ bs)).size - 1) (at + 1) bs) ]) ≡ over n →
        (past test (cells_from ((decoded (b ∷ bs)).size - 1) (at + 1) bs) ≡ over n → Run test (drop ((decoded (b ∷ bs)).size - 1) bs)) → Run test (b ∷ bs)
    step None f g others = absurd cc
    step (Some c) f g others =
        let p = passed c (cells_from ((decoded (b ∷ bs)).size - 1) (at + 1) bs) (test c) refl g in
        run_more f p.0 (subst (Run test) (behind_first (decoded (b ∷ bs)).size b bs (piece-bounds (b ∷ bs) (omega arith)).0) (others p.1))

front_cells : (k at : ℕ) (bs : List ℕ) → front (cells_from k at bs) ≡ first_char (drop k bs)
unfolding front cells_from
front_cells zero at [] = refl
front_cells (suc k) at [] = refl
front_cells (suc k) at (b ∷ bs) = front_cells k (at + 1) bs
front_cells zero at (b ∷ bs) = step (decoded (b ∷ bs)).char
  where
    step : (o : Option ℕ) →
        front (elim o as (λ _. Cells) [ None ↦ broken at | Some c ↦ letter at c (cells_from ((decoded (b ∷ bs)).size - 1) (at + 1) bs) ]) ≡ char_of o
    step None = refl
    step (Some c) = refl

-- the first character and what stands behind it
first_of : (b c : ℕ) (bs : List ℕ) → (decoded (b ∷ bs)).char ≡ Some c → cells 0 (b ∷ bs) ≡ letter 0 c (cells_from ((decoded (b ∷ bs)).size - 1) 1 bs)
unfolding cells_from
first_of b c bs e = ap (λ o. elim o as (λ _. Cells) [ None ↦ broken 0 | Some d ↦ letter 0 d (cells_from ((decoded (b ∷ bs)).size - 1) (0 + 1) bs) ]) e

none_of : (b : ℕ) (bs : List ℕ) → (decoded (b ∷ bs)).char ≡ None → cells 0 (b ∷ bs) ≡ broken 0
unfolding cells_from
none_of b bs e = ap (λ o. elim o as (λ _. Cells) [ None ↦ broken 0 | Some d ↦ letter 0 d (cells_from ((decoded (b ∷ bs)).size - 1) (0 + 1) bs) ]) e

at_letter : (p c : ℕ) (cs : Cells) → found false (letter p c cs) ≡ found_at (class_of false c (front cs)) p c cs
unfolding found
at_letter p c cs = refl

at_broken : (p : ℕ) → found false (broken p) ≡ flaw (BadChar p)
unfolding found
at_broken p = refl

at_over : found false (cells 0 []) ≡ nothing
unfolding found cells_from
at_over = refl

as_name : (p c : ℕ) (cs : Cells) → found_at class.Name p c cs ≡ name_at p cs
unfolding found_at
as_name p c cs = refl

abbrev named_token : ℕ → Token
named_token n = record { kind = kind.Name; start = 0; end = n }

none_named : (f : Found) (t : Token) (rest : Cells) → f ≡ word t rest → IsNameKind t.kind → NotNamed f → ⊥
none_named f t rest e k h = subst NotNamed e h k

-- what is one name token is made as a name is
pub lexed_of : (x : Name) → found false (cells 0 x) ≡ word (named_token (length x)) (over (length x)) → length x ≤ longest_name → IsLexed x
lexed_of [] e h = absurd (apart (sym at_over ∙ e))
  where
    apart : nothing ≡ word (named_token 0) (over 0) → ⊥
    apart f = cc
lexed_of (b ∷ bs) e h = step (decoded (b ∷ bs)).char refl
  where
    n : ℕ
    n = (decoded (b ∷ bs)).size

    rest : Cells
    rest = cells_from (n - 1) 1 bs

    behind : drop (n - 1) bs ≡ drop n (b ∷ bs)
    behind = behind_first n b bs (piece-bounds (b ∷ bs) (omega arith)).0

    apart : flaw (BadChar 0) ≡ word (named_token (length (b ∷ bs))) (over (length (b ∷ bs))) → ⊥
    apart f = cc

    at_class : (c : ℕ) → (decoded (b ∷ bs)).char ≡ Some c →
        found_at (class_of false c (front rest)) 0 c rest ≡ word (named_token (length (b ∷ bs))) (over (length (b ∷ bs)))
    at_class c f = sym (ap (found false) (first_of b c bs f) ∙ at_letter 0 c rest) ∙ e

    is_class : (c : ℕ) (k : Class) → found_at k 0 c rest ≡ word (named_token (length (b ∷ bs))) (over (length (b ∷ bs))) → k ≡ class.Name
    is_class c k f = elim (class_not k 0 c rest) [ inl m ↦ absurd (none_named _ _ _ f tt m) | inr m ↦ m ]

    step : (o : Option ℕ) → (decoded (b ∷ bs)).char ≡ o → IsLexed (b ∷ bs)
    step None f = absurd (apart (sym (ap (found false) (none_of b bs f) ∙ at_broken 0) ∙ e))
    step (Some c) f =
        let k = is_class c (class_of false c (front rest)) (at_class c f) in
        let g = sym (ap (λ j. found_at j 0 c rest) k ∙ as_name 0 c rest) ∙ at_class c f in
        record {
          initial = c;
          begins = f;
          named = ap (class_of false c) (ap first_char (sym behind) ∙ sym (front_cells (n - 1) 1 bs)) ∙ k;
          others = subst (Run continues_name) behind
              (run_from continues_name (n - 1) 1 bs (length (b ∷ bs)) (name_rest 0 rest (over (length (b ∷ bs))) (named_token (length (b ∷ bs))) g));
          short = h;
        }
