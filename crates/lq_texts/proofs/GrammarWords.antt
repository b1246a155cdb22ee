-- The words of the grammar of terms are one token each.
use Rattle.std.proofs.Common.{◌≡◌, ℕ, ◌<◌, true, List, [], ◌∷◌, drop, refl, sym, subst, arith}
use Rattle.std.specs.Prelude.{codes}
use Rattle.lq_grammar.specs.Tokens.{continues_name}
use Rattle.lq_grammar.proofs.Computing.{cutting}
use Rattle.lq_texts.proofs.Fronts.{decoded_ascii}
use Rattle.lq_texts.proofs.NameLexing.{IsLexed}
use Rattle.lq_texts.proofs.Runs.{Run, run_end, run_more}

-- ---- the words of the grammar

pub letters : (bs : List ℕ) → Rattle.std.specs.List.AllByRecursion (λ b. (b < 128) × (continues_name b ≡ true)) bs → Run continues_name bs
letters [] h = run_end
letters (b ∷ bs) h =
    let d = decoded_ascii b bs h.0.0 in
    run_more d.0 h.0.1 (subst (λ n. Run continues_name (drop n (b ∷ bs))) (sym d.1) (letters bs h.1))

pub word_check : IsLexed (codes "Check")
unfolding cutting
word_check = record {
  initial = 67;
  begins = refl;
  named = refl;
  others = letters (codes "heck")
      ((omega arith, refl), ((omega arith, refl), ((omega arith, refl), ((omega arith, refl), tt))));
  short = omega arith;
}

pub word_forall : IsLexed (codes "forall")
unfolding cutting
word_forall = record {
  initial = 102;
  begins = refl;
  named = refl;
  others = letters (codes "orall")
      ((omega arith, refl), ((omega arith, refl), ((omega arith, refl), ((omega arith, refl), ((omega arith, refl), tt)))));
  short = omega arith;
}

pub word_fun : IsLexed (codes "fun")
unfolding cutting
word_fun =
    record { initial = 102; begins = refl; named = refl; others = letters (codes "un") ((omega arith, refl), ((omega arith, refl), tt)); short = omega arith }

pub word_let : IsLexed (codes "let")
unfolding cutting
word_let =
    record { initial = 108; begins = refl; named = refl; others = letters (codes "et") ((omega arith, refl), ((omega arith, refl), tt)); short = omega arith }

pub word_in : IsLexed (codes "in")
unfolding cutting
word_in = record { initial = 105; begins = refl; named = refl; others = letters (codes "n") ((omega arith, refl), tt); short = omega arith }

pub word_prop : IsLexed (codes "Prop")
unfolding cutting
word_prop = record {
  initial = 80;
  begins = refl;
  named = refl;
  others = letters (codes "rop")
      ((omega arith, refl), ((omega arith, refl), ((omega arith, refl), tt)));
  short = omega arith;
}

pub word_type : IsLexed (codes "Type")
unfolding cutting
word_type = record {
  initial = 84;
  begins = refl;
  named = refl;
  others = letters (codes "ype")
      ((omega arith, refl), ((omega arith, refl), ((omega arith, refl), tt)));
  short = omega arith;
}
