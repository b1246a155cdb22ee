-- A sentence that is read is nested at most 200 deep.
use Rattle.std.proofs.Common.{◌≡◌, ℕ, zero, suc, ◌-◌, ◌≤◌, ◌<◌, subst, List, [], ◌∷◌, Option, Some, None, Bool, true, false, arith}
use Rattle.std.specs.Prelude.{codes}
use Rattle.lq_trees.specs.Tree.{Name, same_name}
use Rattle.lq_output.specs.Tokens.{Token, word, colon, comma, arrow, opening, closing, tokens}
use Rattle.lq_output.specs.Grammar.{Surface, named, prop, forall_, to, Sentence, theorem, proof, qed, Reader, Tactic, levels, is_name, atom, arrow_behind, rest_behind, product_behind, bracket_behind, term_by, term_within, statement_of, theorem_behind, lone, tactics_of, tactics_sentence, sentence_of, is_short, read}
use Rattle.lq_output.specs.Nesting.{nesting, IsShallow}

-- what is read, if anything is, is nested less deep than that
abbrev IsLess : ℕ → Option (Surface × List Token) → Type 0
IsLess k None = Unit {0}
IsLess k (Some r) = nesting r.0 < k

-- a term without its tokens
abbrev IsLow : ℕ → Option Surface → Type 0
IsLow k None = Unit {0}
IsLow k (Some A) = nesting A ≤ k

atom_low : (w : List ℕ) → IsLow 0 (atom w)
unfolding atom
atom_low w = go (same_name w (codes "Prop")) (is_name w)
  where
    go : (b c : Bool) → IsLow 0 (elim b [ true ↦ Some prop | false ↦ elim c [ true ↦ Some (named w) | false ↦ None ] ])
    go true c = omega arith
    go false true = omega arith
    go false false = tt

module _ (k : ℕ) (below : Reader Surface) (less : (ts : List Token) → IsLess k (below ts)) where
  to_less : (A : Surface) → nesting A ≤ k - 1 → (r : Option (Surface × List Token)) → IsLess k r → IsLess (suc k) (elim r [ None ↦ None | Some q ↦ Some (to A q.0, q.1) ])
  to_less A a None h = tt
  to_less A a (Some q) h = omega arith

  arrow_less : (A : Surface) → nesting A ≤ k - 1 → (ts : List Token) → IsLess (suc k) (arrow_behind below A ts)
  unfolding arrow_behind
  arrow_less A a (arrow ∷ ts) = to_less A a (below ts) (less ts)
  arrow_less A a _ = omega arith

  forall_less : (x : Name) (A : Surface) → nesting A < k → (r : Option (Surface × List Token)) → IsLess k r → IsLess (suc k) (elim r [ None ↦ None | Some q ↦ Some (forall_ x A q.0, q.1) ])
  forall_less x A a None h = tt
  forall_less x A a (Some q) h = omega arith

  rest_less : (x : Name) (A : Surface) → nesting A < k → (ts : List Token) → IsLess (suc k) (rest_behind below x A ts)
  unfolding rest_behind
  rest_less x A a (comma ∷ ts) = forall_less x A a (below ts) (less ts)
  rest_less x A a _ = tt

  domain_less : (x : Name) (r : Option (Surface × List Token)) → IsLess k r → IsLess (suc k) (elim r [ None ↦ None | Some q ↦ rest_behind below x q.0 q.1 ])
  domain_less x None h = tt
  domain_less x (Some q) h = rest_less x q.0 h q.1

  product_less : (ts : List Token) → IsLess (suc k) (product_behind below ts)
  unfolding product_behind
  product_less (word x ∷ colon ∷ ts) = go (is_name x)
    where
      go : (b : Bool) → IsLess (suc k) (elim b [ false ↦ None | true ↦ elim (below ts) [ None ↦ None | Some r ↦ rest_behind below x r.0 r.1 ] ])
      go false = tt
      go true = domain_less x (below ts) (less ts)
  product_less _ = tt

  bracket_less : (A : Surface) → nesting A < k → (ts : List Token) → IsLess (suc k) (bracket_behind below A ts)
  unfolding bracket_behind
  bracket_less A a (closing ∷ ts) = arrow_less A (omega arith) ts
  bracket_less A a _ = tt

  opening_less : (r : Option (Surface × List Token)) → IsLess k r → IsLess (suc k) (elim r [ None ↦ None | Some q ↦ bracket_behind below q.0 q.1 ])
  opening_less None h = tt
  opening_less (Some q) h = bracket_less q.0 h q.1

  atom_less : (o : Option Surface) → IsLow 0 o → (ts : List Token) → IsLess (suc k) (elim o [ None ↦ None | Some A ↦ arrow_behind below A ts ])
  atom_less None h ts = tt
  atom_less (Some A) h ts = arrow_less A (omega arith) ts

  term_less : (ts : List Token) → IsLess (suc k) (term_by below ts)
  unfolding term_by
  term_less (word w ∷ ts) = go (same_name w (codes "forall"))
    where
      go : (b : Bool) → IsLess (suc k) (elim b [ true ↦ product_behind below ts | false ↦ elim (atom w) [ None ↦ None | Some A ↦ arrow_behind below A ts ] ])
      go true = product_less ts
      go false = atom_less (atom w) (atom_low w) ts
  term_less (opening ∷ ts) = opening_less (below ts) (less ts)
  term_less _ = tt

-- a term that is read is nested less deep than there are levels
pub within_less : (n : ℕ) (ts : List Token) → IsLess n (term_within n ts)
unfolding term_within
within_less zero ts = tt
within_less (suc k) ts = term_less k (term_within k) (within_less k) ts

-- what is read, if it is a sentence, is shallow
abbrev LeavesShallow : Option Sentence → Type 0
LeavesShallow None = Unit {0}
LeavesShallow (Some s) = IsShallow s

statement_shallow : (x : Name) (r : Option (Surface × List Token)) → IsLess levels r → LeavesShallow (statement_of x r)
unfolding statement_of
statement_shallow x None h = tt
statement_shallow x (Some q) h = go q.1
  where
    go : (ts : List Token) → LeavesShallow (elim ts [ [] ↦ Some (theorem x q.0) | _ ∷ _ ↦ None ])
    go [] = omega arith
    go (t ∷ ts) = tt

theorem_shallow : (ts : List Token) → LeavesShallow (theorem_behind ts)
unfolding theorem_behind
theorem_shallow (word x ∷ colon ∷ ts) = go (is_name x)
  where
    go : (b : Bool) → LeavesShallow (elim b [ false ↦ None | true ↦ statement_of x (term_within levels ts) ])
    go false = tt
    go true = statement_shallow x (term_within levels ts) (within_less levels ts)
theorem_shallow _ = tt

lone_shallow : (w : List ℕ) → LeavesShallow (lone w)
unfolding lone
lone_shallow w = go (same_name w (codes "Proof")) (same_name w (codes "Qed"))
  where
    go : (b c : Bool) → LeavesShallow (elim b [ true ↦ Some proof | false ↦ elim c [ true ↦ Some qed | false ↦ None ] ])
    go true c = tt
    go false true = tt
    go false false = tt

tactics_shallow : (o : Option (List Tactic)) → LeavesShallow (tactics_sentence o)
unfolding tactics_sentence
tactics_shallow (Some ts) = tt
tactics_shallow None = tt

sentence_shallow : (ts : List Token) → LeavesShallow (sentence_of ts)
unfolding sentence_of
sentence_shallow (word w ∷ []) = lone_shallow w
sentence_shallow (word w ∷ t ∷ ts) = go (same_name w (codes "Theorem"))
  where
    go : (b : Bool) → LeavesShallow (elim b [ true ↦ theorem_behind (t ∷ ts) | false ↦ tactics_sentence (tactics_of (word w ∷ t ∷ ts)) ])
    go true = theorem_shallow (t ∷ ts)
    go false = tactics_shallow (tactics_of (word w ∷ t ∷ ts))
sentence_shallow _ = tt

pub read_leaves : (p : List ℕ) → LeavesShallow (read p)
unfolding read
read_leaves p = go (is_short p) (tokens p)
  where
    go : (b : Bool) (o : Option (List Token)) → LeavesShallow (elim b [ false ↦ None | true ↦ elim o [ None ↦ None | Some ts ↦ sentence_of ts ] ])
    go false o = tt
    go true None = tt
    go true (Some ts) = sentence_shallow ts

-- a sentence that is read is shallow
pub read_shallow : (p : List ℕ) (s : Sentence) → read p ≡ Some s → IsShallow s
read_shallow p s e = subst LeavesShallow e (read_leaves p)
