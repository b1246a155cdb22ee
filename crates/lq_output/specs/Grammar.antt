-- The grammar of the sentences.
use Rattle.std.specs.Prelude.{ℕ, zero, suc, ◌+◌, Bool, true, false, not, ◌&&◌, nat_le, List, [], ◌∷◌, length, Option, Some, None, codes}
use Rattle.lq_trees.specs.Tree.{Name, same_name}
use Rattle.lq_trees.specs.Fresh.{is_listed}
use Rattle.lq_output.specs.Script.{is_blank}
use Rattle.lq_output.specs.Tokens.{Token, word, colon, comma, arrow, semicolon, opening, closing, is_letter, tokens}

-- a term as it is written
pub data Surface : Type 0 where
  named : Name → Surface
  -- `Prop`
  prop : Surface
  -- `forall x : A, B`
  forall_ : Name → Surface → Surface → Surface
  -- `A -> B`
  to : Surface → Surface → Surface

-- a tactic
pub data Tactic : Type 0 where
  intro : Name → Tactic
  exact : Name → Tactic

pub data Sentence : Type 0 where
  -- `Theorem x : A`
  theorem : Name → Surface → Sentence
  -- `Proof`
  proof : Sentence
  -- tactics, joined by `;`
  tactics : List Tactic → Sentence
  -- `Qed`
  qed : Sentence

abbrev pub reserved : List Name
reserved =
    codes "forall" ∷ codes "fun" ∷ codes "let" ∷ codes "in" ∷ codes "Prop" ∷ codes "Type" ∷ codes "match" ∷ codes "lazymatch" ∷ codes "multimatch" ∷ codes "with" ∷ codes "end" ∷ codes "rec" ∷ codes "as" ∷ []

-- whether a word begins with a letter
abbrev pub begins_name : List ℕ → Bool
begins_name [] = false
begins_name (b ∷ bs) = is_letter b

-- whether a word is a name: it begins with a letter, has at most 255 bytes, and isn't reserved
unfoldable pub is_name : List ℕ → Bool
is_name w = begins_name w && nat_le (length w) 255 && not (is_listed reserved w)

-- A reader answers what it has read, and the tokens behind it.
abbrev pub Reader : Type 0 → Type 0
Reader A = List Token → Option (A × List Token)

-- a word as a term
unfoldable pub atom : List ℕ → Option Surface
atom w = elim (same_name w (codes "Prop")) [ true ↦ Some prop | false ↦ elim (is_name w) [ true ↦ Some (named w) | false ↦ None ] ]

-- behind a term: `->` and a term, or nothing
unfoldable pub arrow_behind : Reader Surface → Surface → Reader Surface
arrow_behind below A (arrow ∷ ts) = elim (below ts) [ None ↦ None | Some r ↦ Some (to A r.0, r.1) ]
arrow_behind below A ts = Some (A, ts)

-- behind the domain of a product: `,` and the rest
unfoldable pub rest_behind : Reader Surface → Name → Surface → Reader Surface
rest_behind below x A (comma ∷ ts) = elim (below ts) [ None ↦ None | Some r ↦ Some (forall_ x A r.0, r.1) ]
rest_behind below x A _ = None

-- behind `forall`: a name, `:`, a term, `,` and a term
unfoldable pub product_behind : Reader Surface → Reader Surface
product_behind below (word x ∷ colon ∷ ts) =
    elim (is_name x) [ false ↦ None | true ↦ elim (below ts) [ None ↦ None | Some r ↦ rest_behind below x r.0 r.1 ] ]
product_behind below _ = None

-- behind a term in brackets: `)`, and what may stand behind a term
unfoldable pub bracket_behind : Reader Surface → Surface → Reader Surface
bracket_behind below A (closing ∷ ts) = arrow_behind below A ts
bracket_behind below A _ = None

-- a term, by the reader of the terms that are nested one deeper
unfoldable pub term_by : Reader Surface → Reader Surface
term_by below (word w ∷ ts) =
    elim (same_name w (codes "forall")) [
      | true ↦ product_behind below ts
      | false ↦ elim (atom w) [ None ↦ None | Some A ↦ arrow_behind below A ts ]
    ]
term_by below (opening ∷ ts) = elim (below ts) [ None ↦ None | Some r ↦ bracket_behind below r.0 r.1 ]
term_by below _ = None

-- a term with so many levels of nesting left: brackets, the words behind `forall`, and the right side of `->` are each one deeper
unfoldable pub term_within : ℕ → Reader Surface
term_within zero ts = None
term_within (suc k) ts = term_by (term_within k) ts

-- nesting 0 to 200
abbrev pub levels : ℕ
levels = 201

unfoldable pub tactic_of : (word argument : List ℕ) → Option Tactic
tactic_of v x =
    elim (is_name x) [
      | false ↦ None
      | true ↦ elim (same_name v (codes "intro")) [
        | true ↦ Some (intro x)
        | false ↦ elim (same_name v (codes "exact")) [ true ↦ Some (exact x) | false ↦ None ]
      ]
    ]

-- a tactic in front of others
unfoldable pub before_tactics : Option Tactic → Option (List Tactic) → Option (List Tactic)
before_tactics (Some t) (Some ts) = Some (t ∷ ts)
before_tactics _ _ = None

-- tactics joined by `;`, to the end of the sentence
unfoldable pub tactics_of : List Token → Option (List Tactic)
tactics_of (word v ∷ word x ∷ []) = before_tactics (tactic_of v x) (Some [])
tactics_of (word v ∷ word x ∷ semicolon ∷ ts) = before_tactics (tactic_of v x) (tactics_of ts)
tactics_of _ = None

-- a statement, which is all that is left
unfoldable pub statement_of : Name → Option (Surface × List Token) → Option Sentence
statement_of x (Some r) = elim r.1 [ [] ↦ Some (theorem x r.0) | _ ∷ _ ↦ None ]
statement_of x None = None

-- behind `Theorem`: a name, `:` and a term
unfoldable pub theorem_behind : List Token → Option Sentence
theorem_behind (word x ∷ colon ∷ ts) = elim (is_name x) [ false ↦ None | true ↦ statement_of x (term_within levels ts) ]
theorem_behind _ = None

-- a sentence of one word
unfoldable pub lone : List ℕ → Option Sentence
lone w = elim (same_name w (codes "Proof")) [ true ↦ Some proof | false ↦ elim (same_name w (codes "Qed")) [ true ↦ Some qed | false ↦ None ] ]

unfoldable pub tactics_sentence : Option (List Tactic) → Option Sentence
tactics_sentence (Some ts) = Some (tactics ts)
tactics_sentence None = None

-- the sentence that the tokens are
unfoldable pub sentence_of : List Token → Option Sentence
sentence_of (word w ∷ []) = lone w
sentence_of (word w ∷ t ∷ ts) =
    elim (same_name w (codes "Theorem")) [ true ↦ theorem_behind (t ∷ ts) | false ↦ tactics_sentence (tactics_of (word w ∷ t ∷ ts)) ]
sentence_of _ = None

-- the text from its first byte on that isn't a blank
unfoldable pub behind_blanks : List ℕ → List ℕ
behind_blanks [] = []
behind_blanks (b ∷ bs) = elim (is_blank b) [ true ↦ behind_blanks bs | false ↦ b ∷ bs ]

-- whether a sentence has at most 65,536 bytes, counted from its first byte that isn't a blank up to its dot
unfoldable pub is_short : List ℕ → Bool
is_short p = nat_le (length (behind_blanks p) + 1) 65536

-- the sentence that a text is, without its dot; None where it is none, or is too long
unfoldable pub read : List ℕ → Option Sentence
read p = elim (is_short p) [ false ↦ None | true ↦ elim (tokens p) [ None ↦ None | Some ts ↦ sentence_of ts ] ]
