-- The next sentence of a text, token by token.
use Rattle.std.proofs.Common.{◌≡◌, ℕ, suc, ◌+◌, ◌-◌, ◌<◌, ◌≤◌, Bool, true, false, List, [], ◌∷◌, ◌++◌, length, drop, length-drop, All, Result, Ok, Err, refl, sym, ap, ◌∙◌, subst, arith, inl, inr}
use Rattle.std.specs.Prelude.{◌||◌}
use Rattle.std.specs.List.{list_any}
use Rattle.std.proofs.lemmas.List.Elements.{All-push}
use Rattle.std.proofs.lemmas.List.Folds.{list_any-append}
use Rattle.lq_grammar.specs.declared.fault.LexFault.{LexFault}
use Rattle.lq_grammar.specs.declared.fault.LexFault.TheVariants.{BadChar, OpenComment, OpenString, BadNumber, NoMemory}
use Rattle.lq_grammar.specs.declared.token.Token.{Token}
use Rattle.lq_grammar.specs.declared.token.TokenKind.{TokenKind}
use Rattle.lq_grammar.specs.Cells.{Cells, over, place, front, window, view}
use Rattle.lq_grammar.proofs.CellLaws.{view_whole, view_own, cells_over}
use Rattle.lq_grammar.specs.Tokens.{Found, nothing, bound, space, word, crossing, flaw, class_of, found}
use Rattle.lq_grammar.specs.Selectors.{is_empty, closes}
use Rattle.lq_grammar.specs.Cutting.{Next, sentence, finished, longest, end_of, so_far, cut_off, gathered, is_space_class, is_space, behind_space, begun, next}
use Rattle.lq_lex.specs.declared.piece.Piece.{Piece}
use Rattle.lq_lex.specs.declared.piece.Piece.TheVariants.{Sentence, End, More}
use Rattle.lq_lex.specs.declared.view.View.{View}
use Rattle.lq_lex.specs.declared.view.Front.{Front}
use Rattle.lq_lex.specs.declared.view.Front.TheVariants.{Over, Broken, Beyond, Letter}
use Rattle.lq_lex.specs.declared.found.Found.{Found as Scanned}
use Rattle.lq_lex.specs.declared.found.Found.TheVariants as scanned
use Rattle.lq_lex.specs.Views.{from, Shows, Tells, IsSpanned, is_open_curly}
use Rattle.lq_lex.specs.Pieces.{IsPiece, Cuts, Spreads, Unsettled, Waits}
use Rattle.std.proofs.lemmas.List.{append-nil}
use Rattle.std.proofs.lemmas.Bool.{cases_lt}
use Rattle.lq_grammar.specs.Settled.{has_character, is_settled, settled_behind, begins_settled, settles}
use Rattle.lq_grammar.proofs.Staying.{settled_by, is_settled-suc, begins_by, begins_settled-suc, next_stays}
use Rattle.lq_grammar.proofs.SpanLaws.{next_spreads}
use Rattle.lq_grammar.proofs.SpanLaws as spans

-- ---- answers

pub cuts_piece : (piece : Piece) (n : Next) (r : Result Next LexFault) → IsPiece piece n → r ≡ Ok n → Cuts (Ok piece) r
cuts_piece (Sentence tokens stop) n r is e = e ∙ ap Ok is
cuts_piece End n r is e = e ∙ ap Ok is
cuts_piece More n r is e = absurd is

pub cuts_fault : (fault : LexFault) (r : Result Next LexFault) → r ≡ Err fault → Cuts (Err fault) r
cuts_fault NoMemory r e = tt
cuts_fault (BadChar p) r e = e
cuts_fault (OpenComment p) r e = e
cuts_fault (OpenString p) r e = e
cuts_fault (BadNumber p) r e = e

-- ---- one token or space more

one_turn : (n turn : ℕ) → turn < n → n - turn ≡ suc (n - (turn + 1))
one_turn n turn h = omega arith

-- what a sentence with these tokens is where that is found behind them
abbrev pub after_found : ℕ → List ℕ → List Token → Cells → Found → Result Next LexFault
after_found turns text ts cs f =
    elim f as (λ _. Result Next LexFault) [
      | nothing ↦ Ok (so_far ts)
      | bound ↦ Ok (so_far ts)
      | space rest ↦ gathered turns text ts rest
      | crossing k ↦ Ok (cut_off ts k (place cs))
      | flaw fault ↦ Err fault
      | word t rest ↦ elim (closes t.kind text ts) as (λ _. Result Next LexFault) [ true ↦ Ok (sentence (ts ++ t ∷ []) t.end) | false ↦ gathered turns text (ts ++ t ∷ []) rest ]
    ]

gathered-suc : (turns : ℕ) (text : List ℕ) (ts : List Token) (cs : Cells) → gathered (suc turns) text ts cs ≡ after_found turns text ts cs (found (is_empty ts) cs)
unfolding gathered
gathered-suc turns text ts cs = refl

pub gathered_found : (n turn : ℕ) (text : List ℕ) (ts : List Token) (cs : Cells) (is_start : Bool) (f : Found) → turn < n → is_start ≡ is_empty ts → found is_start cs ≡ f →
    gathered (n - turn) text ts cs ≡ after_found (n - (turn + 1)) text ts cs f
gathered_found n turn text ts cs is_start f h start e =
    ap (λ k. gathered k text ts cs) (one_turn n turn h) ∙ gathered-suc (n - (turn + 1)) text ts cs ∙ ap (after_found (n - (turn + 1)) text ts cs) (ap (λ b. found b cs) (sym start) ∙ e)

pub gathered_none : (n turn : ℕ) (text : List ℕ) (ts : List Token) (cs : Cells) → n ≤ turn → gathered (n - turn) text ts cs ≡ Ok (so_far ts)
unfolding gathered
gathered_none n turn text ts cs h = let none : n - turn ≡ 0 = omega arith in ap (λ k. gathered k text ts cs) none

pub word_ends : (turns : ℕ) (text : List ℕ) (ts us : List Token) (cs rest : Cells) (t : Token) → closes t.kind text ts ≡ true → us ≡ ts ++ t ∷ [] →
    after_found turns text ts cs (word t rest) ≡ Ok (sentence us t.end)
word_ends turns text ts us cs rest t e more =
    ap (λ v. elim v as (λ _. Result Next LexFault) [ true ↦ Ok (sentence (ts ++ t ∷ []) t.end) | false ↦ gathered turns text (ts ++ t ∷ []) rest ]) e ∙ ap (λ ws. Ok (sentence ws t.end)) (sym more)

pub word_goes : (turns : ℕ) (text : List ℕ) (ts us : List Token) (cs rest : Cells) (t : Token) → closes t.kind text ts ≡ false → us ≡ ts ++ t ∷ [] →
    after_found turns text ts cs (word t rest) ≡ gathered turns text us rest
word_goes turns text ts us cs rest t e more =
    ap (λ v. elim v as (λ _. Result Next LexFault) [ true ↦ Ok (sentence (ts ++ t ∷ []) t.end) | false ↦ gathered turns text (ts ++ t ∷ []) rest ]) e ∙ ap (λ ws. gathered turns text ws rest) (sym more)

-- what is kept of the tokens where one more comes
pub end_of-push : (ts us : List Token) (t : Token) → us ≡ ts ++ t ∷ [] → t.end ≡ end_of us
end_of-push ts us t e = sym (ap end_of e ∙ last ts) where
  last : (ws : List Token) → end_of (ws ++ t ∷ []) ≡ t.end
  last [] = refl
  last (w ∷ []) = refl
  last (w ∷ x ∷ ws) = last (x ∷ ws)

pub spanned-push : (text : List ℕ) (ts us : List Token) (t : Token) → us ≡ ts ++ t ∷ [] → All (IsSpanned text) ts → IsSpanned text t → All (IsSpanned text) us
spanned-push text ts us t e all one =
    let P : List Token → Type 0 = λ ws. All (IsSpanned text) ws in subst P (sym e) (All-push (IsSpanned text) ts t all one)

pub braced-push : (ts us : List Token) (t : Token) (braced curly : Bool) → us ≡ ts ++ t ∷ [] → braced ≡ list_any (λ w. is_open_curly w.kind) ts → curly ≡ is_open_curly t.kind →
    (braced || curly) ≡ list_any (λ w. is_open_curly w.kind) us
braced-push ts us t braced curly e all one =
    rw (e, list_any-append (λ (w : Token). is_open_curly w.kind) ts (t ∷ []), all, one) (last (list_any (λ w. is_open_curly w.kind) ts) (is_open_curly t.kind)) where
      last : (x y : Bool) → (x || y) ≡ (x || (y || false))
      last true y = refl
      last false true = refl
      last false false = refl

-- ---- before a sentence

pub is_space_letter : (v : View) (at c next : ℕ) → Shows v at (Letter c next) → is_space (from v at) ≡ is_space_class (class_of false c (front (from v next)))
unfolding is_space
is_space_letter v at c next shown = ap is_space shown.0

pub is_space_none : (v : View) (at : ℕ) (f : Front) → Shows v at f → ((c next : ℕ) → f ≡ Letter c next → ⊥) → is_space (from v at) ≡ false
unfolding is_space
is_space_none v at Over shown never = ap is_space shown
is_space_none v at Broken shown never = ap is_space shown
is_space_none v at (Beyond c) shown never = ap is_space shown
is_space_none v at (Letter c next) shown never = absurd (never c next refl)

-- what comes next by whether a space is at the front
abbrev begun_by : ℕ → List ℕ → Cells → Bool → Result Next LexFault
begun_by turns text cs is =
    elim is as (λ _. Result Next LexFault) [
      | true ↦ behind_space (λ rest. begun turns text rest) (found false cs)
      | false ↦ gathered (suc (length text)) text [] (window (place cs + longest) cs)
    ]

begun-suc : (turns : ℕ) (text : List ℕ) (cs : Cells) → begun (suc turns) text cs ≡ begun_by turns text cs (is_space cs)
unfolding begun
begun-suc turns text cs = refl

begun_turn : (n turn : ℕ) (text : List ℕ) (cs : Cells) (is : Bool) → turn < n → is_space cs ≡ is → begun (n - turn) text cs ≡ begun_by (n - (turn + 1)) text cs is
begun_turn n turn text cs is h e = ap (λ k. begun k text cs) (one_turn n turn h) ∙ begun-suc (n - (turn + 1)) text cs ∙ ap (begun_by (n - (turn + 1)) text cs) e

pub begun_starts : (n turn : ℕ) (text : List ℕ) (cs : Cells) → turn < n → is_space cs ≡ false → begun (n - turn) text cs ≡ gathered (suc (length text)) text [] (window (place cs + longest) cs)
begun_starts n turn text cs h e = begun_turn n turn text cs false h e

pub begun_space : (n turn : ℕ) (text : List ℕ) (cs : Cells) (f : Found) → turn < n → is_space cs ≡ true → found false cs ≡ f → begun (n - turn) text cs ≡ behind_space (λ rest. begun (n - (turn + 1)) text rest) f
begun_space n turn text cs f h e g = begun_turn n turn text cs true h e ∙ ap (behind_space (λ rest. begun (n - (turn + 1)) text rest)) g

pub begun_none : (n turn : ℕ) (text : List ℕ) (cs : Cells) → n ≤ turn → begun (n - turn) text cs ≡ Ok finished
unfolding begun
begun_none n turn text cs h = let none : n - turn ≡ 0 = omega arith in ap (λ k. begun k text cs) none

-- what is found before a sentence and is neither a space nor a fault ends the search
pub begun_other : (v : View) (n turn at : ℕ) (f : Scanned) → turn < n → is_space (from v at) ≡ true → Tells v f (found false (from v at)) →
    ((next : ℕ) → f ≡ scanned.Space next → ⊥) → ((fault : LexFault) → f ≡ scanned.Flaw fault → ⊥) → begun (n - turn) v.text.now (from v at) ≡ Ok finished
begun_other v n turn at scanned.Nothing h e told space_never flaw_never = begun_space n turn v.text.now (from v at) _ h e told
begun_other v n turn at scanned.Bound h e told space_never flaw_never = begun_space n turn v.text.now (from v at) _ h e told
begun_other v n turn at (scanned.Space next) h e told space_never flaw_never = absurd (space_never next refl)
begun_other v n turn at (scanned.Word t) h e told space_never flaw_never = begun_space n turn v.text.now (from v at) _ h e told.0
begun_other v n turn at (scanned.Crossing k) h e told space_never flaw_never = begun_space n turn v.text.now (from v at) _ h e told
begun_other v n turn at (scanned.Flaw fault) h e told space_never flaw_never = absurd (flaw_never fault refl)

-- ---- the whole text

pub bound_far : (text : List ℕ) (limit at : ℕ) → at ≤ length text → limit ≡ length text → length text ≤ at + longest → view limit text at ≡ view (at + longest) text at
bound_far text limit at within e h = view_whole limit text at (omega (arith, e)) within ∙ sym (view_whole (at + longest) text at h within)

-- what comes next at a place, where a view sees the whole text
pub next_seen : (v : View) (at : ℕ) → v.limit ≡ length v.text.now → at ≤ length v.text.now → next v.text.now at ≡ begun (suc (length v.text.now)) v.text.now (from v at)
unfolding next
next_seen v at e within = ap (begun (suc (length v.text.now)) v.text.now) (sym (view_whole v.limit v.text.now at (omega (arith, e)) within))

-- a sentence that begins at a place, seen up to its own bound
pub gathered_seen : (v w : View) (at : ℕ) → v.limit ≡ length v.text.now → w.text.now ≡ v.text.now → at ≤ length v.text.now → view w.limit w.text.now at ≡ view (at + longest) w.text.now at →
    gathered (suc (length v.text.now)) v.text.now [] (window (place (from v at) + longest) (from v at)) ≡ gathered (suc (length w.text.now)) w.text.now [] (from w at)
gathered_seen v w at e same within seen =
    let P : List ℕ → Type 0 = λ text. gathered (suc (length v.text.now)) v.text.now [] (window (place (from v at) + longest) (from v at)) ≡ gathered (suc (length text)) text [] (view (at + longest) text at) in
    subst P (sym same)
    (ap (λ cs. gathered (suc (length v.text.now)) v.text.now [] (window (place cs + longest) cs)) (view_whole v.limit v.text.now at (omega (arith, e)) within)
    ∙ ap (gathered (suc (length v.text.now)) v.text.now []) (view_own longest v.text.now at))
    ∙ ap (gathered (suc (length w.text.now)) w.text.now []) (sym seen)

-- nothing comes next behind the text
begun_end : (turns : ℕ) (text : List ℕ) (at : ℕ) → begun (suc turns) text (over at) ≡ Ok finished
unfolding begun is_space gathered found window
begun_end turns text at = refl

pub next_behind : (text : List ℕ) (at : ℕ) → length text ≤ at → next text at ≡ Ok finished
unfolding next
next_behind text at h =
    ap (begun (suc (length text)) text) (cells_over at (drop at text) (omega (arith, length-drop at text)))
    ∙ begun_end (length text) text at

-- ---- where the tokens stand

pub sentence_spread : (text : List ℕ) (at : ℕ) (tokens : List Token) (stop : ℕ) → next text at ≡ Ok (sentence tokens stop) → Spreads text at (Ok (Sentence tokens stop))
sentence_spread text at tokens stop e =
    elim (cases_lt (length text) at) [
      | inl far ↦ let none = next_behind text at (omega (arith, far)) in absurd cc
      | inr within ↦ let P : Result Next LexFault → Type 0 = λ r. spans.Spreads at (length text) r in subst P e (next_spreads text at within)
    ]

pub cuts_spread : (text : List ℕ) (at : ℕ) (answer : Result Piece LexFault) → Cuts answer (next text at) → Spreads text at answer
cuts_spread text at (Ok (Sentence tokens stop)) e = sentence_spread text at tokens stop e
cuts_spread text at (Ok End) e = tt
cuts_spread text at (Ok More) e = tt
cuts_spread text at (Err fault) e = tt

-- ---- what is settled

pub settled_found : (n turn : ℕ) (text : List ℕ) (ts : List Token) (cs : Cells) (is_start : Bool) (f : Found) → turn < n → is_start ≡ is_empty ts → found is_start cs ≡ f →
    is_settled (n - turn) text ts cs ≡ settled_by (n - (turn + 1)) text ts f
settled_found n turn text ts cs is_start f h start e =
    ap (λ k. is_settled k text ts cs) (one_turn n turn h) ∙ is_settled-suc (n - (turn + 1)) text ts cs ∙ ap (settled_by (n - (turn + 1)) text ts) (ap (λ b. found b cs) (sym start) ∙ e)

pub settled_nothing : (turns : ℕ) (text : List ℕ) (ts : List Token) → settled_by turns text ts nothing ≡ false
unfolding settled_by
settled_nothing turns text ts = refl

pub settled_bound : (turns : ℕ) (text : List ℕ) (ts : List Token) → settled_by turns text ts bound ≡ false
unfolding settled_by
settled_bound turns text ts = refl

pub settled_crossing : (turns : ℕ) (text : List ℕ) (ts : List Token) (k : TokenKind) → settled_by turns text ts (crossing k) ≡ false
unfolding settled_by
settled_crossing turns text ts k = refl

pub settled_flaw : (turns : ℕ) (text : List ℕ) (ts : List Token) (fault : LexFault) → settled_by turns text ts (flaw fault) ≡ false
unfolding settled_by
settled_flaw turns text ts fault = refl

pub settled_space : (turns : ℕ) (text : List ℕ) (ts : List Token) (rest : Cells) → settled_by turns text ts (space rest) ≡ is_settled turns text ts rest
unfolding settled_by
settled_space turns text ts rest = refl

pub settled_ends : (turns : ℕ) (text : List ℕ) (ts : List Token) (t : Token) (rest : Cells) → closes t.kind text ts ≡ true → settled_by turns text ts (word t rest) ≡ has_character rest
unfolding settled_by
settled_ends turns text ts t rest e = ap (λ v. elim v as (λ _. Bool) [ true ↦ has_character rest | false ↦ is_settled turns text (ts ++ t ∷ []) rest ]) e

pub settled_goes : (turns : ℕ) (text : List ℕ) (ts us : List Token) (t : Token) (rest : Cells) → closes t.kind text ts ≡ false → us ≡ ts ++ t ∷ [] → settled_by turns text ts (word t rest) ≡ is_settled turns text us rest
unfolding settled_by
settled_goes turns text ts us t rest e more =
    ap (λ v. elim v as (λ _. Bool) [ true ↦ has_character rest | false ↦ is_settled turns text (ts ++ t ∷ []) rest ]) e ∙ ap (λ ws. is_settled turns text ws rest) (sym more)

pub settled_none : (n turn : ℕ) (text : List ℕ) (ts : List Token) (cs : Cells) → n ≤ turn → is_settled (n - turn) text ts cs ≡ false
unfolding is_settled
settled_none n turn text ts cs h = let none : n - turn ≡ 0 = omega arith in ap (λ k. is_settled k text ts cs) none

pub unsettled_fault : (fault : LexFault) (settled : Bool) → settled ≡ false → Unsettled fault settled
unsettled_fault NoMemory settled e = tt
unsettled_fault (BadChar p) settled e = e
unsettled_fault (OpenComment p) settled e = e
unsettled_fault (OpenString p) settled e = e
unsettled_fault (BadNumber p) settled e = e

begins_turn : (n turn : ℕ) (text : List ℕ) (cs : Cells) (is : Bool) (f : Found) → turn < n → is_space cs ≡ is → found false cs ≡ f → begins_settled (n - turn) text cs ≡ begins_by (n - (turn + 1)) text cs is f
begins_turn n turn text cs is f h e g =
    ap (λ k. begins_settled k text cs) (one_turn n turn h) ∙ begins_settled-suc (n - (turn + 1)) text cs ∙ ap (λ b. begins_by (n - (turn + 1)) text cs b (found false cs)) e ∙ ap (begins_by (n - (turn + 1)) text cs is) g

pub begins_starts : (n turn : ℕ) (text : List ℕ) (cs : Cells) → turn < n → is_space cs ≡ false → begins_settled (n - turn) text cs ≡ is_settled (suc (length text)) text [] (window (place cs + longest) cs)
unfolding begins_by
begins_starts n turn text cs h e = begins_turn n turn text cs false (found false cs) h e refl

pub begins_space : (n turn : ℕ) (text : List ℕ) (cs : Cells) (f : Found) → turn < n → is_space cs ≡ true → found false cs ≡ f → begins_settled (n - turn) text cs ≡ settled_behind (λ rest. begins_settled (n - (turn + 1)) text rest) f
unfolding begins_by
begins_space n turn text cs f h e g = begins_turn n turn text cs true f h e g

pub begins_none : (n turn : ℕ) (text : List ℕ) (cs : Cells) → n ≤ turn → begins_settled (n - turn) text cs ≡ false
unfolding begins_settled
begins_none n turn text cs h = let none : n - turn ≡ 0 = omega arith in ap (λ k. begins_settled k text cs) none

pub begins_other : (v : View) (n turn at : ℕ) (f : Scanned) → turn < n → is_space (from v at) ≡ true → Tells v f (found false (from v at)) →
    ((next : ℕ) → f ≡ scanned.Space next → ⊥) → ((fault : LexFault) → f ≡ scanned.Flaw fault → ⊥) → begins_settled (n - turn) v.text.now (from v at) ≡ false
begins_other v n turn at scanned.Nothing h e told space_never flaw_never = begins_space n turn v.text.now (from v at) _ h e told
begins_other v n turn at scanned.Bound h e told space_never flaw_never = begins_space n turn v.text.now (from v at) _ h e told
begins_other v n turn at (scanned.Space next) h e told space_never flaw_never = absurd (space_never next refl)
begins_other v n turn at (scanned.Word t) h e told space_never flaw_never = begins_space n turn v.text.now (from v at) _ h e told.0
begins_other v n turn at (scanned.Crossing k) h e told space_never flaw_never = begins_space n turn v.text.now (from v at) _ h e told
begins_other v n turn at (scanned.Flaw fault) h e told space_never flaw_never = absurd (flaw_never fault refl)

pub settles_seen : (v : View) (at : ℕ) → v.limit ≡ length v.text.now → at ≤ length v.text.now → settles v.text.now at ≡ begins_settled (suc (length v.text.now)) v.text.now (from v at)
unfolding settles
settles_seen v at e within = ap (begins_settled (suc (length v.text.now)) v.text.now) (sym (view_whole v.limit v.text.now at (omega (arith, e)) within))

pub settled_seen : (v w : View) (at : ℕ) → v.limit ≡ length v.text.now → w.text.now ≡ v.text.now → at ≤ length v.text.now → view w.limit w.text.now at ≡ view (at + longest) w.text.now at →
    is_settled (suc (length v.text.now)) v.text.now [] (window (place (from v at) + longest) (from v at)) ≡ is_settled (suc (length w.text.now)) w.text.now [] (from w at)
settled_seen v w at e same within seen =
    let P : List ℕ → Type 0 = λ text. is_settled (suc (length v.text.now)) v.text.now [] (window (place (from v at) + longest) (from v at)) ≡ is_settled (suc (length text)) text [] (view (at + longest) text at) in
    subst P (sym same)
    (ap (λ cs. is_settled (suc (length v.text.now)) v.text.now [] (window (place cs + longest) cs)) (view_whole v.limit v.text.now at (omega (arith, e)) within)
    ∙ ap (is_settled (suc (length v.text.now)) v.text.now []) (view_own longest v.text.now at))
    ∙ ap (is_settled (suc (length w.text.now)) w.text.now []) (sym seen)

begins_end : (turns : ℕ) (text : List ℕ) (at : ℕ) → begins_settled (suc turns) text (over at) ≡ false
unfolding begins_settled is_space is_settled found window
begins_end turns text at = refl

pub settles_behind : (text : List ℕ) (at : ℕ) → length text ≤ at → settles text at ≡ false
unfolding settles
settles_behind text at h = ap (begins_settled (suc (length text)) text) (cells_over at (drop at text) (omega (arith, length-drop at text))) ∙ begins_end (length text) text at

-- what is settled stays
pub waits_settled : (text : List ℕ) (at : ℕ) (piece : Piece) → at ≤ length text → settles text at ≡ true → Cuts (Ok piece) (next text at) → Waits text at (Ok piece)
unfolding settles
waits_settled text at (Sentence tokens stop) within e is = λ more. next_stays text more at within e ∙ is
waits_settled text at End within e is = λ more. next_stays text more at within e ∙ is
waits_settled text at More within e is = absurd is

pub waits_fault : (text : List ℕ) (at : ℕ) (fault : LexFault) (settled : Bool) → settles text at ≡ settled → Unsettled fault settled → (fault ≡ NoMemory → ⊥) → settles text at ≡ false
waits_fault text at NoMemory settled e is never = absurd (never refl)
waits_fault text at (BadChar p) settled e is never = e ∙ is
waits_fault text at (OpenComment p) settled e is never = e ∙ is
waits_fault text at (OpenString p) settled e is never = e ∙ is
waits_fault text at (BadNumber p) settled e is never = e ∙ is

pub waits_spread : (text : List ℕ) (at : ℕ) (answer : Result Piece LexFault) → Waits text at answer → Spreads text at answer
waits_spread text at (Ok (Sentence tokens stop)) w =
    let Q : List ℕ → Type 0 = λ whole. next whole at ≡ Ok (sentence tokens stop) in sentence_spread text at tokens stop (subst Q (append-nil text) (w []))
waits_spread text at (Ok End) w = tt
waits_spread text at (Ok More) w = tt
waits_spread text at (Err fault) w = tt
