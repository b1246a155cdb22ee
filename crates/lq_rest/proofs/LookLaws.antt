-- The tokens that can be looked at, one by one.
use Rattle.std.proofs.Common.{◌≡◌, ◌∙◌, refl, sym, ap, subst, arith, ℕ, suc, ◌+◌, ◌-◌, ◌<◌, ◌≤◌, Bool, true, false, List, [], ◌∷◌, ◌++◌, length, Result, Ok, Err}
use Rattle.lq_grammar.specs.declared.fault.LexFault.{LexFault}
use Rattle.lq_grammar.specs.declared.fault.LexFault.TheVariants.{BadChar, OpenComment, OpenString, BadNumber, NoMemory}
use Rattle.lq_grammar.specs.declared.token.Token.{Token}
use Rattle.lq_grammar.specs.declared.token.TokenKind.{TokenKind}
use Rattle.lq_grammar.specs.Cells.{Cells, place, window, view}
use Rattle.lq_grammar.specs.Tokens.{Found, nothing, bound, space, word, crossing, flaw, found}
use Rattle.lq_grammar.specs.Selectors.{is_empty}
use Rattle.lq_grammar.specs.Cutting.{longest, is_space}
use Rattle.lq_grammar.proofs.CellLaws.{view_whole, view_own}
use Rattle.lq_lex.specs.declared.view.View.{View}
use Rattle.lq_lex.specs.declared.found.Found.{Found as Scanned}
use Rattle.lq_lex.specs.declared.found.Found.TheVariants as scanned
use Rattle.lq_lex.specs.Views.{from, Tells}
use Rattle.lq_sessions.specs.Rest.{Looked, crossed, stopped, may_go_on, is_inside, looked, looked_behind, looked_begun, looked_at}
use Rattle.lq_rest.specs.Looks.{Looks}

pub looks_fault : (fault : LexFault) (r : Looked) → r ≡ Err fault → Looks (Err fault) r
looks_fault NoMemory r e = tt
looks_fault (BadChar p) r e = e
looks_fault (OpenComment p) r e = e
looks_fault (OpenString p) r e = e
looks_fault (BadNumber p) r e = e

pub looks_as : (o : Result (List Token) LexFault) (r s : Looked) → r ≡ s → Looks o s → Looks o r
looks_as o r s e l = subst (Looks o) (sym e) l

pub stopped_inside : (text : List ℕ) (ts : List Token) (f : LexFault) → is_inside text f ≡ true → stopped text ts f ≡ Err f
unfolding stopped
stopped_inside text ts f e = ap (λ b. elim b as (λ _. Looked) [ true ↦ Err f | false ↦ Ok ts ]) e

pub stopped_outside : (text : List ℕ) (ts : List Token) (f : LexFault) → is_inside text f ≡ false → stopped text ts f ≡ Ok ts
unfolding stopped
stopped_outside text ts f e = ap (λ b. elim b as (λ _. Looked) [ true ↦ Err f | false ↦ Ok ts ]) e

pub crossed_more : (ts : List Token) (k : TokenKind) (at : ℕ) → is_empty ts ≡ false → crossed ts k at ≡ ts
crossed_more [] k at e = grind arith
crossed_more (t ∷ ts) k at e = refl

pub crossed_first : (ts : List Token) (k : TokenKind) (at : ℕ) → is_empty ts ≡ true → crossed ts k at ≡ ts ++ record { kind = k; start = at; end = at + longest + 1 } ∷ []
crossed_first [] k at e = refl
crossed_first (t ∷ ts) k at e = grind arith

-- ---- one token or space more

one_turn : (n turn : ℕ) → turn < n → n - turn ≡ suc (n - (turn + 1))
one_turn n turn h = omega arith

-- what is looked at where that is found behind tokens
abbrev pub after_found : ℕ → List ℕ → List Token → Cells → Found → Looked
after_found turns text ts cs f =
    elim f as (λ _. Looked) [
      | nothing ↦ Ok ts
      | bound ↦ Ok ts
      | space rest ↦ looked turns text ts rest
      | crossing k ↦ Ok (crossed ts k (place cs))
      | flaw fault ↦ stopped text ts fault
      | word t rest ↦ elim (may_go_on text t) as (λ _. Looked) [ true ↦ Ok ts | false ↦ looked turns text (ts ++ t ∷ []) rest ]
    ]

looked-suc : (turns : ℕ) (text : List ℕ) (ts : List Token) (cs : Cells) → looked (suc turns) text ts cs ≡ after_found turns text ts cs (found (is_empty ts) cs)
unfolding looked
looked-suc turns text ts cs = refl

pub looked_found : (n turn : ℕ) (text : List ℕ) (ts : List Token) (cs : Cells) (is_start : Bool) (f : Found) → turn < n → is_start ≡ is_empty ts → found is_start cs ≡ f →
    looked (n - turn) text ts cs ≡ after_found (n - (turn + 1)) text ts cs f
looked_found n turn text ts cs is_start f h start e =
    ap (λ k. looked k text ts cs) (one_turn n turn h) ∙ looked-suc (n - (turn + 1)) text ts cs ∙ ap (after_found (n - (turn + 1)) text ts cs) (ap (λ b. found b cs) (sym start) ∙ e)

pub looked_none : (n turn : ℕ) (text : List ℕ) (ts : List Token) (cs : Cells) → n ≤ turn → looked (n - turn) text ts cs ≡ Ok ts
unfolding looked
looked_none n turn text ts cs h = let none : n - turn ≡ 0 = omega arith in ap (λ k. looked k text ts cs) none

pub word_stops : (turns : ℕ) (text : List ℕ) (ts : List Token) (cs rest : Cells) (t : Token) → may_go_on text t ≡ true → after_found turns text ts cs (word t rest) ≡ Ok ts
word_stops turns text ts cs rest t e = ap (λ v. elim v as (λ _. Looked) [ true ↦ Ok ts | false ↦ looked turns text (ts ++ t ∷ []) rest ]) e

pub word_goes : (turns : ℕ) (text : List ℕ) (ts us : List Token) (cs rest : Cells) (t : Token) → may_go_on text t ≡ false → us ≡ ts ++ t ∷ [] →
    after_found turns text ts cs (word t rest) ≡ looked turns text us rest
word_goes turns text ts us cs rest t e more =
    ap (λ v. elim v as (λ _. Looked) [ true ↦ Ok ts | false ↦ looked turns text (ts ++ t ∷ []) rest ]) e ∙ ap (λ ws. looked turns text ws rest) (sym more)

-- ---- before a sentence

-- what is looked at by whether a space is at the front
abbrev begun_by : ℕ → List ℕ → Cells → Bool → Looked
begun_by turns text cs is =
    elim is as (λ _. Looked) [
      | true ↦ looked_behind text (λ rest. looked_begun turns text rest) (found false cs)
      | false ↦ looked (suc (length text)) text [] (window (place cs + longest) cs)
    ]

begun-suc : (turns : ℕ) (text : List ℕ) (cs : Cells) → looked_begun (suc turns) text cs ≡ begun_by turns text cs (is_space cs)
unfolding looked_begun
begun-suc turns text cs = refl

begun_turn : (n turn : ℕ) (text : List ℕ) (cs : Cells) (is : Bool) → turn < n → is_space cs ≡ is → looked_begun (n - turn) text cs ≡ begun_by (n - (turn + 1)) text cs is
begun_turn n turn text cs is h e = ap (λ k. looked_begun k text cs) (one_turn n turn h) ∙ begun-suc (n - (turn + 1)) text cs ∙ ap (begun_by (n - (turn + 1)) text cs) e

pub begun_starts : (n turn : ℕ) (text : List ℕ) (cs : Cells) → turn < n → is_space cs ≡ false → looked_begun (n - turn) text cs ≡ looked (suc (length text)) text [] (window (place cs + longest) cs)
begun_starts n turn text cs h e = begun_turn n turn text cs false h e

pub begun_space : (n turn : ℕ) (text : List ℕ) (cs : Cells) (f : Found) → turn < n → is_space cs ≡ true → found false cs ≡ f →
    looked_begun (n - turn) text cs ≡ looked_behind text (λ rest. looked_begun (n - (turn + 1)) text rest) f
begun_space n turn text cs f h e g = begun_turn n turn text cs true h e ∙ ap (looked_behind text (λ rest. looked_begun (n - (turn + 1)) text rest)) g

pub begun_none : (n turn : ℕ) (text : List ℕ) (cs : Cells) → n ≤ turn → looked_begun (n - turn) text cs ≡ Ok []
unfolding looked_begun
begun_none n turn text cs h = let none : n - turn ≡ 0 = omega arith in ap (λ k. looked_begun k text cs) none

-- what is found before a sentence and is neither a space nor a fault ends the look
pub begun_other : (v : View) (n turn at : ℕ) (f : Scanned) → turn < n → is_space (from v at) ≡ true → Tells v f (found false (from v at)) →
    ((next : ℕ) → f ≡ scanned.Space next → ⊥) → ((fault : LexFault) → f ≡ scanned.Flaw fault → ⊥) → looked_begun (n - turn) v.text.now (from v at) ≡ Ok []
begun_other v n turn at scanned.Nothing h e told space_never flaw_never = begun_space n turn v.text.now (from v at) _ h e told
begun_other v n turn at scanned.Bound h e told space_never flaw_never = begun_space n turn v.text.now (from v at) _ h e told
begun_other v n turn at (scanned.Space next) h e told space_never flaw_never = absurd (space_never next refl)
begun_other v n turn at (scanned.Word t) h e told space_never flaw_never = begun_space n turn v.text.now (from v at) _ h e told.0
begun_other v n turn at (scanned.Crossing k) h e told space_never flaw_never = begun_space n turn v.text.now (from v at) _ h e told
begun_other v n turn at (scanned.Flaw fault) h e told space_never flaw_never = absurd (flaw_never fault refl)

-- ---- the whole text

pub looked_seen : (v : View) (at : ℕ) → v.limit ≡ length v.text.now → at ≤ length v.text.now → looked_at v.text.now at ≡ looked_begun (suc (length v.text.now)) v.text.now (from v at)
unfolding looked_at
looked_seen v at e within = ap (looked_begun (suc (length v.text.now)) v.text.now) (sym (view_whole v.limit v.text.now at (omega (arith, e)) within))

-- a sentence that begins at a place, seen up to its own bound
pub looked_own : (v w : View) (at : ℕ) → v.limit ≡ length v.text.now → w.text.now ≡ v.text.now → at ≤ length v.text.now → view w.limit w.text.now at ≡ view (at + longest) w.text.now at →
    looked (suc (length v.text.now)) v.text.now [] (window (place (from v at) + longest) (from v at)) ≡ looked (suc (length w.text.now)) w.text.now [] (from w at)
looked_own v w at e same within seen =
    let P : List ℕ → Type 0 = λ text. looked (suc (length v.text.now)) v.text.now [] (window (place (from v at) + longest) (from v at)) ≡ looked (suc (length text)) text [] (view (at + longest) text at) in
    subst P (sym same)
    (ap (λ cs. looked (suc (length v.text.now)) v.text.now [] (window (place cs + longest) cs)) (view_whole v.limit v.text.now at (omega (arith, e)) within)
    ∙ ap (looked (suc (length v.text.now)) v.text.now []) (view_own longest v.text.now at))
    ∙ ap (looked (suc (length w.text.now)) w.text.now []) (sym seen)
