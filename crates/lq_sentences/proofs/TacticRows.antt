-- Trees of Ltac expressions, one for each production, computed on words, which stand above each; a place is how many words stand before.
use Rattle.std.specs.Prelude.{◌≡◌, refl, [], ◌∷◌, codes, true, false, Some, None, Ok}
use Rattle.lq_grammar.specs.declared.token.Symbol.TheVariants as sign
use Rattle.lq_ast.specs.Syntax as u
use Rattle.lq_ast.specs.Tactics as t
use Rattle.lq_ast.specs.Commands as v
use Rattle.lq_ast.specs.declared.tac.Amount.TheVariants.{Count, Called}
use Rattle.lq_ast.specs.declared.tac.Message.TheVariants.{Quoted, Digits, Word as Said}
use Rattle.lq_ast.specs.declared.tac.Part.TheVariants.{Piece, Of}
use Rattle.lq_ast.specs.declared.tac.Manner.TheVariants.{Plain, Lazy, Multi}
use Rattle.lq_ast.specs.declared.tac.Reduction.TheVariants.{ToHnf, ToNormal}
use Rattle.lq_sentences.specs.Words.{name, number, quoted, symbol}
use Rattle.lq_sentences.specs.Reading.{Whole, sentence}
use Rattle.lq_sentences.proofs.Computing.{reading}
use Rattle.lq_sentences.proofs.Placing.{placed}

abbrev runs : t.Tac → Whole v.Sentence
runs a = Ok (v.stated 0 (v.run None a))

-- the calls `a`, `b`, `c`
abbrev a_ : t.Tac
a_ = t.call (codes "a") t.no_arg

abbrev b_ : t.Tac
b_ = t.call (codes "b") t.no_arg

abbrev c_ : t.Tac
c_ = t.call (codes "c") t.no_arg

-- try repeat once exactly_once progress a.
prefixes : sentence (placed 0 (name (codes "try") ∷ name (codes "repeat") ∷ name (codes "once") ∷ name (codes "exactly_once") ∷ name (codes "progress") ∷ name (codes "a") ∷ symbol sign.Stop ∷ []))
    ≡ runs (t.try (t.repeat (t.once (t.exactly_once (t.progress a_)))))
unfolding reading placed
prefixes = refl

-- do 3 do n a.
times : sentence (placed 0 (name (codes "do") ∷ number 3 ∷ name (codes "do") ∷ name (codes "n") ∷ name (codes "a") ∷ symbol sign.Stop ∷ []))
    ≡ runs (t.do_times (Count 3) (t.do_times (Called (codes "n")) a_))
unfolding reading placed
times = refl

-- `;` goes on to the left
-- a; b; [c | a]; b.
steps : sentence (placed 0 (name (codes "a") ∷ symbol sign.Semicolon ∷ name (codes "b") ∷ symbol sign.Semicolon ∷ symbol sign.OpenSquare ∷ name (codes "c") ∷ symbol sign.Bar ∷ name (codes "a") ∷ symbol sign.CloseSquare ∷ symbol sign.Semicolon ∷ name (codes "b") ∷ symbol sign.Stop ∷ []))
    ≡ runs (t.then (t.then_each (t.then a_ b_) (t.tacs_of (c_ ∷ a_ ∷ []))) b_)
unfolding reading placed
steps = refl

-- a; [..].
filled : sentence (placed 0 (name (codes "a") ∷ symbol sign.Semicolon ∷ symbol sign.OpenSquare ∷ symbol sign.Dots ∷ symbol sign.CloseSquare ∷ symbol sign.Stop ∷ []))
    ≡ runs (t.then_fill a_ t.no_tac (t.idtac []) t.no_tac)
unfolding reading placed
filled = refl

-- a; [].
one_empty : sentence (placed 0 (name (codes "a") ∷ symbol sign.Semicolon ∷ symbol sign.OpenSquare ∷ symbol sign.CloseSquare ∷ symbol sign.Stop ∷ []))
    ≡ runs (t.then_each a_ (t.tacs_of (t.idtac [] ∷ [])))
unfolding reading placed
one_empty = refl

-- a + b || c.
alternatives : sentence (placed 0 (name (codes "a") ∷ symbol sign.Plus ∷ name (codes "b") ∷ symbol sign.Bars ∷ name (codes "c") ∷ symbol sign.Stop ∷ []))
    ≡ runs (t.plus a_ (t.orelse b_ c_))
unfolding reading placed
alternatives = refl

-- try a + b; c.
prefix_first : sentence (placed 0 (name (codes "try") ∷ name (codes "a") ∷ symbol sign.Plus ∷ name (codes "b") ∷ symbol sign.Semicolon ∷ name (codes "c") ∷ symbol sign.Stop ∷ []))
    ≡ runs (t.then (t.try (t.plus a_ b_)) c_)
unfolding reading placed
prefix_first = refl

-- first [a | b; c]; solve [a].
firsts : sentence (placed 0 (name (codes "first") ∷ symbol sign.OpenSquare ∷ name (codes "a") ∷ symbol sign.Bar ∷ name (codes "b") ∷ symbol sign.Semicolon ∷ name (codes "c") ∷ symbol sign.CloseSquare ∷ symbol sign.Semicolon ∷ name (codes "solve") ∷ symbol sign.OpenSquare ∷ name (codes "a") ∷ symbol sign.CloseSquare ∷ symbol sign.Stop ∷ []))
    ≡ runs (t.then (t.first (t.tacs_of (a_ ∷ t.then b_ c_ ∷ []))) (t.solve (t.tacs_of (a_ ∷ []))))
unfolding reading placed
firsts = refl

-- idtac "q" 3 x.
messages : sentence (placed 0 (name (codes "idtac") ∷ quoted (codes "q") ∷ number 3 ∷ name (codes "x") ∷ symbol sign.Stop ∷ []))
    ≡ runs (t.idtac (Quoted (codes "q") ∷ Digits 3 ∷ Said (codes "x") ∷ []))
unfolding reading placed
messages = refl

-- the first number or name is the level
-- fail n x; gfail 1 2; gfail "q".
failures : sentence (placed 0 (name (codes "fail") ∷ name (codes "n") ∷ name (codes "x") ∷ symbol sign.Semicolon ∷ name (codes "gfail") ∷ number 1 ∷ number 2 ∷ symbol sign.Semicolon ∷ name (codes "gfail") ∷ quoted (codes "q") ∷ symbol sign.Stop ∷ []))
    ≡ runs (t.then (t.then (t.fail (Some (Called (codes "n"))) (Said (codes "x") ∷ [])) (t.gfail (Some (Count 1)) (Digits 2 ∷ []))) (t.gfail None (Quoted (codes "q") ∷ [])))
unfolding reading placed
failures = refl

-- fun x y => a; b.
function : sentence (placed 0 (name (codes "fun") ∷ name (codes "x") ∷ name (codes "y") ∷ symbol sign.FatArrow ∷ name (codes "a") ∷ symbol sign.Semicolon ∷ name (codes "b") ∷ symbol sign.Stop ∷ []))
    ≡ runs (t.lambda (codes "x" ∷ codes "y" ∷ []) (t.then a_ b_))
unfolding reading placed
function = refl

-- let x := a with f y z := b in c; a.
bindings : sentence (placed 0 (name (codes "let") ∷ name (codes "x") ∷ symbol sign.ColonEqual ∷ name (codes "a") ∷ name (codes "with") ∷ name (codes "f") ∷ name (codes "y") ∷ name (codes "z") ∷ symbol sign.ColonEqual ∷ name (codes "b") ∷ name (codes "in") ∷ name (codes "c") ∷ symbol sign.Semicolon ∷ name (codes "a") ∷ symbol sign.Stop ∷ []))
    ≡ runs (t.let_in false (t.bindings_of (t.binds (codes "x") [] a_ ∷ t.binds (codes "f") (codes "y" ∷ codes "z" ∷ []) b_ ∷ [])) (t.then c_ a_))
unfolding reading placed
bindings = refl

-- let rec f := a in b.
recursive : sentence (placed 0 (name (codes "let") ∷ name (codes "rec") ∷ name (codes "f") ∷ symbol sign.ColonEqual ∷ name (codes "a") ∷ name (codes "in") ∷ name (codes "b") ∷ symbol sign.Stop ∷ []))
    ≡ runs (t.let_in true (t.bindings_of (t.binds (codes "f") [] a_ ∷ [])) b_)
unfolding reading placed
recursive = refl

-- let x := fresh "H" y in a.
fresh_name : sentence (placed 0 (name (codes "let") ∷ name (codes "x") ∷ symbol sign.ColonEqual ∷ name (codes "fresh") ∷ quoted (codes "H") ∷ name (codes "y") ∷ name (codes "in") ∷ name (codes "a") ∷ symbol sign.Stop ∷ []))
    ≡ runs (t.let_in false (t.bindings_of (t.binds (codes "x") [] (t.fresh (Piece (codes "H") ∷ Of (codes "y") ∷ [])) ∷ [])) a_)
unfolding reading placed
fresh_name = refl

-- let x := type of (f x) in a.
type_of_term : sentence (placed 0 (name (codes "let") ∷ name (codes "x") ∷ symbol sign.ColonEqual ∷ name (codes "type") ∷ name (codes "of") ∷ symbol sign.OpenRound ∷ name (codes "f") ∷ name (codes "x") ∷ symbol sign.CloseRound ∷ name (codes "in") ∷ name (codes "a") ∷ symbol sign.Stop ∷ []))
    ≡ runs (t.let_in false (t.bindings_of (t.binds (codes "x") [] (t.type_of (u.Applied (u.Ident (codes "f")) (u.Ident (codes "x")))) ∷ [])) a_)
unfolding reading placed
type_of_term = refl

-- let x := eval hnf in f x in a.
head_form : sentence (placed 0 (name (codes "let") ∷ name (codes "x") ∷ symbol sign.ColonEqual ∷ name (codes "eval") ∷ name (codes "hnf") ∷ name (codes "in") ∷ name (codes "f") ∷ name (codes "x") ∷ name (codes "in") ∷ name (codes "a") ∷ symbol sign.Stop ∷ []))
    ≡ runs (t.let_in false (t.bindings_of (t.binds (codes "x") [] (t.eval ToHnf (u.Applied (u.Ident (codes "f")) (u.Ident (codes "x")))) ∷ [])) a_)
unfolding reading placed
head_form = refl

-- let x := eval compute in x in a.
normal_form : sentence (placed 0 (name (codes "let") ∷ name (codes "x") ∷ symbol sign.ColonEqual ∷ name (codes "eval") ∷ name (codes "compute") ∷ name (codes "in") ∷ name (codes "x") ∷ name (codes "in") ∷ name (codes "a") ∷ symbol sign.Stop ∷ []))
    ≡ runs (t.let_in false (t.bindings_of (t.binds (codes "x") [] (t.eval ToNormal (u.Ident (codes "x"))) ∷ [])) a_)
unfolding reading placed
normal_form = refl

-- let x := constr:(f x) in a.
term : sentence (placed 0 (name (codes "let") ∷ name (codes "x") ∷ symbol sign.ColonEqual ∷ name (codes "constr") ∷ symbol sign.Colon ∷ symbol sign.OpenRound ∷ name (codes "f") ∷ name (codes "x") ∷ symbol sign.CloseRound ∷ name (codes "in") ∷ name (codes "a") ∷ symbol sign.Stop ∷ []))
    ≡ runs (t.let_in false (t.bindings_of (t.binds (codes "x") [] (t.constr (u.Applied (u.Ident (codes "f")) (u.Ident (codes "x")))) ∷ [])) a_)
unfolding reading placed
term = refl

-- let x := context C [x] in a.
filled_context : sentence (placed 0 (name (codes "let") ∷ name (codes "x") ∷ symbol sign.ColonEqual ∷ name (codes "context") ∷ name (codes "C") ∷ symbol sign.OpenSquare ∷ name (codes "x") ∷ symbol sign.CloseSquare ∷ name (codes "in") ∷ name (codes "a") ∷ symbol sign.Stop ∷ []))
    ≡ runs (t.let_in false (t.bindings_of (t.binds (codes "x") [] (t.context (codes "C") (u.Ident (codes "x"))) ∷ [])) a_)
unfolding reading placed
filled_context = refl

-- let x := 3 in a.
a_number : sentence (placed 0 (name (codes "let") ∷ name (codes "x") ∷ symbol sign.ColonEqual ∷ number 3 ∷ name (codes "in") ∷ name (codes "a") ∷ symbol sign.Stop ∷ []))
    ≡ runs (t.let_in false (t.bindings_of (t.binds (codes "x") [] (t.number 3) ∷ [])) a_)
unfolding reading placed
a_number = refl

-- 3.
number_run : sentence (placed 0 (number 3 ∷ symbol sign.Stop ∷ []))
    ≡ runs (t.number 3)
unfolding reading placed
number_run = refl

-- (a; b) + (c).
brackets : sentence (placed 0 (symbol sign.OpenRound ∷ name (codes "a") ∷ symbol sign.Semicolon ∷ name (codes "b") ∷ symbol sign.CloseRound ∷ symbol sign.Plus ∷ symbol sign.OpenRound ∷ name (codes "c") ∷ symbol sign.CloseRound ∷ symbol sign.Stop ∷ []))
    ≡ runs (t.plus (t.then a_ b_) c_)
unfolding reading placed
brackets = refl

-- shelve; revgoals; cycle 2; cycle -1; swap 1 2.
goals : sentence (placed 0 (name (codes "shelve") ∷ symbol sign.Semicolon ∷ name (codes "revgoals") ∷ symbol sign.Semicolon ∷ name (codes "cycle") ∷ number 2 ∷ symbol sign.Semicolon ∷ name (codes "cycle") ∷ symbol sign.Minus ∷ number 1 ∷ symbol sign.Semicolon ∷ name (codes "swap") ∷ number 1 ∷ number 2 ∷ symbol sign.Stop ∷ []))
    ≡ runs (t.then (t.then (t.then (t.then t.shelve t.revgoals) (t.cycle false 2)) (t.cycle true 1)) (t.swap 1 2))
unfolding reading placed
goals = refl

-- lazymatch x with | y => a | _ => b end.
lazy : sentence (placed 0 (name (codes "lazymatch") ∷ name (codes "x") ∷ name (codes "with") ∷ symbol sign.Bar ∷ name (codes "y") ∷ symbol sign.FatArrow ∷ name (codes "a") ∷ symbol sign.Bar ∷ symbol sign.Underscore ∷ symbol sign.FatArrow ∷ name (codes "b") ∷ name (codes "end") ∷ symbol sign.Stop ∷ []))
    ≡ runs (t.match Lazy (t.the_term (u.Ident (codes "x"))) (t.clauses_of (t.pattern_clause (u.whole_pattern (u.Ident (codes "y"))) a_ ∷ t.any_clause b_ ∷ [])))
unfolding reading placed
lazy = refl

-- multimatch constr:(f x) with f ?y => a end.
multi : sentence (placed 0 (name (codes "multimatch") ∷ name (codes "constr") ∷ symbol sign.Colon ∷ symbol sign.OpenRound ∷ name (codes "f") ∷ name (codes "x") ∷ symbol sign.CloseRound ∷ name (codes "with") ∷ name (codes "f") ∷ symbol sign.Question ∷ name (codes "y") ∷ symbol sign.FatArrow ∷ name (codes "a") ∷ name (codes "end") ∷ symbol sign.Stop ∷ []))
    ≡ runs (t.match Multi (t.the_term (u.Applied (u.Ident (codes "f")) (u.Ident (codes "x")))) (t.clauses_of (t.pattern_clause (u.whole_pattern (u.Applied (u.Ident (codes "f")) (u.Meta (codes "y")))) a_ ∷ [])))
unfolding reading placed
multi = refl

-- match reverse goal with H : ?A, _ : context C [B] |- A => a end.
reversed : sentence (placed 0 (name (codes "match") ∷ name (codes "reverse") ∷ name (codes "goal") ∷ name (codes "with") ∷ name (codes "H") ∷ symbol sign.Colon ∷ symbol sign.Question ∷ name (codes "A") ∷ symbol sign.Comma ∷ symbol sign.Underscore ∷ symbol sign.Colon ∷ name (codes "context") ∷ name (codes "C") ∷ symbol sign.OpenSquare ∷ name (codes "B") ∷ symbol sign.CloseSquare ∷ symbol sign.Turnstile ∷ name (codes "A") ∷ symbol sign.FatArrow ∷ name (codes "a") ∷ name (codes "end") ∷ symbol sign.Stop ∷ []))
    ≡ runs (t.match Plain (t.the_goal true) (t.clauses_of (t.sequent_clause ((codes "H", u.whole_pattern (u.Meta (codes "A"))) ∷ ([], u.context_pattern (Some (codes "C")) (u.Ident (codes "B"))) ∷ [])
    (u.whole_pattern (u.Ident (codes "A"))) a_ ∷ [])))
unfolding reading placed
reversed = refl

-- match reverse with _ => a end.
reverse_as_a_name : sentence (placed 0 (name (codes "match") ∷ name (codes "reverse") ∷ name (codes "with") ∷ symbol sign.Underscore ∷ symbol sign.FatArrow ∷ name (codes "a") ∷ name (codes "end") ∷ symbol sign.Stop ∷ []))
    ≡ runs (t.match Plain (t.the_term (u.Ident (codes "reverse"))) (t.clauses_of (t.any_clause a_ ∷ [])))
unfolding reading placed
reverse_as_a_name = refl
