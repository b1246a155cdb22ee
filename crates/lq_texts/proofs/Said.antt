-- Printed terms as words: how they are put together.
use Rattle.std.specs.Prelude.{◌≡◌, ℕ, ◌≤◌, false, [], ◌∷◌, codes}
use Rattle.lq_grammar.specs.declared.token.Symbol.TheVariants.{ColonEqual, FatArrow, Arrow as ArrowSign, OpenRound, CloseRound, Colon, Comma, Underscore}
use Rattle.lq_grammar.specs.Selectors.{is_reserved}
use Rattle.lq_trees.specs.Tree.{Name}
use Rattle.lq_ast.specs.Syntax.{Surface, Forall, Fun, LetIn, Arrow, Applied, Ident, PropSort, TypeSort, Written}
use Rattle.lq_sentences.specs.Words.{Word, Words, name, number, symbol}
use Rattle.lq_sentences.specs.Terms.{top_level}

-- what stands for a binder: its name, or `_`
abbrev pub bound_word : Name → Word
bound_word [] = symbol Underscore
bound_word (b ∷ bs) = name (b ∷ bs)

-- a name that is not reserved, with at least one byte
abbrev pub IsFree : Name → Type 0
IsFree [] = ⊥
IsFree (b ∷ bs) = is_reserved (b ∷ bs) ≡ false

abbrev pub IsFreeBinder : Name → Type 0
IsFreeBinder [] = Unit {0}
IsFreeBinder (b ∷ bs) = is_reserved (b ∷ bs) ≡ false

-- Some words begin with a printed term, and others are left: a term, an application or an atom, an atom.
mutual
  pub data Said : Surface → Words → Words → Type 0 where
    said_forall : {x : Name} {A t : Surface} {p q r o : ℕ} {us vs rest : Words} → IsFreeBinder x → Said A us ((symbol Comma, o) ∷ vs) → Said t vs rest →
        Said (Forall x (Written A) t) ((name (codes "forall"), p) ∷ (bound_word x, q) ∷ (symbol Colon, r) ∷ us) rest
    said_fun : {x : Name} {A t : Surface} {p q r o : ℕ} {us vs rest : Words} → IsFreeBinder x → Said A us ((symbol FatArrow, o) ∷ vs) → Said t vs rest →
        Said (Fun x (Written A) t) ((name (codes "fun"), p) ∷ (bound_word x, q) ∷ (symbol Colon, r) ∷ us) rest
    said_let : {x : Name} {A v t : Surface} {p q r o i : ℕ} {us vs ws rest : Words} → IsFreeBinder x → Said A us ((symbol ColonEqual, o) ∷ vs) →
        Said v vs ((name (codes "in"), i) ∷ ws) → Said t ws rest →
        Said (LetIn x (Written A) v t) ((name (codes "let"), p) ∷ (bound_word x, q) ∷ (symbol Colon, r) ∷ us) rest
    said_arrow : {a b : Surface} {o : ℕ} {us vs rest : Words} → Spine a us ((symbol ArrowSign, o) ∷ vs) → Said b vs rest → Said (Arrow a b) us rest
    said_spine : {s : Surface} {us rest : Words} → Spine s us rest → Said s us rest

  pub data Spine : Surface → Words → Words → Type 0 where
    spine_applied : {f a : Surface} {us vs rest : Words} → Spine f us vs → Atom a vs rest → Spine (Applied f a) us rest
    spine_atom : {s : Surface} {us rest : Words} → Atom s us rest → Spine s us rest

  pub data Atom : Surface → Words → Words → Type 0 where
    atom_name : {x : Name} {p : ℕ} {rest : Words} → IsFree x → Atom (Ident x) ((name x, p) ∷ rest) rest
    atom_prop : {p : ℕ} {rest : Words} → Atom PropSort ((name (codes "Prop"), p) ∷ rest) rest
    atom_type : {i p q : ℕ} {rest : Words} → i ≤ top_level → Atom (TypeSort i) ((name (codes "Type"), p) ∷ (number i, q) ∷ rest) rest
    atom_brackets : {s : Surface} {p q : ℕ} {us rest : Words} → Said s us ((symbol CloseRound, q) ∷ rest) → Atom s ((symbol OpenRound, p) ∷ us) rest
