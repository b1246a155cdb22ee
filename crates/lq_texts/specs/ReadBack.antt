-- What is printed of a term is read again: the statements.
use Rattle.std.specs.Prelude.{◌≡◌, ℕ, ◌≤◌, ◌<◌, ◌+◌, ◌^◌, suc, true, false, List, [], ◌∷◌, ◌++◌, length, map, Option, Some, Ok, Err, codes}
use Rattle.std.specs.List.{AllByRecursion}
use Rattle.lq_trees.specs.declared.Sort.{Sort as Universe}
use Rattle.lq_trees.specs.Tree.{Name, Tree, Trees, Context, none, more}
use Rattle.lq_trees.specs.Tree.Tree.{Rel, Var, Sort, Prod, Lam, Let, App, Const, Ind, Ctor, Elim, Evar}
use Rattle.lq_trees.specs.Same.{Same}
use Rattle.lq_trees.specs.Index.{Within}
use Rattle.lq_trees.specs.Hypotheses.{HoldsOnly}
use Rattle.lq_trees.specs.Size.{depth}
use Rattle.lq_trees.specs.Fresh.{is_listed}
use Rattle.lq_calculus.specs.Declarations.{Env, Entry, constant, family, constructor, eliminator, lookup}
use Rattle.lq_grammar.specs.declared.token.TokenKind.TheVariants as kind
use Rattle.lq_grammar.specs.Cells.{cells, over}
use Rattle.lq_grammar.specs.Tokens.{found, word}
use Rattle.lq_grammar.specs.Selectors.{is_reserved}
use Rattle.lq_grammar.specs.Cutting.{sentence, next}
use Rattle.lq_ast.specs.Syntax.{Surface}
use Rattle.lq_ast.specs.Commands.{Sentence, stated, command, check}
use Rattle.lq_sentences.specs.declared.fault.SyntaxFault.TheVariants.{TooNested, SentenceTooLong}
use Rattle.lq_sentences.specs.Terms.{top_level}
use Rattle.lq_sentences.specs.Reading.{read_sentence}
use Rattle.lq_texts.specs.Printing.{term_text, surface, constructor_name, names_in, eliminator_text}

-- the name is one identifier of at most 200 bytes, and not reserved
pub record IsPlainName (x : Name) : Type 0 where
  pub identifier : found false (cells 0 x) ≡ word (record { kind = kind.Name; start = 0; end = length x }) (over (length x))
  pub short : length x ≤ 200
  pub free : is_reserved x ≡ false

-- a binder has no name or such a one
abbrev pub IsPlainBinder : Name → Type 0
IsPlainBinder [] = Unit {0}
IsPlainBinder (b ∷ bs) = IsPlainName (b ∷ bs)

abbrev pub IsTopped : Universe → Type 0
IsTopped Universe.Base = Unit {0}
IsTopped (Universe.Level i) = i ≤ top_level

-- what an environment says of a name, kind by kind

abbrev pub IsConstant : Option Entry → Type 0
IsConstant (Some (constant A t opaque)) = Unit {0}
IsConstant _ = ⊥

abbrev pub IsFamily : Option Entry → Type 0
IsFamily (Some (family f ss)) = Unit {0}
IsFamily _ = ⊥

abbrev pub HasConstructor : ℕ → Option Entry → Type 0
HasConstructor k (Some (family f ss)) = suc k ≤ length f.constructors
HasConstructor k _ = ⊥

-- a term without variables whose names are plain
abbrev pub IsPlain : Env → Tree → Type 0
IsPlain env (Rel i) = Unit {0}
IsPlain env (Var x) = IsPlainName x
IsPlain env (Sort s) = IsTopped s
IsPlain env (Prod x A B) = IsPlainBinder x × IsPlain env A × IsPlain env B
IsPlain env (Lam x A t) = IsPlainBinder x × IsPlain env A × IsPlain env t
IsPlain env (Let x v A t) = IsPlainBinder x × IsPlain env v × IsPlain env A × IsPlain env t
IsPlain env (App f a) = IsPlain env f × IsPlain env a
IsPlain env (Const c) = IsPlainName c
IsPlain env (Ind c) = IsPlainName c
IsPlain env (Ctor c k) = IsPlainName (constructor_name env c k)
IsPlain env (Elim c s) = IsPlainName (eliminator_text c s)
IsPlain env (Evar n ts) = ⊥

-- each constant, family, constructor and eliminator of a term is an entry of that kind
abbrev pub IsDeclared : Env → Tree → Type 0
IsDeclared env (Rel i) = Unit {0}
IsDeclared env (Var x) = Unit {0}
IsDeclared env (Sort s) = Unit {0}
IsDeclared env (Prod x A B) = IsDeclared env A × IsDeclared env B
IsDeclared env (Lam x A t) = IsDeclared env A × IsDeclared env t
IsDeclared env (Let x v A t) = IsDeclared env v × IsDeclared env A × IsDeclared env t
IsDeclared env (App f a) = IsDeclared env f × IsDeclared env a
IsDeclared env (Const c) = IsConstant (lookup env c)
IsDeclared env (Ind c) = IsFamily (lookup env c)
IsDeclared env (Ctor c k) = HasConstructor k (lookup env c) × (lookup env (constructor_name env c k) ≡ Some (constructor c k))
IsDeclared env (Elim c s) = lookup env (eliminator_text c s) ≡ Some (eliminator c s)
IsDeclared env (Evar n ts) = Unit {0}

-- the globals of a term, by their printed names
unfoldable mutual
  pub globals : Env → Tree → List Name
  globals env (Rel i) = []
  globals env (Var x) = []
  globals env (Sort s) = []
  globals env (Prod x A B) = globals env A ++ globals env B
  globals env (Lam x A t) = globals env A ++ globals env t
  globals env (Let x v A t) = globals env v ++ globals env A ++ globals env t
  globals env (App f a) = globals env f ++ globals env a
  globals env (Const c) = c ∷ []
  globals env (Ind c) = c ∷ []
  globals env (Ctor c k) = constructor_name env c k ∷ []
  globals env (Elim c s) = eliminator_text c s ∷ []
  globals env (Evar n ts) = globals_in env ts

  pub globals_in : Env → Trees → List Name
  globals_in env none = []
  globals_in env (more t ts) = globals env t ++ globals_in env ts

-- The names that occur in a term are among those of a list, which together with the term's depth is counted by a machine's word.
-- So it is for each term of a bank, and a name made from one of at most 200 bytes stays below the 255 bytes of a token.
pub record HasFewNames (env : Env) (t : Tree) : Type 0 where
  pub names : List Name
  pub held : AllByRecursion (λ x. is_listed names x ≡ true) (names_in env t)
  pub few : length names + depth t < 2 ^ 64

-- the term is printed in words that are read again
pub record IsPrintable (env : Env) (t : Tree) : Type 0 where
  pub plain : IsPlain env t
  -- no bound variable is loose
  pub closed : Within 0 t
  pub few : HasFewNames env t

-- what the term says is known in that context
pub record StandsIn (env : Env) (g : Context) (t : Tree) : Type 0 where
  pub declared : IsDeclared env t
  -- its hypotheses are those of the context
  pub known : HoldsOnly (map (λ h. h.name) g) t
  -- no hypothesis has the name of a global of the term
  pub apart : AllByRecursion (λ h. is_listed (globals env t) h.name ≡ false) g
  -- the context and the term's depth are counted by a machine's word
  pub small : length g + depth t < 2 ^ 64

-- `Check TEXT .`
unfoldable pub check_sentence : Env → Tree → List ℕ
check_sentence env t = codes "Check " ++ term_text env t ++ codes " ."

-- the whole text is one sentence that reads to that tree, or is nested too deep, or is too long
pub data ReadsTo (text : List ℕ) (s : Sentence) : Type 0 where
  reads_to : (ts : List _) → next text 0 ≡ Ok (sentence ts (length text)) → read_sentence text ts ≡ Ok s → ReadsTo text s
  is_nested : (ts : List _) (q : ℕ) → next text 0 ≡ Ok (sentence ts (length text)) → read_sentence text ts ≡ Err (TooNested q) → ReadsTo text s
  is_long : (ts : List _) (p : ℕ) → next text 0 ≡ Ok (sentence ts p) → read_sentence text ts ≡ Err (SentenceTooLong 0) → ReadsTo text s

-- a printable term's text reads to its surface
abbrev pub ReadsBack : Type 0
ReadsBack = (env : Env) (t : Tree) → IsPrintable env t → ReadsTo (check_sentence env t) (stated 0 (command (check (surface env [] t))))

-- where elaboration in a context in which a printable term stands gives a term for its surface, it is that term; `Gives` says which
-- terms it gives in an environment and a context
abbrev pub ElaboratesBack : (Env → Context → Surface → Tree → Type 0) → Type 0
ElaboratesBack Gives = (env : Env) (g : Context) (t u : Tree) → IsPrintable env t → StandsIn env g t → Gives env g (surface env [] t) u → Same u t
