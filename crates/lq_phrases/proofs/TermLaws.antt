-- Terms level by level, and their trees.
use Rattle.std.proofs.Common.{◌≡◌, ℕ, zero, suc, ◌<◌, ◌-◌, List, Option, [], ◌∷◌, map, Some, None, Ok, refl, ap, ◌∙◌, arith, append-nil}
use Rattle.lq_trees.specs.Tree.{Name}
use Rattle.lq_ast.specs.Syntax.{Surface as Tree, Written, Missing, Bound, applied, whole_pattern, context_pattern}
use Rattle.lq_ast.specs.Plain.{plain, plain_binders, plain_pattern, joined, name_of}
use Rattle.lq_ast.specs.Plain as laid
use Rattle.lq_ast.specs.PlainCommands.{plain_group, plain_type}
use Rattle.lq_ast.specs.declared.surface.Surface.{Surface}
use Rattle.lq_ast.specs.declared.surface.Binder.{Binder}
use Rattle.lq_ast.specs.declared.surface.Pattern.TheVariants as Pattern
use Rattle.lq_ast.specs.declared.sentence.Group.{Group}
use Rattle.lq_sentences.specs.Words.{Words}
use Rattle.lq_sentences.specs.Rules.{read}
use Rattle.lq_sentences.specs.Terms.{Spot, atom, atom_level, no_atom, term_behind, arrow_term, term, term_in, levels, no_term, typed, untyped}
use Rattle.lq_phrases.specs.Views.{inner_term, binder_of}

-- ---- levels

pub term_none : (c : Spot) → term 0 c ≡ no_term c
unfolding levels
term_none c = refl

pub term_some : (n : ℕ) (c : Spot) → term (suc n) c ≡ inner_term n c
unfolding levels
term_some zero c = refl
term_some (suc n) c = let e : n ≡ suc n - 1 = omega arith in ap (λ m. term_in (suc n) (suc n - 1) (term (suc n)) (term m) c) e

pub term_zero : (n : ℕ) (c : Spot) (ws : Words) → n ≡ 0 → read (term n c) ws ≡ read (no_term c) ws
term_zero n c ws e = ap (λ m. read (term m c) ws) e ∙ ap (λ r. read r ws) (term_none c)

pub term_down : (n : ℕ) (c : Spot) (ws : Words) → 0 < n → read (term n c) ws ≡ read (inner_term (n - 1) c) ws
term_down zero c ws h = absurd (omega arith)
term_down (suc n) c ws h = let e : n ≡ suc n - 1 = omega arith in ap (λ r. read r ws) (term_some n c) ∙ ap (λ m. read (inner_term m c) ws) e

-- ---- trees

pub type_none : plain_type None ≡ None
unfolding plain_type
type_none = refl

pub type_some : (A : Surface) → plain_type (Some A) ≡ Some (plain A)
unfolding plain_type
type_some A = refl

pub applied_none : (f : Tree) → applied f [] ≡ f
unfolding applied
applied_none f = refl

pub typed_is : (A : Tree) (xs : List Binder) → typed (map binder_of xs) A ≡ map (laid.typed A) xs
typed_is A [] = refl
typed_is A (x ∷ xs) = ap (λ ys. (name_of x.name, Written A) ∷ ys) (typed_is A xs)

pub untyped_is : (xs : List Binder) → untyped (map binder_of xs) ≡ map laid.untyped xs
untyped_is [] = refl
untyped_is (x ∷ xs) = ap (λ ys. (name_of x.name, Missing x.place) ∷ ys) (untyped_is xs)

pub group_is : (g : Group) → plain_group g ≡ map (laid.typed (plain g.kind)) g.names
unfolding plain_group
group_is g = refl

pub joined_one : (xs : List Bound) → joined (xs ∷ []) ≡ xs
joined_one xs = append-nil xs

pub ruleset trees = (type_none, type_some, applied_none, typed_is, untyped_is, group_is, joined_one)

-- ---- behind the first atom

pub atom_zero : (n : ℕ) (c : Spot) (ws : Words) → n ≡ 0 → read (atom_level n c) ws ≡ read (no_atom c) ws
unfolding atom_level
atom_zero zero c ws e = refl
atom_zero (suc n) c ws e = absurd (omega arith)

pub atom_down : (n : ℕ) (c : Spot) (ws : Words) → 0 < n → read (atom_level n c) ws ≡ read (atom (n - 1) (term (n - 1)) c) ws
unfolding atom_level
atom_down zero c ws h = absurd (omega arith)
atom_down (suc n) c ws h = let e : n ≡ suc n - 1 = omega arith in ap (λ m. read (atom m (term m) c) ws) e

pub behind_zero : (n : ℕ) (c : Spot) (f : Tree) (ws : Words) → n ≡ 0 → read (term_behind n c f) ws ≡ Ok (f, ws)
unfolding term_behind
behind_zero zero c f ws e = refl
behind_zero (suc n) c f ws e = absurd (omega arith)

pub behind_down : (n : ℕ) (c : Spot) (f : Tree) (ws : Words) → 0 < n → read (term_behind n c f) ws ≡ read (arrow_term (n - 1) (term (n - 1)) c f) ws
unfolding term_behind
behind_down zero c f ws h = absurd (omega arith)
behind_down (suc n) c f ws h = let e : n ≡ suc n - 1 = omega arith in ap (λ m. read (arrow_term m (term m) c f) ws) e

pub whole_is : (t : Surface) → plain_pattern (Pattern.Whole t) ≡ whole_pattern (plain t)
unfolding plain_pattern
whole_is t = refl

pub inside_is : (x : Option Name) (t : Surface) → plain_pattern (Pattern.Inside x t) ≡ context_pattern x (plain t)
unfolding plain_pattern
inside_is x t = refl

pub ruleset patterns = (whole_is, inside_is)
