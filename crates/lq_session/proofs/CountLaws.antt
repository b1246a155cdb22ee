-- How many names the groups of a command bind.
use Rattle.std.proofs.Common.{◌≡◌, ◌∙◌, sym, ap, arith, ℕ, ◌+◌, ◌<◌, ◌≤◌, List, [], ◌∷◌, ◌++◌, take, length, get_or, length-append}
use Rattle.std.proofs.lemmas.List.{take_more, take_all, length-map}
use Rattle.lq_ast.specs.declared.sentence.Group.{Group}
use Rattle.lq_ast.specs.Plain.{plain, typed}
use Rattle.lq_ast.specs.PlainCommands.{plain_group, plain_groups}

group_length : (g : Group) → length (plain_group g) ≡ length g.names
unfolding plain_group
group_length g = length-map g.names (typed (plain g.kind))

-- one group more
groups_append : (gs : List Group) (g : Group) → length (plain_groups (gs ++ g ∷ [])) ≡ length (plain_groups gs) + length g.names
groups_append [] g = length-append (plain_group g) [] ∙ omega (arith, group_length g)
groups_append (h ∷ gs) g = omega (arith, length-append (plain_group h) (plain_groups (gs ++ g ∷ [])), length-append (plain_group h) (plain_groups gs), groups_append gs g)

-- ---- the first of some groups

pub no_group : (n : ℕ) (gs : List Group) → n ≡ 0 → n ≡ length (plain_groups (take 0 gs))
no_group n gs e = e

pub next_group : (m n : ℕ) (gs : List Group) (i : ℕ) (d : Group) → m ≡ length (plain_groups (take i gs)) → n ≡ m + length (get_or gs i d).names → i < length gs → n ≡ length (plain_groups (take (i + 1) gs))
next_group m n gs i d h e l = e ∙ ap (λ k. k + length (get_or gs i d).names) h ∙ sym (ap (λ xs. length (plain_groups xs)) (take_more gs i d l) ∙ groups_append (take i gs) (get_or gs i d))

pub all_groups : (n : ℕ) (gs : List Group) (i : ℕ) → n ≡ length (plain_groups (take i gs)) → length gs ≤ i → n ≡ length (plain_groups gs)
all_groups n gs i h l = h ∙ ap (λ xs. length (plain_groups xs)) (take_all i gs l)

pub one_mark : (m n k i : ℕ) → m ≡ n + i → k ≡ m + 1 → k ≡ n + (i + 1)
one_mark m n k i h e = omega (arith, h, e)
