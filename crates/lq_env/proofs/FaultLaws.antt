-- The laws of recursive arguments, of results, and of the faults of constructors.
use Rattle.std.proofs.Common.{◌≡◌, ◌≤◌, ◌<◌, ◌+◌, ◌-◌, ◌^◌, ◌∙◌, ℕ, zero, suc, Bool, true, false, refl, sym, ap, ap₂, arith, min, List, [], ◌∷◌, length, map, get_or, take, drop, Option, Some, None}
use Rattle.std.proofs.Common.{subst as along}
use Rattle.std.specs.Prelude.{◌&&◌, not, eqb, Result, IfOk}
use Rattle.std.proofs.lemmas.Bool.{eqb-true}
use Rattle.std.proofs.lemmas.List.{drop_more, length-map}
use Rattle.std.proofs.Math.ListN.{drop_of_length-le}
use Rattle.lq_trees.specs.Tree.{Name, Tree, Hypothesis as TreeHypothesis, Context, same_name}
use Rattle.lq_trees.specs.Size.{depth}
use Rattle.lq_terms.specs.declared.nodes.TermId.{TermId}
use Rattle.lq_terms.specs.declared.nodes.NameId.{NameId}
use Rattle.lq_terms.specs.declared.nodes.NoMemory.{NoMemory}
use Rattle.lq_terms.specs.declared.nodes.Node.{Node}
use Rattle.lq_terms.specs.declared.nodes.Hypothesis.{Hypothesis}
use Rattle.lq_terms.specs.Terms.{Terms, node_tree, text_of, tree_of}
use Rattle.lq_terms.specs.Contexts.{hypothesis_of, context_of}
use Rattle.lq_calculus.specs.Contraction.{spine}
use Rattle.lq_calculus.specs.Declarations.{Family as TreeFamily, EnvFault as Fault, not_positive, nested_use, bad_result, first_fault, holds, any_holds, are_variables, own, own_of, misuse, argument_fault, result_fault, constructor_fault, constructors_fault}
use Rattle.lq_env.specs.declared.family.Family.{Family}
use Rattle.lq_env.specs.declared.family.EnvFault.{EnvFault}
use Rattle.lq_env.specs.Families.{family_of, constructor_of, constructors_of, IsFault, Finds}
use Rattle.lq_env.specs.Spines.{is_variable, is_instance, IsOwnBy}
use Rattle.lq_env.proofs.Loops.{drop-map, no_hypothesis, take_rest}
use Rattle.lq_env.proofs.SpineLaws.{tree_is, no_term}

-- whether a term is a hypothesis
pub variable_is : (bank : Terms) (x : Name) (node : Node) (t : TermId) (y : NameId) → node_tree bank node ≡ tree_of bank t → node ≡ Node.Var y → is_variable x (tree_of bank t) ≡ same_name x (text_of bank y)
unfolding is_variable
variable_is bank x node t y e q = ap (is_variable x) (tree_is bank node (Node.Var y) t e q)

pub variable_not : (bank : Terms) (x : Name) (node : Node) (t : TermId) → node_tree bank node ≡ tree_of bank t → ((y : NameId) → node ≡ Node.Var y → ⊥) → is_variable x (tree_of bank t) ≡ false
unfolding is_variable
variable_not bank z (Node.Rel i) t e h = ap (is_variable z) (sym e)
variable_not bank z (Node.Var x) t e h = absurd (h x refl)
variable_not bank z (Node.Sort s) t e h = ap (is_variable z) (sym e)
variable_not bank z (Node.Prod x a b) t e h = ap (is_variable z) (sym e)
variable_not bank z (Node.Lam x a b) t e h = ap (is_variable z) (sym e)
variable_not bank z (Node.Let x v a b) t e h = ap (is_variable z) (sym e)
variable_not bank z (Node.App g a) t e h = ap (is_variable z) (sym e)
variable_not bank z (Node.Const x) t e h = ap (is_variable z) (sym e)
variable_not bank z (Node.Ind x) t e h = ap (is_variable z) (sym e)
variable_not bank z (Node.Ctor x k) t e h = ap (is_variable z) (sym e)
variable_not bank z (Node.Elim x s) t e h = ap (is_variable z) (sym e)
variable_not bank z (Node.Evar n ts) t e h = ap (is_variable z) (sym e)

pub and_false : (a : Bool) → (a && false) ≡ false
and_false true = refl
and_false false = refl

-- one hypothesis and one term more
pub variables_more : (h : TreeHypothesis) (g : Context) (t : Tree) (ts : List Tree) → are_variables (h ∷ g) (t ∷ ts) ≡ (is_variable h.name t && are_variables g ts)
unfolding are_variables is_variable
variables_more h g (Tree.Rel i) ts = refl
variables_more h g (Tree.Var x) ts = refl
variables_more h g (Tree.Sort s) ts = refl
variables_more h g (Tree.Prod x a b) ts = refl
variables_more h g (Tree.Lam x a b) ts = refl
variables_more h g (Tree.Let x v a b) ts = refl
variables_more h g (Tree.App k a) ts = refl
variables_more h g (Tree.Const x) ts = refl
variables_more h g (Tree.Ind x) ts = refl
variables_more h g (Tree.Ctor x k) ts = refl
variables_more h g (Tree.Elim x s) ts = refl
variables_more h g (Tree.Evar n us) ts = refl

-- not as many
pub variables_many : (g : Context) (ts : List Tree) → (length g ≡ length ts → ⊥) → are_variables g ts ≡ false
unfolding are_variables
variables_many [] [] h = absurd (h refl)
variables_many [] (t ∷ ts) h = refl
variables_many (x ∷ g) [] h = refl
variables_many (x ∷ g) (t ∷ ts) h =
    variables_more x g t ts ∙ ap (λ z. is_variable x.name t && z) (variables_many g ts (λ e. h (ap suc e))) ∙ and_false (is_variable x.name t)

pub variables_none : are_variables [] [] ≡ true
unfolding are_variables
variables_none = refl

-- as many terms of a bank
module _ (bank : Terms) (hs : List Hypothesis) (ts : List TermId) where
  pub variables_differ : (length hs ≡ length ts → ⊥) → false ≡ are_variables (context_of bank hs) (map (tree_of bank) ts)
  variables_differ h =
      sym (variables_many (context_of bank hs) (map (tree_of bank) ts) (λ e. h (sym (length-map hs (hypothesis_of bank)) ∙ e ∙ length-map ts (tree_of bank))))

  pub variables_next : (i : ℕ) → i < length hs → i < length ts →
      are_variables (context_of bank (drop i hs)) (map (tree_of bank) (drop i ts))
      ≡ (is_variable (text_of bank (get_or hs i no_hypothesis).name) (tree_of bank (get_or ts i no_term)) && are_variables (context_of bank (drop (i + 1) hs)) (map (tree_of bank) (drop (i + 1) ts)))
  variables_next i l k =
      ap₂ (λ g us. are_variables (context_of bank g) (map (tree_of bank) us)) (drop_more hs i no_hypothesis l) (drop_more ts i no_term k)
      ∙ variables_more (hypothesis_of bank (get_or hs i no_hypothesis)) (context_of bank (drop (i + 1) hs)) (tree_of bank (get_or ts i no_term)) (map (tree_of bank) (drop (i + 1) ts))

  pub variables_ended : (i : ℕ) → length hs ≤ i → length hs ≡ length ts → true ≡ are_variables (context_of bank (drop i hs)) (map (tree_of bank) (drop i ts))
  variables_ended i l e =
      sym (ap₂ (λ g us. are_variables (context_of bank g) (map (tree_of bank) us)) (drop_of_length-le hs l) (drop_of_length-le ts (omega arith)) ∙ variables_none)

-- a list up to and from a number that is cut off at its length
pub take_cut : {X : Type 0} (p : ℕ) (xs : List X) → take (min p (length xs)) xs ≡ take p xs
take_cut zero xs = let e : min 0 (length xs) ≡ 0 = omega arith in ap (λ k. take k xs) e
take_cut (suc p) [] = let e : min (suc p) 0 ≡ 0 = omega arith in ap (λ k. take k []) e
take_cut (suc p) (x ∷ xs) = ap (λ k. take k (x ∷ xs)) (cut p (length xs)) ∙ ap (λ z. x ∷ z) (take_cut p xs)
  where
    cut : (a b : ℕ) → min (suc a) (suc b) ≡ suc (min a b)
    cut a b = omega arith

pub drop_cut : {X : Type 0} (p : ℕ) (xs : List X) → drop (min p (length xs)) xs ≡ drop p xs
drop_cut zero xs = let e : min 0 (length xs) ≡ 0 = omega arith in ap (λ k. drop k xs) e
drop_cut (suc p) [] = let e : min (suc p) 0 ≡ 0 = omega arith in ap (λ k. drop k []) e
drop_cut (suc p) (x ∷ xs) = ap (λ k. drop k (x ∷ xs)) (cut p (length xs)) ∙ drop_cut p xs
  where
    cut : (a b : ℕ) → min (suc a) (suc b) ≡ suc (min a b)
    cut a b = omega arith

pub take-map : {X Y : Type 0} (f : X → Y) (k : ℕ) (xs : List X) → map f (take k xs) ≡ take k (map f xs)
take-map f zero xs = refl
take-map f (suc k) [] = refl
take-map f (suc k) (x ∷ xs) = ap (λ z. f x ∷ z) (take-map f k xs)

-- arguments, parted at the number of parameters
module _ (bank : Terms) (f : Family) (args : List TermId) (split : ℕ) (e : split ≡ min (length f.parameters) (length args)) where
  many : length (family_of bank f).parameters ≡ length f.parameters
  many = length-map f.parameters (hypothesis_of bank)

  pub front : map (tree_of bank) (take split args) ≡ take (length (family_of bank f).parameters) (map (tree_of bank) args)
  front = ap (λ k. map (tree_of bank) (take k args)) e ∙ ap (map (tree_of bank)) (take_cut (length f.parameters) args) ∙ take-map (tree_of bank) (length f.parameters) args ∙ ap (λ k. take k (map (tree_of bank) args)) (sym many)

  pub back : (n : ℕ) → n ≡ length args - split → map (tree_of bank) (take n (drop split args)) ≡ drop (length (family_of bank f).parameters) (map (tree_of bank) args)
  back n q =
      ap (map (tree_of bank)) (take_rest split n args q ∙ ap (λ k. drop k args) e ∙ drop_cut (length f.parameters) args) ∙ drop-map (tree_of bank) (length f.parameters) args ∙ ap (λ k. drop k (map (tree_of bank) args)) (sym many)

-- whether a head with arguments is the family's
pub instance_is :
    (bank : Terms) (f : TreeFamily) (node : Node) (t : TermId) (d : NameId) (args : List Tree) → node_tree bank node ≡ tree_of bank t → node ≡ Node.Ind d
    → is_instance f (tree_of bank t) args
    ≡ (same_name f.name (text_of bank d) && are_variables f.parameters (take (length f.parameters) args) && eqb (length (drop (length f.parameters) args)) (length f.indices) && not (any_holds (text_of bank d) (drop (length f.parameters) args)))
unfolding is_instance
instance_is bank f node t d args e q = ap (λ h. is_instance f h args) (tree_is bank node (Node.Ind d) t e q)

pub instance_not : (bank : Terms) (f : TreeFamily) (args : List Tree) (node : Node) (t : TermId) → node_tree bank node ≡ tree_of bank t → ((y : NameId) → node ≡ Node.Ind y → ⊥) → is_instance f (tree_of bank t) args ≡ false
unfolding is_instance
instance_not bank f args (Node.Rel i) t e h = ap (λ u. is_instance f u args) (sym e)
instance_not bank f args (Node.Var x) t e h = ap (λ u. is_instance f u args) (sym e)
instance_not bank f args (Node.Sort s) t e h = ap (λ u. is_instance f u args) (sym e)
instance_not bank f args (Node.Prod x a b) t e h = ap (λ u. is_instance f u args) (sym e)
instance_not bank f args (Node.Lam x a b) t e h = ap (λ u. is_instance f u args) (sym e)
instance_not bank f args (Node.Let x v a b) t e h = ap (λ u. is_instance f u args) (sym e)
instance_not bank f args (Node.App g a) t e h = ap (λ u. is_instance f u args) (sym e)
instance_not bank f args (Node.Const x) t e h = ap (λ u. is_instance f u args) (sym e)
instance_not bank f args (Node.Ind x) t e h = absurd (h x refl)
instance_not bank f args (Node.Ctor x k) t e h = ap (λ u. is_instance f u args) (sym e)
instance_not bank f args (Node.Elim x s) t e h = ap (λ u. is_instance f u args) (sym e)
instance_not bank f args (Node.Evar n ts) t e h = ap (λ u. is_instance f u args) (sym e)

pub false_true : false ≡ true → ⊥
false_true e = grind arith

-- the conjunction, where one of its parts fails or all hold
pub first_fails : (a b c d : Bool) → a ≡ false → (a && b && c && d) ≡ false
first_fails a b c d e = ap (λ z. z && b && c && d) e

pub second_fails : (a b c d : Bool) → b ≡ false → (a && b && c && d) ≡ false
second_fails a b c d e = ap (λ z. a && z && c && d) e ∙ ap (λ z. z && c && d) (and_false a)

pub third_fails : (a b c d : Bool) → c ≡ false → (a && b && c && d) ≡ false
third_fails a b c d e = ap (λ z. a && b && z && d) e ∙ ap (λ z. z && d) (and_false (a && b))

pub all_hold : (a b c d : Bool) → a ≡ true → b ≡ true → c ≡ true → (a && b && c && d) ≡ d
all_hold a b c d p q r = ap (λ z. z && b && c && d) p ∙ ap (λ z. true && z && c && d) q ∙ ap (λ z. true && true && z && d) r

-- the indices of the family's instance
pub own_some : (f : TreeFamily) (t : Tree) (args : List Tree) → is_instance f t args ≡ true → own_of f t args ≡ Some (drop (length f.parameters) args)
unfolding is_instance own_of
own_some f (Tree.Rel i) args e = absurd (false_true e)
own_some f (Tree.Var x) args e = absurd (false_true e)
own_some f (Tree.Sort s) args e = absurd (false_true e)
own_some f (Tree.Prod x a b) args e = absurd (false_true e)
own_some f (Tree.Lam x a b) args e = absurd (false_true e)
own_some f (Tree.Let x v a b) args e = absurd (false_true e)
own_some f (Tree.App g a) args e = absurd (false_true e)
own_some f (Tree.Const x) args e = absurd (false_true e)
own_some f (Tree.Ind x) args e = ap (λ b. elim b [ true ↦ Some (drop (length f.parameters) args) | false ↦ None ]) e
own_some f (Tree.Ctor x k) args e = absurd (false_true e)
own_some f (Tree.Elim x s) args e = absurd (false_true e)
own_some f (Tree.Evar n us) args e = absurd (false_true e)

pub own_none : (f : TreeFamily) (t : Tree) (args : List Tree) → is_instance f t args ≡ false → own_of f t args ≡ None
unfolding is_instance own_of
own_none f (Tree.Rel i) args e = refl
own_none f (Tree.Var x) args e = refl
own_none f (Tree.Sort s) args e = refl
own_none f (Tree.Prod x a b) args e = refl
own_none f (Tree.Lam x a b) args e = refl
own_none f (Tree.Let x v a b) args e = refl
own_none f (Tree.App g a) args e = refl
own_none f (Tree.Const x) args e = refl
own_none f (Tree.Ind x) args e = ap (λ b. elim b [ true ↦ Some (drop (length f.parameters) args) | false ↦ None ]) e
own_none f (Tree.Ctor x k) args e = refl
own_none f (Tree.Elim x s) args e = refl
own_none f (Tree.Evar n us) args e = refl

pub own_is : (f : TreeFamily) (t h : Tree) (args : List Tree) (o : Option (List Tree)) → spine t [] ≡ (h, args) → own_of f h args ≡ o → own f t ≡ o
unfolding own
own_is f t h args o e q = ap (λ s. own_of f s.0 s.1) e ∙ q

-- the fault of a type that is used otherwise
pub misuse_product : (bank : Terms) (c : Name) (k : ℕ) (node : Node) (t : TermId) (x : NameId) (a b : TermId) → node_tree bank node ≡ tree_of bank t → node ≡ Node.Prod x a b → misuse c k (tree_of bank t) ≡ not_positive c k
unfolding misuse
misuse_product bank c k node t x a b e q = ap (misuse c k) (tree_is bank node (Node.Prod x a b) t e q)

pub misuse_other : (bank : Terms) (c : Name) (k : ℕ) (node : Node) (t : TermId) → node_tree bank node ≡ tree_of bank t → ((x : NameId) (a b : TermId) → node ≡ Node.Prod x a b → ⊥) → misuse c k (tree_of bank t) ≡ nested_use c k
unfolding misuse
misuse_other banm c m (Node.Rel i) t e h = ap (misuse c m) (sym e)
misuse_other banm c m (Node.Var x) t e h = ap (misuse c m) (sym e)
misuse_other banm c m (Node.Sort s) t e h = ap (misuse c m) (sym e)
misuse_other banm c m (Node.Prod x a b) t e h = absurd (h x a b refl)
misuse_other banm c m (Node.Lam x a b) t e h = ap (misuse c m) (sym e)
misuse_other banm c m (Node.Let x v a b) t e h = ap (misuse c m) (sym e)
misuse_other banm c m (Node.App g a) t e h = ap (misuse c m) (sym e)
misuse_other banm c m (Node.Const x) t e h = ap (misuse c m) (sym e)
misuse_other banm c m (Node.Ind x) t e h = ap (misuse c m) (sym e)
misuse_other banm c m (Node.Ctor x k) t e h = ap (misuse c m) (sym e)
misuse_other banm c m (Node.Elim x s) t e h = ap (misuse c m) (sym e)
misuse_other banm c m (Node.Evar n ts) t e h = ap (misuse c m) (sym e)

-- the fault of an argument
module _ (f : TreeFamily) (c : Name) (k : ℕ) (A : Tree) where
  pub free_argument : holds f.name A ≡ false → argument_fault f c k A ≡ None
  unfolding argument_fault
  free_argument e = ap (λ b. elim b [ false ↦ None | true ↦ elim (own f A) [ Some ts ↦ None | None ↦ Some (misuse c k A) ] ]) e

  pub own_argument : (ts : List Tree) → holds f.name A ≡ true → own f A ≡ Some ts → argument_fault f c k A ≡ None
  unfolding argument_fault
  own_argument ts e q =
      ap (λ b. elim b [ false ↦ None | true ↦ elim (own f A) [ Some ts ↦ None | None ↦ Some (misuse c k A) ] ]) e
      ∙ ap (λ (o : Option (List Tree)). elim o [ Some ts ↦ None | None ↦ Some (misuse c k A) ]) q

  pub bad_argument : holds f.name A ≡ true → own f A ≡ None → argument_fault f c k A ≡ Some (misuse c k A)
  unfolding argument_fault
  bad_argument e q =
      ap (λ b. elim b [ false ↦ None | true ↦ elim (own f A) [ Some ts ↦ None | None ↦ Some (misuse c k A) ] ]) e
      ∙ ap (λ (o : Option (List Tree)). elim o [ Some ts ↦ None | None ↦ Some (misuse c k A) ]) q

-- the fault of a result
pub own_result : (f : TreeFamily) (c : Name) (t : Tree) (ts : List Tree) → own f t ≡ Some ts → result_fault f c t ≡ None
unfolding result_fault
own_result f c t ts q = ap (λ (o : Option (List Tree)). elim o [ Some ts ↦ None | None ↦ Some (bad_result c) ]) q

pub other_result : (f : TreeFamily) (c : Name) (t : Tree) → own f t ≡ None → result_fault f c t ≡ Some (bad_result c)
unfolding result_fault
other_result f c t q = ap (λ (o : Option (List Tree)). elim o [ Some ts ↦ None | None ↦ Some (bad_result c) ]) q

-- a fault that was found is one
pub none_some_fault : {x : Fault} → None ≡ Some x → ⊥
none_some_fault h = grind arith

pub found_fault : (bank : Terms) (fault : EnvFault) → IsFault bank fault None → ⊥
found_fault bank (EnvFault.NameTaken x) h = none_some_fault h.1
found_fault bank (EnvFault.NotPositive x k) h = none_some_fault h.1
found_fault bank (EnvFault.NestedUse x k) h = none_some_fault h.1
found_fault bank (EnvFault.BadResult x) h = none_some_fault h.1
found_fault bank (EnvFault.ElimForbidden x s) h = none_some_fault h.1
found_fault bank EnvFault.TooLarge h = none_some_fault h
found_fault bank EnvFault.TooDeep h = none_some_fault h
found_fault bank EnvFault.NoMemory h = h

pub first_found : (bank : Terms) (fault : EnvFault) (a b : Option Fault) → IsFault bank fault a → IsFault bank fault (first_fault a b)
first_found bank fault None b h = absurd (found_fault bank fault h)
first_found bank fault (Some x) b h = h

-- a constructor's faults, one argument after the other
pub fault_product :
    (bank : Terms) (f : TreeFamily) (c : Name) (k : ℕ) (node : Node) (t : TermId) (x : NameId) (a b : TermId) → node_tree bank node ≡ tree_of bank t → node ≡ Node.Prod x a b
    → constructor_fault f c k (tree_of bank t) ≡ first_fault (argument_fault f c k (tree_of bank a)) (constructor_fault f c (suc k) (tree_of bank b))
unfolding constructor_fault
fault_product bank f c k node t x a b e q = ap (constructor_fault f c k) (tree_is bank node (Node.Prod x a b) t e q)

pub fault_result : (bank : Terms) (f : TreeFamily) (c : Name) (k : ℕ) (node : Node) (t : TermId) → node_tree bank node ≡ tree_of bank t → ((x : NameId) (a b : TermId) → node ≡ Node.Prod x a b → ⊥) → constructor_fault f c k (tree_of bank t) ≡ result_fault f c (tree_of bank t)
unfolding constructor_fault
fault_result bank f c m (Node.Rel i) t e h = ap (constructor_fault f c m) (sym e) ∙ ap (result_fault f c) e
fault_result bank f c m (Node.Var x) t e h = ap (constructor_fault f c m) (sym e) ∙ ap (result_fault f c) e
fault_result bank f c m (Node.Sort s) t e h = ap (constructor_fault f c m) (sym e) ∙ ap (result_fault f c) e
fault_result bank f c m (Node.Prod x a b) t e h = absurd (h x a b refl)
fault_result bank f c m (Node.Lam x a b) t e h = ap (constructor_fault f c m) (sym e) ∙ ap (result_fault f c) e
fault_result bank f c m (Node.Let x v a b) t e h = ap (constructor_fault f c m) (sym e) ∙ ap (result_fault f c) e
fault_result bank f c m (Node.App g a) t e h = ap (constructor_fault f c m) (sym e) ∙ ap (result_fault f c) e
fault_result bank f c m (Node.Const x) t e h = ap (constructor_fault f c m) (sym e) ∙ ap (result_fault f c) e
fault_result bank f c m (Node.Ind x) t e h = ap (constructor_fault f c m) (sym e) ∙ ap (result_fault f c) e
fault_result bank f c m (Node.Ctor x k) t e h = ap (constructor_fault f c m) (sym e) ∙ ap (result_fault f c) e
fault_result bank f c m (Node.Elim x s) t e h = ap (constructor_fault f c m) (sym e) ∙ ap (result_fault f c) e
fault_result bank f c m (Node.Evar n ts) t e h = ap (constructor_fault f c m) (sym e) ∙ ap (result_fault f c) e

-- the constructors' faults, one constructor after the other
pub constructors_more : (f : TreeFamily) (c : Name × Tree) (cs : List (Name × Tree)) → constructors_fault f (c ∷ cs) ≡ first_fault (constructor_fault f c.0 1 c.1) (constructors_fault f cs)
unfolding constructors_fault
constructors_more f c cs = refl

pub constructors_none : (f : TreeFamily) → constructors_fault f [] ≡ None
unfolding constructors_fault
constructors_none f = refl

abbrev pub no_constructor : NameId × TermId
no_constructor = (record { place = 0 }, record { place = 0 })

module _ (bank : Terms) (f : TreeFamily) (cs : List (NameId × TermId)) (i : ℕ) where
  pub constructors_next : i < length cs →
      constructors_fault f (constructors_of bank (drop i cs))
      ≡ first_fault (constructor_fault f (text_of bank (get_or cs i no_constructor).0) 1 (tree_of bank (get_or cs i no_constructor).1)) (constructors_fault f (constructors_of bank (drop (i + 1) cs)))
  constructors_next l =
      ap (λ z. constructors_fault f (constructors_of bank z)) (drop_more cs i no_constructor l)
      ∙ constructors_more f (constructor_of bank (get_or cs i no_constructor)) (constructors_of bank (drop (i + 1) cs))

  pub constructors_ended : length cs ≤ i → constructors_fault f (constructors_of bank (drop i cs)) ≡ None
  constructors_ended l = ap (λ z. constructors_fault f (constructors_of bank z)) (drop_of_length-le cs l) ∙ constructors_none f

pub eqb_apart : (m n : ℕ) → (m ≡ n → ⊥) → eqb m n ≡ false
eqb_apart m n h = grind arith

pub eqb_same : (m n : ℕ) → m ≡ n → eqb m n ≡ true
eqb_same m n h = grind arith

-- a head that is the family's name, with its arguments parted at the number of parameters
module _
    (bank : Terms) (f : Family) (node : Node) (t : TermId) (d : NameId) (args : List TermId) (split : ℕ) (ps is : List Hypothesis) (tree : node_tree bank node ≡ tree_of bank t) (q : node ≡ Node.Ind d)
    (params : ps ≡ f.parameters) (indices : is ≡ f.indices) (cut : split ≡ min (length ps) (length args)) where
  pub variables_apart : (r : Bool) → r ≡ false → r ≡ are_variables (context_of bank ps) (map (tree_of bank) (take split args)) →
      false ≡ is_instance (family_of bank f) (tree_of bank t) (map (tree_of bank) args)
  variables_apart r e h =
      sym (instance_is bank (family_of bank f) node t d (map (tree_of bank) args) tree q
      ∙ second_fails (same_name (text_of bank f.name) (text_of bank d)) (are_variables (context_of bank f.parameters) (take (length (context_of bank f.parameters)) (map (tree_of bank) args)))
      (eqb (length (drop (length (context_of bank f.parameters)) (map (tree_of bank) args))) (length (context_of bank f.indices))) (not (any_holds (text_of bank d) (drop (length (context_of bank f.parameters)) (map (tree_of bank) args))))
      (ap₂ (λ g ts. are_variables (context_of bank g) ts) (sym params) (sym (front bank f args split (cut ∙ ap (λ z. min (length z) (length args)) params))) ∙ sym h ∙ e))

  back_is : (n : ℕ) → n ≡ length args - split → map (tree_of bank) (take n (drop split args)) ≡ drop (length (context_of bank f.parameters)) (map (tree_of bank) args)
  back_is n e = back bank f args split (cut ∙ ap (λ z. min (length z) (length args)) params) n e

  count_is : (n : ℕ) → n ≡ length args - split → length (take n (drop split args)) ≡ length (drop (length (context_of bank f.parameters)) (map (tree_of bank) args))
  count_is n e = sym (length-map (take n (drop split args)) (tree_of bank)) ∙ ap length (back_is n e)

  pub count_apart : (n : ℕ) → n ≡ length args - split → (length (take n (drop split args)) ≡ length is → ⊥) → false ≡ is_instance (family_of bank f) (tree_of bank t) (map (tree_of bank) args)
  count_apart n e h =
      sym (instance_is bank (family_of bank f) node t d (map (tree_of bank) args) tree q
      ∙ third_fails (same_name (text_of bank f.name) (text_of bank d)) (are_variables (context_of bank f.parameters) (take (length (context_of bank f.parameters)) (map (tree_of bank) args)))
      (eqb (length (drop (length (context_of bank f.parameters)) (map (tree_of bank) args))) (length (context_of bank f.indices))) (not (any_holds (text_of bank d) (drop (length (context_of bank f.parameters)) (map (tree_of bank) args))))
      (eqb_apart _ _ (λ z. h (count_is n e ∙ z ∙ length-map f.indices (hypothesis_of bank) ∙ ap length (sym indices)))))

  pub instance_holds :
      (r s u : Bool) (n : ℕ) → n ≡ length args - split → r ≡ true → r ≡ same_name (text_of bank f.name) (text_of bank d) → s ≡ true → s ≡ are_variables (context_of bank ps) (map (tree_of bank) (take split args))
      → length (take n (drop split args)) ≡ length is → u ≡ any_holds (text_of bank d) (map (tree_of bank) (take n (drop split args))) → not u ≡ is_instance (family_of bank f) (tree_of bank t) (map (tree_of bank) args)
  instance_holds r s u n e r1 r2 s1 s2 k v =
      sym (instance_is bank (family_of bank f) node t d (map (tree_of bank) args) tree q
      ∙ all_hold (same_name (text_of bank f.name) (text_of bank d)) (are_variables (context_of bank f.parameters) (take (length (context_of bank f.parameters)) (map (tree_of bank) args)))
      (eqb (length (drop (length (context_of bank f.parameters)) (map (tree_of bank) args))) (length (context_of bank f.indices))) (not (any_holds (text_of bank d) (drop (length (context_of bank f.parameters)) (map (tree_of bank) args))))
      (sym r2 ∙ r1)
      (ap₂ (λ g ts. are_variables (context_of bank g) ts) (sym params) (sym (front bank f args split (cut ∙ ap (λ z. min (length z) (length args)) params))) ∙ sym s2 ∙ s1)
      (eqb_same _ _ (sym (count_is n e) ∙ k ∙ ap length indices ∙ sym (length-map f.indices (hypothesis_of bank))))
      ∙ ap (λ z. not (any_holds (text_of bank d) z)) (sym (back_is n e)) ∙ ap not (sym v))

-- the indices that are kept
pub own_back :
    (bank : Terms) (f : Family) (args kept : List TermId) (ps : List Hypothesis) (split n : ℕ) → ps ≡ f.parameters → split ≡ min (length ps) (length args) → n ≡ length args - split → kept ≡ take n (drop split args)
    → ◌≡◌ {A = Option (List Tree)} (Some (map (tree_of bank) kept)) (Some (drop (length (family_of bank f).parameters) (map (tree_of bank) args)))
own_back bank f args kept ps split n e q l k = ap (λ z. Some z) (ap (map (tree_of bank)) k ∙ back bank f args split (q ∙ ap (λ z. min (length z) (length args)) e) n l)

-- by the answer
pub own_by : (f : TreeFamily) (t h : Tree) (args : List Tree) (b : Bool) → spine t [] ≡ (h, args) → b ≡ is_instance f h args → IsOwnBy f t b
own_by f t h args true e q = (drop (length f.parameters) args, own_is f t h args _ e (own_some f h args (sym q)))
own_by f t h args false e q = own_is f t h args None e (own_none f h args (sym q))

module _ (f : TreeFamily) (c : Name) (k : ℕ) (A : Tree) (b : Bool) (o : IsOwnBy f A b) where
  pub argument_own : b ≡ true → holds f.name A ≡ true → argument_fault f c k A ≡ None
  argument_own e h = let s = along (IsOwnBy f A) e o in own_argument f c k A s.0 h s.1

  pub argument_bad : b ≡ false → holds f.name A ≡ true → argument_fault f c k A ≡ Some (misuse c k A)
  argument_bad e h = bad_argument f c k A h (along (IsOwnBy f A) e o)

  pub result_own : b ≡ true → result_fault f c A ≡ None
  result_own e = let s = along (IsOwnBy f A) e o in own_result f c A s.0 s.1

  pub result_bad : b ≡ false → result_fault f c A ≡ Some (bad_result c)
  result_bad e = other_result f c A (along (IsOwnBy f A) e o)

-- what an answer says of a fault, of the first of two, and of the second where there is no first
pub finds_some : (bank : Terms) (fault : EnvFault) (o : Option EnvFault) (a b whole : Option Fault) → o ≡ Some fault → Finds bank o a → first_fault a b ≡ whole → IsFault bank fault whole
finds_some bank fault o a b whole e h q = along (λ z. IsFault bank fault z) q (first_found bank fault a b (along (λ z. Finds bank z a) e h))

pub finds_none : (bank : Terms) (o : Option EnvFault) (a b whole : Option Fault) → o ≡ None → Finds bank o a → first_fault a b ≡ whole → b ≡ whole
finds_none bank o a b whole e h q = sym (ap (λ z. first_fault z b) (along (λ z. Finds bank z a) e h)) ∙ q

-- an answer about one fault is one about an equal fault
pub finds_same : (bank : Terms) (r : Result (Option EnvFault) NoMemory) (a b : Option Fault) → a ≡ b → IfOk r (λ o. Finds bank o a) → IfOk r (λ o. Finds bank o b)
finds_same bank r a b e h = along (λ z. IfOk r (λ o. Finds bank o z)) e h

pub one-le-depth : (t : Tree) → 1 ≤ depth t
one-le-depth (Tree.Prod x a b) = omega arith
one-le-depth (Tree.Lam x a b) = omega arith
one-le-depth (Tree.Let x v a b) = omega arith
one-le-depth (Tree.App f a) = omega arith
one-le-depth (Tree.Evar n ts) = omega arith
one-le-depth _ = omega arith

pub number_fits : (bank : Terms) (node : Node) (t : TermId) (x : NameId) (a b : TermId) (n : ℕ) → node_tree bank node ≡ tree_of bank t → node ≡ Node.Prod x a b → n + depth (tree_of bank t) ≤ 2 ^ 64 → n + 1 < 2 ^ 64
number_fits bank node t x a b n e q l = omega (arith, ap depth (tree_is bank node (Node.Prod x a b) t e q), one-le-depth (tree_of bank b))

-- the third part of a conjunction
pub third_holds : (a b c d : Bool) → (a && b && c && d) ≡ true → c ≡ true
third_holds a b true d e = refl
third_holds a b false d e = absurd (false_true (sym (third_fails a b false d refl) ∙ e))

pub instance_many : (f : TreeFamily) (t : Tree) (args : List Tree) → is_instance f t args ≡ true → length (drop (length f.parameters) args) ≡ length f.indices
unfolding is_instance
instance_many f (Tree.Rel i) args e = absurd (false_true e)
instance_many f (Tree.Var x) args e = absurd (false_true e)
instance_many f (Tree.Sort s) args e = absurd (false_true e)
instance_many f (Tree.Prod x a b) args e = absurd (false_true e)
instance_many f (Tree.Lam x a b) args e = absurd (false_true e)
instance_many f (Tree.Let x v a b) args e = absurd (false_true e)
instance_many f (Tree.App g a) args e = absurd (false_true e)
instance_many f (Tree.Const x) args e = absurd (false_true e)
instance_many f (Tree.Ind x) args e =
    eqb-true (length (drop (length f.parameters) args)) (length f.indices)
    (third_holds (same_name f.name x) (are_variables f.parameters (take (length f.parameters) args)) (eqb (length (drop (length f.parameters) args)) (length f.indices)) (not (any_holds x (drop (length f.parameters) args))) e)
instance_many f (Tree.Ctor x k) args e = absurd (false_true e)
instance_many f (Tree.Elim x s) args e = absurd (false_true e)
instance_many f (Tree.Evar n us) args e = absurd (false_true e)

-- the indices are the arguments behind the parameters, as many as the family has
pub own_drop : (f : TreeFamily) (t : Tree) (ts : List Tree) → own f t ≡ Some ts → (drop (length f.parameters) (spine t []).1 ≡ ts) × (length ts ≡ length f.indices)
unfolding own
own_drop f t ts e = by_test (is_instance f (spine t []).0 (spine t []).1) refl
  where
    some_is : {us : List Tree} → ◌≡◌ {A = Option (List Tree)} (Some us) (Some ts) → us ≡ ts
    some_is e = grind arith

    none_some : ◌≡◌ {A = Option (List Tree)} None (Some ts) → ⊥
    none_some e = grind arith

    by_test : (b : Bool) → is_instance f (spine t []).0 (spine t []).1 ≡ b → (drop (length f.parameters) (spine t []).1 ≡ ts) × (length ts ≡ length f.indices)
    by_test true p =
        let q : drop (length f.parameters) (spine t []).1 ≡ ts = some_is (sym (own_some f (spine t []).0 (spine t []).1 p) ∙ e) in
        (q, ap length (sym q) ∙ instance_many f (spine t []).0 (spine t []).1 p)
    by_test false p = absurd (none_some (sym (own_none f (spine t []).0 (spine t []).1 p) ∙ e))
