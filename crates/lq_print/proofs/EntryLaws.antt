-- What is known of a name, by what its entry is.
use Rattle.std.proofs.Common.{◌≡◌, ◌∙◌, ℕ, Bool, true, false, List, Option, Some, None, Result, Ok, Err, refl, sym, ap, subst}
use Rattle.std.specs.Prelude.{option_map}
use Rattle.lq_trees.specs.declared.Sort.{Sort as Universe}
use Rattle.lq_trees.specs.Tree.{Name, Tree}
use Rattle.lq_calculus.specs.Declarations.{Env, Entry, Family, constant, family, arity, constructor, eliminator, lookup, family_in, constructor_kind, elim_type, permits}
use Rattle.lq_terms.specs.declared.nodes.NameId.{NameId}
use Rattle.lq_terms.specs.declared.nodes.TermId.{TermId}
use Rattle.lq_terms.specs.Terms.{Terms, text_of, tree_of}
use Rattle.lq_env.specs.declared.environment.Entry.{Entry as BankEntry}
use Rattle.lq_env.specs.declared.family.Family.{Family as BankFamily}
use Rattle.lq_env.specs.Families.{family_of}
use Rattle.lq_env.specs.Environments.{Looks, entry_of, kind_in, kind_of, constructor_in}
use Rattle.lq_texts.specs.Causes.{unknown, elim_forbidden}
use Rattle.lq_texts.specs.Views.{Known as TreeKnown, line, entry_text, in_family, constructor_known, known, known_line}
use Rattle.lq_print.specs.declared.entries.Found.{Found}
use Rattle.lq_print.specs.declared.entries.PrintFault.{PrintFault}
use Rattle.lq_print.specs.Entries.{Knows, Prints, eliminator_known}

pub kind_some : (x : Name) (k : Option Tree) (A : Tree) → k ≡ Some A → constructor_known x k ≡ Ok (A, None)
unfolding constructor_known
kind_some x k A e = ap (constructor_known x) e

pub kind_none : (x : Name) (k : Option Tree) → k ≡ None → constructor_known x k ≡ Err (unknown x)
unfolding constructor_known
kind_none x k e = ap (constructor_known x) e

module _ (env : Env) (x : Name) where
  pub none_known : (e : Option Entry) → e ≡ None → known env x e ≡ Err (unknown x)
  unfolding known
  none_known e is = ap (known env x) is

  pub constant_known : (e : Option Entry) (A t : Tree) (o : Bool) → e ≡ Some (constant A t o) → known env x e ≡ Ok (A, Some t)
  unfolding known
  constant_known e A t o is = ap (known env x) is

  pub family_known : (e : Option Entry) (f : Family) (ss : List Universe) → e ≡ Some (family f ss) → known env x e ≡ constructor_known x (kind_in env e)
  unfolding known constructor_known
  family_known e f ss is = ap (known env x) is ∙ ap (λ z. constructor_known x (kind_in env z)) (sym is)

  pub arity_known : (e : Option Entry) (A : Tree) → e ≡ Some (arity A) → known env x e ≡ constructor_known x (kind_in env e)
  unfolding known constructor_known
  arity_known e A is = ap (known env x) is ∙ ap (λ z. constructor_known x (kind_in env z)) (sym is)

  member_known : (k : ℕ) (o : Option Entry) → in_family x o (λ f ss. constructor_known x (constructor_kind f k)) ≡ constructor_known x (constructor_in (family_in o) k)
  unfolding in_family constructor_known family_in
  member_known k None = refl
  member_known k (Some (constant A t o)) = refl
  member_known k (Some (family f ss)) = refl
  member_known k (Some (arity A)) = refl
  member_known k (Some (constructor c j)) = refl
  member_known k (Some (eliminator c s)) = refl

  pub constructor_is_known : (e : Option Entry) (c : Name) (k : ℕ) → e ≡ Some (constructor c k) → known env x e ≡ constructor_known x (kind_in env e)
  unfolding known
  constructor_is_known e c k is =
      ap (known env x) is ∙ member_known k (lookup env c) ∙ ap (λ z. constructor_known x (kind_in env z)) (sym is)

  pub eliminator_is_known : (e : Option Entry) (c : Name) (s : Universe) → e ≡ Some (eliminator c s) → known env x e ≡ eliminator_known env x c s
  unfolding known
  eliminator_is_known e c s is = ap (known env x) is

-- what is told of an eliminator into a sort, where the family permits it or not
abbrev told_by : Name → Universe → Family → Bool → TreeKnown
told_by c s f p = elim p [ true ↦ Ok (elim_type f s, None) | false ↦ Err (elim_forbidden c s) ]

module _ (env : Env) (x c : Name) (s : Universe) where
  abbrev told_in : Option Entry → TreeKnown
  told_in e = in_family x e (λ f ss. told_by c s f (permits ss s))

  pub none_eliminated : lookup env c ≡ None → eliminator_known env x c s ≡ Err (unknown x)
  unfolding in_family
  none_eliminated is = ap told_in is

  pub constant_eliminated : (A t : Tree) (o : Bool) → lookup env c ≡ Some (constant A t o) → eliminator_known env x c s ≡ Err (unknown x)
  unfolding in_family
  constant_eliminated A t o is = ap told_in is

  pub arity_eliminated : (A : Tree) → lookup env c ≡ Some (arity A) → eliminator_known env x c s ≡ Err (unknown x)
  unfolding in_family
  arity_eliminated A is = ap told_in is

  pub constructor_eliminated : (d : Name) (k : ℕ) → lookup env c ≡ Some (constructor d k) → eliminator_known env x c s ≡ Err (unknown x)
  unfolding in_family
  constructor_eliminated d k is = ap told_in is

  pub eliminator_eliminated : (d : Name) (u : Universe) → lookup env c ≡ Some (eliminator d u) → eliminator_known env x c s ≡ Err (unknown x)
  unfolding in_family
  eliminator_eliminated d u is = ap told_in is

  pub permitted_known : (f : Family) (ss : List Universe) → lookup env c ≡ Some (family f ss) → permits ss s ≡ true → eliminator_known env x c s ≡ Ok (elim_type f s, None)
  unfolding in_family
  permitted_known f ss is h = ap told_in is ∙ ap (told_by c s f) h

  pub forbidden_known : (f : Family) (ss : List Universe) → lookup env c ≡ Some (family f ss) → permits ss s ≡ false → eliminator_known env x c s ≡ Err (elim_forbidden c s)
  unfolding in_family
  forbidden_known f ss is h = ap told_in is ∙ ap (told_by c s f) h

-- the same by the entry of the family's name
module _ (bank : Terms) (env : Env) (x c : Name) (s : Universe) where
  entry_is : (e : BankEntry) (d : BankEntry) → e ≡ d → Looks bank (Some e) (lookup env c) → lookup env c ≡ Some (entry_of bank d)
  entry_is e d is l = l.1 ∙ ap (λ z. Some (entry_of bank z)) is

  pub constant_looks : (A v : TermId) (o : Bool) (e : BankEntry) → e ≡ BankEntry.Constant A v o → Looks bank (Some e) (lookup env c) → eliminator_known env x c s ≡ Err (unknown x)
  constant_looks A v o e is l = constant_eliminated env x c s (tree_of bank A) (tree_of bank v) o (entry_is e _ is l)

  pub arity_looks : (A : TermId) (e : BankEntry) → e ≡ BankEntry.Arity A → Looks bank (Some e) (lookup env c) → eliminator_known env x c s ≡ Err (unknown x)
  arity_looks A e is l = arity_eliminated env x c s (tree_of bank A) (entry_is e _ is l)

  pub constructor_looks : (d : NameId) (k : ℕ) (e : BankEntry) → e ≡ BankEntry.Constructor d k → Looks bank (Some e) (lookup env c) → eliminator_known env x c s ≡ Err (unknown x)
  constructor_looks d k e is l = constructor_eliminated env x c s (text_of bank d) k (entry_is e _ is l)

  pub eliminator_looks : (d : NameId) (u : Universe) (e : BankEntry) → e ≡ BankEntry.Eliminator d u → Looks bank (Some e) (lookup env c) → eliminator_known env x c s ≡ Err (unknown x)
  eliminator_looks d u e is l = eliminator_eliminated env x c s (text_of bank d) u (entry_is e _ is l)

  pub family_looks : (f : BankFamily) (ss : List Universe) (e : BankEntry) → e ≡ BankEntry.Family f ss → Looks bank (Some e) (lookup env c) → lookup env c ≡ Some (family (family_of bank f) ss)
  family_looks f ss e is l = entry_is e _ is l

-- what is known of a name by its entry
module _ (bank : Terms) (env : Env) (x : Name) where
  named_is : (e : BankEntry) (d : BankEntry) → e ≡ d → Looks bank (Some e) (lookup env x) → lookup env x ≡ Some (entry_of bank d)
  named_is e d is l = l.1 ∙ ap (λ z. Some (entry_of bank z)) is

  pub constant_found : (A v : TermId) (o : Bool) (e : BankEntry) → e ≡ BankEntry.Constant A v o → Looks bank (Some e) (lookup env x) →
      known env x (lookup env x) ≡ Ok (tree_of bank A, Some (tree_of bank v))
  constant_found A v o e is l = constant_known env x (lookup env x) (tree_of bank A) (tree_of bank v) o (named_is e _ is l)

  pub family_found : (f : BankFamily) (ss : List Universe) (e : BankEntry) → e ≡ BankEntry.Family f ss → Looks bank (Some e) (lookup env x) →
      known env x (lookup env x) ≡ constructor_known x (kind_of env x)
  family_found f ss e is l = family_known env x (lookup env x) (family_of bank f) ss (named_is e _ is l)

  pub arity_found : (A : TermId) (e : BankEntry) → e ≡ BankEntry.Arity A → Looks bank (Some e) (lookup env x) → known env x (lookup env x) ≡ constructor_known x (kind_of env x)
  arity_found A e is l = arity_known env x (lookup env x) (tree_of bank A) (named_is e _ is l)

  pub constructor_found : (d : NameId) (k : ℕ) (e : BankEntry) → e ≡ BankEntry.Constructor d k → Looks bank (Some e) (lookup env x) →
      known env x (lookup env x) ≡ constructor_known x (kind_of env x)
  constructor_found d k e is l = constructor_is_known env x (lookup env x) (text_of bank d) k (named_is e _ is l)

  pub eliminator_found : (d : NameId) (u : Universe) (e : BankEntry) → e ≡ BankEntry.Eliminator d u → Looks bank (Some e) (lookup env x) →
      known env x (lookup env x) ≡ eliminator_known env x (text_of bank d) u
  eliminator_found d u e is l = eliminator_is_known env x (lookup env x) (text_of bank d) u (named_is e _ is l)

-- the same of equal definitions
pub knows_same : (bank : Terms) (r : Result Found PrintFault) (d e : TreeKnown) → d ≡ e → Knows bank r e → Knows bank r d
knows_same bank r d e is h = subst (Knows bank r) (sym is) h

-- the line of a name of which so much is known
pub line_of_found : (bank : Terms) (env : Env) (x : Name) (k : Found) (d : TreeKnown) (y : List ℕ) → d ≡ Ok (tree_of bank k.kind, option_map (tree_of bank) k.body) →
    y ≡ line (entry_text env x (tree_of bank k.kind) (option_map (tree_of bank) k.body)) → known_line env x d ≡ Ok y
unfolding known_line
line_of_found bank env x k d y e h = ap (known_line env x) e ∙ ap Ok (sym h)

-- why there is none
pub fault_of_found : (bank : Terms) (env : Env) (x : Name) (f : PrintFault) (d : TreeKnown) → Knows bank (Err f) d → Prints bank (Err f) (known_line env x d)
unfolding known_line
fault_of_found bank env x (PrintFault.Unknown y) d h = (h.0, ap (known_line env x) h.1)
fault_of_found bank env x (PrintFault.ElimForbidden y s) d h = (h.0, ap (known_line env x) h.1)
fault_of_found bank env x PrintFault.NoMemory d h = tt
