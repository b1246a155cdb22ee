-- What a command as it is read does.
use Rattle.std.proofs.Common.{◌≡◌, ◌∙◌, refl, sym, ap, ap₂, ℕ, List, ◌++◌, map, Option, Some, None, Result, Ok, Err}
use Rattle.std.specs.Prelude.{option_map, reverse}
use Rattle.std.specs.Borrow.{Bor}
use Rattle.std.specs.Option.{option_copied}
use Rattle.lq_trees.specs.Tree.{Name}
use Rattle.lq_ast.specs.Syntax as Tree
use Rattle.lq_ast.specs.Syntax.{Bound}
use Rattle.lq_ast.specs.declared.surface.Surface.{Surface}
use Rattle.lq_ast.specs.declared.surface.Binders.{Binders, Typed}
use Rattle.lq_ast.specs.declared.sentence.Group.{Group}
use Rattle.lq_ast.specs.declared.sentence.Constructor.{Constructor}
use Rattle.lq_ast.specs.declared.sentence.Vernac.{Vernac}
use Rattle.lq_ast.specs.Plain.{plain, plain_binders, typed, joined}
use Rattle.lq_ast.specs.PlainCommands.{plain_group, plain_groups, plain_constructor, plain_type, plain_vernac}
use Rattle.lq_ast.proofs.PlainLaws.{plain_typed}
use Rattle.lq_terms.specs.declared.nodes.NameId.{NameId}
use Rattle.lq_terms.specs.Terms.{Terms, Grows, IsName, text_of}
use Rattle.lq_causes.specs.declared.stops.Stop.{Stop}
use Rattle.lq_print.specs.Causes.{cause_of}
use Rattle.lq_sessions.specs.Sessions as trees
use Rattle.lq_sessions.specs.Sessions.{Done, refused, needs_none, needs_new}
use Rattle.lq_sessions.specs.Declaring.{inductive, defined, stated}
use Rattle.lq_sessions.specs.Sentences.{printed, command_done}
use Rattle.lq_session.specs.declared.opened.Session.{Session}
use Rattle.lq_session.specs.Sessions.{session_of, IsSession, Does}
use Rattle.lq_session.proofs.ShowLaws.{session_grown}

-- ---- groups

pub group_is : (g : Group) (A : Surface) → A ≡ g.kind → plain_binders (Typed g.names A) ≡ plain_group g
unfolding plain_group
group_is g A e = plain_typed g.names A ∙ ap (λ z. map (typed (plain z)) g.names) e

-- what groups bind, with what some that were taken from the end bind, the last first
abbrev pub bound_by : List Group → List Binders → List Bound
bound_by gs bs = plain_groups gs ++ joined (map plain_binders (reverse bs))

-- ---- a bank that grew before the call

-- what is done in a bank that has grown is done in the bank before
pub does_grown : (old mid new : Terms) → Grows old mid → (s s1 : Session) → IsSession old s → (r : Result (List ℕ) Stop) (d e : Done) → d ≡ e → Does mid new r s s1 d → Does old new r s s1 e
does_grown old mid new g s s1 i (Ok t) d e q h = sym q ∙ h
does_grown old mid new g s s1 i (Err (Stop.Refused c)) d e q h = (h.0, sym q ∙ h.1 ∙ ap (λ z. refused z (cause_of new c)) (session_grown old mid g s i))
does_grown old mid new g s s1 i (Err Stop.NoMemory) d e q h = tt

pub type_copied : (A : Option (Bor Surface)) → option_map (λ z. plain z.now) A ≡ plain_type (option_copied A)
unfolding plain_type
type_copied None = refl
type_copied (Some z) = refl

abbrev pub defining : trees.Session → Name → List Bound → Option Tree.Surface → Tree.Surface → Done
defining s x xs A t = needs_none s (needs_new s x (defined s x xs A t))

abbrev pub stating : trees.Session → Name → List Bound → Tree.Surface → Done
stating s x xs A = needs_none s (needs_new s x (stated s x xs A))

module _ (old mid : Terms) (g : Grows old mid) (s : Session) (i : IsSession old s) (x : NameId) (text : Name) (named : IsName mid x text) where
  pub print_done : printed (session_of mid s) (text_of mid x) ≡ command_done (session_of old s) (plain_vernac (Vernac.Print text))
  unfolding command_done plain_vernac
  print_done = ap₂ printed (session_grown old mid g s i) named.is

  pub definition_done : (gs : List Group) (xs : List Bound) → xs ≡ plain_groups gs → (A : Option (Bor Surface)) (t : Surface) →
      defining (session_of mid s) (text_of mid x) xs (option_map (λ z. plain z.now) A) (plain t) ≡ command_done (session_of old s) (plain_vernac (Vernac.Definition text gs (option_copied A) t))
  unfolding command_done plain_vernac
  definition_done gs xs e A t =
      ap₂ (λ z y. defining z y xs (option_map (λ z. plain z.now) A) (plain t)) (session_grown old mid g s i) named.is
      ∙ ap₂ (λ ys B. defining (session_of old s) text ys B (plain t)) e (type_copied A)

  stating_done : (gs : List Group) (xs : List Bound) → xs ≡ plain_groups gs → (A : Surface) →
      stating (session_of mid s) (text_of mid x) xs (plain A) ≡ stating (session_of old s) text (plain_groups gs) (plain A)
  stating_done gs xs e A = ap₂ (λ z y. stating z y xs (plain A)) (session_grown old mid g s i) named.is ∙ ap (λ ys. stating (session_of old s) text ys (plain A)) e

  pub theorem_done : (gs : List Group) (xs : List Bound) → xs ≡ plain_groups gs → (A : Surface) →
      stating (session_of mid s) (text_of mid x) xs (plain A) ≡ command_done (session_of old s) (plain_vernac (Vernac.Theorem text gs A))
  unfolding command_done plain_vernac
  theorem_done gs xs e A = stating_done gs xs e A

  pub lemma_done : (gs : List Group) (xs : List Bound) → xs ≡ plain_groups gs → (A : Surface) →
      stating (session_of mid s) (text_of mid x) xs (plain A) ≡ command_done (session_of old s) (plain_vernac (Vernac.Lemma text gs A))
  unfolding command_done plain_vernac
  lemma_done gs xs e A = stating_done gs xs e A

  pub inductive_done : (gs : List Group) (xs : List Bound) → xs ≡ plain_groups gs → (A : Surface) (cs : List Constructor) →
      needs_none (session_of mid s) (inductive (session_of mid s) (text_of mid x) xs (plain A) (map plain_constructor cs)) ≡ command_done (session_of old s) (plain_vernac (Vernac.Inductive text gs A cs))
  unfolding command_done plain_vernac
  inductive_done gs xs e A cs =
      ap₂ (λ z y. needs_none z (inductive z y xs (plain A) (map plain_constructor cs))) (session_grown old mid g s i) named.is
      ∙ ap (λ ys. needs_none (session_of old s) (inductive (session_of old s) text ys (plain A) (map plain_constructor cs))) e
