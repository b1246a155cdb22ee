-- Under a binder, and back from under it.
use Rattle.std.proofs.Common.{◌≡◌, ◌<◌, ◌^◌, sym, arith, false, List, length, Option}
use Rattle.std.proofs.Common.{subst as along}
use Rattle.std.proofs.lemmas.List.{length-map}
use Rattle.lq_trees.specs.Tree.{Name}
use Rattle.lq_trees.specs.Fresh.{is_listed, fresh}
use Rattle.lq_terms.specs.declared.nodes.NameId.{NameId}
use Rattle.lq_terms.specs.declared.nodes.Hypothesis.{Hypothesis}
use Rattle.lq_terms.specs.Terms.{Terms, text_of, tree_of}
use Rattle.lq_terms.specs.Contexts.{hypothesis_of, context_of}
use Rattle.lq_solving.specs.Stores.{names_in}
use Rattle.lq_solving.proofs.FreshLaws.{fresh_new}
use Rattle.lq_elab.specs.declared.frames.Frame.{Frame}
use Rattle.lq_elab.specs.declared.scope.Meaning.{Meaning}
use Rattle.lq_elab.specs.declared.sites.Site.{Site}
use Rattle.lq_elab.specs.Naming.{variable, meaning, with_meaning, under_binder, AreBound}
use Rattle.lq_elab.specs.Naming as tree
use Rattle.lq_elab.specs.Scopes.{IsScope}
use Rattle.lq_elab.specs.Frames.{spot_of}
use Rattle.lq_elab.specs.States.{site_of}
use Rattle.lq_elab.proofs.NamingLaws.{meaning_under}
use Rattle.lq_elab.proofs.ScopeLaws.{scope_same}

-- the new name is no hypothesis's
pub new_name : (old new : Terms) (hs : List Hypothesis) → length hs < 2 ^ 64 → (binder : NameId) (x : NameId) → text_of new x ≡ fresh (context_of old hs) (text_of old binder) → is_listed (names_in (context_of old hs)) (text_of new x) ≡ false
new_name old new hs few binder x e =
    along (λ z. is_listed (names_in (context_of old hs)) z ≡ false) (sym e)
    (fresh_new (context_of old hs) (text_of old binder) (along (λ z. z < 10 ^ 64) (sym (length-map hs (hypothesis_of old))) (omega (arith, few))))

-- the scope under the binder, and outside it
module _ (bank : Terms) (c : Site) (hs : List Hypothesis) (fs : List Frame) (x : NameId) (h : Hypothesis) (bound : AreBound (spot_of bank hs fs)) (new : is_listed (names_in (context_of bank hs)) (text_of bank h.name) ≡ false) (es : List (NameId × Meaning)) where
  abbrev outer : Name → Option tree.Meaning
  outer = meaning (site_of bank c) (spot_of bank hs fs)

  pub scope_entered : IsScope bank (with_meaning (text_of bank x) (variable (text_of bank h.name) (tree_of bank h.kind)) outer) es → IsScope bank (meaning (site_of bank c) (under_binder (spot_of bank hs fs) (text_of bank x) (hypothesis_of bank h))) es
  scope_entered k =
      scope_same bank (with_meaning (text_of bank x) (variable (text_of bank h.name) (tree_of bank h.kind)) outer) (meaning (site_of bank c) (under_binder (spot_of bank hs fs) (text_of bank x) (hypothesis_of bank h))) es
      (λ z. sym (meaning_under (site_of bank c) (spot_of bank hs fs) (text_of bank x) (hypothesis_of bank h) z bound new)) k

  pub scope_left : IsScope bank (meaning (site_of bank c) (under_binder (spot_of bank hs fs) (text_of bank x) (hypothesis_of bank h))) es → IsScope bank (with_meaning (text_of bank x) (variable (text_of bank h.name) (tree_of bank h.kind)) outer) es
  scope_left k =
      scope_same bank (meaning (site_of bank c) (under_binder (spot_of bank hs fs) (text_of bank x) (hypothesis_of bank h))) (with_meaning (text_of bank x) (variable (text_of bank h.name) (tree_of bank h.kind)) outer) es
      (λ z. meaning_under (site_of bank c) (spot_of bank hs fs) (text_of bank x) (hypothesis_of bank h) z bound new) k
