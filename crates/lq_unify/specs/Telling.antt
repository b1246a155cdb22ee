-- What the rules of computation tell while names are added.
use Rattle.std.specs.Prelude.{◌≡◌}
use Rattle.lq_trees.specs.Rules.{Rules}
use Rattle.lq_terms.specs.declared.nodes.NameId.{NameId}
use Rattle.lq_terms.specs.Terms.{Terms, HasName, Grows, text_of}
use Rattle.lq_terms.specs.Telling.{Telling, Tells, HasTelling}
use Rattle.lq_solving.specs.Claims.{ArePlainRules}

-- two names of a bank with one text are one name
abbrev pub NamesApart : Terms → Type 0
NamesApart bank = (x y : NameId) → HasName bank x → HasName bank y → text_of bank x ≡ text_of bank y → x ≡ y

-- the rules tell these rules over trees in each bank that grows out of this one
abbrev pub TellsOn : Terms → Telling → Rules → Type 0
TellsOn bank told r = (new : Terms) → Grows bank new → NamesApart new → Tells new told r

-- the rules lie in the bank, and tell rules that name no variable and no hypothesis
pub record HasRules (bank : Terms) (told : Telling) : Type 0 where
  pub has : HasTelling bank told
  pub rules : Rules
  pub tells : TellsOn bank told rules
  pub plain : ArePlainRules rules
