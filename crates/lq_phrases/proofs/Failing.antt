-- A refusal handed on.
use Rattle.std.proofs.Common.{◌≡◌, Err}
use Rattle.lq_sentences.specs.Rules.{Stop, unexpected, too_nested, ended, Read}
use Rattle.lq_phrases.specs.declared.refusal.Refusal.{Refusal}
use Rattle.lq_phrases.specs.declared.refusal.Refusal.TheVariants.{NoMemory, Unexpected, TooNested, Ended}
use Rattle.lq_phrases.specs.Views.{Fails}

-- where an outcome fails as another does, the refusal of this one is its own
pub fails_by : {A B : Type 0} (e : Refusal) (r : Read A) (s : Read B) → ((d : Stop) → r ≡ Err d → s ≡ Err d) → Fails e r → Fails e s
fails_by NoMemory r s same f = tt
fails_by (Unexpected p) r s same f = same (unexpected p) f
fails_by (TooNested p) r s same f = same (too_nested p) f
fails_by Ended r s same f = same ended f
