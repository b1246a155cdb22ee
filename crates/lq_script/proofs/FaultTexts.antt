-- The line of a fault, and what the code writes of it.
use Rattle.std.proofs.Common.{◌≡◌, ap, Some, None, List, [], ◌∷◌, ◌++◌, append_assoc, ℕ}
use Rattle.std.specs.Prelude.{Option, codes, decimal, option_map}
use Rattle.lq_terms.specs.Terms.{Terms}
use Rattle.lq_output.specs.Faults.{Fault}
use Rattle.lq_output.specs.Sentences.{fault_text}
use Rattle.lq_output.specs.Output.{refused}
use Rattle.lq_script.specs.declared.fault.SentenceFault.{SentenceFault}
use Rattle.lq_script.specs.Faults.{fault_of}

-- the count of open goals, behind what was there
pub goals_told :
    (bank : Terms) (fault : SentenceFault) (count : ℕ) (out a b : List ℕ) → fault ≡ SentenceFault.OpenGoals count → a ≡ out ++ codes "open goals: " → b ≡ a ++ decimal count
    → option_map (λ f. out ++ fault_text f) (fault_of bank fault) ≡ Some b
unfolding fault_text
goals_told bank fault count out a b p q r = rw p (ap Some (simp (r, q, append_assoc)))

-- the pieces of a fault's line, one after the other
pub line_pieces :
    (fault : Option Fault) (k : ℕ) (out a b c d e : List ℕ) → a ≡ out ++ codes "Error: sentence " → b ≡ a ++ decimal k → c ≡ b ++ codes ": "
    → option_map (λ f. c ++ fault_text f) fault ≡ Some d → e ≡ d ++ 10 ∷ []
    → option_map (λ f. out ++ (refused k f).text) fault ≡ Some e
unfolding refused
line_pieces None k out a b c d e p q r s t = cc
line_pieces (Some f) k out a b c d e p q r s t =
    let u : d ≡ c ++ fault_text f = cc in
    ap Some (simp (t, u, r, q, p, append_assoc))
