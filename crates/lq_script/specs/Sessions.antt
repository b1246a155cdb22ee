-- Sessions: what the code's places stand for, what is true of a session, and what a sentence does to it.
use Rattle.std.specs.Prelude.{◌≡◌, ℕ, List, [], Option, Some, None, Result, Ok, Err}
use Rattle.lq_trees.specs.declared.Sort.{Sort as Universe}
use Rattle.lq_terms.specs.declared.nodes.NameId.{NameId}
use Rattle.lq_terms.specs.Terms.{Terms, HasName, text_of, tree_of}
use Rattle.lq_env.specs.declared.environment.Declared.{Declared}
use Rattle.lq_kernel.specs.declared.faults.KernelFault.{KernelFault}
use Rattle.lq_env.specs.Environments.{IsEnv, env_of}
use Rattle.lq_output.specs.Faults.{Fault}
use Rattle.lq_output.specs.Sentences as sentences
use Rattle.lq_script.specs.declared.fault.SentenceFault.{SentenceFault}
use Rattle.lq_script.specs.declared.session.Place.{Place}
use Rattle.lq_script.specs.Proofs.{proof_of, HasProof, IsStatement, Reaches, Tells}

-- a place
abbrev pub place_of : Terms → Place → sentences.Place
place_of bank Place.Outside = sentences.outside
place_of bank (Place.Stated x A) = sentences.stated (text_of bank x) (tree_of bank A)
place_of bank (Place.Begun x A) = sentences.begun (text_of bank x) (tree_of bank A)
place_of bank (Place.Worked x A p) = sentences.worked (text_of bank x) (tree_of bank A) (proof_of bank p)

-- the place behind `Proof`
abbrev pub begun_of : Place → Option Place
begun_of Place.Outside = None
begun_of (Place.Stated x A) = Some (Place.Begun x A)
begun_of (Place.Begun x A) = None
begun_of (Place.Worked x A p) = None

-- a theorem's name and its statement lie in the bank, and so does its proof, which comes from the statement
abbrev pub IsPlace : Terms → Place → Type 0
IsPlace bank Place.Outside = Unit {0}
IsPlace bank (Place.Stated x A) = HasName bank x × IsStatement bank A
IsPlace bank (Place.Begun x A) = HasName bank x × IsStatement bank A
IsPlace bank (Place.Worked x A p) = HasName bank x × IsStatement bank A × HasProof bank p × Reaches (tree_of bank A) (proof_of bank p)

-- what is true of a session
pub record IsSession (bank : Terms) (env : List (NameId × Declared)) (place : Place) : Type 0 where
  pub declared : IsEnv bank env
  pub stands : IsPlace bank place

-- the declarations and the place, as the definition has them
abbrev pub state_of : Terms → List (NameId × Declared) → Place → sentences.State
state_of bank env place = record { env = env_of bank env; place = place_of bank place }

-- the place that a sentence leads to, with nothing written, or its fault
abbrev pub Moves : Terms → List (NameId × Declared) → Result Place SentenceFault → Result (List ℕ × sentences.State) Fault → Type 0
Moves bank env (Ok place) r = IsPlace bank place × (r ≡ Ok ([], state_of bank env place))
Moves bank env (Err e) r = Tells bank e (λ f. r ≡ Err f)

-- the text that a sentence writes, by its bytes, and the state after it, or its fault
abbrev pub Runs : {S : Type 0} → (S → List ℕ) → Terms → List (NameId × Declared) → Place → Result S SentenceFault → Result (List ℕ × sentences.State) Fault → Type 0
Runs bytes bank env place (Ok text) r = r ≡ Ok (bytes text, state_of bank env place)
Runs bytes bank env place (Err e) r = Tells bank e (λ f. r ≡ Err f)

-- a type has a sort, or the fault of the look for it
abbrev pub HasSort : Terms → Result (Unit {0}) SentenceFault → Result Universe Fault → Type 0
HasSort bank (Ok ok) r = (s : Universe) × (r ≡ Ok s)
HasSort bank (Err e) r = Tells bank e (λ f. r ≡ Err f)

-- a refusal of the kernel as a refusal of a sentence
abbrev pub told_of : KernelFault → SentenceFault
told_of (KernelFault.Mismatch found wanted) = SentenceFault.Differs found wanted
told_of KernelFault.NoMemory = SentenceFault.NoMemory
told_of _ = SentenceFault.NotBuilt
