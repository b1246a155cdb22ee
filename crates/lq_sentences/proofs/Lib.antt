pub mod RuleLaws
pub mod LoopLaws
pub mod WordLaws
pub mod FaultLaws
pub mod SentenceLaws
pub mod PlaceLaws
pub mod SentencePlaces
pub mod Settling
pub mod Computing
pub mod ShapeLaws
pub mod FailLaws
pub mod FailLoops
pub mod RisingLaws
pub mod Completing
pub mod LiveParts
pub mod LiveTerms
pub mod LiveLevels
pub mod LivePatterns
pub mod LiveMatches
pub mod LiveArguments
pub mod LivePrimitives
pub mod LiveTactics
pub mod LiveCommands
pub mod NestingLaws
pub mod LeastPlace
pub mod FaultPlaces
mod Trying
mod Placing
mod TreeRows
mod LongRows
mod ScriptRows
mod TermRows
mod CommandRows
mod TacticRows
mod PrimitiveRows
mod FaultRows
mod NestRows
