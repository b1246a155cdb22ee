pub mod Computing
pub mod Said
pub mod GoodLaws
pub mod BinderReading
pub mod AtomRows
pub mod AtomReading
pub mod TermForms
pub mod TermReading
pub mod NestedPlaces
pub mod CallReading
pub mod CheckReading
pub mod Fronts
pub mod Runs
pub mod NameLexing
pub mod SignLexing
pub mod DigitLexing
pub mod Pieces
pub mod Gathering
pub mod TokenWords
pub mod PrintedPieces
pub mod PieceWords
pub mod GrammarWords
pub mod FinePieces
pub mod ReadSurface
pub mod KindLaws
pub mod PlainNames
pub mod NumberedNames
pub mod FreshNames
pub mod PrintedNames
pub mod ReadsBackLaw
pub mod Closing
pub mod ElaborationSteps
pub mod BinderNames
pub mod Elaborating
pub mod ElaboratesBackLaw
mod Samples
mod TermRows
mod FaultRows
mod ViewRows
mod AgainRows
pub mod EliminatorNames
