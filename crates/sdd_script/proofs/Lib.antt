pub mod AddedNames
mod All
pub mod AssignLaws
pub mod ClassNames
pub mod ConditionLaws
pub mod Declaring
pub mod EventLaws
pub mod FewColumns
pub mod FewRead
pub mod FineLines
pub mod Fragments
pub mod KnownCatalogues
pub mod LineLaws
pub mod ListChains
pub mod ListLines
pub mod Lists
pub mod Marks
pub mod NamePlaces
pub mod NoLists
pub mod Pieces
pub mod QueryLaws
pub mod ReadingLaws
pub mod RedeclareLaws
pub mod RefLaws
pub mod RowLaws
pub mod Shortened
pub mod SoFar
pub mod SoundEvents
pub mod SoundLists
pub mod SoundStates
pub mod SpellingLaws
pub mod StepLaws
pub mod Submissions
pub mod UpdateLaws
pub mod UseLaws
pub mod ValueLaws
pub mod WholeLaws
pub mod WordCuts
pub mod WordLooks
pub use Rattle.sdd_lang.proofs.base as base
pub use Rattle.sdd_words.proofs as words
pub use Rattle.sdd_lang.proofs.catalog as catalog
pub use Rattle.sdd_lang.proofs as lang
