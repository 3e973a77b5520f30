pub mod All
pub mod ClassLists
pub mod Columns
pub mod Examples
pub mod Few
pub mod FirstWords
pub mod Laws
pub mod LineRules
pub mod Naming
pub mod Occurrences
pub mod OpenLists
pub mod Places
pub mod Redeclaring
pub mod Rules
pub mod Spelling
pub mod Statements
pub mod ReadResults
pub mod Valid
pub mod Values
pub mod Walk
pub use Rattle.sdd_lang.specs as lang
pub use Rattle.sdd_lang.specs.base as base
pub use Rattle.sdd_lang.specs.catalog as catalog
pub use Rattle.sdd_words.specs as words
