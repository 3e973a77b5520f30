mod All
pub mod ClassesFit
pub mod ClassesFound
pub mod DifferentNames
pub mod InTurn
pub mod LineCuts
pub mod LinesFound
pub mod LinesPassed
pub mod NamesFound
pub mod NumbersOfNames
pub mod OrderWords
pub mod RepliesPassed
pub mod Submissions
pub mod VerifiedReports
pub mod WordsCut
