pub mod Reader
pub mod TextReader
pub mod WholeRun
pub mod WorkedDowns
pub mod WorkedLines
