mod All
pub mod CompleteMeans
pub mod ExpectedLine
pub mod FirstFaults
pub mod InParts
pub mod NamedTxns
pub mod NoFault
pub mod OrderFound
pub mod PlacesFound
pub mod ReplyLines
pub mod StrictMeans
pub mod SubmittedNames
pub use Rattle.sdd_verify.proofs as verifying
