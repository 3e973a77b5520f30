mod All
pub mod Counts
pub mod Covering
pub mod Distinct
pub mod FirstFault
pub mod Firsts
pub mod FragmentOf
pub mod Found
pub mod Marking
pub mod Members
pub mod NameLemmas
pub mod Numbers
pub mod Places
pub mod RangeFaults
pub mod RangeLemmas
pub mod RoundTrip
pub mod Sound
pub mod Validity
