mod All
pub mod AllObligations
pub mod Answered
pub mod Answering
pub mod AnswersLow
pub mod Ascending
pub mod QuestionsOfPhase
pub mod QuestionsComeInTurn
pub mod AsksFit
pub mod AtTurn
pub mod Bounded
pub mod Changes
pub mod Comes
pub mod Conditions
pub mod Copied
pub mod Counting
pub mod Covered
pub mod DataSteps
pub mod DonesFit
pub mod Early
pub mod EffectsHeld
pub mod Entries
pub mod Exchanged
pub mod Exchanging
pub mod FirstSends
pub mod FitsAtD
pub mod FitsAtT
pub mod Flights
pub mod Fresh
pub mod Going
pub mod Halves
pub mod Handing
pub mod HandedAnswersKeepTurns
pub mod RowsStayHeld
pub mod HoldsFit
pub mod InStep
pub mod Kept
pub mod Limits
pub mod Linking
pub mod MembersInOrder
pub mod LowClocks
pub mod LowLists
pub mod Modules
pub mod Near
pub mod NoRejects
pub mod NoStarts
pub mod SitesAndLinks
pub mod Once
pub mod Opened
pub mod Piping
pub mod Places
pub mod Put
pub mod Questions
pub mod ReadSent
pub mod ReadsFit
pub mod Replying
pub mod Routed
pub mod SendsLow
pub mod Served
pub mod ShippedAnswered
pub mod Simulated
pub mod Snapped
pub mod Sources
pub mod Spaces
pub mod ExchangesGoByTurns
pub mod Stages
pub mod Stamped
pub mod Starts
pub mod Stepping
pub mod Submitting
pub mod Sums
pub mod AnswersComeInTurn
pub mod Texts
pub mod LastAnswerIsKept
pub mod Under
pub mod Upholding
pub mod Verdicts
pub mod Written
pub use Rattle.sdd_invariants.proofs.base as base
pub use Rattle.sdd_invariants.proofs.net as net
pub use Rattle.sdd_invariants.proofs.catalog as catalog
pub use Rattle.sdd_invariants.proofs.history as history
pub use Rattle.sdd_invariants.proofs.wire as wire
pub use Rattle.sdd_invariants.proofs.graph as graph
pub use Rattle.sdd_invariants.proofs.protocol as protocol
pub use Rattle.sdd_invariants.proofs.lang as lang
pub use Rattle.sdd_laws.proofs.class_eras as class_eras
pub use Rattle.sdd_laws.proofs.copy as copy
pub use Rattle.sdd_invariants.proofs.pipe as pipe
pub use Rattle.sdd_invariants.proofs.semijoin as semijoin
pub use Rattle.sdd_invariants.proofs.site_module as site_module
pub use Rattle.sdd_invariants.proofs.attempt as attempt
pub use Rattle.sdd_invariants.proofs.dm as dm
pub use Rattle.sdd_invariants.proofs.tm as tm
pub use Rattle.sdd_invariants.proofs.umod as umod
pub use Rattle.sdd_laws.proofs.links as links
pub use Rattle.sdd_laws.proofs.serial_orders as serial_orders
pub use Rattle.sdd_laws.proofs as laws
pub use Rattle.sdd_invariants.proofs.logs as logs
pub use Rattle.sdd_invariants.proofs as invariants
pub use Rattle.sdd_needs.proofs as needs
pub use Rattle.sdd_shipped.proofs as shipped
pub use Rattle.sdd_invariants.proofs.site_rules as site_rules
