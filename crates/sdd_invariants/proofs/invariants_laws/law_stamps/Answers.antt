use Rattle.sdd_invariants.proofs.Clocks.{clocked, stamps_differ}
use Rattle.sdd_invariants.proofs.invariants_laws.law_stamps.Goals as goal

pub returns-clause-rise : goal.returns-clause-rise
returns-clause-rise g = clocked

pub returns-clause-differ : goal.returns-clause-differ
returns-clause-differ g = stamps_differ
