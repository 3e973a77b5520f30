-- The theorems.
use Rattle.sdd_acyclic.proofs.All.{ForestsLeaveNoCycle, ProtocolsLeaveNoCycle, rules}
use Rattle.sdd_acyclic.proofs.Barriers.{orderly_with_barriers}
use Rattle.sdd_acyclic.proofs.Orderly.{orderly, orderly_without_cycles}
use Rattle.sdd_acyclic.specs.Theorems.{system}

pub protocols_leave_no_cycle : ProtocolsLeaveNoCycle
protocols_leave_no_cycle t graph blocks are facts covers waits barriers = search (rules, orderly_with_barriers, orderly)

pub forests_leave_no_cycle : ForestsLeaveNoCycle
forests_leave_no_cycle t graph none facts covers = orderly_without_cycles (system t) graph facts covers none
