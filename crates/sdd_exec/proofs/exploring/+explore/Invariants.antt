use Rattle.sdd_exec.proofs.All.{IsExploredBy, IsKept, NoneComesBy, StillHas, false, take, ◌≡◌}
use Rattle.sdd_exec.proofs.exploring.+explore.Given as goal

abbrev pub decreases-explore : goal.decreases-explore
decreases-explore l = l.left

abbrev pub invariant-loop-row : goal.invariant-loop-row
invariant-loop-row l =
    record {
      kept : IsKept l.parts l.conds l.out l.nodes l.state;
      still : StillHas l.fn.state.found l.state.found;
      done : IsExploredBy l.parts l.conds l.out l.node.taken.items l.choice l.next.part (take l.row-index l.places) l.state.found;
      none : l.came ≡ false → NoneComesBy l.parts l.conds l.node.taken.items l.choice l.next.part (take l.row-index l.places);
    }
