use Rattle.sdd_control.proofs.All.{FitAll, length, note_lines, run_after, true, ◌++◌, ◌+◌, ◌≡◌}
use Rattle.sdd_control.proofs.report.put_events.Given as goal

-- what was written, with the lines of the events that are left, is the whole
abbrev pub invariant-events : goal.invariant-events
invariant-events l = record {
  live : l.control.live ≡ true;
  number : l.number + length l.rest ≡ 1 + length l.acts;
  fit : FitAll l.control.value.backups l.rest;
  text : l.out.items ++ note_lines l.number l.control.value l.rest ≡ l.fn.out.items ++ note_lines 1 l.fn.control.value l.acts;
  run : run_after l.control.value l.rest ≡ run_after l.fn.control.value l.acts;
}

abbrev pub decreases-events : goal.decreases-events
decreases-events l = length l.rest
