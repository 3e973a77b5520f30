use Rattle.sdd_exec.proofs.known.remember.Goals as goal

pub returns-clause-seen : goal.returns-clause-seen
returns-clause-seen c = rw (c.in_ok-marks.ensures, c.as_slice.ensures.value) at c.add_seen.ensures
