use Rattle.sdd_exec.proofs.known.remember_dead.Goals as goal

pub returns-clause-dead : goal.returns-clause-dead
returns-clause-dead c = rw (c.in_ok-links.ensures, c.as_slice.ensures.value) at c.add_seen.ensures
