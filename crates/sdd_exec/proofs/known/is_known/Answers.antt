use Rattle.sdd_exec.proofs.All.{inl, sym, ◌∙◌}
use Rattle.sdd_exec.proofs.known.is_known.Goals as goal

pub returns-then-is_seen : goal.returns-then-is_seen
returns-then-is_seen c = λ known. inl (rw (c.in_ok-marks.ensures, c.as_slice.ensures.value) at (sym c.is_seen.ensures ∙ c.if-is_seen.true))
