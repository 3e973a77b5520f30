-- The names of this crate and of those below it that the crates above cite, passed on from one place. Declares nothing.
pub use Rattle.sdd_attempt.specs.Lines.{AreTried, IsAwaited, ServesAt, clock_done, commit_next, head_is_untried, line_after, line_done, line_step, no_line, send_next, start_next}
pub use Rattle.sdd_attempt.specs.Sound.{AllUpTo, AreStamped, FitsAnswer, IsLineOf, IsOfHead, IsServed, IsWaiting}
