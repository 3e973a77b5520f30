use Rattle.sdd_moments.proofs.All.{behind, length, up_to, ◌++◌, ◌≡◌}
use Rattle.sdd_moments.proofs.waiting.Waiting.take_up_to.Given as goal

-- what is taken and what is left to take is all of it
abbrev pub invariant-taking : goal.invariant-taking
invariant-taking l =
    (l.taken.items ++ up_to l.upto l.self ≡ up_to l.upto l.fn.self) × (behind l.upto l.self ≡ behind l.upto l.fn.self)

abbrev pub decreases-taking : goal.decreases-taking
decreases-taking l = length l.self
