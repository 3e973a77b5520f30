use Rattle.sdd_watch.proofs.All.{contains, list_any, pair_cmp, says, take, ℕ, ◌||◌, ◌≡◌}
use Rattle.sdd_watch.proofs.dones.Dones.note.Given as goal

-- what was said before, and on the links so far
abbrev pub invariant-links : goal.invariant-links
invariant-links l = (t d : ℕ)
    → contains pair_cmp l.self.said (t, d) ≡ (list_any (says t d) (take l.one-index l.arrived) || contains pair_cmp l.fn.self.said (t, d))
