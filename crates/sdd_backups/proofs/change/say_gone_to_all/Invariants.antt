use Rattle.sdd_backups.proofs.All.{gone_below, length, messages_at, ℕ, ◌++◌, ◌≡◌, ◌≤◌}
use Rattle.sdd_backups.proofs.change.say_gone_to_all.Given as goal

abbrev pub invariant-others : goal.invariant-others
invariant-others l =
    (length l.links ≡ 81)
    × ((i j : ℕ) → j ≤ l.backups
    → messages_at l.links i j ≡ messages_at l.initial.links i j ++ gone_below l.other l.site i j)
