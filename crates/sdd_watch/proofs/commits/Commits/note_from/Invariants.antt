use Rattle.sdd_watch.proofs.All.{AreCommits, take}
use Rattle.sdd_watch.proofs.commits.Commits.note_from.Given as goal

-- the records so far are noted
abbrev pub invariant-loop-place : goal.invariant-loop-place
invariant-loop-place l = AreCommits (take l.from l.records) l.fn.self → AreCommits (take l.place l.records) l.self
