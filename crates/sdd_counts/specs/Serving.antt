-- What U knows of the transaction that it served last: the number of Commits, the timestamp of the last, and its DONEs.
use Rattle.std.specs.Prelude.{ℕ, suc, ◌+◌, ◌==◌, Bool, if◌then◌else◌}
use Rattle.sdd_rules.specs.umod.Views.{Served}
use Rattle.sdd_rules.specs.umod.State.{as_counted}

-- before the first Commit
abbrev pub nothing_served : Served
nothing_served = record { commits = 0; ts = 0; dones = 0 }

-- one Commit more, of an attempt with this timestamp
abbrev pub committed : ℕ → Served → Served
committed ts served = record { commits = suc served.commits; ts = ts; dones = 0 }

-- one DONE more for the attempt with this timestamp
abbrev pub done_after_message : ℕ → Served → Served
done_after_message ts served = if ts == served.ts then record served { dones = as_counted (served.dones + 1) } else served

-- every data module, of so many, has applied the WRITE of the last Commit
abbrev pub is_applied : ℕ → Served → Bool
is_applied dms served = served.dones == dms
