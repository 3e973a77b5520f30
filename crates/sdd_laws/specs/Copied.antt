-- When two modules have applied the same of what changes a fragment.
use Rattle.std.specs.Prelude.{ℕ, ◌≡◌, ◌↔◌, true}
use Rattle.sdd_history.specs.Records.{History}
use Rattle.sdd_links.specs.Attempts.{Committed, IsCommitted, changes}
use Rattle.sdd_laws.specs.Deeds.{AppliedBefore}

-- of the committed transactions that change fragment f those applied at module a before place j are those applied at
-- module b before place k
abbrev pub AreAppliedAlike : History → ℕ → ℕ → ℕ → ℕ → ℕ → Type 0
AreAppliedAlike h f a j b k =
    (t : Committed) → IsCommitted h t → changes t f ≡ true → AppliedBefore h t.start.txn a j ↔ AppliedBefore h t.start.txn b k
