-- Every transaction that is submitted is committed.
use Rattle.std.specs.Prelude.{ℕ}
use Rattle.sdd_obligations.specs.history.Records.{History}
use Rattle.sdd_obligations.specs.history.declared.record.Rec.{Rec}
use Rattle.sdd_obligations.specs.history.declared.record.Rec.TheVariants.{Submit}
use Rattle.sdd_obligations.specs.laws.Deeds.{IsSubmitted}
use Rattle.sdd_obligations.specs.links.Attempts.{HasCommit}

-- the history has a Commit of transaction n
pub record WasCommitted (h : History) (n : ℕ) : Type 0 where
  pub place : ℕ
  pub number : ℕ
  pub commit : HasCommit h n number place

-- and one of each that it submits
abbrev pub AllCommitted : History → Type 0
AllCommitted h = (n k : ℕ) → IsSubmitted h n k → WasCommitted h n

-- an entry that submits nothing, or what is committed
abbrev pub IsNotLeft : History → ℕ × Rec → Type 0
IsNotLeft h (event, Submit n) = WasCommitted h n.0
IsNotLeft h _ = Unit {0}
