-- The law of eras (H7): what one era submits is done before the next begins.
use Rattle.std.specs.Prelude.{ℕ, ◌<◌, ◌≡◌}
use Rattle.sdd_lang.specs.All.{Catalogue}
use Rattle.sdd_history.specs.Records.{History}
use Rattle.sdd_links.specs.Attempts.{Attempt, Committed, IsAttempt, IsCommitted}
use Rattle.sdd_links.specs.Places.{event_at}
use Rattle.sdd_laws.specs.Deeds.{IsSubmitted, AppliedBefore, GoesTo}
use Rattle.sdd_laws.specs.Eras.{Eras, eras_begun}

-- two committed transactions, of which the second is submitted in a later era
pub record IsOfEarlierEra (eras : Eras) (h : History) (x y : Committed) : Type 0 where
  pub first : IsCommitted h x
  pub second : IsCommitted h y
  pub first_place : ℕ
  pub second_place : ℕ
  pub first_submitted : IsSubmitted h x.start.txn first_place
  pub second_submitted : IsSubmitted h y.start.txn second_place
  pub earlier : eras_begun eras (event_at h first_place) < eras_begun eras (event_at h second_place)

pub record KeepsEras (cat : Catalogue) (eras : Eras) (h : History) : Type 0 where
  -- the first has the smaller timestamp, and is committed and applied wherever it is to be before the second starts
  pub times_rise : (x y : Committed) → IsOfEarlierEra eras h x y → x.start.ts < y.start.ts
  pub committed : (x y : Committed) (a : Attempt) → IsOfEarlierEra eras h x y → IsAttempt h a → a.txn ≡ y.start.txn → x.place < a.place
  pub applied : (x y : Committed) (a : Attempt) (d : ℕ) → IsOfEarlierEra eras h x y → IsAttempt h a → a.txn ≡ y.start.txn
      → GoesTo cat x d → AppliedBefore h x.start.txn d a.place
  -- no era begins between the Submit of a transaction and one of its Starts
  pub one_era : (a : Attempt) (k : ℕ) → IsAttempt h a → IsSubmitted h a.txn k → eras_begun eras (event_at h k) ≡ eras_begun eras (event_at h a.place)
