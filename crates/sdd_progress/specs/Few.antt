-- How many attempts of a transaction are rejected.
use Rattle.std.specs.Prelude.{ℕ, ◌≤◌, ◌==◌, ◌&&◌, ◌≡◌, Bool, false, [], ◌∷◌, length, filter, None, refl}
use Rattle.std.specs.List.{list_any}
use Rattle.sdd_obligations.specs.base.Numbers.{class_no, dm_no, time_at, txn_no}
use Rattle.sdd_obligations.specs.history.Records.{History}
use Rattle.sdd_obligations.specs.history.declared.record.Rec.{Rec}
use Rattle.sdd_obligations.specs.history.declared.record.Rec.TheVariants.{Reject, Start}
use Rattle.sdd_obligations.specs.laws.Few.{commits_of_others}

-- whether some module rejects the attempt of transaction n

abbrev pub is_reject_of : ℕ → ℕ → Rec → Bool
is_reject_of n number (Reject txn attempt dm class ts) = (txn.0 == n) && (attempt == number)
is_reject_of n number _ = false

abbrev pub is_rejected : History → ℕ → ℕ → Bool
is_rejected h n number = list_any (λ e. is_reject_of n number e.1) h

-- the Starts of its attempts that are rejected: one each, however many modules reject the attempt

abbrev pub is_rejected_start : History → ℕ → Rec → Bool
is_rejected_start h n (Start txn attempt class ts p2 uses) = (txn.0 == n) && is_rejected h n attempt
is_rejected_start h n _ = false

abbrev pub rejected_of : History → ℕ → ℕ
rejected_of h n = length (filter (λ e. is_rejected_start h n e.1) h)

abbrev pub AreFewRejected : History → Type 0
AreFewRejected h = (n : ℕ) → rejected_of h n ≤ commits_of_others h n

-- worked: two modules reject the first attempt of transaction 7, and none rejects its second
abbrev twice : History
twice =
    (1, Start (txn_no 7) 1 (class_no 1) (time_at 65) None [])
    ∷ (2, Reject (txn_no 7) 1 (dm_no 1) (class_no 2) (time_at 66))
    ∷ (3, Reject (txn_no 7) 1 (dm_no 2) (class_no 2) (time_at 66))
    ∷ (4, Start (txn_no 7) 2 (class_no 1) (time_at 129) None [])
    ∷ []

pub one_rejected : rejected_of twice 7 ≡ 1
one_rejected = refl
