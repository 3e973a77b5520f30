-- How many attempts of a class are rejected, all of its transactions together.
use Rattle.std.specs.Prelude.{ℕ, ◌≤◌, ◌==◌, ◌&&◌, ◌≡◌, Bool, false, not, [], ◌∷◌, length, filter, None, refl}
use Rattle.sdd_progress.specs.obligations.All.{Commit, History, Rec, Reject, Start, class_no, dm_no, time_at, txn_no}
use Rattle.sdd_progress.specs.obligations.base.declared.reply.Reply.TheVariants.{Overflow}
use Rattle.sdd_progress.specs.obligations.links.Attempts.{committed}
use Rattle.sdd_progress.specs.Few.{is_rejected}

-- the Starts of the class whose attempts some module rejects: one each, however many modules reject the attempt

abbrev pub is_rejected_of_class : History → ℕ → Rec → Bool
is_rejected_of_class h c (Start txn attempt class ts p2 uses) = (class.0 == c) && is_rejected h txn.0 attempt
is_rejected_of_class h c _ = false

abbrev pub rejected_of_class : History → ℕ → ℕ
rejected_of_class h c = length (filter (λ e. is_rejected_of_class h c e.1) h)

-- the committed transactions of all other classes
abbrev pub committed_elsewhere : History → ℕ → ℕ
committed_elsewhere h c = length (filter (λ t. not (t.start.class == c)) (committed h))

abbrev pub AreFewRejectedOfClasses : History → Type 0
AreFewRejectedOfClasses h = (c : ℕ) → rejected_of_class h c ≤ committed_elsewhere h c

-- worked: two transactions of class 1 are rejected once each, by two of class 2; one of them is committed in the end
abbrev two_rejected : History
two_rejected =
    (1, Start (txn_no 1) 1 (class_no 1) (time_at 65) None [])
    ∷ (2, Start (txn_no 2) 1 (class_no 2) (time_at 66) None [])
    ∷ (3, Commit (txn_no 2) 1 Overflow [] 0 0)
    ∷ (4, Reject (txn_no 1) 1 (dm_no 1) (class_no 2) (time_at 66))
    ∷ (5, Start (txn_no 1) 2 (class_no 1) (time_at 129) None [])
    ∷ (6, Commit (txn_no 1) 2 Overflow [] 0 0)
    ∷ (7, Start (txn_no 3) 1 (class_no 1) (time_at 193) None [])
    ∷ (8, Start (txn_no 4) 1 (class_no 2) (time_at 194) None [])
    ∷ (9, Commit (txn_no 4) 1 Overflow [] 0 0)
    ∷ (10, Reject (txn_no 3) 1 (dm_no 1) (class_no 2) (time_at 194))
    ∷ []

pub worked_rejected : (rejected_of_class two_rejected 1 ≡ 2) × (rejected_of_class two_rejected 2 ≡ 0)
worked_rejected = (refl, refl)

pub worked_elsewhere : (committed_elsewhere two_rejected 1 ≡ 2) × (committed_elsewhere two_rejected 2 ≡ 1)
worked_elsewhere = (refl, refl)
