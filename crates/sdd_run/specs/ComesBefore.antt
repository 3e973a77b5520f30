-- Where transactions stand in an order, and which of two was submitted first.
use Rattle.std.specs.Prelude.{ℕ, ◌==◌, ◌<◌, ◌≡◌, List, [], ◌∷◌, ◌++◌, Contains, count_by, map, refl}
use Rattle.std.proofs.Common.{lit<}
use Rattle.sdd_progress.specs.obligations.base.Numbers.{class_no, txn_no}
use Rattle.sdd_progress.specs.obligations.base.declared.number.TxnNo.{TxnNo}
use Rattle.sdd_progress.specs.obligations.history.Records.{History}
use Rattle.sdd_progress.specs.obligations.laws.Deeds.{IsSubmitted}
use Rattle.sdd_progress.specs.obligations.links.Attempts.{Committed}
use Rattle.sdd_report.specs.declared.pending.Pending.{Pending}
use Rattle.sdd_report.specs.declared.pending.Why.TheVariants.{Queued}

-- how often a transaction stands in an order
abbrev pub times_in : ℕ → List TxnNo → ℕ
times_in n order = count_by (λ (m : TxnNo). m.0 == n) order

-- how often a transaction is listed as pending
abbrev pub times_pending : ℕ → List Pending → ℕ
times_pending n left = times_in n (map (λ (p : Pending). p.txn) left)

-- of two transactions the first stands in the order before the second
pub record ComesBefore (order : List TxnNo) (n m : ℕ) : Type 0 where
  pub front : List TxnNo
  pub rest : List TxnNo
  pub is : order ≡ front ++ txn_no n ∷ rest
  pub behind : Contains rest (txn_no m)

-- of two committed transactions the first was submitted before the second
pub record IsSubmittedBefore (h : History) (x y : Committed) : Type 0 where
  pub first_place : ℕ
  pub second_place : ℕ
  pub first : IsSubmitted h x.start.txn first_place
  pub second : IsSubmitted h y.start.txn second_place
  pub before : first_place < second_place

-- worked: the second stands before the first, and none stands there twice
pub turned : ComesBefore (txn_no 2 ∷ txn_no 3 ∷ txn_no 1 ∷ []) 2 1
turned = record { front = []; rest = txn_no 3 ∷ txn_no 1 ∷ []; is = refl; behind = (1, lit< tt, refl) }

pub once_there : times_in 3 (txn_no 2 ∷ txn_no 3 ∷ txn_no 1 ∷ []) ≡ 1
once_there = refl

-- worked: the second is listed once, and the first not
pub listed_once : times_pending 2 (record { txn = txn_no 2; why = Queued (class_no 1) 1 } ∷ []) ≡ 1
listed_once = refl

pub not_listed : times_pending 1 (record { txn = txn_no 2; why = Queued (class_no 1) 1 } ∷ []) ≡ 0
not_listed = refl
