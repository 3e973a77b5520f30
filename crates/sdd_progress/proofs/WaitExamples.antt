-- What the laws say of the worked logs of specs/Examples: an undeclared query beside a put, and a query that is rejected in
-- the event in which it comes.
use Rattle.sdd_progress.proofs.AllWaits.{AreSubmittedOnce, D, Does, IsAnsweredIn, IsApplied, IsLow, IsPermitted, IsRejectedAfter, IsRejectedIn, IsSoundCatalogue, List, Msg, Read, Ready, Records, Reject, Rejected, Site, Some, T, U, Write, [], arith, base_of, changes_of_put, class_no, conds_of_query, conds_of_spoilt, dm_no, extended, given_put_first, given_put_later, given_spoilt, head, holds_back, in_its_event, inl, inr, lawful_permitted, lit<, lit≤, low_applied, low_or_high, one_at_most, one_if, one_writer, pipe_at, put_attempt, put_commits, put_first, put_handed, query_queued, read_handed, refl, same_or_not, take, three_classes, time_at, tm_no, true, txn_no, u_stamp, uses_of_query, uses_of_spoilt, ℕ, ◌+◌, ◌<◌, ◌==◌, ◌∷◌, ◌≡◌, ◌≤◌, ◌⊎◌}
use Rattle.sdd_obligations.specs.catalog.Rules.{faults_of}
use Rattle.sdd_progress.proofs.OfLawful.{answered_or_rejected}
use Rattle.sdd_progress.proofs.UndeclaredReads.{holds_none, not_rejected}
use Rattle.sdd_progress.proofs.WorkedLogs.{made_lawful, one_not_zero}

pub writer_is_sound : IsSoundCatalogue one_writer
unfolding faults_of
writer_is_sound = record { valid = refl; same = refl }

three_are_sound : IsSoundCatalogue three_classes
unfolding faults_of
three_are_sound = record { valid = refl; same = refl }

-- each transaction is submitted once

two_once : (n : ℕ) → one_if (1 == n) + (one_if (2 == n) + 0) ≤ 1
two_once n = grind (arith, same_or_not, one_at_most)

three_once : (n : ℕ) → one_if (1 == n) + (one_if (2 == n) + (one_if (3 == n) + 0)) ≤ 1
three_once n = grind (arith, same_or_not, one_at_most)

put_first_once : AreSubmittedOnce given_put_first.events
put_first_once n = let h = two_once n in omega arith

put_later_once : AreSubmittedOnce given_put_later.events
put_later_once n = let h = two_once n in omega arith

spoilt_once : AreSubmittedOnce given_spoilt.events
spoilt_once n = let h = three_once n in omega arith

pub later_permitted : IsPermitted given_put_later put_handed
later_permitted = lawful_permitted given_put_later put_handed put_later_once (made_lawful 19 given_put_later [] tt)

-- the put is committed before the query starts

not_above : (ts : ℕ) → ts ≡ 128 → ts < 65 → ⊥
not_above ts e l = omega (arith, e, l)

pub put_is_low : IsLow given_put_first 1 1 (put_first 27) (put_first 12) put_attempt put_commits (u_stamp given_put_first (put_first 12))
put_is_low =
    elim (low_or_high given_put_first 0 1 1 0 (put_first 27) (take 14 (put_first 27)) (put_first 12) query_queued put_attempt put_commits refl refl
    (lit≤ tt) (lawful_permitted given_put_first (put_first 27) put_first_once (made_lawful 27 given_put_first [] tt)) refl) [
      | inl low ↦ low
      | inr high ↦ absurd (not_above (u_stamp given_put_first (put_first 12)) (refl) high.above)
    ]

-- it is applied where the query is answered

pub put_is_seen : IsApplied given_put_first (put_first 25) (dm_no 1) 1 put_attempt
put_is_seen =
    (low_applied given_put_first (dm_no 1) 1 0 (take 1 (put_first 27)) (put_first 25) (take 23 (put_first 27)) (put_first 3) (class_no 0)
    (txn_no 2) (txn_no 2) 1 1 (dm_no 1) ((U, Ready (time_at 128) (class_no 0) ((1, 1) ∷ [])) ∷ []) (time_at 128) conds_of_query uses_of_query
    (base_of given_put_first (put_first 3)) put_attempt
    (lawful_permitted given_put_first (put_first 27) put_first_once (made_lawful 27 given_put_first [] tt))
    (lit≤ tt) (lit≤ tt) (lit≤ tt) one_not_zero refl refl refl refl).1 (lit< tt)

pub query_not_rejected : (sends : List (Site × Msg))
    → IsPermitted given_put_first (Does (D (dm_no 1)) (Records 0 (Rejected (txn_no 2) 1 (dm_no 1) (class_no 1) (time_at 65)) sends) ∷ put_first 25) → ⊥
query_not_rejected sends = grind (arith, not_rejected, writer_is_sound)

-- the put comes while the query waits

pub query_is_next : head (pipe_at given_put_later 0 (dm_no 1) put_handed) ≡ Some (Read (time_at 128) (class_no 0) (txn_no 2) 1 conds_of_query uses_of_query)
query_is_next = refl

pub put_is_next : head (pipe_at given_put_later 1 (dm_no 1) put_handed) ≡ Some (Write (time_at 65) (class_no 1) (txn_no 1) changes_of_put)
put_is_next = refl

pub put_not_held : holds_back 1 65 changes_of_put (Some (Read (time_at 128) (class_no 0) (txn_no 2) 1 conds_of_query uses_of_query)) ≡ true → ⊥
put_not_held = grind (arith, holds_none, later_permitted, writer_is_sound, query_is_next, put_is_next)

-- the query is rejected in the event in which it comes

pub query_is_judged : IsAnsweredIn (dm_no 1) 3 (txn_no 3) 1 in_its_event
    ⊎ IsRejectedAfter given_spoilt read_handed (dm_no 1) 3 (txn_no 3) 1 conds_of_spoilt in_its_event
query_is_judged =
    answered_or_rejected given_spoilt (dm_no 1) 3 in_its_event read_handed (time_at 67) (class_no 3) (txn_no 3) 1 conds_of_spoilt uses_of_spoilt
    (record { sound = three_are_sound; once = spoilt_once; lawful = made_lawful 23 given_spoilt [] tt; over = refl }) (lit≤ tt) (lit≤ tt) (lit≤ tt) refl refl refl refl

pub query_is_rejected : IsRejectedIn (dm_no 1) 3 (txn_no 3) 1 in_its_event
query_is_rejected = record {
  later = [];
  before = take 3 (extended 22 given_spoilt []);
  dm = dm_no 1;
  by = class_no 2;
  write = time_at 386;
  sends = (T (tm_no 3), Reject (time_at 67) (class_no 3) (class_no 2) (time_at 386)) ∷ [];
  is = refl;
}
