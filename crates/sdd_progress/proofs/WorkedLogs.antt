-- Worked logs that meet what the laws ask. Two classes, each of which reads what the other writes: a query waits until the
-- other class has passed its time, and is answered then; or it comes after a later put, and is rejected.
use Rattle.sdd_progress.proofs.AllWaits.{Act, AreConditionsOf, AreSubmittedOnce, Catalogue, Cond, Const, D, Deliver, Diagonal, Does, Era, Event, Input, Int, IsAnsweredIn, IsLawful, IsRejectOf, IsSoundCatalogue, IsStuck, Le, List, Log, None, P1, P3, Put, Query, Read, Records, Reject, Rejected, Setting, Some, Submit, T, Txn, Use, Vertical, WaitsSince, [], arith, class_no, d_fair, dm_no, extended, frag_no, lawful_permitted, lit<, lit≤, local_of, negsuc, next, one_at_most, passed, pipe_at, pos, refl, rel_no, same_or_not, setting_of, suc, take, time_at, tm_no, true, txn_no, zero, ℕ, ◌++◌, ◌==◌, ◌∷◌, ◌≡◌, ◌≢◌}
use Rattle.sdd_obligations.specs.catalog.Rules.{faults_of}
use Rattle.sdd_progress.proofs.FromTable.{conditions_of}
use Rattle.sdd_progress.proofs.OfLawful.{answered}
use Rattle.sdd_progress.proofs.Passing.{passed_later}
use Rattle.sdd_progress.proofs.Rejected.{rejected}
use Rattle.sdd_progress.proofs.StuckHeads.{head_stuck}
use Rattle.sdd_progress.proofs.Waited.{since}
use Rattle.sdd_obligations.specs.catalog.declared.parts.Kind.TheVariants as kinds
use Rattle.sdd_obligations.specs.site_module.SiteLog as site

-- what is given

abbrev crossing : Catalogue
crossing = record {
  tms = 2;
  dms = 1;
  relations =
      (record { name = 105 ∷ []; columns = (record { name = 107 ∷ []; kind = kinds.Int }) ∷ (record { name = 118 ∷ []; kind = kinds.Int }) ∷ []; key = 1 })
      ∷ [];
  fragments =
      (record { name = 97 ∷ []; rel = rel_no 1; least = negsuc 9223372036854775807; greatest = pos 9; copies = dm_no 1 ∷ [] })
      ∷ (record { name = 98 ∷ []; rel = rel_no 1; least = pos 10; greatest = pos 9223372036854775807; copies = dm_no 1 ∷ [] }) ∷ [];
  classes =
      (record { name = 112 ∷ []; tm = tm_no 1; reads = (record { fragment = frag_no 1; at = dm_no 1 }) ∷ []; writes = frag_no 2 ∷ [] })
      ∷ (record { name = 113 ∷ []; tm = tm_no 2; reads = (record { fragment = frag_no 2; at = dm_no 1 }) ∷ []; writes = frag_no 1 ∷ [] }) ∷ [];
}

abbrev current_era : Era
current_era = record {
  catalogue = crossing;
  table =
      (record { edge = Vertical (class_no 1); block = 1; protocol = P1 })
      ∷ (record { edge = Vertical (class_no 2); block = 1; protocol = P1 })
      ∷ (record { edge = Diagonal (class_no 1) (class_no 2) (frag_no 1); block = 1; protocol = P3 })
      ∷ (record { edge = Diagonal (class_no 2) (class_no 1) (frag_no 2); block = 1; protocol = P3 }) ∷ [];
}

abbrev query : Txn
query =
    record { name = []; tm = tm_no 1; statements = Query ((record { part = 1; column = 2 }) ∷ []) (rel_no 1 ∷ []) (Const (record { part = 1; column = 1 }) Le (Int (pos 9)) ∷ []) ∷ [] }

abbrev put : Txn
put = record { name = []; tm = tm_no 2; statements = Put (rel_no 1) (Int (pos 1) ∷ Int (pos 1) ∷ []) ∷ [] }

abbrev given_by : List Event → Input
given_by events = record { catalogue = crossing; eras = current_era ∷ []; rows = [] ∷ []; txns = query ∷ put ∷ []; events = events }

sound : IsSoundCatalogue crossing
unfolding faults_of
sound = record { valid = refl; same = refl }

-- a log that the definitions make is lawful
pub made_lawful : (n : ℕ) (g : Input) (log : Log) → IsLawful g log → IsLawful g (extended n g log)
made_lawful zero g log h = h
made_lawful (suc n) g log h =
    elim (next g log) as (λ o. next g log ≡ o → IsLawful g (elim o as (λ _. Log) [ None ↦ log | Some e ↦ extended n g (e ∷ log) ])) [
      | None ↦ λ p. h
      | Some e ↦ λ p. made_lawful n g (e ∷ log) (p, h)
    ] refl

-- the READ of the query

abbrev of_query : List Use
of_query = (record { number = 1; rel = rel_no 1; frags = frag_no 1 ∷ []; restrictions = (record { column = 1; op = Le; value = Int (pos 9) }) ∷ [] }) ∷ []

abbrev up_to_65 : List Cond
up_to_65 = (record { class = class_no 2; time = time_at 65; frags = frag_no 1 ∷ [] }) ∷ []

-- it waits; the ASK is delivered, and the NULL after an acknowledgement

abbrev waiting : Input
waiting =
    given_by (Submit (txn_no 1) ∷ Deliver (T (tm_no 1)) (D (dm_no 1)) 1 ∷ Deliver (D (dm_no 1)) (T (tm_no 2)) 1 ∷ Deliver (T (tm_no 2)) (D (dm_no 1)) 2 ∷ [])

abbrev null_handed : Log
null_handed = extended 12 waiting []

-- the Answer, and the Pass of the NULL
abbrev two_more : Log
two_more = take 2 (extended 14 waiting [])

waiting_once : AreSubmittedOnce waiting.events
waiting_once n = let h = one_at_most (1 == n) in omega arith

pub worked_answer : IsAnsweredIn (dm_no 1) 1 (txn_no 1) 1 two_more
worked_answer =
    answered waiting (dm_no 1) 1 two_more null_handed (time_at 65) (class_no 1) (txn_no 1) 1 up_to_65 of_query (record { sound = sound; once = waiting_once; lawful = made_lawful 14 waiting [] tt; over = refl }) (lit≤ tt) (lit≤ tt) (lit≤ tt) refl refl refl

pub one_not_zero : ◌≢◌ {A = ℕ} 1 0
one_not_zero e = cc

pub worked_conditions : AreConditionsOf waiting null_handed 1 65 up_to_65
worked_conditions =
    conditions_of waiting null_handed 1 (dm_no 1) 0 (time_at 65) (class_no 1) (txn_no 1) 1 up_to_65 of_query
    (lawful_permitted waiting null_handed waiting_once (made_lawful 12 waiting [] tt)) one_not_zero refl

-- while it waits nothing is due, and since then nothing of its pipe was processed; what the other class has passed it has
-- passed at the end

abbrev at_d : Log → site.Log
at_d log = local_of waiting (D (dm_no 1)) log

abbrev as_d : Setting
as_d = setting_of waiting (D (dm_no 1))

pub worked_head : IsStuck as_d (at_d (extended 7 waiting [])) 1 (Some (Read (time_at 65) (class_no 1) (txn_no 1) 1 up_to_65 of_query))
worked_head = head_stuck as_d (at_d (extended 7 waiting [])) 1 (lit< tt) refl

pub worked_wait : WaitsSince as_d 1 (at_d null_handed)
worked_wait = since as_d 1 (at_d null_handed) (d_fair waiting (dm_no 1) null_handed (lawful_permitted waiting (extended 12 waiting []) waiting_once (made_lawful 12 waiting [] tt))) refl

pub worked_passed : passed (pipe_at waiting 2 (dm_no 1) (two_more ++ null_handed)) 65 ≡ true
worked_passed = passed_later waiting 2 (dm_no 1) 65 two_more null_handed (lawful_permitted waiting (extended 14 waiting []) waiting_once (made_lawful 14 waiting [] tt)) (lit≤ tt) refl

-- it comes after the later put

abbrev rejecting : Input
rejecting = given_by (Submit (txn_no 1) ∷ Submit (txn_no 2) ∷ Deliver (T (tm_no 2)) (D (dm_no 1)) 1 ∷ Deliver (T (tm_no 1)) (D (dm_no 1)) 1 ∷ [])

abbrev put_applied : Log
put_applied = extended 13 rejecting []

rejecting_once : AreSubmittedOnce rejecting.events
rejecting_once n = grind (arith, same_or_not, one_at_most)

abbrev reject_act : Act
reject_act =
    Records 1 (Rejected (txn_no 1) 1 (dm_no 1) (class_no 2) (time_at 66)) ((T (tm_no 1), Reject (time_at 65) (class_no 1) (class_no 2) (time_at 66)) ∷ [])

pub worked_reject : IsRejectOf rejecting put_applied (dm_no 1) 1 (txn_no 1) 1 (class_no 2) (time_at 66)
worked_reject =
    rejected rejecting put_applied (dm_no 1) 1 (txn_no 1) 1 (dm_no 1) (class_no 2) (time_at 66)
    ((T (tm_no 1), Reject (time_at 65) (class_no 1) (class_no 2) (time_at 66)) ∷ [])
    (lawful_permitted rejecting (Does (D (dm_no 1)) reject_act ∷ put_applied) rejecting_once (made_lawful 14 rejecting [] tt))
