-- Worked histories of small workloads. Of the relation item (id, val) one fragment has the keys to 9,
-- and another those from 10.
use Rattle.std.specs.Prelude.{ℕ, pos, negsuc, List, [], ◌∷◌, map, Some}
use Rattle.sdd_lang.specs.All.{Catalogue, Change, Class, Fragment, Ge, Int, Le, Op, Read, Reply, Restriction, Rows, Use, Value, class_no, dm_no, frag_no, rel_no, time_at, tm_no, txn_no}
use Rattle.sdd_lang.specs.catalog.declared.parts.Kind.TheVariants as kinds
use Rattle.sdd_history.specs.declared.record.Rec.{Rec}
use Rattle.sdd_history.specs.declared.record.Rec.TheVariants.{Submit, Start, Arrive, Wait, Answer, Reject, Commit, Apply, Pass}
use Rattle.sdd_history.specs.Records.{History}

-- the low keys are at module 1, the high ones at this module
abbrev fragments : ℕ → List Fragment
fragments high =
    record { name = []; rel = rel_no 1; least = negsuc 9223372036854775807; greatest = pos 9; copies = dm_no 1 ∷ [] }
    ∷ record { name = []; rel = rel_no 1; least = pos 10; greatest = pos 9223372036854775807; copies = dm_no high ∷ [] }
    ∷ []

abbrev pub with_classes : ℕ → List Class → Catalogue
with_classes high classes =
    record {
      tms = 2;
      dms = high;
      relations =
          record {
            name = [];
            columns = record { name = []; kind = kinds.Int } ∷ record { name = []; kind = kinds.Int } ∷ [];
            key = 1;
          }
          ∷ [];
      fragments = fragments high;
      classes = classes;
    }

abbrev read_from : ℕ × ℕ → Read
read_from r = record { fragment = frag_no r.0; at = dm_no r.1 }

-- a class of module t that reads these fragments at these modules, and writes those
abbrev class_of : ℕ → List (ℕ × ℕ) → List ℕ → Class
class_of t reads writes =
    record { name = []; tm = tm_no t; reads = map read_from reads; writes = map frag_no writes }

abbrev pub row_of : ℕ → ℕ → List Value
row_of id value = Int (pos id) ∷ Int (pos value) ∷ []

abbrev pub put : ℕ → ℕ → ℕ → Change
put f id value = record { frag = frag_no f; key = pos id; row = Some (row_of id value) }

abbrev pub by_key : Op → ℕ → List Restriction
by_key op n = record { column = 1; op = op; value = Int (pos n) } ∷ []

abbrev pub use_of : List ℕ → List Restriction → List Use
use_of frags restrictions =
    record { number = 1; rel = rel_no 1; frags = map frag_no frags; restrictions = restrictions } ∷ []

-- what the transactions read: the low keys, the high keys, or both
abbrev pub low_keys : List Use
low_keys = use_of (1 ∷ []) (by_key Le 9)

abbrev pub high_keys : List Use
high_keys = use_of (2 ∷ []) (by_key Ge 10)

abbrev pub all_keys : List Use
all_keys = use_of (1 ∷ 2 ∷ []) []

abbrev submit : ℕ → Rec
submit n = Submit (txn_no n)

abbrev start : ℕ → ℕ → ℕ → ℕ → ℕ → List Use → Rec
start n attempt class ts p2 uses = Start (txn_no n) attempt (class_no class) (time_at ts) (Some (time_at p2)) uses

abbrev arrive : ℕ → ℕ → ℕ → Rec
arrive n attempt d = Arrive (txn_no n) attempt (dm_no d)

abbrev wait : ℕ → ℕ → ℕ → ℕ → ℕ → ℕ → Rec
wait n attempt d class time f =
    Wait (txn_no n) attempt (dm_no d)
    (record { class = class_no class; time = time_at time; frags = frag_no f ∷ [] } ∷ [])

abbrev answer : ℕ → ℕ → ℕ → Rec
answer n attempt d = Answer (txn_no n) attempt (dm_no d)

abbrev commit : ℕ → ℕ → List (List (List Value)) → List Change → ℕ → Rec
commit n attempt answers changes rows = Commit (txn_no n) attempt (Rows answers) changes 0 rows

abbrev apply : ℕ → ℕ → ℕ → ℕ → Rec
apply n class d ts = Apply (txn_no n) (class_no class) (dm_no d) (time_at ts)

-- A put and a query of one class each: the query is answered before the put comes to its module. It stands first, though
-- its timestamp is the greater.

abbrev pub bridge : Catalogue
bridge = with_classes 1 (class_of 1 [] (1 ∷ []) ∷ class_of 2 ((1, 1) ∷ []) [] ∷ [])

abbrev pub reads_before : History
reads_before =
    (1, submit 1)
    ∷ (1, start 1 1 1 65 63 [])
    ∷ (1, commit 1 1 [] (put 1 1 7 ∷ []) 0)
    ∷ (3, submit 2)
    ∷ (3, start 2 1 2 386 383 low_keys)
    ∷ (4, arrive 2 1 1)
    ∷ (4, answer 2 1 1)
    ∷ (7, commit 2 1 ([] ∷ []) [] 0)
    ∷ (8, apply 1 1 1 65)
    ∷ []

-- A query of two modules waits at both for the puts that are up to its time.

abbrev pub one_reader : Catalogue
one_reader = with_classes 2 (class_of 1 [] (1 ∷ 2 ∷ []) ∷ class_of 2 ((1, 1) ∷ (2, 2) ∷ []) [] ∷ [])

abbrev pub waits_at_two : History
waits_at_two =
    (1, submit 1)
    ∷ (1, start 1 1 1 65 63 [])
    ∷ (1, commit 1 1 [] (put 1 1 7 ∷ put 2 11 7 ∷ []) 0)
    ∷ (3, submit 2)
    ∷ (3, start 2 1 2 258 255 all_keys)
    ∷ (4, apply 1 1 1 65)
    ∷ (5, arrive 2 1 1)
    ∷ (5, wait 2 1 1 1 255 1)
    ∷ (6, arrive 2 1 2)
    ∷ (6, wait 2 1 2 1 255 2)
    ∷ (7, apply 1 1 2 65)
    ∷ (14, Pass (class_no 1) (dm_no 1) (time_at 255))
    ∷ (14, answer 2 1 1)
    ∷ (16, Pass (class_no 1) (dm_no 2) (time_at 255))
    ∷ (16, answer 2 1 2)
    ∷ (29, commit 2 1 ((row_of 1 7 ∷ row_of 11 7 ∷ []) ∷ []) [] 2)
    ∷ []

-- Each reads what the other writes. The second waits for the first, and sees what it wrote.

abbrev pub crossing : Catalogue
crossing = with_classes 1 (class_of 1 ((1, 1) ∷ []) (2 ∷ []) ∷ class_of 2 ((2, 1) ∷ []) (1 ∷ []) ∷ [])

abbrev pub waits_for_other : History
waits_for_other =
    (1, submit 1)
    ∷ (1, start 1 1 1 65 63 low_keys)
    ∷ (2, submit 2)
    ∷ (2, start 2 1 2 66 63 high_keys)
    ∷ (3, arrive 2 1 1)
    ∷ (3, wait 2 1 1 1 66 2)
    ∷ (5, arrive 1 1 1)
    ∷ (5, answer 1 1 1)
    ∷ (8, commit 1 1 ([] ∷ []) (put 2 11 1 ∷ []) 0)
    ∷ (9, apply 1 1 1 65)
    ∷ (10, Pass (class_no 1) (dm_no 1) (time_at 127))
    ∷ (10, answer 2 1 1)
    ∷ (13, commit 2 1 (((Int (pos 1) ∷ []) ∷ []) ∷ []) (put 1 1 1 ∷ []) 1)
    ∷ []

-- A query that comes after a later put is rejected, and starts again with a greater timestamp.

abbrev pub starts_again : History
starts_again =
    (1, submit 1)
    ∷ (1, start 1 1 1 65 63 low_keys)
    ∷ (2, submit 2)
    ∷ (2, start 2 1 2 66 63 [])
    ∷ (2, commit 2 1 [] (put 1 1 1 ∷ []) 0)
    ∷ (3, apply 2 2 1 66)
    ∷ (4, arrive 1 1 1)
    ∷ (4, Reject (txn_no 1) 1 (dm_no 1) (class_no 2) (time_at 66))
    ∷ (5, start 1 2 1 129 127 low_keys)
    ∷ (6, arrive 1 2 1)
    ∷ (6, wait 1 2 1 2 129 1)
    ∷ (13, answer 1 2 1)
    ∷ (13, Pass (class_no 2) (dm_no 1) (time_at 191))
    ∷ (19, commit 1 2 (((Int (pos 1) ∷ []) ∷ []) ∷ []) [] 1)
    ∷ []

-- Neither waits for the other, and each is answered before the other's put is applied: a cycle.

abbrev pub misses_both : History
misses_both =
    (1, submit 1)
    ∷ (1, start 1 1 1 65 63 low_keys)
    ∷ (2, submit 2)
    ∷ (2, start 2 1 2 66 63 high_keys)
    ∷ (3, answer 2 1 1)
    ∷ (4, answer 1 1 1)
    ∷ (5, commit 1 1 ([] ∷ []) (put 2 11 1 ∷ []) 0)
    ∷ (6, commit 2 1 ([] ∷ []) (put 1 1 1 ∷ []) 0)
    ∷ (7, apply 1 1 1 65)
    ∷ (8, apply 2 2 1 66)
    ∷ []
