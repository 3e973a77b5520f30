-- More histories.
use Rattle.std.specs.Prelude.{pos, [], ◌∷◌, None, Some}
use Rattle.sdd_laws.specs.All.{Answer, Apply, Arrive, Commit, History, Int, Pass, Rows, Start, Submit, Wait, class_no, dm_no, frag_no, low_keys, put, time_at, txn_no}

-- Two transactions of one class, each of which asks for the low keys and puts one: the second starts when the first is
-- committed, and sees what it put.

abbrev pub one_after_other : History
one_after_other =
    (1, Submit (txn_no 1))
    ∷ (1, Start (txn_no 1) 1 (class_no 1) (time_at 65) (Some (time_at 63)) low_keys)
    ∷ (2, Submit (txn_no 2))
    ∷ (3, Arrive (txn_no 1) 1 (dm_no 1))
    ∷ (3, Answer (txn_no 1) 1 (dm_no 1))
    ∷ (9, Commit (txn_no 1) 1 (Rows ([] ∷ [])) (put 1 1 1 ∷ []) 0 0)
    ∷ (9, Start (txn_no 2) 1 (class_no 1) (time_at 129) (Some (time_at 127)) low_keys)
    ∷ (11, Apply (txn_no 1) (class_no 1) (dm_no 1) (time_at 65))
    ∷ (12, Arrive (txn_no 2) 1 (dm_no 1))
    ∷ (12, Answer (txn_no 2) 1 (dm_no 1))
    ∷ (19, Commit (txn_no 2) 1 (Rows (((Int (pos 1) ∷ []) ∷ []) ∷ [])) (put 1 1 2 ∷ []) 0 1)
    ∷ (21, Apply (txn_no 2) (class_no 1) (dm_no 1) (time_at 129))
    ∷ []

-- Two puts of one class, and between them a transaction that no class covers: it reads what the first put, and the second
-- starts when all that it changes is applied.

abbrev pub runs_alone : History
runs_alone =
    (1, Submit (txn_no 1))
    ∷ (1, Start (txn_no 1) 1 (class_no 1) (time_at 65) (Some (time_at 63)) [])
    ∷ (1, Commit (txn_no 1) 1 (Rows []) (put 1 1 5 ∷ []) 0 0)
    ∷ (2, Submit (txn_no 2))
    ∷ (5, Apply (txn_no 1) (class_no 1) (dm_no 1) (time_at 65))
    ∷ (9, Start (txn_no 2) 1 (class_no 0) (time_at 128) None low_keys)
    ∷ (13, Arrive (txn_no 2) 1 (dm_no 1))
    ∷ (13, Wait (txn_no 2) 1 (dm_no 1) (record { class = class_no 1; time = time_at 128; frags = frag_no 1 ∷ frag_no 2 ∷ [] } ∷ []))
    ∷ (17, Answer (txn_no 2) 1 (dm_no 1))
    ∷ (17, Pass (class_no 1) (dm_no 1) (time_at 191))
    ∷ (23, Commit (txn_no 2) 1 (Rows (((Int (pos 5) ∷ []) ∷ []) ∷ [])) (put 2 11 5 ∷ []) 0 1)
    ∷ (25, Apply (txn_no 2) (class_no 0) (dm_no 1) (time_at 128))
    ∷ (33, Submit (txn_no 3))
    ∷ (33, Start (txn_no 3) 1 (class_no 1) (time_at 193) (Some (time_at 191)) [])
    ∷ (33, Commit (txn_no 3) 1 (Rows []) (put 1 1 6 ∷ []) 0 0)
    ∷ (34, Apply (txn_no 3) (class_no 1) (dm_no 1) (time_at 193))
    ∷ []

-- A put, and then a further class list, in which the class of the put is retired: a query of the new class starts when
-- the put is applied.

abbrev pub redeclares : History
redeclares =
    (1, Submit (txn_no 1))
    ∷ (1, Start (txn_no 1) 1 (class_no 1) (time_at 65) (Some (time_at 63)) [])
    ∷ (1, Commit (txn_no 1) 1 (Rows []) (put 1 5 10 ∷ []) 0 0)
    ∷ (2, Apply (txn_no 1) (class_no 1) (dm_no 1) (time_at 65))
    ∷ (5, Submit (txn_no 2))
    ∷ (5, Start (txn_no 2) 1 (class_no 2) (time_at 129) (Some (time_at 127)) low_keys)
    ∷ (6, Arrive (txn_no 2) 1 (dm_no 1))
    ∷ (6, Answer (txn_no 2) 1 (dm_no 1))
    ∷ (12, Commit (txn_no 2) 1 (Rows (((Int (pos 10) ∷ []) ∷ []) ∷ [])) [] 0 1)
    ∷ []
