-- Worked logs, written by tools/write_log_examples.py.
use Rattle.std.specs.Prelude.{◌≡◌, pos, negsuc, [], ◌∷◌, length, Some, None, refl}
use Rattle.sdd_log.specs.All.{Answer, Apply, Arrive, Catalogue, Commit, Const, D, Deliver, Ge, Input, Int, Le, Log, Nothing, P1, P3, Pass, Put, Query, Rows, Settle, Start, Submit, T, Wait, class_no, dm_no, extended, frag_no, history, marks, next, rel_no, time_at, tm_no, txn_no}
use Rattle.sdd_graph.specs.declared.edge.Edge.TheVariants.{Vertical, Diagonal}
use Rattle.sdd_log.specs.history.declared.record.Rec.TheVariants.{Submit as Submission}
use Rattle.sdd_log.specs.catalog.declared.parts.Kind.TheVariants as kinds

-- a class that is asked while its attempt runs answers before its next attempt starts

abbrev pub catalogue_of_null_before_start : Catalogue
catalogue_of_null_before_start = record {
  tms = 2;
  dms = 1;
  relations =
      (record { name = []; columns = ((record { name = []; kind = kinds.Int }) ∷ (record { name = []; kind = kinds.Int }) ∷ []); key = 1 }) ∷
      [];
  fragments =
      (record { name = []; rel = (rel_no 1); least = (negsuc 9223372036854775807); greatest = (pos 9); copies = ((dm_no 1) ∷ []) }) ∷
      (record { name = []; rel = (rel_no 1); least = (pos 10); greatest = (pos 9223372036854775807); copies = ((dm_no 1) ∷ []) }) ∷
      [];
  classes =
      (record { name = []; tm = (tm_no 1); reads = ((record { fragment = (frag_no 1); at = (dm_no 1) }) ∷ []); writes = ((frag_no 2) ∷ []) }) ∷
      (record { name = []; tm = (tm_no 2); reads = ((record { fragment = (frag_no 2); at = (dm_no 1) }) ∷ []); writes = ((frag_no 1) ∷ []) }) ∷
      [];
}

abbrev pub input_of_null_before_start : Input
input_of_null_before_start = record {
  catalogue = catalogue_of_null_before_start;
  eras =
      (record {
        catalogue = catalogue_of_null_before_start;
        table =
            (record { edge = (Vertical (class_no 1)); block = 1; protocol = P1 }) ∷
            (record { edge = (Vertical (class_no 2)); block = 1; protocol = P1 }) ∷
            (record { edge = (Diagonal (class_no 1) (class_no 2) (frag_no 1)); block = 1; protocol = P3 }) ∷
            (record { edge = (Diagonal (class_no 2) (class_no 1) (frag_no 2)); block = 1; protocol = P3 }) ∷
            [];
      }) ∷
      [];
  rows = ([] ∷ []);
  txns =
      (record {
        name = [];
        tm = (tm_no 1);
        statements = ((Query ((record { part = 1; column = 2 }) ∷ []) ((rel_no 1) ∷
            []) ((Const (record { part = 1; column = 1 }) Le (Int (pos 9))) ∷ [])) ∷ (Put (rel_no 1) ((Int (pos 11)) ∷ (Int (pos 1)) ∷ [])) ∷ []);
      }) ∷
      (record {
        name = [];
        tm = (tm_no 2);
        statements = ((Query ((record { part = 1; column = 2 }) ∷ []) ((rel_no 1) ∷
            []) ((Const (record { part = 1; column = 1 }) Ge (Int (pos 10))) ∷ [])) ∷ []);
      }) ∷
      (record { name = []; tm = (tm_no 1); statements = ((Put (rel_no 1) ((Int (pos 12)) ∷ (Int (pos 1)) ∷ [])) ∷ []) }) ∷
      [];
  events =
      Submit (txn_no 1) ∷
      Submit (txn_no 3) ∷
      Submit (txn_no 2) ∷
      Deliver (T (tm_no 2)) (D (dm_no 1)) 1 ∷
      Deliver (D (dm_no 1)) (T (tm_no 1)) 1 ∷
      Deliver (T (tm_no 1)) (D (dm_no 1)) 1 ∷
      Deliver (D (dm_no 1)) (T (tm_no 1)) 2 ∷
      Deliver (T (tm_no 1)) (D (dm_no 1)) 2 ∷
      Deliver (D (dm_no 1)) (T (tm_no 1)) 3 ∷
      Settle ∷
      [];
}

abbrev pub log_of_null_before_start : Log
log_of_null_before_start = extended 70 input_of_null_before_start []

pub history_of_null_before_start :
    history log_of_null_before_start ≡
    (1, Submission (txn_no 1)) ∷ (
      1,
      Start (txn_no 1) 1 (class_no 1) (time_at 65) (Some (time_at 63)) ((record {
        number = 1;
        rel = (rel_no 1);
        frags = ((frag_no 1) ∷ []);
        restrictions = ((record { column = 1; op = Le; value = (Int (pos 9)) }) ∷ []);
      }) ∷ []),
    ) ∷
    (2, Submission (txn_no 3)) ∷
    (3, Submission (txn_no 2)) ∷ (
      3,
      Start (txn_no 2) 1 (class_no 2) (time_at 66) (Some (time_at 63)) ((record {
        number = 1;
        rel = (rel_no 1);
        frags = ((frag_no 2) ∷ []);
        restrictions = ((record { column = 1; op = Ge; value = (Int (pos 10)) }) ∷ []);
      }) ∷ []),
    ) ∷
    (4, Arrive (txn_no 2) 1 (dm_no 1)) ∷
    (4, Wait (txn_no 2) 1 (dm_no 1) ((record { class = (class_no 1); time = (time_at 66); frags = ((frag_no 2) ∷ []) }) ∷ [])) ∷
    (6, Arrive (txn_no 1) 1 (dm_no 1)) ∷
    (6, Answer (txn_no 1) 1 (dm_no 1)) ∷
    (9, Nothing) ∷
    (15, Commit (txn_no 1) 1 (Rows ([] ∷ [])) ((record { frag = (frag_no 2); key = (pos 11); row = (Some ((Int (pos 11)) ∷ (Int (pos 1)) ∷ [])) }) ∷ []) 0 0) ∷
    (15, Start (txn_no 3) 1 (class_no 1) (time_at 129) (Some (time_at 127)) []) ∷
    (15, Commit (txn_no 3) 1 (Rows []) ((record { frag = (frag_no 2); key = (pos 12); row = (Some ((Int (pos 12)) ∷ (Int (pos 1)) ∷ [])) }) ∷ []) 0 0) ∷
    (17, Apply (txn_no 1) (class_no 1) (dm_no 1) (time_at 65)) ∷
    (18, Pass (class_no 1) (dm_no 1) (time_at 127)) ∷
    (18, Answer (txn_no 2) 1 (dm_no 1)) ∷
    (19, Apply (txn_no 3) (class_no 1) (dm_no 1) (time_at 129)) ∷
    (27, Commit (txn_no 2) 1 (Rows ((((Int (pos 1)) ∷ []) ∷ []) ∷ [])) [] 0 1) ∷
    []
history_of_null_before_start = refl

pub all_of_null_before_start : (next input_of_null_before_start log_of_null_before_start ≡ None) × (length log_of_null_before_start ≡ 70)
    × (marks log_of_null_before_start ≡ 28)
all_of_null_before_start = (refl, refl, refl)
