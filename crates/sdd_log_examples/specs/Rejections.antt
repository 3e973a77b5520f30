-- Worked logs, written by tools/write_log_examples.py.
use Rattle.std.specs.Prelude.{◌≡◌, pos, negsuc, [], ◌∷◌, length, Some, None, refl}
use Rattle.sdd_log.specs.All.{Apply, Arrive, Catalogue, Commit, D, Deliver, Input, Int, Log, P1, P2, Put, Query, Rows, Start, Submit, T, class_no, dm_no, extended, frag_no, history, marks, next, rel_no, time_at, tm_no, txn_no}
use Rattle.sdd_graph.specs.declared.edge.Edge.TheVariants.{Vertical, Horizontal, Diagonal}
use Rattle.sdd_log.specs.history.declared.record.Rec.TheVariants.{Submit as Submission, Reject}
use Rattle.sdd_log.specs.catalog.declared.parts.Kind.TheVariants as kinds

-- a query comes after two later puts of each of two classes: the Reject names the greatest put of the lowest class

abbrev pub catalogue_of_rejected_by_two : Catalogue
catalogue_of_rejected_by_two = record {
  tms = 3;
  dms = 1;
  relations =
      (record { name = []; columns = ((record { name = []; kind = kinds.Int }) ∷ (record { name = []; kind = kinds.Int }) ∷ []); key = 1 }) ∷
      [];
  fragments =
      (record { name = []; rel = (rel_no 1); least = (negsuc 9223372036854775807); greatest = (pos 9223372036854775807); copies = ((dm_no 1) ∷ []) }) ∷
      [];
  classes =
      (record { name = []; tm = (tm_no 1); reads = ((record { fragment = (frag_no 1); at = (dm_no 1) }) ∷ []); writes = [] }) ∷
      (record { name = []; tm = (tm_no 2); reads = []; writes = ((frag_no 1) ∷ []) }) ∷
      (record { name = []; tm = (tm_no 3); reads = []; writes = ((frag_no 1) ∷ []) }) ∷
      [];
}

abbrev pub input_of_rejected_by_two : Input
input_of_rejected_by_two = record {
  catalogue = catalogue_of_rejected_by_two;
  eras =
      (record {
        catalogue = catalogue_of_rejected_by_two;
        table =
            (record { edge = (Vertical (class_no 1)); block = 0; protocol = P1 }) ∷
            (record { edge = (Vertical (class_no 2)); block = 0; protocol = P1 }) ∷
            (record { edge = (Vertical (class_no 3)); block = 0; protocol = P1 }) ∷
            (record { edge = (Horizontal (class_no 2) (class_no 3)); block = 1; protocol = P1 }) ∷
            (record { edge = (Diagonal (class_no 1) (class_no 2) (frag_no 1)); block = 1; protocol = P2 }) ∷
            (record { edge = (Diagonal (class_no 1) (class_no 3) (frag_no 1)); block = 1; protocol = P2 }) ∷
            [];
      }) ∷
      [];
  rows = ([] ∷ []);
  txns =
      (record { name = []; tm = (tm_no 1); statements = ((Query ((record { part = 1; column = 2 }) ∷ []) ((rel_no 1) ∷ []) []) ∷ []) }) ∷
      (record { name = []; tm = (tm_no 2); statements = ((Put (rel_no 1) ((Int (pos 1)) ∷ (Int (pos 5)) ∷ [])) ∷ []) }) ∷
      (record { name = []; tm = (tm_no 2); statements = ((Put (rel_no 1) ((Int (pos 2)) ∷ (Int (pos 5)) ∷ [])) ∷ []) }) ∷
      (record { name = []; tm = (tm_no 3); statements = ((Put (rel_no 1) ((Int (pos 3)) ∷ (Int (pos 5)) ∷ [])) ∷ []) }) ∷
      (record { name = []; tm = (tm_no 3); statements = ((Put (rel_no 1) ((Int (pos 4)) ∷ (Int (pos 5)) ∷ [])) ∷ []) }) ∷
      [];
  events =
      Submit (txn_no 1) ∷
      Submit (txn_no 2) ∷
      Submit (txn_no 3) ∷
      Submit (txn_no 4) ∷
      Submit (txn_no 5) ∷
      Deliver (T (tm_no 2)) (D (dm_no 1)) 1 ∷
      Deliver (T (tm_no 2)) (D (dm_no 1)) 1 ∷
      Deliver (T (tm_no 3)) (D (dm_no 1)) 1 ∷
      Deliver (T (tm_no 3)) (D (dm_no 1)) 1 ∷
      Deliver (T (tm_no 1)) (D (dm_no 1)) 1 ∷
      Deliver (D (dm_no 1)) (T (tm_no 1)) 2 ∷
      [];
}

abbrev pub log_of_rejected_by_two : Log
log_of_rejected_by_two = extended 38 input_of_rejected_by_two []

pub history_of_rejected_by_two :
    history log_of_rejected_by_two ≡
    (1, Submission (txn_no 1)) ∷ (
      1,
      Start (txn_no 1) 1 (class_no 1) (time_at 65) (Some (time_at 63)) ((record {
        number = 1;
        rel = (rel_no 1);
        frags = ((frag_no 1) ∷ []);
        restrictions = [];
      }) ∷ []),
    ) ∷
    (2, Submission (txn_no 2)) ∷
    (2, Start (txn_no 2) 1 (class_no 2) (time_at 66) (Some (time_at 63)) []) ∷
    (2, Commit (txn_no 2) 1 (Rows []) ((record { frag = (frag_no 1); key = (pos 1); row = (Some ((Int (pos 1)) ∷ (Int (pos 5)) ∷ [])) }) ∷ []) 0 0) ∷
    (3, Submission (txn_no 3)) ∷
    (3, Start (txn_no 3) 1 (class_no 2) (time_at 130) (Some (time_at 127)) []) ∷
    (3, Commit (txn_no 3) 1 (Rows []) ((record { frag = (frag_no 1); key = (pos 2); row = (Some ((Int (pos 2)) ∷ (Int (pos 5)) ∷ [])) }) ∷ []) 0 0) ∷
    (4, Submission (txn_no 4)) ∷
    (4, Start (txn_no 4) 1 (class_no 3) (time_at 67) (Some (time_at 63)) []) ∷
    (4, Commit (txn_no 4) 1 (Rows []) ((record { frag = (frag_no 1); key = (pos 3); row = (Some ((Int (pos 3)) ∷ (Int (pos 5)) ∷ [])) }) ∷ []) 0 0) ∷
    (5, Submission (txn_no 5)) ∷
    (5, Start (txn_no 5) 1 (class_no 3) (time_at 131) (Some (time_at 127)) []) ∷
    (5, Commit (txn_no 5) 1 (Rows []) ((record { frag = (frag_no 1); key = (pos 4); row = (Some ((Int (pos 4)) ∷ (Int (pos 5)) ∷ [])) }) ∷ []) 0 0) ∷
    (6, Apply (txn_no 2) (class_no 2) (dm_no 1) (time_at 66)) ∷
    (7, Apply (txn_no 3) (class_no 2) (dm_no 1) (time_at 130)) ∷
    (8, Apply (txn_no 4) (class_no 3) (dm_no 1) (time_at 67)) ∷
    (9, Apply (txn_no 5) (class_no 3) (dm_no 1) (time_at 131)) ∷
    (10, Arrive (txn_no 1) 1 (dm_no 1)) ∷
    (10, Reject (txn_no 1) 1 (dm_no 1) (class_no 2) (time_at 130)) ∷ (
      11,
      Start (txn_no 1) 2 (class_no 1) (time_at 193) (Some (time_at 191)) ((record {
        number = 1;
        rel = (rel_no 1);
        frags = ((frag_no 1) ∷ []);
        restrictions = [];
      }) ∷ []),
    ) ∷
    []
history_of_rejected_by_two = refl

pub all_of_rejected_by_two : (next input_of_rejected_by_two log_of_rejected_by_two ≡ None) × (length log_of_rejected_by_two ≡ 38)
    × (marks log_of_rejected_by_two ≡ 11)
all_of_rejected_by_two = (refl, refl, refl)
