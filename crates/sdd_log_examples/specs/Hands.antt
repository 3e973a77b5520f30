-- Worked logs, written by tools/write_log_examples.py.
use Rattle.std.specs.Prelude.{◌≡◌, pos, negsuc, [], ◌∷◌, length, Some, None, refl}
use Rattle.sdd_log.specs.All.{Apply, Catalogue, Commit, D, Deliver, Down, Input, Int, Log, Lose, Nothing, P1, Put, Resend, Rows, Start, Submit, T, Up, class_no, dm_no, extended, frag_no, history, marks, next, rel_no, time_at, tm_no, txn_no}
use Rattle.sdd_graph.specs.declared.edge.Edge.TheVariants.{Vertical, Horizontal}
use Rattle.sdd_log.specs.history.declared.record.Rec.TheVariants.{Submit as Submission}
use Rattle.sdd_log.specs.catalog.declared.parts.Kind.TheVariants as kinds

-- a data module that is up again is handed the messages of the lower site first

abbrev pub catalogue_of_from_two_senders : Catalogue
catalogue_of_from_two_senders = record {
  tms = 2;
  dms = 2;
  relations =
      (record { name = []; columns = ((record { name = []; kind = kinds.Int }) ∷ (record { name = []; kind = kinds.Int }) ∷ []); key = 1 }) ∷
      [];
  fragments =
      (record {
        name = [];
        rel = (rel_no 1);
        least = (negsuc 9223372036854775807);
        greatest = (pos 9223372036854775807);
        copies = ((dm_no 1) ∷
            (dm_no 2) ∷ []);
      }) ∷
      [];
  classes =
      (record { name = []; tm = (tm_no 1); reads = []; writes = ((frag_no 1) ∷ []) }) ∷
      (record { name = []; tm = (tm_no 2); reads = []; writes = ((frag_no 1) ∷ []) }) ∷
      [];
}

abbrev pub input_of_from_two_senders : Input
input_of_from_two_senders = record {
  catalogue = catalogue_of_from_two_senders;
  eras =
      (record {
        catalogue = catalogue_of_from_two_senders;
        table =
            (record { edge = (Vertical (class_no 1)); block = 0; protocol = P1 }) ∷
            (record { edge = (Vertical (class_no 2)); block = 0; protocol = P1 }) ∷
            (record { edge = (Horizontal (class_no 1) (class_no 2)); block = 0; protocol = P1 }) ∷
            [];
      }) ∷
      [];
  rows = ([] ∷ [] ∷ []);
  txns =
      (record { name = []; tm = (tm_no 1); statements = ((Put (rel_no 1) ((Int (pos 1)) ∷ (Int (pos 5)) ∷ [])) ∷ []) }) ∷
      (record { name = []; tm = (tm_no 2); statements = ((Put (rel_no 1) ((Int (pos 1)) ∷ (Int (pos 6)) ∷ [])) ∷ []) }) ∷
      [];
  events =
      Submit (txn_no 1) ∷
      Submit (txn_no 2) ∷
      Down (D (dm_no 1)) ∷
      Deliver (T (tm_no 2)) (D (dm_no 1)) 1 ∷
      Deliver (T (tm_no 1)) (D (dm_no 1)) 1 ∷
      Up (D (dm_no 1)) ∷
      [];
}

abbrev pub log_of_from_two_senders : Log
log_of_from_two_senders = extended 16 input_of_from_two_senders []

pub history_of_from_two_senders :
    history log_of_from_two_senders ≡
    (1, Submission (txn_no 1)) ∷
    (1, Start (txn_no 1) 1 (class_no 1) (time_at 65) (Some (time_at 63)) []) ∷
    (1, Commit (txn_no 1) 1 (Rows []) ((record { frag = (frag_no 1); key = (pos 1); row = (Some ((Int (pos 1)) ∷ (Int (pos 5)) ∷ [])) }) ∷ []) 0 0) ∷
    (2, Submission (txn_no 2)) ∷
    (2, Start (txn_no 2) 1 (class_no 2) (time_at 66) (Some (time_at 63)) []) ∷
    (2, Commit (txn_no 2) 1 (Rows []) ((record { frag = (frag_no 1); key = (pos 1); row = (Some ((Int (pos 1)) ∷ (Int (pos 6)) ∷ [])) }) ∷ []) 0 0) ∷
    (6, Apply (txn_no 1) (class_no 1) (dm_no 1) (time_at 65)) ∷
    (6, Apply (txn_no 2) (class_no 2) (dm_no 1) (time_at 66)) ∷
    []
history_of_from_two_senders = refl

pub all_of_from_two_senders : (next input_of_from_two_senders log_of_from_two_senders ≡ None) × (length log_of_from_two_senders ≡ 16)
    × (marks log_of_from_two_senders ≡ 6)
all_of_from_two_senders = (refl, refl, refl)

-- two puts come at once: the first is applied before the second is handed over; an acknowledgement carries the greatest number up to which all came

abbrev pub catalogue_of_two_at_once : Catalogue
catalogue_of_two_at_once = record {
  tms = 1;
  dms = 1;
  relations =
      (record { name = []; columns = ((record { name = []; kind = kinds.Int }) ∷ (record { name = []; kind = kinds.Int }) ∷ []); key = 1 }) ∷
      [];
  fragments =
      (record { name = []; rel = (rel_no 1); least = (negsuc 9223372036854775807); greatest = (pos 9); copies = ((dm_no 1) ∷ []) }) ∷
      (record { name = []; rel = (rel_no 1); least = (pos 10); greatest = (pos 9223372036854775807); copies = ((dm_no 1) ∷ []) }) ∷
      [];
  classes =
      (record { name = []; tm = (tm_no 1); reads = []; writes = ((frag_no 2) ∷ []) }) ∷
      (record { name = []; tm = (tm_no 1); reads = []; writes = ((frag_no 1) ∷ []) }) ∷
      [];
}

abbrev pub input_of_two_at_once : Input
input_of_two_at_once = record {
  catalogue = catalogue_of_two_at_once;
  eras =
      (record {
        catalogue = catalogue_of_two_at_once;
        table =
            (record { edge = (Vertical (class_no 1)); block = 0; protocol = P1 }) ∷
            (record { edge = (Vertical (class_no 2)); block = 0; protocol = P1 }) ∷
            [];
      }) ∷
      [];
  rows = ([] ∷ []);
  txns =
      (record { name = []; tm = (tm_no 1); statements = ((Put (rel_no 1) ((Int (pos 1)) ∷ (Int (pos 5)) ∷ [])) ∷ []) }) ∷
      (record { name = []; tm = (tm_no 1); statements = ((Put (rel_no 1) ((Int (pos 11)) ∷ (Int (pos 6)) ∷ [])) ∷ []) }) ∷
      [];
  events =
      Submit (txn_no 1) ∷
      Submit (txn_no 2) ∷
      Deliver (T (tm_no 1)) (D (dm_no 1)) 2 ∷
      Deliver (D (dm_no 1)) (T (tm_no 1)) 1 ∷
      Lose (T (tm_no 1)) (D (dm_no 1)) 1 ∷
      Resend (T (tm_no 1)) (D (dm_no 1)) ∷
      Deliver (T (tm_no 1)) (D (dm_no 1)) 1 ∷
      Deliver (D (dm_no 1)) (T (tm_no 1)) 1 ∷
      Resend (T (tm_no 1)) (D (dm_no 1)) ∷
      [];
}

abbrev pub log_of_two_at_once : Log
log_of_two_at_once = extended 20 input_of_two_at_once []

pub history_of_two_at_once :
    history log_of_two_at_once ≡
    (1, Submission (txn_no 1)) ∷
    (1, Start (txn_no 1) 1 (class_no 2) (time_at 65) (Some (time_at 63)) []) ∷
    (1, Commit (txn_no 1) 1 (Rows []) ((record { frag = (frag_no 1); key = (pos 1); row = (Some ((Int (pos 1)) ∷ (Int (pos 5)) ∷ [])) }) ∷ []) 0 0) ∷
    (2, Submission (txn_no 2)) ∷
    (2, Start (txn_no 2) 1 (class_no 1) (time_at 129) (Some (time_at 127)) []) ∷
    (2, Commit (txn_no 2) 1 (Rows []) ((record { frag = (frag_no 2); key = (pos 11); row = (Some ((Int (pos 11)) ∷ (Int (pos 6)) ∷ [])) }) ∷ []) 0 0) ∷
    (7, Apply (txn_no 1) (class_no 2) (dm_no 1) (time_at 65)) ∷
    (7, Apply (txn_no 2) (class_no 1) (dm_no 1) (time_at 129)) ∷
    (9, Nothing) ∷
    []
history_of_two_at_once = refl

pub all_of_two_at_once : (next input_of_two_at_once log_of_two_at_once ≡ None) × (length log_of_two_at_once ≡ 20) × (marks log_of_two_at_once ≡ 9)
all_of_two_at_once = (refl, refl, refl)
