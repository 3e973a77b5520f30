-- Worked logs, written by tools/write_log_examples.py.
use Rattle.std.specs.Prelude.{◌≡◌, pos, negsuc, [], ◌∷◌, length, Some, None, refl}
use Rattle.sdd_log.specs.All.{Answer, Apply, Arrive, Catalogue, Commit, Const, D, Deliver, Input, Int, Le, Log, P1, P2, P3, Pass, Put, Query, Rows, Start, Submit, T, Tick, Wait, class_no, dm_no, extended, frag_no, history, marks, next, rel_no, time_at, tm_no, txn_no}
use Rattle.sdd_graph.specs.declared.edge.Edge.TheVariants.{Vertical, Horizontal, Diagonal}
use Rattle.sdd_log.specs.history.declared.record.Rec.TheVariants.{Submit as Submission}
use Rattle.sdd_log.specs.catalog.declared.parts.Kind.TheVariants as kinds

-- a later put of a fragment that isn't asked for doesn't reject

abbrev pub catalogue_of_not_rejected : Catalogue
catalogue_of_not_rejected = record {
  tms = 2;
  dms = 1;
  relations =
      (record { name = []; columns = ((record { name = []; kind = kinds.Int }) ∷ (record { name = []; kind = kinds.Int }) ∷ []); key = 1 }) ∷
      [];
  fragments =
      (record { name = []; rel = (rel_no 1); least = (negsuc 9223372036854775807); greatest = (pos 9); copies = ((dm_no 1) ∷ []) }) ∷
      (record { name = []; rel = (rel_no 1); least = (pos 10); greatest = (pos 9223372036854775807); copies = ((dm_no 1) ∷ []) }) ∷
      [];
  classes =
      (record { name = []; tm = (tm_no 1); reads = ((record { fragment = (frag_no 1); at = (dm_no 1) }) ∷ []); writes = ((frag_no 2) ∷ []) }) ∷
      (record { name = []; tm = (tm_no 2); reads = ((record { fragment = (frag_no 2); at = (dm_no 1) }) ∷ []); writes = ((frag_no 1) ∷ (frag_no 2) ∷ []) }) ∷
      [];
}

abbrev pub input_of_not_rejected : Input
input_of_not_rejected = record {
  catalogue = catalogue_of_not_rejected;
  eras =
      (record {
        catalogue = catalogue_of_not_rejected;
        table =
            (record { edge = (Vertical (class_no 1)); block = 1; protocol = P1 }) ∷
            (record { edge = (Vertical (class_no 2)); block = 1; protocol = P1 }) ∷
            (record { edge = (Horizontal (class_no 1) (class_no 2)); block = 1; protocol = P1 }) ∷
            (record { edge = (Diagonal (class_no 1) (class_no 2) (frag_no 1)); block = 1; protocol = P3 }) ∷
            (record { edge = (Diagonal (class_no 2) (class_no 1) (frag_no 2)); block = 1; protocol = P3 }) ∷
            [];
      }) ∷
      [];
  rows = ([] ∷ []);
  txns =
      (record {
        name = [];
        tm = (tm_no 1);
        statements = ((Query ((record { part = 1; column = 2 }) ∷ []) ((rel_no 1) ∷
            []) ((Const (record { part = 1; column = 1 }) Le (Int (pos 9))) ∷ [])) ∷ []);
      }) ∷
      (record { name = []; tm = (tm_no 2); statements = ((Put (rel_no 1) ((Int (pos 11)) ∷ (Int (pos 1)) ∷ [])) ∷ []) }) ∷
      [];
  events =
      Submit (txn_no 1) ∷
      Submit (txn_no 2) ∷
      Deliver (T (tm_no 2)) (D (dm_no 1)) 1 ∷
      Deliver (T (tm_no 1)) (D (dm_no 1)) 1 ∷
      Deliver (D (dm_no 1)) (T (tm_no 1)) 2 ∷
      Deliver (T (tm_no 1)) (D (dm_no 1)) 2 ∷
      Deliver (D (dm_no 1)) (T (tm_no 1)) 3 ∷
      [];
}

abbrev pub log_of_not_rejected : Log
log_of_not_rejected = extended 23 input_of_not_rejected []

pub history_of_not_rejected :
    history log_of_not_rejected ≡
    (1, Submission (txn_no 1)) ∷ (
      1,
      Start (txn_no 1) 1 (class_no 1) (time_at 65) (Some (time_at 63)) ((record {
        number = 1;
        rel = (rel_no 1);
        frags = ((frag_no 1) ∷ []);
        restrictions = ((record { column = 1; op = Le; value = (Int (pos 9)) }) ∷ []);
      }) ∷ []),
    ) ∷
    (2, Submission (txn_no 2)) ∷
    (2, Start (txn_no 2) 1 (class_no 2) (time_at 66) (Some (time_at 63)) []) ∷
    (2, Commit (txn_no 2) 1 (Rows []) ((record { frag = (frag_no 2); key = (pos 11); row = (Some ((Int (pos 11)) ∷ (Int (pos 1)) ∷ [])) }) ∷ []) 0 0) ∷
    (3, Apply (txn_no 2) (class_no 2) (dm_no 1) (time_at 66)) ∷
    (4, Arrive (txn_no 1) 1 (dm_no 1)) ∷
    (4, Answer (txn_no 1) 1 (dm_no 1)) ∷
    (7, Commit (txn_no 1) 1 (Rows ([] ∷ [])) [] 0 0) ∷
    []
history_of_not_rejected = refl

pub all_of_not_rejected : (next input_of_not_rejected log_of_not_rejected ≡ None) × (length log_of_not_rejected ≡ 23) × (marks log_of_not_rejected ≡ 7)
all_of_not_rejected = (refl, refl, refl)

-- a put of a fragment that isn't asked for isn't held

abbrev pub catalogue_of_not_held : Catalogue
catalogue_of_not_held = record {
  tms = 3;
  dms = 1;
  relations =
      (record { name = []; columns = ((record { name = []; kind = kinds.Int }) ∷ (record { name = []; kind = kinds.Int }) ∷ []); key = 1 }) ∷
      [];
  fragments =
      (record { name = []; rel = (rel_no 1); least = (negsuc 9223372036854775807); greatest = (pos 9); copies = ((dm_no 1) ∷ []) }) ∷
      (record { name = []; rel = (rel_no 1); least = (pos 10); greatest = (pos 9223372036854775807); copies = ((dm_no 1) ∷ []) }) ∷
      [];
  classes =
      (record {
        name = [];
        tm = (tm_no 1);
        reads = ((record { fragment = (frag_no 1); at = (dm_no 1) }) ∷ (record {
          fragment = (frag_no 2);
          at = (dm_no 1);
        }) ∷ []);
        writes = [];
      }) ∷
      (record { name = []; tm = (tm_no 2); reads = []; writes = ((frag_no 1) ∷ []) }) ∷
      (record { name = []; tm = (tm_no 3); reads = []; writes = ((frag_no 1) ∷ (frag_no 2) ∷ []) }) ∷
      [];
}

abbrev pub input_of_not_held : Input
input_of_not_held = record {
  catalogue = catalogue_of_not_held;
  eras =
      (record {
        catalogue = catalogue_of_not_held;
        table =
            (record { edge = (Vertical (class_no 1)); block = 0; protocol = P1 }) ∷
            (record { edge = (Vertical (class_no 2)); block = 0; protocol = P1 }) ∷
            (record { edge = (Vertical (class_no 3)); block = 0; protocol = P1 }) ∷
            (record { edge = (Horizontal (class_no 2) (class_no 3)); block = 1; protocol = P1 }) ∷
            (record { edge = (Diagonal (class_no 1) (class_no 2) (frag_no 1)); block = 1; protocol = P2 }) ∷
            (record { edge = (Diagonal (class_no 1) (class_no 3) (frag_no 1)); block = 1; protocol = P2 }) ∷
            (record { edge = (Diagonal (class_no 1) (class_no 3) (frag_no 2)); block = 1; protocol = P2 }) ∷
            [];
      }) ∷
      [];
  rows = ([] ∷ []);
  txns =
      (record {
        name = [];
        tm = (tm_no 1);
        statements = ((Query ((record { part = 1; column = 2 }) ∷ []) ((rel_no 1) ∷
            []) ((Const (record { part = 1; column = 1 }) Le (Int (pos 9))) ∷ [])) ∷ []);
      }) ∷
      (record { name = []; tm = (tm_no 3); statements = ((Put (rel_no 1) ((Int (pos 11)) ∷ (Int (pos 5)) ∷ [])) ∷ []) }) ∷
      [];
  events =
      Tick (tm_no 1) 2 ∷
      Submit (txn_no 1) ∷
      Tick (tm_no 3) 3 ∷
      Submit (txn_no 2) ∷
      Deliver (T (tm_no 1)) (D (dm_no 1)) 1 ∷
      Deliver (T (tm_no 3)) (D (dm_no 1)) 1 ∷
      Deliver (D (dm_no 1)) (T (tm_no 2)) 1 ∷
      Deliver (T (tm_no 2)) (D (dm_no 1)) 2 ∷
      [];
}

abbrev pub log_of_not_held : Log
log_of_not_held = extended 23 input_of_not_held []

pub history_of_not_held :
    history log_of_not_held ≡
    (2, Submission (txn_no 1)) ∷ (
      2,
      Start (txn_no 1) 1 (class_no 1) (time_at 193) (Some (time_at 191)) ((record {
        number = 1;
        rel = (rel_no 1);
        frags = ((frag_no 1) ∷ []);
        restrictions = ((record { column = 1; op = Le; value = (Int (pos 9)) }) ∷ []);
      }) ∷ []),
    ) ∷
    (4, Submission (txn_no 2)) ∷
    (4, Start (txn_no 2) 1 (class_no 3) (time_at 259) (Some (time_at 255)) []) ∷
    (4, Commit (txn_no 2) 1 (Rows []) ((record { frag = (frag_no 2); key = (pos 11); row = (Some ((Int (pos 11)) ∷ (Int (pos 5)) ∷ [])) }) ∷ []) 0 0) ∷
    (5, Arrive (txn_no 1) 1 (dm_no 1)) ∷ (
      5,
      Wait (txn_no 1) 1 (dm_no 1) ((record { class = (class_no 2); time = (time_at 191); frags = ((frag_no 1) ∷ []) }) ∷
          (record { class = (class_no 3); time = (time_at 191); frags = ((frag_no 1) ∷ []) }) ∷ []),
    ) ∷
    (6, Apply (txn_no 2) (class_no 3) (dm_no 1) (time_at 259)) ∷
    (8, Answer (txn_no 1) 1 (dm_no 1)) ∷
    (8, Pass (class_no 2) (dm_no 1) (time_at 191)) ∷
    []
history_of_not_held = refl

pub all_of_not_held : (next input_of_not_held log_of_not_held ≡ None) × (length log_of_not_held ≡ 23) × (marks log_of_not_held ≡ 8)
all_of_not_held = (refl, refl, refl)
