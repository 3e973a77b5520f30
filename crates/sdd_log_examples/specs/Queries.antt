-- Worked logs, written by tools/write_log_examples.py.
use Rattle.std.specs.Prelude.{◌≡◌, pos, negsuc, [], ◌∷◌, length, Some, None, refl}
use Rattle.sdd_log.specs.All.{Add, Answer, Arrive, Catalogue, Commit, Const, Gt, Input, Int, Log, Lt, Overflow, P1, Query, Rows, Same, Settle, Start, Submit, Update, class_no, dm_no, extended, frag_no, history, marks, next, rel_no, time_at, tm_no, txn_no}
use Rattle.sdd_graph.specs.declared.edge.Edge.TheVariants.{Vertical}
use Rattle.sdd_log.specs.history.declared.record.Rec.TheVariants.{Submit as Submission}
use Rattle.sdd_log.specs.catalog.declared.parts.Kind.TheVariants as kinds

-- a sum leaves the range of a whole number: the update changes nothing

abbrev pub catalogue_of_overflow : Catalogue
catalogue_of_overflow = record {
  tms = 1;
  dms = 1;
  relations =
      (record { name = []; columns = ((record { name = []; kind = kinds.Int }) ∷ (record { name = []; kind = kinds.Int }) ∷ []); key = 1 }) ∷
      [];
  fragments =
      (record { name = []; rel = (rel_no 1); least = (negsuc 9223372036854775807); greatest = (pos 9223372036854775807); copies = ((dm_no 1) ∷ []) }) ∷
      [];
  classes =
      (record { name = []; tm = (tm_no 1); reads = ((record { fragment = (frag_no 1); at = (dm_no 1) }) ∷ []); writes = ((frag_no 1) ∷ []) }) ∷
      [];
}

abbrev pub input_of_overflow : Input
input_of_overflow = record {
  catalogue = catalogue_of_overflow;
  eras =
      (record {
        catalogue = catalogue_of_overflow;
        table =
            (record { edge = (Vertical (class_no 1)); block = 0; protocol = P1 }) ∷
            [];
      }) ∷
      [];
  rows = ((((rel_no 1), ((Int (pos 1)) ∷ (Int (pos 9223372036854775807)) ∷ [])) ∷ []) ∷ []);
  txns =
      (record { name = []; tm = (tm_no 1); statements = ((Update (rel_no 1) ((Add 2 (pos 1)) ∷ []) []) ∷ []) }) ∷
      [];
  events =
      Submit (txn_no 1) ∷
      Settle ∷
      [];
}

abbrev pub log_of_overflow : Log
log_of_overflow = extended 25 input_of_overflow []

pub history_of_overflow :
    history log_of_overflow ≡
    (1, Submission (txn_no 1)) ∷ (
      1,
      Start (txn_no 1) 1 (class_no 1) (time_at 65) (Some (time_at 63)) ((record {
        number = 1;
        rel = (rel_no 1);
        frags = ((frag_no 1) ∷ []);
        restrictions = [];
      }) ∷ []),
    ) ∷
    (2, Arrive (txn_no 1) 1 (dm_no 1)) ∷
    (2, Answer (txn_no 1) 1 (dm_no 1)) ∷
    (8, Commit (txn_no 1) 1 Overflow [] 0 1) ∷
    []
history_of_overflow = refl

pub all_of_overflow : (next input_of_overflow log_of_overflow ≡ None) × (length log_of_overflow ≡ 25) × (marks log_of_overflow ≡ 9)
all_of_overflow = (refl, refl, refl)

-- a query over three modules: two reducer steps, and then its rows

abbrev pub catalogue_of_two_steps : Catalogue
catalogue_of_two_steps = record {
  tms = 1;
  dms = 3;
  relations =
      (record { name = []; columns = ((record { name = []; kind = kinds.Int }) ∷ (record { name = []; kind = kinds.Int }) ∷ []); key = 1 }) ∷
      (record { name = []; columns = ((record { name = []; kind = kinds.Int }) ∷ (record { name = []; kind = kinds.Int }) ∷ []); key = 1 }) ∷
      (record { name = []; columns = ((record { name = []; kind = kinds.Int }) ∷ (record { name = []; kind = kinds.Int }) ∷ []); key = 1 }) ∷
      [];
  fragments =
      (record { name = []; rel = (rel_no 1); least = (negsuc 9223372036854775807); greatest = (pos 9223372036854775807); copies = ((dm_no 1) ∷ []) }) ∷
      (record { name = []; rel = (rel_no 2); least = (negsuc 9223372036854775807); greatest = (pos 9223372036854775807); copies = ((dm_no 2) ∷ []) }) ∷
      (record { name = []; rel = (rel_no 3); least = (negsuc 9223372036854775807); greatest = (pos 9223372036854775807); copies = ((dm_no 3) ∷ []) }) ∷
      [];
  classes =
      (record {
        name = [];
        tm = (tm_no 1);
        reads = ((record { fragment = (frag_no 1); at = (dm_no 1) }) ∷ (record {
          fragment = (frag_no 2);
          at = (dm_no 2);
        }) ∷ (record { fragment = (frag_no 3); at = (dm_no 3) }) ∷ []);
        writes = [];
      }) ∷
      [];
}

abbrev pub input_of_two_steps : Input
input_of_two_steps = record {
  catalogue = catalogue_of_two_steps;
  eras =
      (record {
        catalogue = catalogue_of_two_steps;
        table =
            (record { edge = (Vertical (class_no 1)); block = 0; protocol = P1 }) ∷
            [];
      }) ∷
      [];
  rows = ((((rel_no 1), ((Int (pos 1)) ∷ (Int (pos 1)) ∷ [])) ∷ ((rel_no 1), ((Int (pos 2)) ∷ (Int (pos 2)) ∷ [])) ∷ (
    (rel_no 1),
    ((Int (pos 3)) ∷
        (Int (pos 3)) ∷ []),
  ) ∷ ((rel_no 1), ((Int (pos 4)) ∷ (Int (pos 4)) ∷ [])) ∷ ((rel_no 2), ((Int (pos 1)) ∷ (Int (pos 1)) ∷ [])) ∷
      ((rel_no 2), ((Int (pos 2)) ∷ (Int (pos 2)) ∷ [])) ∷ ((rel_no 3), ((Int (pos 1)) ∷ (Int (pos 0)) ∷ [])) ∷ []) ∷ ((
        (rel_no 1),
        ((Int (pos 1)) ∷
            (Int (pos 1)) ∷ []),
      ) ∷ ((rel_no 1), ((Int (pos 2)) ∷ (Int (pos 2)) ∷ [])) ∷ ((rel_no 1), ((Int (pos 3)) ∷ (Int (pos 3)) ∷ [])) ∷
      ((rel_no 1), ((Int (pos 4)) ∷ (Int (pos 4)) ∷ [])) ∷ ((rel_no 2), ((Int (pos 1)) ∷ (Int (pos 1)) ∷ [])) ∷ (
        (rel_no 2),
        ((Int (pos 2)) ∷
            (Int (pos 2)) ∷ []),
      ) ∷ ((rel_no 3), ((Int (pos 1)) ∷ (Int (pos 0)) ∷ [])) ∷ []) ∷ (((rel_no 1), ((Int (pos 1)) ∷ (Int (pos 1)) ∷ [])) ∷
      ((rel_no 1), ((Int (pos 2)) ∷ (Int (pos 2)) ∷ [])) ∷ ((rel_no 1), ((Int (pos 3)) ∷ (Int (pos 3)) ∷ [])) ∷ (
        (rel_no 1),
        ((Int (pos 4)) ∷
            (Int (pos 4)) ∷ []),
      ) ∷ ((rel_no 2), ((Int (pos 1)) ∷ (Int (pos 1)) ∷ [])) ∷ ((rel_no 2), ((Int (pos 2)) ∷ (Int (pos 2)) ∷ [])) ∷
      ((rel_no 3), ((Int (pos 1)) ∷ (Int (pos 0)) ∷ [])) ∷ []) ∷ []);
  txns =
      (record {
        name = [];
        tm = (tm_no 1);
        statements = ((Query ((record { part = 1; column = 1 }) ∷ (record { part = 2; column = 1 }) ∷
            (record { part = 3; column = 1 }) ∷ []) ((rel_no 1) ∷ (rel_no 2) ∷ (rel_no 3) ∷ []) ((Same (record {
              part = 1;
              column = 2;
            }) (record { part = 2; column = 1 })) ∷ (Same (record { part = 2; column = 2 }) (record { part = 3; column = 1 })) ∷ [])) ∷ []);
      }) ∷
      [];
  events =
      Submit (txn_no 1) ∷
      Settle ∷
      [];
}

abbrev pub log_of_two_steps : Log
log_of_two_steps = extended 97 input_of_two_steps []

pub history_of_two_steps :
    history log_of_two_steps ≡
    (1, Submission (txn_no 1)) ∷ (
      1,
      Start (txn_no 1) 1 (class_no 1) (time_at 65) (Some (time_at 63)) ((record {
        number = 1;
        rel = (rel_no 1);
        frags = ((frag_no 1) ∷ []);
        restrictions = [];
      }) ∷ (record { number = 2; rel = (rel_no 2); frags = ((frag_no 2) ∷ []); restrictions = [] }) ∷ (record {
        number = 3;
        rel = (rel_no 3);
        frags = ((frag_no 3) ∷ []);
        restrictions = [];
      }) ∷ []),
    ) ∷
    (2, Arrive (txn_no 1) 1 (dm_no 1)) ∷
    (2, Answer (txn_no 1) 1 (dm_no 1)) ∷
    (3, Arrive (txn_no 1) 1 (dm_no 2)) ∷
    (3, Answer (txn_no 1) 1 (dm_no 2)) ∷
    (4, Arrive (txn_no 1) 1 (dm_no 3)) ∷
    (4, Answer (txn_no 1) 1 (dm_no 3)) ∷
    (38, Commit (txn_no 1) 1 (Rows ((((Int (pos 1)) ∷ (Int (pos 1)) ∷ (Int (pos 1)) ∷ []) ∷ []) ∷ [])) [] 4 3) ∷
    []
history_of_two_steps = refl

pub all_of_two_steps : (next input_of_two_steps log_of_two_steps ≡ None) × (length log_of_two_steps ≡ 97) × (marks log_of_two_steps ≡ 41)
all_of_two_steps = (refl, refl, refl)

-- a query that no key can meet reads nothing, and commits at once

abbrev pub catalogue_of_reads_nothing : Catalogue
catalogue_of_reads_nothing = record {
  tms = 1;
  dms = 1;
  relations =
      (record { name = []; columns = ((record { name = []; kind = kinds.Int }) ∷ (record { name = []; kind = kinds.Int }) ∷ []); key = 1 }) ∷
      [];
  fragments =
      (record { name = []; rel = (rel_no 1); least = (negsuc 9223372036854775807); greatest = (pos 9223372036854775807); copies = ((dm_no 1) ∷ []) }) ∷
      [];
  classes =
      (record { name = []; tm = (tm_no 1); reads = ((record { fragment = (frag_no 1); at = (dm_no 1) }) ∷ []); writes = ((frag_no 1) ∷ []) }) ∷
      [];
}

abbrev pub input_of_reads_nothing : Input
input_of_reads_nothing = record {
  catalogue = catalogue_of_reads_nothing;
  eras =
      (record {
        catalogue = catalogue_of_reads_nothing;
        table =
            (record { edge = (Vertical (class_no 1)); block = 0; protocol = P1 }) ∷
            [];
      }) ∷
      [];
  rows = ([] ∷ []);
  txns =
      (record {
        name = [];
        tm = (tm_no 1);
        statements = ((Query ((record { part = 1; column = 1 }) ∷ []) ((rel_no 1) ∷
            []) ((Const (record { part = 1; column = 1 }) Lt (Int (pos 1))) ∷ (Const (record { part = 1; column = 1 }) Gt (Int (pos 5))) ∷ [])) ∷ []);
      }) ∷
      [];
  events =
      Submit (txn_no 1) ∷
      [];
}

abbrev pub log_of_reads_nothing : Log
log_of_reads_nothing = extended 4 input_of_reads_nothing []

pub history_of_reads_nothing :
    history log_of_reads_nothing ≡
    (1, Submission (txn_no 1)) ∷ (
      1,
      Start (txn_no 1) 1 (class_no 1) (time_at 65) (Some (time_at 63)) ((record {
        number = 1;
        rel = (rel_no 1);
        frags = [];
        restrictions = ((record { column = 1; op = Lt; value = (Int (pos 1)) }) ∷ (record { column = 1; op = Gt; value = (Int (pos 5)) }) ∷ []);
      }) ∷ []),
    ) ∷
    (1, Commit (txn_no 1) 1 (Rows ([] ∷ [])) [] 0 0) ∷
    []
history_of_reads_nothing = refl

pub all_of_reads_nothing : (next input_of_reads_nothing log_of_reads_nothing ≡ None) × (length log_of_reads_nothing ≡ 4) × (marks log_of_reads_nothing ≡ 1)
all_of_reads_nothing = (refl, refl, refl)
