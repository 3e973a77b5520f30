-- Worked logs, written by tools/write_log_examples.py.
use Rattle.std.specs.Prelude.{◌≡◌, pos, negsuc, [], ◌∷◌, length, Some, None, refl}
use Rattle.sdd_log.specs.All.{Answer, Arrive, Catalogue, Commit, Input, Int, Log, P1, Query, Rows, Same, Settle, Start, Submit, class_no, dm_no, extended, frag_no, history, marks, next, rel_no, time_at, tm_no, txn_no}
use Rattle.sdd_graph.specs.declared.edge.Edge.TheVariants.{Vertical}
use Rattle.sdd_log.specs.history.declared.record.Rec.TheVariants.{Submit as Submission}
use Rattle.sdd_log.specs.catalog.declared.parts.Kind.TheVariants as kinds

-- a reducer step to two data modules counts its values twice

abbrev pub catalogue_of_reduced_at_two : Catalogue
catalogue_of_reduced_at_two = record {
  tms = 1;
  dms = 3;
  relations =
      (record { name = []; columns = ((record { name = []; kind = kinds.Int }) ∷ (record { name = []; kind = kinds.Int }) ∷ []); key = 1 }) ∷
      (record { name = []; columns = ((record { name = []; kind = kinds.Int }) ∷ (record { name = []; kind = kinds.Int }) ∷ []); key = 1 }) ∷
      [];
  fragments =
      (record { name = []; rel = (rel_no 1); least = (negsuc 9223372036854775807); greatest = (pos 9223372036854775807); copies = ((dm_no 1) ∷ []) }) ∷
      (record { name = []; rel = (rel_no 2); least = (negsuc 9223372036854775807); greatest = (pos 9); copies = ((dm_no 2) ∷ []) }) ∷
      (record { name = []; rel = (rel_no 2); least = (pos 10); greatest = (pos 9223372036854775807); copies = ((dm_no 3) ∷ []) }) ∷
      [];
  classes =
      (record {
        name = [];
        tm = (tm_no 1);
        reads = ((record { fragment = (frag_no 1); at = (dm_no 1) }) ∷ (record {
          fragment = (frag_no 2);
          at = (dm_no 2);
        }) ∷ (record { fragment = (frag_no 3); at = (dm_no 3) }) ∷ []);
        writes = [];
      }) ∷
      [];
}

abbrev pub input_of_reduced_at_two : Input
input_of_reduced_at_two = record {
  catalogue = catalogue_of_reduced_at_two;
  eras =
      (record {
        catalogue = catalogue_of_reduced_at_two;
        table =
            (record { edge = (Vertical (class_no 1)); block = 0; protocol = P1 }) ∷
            [];
      }) ∷
      [];
  rows = ((((rel_no 1), ((Int (pos 1)) ∷ (Int (pos 2)) ∷ [])) ∷ ((rel_no 2), ((Int (pos 1)) ∷ (Int (pos 0)) ∷ [])) ∷ (
    (rel_no 2),
    ((Int (pos 2)) ∷
        (Int (pos 0)) ∷ []),
  ) ∷ ((rel_no 2), ((Int (pos 10)) ∷ (Int (pos 0)) ∷ [])) ∷ []) ∷ (((rel_no 1), ((Int (pos 1)) ∷ (Int (pos 2)) ∷ [])) ∷
      ((rel_no 2), ((Int (pos 1)) ∷ (Int (pos 0)) ∷ [])) ∷ ((rel_no 2), ((Int (pos 2)) ∷ (Int (pos 0)) ∷ [])) ∷ (
        (rel_no 2),
        ((Int (pos 10)) ∷
            (Int (pos 0)) ∷ []),
      ) ∷ []) ∷ (((rel_no 1), ((Int (pos 1)) ∷ (Int (pos 2)) ∷ [])) ∷ ((rel_no 2), ((Int (pos 1)) ∷ (Int (pos 0)) ∷ [])) ∷
      ((rel_no 2), ((Int (pos 2)) ∷ (Int (pos 0)) ∷ [])) ∷ ((rel_no 2), ((Int (pos 10)) ∷ (Int (pos 0)) ∷ [])) ∷ []) ∷ []);
  txns =
      (record {
        name = [];
        tm = (tm_no 1);
        statements = ((Query ((record { part = 1; column = 1 }) ∷ (record { part = 2; column = 2 }) ∷
            []) ((rel_no 1) ∷ (rel_no 2) ∷ []) ((Same (record { part = 1; column = 2 }) (record { part = 2; column = 1 })) ∷ [])) ∷ []);
      }) ∷
      [];
  events =
      Submit (txn_no 1) ∷
      Settle ∷
      [];
}

abbrev pub log_of_reduced_at_two : Log
log_of_reduced_at_two = extended 85 input_of_reduced_at_two []

pub history_of_reduced_at_two :
    history log_of_reduced_at_two ≡
    (1, Submission (txn_no 1)) ∷ (
      1,
      Start (txn_no 1) 1 (class_no 1) (time_at 65) (Some (time_at 63)) ((record {
        number = 1;
        rel = (rel_no 1);
        frags = ((frag_no 1) ∷ []);
        restrictions = [];
      }) ∷ (record { number = 2; rel = (rel_no 2); frags = ((frag_no 2) ∷ (frag_no 3) ∷ []); restrictions = [] }) ∷ []),
    ) ∷
    (2, Arrive (txn_no 1) 1 (dm_no 1)) ∷
    (2, Answer (txn_no 1) 1 (dm_no 1)) ∷
    (3, Arrive (txn_no 1) 1 (dm_no 2)) ∷
    (3, Answer (txn_no 1) 1 (dm_no 2)) ∷
    (4, Arrive (txn_no 1) 1 (dm_no 3)) ∷
    (4, Answer (txn_no 1) 1 (dm_no 3)) ∷
    (34, Commit (txn_no 1) 1 (Rows ((((Int (pos 1)) ∷ (Int (pos 0)) ∷ []) ∷ []) ∷ [])) [] 3 2) ∷
    []
history_of_reduced_at_two = refl

pub all_of_reduced_at_two : (next input_of_reduced_at_two log_of_reduced_at_two ≡ None) × (length log_of_reduced_at_two ≡ 85) × (marks log_of_reduced_at_two ≡ 37)
all_of_reduced_at_two = (refl, refl, refl)
