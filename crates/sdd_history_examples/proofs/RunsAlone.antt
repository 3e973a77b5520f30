-- A transaction that no class covers runs between two of one class.
use Rattle.sdd_history_examples.proofs.All.{KeepsAll, Le, [], arith, given_to, lit<, one_era, one_writer, put_row, refl, runs_alone, table_of_one, undeclared_between, values_by, ◌∷◌}
use Rattle.sdd_history_examples.proofs.Answers.{PassAnswers}
use Rattle.sdd_history_examples.proofs.Applies.{PassApplies}
use Rattle.sdd_history_examples.proofs.Fitting.{PassFit, are_eras}
use Rattle.sdd_history_examples.proofs.Keeping.{keeps_all, no_rejections}
use Rattle.sdd_history_examples.proofs.Sound.{sound_one_writer}
use Rattle.sdd_history_examples.proofs.Starts.{PassStarts}
use Rattle.sdd_history_examples.proofs.Texts.{put_fits, values_fit, one_fits, two_fit}
use Rattle.sdd_history_examples.proofs.WorkedTables.{is_one_writer}

fits : PassFit one_writer (one_era one_writer) [] undeclared_between runs_alone
fits =
    record {
      are_eras = are_eras one_writer;
      rows_fit = tt;
      txns_fit = grind (arith, one_fits, one_writer, put_row, put_fits, two_fit, values_by, values_fit);
      numbers_exist = refl;
      txns_exist = refl;
    }

starts : PassStarts one_writer (one_era one_writer) undeclared_between runs_alone
starts =
    record {
      submitted = (
        record { place = 0; submitted = refl; before = lit< tt; txn = given_to 1 (put_row 1 5 ∷ []); txn_is = refl; class_is = refl; uses_are = refl },
        (
          record { place = 3; submitted = refl; before = lit< tt; txn = given_to 2 (values_by Le 9 ∷ put_row 11 5 ∷ []); txn_is = refl; class_is = refl; uses_are = refl },
          (record { place = 12; submitted = refl; before = lit< tt; txn = given_to 1 (put_row 1 6 ∷ []); txn_is = refl; class_is = refl; uses_are = refl }, tt),
        ),
      );
      one_submit = refl;
      numbered = refl;
      time = refl;
      one_time = refl;
      rise = refl;
      in_turn = refl;
      after_earlier = refl;
      one_commit = refl;
      by_last = refl;
      bound_there = refl;
      bound = refl;
    }

answers : PassAnswers one_writer [] undeclared_between runs_alone
answers =
    record { one_answer = refl; answer_after = refl; commit_after = refl; answered_everywhere = refl; answered = refl; effects = (refl, (refl, (refl, tt))) }

applies : PassApplies one_writer runs_alone
applies = record { of_commit = refl; one_apply = refl; rise = refl; none_left_out = refl; after_earlier = refl; has_earlier = refl; before_later = refl }

pub runs_alone_keeps : KeepsAll one_writer (one_era one_writer) [] undeclared_between runs_alone
runs_alone_keeps =
    keeps_all one_writer (one_era one_writer) [] undeclared_between runs_alone
    (record { sound = sound_one_writer; fit = fits; starts = starts; answers = answers; applies = applies; alone = refl; lists = record { apart = refl; one_era = refl } })
    (λ event. table_of_one) (is_one_writer, (is_one_writer, (is_one_writer, tt))) refl (no_rejections one_writer (one_era one_writer) runs_alone refl)
