-- A query of two modules, which waits at both for the puts that are up to its time.
use Rattle.sdd_history_examples.proofs.All.{KeepsAll, [], all_rows, arith, given_to, lit<, one_era, one_reader, put_row, refl, rows_of_two, table_of_one_reader, two_puts_and_query, waits_at_two, ◌∷◌}
use Rattle.sdd_history_examples.proofs.Answers.{PassAnswers}
use Rattle.sdd_history_examples.proofs.Applies.{PassApplies}
use Rattle.sdd_history_examples.proofs.Fitting.{PassFit, are_eras}
use Rattle.sdd_history_examples.proofs.Keeping.{keeps_all, no_rejections}
use Rattle.sdd_history_examples.proofs.Sound.{sound_one_reader}
use Rattle.sdd_history_examples.proofs.Starts.{PassStarts}
use Rattle.sdd_history_examples.proofs.WorkedTables.{is_one_reader}
use Rattle.sdd_history_examples.proofs.Texts.{row_fits, put_fits, all_fit, one_fits, two_fit}

fits : PassFit one_reader (one_era one_reader) rows_of_two two_puts_and_query waits_at_two
fits =
    record {
      are_eras = are_eras one_reader;
      rows_fit = (row_fits 2 one_reader.classes 1 0, (row_fits 2 one_reader.classes 11 0, tt));
      txns_fit = grind (arith, two_fit, one_reader, put_row, put_fits, one_fits, all_rows, all_fit);
      numbers_exist = refl;
      txns_exist = refl;
    }

starts : PassStarts one_reader (one_era one_reader) two_puts_and_query waits_at_two
starts =
    record {
      submitted = (
        record { place = 0; submitted = refl; before = lit< tt; txn = given_to 1 (put_row 1 7 ∷ put_row 11 7 ∷ []); txn_is = refl; class_is = refl; uses_are = refl },
        (record { place = 3; submitted = refl; before = lit< tt; txn = given_to 2 (all_rows ∷ []); txn_is = refl; class_is = refl; uses_are = refl }, tt),
      );
      one_submit = refl;
      numbered = refl;
      time = refl;
      one_time = refl;
      rise = refl;
      in_turn = refl;
      after_earlier = refl;
      one_commit = refl;
      by_last = refl;
      bound_there = refl;
      bound = refl;
    }

answers : PassAnswers one_reader rows_of_two two_puts_and_query waits_at_two
answers = record { one_answer = refl; answer_after = refl; commit_after = refl; answered_everywhere = refl; answered = refl; effects = (refl, (refl, tt)) }

applies : PassApplies one_reader waits_at_two
applies = record { of_commit = refl; one_apply = refl; rise = refl; none_left_out = refl; after_earlier = refl; has_earlier = refl; before_later = refl }

pub waits_at_two_keeps : KeepsAll one_reader (one_era one_reader) rows_of_two two_puts_and_query waits_at_two
waits_at_two_keeps =
    keeps_all one_reader (one_era one_reader) rows_of_two two_puts_and_query waits_at_two
    (record { sound = sound_one_reader; fit = fits; starts = starts; answers = answers; applies = applies; alone = refl; lists = record { apart = refl; one_era = refl } })
    (λ event. table_of_one_reader) (is_one_reader, (is_one_reader, tt)) refl (no_rejections one_reader (one_era one_reader) waits_at_two refl)
