-- Two transactions of one class: the second starts when the first is committed.
use Rattle.sdd_history_examples.proofs.All.{KeepsAll, Le, [], arith, given_to, lit<, one_after_other, one_class, one_era, put_row, refl, table_of_one, two_of_one_class, values_by, ◌∷◌}
use Rattle.sdd_history_examples.proofs.Answers.{PassAnswers}
use Rattle.sdd_history_examples.proofs.Applies.{PassApplies}
use Rattle.sdd_history_examples.proofs.Fitting.{PassFit, are_eras}
use Rattle.sdd_history_examples.proofs.Keeping.{keeps_all, no_rejections}
use Rattle.sdd_history_examples.proofs.Sound.{sound_one_class}
use Rattle.sdd_history_examples.proofs.Starts.{PassStarts}
use Rattle.sdd_history_examples.proofs.Texts.{put_fits, values_fit, two_fit}
use Rattle.sdd_history_examples.proofs.WorkedTables.{is_one_class}

fits : PassFit one_class (one_era one_class) [] two_of_one_class one_after_other
fits =
    record {
      are_eras = are_eras one_class;
      rows_fit = tt;
      txns_fit = grind (arith, two_fit, one_class, values_by, put_row, values_fit, put_fits);
      numbers_exist = refl;
      txns_exist = refl;
    }

starts : PassStarts one_class (one_era one_class) two_of_one_class one_after_other
starts =
    record {
      submitted = (
        record { place = 0; submitted = refl; before = lit< tt; txn = given_to 1 (values_by Le 9 ∷ put_row 1 1 ∷ []); txn_is = refl; class_is = refl; uses_are = refl },
        (record { place = 2; submitted = refl; before = lit< tt; txn = given_to 1 (values_by Le 9 ∷ put_row 1 2 ∷ []); txn_is = refl; class_is = refl; uses_are = refl }, tt),
      );
      one_submit = refl;
      numbered = refl;
      time = refl;
      one_time = refl;
      rise = refl;
      in_turn = refl;
      after_earlier = refl;
      one_commit = refl;
      by_last = refl;
      bound_there = refl;
      bound = refl;
    }

answers : PassAnswers one_class [] two_of_one_class one_after_other
answers = record { one_answer = refl; answer_after = refl; commit_after = refl; answered_everywhere = refl; answered = refl; effects = (refl, (refl, tt)) }

applies : PassApplies one_class one_after_other
applies = record { of_commit = refl; one_apply = refl; rise = refl; none_left_out = refl; after_earlier = refl; has_earlier = refl; before_later = refl }

pub one_after_other_keeps : KeepsAll one_class (one_era one_class) [] two_of_one_class one_after_other
one_after_other_keeps =
    keeps_all one_class (one_era one_class) [] two_of_one_class one_after_other
    (record { sound = sound_one_class; fit = fits; starts = starts; answers = answers; applies = applies; alone = refl; lists = record { apart = refl; one_era = refl } })
    (λ event. table_of_one) (is_one_class, (is_one_class, tt)) refl (no_rejections one_class (one_era one_class) one_after_other refl)
