-- Each of two transactions reads what the other writes, and the second waits for the first.
use Rattle.sdd_history_examples.proofs.All.{Ge, KeepsAll, Le, [], arith, crossing, given_to, lit<, one_era, put_row, refl, table_of_crossing, two_of_both, values_by, waits_for_other, ◌∷◌}
use Rattle.sdd_history_examples.proofs.Answers.{PassAnswers}
use Rattle.sdd_history_examples.proofs.Applies.{PassApplies}
use Rattle.sdd_history_examples.proofs.Fitting.{PassFit, are_eras}
use Rattle.sdd_history_examples.proofs.Keeping.{keeps_all, no_rejections}
use Rattle.sdd_history_examples.proofs.Sound.{sound_crossing}
use Rattle.sdd_history_examples.proofs.Starts.{PassStarts}
use Rattle.sdd_history_examples.proofs.WorkedTables.{is_crossing}
use Rattle.sdd_history_examples.proofs.Texts.{put_fits, values_fit, two_fit}

fits : PassFit crossing (one_era crossing) [] two_of_both waits_for_other
fits =
    record {
      are_eras = are_eras crossing;
      rows_fit = tt;
      txns_fit = grind (arith, two_fit, crossing, values_by, put_row, values_fit, put_fits);
      numbers_exist = refl;
      txns_exist = refl;
    }

starts : PassStarts crossing (one_era crossing) two_of_both waits_for_other
starts =
    record {
      submitted = (
        record { place = 0; submitted = refl; before = lit< tt; txn = given_to 1 (values_by Le 9 ∷ put_row 11 1 ∷ []); txn_is = refl; class_is = refl; uses_are = refl },
        (record { place = 2; submitted = refl; before = lit< tt; txn = given_to 2 (values_by Ge 10 ∷ put_row 1 1 ∷ []); txn_is = refl; class_is = refl; uses_are = refl }, tt),
      );
      one_submit = refl;
      numbered = refl;
      time = refl;
      one_time = refl;
      rise = refl;
      in_turn = refl;
      after_earlier = refl;
      one_commit = refl;
      by_last = refl;
      bound_there = refl;
      bound = refl;
    }

answers : PassAnswers crossing [] two_of_both waits_for_other
answers = record { one_answer = refl; answer_after = refl; commit_after = refl; answered_everywhere = refl; answered = refl; effects = (refl, (refl, tt)) }

applies : PassApplies crossing waits_for_other
applies = record { of_commit = refl; one_apply = refl; rise = refl; none_left_out = refl; after_earlier = refl; has_earlier = refl; before_later = refl }

pub waits_for_other_keeps : KeepsAll crossing (one_era crossing) [] two_of_both waits_for_other
waits_for_other_keeps =
    keeps_all crossing (one_era crossing) [] two_of_both waits_for_other
    (record { sound = sound_crossing; fit = fits; starts = starts; answers = answers; applies = applies; alone = refl; lists = record { apart = refl; one_era = refl } })
    (λ event. table_of_crossing) (is_crossing, (is_crossing, tt)) refl (no_rejections crossing (one_era crossing) waits_for_other refl)
