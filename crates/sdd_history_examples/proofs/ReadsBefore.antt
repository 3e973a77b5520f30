-- A put and a query that is answered before the put comes to its module.
use Rattle.sdd_history_examples.proofs.All.{KeepsAll, Le, [], arith, bridge, given_to, lit<, one_era, put_and_query, put_row, reads_before, refl, table_of_bridge, values_by, ◌∷◌}
use Rattle.sdd_history_examples.proofs.Answers.{PassAnswers}
use Rattle.sdd_history_examples.proofs.Applies.{PassApplies}
use Rattle.sdd_history_examples.proofs.Fitting.{PassFit, are_eras}
use Rattle.sdd_history_examples.proofs.Keeping.{keeps_all, no_rejections}
use Rattle.sdd_history_examples.proofs.Sound.{sound_bridge}
use Rattle.sdd_history_examples.proofs.Starts.{PassStarts}
use Rattle.sdd_history_examples.proofs.WorkedTables.{is_bridge}
use Rattle.sdd_history_examples.proofs.Texts.{put_fits, values_fit, one_fits}

fits : PassFit bridge (one_era bridge) [] put_and_query reads_before
fits =
    record {
      are_eras = are_eras bridge;
      rows_fit = tt;
      txns_fit = grind (arith, one_fits, bridge, put_row, put_fits, values_by, values_fit);
      numbers_exist = refl;
      txns_exist = refl;
    }

starts : PassStarts bridge (one_era bridge) put_and_query reads_before
starts =
    record {
      submitted = (
        record { place = 0; submitted = refl; before = lit< tt; txn = given_to 1 (put_row 1 7 ∷ []); txn_is = refl; class_is = refl; uses_are = refl },
        (record { place = 3; submitted = refl; before = lit< tt; txn = given_to 2 (values_by Le 9 ∷ []); txn_is = refl; class_is = refl; uses_are = refl }, tt),
      );
      one_submit = refl;
      numbered = refl;
      time = refl;
      one_time = refl;
      rise = refl;
      in_turn = refl;
      after_earlier = refl;
      one_commit = refl;
      by_last = refl;
      bound_there = refl;
      bound = refl;
    }

answers : PassAnswers bridge [] put_and_query reads_before
answers = record { one_answer = refl; answer_after = refl; commit_after = refl; answered_everywhere = refl; answered = refl; effects = (refl, (refl, tt)) }

applies : PassApplies bridge reads_before
applies = record { of_commit = refl; one_apply = refl; rise = refl; none_left_out = refl; after_earlier = refl; has_earlier = refl; before_later = refl }

pub reads_before_keeps : KeepsAll bridge (one_era bridge) [] put_and_query reads_before
reads_before_keeps =
    keeps_all bridge (one_era bridge) [] put_and_query reads_before
    (record { sound = sound_bridge; fit = fits; starts = starts; answers = answers; applies = applies; alone = refl; lists = record { apart = refl; one_era = refl } })
    (λ event. table_of_bridge) (is_bridge, (is_bridge, tt)) refl (no_rejections bridge (one_era bridge) reads_before refl)
