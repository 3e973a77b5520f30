-- A query that comes after a later put is rejected, and starts again with a greater timestamp.
use Rattle.sdd_history_examples.proofs.All.{Attempt, Committed, Cond, Contains-here, IsAgain, KeepsAll, Le, Rows, Some, Ts, [], arith, class_no, crossing, each_has, frag_no, given_to, in_attempts, lit<, lit≤, low_keys, one_era, put, put_row, query_and_put, refl, same_Some, starts_again, subst, table_of_crossing, time_at, values_by, ◌<◌, ◌∷◌, ◌≡◌}
use Rattle.sdd_history_examples.proofs.Answers.{PassAnswers}
use Rattle.sdd_history_examples.proofs.Applies.{PassApplies}
use Rattle.sdd_history_examples.proofs.Fitting.{PassFit, are_eras}
use Rattle.sdd_history_examples.proofs.Keeping.{keeps_all}
use Rattle.sdd_history_examples.proofs.Sound.{sound_crossing}
use Rattle.sdd_history_examples.proofs.Starts.{PassStarts}
use Rattle.sdd_history_examples.proofs.WorkedTables.{is_crossing}
use Rattle.sdd_history_examples.proofs.Texts.{put_fits, values_fit, one_fits}

fits : PassFit crossing (one_era crossing) [] query_and_put starts_again
fits =
    record {
      are_eras = are_eras crossing;
      rows_fit = tt;
      txns_fit = grind (arith, one_fits, crossing, values_by, values_fit, put_row, put_fits);
      numbers_exist = refl;
      txns_exist = refl;
    }

starts : PassStarts crossing (one_era crossing) query_and_put starts_again
starts =
    record {
      submitted = (
        record { place = 0; submitted = refl; before = lit< tt; txn = given_to 1 (values_by Le 9 ∷ []); txn_is = refl; class_is = refl; uses_are = refl },
        (
          record { place = 2; submitted = refl; before = lit< tt; txn = given_to 2 (put_row 1 1 ∷ []); txn_is = refl; class_is = refl; uses_are = refl },
          (record { place = 0; submitted = refl; before = lit< tt; txn = given_to 1 (values_by Le 9 ∷ []); txn_is = refl; class_is = refl; uses_are = refl }, tt),
        ),
      );
      one_submit = refl;
      numbered = refl;
      time = refl;
      one_time = refl;
      rise = refl;
      in_turn = refl;
      after_earlier = refl;
      one_commit = refl;
      by_last = refl;
      bound_there = refl;
      bound = refl;
    }

answers : PassAnswers crossing [] query_and_put starts_again
answers = record { one_answer = refl; answer_after = refl; commit_after = refl; answered_everywhere = refl; answered = refl; effects = (refl, (refl, tt)) }

applies : PassApplies crossing starts_again
applies = record { of_commit = refl; one_apply = refl; rise = refl; none_left_out = refl; after_earlier = refl; has_earlier = refl; before_later = refl }

-- the first attempt, which is rejected, and the one after it

abbrev first : Attempt
first = record { txn = 1; number = 1; class = 1; ts = 65; p2 = Some (time_at 63); uses = low_keys; place = 1 }

abbrev again : Attempt
again = record { txn = 1; number = 2; class = 1; ts = 129; p2 = Some (time_at 127); uses = low_keys; place = 8 }

-- the put
abbrev writer : Committed
writer =
    record {
      start = record { txn = 2; number = 1; class = 2; ts = 66; p2 = Some (time_at 63); uses = []; place = 3 };
      reply = Rows [];
      changes = put 1 1 1 ∷ [];
      values = 0;
      rows = 0;
      place = 4;
    }

-- what the first attempt asked
abbrev condition : Cond
condition = record { class = class_no 2; time = time_at 65; frags = frag_no 1 ∷ [] }

below : (p2 : Ts) → Some (time_at 127) ≡ Some p2 → 66 < p2.0
below p2 e = subst (λ (t : Ts). 66 < t.0) (same_Some (time_at 127) p2 e) (lit< tt)

starts_since : IsAgain crossing (one_era crossing) starts_again again
starts_since =
    record {
      earlier = first;
      started = refl;
      txn_is = refl;
      number_is = refl;
      dm = 1;
      class = 2;
      write = 66;
      place = 7;
      rejected = refl;
      before = lit< tt;
      cond = condition;
      condition = record { table = table_of_crossing; table_is = is_crossing; there = Contains-here condition [] };
      class_is = refl;
      late = lit≤ tt;
      writer = writer;
      committed = record { started = refl; committed = refl };
      writer_class = refl;
      writer_time = refl;
      changes = record { fragment = 1; changed = refl; named = refl };
      applied = record { place = 5; applied = record { class = 2; ts = 66; is_recorded = refl }; before = lit< tt };
      below = lit< tt;
      below_bound = below;
    }

pub starts_again_keeps : KeepsAll crossing (one_era crossing) [] query_and_put starts_again
starts_again_keeps =
    keeps_all crossing (one_era crossing) [] query_and_put starts_again
    (record { sound = sound_crossing; fit = fits; starts = starts; answers = answers; applies = applies; alone = refl; lists = record { apart = refl; one_era = refl } })
    (λ event. table_of_crossing) (is_crossing, (is_crossing, (is_crossing, tt))) refl (grind (arith, again, each_has, starts_since, in_attempts))
