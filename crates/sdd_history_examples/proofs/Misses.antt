-- Neither of two transactions waits for the other, and each is answered before the other's put is applied: all laws but that
-- of read conditions are kept, and each precedes the other.
use Rattle.sdd_history_examples.proofs.All.{BreaksConditions, Committed, Cond, Contains-here, Ge, IsCommitted, KeepsConditions, Le, Rows, Some, [], arith, before_applied, class_no, crossing, false≢true, frag_no, given_to, high_keys, lit<, low_keys, misses_both, one_era, put, put_row, refl, table_of_crossing, time_at, two_of_both, values_by, ◌∷◌}
use Rattle.sdd_history_examples.proofs.Answers.{PassAnswers}
use Rattle.sdd_history_examples.proofs.Applies.{PassApplies}
use Rattle.sdd_history_examples.proofs.Fitting.{PassFit, are_eras}
use Rattle.sdd_history_examples.proofs.Keeping.{keeps_others, no_rejections}
use Rattle.sdd_history_examples.proofs.Sound.{sound_crossing}
use Rattle.sdd_history_examples.proofs.Starts.{PassStarts}
use Rattle.sdd_history_examples.proofs.WorkedTables.{is_crossing}
use Rattle.sdd_history_examples.proofs.Texts.{put_fits, values_fit, two_fit}

fits : PassFit crossing (one_era crossing) [] two_of_both misses_both
fits =
    record {
      are_eras = are_eras crossing;
      rows_fit = tt;
      txns_fit = grind (arith, two_fit, crossing, values_by, put_row, values_fit, put_fits);
      numbers_exist = refl;
      txns_exist = refl;
    }

starts : PassStarts crossing (one_era crossing) two_of_both misses_both
starts =
    record {
      submitted = (
        record { place = 0; submitted = refl; before = lit< tt; txn = given_to 1 (values_by Le 9 ∷ put_row 11 1 ∷ []); txn_is = refl; class_is = refl; uses_are = refl },
        (record { place = 2; submitted = refl; before = lit< tt; txn = given_to 2 (values_by Ge 10 ∷ put_row 1 1 ∷ []); txn_is = refl; class_is = refl; uses_are = refl }, tt),
      );
      one_submit = refl;
      numbered = refl;
      time = refl;
      one_time = refl;
      rise = refl;
      in_turn = refl;
      after_earlier = refl;
      one_commit = refl;
      by_last = refl;
      bound_there = refl;
      bound = refl;
    }

answers : PassAnswers crossing [] two_of_both misses_both
answers = record { one_answer = refl; answer_after = refl; commit_after = refl; answered_everywhere = refl; answered = refl; effects = (refl, (refl, tt)) }

applies : PassApplies crossing misses_both
applies = record { of_commit = refl; one_apply = refl; rise = refl; none_left_out = refl; after_earlier = refl; has_earlier = refl; before_later = refl }

-- the two committed transactions

abbrev first : Committed
first =
    record {
      start = record { txn = 1; number = 1; class = 1; ts = 65; p2 = Some (time_at 63); uses = low_keys; place = 1 };
      reply = Rows ([] ∷ []);
      changes = put 2 11 1 ∷ [];
      values = 0;
      rows = 0;
      place = 6;
    }

abbrev second : Committed
second =
    record {
      start = record { txn = 2; number = 1; class = 2; ts = 66; p2 = Some (time_at 63); uses = high_keys; place = 3 };
      reply = Rows ([] ∷ []);
      changes = put 1 1 1 ∷ [];
      values = 0;
      rows = 0;
      place = 7;
    }

first_is : IsCommitted misses_both first
first_is = record { started = refl; committed = refl }

second_is : IsCommitted misses_both second
second_is = record { started = refl; committed = refl }

-- the second has to see the first, whose timestamp is below its own
abbrev condition : Cond
condition = record { class = class_no 1; time = time_at 66; frags = frag_no 2 ∷ [] }

not_split : ¬ KeepsConditions crossing (one_era crossing) misses_both
not_split laws =
    let split =
    laws.met second.start 1 4 condition first second_is.started refl
    (record { table = table_of_crossing; table_is = is_crossing; there = Contains-here condition [] }) first_is refl
    (record { fragment = 2; changed = refl; copied = refl; named = refl }) in
    false≢true (before_applied misses_both 1 1 4 (split.1 (lit< tt)))

pub misses_both_breaks : BreaksConditions crossing (one_era crossing) [] two_of_both misses_both
misses_both_breaks =
    record {
      others =
          keeps_others crossing (one_era crossing) [] two_of_both misses_both
          (record { sound = sound_crossing; fit = fits; starts = starts; answers = answers; applies = applies; alone = refl; lists = record { apart = refl; one_era = refl } })
          (no_rejections crossing (one_era crossing) misses_both refl);
      broken = not_split;
      cycle = λ none.
          none first (second ∷ []) (grind (arith, first, first_is, second, second_is));
    }
