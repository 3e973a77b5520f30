-- A put, and then a query under a further class list.
use Rattle.sdd_history_examples.proofs.All.{AreEras, Catalogue, HasSets, IsEraOf, KeepsAll, Le, Some, [], arith, both_classes, class_at, cond, given_to, lit<, lit≤, nat_lt, one_class, put_row, put_then_query, redeclares, refl, same_Some, slice_get, suc, table_of_one, table_of_two, two_eras, values_by, ℕ, ◌<◌, ◌∷◌, ◌≡◌, ◌≤◌}
use Rattle.sdd_history_examples.proofs.Answers.{PassAnswers}
use Rattle.sdd_history_examples.proofs.Applies.{PassApplies}
use Rattle.sdd_history_examples.proofs.Keeping.{keeps_all, no_rejections}
use Rattle.sdd_history_examples.proofs.Sound.{sound_both_classes}
use Rattle.sdd_history_examples.proofs.Starts.{PassStarts}
use Rattle.sdd_history_examples.proofs.Texts.{put_fits, values_fit, one_fits}
use Rattle.sdd_history_examples.proofs.WorkedTables.{is_one_class, is_second_class_list}

-- the class lists are those of one catalogue

first_home : (c : ℕ) → 1 ≤ c → c ≤ 1 → (class_at one_class c).tm ≡ (class_at both_classes c).tm
first_home c from to = grind arith

first_sets : (c : ℕ) → 1 ≤ c → c ≤ 1 → HasSets (class_at both_classes c) (class_at one_class c)
first_sets c from to = grind arith

first_is : IsEraOf both_classes one_class
first_is = record { tms = refl; dms = refl; relations = refl; fragments = refl; classes = lit≤ tt; home = first_home; sets = first_sets }

eras_rise : (k : ℕ) (a b : ℕ × Catalogue) → slice_get two_eras k ≡ Some a → slice_get two_eras (suc k) ≡ Some b → a.0 < b.0
eras_rise k a b p q = grind (arith, same_Some)

each_era : (k : ℕ) (a : ℕ × Catalogue) → slice_get two_eras k ≡ Some a → IsEraOf both_classes a.1
each_era k a p = grind (arith, same_Some, first_is)

are_two : AreEras both_classes two_eras
are_two = record { first = (one_class, refl); rise = eras_rise; each = each_era }

starts : PassStarts both_classes two_eras put_then_query redeclares
starts =
    record {
      submitted = (
        record { place = 0; submitted = refl; before = lit< tt; txn = given_to 1 (put_row 5 10 ∷ []); txn_is = refl; class_is = refl; uses_are = refl },
        (record { place = 4; submitted = refl; before = lit< tt; txn = given_to 1 (values_by Le 9 ∷ []); txn_is = refl; class_is = refl; uses_are = refl }, tt),
      );
      one_submit = refl;
      numbered = refl;
      time = refl;
      one_time = refl;
      rise = refl;
      in_turn = refl;
      after_earlier = refl;
      one_commit = refl;
      by_last = refl;
      bound_there = refl;
      bound = refl;
    }

answers : PassAnswers both_classes [] put_then_query redeclares
answers = record { one_answer = refl; answer_after = refl; commit_after = refl; answered_everywhere = refl; answered = refl; effects = (refl, (refl, tt)) }

applies : PassApplies both_classes redeclares
applies = record { of_commit = refl; one_apply = refl; rise = refl; none_left_out = refl; after_earlier = refl; has_earlier = refl; before_later = refl }

pub redeclares_keeps : KeepsAll both_classes two_eras [] put_then_query redeclares
redeclares_keeps =
    keeps_all both_classes two_eras [] put_then_query redeclares
    (record { sound = sound_both_classes; fit = (grind (arith, are_two, one_fits, put_fits, values_fit)); starts = starts; answers = answers; applies = applies; alone = refl; lists = record { apart = refl; one_era = refl } })
    (λ event. cond (nat_lt event 5) table_of_one table_of_two) (is_one_class, (is_second_class_list, tt)) refl
    (no_rejections both_classes two_eras redeclares refl)
