-- Attempts that wait, that are rejected, and that do neither; and when one is answered.
use Rattle.std.proofs.Common.{ap, sym, ◌∙◌}
use Rattle.std.proofs.lemmas.Bool.{false≢true}
use Rattle.std.specs.Prelude.{ℕ, ◌==◌, ◌&&◌, ◌≡◌, Bool, true, false, refl}
use Rattle.sdd_run.specs.progress.obligations.All.{Answer, Rec, Reject, Wait, class_no, dm_no, time_at, txn_no}
use Rattle.sdd_run.specs.progress.obligations.links.Examples.{reads_before, starts_again, waits_for_other}
use Rattle.sdd_run.specs.Free.{IsAnsweredWithin, IsUndisturbed}
use Rattle.sdd_run_examples.proofs.AtPlaces.{passes_at}
use Rattle.sdd_run_examples.specs.Histories.{asked, rejected, waited}

-- neither a Wait nor a Reject
abbrev is_calm : ℕ → Rec → Bool
is_calm event (Wait txn attempt dm conds) = false
is_calm event (Reject txn attempt dm class write) = false
is_calm event r = true

pub is_undisturbed : IsUndisturbed reads_before asked
is_undisturbed = record {
  no_wait = λ d place conds there. false≢true (passes_at is_calm reads_before place (Wait (txn_no 2) 1 (dm_no d) conds) refl there);
  no_reject = λ d place class write there.
      false≢true (passes_at is_calm reads_before place (Reject (txn_no 2) 1 (dm_no d) (class_no class) (time_at write)) refl there);
}

pub rejected_is_not : IsUndisturbed starts_again rejected → ⊥
rejected_is_not u = u.no_reject 1 7 2 66 refl

pub waited_is_not : IsUndisturbed waits_for_other waited → ⊥
waited_is_not u = u.no_wait 1 5 _ refl

-- Answers: of transaction 2 alone, at module 1, in event 4
abbrev is_its_answer : ℕ → Rec → Bool
is_its_answer event (Answer txn attempt dm) = event == 4 && (txn.0 == 2 && dm.0 == 1)
is_its_answer event r = true

pub answered_in_four : IsAnsweredWithin reads_before (dm_no 1) (txn_no 2) 1 4
answered_in_four = record { place = 6; answered = refl; event_is = refl }

answer_is : (d n event : ℕ) → IsAnsweredWithin reads_before (dm_no d) (txn_no n) 1 event → (event == 4 && (n == 2 && d == 1)) ≡ true
answer_is d n event a =
    ap (λ e. e == 4 && (n == 2 && d == 1)) (sym a.event_is) ∙ passes_at is_its_answer reads_before a.place (Answer (txn_no n) 1 (dm_no d)) refl a.answered

pub not_in_five : IsAnsweredWithin reads_before (dm_no 1) (txn_no 2) 1 5 → ⊥
not_in_five a = false≢true (answer_is 1 2 5 a)

pub not_at_two : IsAnsweredWithin reads_before (dm_no 2) (txn_no 2) 1 4 → ⊥
not_at_two a = false≢true (answer_is 2 2 4 a)

pub not_of_one : IsAnsweredWithin reads_before (dm_no 1) (txn_no 1) 1 4 → ⊥
not_of_one a = false≢true (answer_is 1 1 4 a)
