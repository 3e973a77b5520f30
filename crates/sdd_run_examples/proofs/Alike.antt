-- What two modules applied alike, and which of two puts was submitted before the other one.
use Rattle.std.proofs.Common.{ap, arith, eqb-true, lit<, subst, sym, ◌∙◌}
use Rattle.std.proofs.lemmas.Bool.{false≢true}
use Rattle.std.specs.Prelude.{ℕ, ◌==◌, ◌&&◌, ◌≡◌, Bool, true, if◌then◌else◌, refl}
use Rattle.std.specs.List.{list_any}
use Rattle.sdd_run.specs.progress.obligations.All.{AppliedBefore, Apply, Change, Commit, Committed, IsCommitted, IsSubmitted, Rec, class_no, dm_no, time_at, txn_no}
use Rattle.sdd_run.specs.progress.obligations.history.declared.record.Rec.TheVariants.{Submit}
use Rattle.sdd_run.specs.progress.obligations.laws.Copied.{AreAppliedAlike}
use Rattle.sdd_run.specs.progress.obligations.links.Attempts.{changes}
use Rattle.sdd_run.specs.ComesBefore.{IsSubmittedBefore}
use Rattle.sdd_run_examples.proofs.AtPlaces.{passes_place}
use Rattle.sdd_run_examples.specs.Histories.{applied_at_two, first_put, later_put}

-- Submits

abbrev at_its_place : ℕ → Rec → Bool
at_its_place k (Submit txn) = if txn.0 == 1 then k == 0 else k == 3
at_its_place k r = true

first_there : (k : ℕ) → IsSubmitted applied_at_two 1 k → k ≡ 0
first_there k s = eqb-true k 0 (passes_place at_its_place applied_at_two k (Submit (txn_no 1)) refl s)

later_there : (k : ℕ) → IsSubmitted applied_at_two 2 k → k ≡ 3
later_there k s = eqb-true k 3 (passes_place at_its_place applied_at_two k (Submit (txn_no 2)) refl s)

pub first_before : IsSubmittedBefore applied_at_two first_put later_put
first_before = record { first_place = 0; second_place = 3; first = refl; second = refl; before = lit< tt }

pub not_turned : IsSubmittedBefore applied_at_two later_put first_put → ⊥
not_turned b = let first = later_there b.first_place b.first in let second = first_there b.second_place b.second in
    omega (arith, b.before, first, second)

pub not_itself : IsSubmittedBefore applied_at_two first_put first_put → ⊥
not_itself b = let first = first_there b.first_place b.first in let second = first_there b.second_place b.second in
    omega (arith, b.before, first, second)

-- Applies

abbrev applied_where : ℕ → Rec → Bool
applied_where k (Apply txn class dm ts) = if dm.0 == 1 then txn.0 == 1 && k == 6 else (if txn.0 == 1 then k == 7 else k == 8)
applied_where k r = true

first_at_one : AppliedBefore applied_at_two 1 1 9
first_at_one = record { place = 6; applied = record { class = 1; ts = 65; is_recorded = refl }; before = lit< tt }

first_at_two : AppliedBefore applied_at_two 1 2 9
first_at_two = record { place = 7; applied = record { class = 1; ts = 65; is_recorded = refl }; before = lit< tt }

later_at_two : AppliedBefore applied_at_two 2 2 9
later_at_two = record { place = 8; applied = record { class = 1; ts = 129; is_recorded = refl }; before = lit< tt }

place_is : (n d j : ℕ) (a : AppliedBefore applied_at_two n d j)
    → (if d == 1 then n == 1 && a.place == 6 else (if n == 1 then a.place == 7 else a.place == 8)) ≡ true
place_is n d j a =
    passes_place applied_where applied_at_two a.place (Apply (txn_no n) (class_no a.applied.class) (dm_no d) (time_at a.applied.ts)) refl a.applied.is_recorded

-- what changes the first fragment is of the first put
abbrev of_first : ℕ → Rec → Bool
of_first k (Commit txn attempt reply changed values rows) = if list_any (λ (c : Change). c.frag.0 == 1) changed then txn.0 == 1 else true
of_first k r = true

changes_first : (t : Committed) → IsCommitted applied_at_two t → changes t 1 ≡ true → t.start.txn ≡ 1
changes_first t c touches =
    let at = passes_place of_first applied_at_two t.place (Commit (txn_no t.start.txn) t.start.number t.reply t.changes t.values t.rows) refl c.committed in
    eqb-true t.start.txn 1 (sym (ap (λ b. if b then t.start.txn == 1 else true) touches) ∙ at)

pub alike : AreAppliedAlike applied_at_two 1 1 9 2 9
alike t c touches =
    let first = changes_first t c touches in (
      λ _. subst (λ n. AppliedBefore applied_at_two n 2 9) (sym first) first_at_two,
      λ _. subst (λ n. AppliedBefore applied_at_two n 1 9) (sym first) first_at_one,
    )

pub other_not : AreAppliedAlike applied_at_two 2 1 9 2 9 → ⊥
other_not same =
    let there = (same later_put (record { started = refl; committed = refl }) refl).1 later_at_two in
    false≢true (place_is 2 1 9 there)

pub before_not : AreAppliedAlike applied_at_two 1 1 7 2 7 → ⊥
before_not same =
    let there = (same first_put (record { started = refl; committed = refl }) refl).0
    (record { place = 6; applied = record { class = 1; ts = 65; is_recorded = refl }; before = lit< tt }) in
    let at : there.place ≡ 7 = eqb-true there.place 7 (place_is 1 2 7 there) in
    omega (arith, at, there.before)
