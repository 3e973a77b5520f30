-- Of two moments of a run that follow each other one event lies between.
use Rattle.std.proofs.Common.{ap, arith, inl, inr, ◌∙◌}
use Rattle.std.proofs.lemmas.Bool.{cases_lt}
use Rattle.std.specs.Prelude.{ℕ, suc, ◌<◌, ◌≡◌, ◌≤◌, [], ◌∷◌}
use Rattle.sdd_inside_laws.proofs.Resting.{rests_at}
use Rattle.sdd_app_inside.specs.watch.obligations.All.{Entry, Input, IsGood, IsTheLog, Log, Mark, Redeclares, marks}
use Rattle.sdd_app_inside.proofs.watch.EachEvent.{IsMarkedBetween, at_below, at_self, goes_on, is_between, lawful_at, marks_next}
use Rattle.sdd_app_inside.specs.watch.moments.Moments.{at_event}
use Rattle.sdd_app_inside.specs.watch.moments.Changes.{IsBetween}

one_mark : (x : Entry) (log : Log) → marks (x ∷ log) ≤ suc (marks log)
one_mark (Mark e) log = omega arith
one_mark (Redeclares t) log = omega arith
one_mark _ log = omega arith

-- when so many events are over, there were so many
pub marks_at : (n : ℕ) (log : Log) → n ≤ marks log → marks (at_event n log) ≡ n
marks_at n [] l = omega (arith, l)
marks_at n (x ∷ log) l = elim (cases_lt n (marks (x ∷ log))) [
  | inl below ↦ ap marks (at_below n x log below) ∙ marks_at n log (omega (arith, below, one_mark x log))
  | inr over ↦ ap marks (at_self n (x ∷ log) over) ∙ (omega (arith, over, l))
]

pub between_at : (g : Input) (n : ℕ) (log : Log) → IsGood g → IsTheLog g log → n < marks log → IsBetween g (at_event n log) (at_event (suc n) log)
between_at g n log good h less =
    let m = marks_next g n log h.lawful less in
    let before = marks_at n log (omega (arith, less)) in
    let after = marks_at (suc n) log (omega (arith, less)) in
    let grows : marks (at_event n log) < marks (at_event (suc n) log) = omega (arith, before, after) in
    let lawful = lawful_at g (suc n) log h.lawful in
    let p = goes_on g (at_event n log) (at_event (suc n) log) m.entry m.event (lawful_at g n log h.lawful) lawful m.event_is m.next_is grows in
    let marked : IsMarkedBetween g (at_event n log) (at_event (suc n) log) m.event =
    record {
      entry = m.entry;
      event_is = m.event_is;
      more = p.0;
      parts = p.1;
      lawful = lawful;
      marks_are = omega (arith, before, after);
    } in
    is_between g (at_event n log) (at_event (suc n) log) m.event (rests_at g n log good h) (rests_at g (suc n) log good h) marked
