-- The log when so many events are over.
use Rattle.sdd_watch.proofs.All.{MarksNext, one_more_mark, Entry, Event, Input, IsLawful, Log, Mark, Redeclare, Redeclares, Some, [], ap, arith, at_event, cases_lt, false, if◌then◌else◌, inl, inr, le-leb, lt-leb, marks, marks_above, nat_le, refl, subst, sym, true, ℕ, ◌++◌, ◌+◌, ◌<◌, ◌∙◌, ◌∷◌, ◌≡◌, ◌≤◌}
pub use Rattle.sdd_moments.proofs.schedule.EachEvent.{IsMarkedBetween, event_of, goes_on, is_between}

-- the log when so many events are over

pub at_self : (n : ℕ) (log : Log) → marks log ≤ n → at_event n log ≡ log
at_self n [] h = refl
at_self n (x ∷ log) h = ap (λ b. if b then x ∷ log else at_event n log) (le-leb (marks (x ∷ log)) n h)

pub at_below : (n : ℕ) (x : Entry) (log : Log) → n < marks (x ∷ log) → at_event n (x ∷ log) ≡ at_event n log
at_below n x log h = ap (λ b. if b then x ∷ log else at_event n log) (lt-leb (marks (x ∷ log)) n h)

pub at_beyond : (n : ℕ) (m : Log) (x : Entry) (log : Log) → n < marks (x ∷ log) → at_event n (m ++ x ∷ log) ≡ at_event n log
at_beyond n [] x log h = at_below n x log h
at_beyond n (y ∷ m) x log h = at_below n y (m ++ x ∷ log) (omega (arith, h, marks_above (y ∷ m) (x ∷ log))) ∙ at_beyond n m x log h

pub lawful_at : (g : Input) (n : ℕ) (log : Log) → IsLawful g log → IsLawful g (at_event n log)
lawful_at g n [] h = tt
lawful_at g n (x ∷ log) h =
    elim (nat_le (marks (x ∷ log)) n) as (λ b. IsLawful g (if b then x ∷ log else at_event n log)) [ true ↦ h | false ↦ lawful_at g n log h.1 ]

-- an entry with which the number of events grows marks one
grew : (x : Entry) (log : Log) → marks log < marks (x ∷ log) → (e : Event) × (event_of x ≡ Some e)
grew (Mark e) log h = (e, refl)
grew (Redeclares t) log h = (Redeclare, refl)
grew _ log h = absurd (omega (arith, h))

-- after the log when so many events are over stands the mark of the next event
pub marks_next : (g : Input) (n : ℕ) (log : Log) → IsLawful g log → n < marks log → MarksNext g (at_event n log)
marks_next g n [] h l = absurd (omega (arith, l))
marks_next g n (x ∷ log) h l =
    elim (cases_lt n (marks log)) [
      | inl below ↦ subst (λ k. MarksNext g k) (sym (at_below n x log l)) (marks_next g n log h.1 below)
      | inr here ↦
          let e = grew x log (omega (arith, here, l)) in
          subst (λ k. MarksNext g k) (sym (at_below n x log l ∙ at_self n log here))
          (record { entry = x; event = e.0; event_is = e.1; next_is = h.0 })
    ]

-- before the mark the log is that when so many events are over, and after it that when one more is
pub at_old : (g : Input) (old new : Log) (e : Event) (n : ℕ) → IsMarkedBetween g old new e → n ≤ marks old → at_event n new ≡ at_event n old
at_old g old new e n b l =
    ap (at_event n) b.parts ∙ at_beyond n b.more b.entry old (omega (arith, l, one_more_mark b.entry e old b.event_is))
