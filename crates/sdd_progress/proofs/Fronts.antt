-- Fronts of a log and of its history: which entries and records a front has, and where a class list was put in force
-- among the rest.
use Rattle.sdd_progress.proofs.All.{Entry, History, IsRecordAt, Log, Rec, Redeclares, [], ap, append_assoc, arith, history, history_grows, inl, inr, length, length-append, redeclares, suc, sym, zero, ℕ, ◌++◌, ◌<◌, ◌∙◌, ◌∷◌, ◌≡◌, ◌≤◌, ◌⊎◌}
use Rattle.sdd_progress.proofs.SinceRedeclare.{redeclare_in}

-- records of a front of a history

pub recorded_more : (h more : History) (k : ℕ) (r : Rec) → IsRecordAt h k r → IsRecordAt (h ++ more) k r
recorded_more [] more k r e = cc
recorded_more (x ∷ h) more zero r e = e
recorded_more (x ∷ h) more (suc k) r e = recorded_more h more k r e

pub recorded_front : (h more : History) (k : ℕ) (r : Rec) → k < length h → IsRecordAt (h ++ more) k r → IsRecordAt h k r
recorded_front [] more k r l e = absurd (omega (arith, l))
recorded_front (x ∷ h) more zero r l e = e
recorded_front (x ∷ h) more (suc k) r l e = recorded_front h more k r (omega (arith, l)) e

pub recorded_within : (h : History) (k : ℕ) (r : Rec) → IsRecordAt h k r → k < length h
recorded_within [] k r e = cc
recorded_within (x ∷ h) zero r e = omega arith
recorded_within (x ∷ h) (suc k) r e = let i = recorded_within h k r e in omega (arith, i)

-- two ends of a log: one of them is an end of the other
pub ends : (a b xs ys : Log) → a ++ xs ≡ b ++ ys → ((p : Log) × (xs ≡ p ++ ys)) ⊎ ((p : Log) × (ys ≡ p ++ xs))
ends [] b xs ys e = inl (b, e)
ends (x ∷ a) [] xs ys e = inr (x ∷ a, sym e)
ends (x ∷ a) (y ∷ b) xs ys e = let p : a ++ xs ≡ b ++ ys = cc in ends a b xs ys p

pub history_le : (later log : Log) → length (history log) ≤ length (history (later ++ log))
history_le later log =
    let g = history_grows later log in
    let m = length-append (history log) g.0 in omega (arith, ap length g.1, m)

-- an entry that stands before a longer history than its own is one of the longer log
pub in_longer : (log later before other mid : Log) (e : Entry) → log ≡ later ++ e ∷ before → log ≡ other ++ mid
    → length (history before) < length (history mid) → length (history (e ∷ before)) ≤ suc (length (history before)) → (p : Log) × (mid ≡ p ++ e ∷ before)
in_longer log later before other mid e is at l few = elim (ends later other (e ∷ before) mid (sym is ∙ at)) [
  | inr q ↦ q
  | inl q ↦ (let up = history_le q.0 mid in
      let n : length (history (e ∷ before)) ≡ length (history (q.0 ++ mid)) = ap (λ x. length (history x)) q.1 in
      elim q.0 as (λ p. e ∷ before ≡ p ++ mid → (r : Log) × (mid ≡ r ++ e ∷ before)) [
        | [] ↦ λ same. ([], sym same)
        | x ∷ p ↦ grind (arith, history, history_le)
      ] q.1)
]

-- a log that isn't shorter in its history holds the other one, where that ends with another entry
pub longer : (log a before b mid : Log) → log ≡ a ++ before → log ≡ b ++ mid → length (history mid) < length (history before) → (p : Log) × (before ≡ p ++ mid)
longer log a before b mid is at l = elim (ends a b before mid (sym is ∙ at)) [
  | inl q ↦ q
  | inr q ↦ grind (arith, history_le, history)
]

-- a further list was put in force between an entry and the end of a longer log, or none was

pub record IsBetween (e : Entry) (before upper : Log) : Type 0 where
  pub after : Log
  pub time : ℕ
  pub mid : Log
  pub between : Log
  pub upper_is : upper ≡ after ++ Redeclares time ∷ mid
  pub mid_is : mid ≡ between ++ e ∷ before

pub redeclare_between : (e : Entry) (before upper between : Log) → upper ≡ between ++ e ∷ before
    → (redeclares (e ∷ before) ≡ redeclares upper) ⊎ IsBetween e before upper
redeclare_between e before upper between is = grind (arith, redeclare_in, append_assoc)
