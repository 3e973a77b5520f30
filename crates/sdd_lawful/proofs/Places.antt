-- The records of a history are those of the entries of its log, in their order.
use Rattle.sdd_lawful.proofs.All.{Entry, History, IsBefore, IsMadeAt, IsRecordAt, List, Log, None, Option, Rec, Some, [], ap, append-nil, append_assoc, arith, at_seam, compare, dec_le, event_at, history, in_left, inl, inr, length, marks, place_within, record_of, refl, slice_get, subst, suc, sym, take, take-append_seam, zero, ℕ, ◌++◌, ◌<◌, ◌∙◌, ◌∷◌, ◌≡◌, ◌≤◌}

abbrev pub recorded : ℕ → Option Rec → History
recorded event None = []
recorded event (Some r) = (event, r) ∷ []

pub history_step : (e : Entry) (log : Log) → history (e ∷ log) ≡ history log ++ recorded (marks log) (record_of e)
history_step e log = grind (arith, append-nil)

abbrev dated : Log → Rec → ℕ × Rec
dated log r = (marks log, r)

-- an entry's record stands at the end of the history before it, with the number of events till then
pub dated_there : (later : Log) (e : Entry) (before : Log) (r : Rec) → record_of e ≡ Some r
    → slice_get (history (later ++ e ∷ before)) (length (history before)) ≡ Some (dated before r)
dated_there [] e before r m = grind (arith, slice_get, dated, history_step, history, recorded, marks, at_seam)
dated_there (x ∷ later) e before r m = grind (arith, slice_get, dated, history_step, in_left, (dated_there later e before r m))

get_of_left : {A : Type 0} (xs ys : List A) (k : ℕ) (x : A) → k < length xs → slice_get (xs ++ ys) k ≡ Some x → slice_get xs k ≡ Some x
get_of_left [] ys k x l e = absurd (omega arith)
get_of_left (y ∷ xs) ys zero x l e = e
get_of_left (y ∷ xs) ys (suc k) x l e = get_of_left xs ys k x (omega arith) e

get_of_end : {A : Type 0} (xs : List A) (y : A) (k : ℕ) (x : A) → length xs ≤ k → slice_get (xs ++ y ∷ []) k ≡ Some x → (length xs ≡ k) × (y ≡ x)
get_of_end (z ∷ xs) y (suc k) x l e = let i = get_of_end xs y k x (omega arith) e in (omega (arith, i.0), i.1)
get_of_end xs y k x l e = grind arith

made_more : (x : Entry) (log : Log) (k : ℕ) (r : Rec) → IsMadeAt log k r → IsMadeAt (x ∷ log) k r
made_more x log k r m = record { later = x ∷ m.later; entry = m.entry; before = m.before; is = ap (λ l. x ∷ l) m.is; makes = m.makes; place_is = m.place_is }

made_in : (e : Entry) (log : Log) (o : Option Rec) (k : ℕ) (p : ℕ × Rec) → record_of e ≡ o → (slice_get (history log) k ≡ Some p → IsMadeAt log k p.1)
    → slice_get (history log ++ recorded (marks log) o) k ≡ Some p → IsMadeAt (e ∷ log) k p.1
made_in e log None k p m i q = made_more e log k p.1 (i (subst (λ h. slice_get h k ≡ Some p) (append-nil (history log)) q))
made_in e log (Some r) k p m i q = elim (dec_le (suc k) (length (history log))) [
  | yes l ↦ made_more e log k p.1 (i (get_of_left (history log) (dated log r ∷ []) k p l q))
  | no l ↦ (let z = get_of_end (history log) (dated log r) k p (omega (arith, l)) q in
      record { later = []; entry = e; before = log; is = refl; makes = m ∙ ap (λ (y : ℕ × Rec). Some y.1) z.1; place_is = z.0 })
]

made_at_pair : (log : Log) (k : ℕ) (p : ℕ × Rec) → slice_get (history log) k ≡ Some p → IsMadeAt log k p.1
made_at_pair [] k p q = cc
made_at_pair (e ∷ log) k p q = made_in e log (record_of e) k p refl (λ s. made_at_pair log k p s) (subst (λ h. slice_get h k ≡ Some p) (history_step e log) q)

-- a record of the history is that of an entry
pub made_at : (log : Log) (k : ℕ) (r : Rec) → IsRecordAt (history log) k r → IsMadeAt log k r
made_at log k r s = grind (arith, made_at_pair)

-- and the record of an entry stands in the history
pub recorded_there : (later : Log) (e : Entry) (before : Log) (r : Rec) → record_of e ≡ Some r
    → IsRecordAt (history (later ++ e ∷ before)) (length (history before)) r
recorded_there later e before r m = rw (dated_there later e before r m) refl

-- with the number of events till then
pub event_there : (later : Log) (e : Entry) (before : Log) (r : Rec) → record_of e ≡ Some r
    → event_at (history (later ++ e ∷ before)) (length (history before)) ≡ marks before
event_there later e before r m = rw (dated_there later e before r m) refl

-- a longer log has a longer history
pub history_grows : (later log : Log) → (more : History) × (history (later ++ log) ≡ history log ++ more)
history_grows [] log = ([], sym (append-nil _))
history_grows (e ∷ later) log =
    let i = history_grows later log in
    let last : History = recorded (marks (later ++ log)) (record_of e) in
    (i.0 ++ last, history_step e (later ++ log) ∙ ap (λ h. h ++ last) i.1 ∙ append_assoc (history log) i.0 last)

-- up to an entry's place it is that of the log before
pub history_before : (log later before : Log) → log ≡ later ++ before → take (length (history before)) (history log) ≡ history before
history_before log later before is =
    let i = history_grows later before in
    ap (λ l. take (length (history before)) (history l)) is ∙ ap (take (length (history before))) i.1 ∙ take-append_seam (history before) i.0

-- an entry further back has its record further back
pub place_rises : (between : Log) (e : Entry) (before : Log) (r : Rec) → record_of e ≡ Some r
    → length (history before) < length (history (between ++ e ∷ before))
place_rises between e before r m = place_within (history (between ++ e ∷ before)) (length (history before)) (dated before r) (dated_there between e before r m)

-- of two places the entries are in the same order
pub entries_in_order : (log : Log) (j k : ℕ) (q r : Rec) (a : IsMadeAt log j q) (b : IsMadeAt log k r) → j < k → IsBefore a.entry a.before b.before
entries_in_order log j k q r a b l =
    let pa = a.place_is in let pb = b.place_is in
    elim (compare a.later b.later a.entry b.entry a.before b.before (sym a.is ∙ b.is)) [
      | inl s ↦ absurd (let t : length (history a.before) ≡ length (history b.before) = ap (λ x. length (history x)) s.0 in omega arith)
      | inr s ↦ grind (arith, place_rises, history)
    ]

-- at one place there is one entry
pub one_entry : (log : Log) (k : ℕ) (q r : Rec) (a : IsMadeAt log k q) (b : IsMadeAt log k r) → (a.before ≡ b.before) × (a.entry ≡ b.entry)
one_entry log k q r a b =
    let pa = a.place_is in let pb = b.place_is in
    elim (compare a.later b.later a.entry b.entry a.before b.before (sym a.is ∙ b.is)) [
      | inl s ↦ (s.0, s.1)
      | inr s ↦ grind (arith, place_rises, history)
    ]
