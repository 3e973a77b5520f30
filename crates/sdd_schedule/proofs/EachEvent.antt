-- Logs, event by event: what lies between the log before an event and the log after it.
use Rattle.sdd_schedule.proofs.All.{Entry, Event, Input, IsBefore, IsBetween, IsLawful, IsMark, Log, Mark, None, Option, Redeclare, Redeclares, Rests, Some, [], ap, arith, inl, inr, last_event, marks, next, one_chain, refl, suc, sym, ◌++◌, ◌+◌, ◌<◌, ◌∙◌, ◌∷◌, ◌≡◌, ◌≤◌}

-- a log that goes on from another one has no fewer events
pub marks_above : (later log : Log) → marks log ≤ marks (later ++ log)
marks_above [] log = omega arith
marks_above (Mark x ∷ later) log = let i = marks_above later log in omega (arith, i)
marks_above (Redeclares t ∷ later) log = let i = marks_above later log in omega (arith, i)
marks_above (_ ∷ later) log = marks_above later log

-- the event that an entry marks
abbrev pub event_of : Entry → Option Event
event_of (Mark e) = Some e
event_of (Redeclares t) = Some Redeclare
event_of _ = None

pub one_more_mark : (x : Entry) (e : Event) (log : Log) → event_of x ≡ Some e → marks (x ∷ log) ≡ suc (marks log)
one_more_mark (Mark f) e log h = refl
one_more_mark (Redeclares t) e log h = refl
one_more_mark _ e log h = cc

-- the last event of a log with one mark above another log

last_of : (x : Entry) (e : Event) (log : Log) → event_of x ≡ Some e → last_event (x ∷ log) ≡ e
last_of (Mark f) e log h = let p : f ≡ e = cc in p
last_of (Redeclares t) e log h = let p : Redeclare ≡ e = cc in p
last_of _ e log h = cc

-- no further mark stands above it
pub one_only : (m : Log) (x : Entry) (e : Event) (log : Log) → event_of x ≡ Some e → suc (marks (m ++ x ∷ log)) ≡ suc (marks log) → ⊥
one_only m x e log h k = absurd (omega (arith, marks_above m (x ∷ log), one_more_mark x e log h, k))

pub last_above : (m : Log) (x : Entry) (e : Event) (log : Log) → event_of x ≡ Some e → marks (m ++ x ∷ log) ≡ suc (marks log)
    → last_event (m ++ x ∷ log) ≡ e
last_above [] x e log h k = last_of x e log h
last_above (Mark f ∷ m) x e log h k = absurd (one_only m x e log h k)
last_above (Redeclares t ∷ m) x e log h k = absurd (one_only m x e log h k)
last_above (_ ∷ m) x e log h k = last_above m x e log h k

-- the next entry of the log marks an event
pub record MarksNext (g : Input) (log : Log) : Type 0 where
  pub entry : Entry
  pub event : Event
  pub event_is : event_of entry ≡ Some event
  pub next_is : next g log ≡ Some entry

-- of two lawful logs

parts_of : (l m : Log) → IsBefore l m → (x : Log) × (m ≡ x ++ l)
parts_of l [] h = ([], sym h)
parts_of l (e ∷ m) h = elim h as (λ _. (x : Log) × (e ∷ m ≡ x ++ l)) [
  | inl p ↦ ([], sym p)
  | inr q ↦ let r = parts_of l m q in (e ∷ r.0, ap (λ z. e ∷ z) r.1)
]

marks_before : (l m : Log) → IsBefore l m → marks l ≤ marks m
marks_before l m h = let p = parts_of l m h in omega (arith, marks_above p.0 l, ap marks p.1)

-- one event lies between two logs, and this entry marks it
pub record IsMarkedBetween (g : Input) (old new : Log) (e : Event) : Type 0 where
  pub entry : Entry
  pub event_is : event_of entry ≡ Some e
  pub more : Log
  pub parts : new ≡ more ++ entry ∷ old
  pub lawful : IsLawful g new
  pub marks_are : marks new ≡ suc (marks old)

-- the longer one of two lawful logs goes on from the other, with the entry that is next there
pub goes_on : (g : Input) (old new : Log) (x : Entry) (e : Event) → IsLawful g old → IsLawful g new → event_of x ≡ Some e → next g old ≡ Some x
    → marks old < marks new → (more : Log) × (new ≡ more ++ x ∷ old)
goes_on g old new x e l k h n less =
    let first : IsLawful g (x ∷ old) = (n, l) in
    elim (one_chain g (x ∷ old) new first k) [
      | inl p ↦ parts_of (x ∷ old) new p
      | inr p ↦ elim p as (λ _. (more : Log) × (new ≡ more ++ x ∷ old)) [
        | inl q ↦ ([], q)
        | inr q ↦ absurd (omega (arith, marks_before new old q, less))
      ]
    ]

-- a complete log is none that was before another one
whole_is : (g : Input) (l m : Log) → next g l ≡ None → IsLawful g m → IsBefore l m → m ≡ l
whole_is g l [] n h b = sym b
whole_is g l (x ∷ m) n h b = elim b as (λ _. x ∷ m ≡ l) [
  | inl p ↦ sym p
  | inr q ↦
      let same : m ≡ l = whole_is g l m n h.1 q in
      let no : None ≡ Some x = sym n ∙ ap (next g) (sym same) ∙ h.0 in absurd cc
]

-- a complete log goes on from any other one
pub goes_to_end : (g : Input) (old new : Log) (x : Entry) → IsLawful g old → IsLawful g new → next g old ≡ Some x → next g new ≡ None
    → (more : Log) × (new ≡ more ++ x ∷ old)
goes_to_end g old new x l k n done =
    let first : IsLawful g (x ∷ old) = (n, l) in
    elim (one_chain g (x ∷ old) new first k) [
      | inl p ↦ parts_of (x ∷ old) new p
      | inr p ↦ ([], sym (whole_is g new (x ∷ old) done first p))
    ]

pub last_is : (g : Input) (old new : Log) (e : Event) → IsMarkedBetween g old new e → last_event new ≡ e
last_is g old new e b =
    ap last_event b.parts ∙ last_above b.more b.entry e old b.event_is (sym (ap marks b.parts) ∙ b.marks_are)

marks_join : (m log : Log) → marks (m ++ log) ≡ marks m + marks log
marks_join [] log = omega arith
marks_join (Mark e ∷ m) log = let i = marks_join m log in omega (arith, i)
marks_join (Redeclares t ∷ m) log = let i = marks_join m log in omega (arith, i)
marks_join (_ ∷ m) log = marks_join m log

marks_it : (x : Entry) (e : Event) → event_of x ≡ Some e → IsMark x
marks_it (Mark f) e h = tt
marks_it (Redeclares t) e h = tt
marks_it _ e h = cc

pub is_between : (g : Input) (old new : Log) (e : Event) → Rests g old → Rests g new → IsMarkedBetween g old new e → IsBetween g old new
is_between g old new e before after b =
    let all : marks new ≡ marks b.more + marks (b.entry ∷ old) = ap marks b.parts ∙ marks_join b.more (b.entry ∷ old) in
    record {
      mark = b.entry;
      is_mark = marks_it b.entry e b.event_is;
      more = b.more;
      parts = b.parts;
      no_marks = omega (arith, all, one_more_mark b.entry e old b.event_is, b.marks_are);
      before = before;
      after = after;
    }

-- and of one event that lies between two logs it is known which entry marks it

event_at : (x : Entry) → IsMark x → (e : Event) × (event_of x ≡ Some e)
event_at (Mark e) h = (e, refl)
event_at (Redeclares t) h = (Redeclare, refl)
event_at _ h = absurd h

pub marked_between : (g : Input) (old new : Log) → IsBetween g old new → (e : Event) × IsMarkedBetween g old new e
marked_between g old new b =
    let e = event_at b.mark b.is_mark in
    let all : marks new ≡ marks b.more + marks (b.mark ∷ old) = ap marks b.parts ∙ marks_join b.more (b.mark ∷ old) in (
      e.0,
      record {
        entry = b.mark;
        event_is = e.1;
        more = b.more;
        parts = b.parts;
        lawful = b.after.lawful;
        marks_are = let none = b.no_marks in omega (arith, all, none, one_more_mark b.mark e.0 old e.1);
      },
    )
