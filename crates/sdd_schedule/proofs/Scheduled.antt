-- Steps of a schedule that is followed.
use Rattle.sdd_schedule.proofs.All.{AfterRounds, ClassList, EndsBy, Err, Event, Input, IsAllowed, IsFollowed, IsGood, IsPossible, List, Log, Ok, OnOk, Redeclare, Represents, Result, Settle, TakesRounds, World, WorldEnd, [], ap, arith, false, length, subst, suc, sym, takes_rounds, with_event, with_events, ℕ, ◌+◌, ◌∙◌, ◌≡◌}
use Rattle.sdd_schedule.proofs.RoundsFollowed.{settle_followed}

-- what is promised of one event that is allowed

abbrev pub GoesOn : World → World → Event → List ClassList → (Input → Log → Type 0) → (Input → Log → Type 0) → ℕ → Type 0
GoesOn w next e lists before now place =
    (g : Input) (log : Log) → IsFollowed w before g log place → IsAllowed g e lists → (more : Log) × IsFollowed next now (with_event g e) more (suc place)

abbrev pub EndsIt : World → Event → List ClassList → (Input → Log → Type 0) → ℕ → Type 0
EndsIt w e lists before place = (g : Input) (log : Log) → IsFollowed w before g log place → IsAllowed g e lists → EndsBy (with_event g e)

module _ (w next : World) (e : Event) (lists : List ClassList) (before now : Input → Log → Type 0) (place : ℕ) where
  -- a settle is carried out as the event that it is
  pub settle_goes : {T : Type 0} (res : Result T WorldEnd) → e ≡ Settle
      → OnOk res ((g : Input) (log : Log) → IsFollowed w before g log place → TakesRounds Settle → IsGood (with_event g Settle)
      → AfterRounds next now (with_event g Settle) Settle place)
      → OnOk res (GoesOn w next e lists before now place)
  settle_goes (Ok _) is law = λ g log h a.
      subst (λ x. (more : Log) × IsFollowed next now (with_event g x) more (suc place)) (sym is)
      (settle_followed next now (with_event g Settle) place (law g log h tt (subst (λ x. IsGood (with_event g x)) is a.good)))
  settle_goes (Err end) is law = tt

  pub settle_ends : e ≡ Settle
      → ((g : Input) (log : Log) → IsFollowed w before g log place → TakesRounds Settle → IsGood (with_event g Settle) → EndsBy (with_event g Settle))
      → EndsIt w e lists before place
  settle_ends is law = λ g log h a.
      subst (λ x. EndsBy (with_event g x)) (sym is) (law g log h tt (subst (λ x. IsGood (with_event g x)) is a.good))

  -- so is a redeclare
  pub redeclare_goes : {T : Type 0} (res : Result T WorldEnd) → e ≡ Redeclare
      → OnOk res (GoesOn w next Redeclare lists before now place) → OnOk res (GoesOn w next e lists before now place)
  redeclare_goes (Ok _) is law = subst (λ x. GoesOn w next x lists before now place) (sym is) law
  redeclare_goes (Err end) is law = tt

  -- any other event is carried out by a step
  pub step_goes : {T : Type 0} (res : Result T WorldEnd) → takes_rounds e ≡ false
      → OnOk res ((g : Input) (log : Log) → IsFollowed w before g log place → IsPossible g e → IsGood (with_event g e)
      → (more : Log) × IsFollowed next now (with_event g e) more (suc place))
      → OnOk res (GoesOn w next e lists before now place)
  step_goes (Ok _) is law = λ g log h a. law g log h (a.possible is) a.good
  step_goes (Err end) is law = tt

pub redeclare_others : {A E : Type 0} (res : Result A E) (e : Event) (after lists : List ClassList) (f : Event → List ClassList → List ClassList)
    → e ≡ Redeclare → OnOk res (after ≡ f Redeclare lists) → OnOk res (after ≡ f e lists)
redeclare_others (Ok x) e after lists f is law = law ∙ ap (λ d. f d lists) (sym is)
redeclare_others (Err x) e after lists f is law = tt

-- nothing was given before the schedule
pub starts_at : (w : World) (follows : Input → Log → Type 0) (g : Input) (log : Log) → Represents w g log → follows g log → g.events ≡ []
    → IsFollowed w follows g log 1
starts_at w follows g log s f none = record { represents = s; followed = f; place_is = sym (ap (λ es. suc (length es)) none) }

-- the place in the schedule, as the number that is counted
pub place_on : (w : World) (follows : Input → Log → Type 0) (g : Input) (log : Log) (place next : ℕ) → next ≡ place + 1
    → IsFollowed w follows g log (suc place) → IsFollowed w follows g log next
place_on w follows g log place next is h = let same : suc place ≡ next = omega (arith, is) in subst (IsFollowed w follows g log) same h

-- all events are followed
pub all_followed : (w : World) (follows : Input → Log → Type 0) (now : Input) (log : Log) (place : ℕ) (events : List Event) (all : Input)
    → IsFollowed w follows now log place → events ≡ [] → with_events now events ≡ all → (more : Log) × Represents w all more × follows all more
all_followed w follows now log place events all h none is =
    let same : now ≡ all = sym (ap (with_events now) none) ∙ is in
    (log, subst (λ g. Represents w g log) same h.represents, subst (λ g. follows g log) same h.followed)
