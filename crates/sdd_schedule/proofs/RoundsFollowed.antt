-- The rounds of a settle or a redeclare, followed event by event, over plain worlds.
use Rattle.sdd_schedule.proofs.All.{Event, Input, IsLawful, IsFollowed, IsTellable, IsToFollow, IsTurn, List, Log, Mark, MatchOption, None, Option, Redeclare, Redeclares, Represents, Round, Rounding, Settle, Settling, Some, BetweenTwo, WithinRound, AfterRounds, Turn, World, [], after_mark, all_links, ap, arith, calls_of, events_of, false, few, free, greatest_bound, left, length, marks, next, quiet, redeclare_next, refl, round_before, round_ends, rounds, settled, subst, suc, sym, true, with_event, ℕ, ◌++◌, ◌+◌, ◌-◌, ◌<◌, ◌^◌, ◌∙◌, ◌∷◌, ◌≡◌, ◌≢◌, ◌≤◌}
use Rattle.sdd_schedule.proofs.EachEvent.{IsMarkedBetween, goes_on, is_between, last_is}
use Rattle.sdd_schedule.proofs.EventFollowed.{marked_to_end, tellable_now, turn_at_end}
use Rattle.sdd_schedule.proofs.GivenMore.{one_longer, rounds_more}
use Rattle.sdd_schedule.proofs.PlacesListed.{place_left, round_at_listed, round_left, rounds_marked, scheduled_listed, unless_over}
use Rattle.sdd_schedule.proofs.InRounds.{begins_round, left_above, no_rounds_begun, none_left_loud, one_is_left, rounds_stay}

-- what is known of an option that has something, or nothing

pub some_of : {A : Type 0} (o : Option A) (P : Type 0) (Q : A → Type 0) (x : A) → MatchOption o P Q → o ≡ Some x → Q x
some_of o P Q x h is = subst (λ k. MatchOption k P Q) is h

pub none_of : {A : Type 0} (o : Option A) (P : Type 0) (Q : A → Type 0) → MatchOption o P Q → o ≡ None → P
none_of o P Q h is = subst (λ k. MatchOption k P Q) is h

-- a settle or a redeclare is given
pub begins : (w w2 : World) (follows : Input → Log → Type 0) (g : Input) (log : Log) (e : Event) (place : ℕ) → IsFollowed w follows g log place
    → Settling w2 (with_event g e) log e → follows (with_event g e) log → BetweenTwo w2 follows (with_event g e) log e place 0
begins w w2 follows g log e place h s f =
    let lawful = h.represents.calm.rests.lawful in
    let done = h.represents.complete in
    record {
      settling = s;
      followed = f;
      place_is = h.place_is ∙ sym (one_longer g.events e);
      few = omega arith;
      alone = λ loud. one_is_left g log e lawful done loud;
      rounds_are = λ loud.
          rounds_more g e log lawful
          ∙ no_rounds_begun g log lawful (ap (λ (s : List Event × List Event). s.0) (none_left_loud g log done loud));
    }

-- a round begins
pub round_begins : (w : World) (follows : Input → Log → Type 0) (g : Input) (log : Log) (e : Event) (events : List Event) (place number : ℕ)
    → BetweenTwo w follows g log e place number → quiet (all_links g) (calls_of log) ≡ false → Rounding w g (Round events ∷ log) e events
    → follows g (Round events ∷ log) → WithinRound w follows g (Round events ∷ log) e events place number
round_begins w follows g log e events place number h loud r f = record {
  rounding = r;
  followed = f;
  place_is = h.place_is;
  few = h.few;
  alone = ap (λ (s : List Event × List Event). s.0) (h.alone loud);
  rounds_are = ap (λ n. suc n) (h.rounds_are loud);
}

-- it has an event
pub some_event : (w : World) (g : Input) (log : Log) (e : Event) (events : List Event) → Rounding w g (Round events ∷ log) e events → events ≢ []
some_event w g log e events r = (begins_round g log events r.calm.rests.lawful.0).some

-- an event of it is carried out
module _ (w w2 : World) (follows : Input → Log → Type 0) (g : Input) (log more : Log) (e ev : Event) (rest : List Event) (place number : ℕ)
    (h : WithinRound w follows g log e (ev ∷ rest) place number) (r : Rounding w2 g more e rest) (one : w2.marks ≡ suc w.marks) where
  pub marks_one : marks more ≡ suc (marks log)
  marks_one = sym r.calm.marks_are ∙ one ∙ ap (λ n. suc n) h.rounding.calm.marks_are

  left_is : left g.events log ≡ (e ∷ [], ev ∷ rest)
  left_is =
      let at : left g.events log ≡ (h.rounding.waiting, ev ∷ rest) = h.rounding.left_is in
      let first : h.rounding.waiting ≡ e ∷ [] = sym (ap (λ (s : List Event × List Event). s.0) at) ∙ h.alone in
      at ∙ ap (λ ws. (ws, ev ∷ rest)) first

  next_is : next g log ≡ Some (Mark ev)
  next_is = (round_before w g log e (ev ∷ rest) ev rest h.rounding refl).next_is

  parts : (m : Log) × (more ≡ m ++ Mark ev ∷ log)
  parts = goes_on g log more (Mark ev) ev h.rounding.calm.rests.lawful r.calm.rests.lawful refl next_is (let grown = marks_one in omega (arith, grown))

  marked : IsMarkedBetween g log more ev
  marked = record { entry = Mark ev; event_is = refl; more = parts.0; parts = parts.1; lawful = r.calm.rests.lawful; marks_are = marks_one }

  turn_is : (turn : Turn) → turn.event ≡ ev → turn.scheduled ≡ place → turn.round ≡ Some (number + 1) → IsTurn g log more turn
  turn_is turn event scheduled round =
      let total : ℕ = length g.events in
      let alone : place_left total (e ∷ [], ev ∷ rest) ≡ total = omega arith in
      let after : number + 1 ≡ suc number = omega arith in
      record {
        event = event ∙ sym (last_is g log more ev marked);
        scheduled = scheduled ∙ h.place_is ∙ sym (scheduled_listed g log ∙ ap (place_left total) left_is ∙ alone);
        round =
            round ∙ ap (λ n. Some n) after
            ∙ sym (round_at_listed g log
            ∙ ap (round_left (rounds g.events log)) (ap (λ (s : List Event × List Event). s.1) left_is)
            ∙ ap (λ n. Some n) h.rounds_are);
      }

  -- the number of the round fits
  pub number_fits : number + 1 < 2 ^ 32
  number_fits = omega (arith, few w2 g more r.calm, r.calm.marks_are, h.few, marks_one)

  -- it is followed next
  pub round_to_follow : (turn : Turn) → turn.event ≡ ev → turn.scheduled ≡ place → turn.round ≡ Some (number + 1) → IsToFollow g log more w2 turn
  round_to_follow turn event scheduled round = record {
    between = is_between g log more ev h.rounding.calm.rests r.calm.rests marked;
    calm = r.calm;
    turn_is = turn_is turn event scheduled round;
    tellable = subst (IsTellable g) (sym event) (tellable_now g ev h.rounding.possible.0);
  }

  one_above : marks (parts.0 ++ Mark ev ∷ log) ≡ suc (marks log)
  one_above = sym (ap marks parts.1) ∙ marks_one

  left_behind : left g.events (Mark ev ∷ log) ≡ (e ∷ [], rest)
  left_behind = ap after_mark left_is

  left_after : (left g.events more).0 ≡ e ∷ []
  left_after =
      ap (λ l. (left g.events l).0) parts.1
      ∙ left_above g.events parts.0 (Mark ev) ev log refl one_above
      ∙ ap (λ (s : List Event × List Event). s.0) left_behind

  rounds_after : rounds g.events more ≡ suc number
  rounds_after =
      let over : (left g.events (parts.0 ++ Mark ev ∷ log)).1 ≡ rest =
      ap (λ l. (left g.events l).1) (sym parts.1) ∙ ap (λ (s : List Event × List Event). s.1) r.left_is in
      let behind : (left g.events (Mark ev ∷ log)).1 ≡ rest = ap (λ (s : List Event × List Event). s.1) left_behind in
      ap (rounds g.events) parts.1
      ∙ rounds_stay g parts.0 (Mark ev) ev log (subst (IsLawful g) parts.1 r.calm.rests.lawful) refl one_above (over ∙ sym behind)
      ∙ rounds_marked g.events ev log
      ∙ ap (λ (s : List Event × List Event). unless_over s.1 (rounds g.events log)) left_is
      ∙ h.rounds_are

  -- and was followed
  pub round_followed : (now : Input → Log → Type 0) → now g more → WithinRound w2 now g more e rest place number
  round_followed now f = record {
    rounding = r;
    followed = f;
    place_is = h.place_is;
    few = let low : number ≤ marks log = h.few in omega (arith, low, marks_one);
    alone = left_after;
    rounds_are = rounds_after;
  }

-- the events that are left, as another list
pub with_left : (w : World) (follows : Input → Log → Type 0) (g : Input) (log : Log) (e : Event) (events left : List Event) (place number : ℕ)
    → events ≡ left → WithinRound w follows g log e events place number → WithinRound w follows g log e left place number
with_left w follows g log e events left place number is h = subst (λ es. WithinRound w follows g log e es place number) is h

-- a round is over
pub round_over : (w : World) (follows : Input → Log → Type 0) (g : Input) (log more : Log) (e : Event) (events : List Event) (place number next : ℕ)
    → WithinRound w follows g more e [] place number → events ≢ [] → number ≤ marks log → marks more ≡ marks log + length events → next ≡ number + 1
    → BetweenTwo w follows g more e place next
round_over w follows g log more e [] place number next h some low grown is = absurd (some refl)
round_over w follows g log more e (x ∷ events) place number next h some low grown is = record {
  settling = round_ends w g more e [] h.rounding refl;
  followed = h.followed;
  place_is = h.place_is;
  few = omega (arith, low, grown, is);
  alone = λ loud.
      (let at : left g.events more ≡ (h.rounding.waiting, []) = h.rounding.left_is in
      let first : h.rounding.waiting ≡ e ∷ [] = sym (ap (λ (s : List Event × List Event). s.0) at) ∙ h.alone in
      at ∙ ap (λ ws. (ws, [])) first);
  rounds_are = λ loud. h.rounds_are ∙ (let one : suc number ≡ next = omega (arith, is) in one);
}

-- with a round fewer events are left till the limit, and the number of the next one fits
module _ (w w2 : World) (before now : Input → Log → Type 0) (g : Input) (log more : Log) (e : Event) (place number : ℕ) (events : List Event)
    (b : BetweenTwo w before g log e place number) (h : WithinRound w2 now g more e [] place number) (some : events ≢ [])
    (grown : marks more ≡ marks log + length events) where
  one_more : marks log < marks more
  one_more = at events some grown
    where
      at : (es : List Event) → es ≢ [] → marks more ≡ marks log + length es → marks log < marks more
      at [] h k = absurd (h refl)
      at (x ∷ es) h k = omega (arith, k)

  pub rounds_fall : 2 ^ 32 - events_of w2 < 2 ^ 32 - events_of w
  rounds_fall = omega (arith, few w2 g more h.rounding.calm, h.rounding.calm.marks_are, b.settling.calm.marks_are, one_more)

  pub next_fits : number + 1 < 2 ^ 32
  next_fits = omega (arith, few w2 g more h.rounding.calm, h.rounding.calm.marks_are, b.few, one_more)

-- the rounds are over
pub settles : (w : World) (follows : Input → Log → Type 0) (g : Input) (log : Log) (e : Event) (place number : ℕ)
    → BetweenTwo w follows g log e place number → quiet (all_links g) (calls_of log) ≡ true → AfterRounds w follows g e place
settles w follows g log e place number h still = record {
  settled = record { more = log; settling = h.settling; is_quiet = still };
  followed = h.followed;
  place_is = h.place_is;
}

-- a settle has no mark of its own
pub settle_followed : (w : World) (follows : Input → Log → Type 0) (g : Input) (place : ℕ) → AfterRounds w follows g Settle place
    → (more : Log) × IsFollowed w follows g more (suc place)
settle_followed w follows g place h =
    let s = h.settled.settling in
    let log = h.settled.more in (
      log,
      record {
        represents = record { calm = s.calm; complete = settled g log s.waiting (free g log s.calm.rests) s.left_is s.ends h.settled.is_quiet };
        followed = h.followed;
        place_is = ap (λ n. suc n) h.place_is;
      },
    )

-- a redeclare has one, after its rounds
module _ (w w2 : World) (follows : Input → Log → Type 0) (g : Input) (place : ℕ) (h : AfterRounds w follows g Redeclare place) (more : Log)
    (s2 : Represents w2 g more) where
  abbrev last_log : Log
  last_log = h.settled.more

  listed : (next g last_log ≡ Some (Redeclares (greatest_bound g last_log))) × (after_mark (left g.events last_log) ≡ ([], []))
  listed =
      let s = h.settled.settling in
      redeclare_next g last_log s.waiting (free g last_log s.calm.rests) s.left_is s.ends h.settled.is_quiet

  list_marked : IsMarkedBetween g last_log more Redeclare
  list_marked =
      marked_to_end g last_log more (Redeclares (greatest_bound g last_log)) Redeclare h.settled.settling.calm.rests.lawful s2.calm.rests.lawful refl
      listed.0 listed.1 s2.complete

  -- it is followed next
  pub list_to_follow : (turn : Turn) → turn.event ≡ Redeclare → turn.scheduled ≡ place → turn.round ≡ None → IsToFollow g last_log more w2 turn
  list_to_follow turn event scheduled round =
      let over : (left g.events last_log).1 ≡ [] = ap (λ (s : List Event × List Event). s.1) h.settled.settling.left_is in
      record {
        between = is_between g last_log more Redeclare h.settled.settling.calm.rests s2.calm.rests list_marked;
        calm = s2.calm;
        turn_is =
            turn_at_end g last_log more (Redeclares (greatest_bound g last_log)) Redeclare place turn h.place_is refl listed.0 listed.1 over
            list_marked event scheduled round;
        tellable = subst (IsTellable g) (sym event) tt;
      }

  -- and was followed
  pub list_followed : (now : Input → Log → Type 0) → now g more → (log : Log) × IsFollowed w2 now g log (suc place)
  list_followed now f = (more, record { represents = s2; followed = f; place_is = ap (λ n. suc n) h.place_is })
