-- Where an event stands in the schedule and in its round, by the two lists that are left.
use Rattle.sdd_schedule.proofs.All.{Ahead, BetweenRounds, Event, InRound, Input, List, Log, Mark, None, Option, Some, [], ahead, ap, as_lists, from_event, if_in_round, left, left_is_ahead, length, place_in, place_of_first, refl, round_at, round_in, rounds, scheduled_at, sym, ℕ, ◌∙◌, ◌∷◌, ◌≡◌}

abbrev pub place_left : ℕ → List Event × List Event → ℕ
place_left total (events, []) = place_of_first total (from_event events)
place_left total (events, e ∷ round) = place_of_first total events

abbrev pub unless_over : List Event → ℕ → ℕ
unless_over [] n = 0
unless_over (e ∷ round) n = n

abbrev pub round_left : ℕ → List Event → Option ℕ
round_left n [] = None
round_left n (e ∷ round) = Some n

place_listed : (total : ℕ) (s : Ahead) → place_left total (as_lists s) ≡ place_in total s
place_listed total (InRound e rest events) = refl
place_listed total (BetweenRounds events) = refl

over_listed : (s : Ahead) (n : ℕ) → unless_over (as_lists s).1 n ≡ if_in_round s n
over_listed (InRound e rest events) n = refl
over_listed (BetweenRounds events) n = refl

round_listed : (n : ℕ) (s : Ahead) → round_left n (as_lists s).1 ≡ round_in n s
round_listed n (InRound e rest events) = refl
round_listed n (BetweenRounds events) = refl

pub scheduled_listed : (g : Input) (log : Log) → scheduled_at g log ≡ place_left (length g.events) (left g.events log)
scheduled_listed g log =
    sym (ap (place_left (length g.events)) (left_is_ahead g.events log) ∙ place_listed (length g.events) (ahead g.events log))

pub rounds_marked : (events : List Event) (e : Event) (log : Log) → rounds events (Mark e ∷ log) ≡ unless_over (left events log).1 (rounds events log)
rounds_marked events e log =
    sym (ap (λ s. unless_over s.1 (rounds events log)) (left_is_ahead events log) ∙ over_listed (ahead events log) (rounds events log))

pub round_at_listed : (g : Input) (log : Log) → round_at g log ≡ round_left (rounds g.events log) (left g.events log).1
round_at_listed g log =
    sym (ap (λ s. round_left (rounds g.events log) s.1) (left_is_ahead g.events log) ∙ round_listed (rounds g.events log) (ahead g.events log))
