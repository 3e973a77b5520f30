-- Rounds: how many a log has, and what their events are.
use Rattle.std.specs.Prelude.{ℕ, suc, ◌≡◌, true, [], ◌∷◌}
use Rattle.sdd_obligations.specs.invariants.All.{Deliver, Event, Log, Resend, Round, is_link}

abbrev pub rounds : Log → ℕ
rounds [] = 0
rounds (Round events ∷ log) = suc (rounds log)
rounds (_ ∷ log) = rounds log

-- an event of a round: on a link of the network it resends, or delivers the first packet
abbrev pub IsOfRound : ℕ → ℕ → Event → Type 0
IsOfRound tms dms (Resend a b) = is_link tms dms a b ≡ true
IsOfRound tms dms (Deliver a b place) = (is_link tms dms a b ≡ true) × (place ≡ 1)
IsOfRound tms dms _ = ⊥
