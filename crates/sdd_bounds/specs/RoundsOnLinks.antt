-- What rounds in which nothing is put do on the links.
use Rattle.std.specs.Prelude.{ℕ, zero, suc, false, true, List, [], ◌∷◌, ◌≡◌, refl}
use Rattle.sdd_progress.specs.obligations.All.{Call, Deliver, Delivers, Event, Lose, Loses, Puts, Repeat, Repeats, Resend, Resends, Site, quiet, round}
use Rattle.sdd_progress.specs.obligations.net.Links.{d1, t1}

-- the calls with that of an event of the network
abbrev pub carried_out : {M : Type 0} → Event → List (Call M) → List (Call M)
carried_out (Deliver a b place) calls = Delivers a b place ∷ calls
carried_out (Lose a b place) calls = Loses a b place ∷ calls
carried_out (Repeat a b place) calls = Repeats a b place ∷ calls
carried_out (Resend a b) calls = Resends a b ∷ calls
carried_out _ calls = calls

-- and with those of events that come one after the other
abbrev pub all_carried_out : {M : Type 0} → List Event → List (Call M) → List (Call M)
all_carried_out [] calls = calls
all_carried_out (e ∷ events) calls = all_carried_out events (carried_out e calls)

-- the calls with those of so many rounds on these links
abbrev pub after_rounds : {M : Type 0} → ℕ → List (Site × Site) → List (Call M) → List (Call M)
after_rounds zero ls calls = calls
after_rounds (suc n) ls calls = after_rounds n ls (all_carried_out (round ls calls) calls)

-- worked: of the messages 5 and 6 one packet is lost. The first round delivers 5, the second its acknowledgement, the
-- third resends 6 and delivers it, the fourth delivers the acknowledgement of that
abbrev one_lost : List (Call ℕ)
one_lost = Loses t1 d1 2 ∷ Puts t1 d1 6 ∷ Puts t1 d1 5 ∷ []

abbrev both_ways : List (Site × Site)
both_ways = (t1, d1) ∷ (d1, t1) ∷ []

pub worked_three : quiet both_ways (after_rounds 3 both_ways one_lost) ≡ false
worked_three = refl

pub worked_four : quiet both_ways (after_rounds 4 both_ways one_lost) ≡ true
worked_four = refl
