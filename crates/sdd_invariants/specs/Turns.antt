-- HOLDs and RELEASEs on a link: whether they alternate, and how many there are.
use Rattle.std.specs.Prelude.{ℕ, ◌+◌, ◌∷◌, ◌≡◌, Bool, List, None, Option, Some, [], false, true}
use Rattle.sdd_log.specs.All.{Held, Hold, Msg, Release}

-- HOLDs and RELEASEs in turn, a HOLD first: whether the last of them is a HOLD
abbrev pub after_hold : Bool → Option Bool
after_hold true = None
after_hold false = Some true

abbrev pub after_release : Bool → Option Bool
after_release true = Some false
after_release false = None

abbrev pub turn : Bool → Msg → Option Bool
turn b Hold = after_hold b
turn b (Release ts) = after_release b
turn b _ = Some b

abbrev pub turns : Option Bool → List Msg → Option Bool
turns None ms = None
turns (Some b) [] = Some b
turns (Some b) (m ∷ ms) = turns (turn b m) ms

abbrev pub is_a_hold : Msg → Bool
is_a_hold Hold = true
is_a_hold _ = false

abbrev pub is_a_release : Msg → Bool
is_a_release (Release ts) = true
is_a_release _ = false

abbrev pub is_a_held : Msg → Bool
is_a_held (Held t) = true
is_a_held _ = false

abbrev pub one_if : Bool → ℕ
one_if true = 1
one_if false = 0

abbrev pub tally : (Msg → Bool) → List Msg → ℕ
tally f [] = 0
tally f (m ∷ ms) = one_if (f m) + tally f ms

-- messages that are neither
abbrev pub NoneHold : List Msg → Type 0
NoneHold [] = Unit {0}
NoneHold (m ∷ ms) = (is_a_hold m ≡ false) × (is_a_release m ≡ false) × NoneHold ms
