-- What becomes of what a module keeps when a message is handed to it, or a transaction is given to it.
use Rattle.std.specs.Prelude.{ℕ, ◌+◌, ◌==◌, Bool, true, false, if◌then◌else◌, List, [], ◌∷◌, ◌++◌, map, length, Option, Some, None}
use Rattle.std.specs.List.{position}
use Rattle.sdd_asks.specs.rules.All.{Ask, ClassNo, Held, Hold, Msg, Ready, Reduced, Reject, Release, Rows, Site, Txn, Values, active_handed, pushed_by}
use Rattle.sdd_asks.specs.rules.declared.asked.Asked.{Asked}
use Rattle.sdd_tm.specs.declared.places.Places.{Places}
use Rattle.sdd_asks.specs.rules.tm.State.{ClassState, State}

-- a message

abbrev pub ask_handed : ℕ → Site → Msg → List Asked → List Asked
ask_handed c from (Ask class time) asks = if class.0 == c then asks ++ record { from = from; time = time } ∷ [] else asks
ask_handed c from _ asks = asks

abbrev pub class_handed : Site → Msg → ClassState → ClassState
class_handed from m k = record {
  line = record k.line { active = active_handed k.line.class from m k.line.active };
  asks = ask_handed k.line.class from m k.asks;
}

abbrev pub hold_handed : Msg → Bool → Bool
hold_handed Hold on_hold = true
hold_handed (Release ts) on_hold = false
hold_handed _ on_hold = on_hold

abbrev pub owed_handed : Msg → Bool → Bool
owed_handed Hold owes_held = true
owed_handed _ owes_held = owes_held

-- the time by which a message pushes the clock
abbrev pub push_of : Msg → ℕ
push_of (Ask class time) = time.0
push_of (Reject ts class by write) = write.0
push_of (Release ts) = ts.0
push_of (Held time) = time.0
push_of _ = 0

-- the clock and the hold
abbrev pub with_hold_message : Msg → State → State
with_hold_message m state = record state {
  clock = pushed_by m state.clock;
  on_hold = hold_handed m state.on_hold;
  owes_held = owed_handed m state.owes_held;
}

abbrev pub state_handed : Site → Msg → State → State
state_handed from m state = record (with_hold_message m state) { classes = map (class_handed from m) state.classes }

-- the class that a message names, where it can change something of it
abbrev pub class_named : Msg → Option ClassNo
class_named (Ready ts class counts) = Some class
class_named (Reject ts class by write) = Some class
class_named (Values ts class u values) = Some class
class_named (Reduced ts class u n) = Some class
class_named (Rows ts class rows) = Some class
class_named (Ask class time) = Some class
class_named _ = None

-- a transaction

abbrev pub class_given : ℕ → ℕ → Txn → ClassState → ClassState
class_given c n txn k =
    if k.line.class == c then record k
    { line = record k.line { queue = k.line.queue ++ record { number = n; text = txn; tries = 0 } ∷ [] } }
    else k

abbrev pub state_given : ℕ → ℕ → Txn → State → State
state_given c n txn state = record state { classes = map (class_given c n txn) state.classes }

-- the classes that may have a step after that: from one place on, up to another

abbrev pub place_of : List ClassState → ℕ → Option ℕ
place_of classes c = position (λ k. k.line.class == c) classes

abbrev pub no_places : Places
no_places = record { from = 0; end = 0 }

abbrev pub one_place : Option ℕ → Places
one_place None = no_places
one_place (Some place) = record { from = place; end = place + 1 }

-- of so many classes all
abbrev pub every_place : ℕ → Places
every_place n = record { from = 0; end = n }

-- a RELEASE lets all classes start
abbrev pub all_places : ℕ → Msg → Places
all_places n (Release ts) = every_place n
all_places n _ = no_places

abbrev pub touched_by : List ClassState → Msg → Option ClassNo → Places
touched_by classes m None = all_places (length classes) m
touched_by classes m (Some class) = one_place (place_of classes class.0)

abbrev pub touched : List ClassState → Msg → Places
touched classes m = touched_by classes m (class_named m)
