-- The messages that go through pipes: READ, WRITE and NULL, each of one class and with a time.
use Rattle.std.specs.Prelude.{ℕ, ◌==◌, Bool, false, Option, Some, None}
use Rattle.sdd_wire.specs.declared.msg.Msg.{Msg}
use Rattle.sdd_wire.specs.declared.msg.Msg.TheVariants.{Read, Write, Null}

-- the class and the time of such a message: the timestamp of a READ or WRITE, the time of a NULL
abbrev pub piped : Msg → Option (ℕ × ℕ)
piped (Read ts class txn attempt conds uses) = Some (class.0, ts.0)
piped (Write ts class txn changes) = Some (class.0, ts.0)
piped (Null class time) = Some (class.0, time.0)
piped _ = None

abbrev pub class_is : ℕ → Option (ℕ × ℕ) → Bool
class_is c None = false
class_is c (Some p) = p.0 == c

-- whether a message goes through the pipe of class c
abbrev pub goes_through : ℕ → Msg → Bool
goes_through c m = class_is c (piped m)

abbrev pub time_in : Option (ℕ × ℕ) → ℕ
time_in None = 0
time_in (Some p) = p.1

abbrev pub time_of : Msg → ℕ
time_of m = time_in (piped m)
