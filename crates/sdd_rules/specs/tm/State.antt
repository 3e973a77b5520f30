-- What a transaction module keeps of its log: all that its acts rest on, but the numbers of hands.
use Rattle.std.specs.Prelude.{ℕ, ◌==◌, nat_lt, Bool, List, map, filter}
use Rattle.sdd_module.specs.All.{Era, Log, Setting, Ticking, current_era, time_at}
use Rattle.sdd_rules.specs.attempt.Line.{Line}
use Rattle.sdd_rules.specs.attempt.Attempts.{active}
use Rattle.sdd_rules.specs.attempt.Clocks.{clock}
use Rattle.sdd_rules.specs.attempt.Queues.{queue}
use Rattle.sdd_rules.specs.declared.asked.Asked.{Asked}
use Rattle.sdd_rules.specs.tm.Views.{Question, asks, holds, runs}

-- one class: its queue and active attempt, and the open ASKs for it in the order of their hands
pub record ClassState : Type 0 where
  pub line : Line
  pub asks : List Asked

-- the classes in force, the clock, whether the module is on hold and still owes a HELD for that, and its classes
pub record State : Type 0 where
  pub era : Era
  pub clock : Ticking
  pub on_hold : Bool
  pub owes_held : Bool
  pub classes : List ClassState

-- what is kept of a log

abbrev pub asked : Question → Asked
asked q = record { from = q.from; time = time_at q.time }

abbrev pub asks_of : ℕ → List Question → List Asked
asks_of c qs = map asked (filter (λ q. q.class == c) qs)

abbrev pub class_of : Setting → Log → ℕ → ClassState
class_of s log c = record {
  line = record {
    catalogue = s.catalogue;
    class = c;
    queue = queue s c log;
    active = active s c log;
  };
  asks = asks_of c (asks log);
}

abbrev pub state_of : Setting → Log → State
state_of s log = record {
  era = current_era s log;
  clock = clock s.site log;
  on_hold = nat_lt (holds log).releases (holds log).holds;
  owes_held = nat_lt (holds log).helds (holds log).holds;
  classes = map (class_of s log) (runs s);
}
