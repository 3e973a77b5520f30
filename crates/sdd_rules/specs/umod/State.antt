-- What the module for undeclared transactions keeps of its log: all that its acts rest on.
use Rattle.std.specs.Prelude.{ℕ, min, ◌^◌, ◌-◌, List, map}
use Rattle.sdd_rules.specs.attempt.Line.{Line}
use Rattle.sdd_module.specs.All.{Log, Setting, Ticking, numbers_to}
use Rattle.sdd_rules.specs.attempt.Attempts.{active}
use Rattle.sdd_rules.specs.attempt.Clocks.{clock}
use Rattle.sdd_rules.specs.attempt.Queues.{queue}
use Rattle.sdd_rules.specs.umod.Views.{Served, TmCounts, counts, last_served}

-- the line of class 0, the clock, what was served last, and each T
pub record State : Type 0 where
  pub line : Line
  pub clock : Ticking
  pub served : Served
  pub counts : List TmCounts

-- what is kept of a log

-- DONEs are counted as far as 32 bits go, which is far above the number of data modules
abbrev pub as_counted : ℕ → ℕ
as_counted n = min n (2 ^ 32 - 1)

abbrev pub served_of : Served → Served
served_of v = record v { dones = as_counted v.dones }

abbrev pub line_of : Setting → Log → Line
line_of s log = record { catalogue = s.catalogue; class = 0; queue = queue s 0 log; active = active s 0 log }

abbrev pub state_of : Setting → Log → State
state_of s log = record {
  line = line_of s log;
  clock = clock s.site log;
  served = served_of (last_served s log);
  counts = map (λ t. counts t log) (numbers_to s.catalogue.tms);
}
