-- The text of what happens while a world carries out what it is given.
use Rattle.std.specs.Prelude.{ℕ, ◌-◌, ◌≡◌, List, [], ◌++◌}
use Rattle.std.specs.List.{flat_map}
use Rattle.sdd_inside.specs.Differences.{difference}
use Rattle.sdd_inside.specs.Lines.{beginning, line}
use Rattle.sdd_inside.specs.declared.delta.Delta.{Delta}
use Rattle.sdd_moments.specs.obligations.catalog.Catalogue.{numbers_to}
use Rattle.sdd_moments.specs.obligations.logs.Entries.{Input, Log, marks}
use Rattle.sdd_moments.specs.obligations.logs.Lawful.{IsTheLog}
use Rattle.sdd_moments.specs.schedule.Copies.{tables_of}
use Rattle.sdd_watch.specs.Happens.{happened_at}
use Rattle.sdd_moments.specs.Moments.{at_event, moment_of}

-- what changed from one log to another, between which one event lies
abbrev pub change : Input → Log → Log → Delta
change g old new = difference (happened_at g old new) (moment_of g old) (moment_of g new)

-- the line of event k
abbrev pub line_of : Input → Log → ℕ → List ℕ
line_of g log k = line g.catalogue g.txns (change g (at_event (k - 1) log) (at_event k log))

-- the first line, with what the copies begin with, and a line for each event that has a number
abbrev pub inside_text : Input → Log → List ℕ
inside_text g log = beginning g.catalogue g.txns (tables_of g []) ++ flat_map (line_of g log) (numbers_to (marks log))

-- A text is that of what is given: of *the* log of it.
pub record IsTextOf (g : Input) (text : List ℕ) : Type 0 where
  pub log : Log
  pub log_is : IsTheLog g log
  pub text_is : text ≡ inside_text g log
