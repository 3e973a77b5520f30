-- When the rows of a module serve the attempt for which they were asked.
use Rattle.std.specs.Prelude.{ℕ, List, None, Option, Some}
use Rattle.sdd_invariants.specs.All.{Attempt, Bases, Msg, Row, Rows, ServesIfLast, Setting, Site, active, number_of, without}
use Rattle.sdd_invariants.specs.site_module.SiteLog as site

-- with the last ROWS the rows serve the attempt's database

abbrev pub ServedBy : Setting → Bases → Option Attempt → Site → List (ℕ × Row) → Type 0
ServedBy s bases None from rows = Unit {0}
ServedBy s bases (Some a) from rows = ServesIfLast s bases a rows (without a.exchange.lacks (number_of from))

abbrev pub IsServedAt : Setting → Bases → site.Log → Site → Msg → Type 0
IsServedAt s bases log from (Rows ts class rows) = ServedBy s bases (active s class.0 log) from rows
IsServedAt s bases log from _ = Unit {0}
