-- A whole run, read line by line: its lines, what a reader begins with, and what he has after so many lines.
use Rattle.std.specs.Prelude.{ℕ, ◌-◌, ◌≡◌, ◌≤◌, List, [], ◌++◌, fold, map, take}
use Rattle.std.specs.List.{flat_map}
use Rattle.sdd_app_inside.specs.watch.obligations.All.{Input, Log, Site, all_links, class_no, dm_no, marks, numbers_to, time_at}
use Rattle.sdd_inside.specs.Lines.{beginning, line}
use Rattle.sdd_inside.specs.declared.delta.Delta.{Delta}
use Rattle.sdd_inside.specs.declared.moment.QueueMoment.{QueueMoment}
use Rattle.sdd_inside_laws.specs.Reader.{Known, KnownLink, KnownPipe, known, queue_classes, read}
use Rattle.sdd_inside_laws.specs.TextReader.{by_names, read_all_told}
use Rattle.sdd_inside_read.specs.LineReader.{event_lines, read_line}
use Rattle.sdd_app_inside.specs.watch.moments.Moments.{all_pipes, at_event}
use Rattle.sdd_app_inside.specs.watch.Text.{change}
use Rattle.sdd_app_inside.specs.run.schedule.Copies.{tables_of}

-- what event k changed
abbrev pub change_at : Input → Log → ℕ → Delta
change_at g log k = change g (at_event (k - 1) log) (at_event k log)

-- what the first so many events changed, one after the other
abbrev pub changes_to : Input → Log → ℕ → List Delta
changes_to g log count = map (change_at g log) (numbers_to count)

-- What a reader begins with, by the numbers of modules and classes alone: each link, queue and pipe there is, with nothing
-- on it or in it.

abbrev pub empty_link : Site × Site → KnownLink
empty_link l = record { from = l.0; to = l.1; flight = []; messages = []; handed = 0 }

abbrev pub empty_queue : ℕ → QueueMoment
empty_queue c = record { class = class_no c; queue = [] }

abbrev pub empty_pipe : ℕ × ℕ → KnownPipe
empty_pipe p = record { dm = dm_no p.0; class = class_no p.1; waiting = []; passed = time_at 0 }

abbrev pub nothing_yet : Input → Known
nothing_yet g = record { links = map empty_link (all_links g); queues = map empty_queue (queue_classes g); pipes = map empty_pipe (all_pipes g) }

-- what he has who reads these lines one after the other
abbrev pub read_all : List Delta → Known → Known
read_all lines before = fold (λ known line. read line known) before lines

-- The text is a first line and the lines of the events; who reads the first so many of them has what there is when so many
-- events are over, and who reads all has what there is at the end.
pub record IsReadBack (g : Input) (log : Log) (text : List ℕ) : Type 0 where
  pub text_is : text ≡ beginning g.catalogue g.txns (tables_of g []) ++ flat_map (line g.catalogue g.txns) (changes_to g log (marks log))
  pub after_each : (count : ℕ) → count ≤ marks log → read_all (changes_to g log count) (nothing_yet g) ≡ known g (at_event count log)
  pub at_end : read_all (changes_to g log (marks log)) (nothing_yet g) ≡ known g log

-- The text gives back the same by its bytes alone, by names: it is cut into lines, and these are read one after the other.
pub record IsReadFromBytes (g : Input) (log : Log) (text : List ℕ) : Type 0 where
  pub after_each : (count : ℕ) → count ≤ marks log
      → read_all_told (map read_line (take count (event_lines text))) (by_names g.catalogue g.txns (nothing_yet g))
      ≡ by_names g.catalogue g.txns (known g (at_event count log))
  pub at_end : read_all_told (map read_line (event_lines text)) (by_names g.catalogue g.txns (nothing_yet g))
      ≡ by_names g.catalogue g.txns (known g log)
