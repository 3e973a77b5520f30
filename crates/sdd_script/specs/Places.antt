-- What may stand where: rows, then transactions, then class lists, then events, then `end`.
use Rattle.std.specs.Prelude.{ℕ, List, Bool, true, false}
use Rattle.sdd_lang.specs.All.{ReadPart}
use Rattle.sdd_script.specs.OpenLists.{no_classes, reads_in, writes_in, takes_reads as takes_reads_in, takes_writes as takes_writes_in}
use Rattle.sdd_script.specs.declared.open_list.OpenList.{OpenList}
use Rattle.sdd_script.specs.declared.place.Place.{Place}
use Rattle.sdd_script.specs.declared.place.Place.TheVariants.{Rows, Inside, Between, Listing, Declared, Events, Ended}

-- where a row may stand
abbrev pub takes_rows : Place → Bool
takes_rows Rows = true
takes_rows _ = false

-- where a transaction may begin
abbrev pub takes_txns : Place → Bool
takes_txns Rows = true
takes_txns Between = true
takes_txns _ = false

-- where a statement may stand
abbrev pub takes_statements : Place → Bool
takes_statements (Inside header) = true
takes_statements _ = false

-- where a class list may begin
abbrev pub takes_lists : Place → Bool
takes_lists Rows = true
takes_lists Between = true
takes_lists Declared = true
takes_lists _ = false

-- where a class of a list may begin
abbrev pub takes_classes : Place → Bool
takes_classes (Listing list) = true
takes_classes _ = false

-- where a read of a class may stand
abbrev pub takes_reads : Place → Bool
takes_reads (Listing list) = takes_reads_in list
takes_reads _ = false

-- where a write of a class may stand
abbrev pub takes_writes : Place → Bool
takes_writes (Listing list) = takes_writes_in list
takes_writes _ = false

-- where an event or `end` may stand
abbrev pub takes_events : Place → Bool
takes_events Rows = true
takes_events Between = true
takes_events Declared = true
takes_events Events = true
takes_events _ = false

abbrev pub is_ended : Place → Bool
is_ended Ended = true
is_ended _ = false

-- the list that is open, one of no classes where none is
abbrev pub open_list : Place → OpenList
open_list (Listing list) = list
open_list _ = no_classes

-- what the class that is open reads and writes so far

abbrev pub reads_at : Place → List ReadPart
reads_at place = reads_in (open_list place)

abbrev pub writes_at : Place → List (List ℕ)
writes_at place = writes_in (open_list place)
