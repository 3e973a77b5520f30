-- Workloads that a catalogue allows, and the files that spell them.
use Rattle.std.specs.Prelude.{ℕ, ◌+◌, ◌^◌, ◌≡◌, ◌≤◌, ◌<◌, IsTrue, Bool, true, false, List, ◌++◌, map, take, sum_by, count_by, slice_get, slice_index_or, length, Option, Some, None, is_some}
use Rattle.std.specs.Option.{option_map_or}
use Rattle.std.specs.Int.Signed.{mag}
use Rattle.std.specs.List.{All, filter_map}
use Rattle.sdd_lang.specs.All.{Catalogue, ClassPart, D, Deliver, Down, Event, FitsStart, FitsTxn, IsFrom1To, IsName, Lose, MAX_CLASSES, MAX_EVENTS, MAX_PLACE, MAX_READS, MAX_ROWS, MAX_TICKS, MAX_TXNS, MAX_WORKLOAD_BYTES, ReadPart, Redeclare, RelNo, Repeat, Resend, Settle, Site, Submit, T, Tick, U, Up, Value, are_linked, has_copy, repeats}
use Rattle.sdd_lang.specs.base.declared.value.Value.TheVariants as values
use Rattle.sdd_lang.specs.declared.assign.Assign.{Assign}
use Rattle.sdd_lang.specs.declared.assign.Assign.TheVariants.{To, Add}
use Rattle.sdd_lang.specs.declared.condition.Condition.{Condition}
use Rattle.sdd_lang.specs.declared.condition.Condition.TheVariants.{Const, Same}
use Rattle.sdd_lang.specs.declared.statement.Stmt.{Stmt}
use Rattle.sdd_lang.specs.declared.statement.Stmt.TheVariants as statements
use Rattle.sdd_lang.specs.declared.transaction.Txn.{Txn}
use Rattle.sdd_words.specs.Texts.{is_text}
use Rattle.sdd_script.specs.ClassLists.{joined, part_names}
use Rattle.sdd_script.specs.Naming.{class_names, fragment_named}
use Rattle.sdd_script.specs.Redeclaring.{is_redeclare, is_down}
use Rattle.sdd_script.specs.Spelling.{spelling}
use Rattle.sdd_script.specs.declared.limits.TheConstants.{MAX_LISTS}
use Rattle.sdd_script.specs.declared.workload.Workload.{Workload}

-- a number of 64 bits, or a text
abbrev pub IsValue : Value → Type 0
IsValue (values.Int n) = mag n < 2 ^ 63
IsValue (values.Text text) = IsTrue (is_text text)

abbrev pub HoldsValue : Condition → Type 0
HoldsValue (Const left op value) = IsValue value
HoldsValue (Same left right) = Unit {0}

abbrev pub AssignsValue : Assign → Type 0
AssignsValue (To column value) = IsValue value
AssignsValue (Add column by) = mag by < 2 ^ 63

-- the values of a statement are values
abbrev pub HoldsValues : Stmt → Type 0
HoldsValues (statements.Put rel row) = All IsValue row
HoldsValues (statements.Query out rels conds) = All HoldsValue conds
HoldsValues (statements.Update rel sets conds) = All AssignsValue sets × All HoldsValue conds
HoldsValues (statements.Delete rel conds) = All HoldsValue conds

-- an initial row that the catalogue allows
pub record IsValidRow (cat : Catalogue) (r : RelNo × List Value) : Type 0 where
  pub fits : FitsStart cat r
  pub values : All IsValue r.1

-- a transaction that the catalogue allows
pub record IsValidTxn (cat : Catalogue) (t : Txn) : Type 0 where
  pub named : IsName t.name
  pub fits : FitsTxn cat t
  pub values : All HoldsValues t.statements

-- a site that is there
abbrev pub IsSite : Catalogue → Site → Type 0
IsSite cat U = Unit {0}
IsSite cat (T tm) = IsFrom1To cat.tms tm.0
IsSite cat (D dm) = IsFrom1To cat.dms dm.0

-- a module that may go down: a transaction module or a data module, not U
abbrev pub IsModule : Catalogue → Site → Type 0
IsModule cat U = ⊥
IsModule cat (T tm) = IsFrom1To cat.tms tm.0
IsModule cat (D dm) = IsFrom1To cat.dms dm.0

abbrev pub IsLink : Catalogue → Site → Site → Type 0
IsLink cat from to = IsSite cat from × IsSite cat to × IsTrue (are_linked from to)

-- an event among so many transactions that the catalogue allows
abbrev pub IsValidEvent : Catalogue → ℕ → Event → Type 0
IsValidEvent cat txns (Submit txn) = IsFrom1To txns txn.0
IsValidEvent cat txns (Deliver from to place) = IsLink cat from to × IsFrom1To MAX_PLACE place
IsValidEvent cat txns (Lose from to place) = IsLink cat from to × IsFrom1To MAX_PLACE place
IsValidEvent cat txns (Repeat from to place) = IsLink cat from to × IsFrom1To MAX_PLACE place
IsValidEvent cat txns (Resend from to) = IsLink cat from to
IsValidEvent cat txns (Tick tm n) = IsFrom1To cat.tms tm.0 × IsFrom1To MAX_TICKS n
IsValidEvent cat txns Settle = Unit {0}
IsValidEvent cat txns Redeclare = Unit {0}
IsValidEvent cat txns (Down at) = IsModule cat at
IsValidEvent cat txns (Up at) = IsModule cat at

-- a fragment that is there, by its name
abbrev pub IsFragment : Catalogue → List ℕ → Type 0
IsFragment cat name = IsName name × IsTrue (is_some (fragment_named cat name))

-- whether the module has a copy of the fragment with the name
abbrev pub is_kept_at : Catalogue → ℕ → List ℕ → Bool
is_kept_at cat dm name = option_map_or (has_copy cat dm) (fragment_named cat name) false

-- a fragment that is there, read where it has a copy
pub record IsValidRead (cat : Catalogue) (r : ReadPart) : Type 0 where
  pub fragment : IsFragment cat r.fragment
  pub module_is_there : IsFrom1To cat.dms r.at
  pub copy : IsTrue (is_kept_at cat r.at r.fragment)

abbrev pub read_names : List ReadPart → List (List ℕ)
read_names reads = map (λ (r : ReadPart). r.fragment) reads

-- a class of a list that the catalogue allows
pub record IsValidClass (cat : Catalogue) (c : ClassPart) : Type 0 where
  pub named : IsName c.name
  pub module_is_there : IsFrom1To cat.tms c.tm
  pub reads : All (IsValidRead cat) c.reads
  -- no fragment is read twice, and none is written twice
  pub reads_once : repeats (read_names c.reads) ≡ false
  pub few_reads : length c.reads ≤ MAX_READS
  pub writes : All (IsFragment cat) c.writes
  pub writes_once : repeats c.writes ≡ false

-- class lists that the catalogue allows
pub record AreValidLists (cat : Catalogue) (lists : List (List ClassPart)) : Type 0 where
  pub classes : All (IsValidClass cat) (joined lists)
  -- no two classes have one name, those of the catalogue counted
  pub names : repeats (class_names cat ++ part_names (joined lists)) ≡ false
  pub few_classes : length cat.classes + length (joined lists) ≤ MAX_CLASSES
  pub few_lists : length lists ≤ MAX_LISTS

-- after these events, with so many lists: a list is left, and no module is down
pub record MayRedeclare (cat : Catalogue) (lists : ℕ) (events : List Event) : Type 0 where
  pub left : count_by is_redeclare events < lists
  pub up : (at : Site) → IsModule cat at → is_down at events ≡ false

-- each `redeclare` stands where it may
abbrev pub AreTimely : Catalogue → ℕ → List Event → Type 0
AreTimely cat lists events = (i : ℕ) → slice_get events i ≡ Some Redeclare → MayRedeclare cat lists (take i events)

abbrev pub is_put : Stmt → Bool
is_put (statements.Put rel row) = true
is_put statement = false

-- how many rows the statements put
abbrev pub rows_put_by : Txn → ℕ
rows_put_by t = count_by is_put t.statements

abbrev pub submitted_by : Event → Option ℕ
submitted_by (Submit txn) = Some txn.0
submitted_by event = None

-- no number stands twice
abbrev pub AreDistinct : List ℕ → Type 0
AreDistinct numbers = (i k : ℕ) → i < k → k < length numbers → (d : ℕ) → slice_index_or numbers i d ≡ slice_index_or numbers k d → ⊥

-- a workload that the catalogue allows
pub record IsValid (cat : Catalogue) (w : Workload) : Type 0 where
  pub rows : All (IsValidRow cat) w.rows
  pub txns : All (IsValidTxn cat) w.txns
  -- no two transactions have one name
  pub names : repeats (map (λ (t : Txn). t.name) w.txns) ≡ false
  pub lists : AreValidLists cat w.lists
  pub events : All (IsValidEvent cat (length w.txns)) w.events
  -- a transaction is submitted at most once
  pub submitted : AreDistinct (filter_map submitted_by w.events)
  pub timely : AreTimely cat (length w.lists) w.events
  pub few_rows : length w.rows + sum_by rows_put_by w.txns ≤ MAX_ROWS
  pub few_txns : length w.txns ≤ MAX_TXNS
  pub few_events : length w.events ≤ MAX_EVENTS

-- a file that spells a workload which the catalogue allows
pub record Accepts (cat : Catalogue) (bytes : List ℕ) (w : Workload) : Type 0 where
  pub small : length bytes ≤ MAX_WORKLOAD_BYTES
  pub valid : IsValid cat w
  pub spelled : bytes ≡ spelling cat w
