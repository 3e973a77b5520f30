-- The log of each site, as the log of everything gives it.
use Rattle.std.specs.Prelude.{ℕ, suc, ◌-◌, if◌then◌else◌, List, [], ◌∷◌, slice_get, slice_index_or, Option, Some, None}
use Rattle.sdd_rules.specs.All.{D, Did, Era, Event, Handed, IsTable, Redeclared, RelNo, Row, Setting, Site, Submits, T, Tick, Ticked, Txn, U, same_site}
use Rattle.sdd_rules.specs.site_module.SiteLog as site
use Rattle.sdd_log.specs.Entries.{Input, Log, Mark, Redeclares, Hand, Submitted, Does}

-- a class list is in force with the protocol table of its catalogue
pub record IsEra (f : Era) : Type 0 where
  pub table : IsTable f.catalogue f.table

-- how often a further class list was put in force
abbrev pub redeclares : Log → ℕ
redeclares [] = 0
redeclares (Redeclares t ∷ log) = suc (redeclares log)
redeclares (_ ∷ log) = redeclares log

-- list k, counted from 0
abbrev pub nth_era : Input → ℕ → Era
nth_era g k = slice_index_or g.eras k (record { catalogue = g.catalogue; table = [] })

abbrev pub txn_at : Input → ℕ → Option Txn
txn_at g n = slice_get g.txns (n - 1)

-- a transaction module begins with the first list in force
abbrev pub beginning : Input → Site → site.Log
beginning g U = []
beginning g (T t) = Redeclared (nth_era g 0) 0 ∷ []
beginning g (D d) = []

-- and further lists concern transaction modules alone
abbrev pub with_era : Site → Era → ℕ → site.Log → site.Log
with_era U era t log = log
with_era (T n) era t log = Redeclared era t ∷ log
with_era (D d) era t log = log

abbrev pub with_tick : Site → Event → site.Log → site.Log
with_tick at (Tick t n) log = if same_site at (T t) then Ticked n ∷ log else log
with_tick at _ log = log

abbrev pub with_submit : ℕ → Option Txn → site.Log → site.Log
with_submit n None log = log
with_submit n (Some txn) log = Submits n txn ∷ log

-- the log of one site: the ticks of its clock, the lists in force, what is handed and given to it, and what it does
abbrev pub local_of : Input → Site → Log → site.Log
local_of g at [] = beginning g at
local_of g at (Mark e ∷ log) = with_tick at e (local_of g at log)
local_of g at (Redeclares t ∷ log) = with_era at (nth_era g (suc (redeclares log))) t (local_of g at log)
local_of g at (Hand from to n m ∷ log) = if same_site at to then Handed from m ∷ local_of g at log else local_of g at log
local_of g at (Submitted to n ∷ log) = if same_site at to then with_submit n (txn_at g n) (local_of g at log) else local_of g at log
local_of g at (Does by act ∷ log) = if same_site at by then Did act ∷ local_of g at log else local_of g at log
local_of g at (_ ∷ log) = local_of g at log

-- of what the module of a site is made: a data module of its rows
abbrev pub rows_of : Input → Site → List (RelNo × Row)
rows_of g U = []
rows_of g (T t) = []
rows_of g (D d) = slice_index_or g.rows (d.0 - 1) []

abbrev pub setting_of : Input → Site → Setting
setting_of g at = record { catalogue = g.catalogue; site = at; rows = rows_of g at }
