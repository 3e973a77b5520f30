-- Which logs the modules of a system represent before its first event.
use Rattle.std.specs.Prelude.{ℕ, ◌-◌, ◌≤◌, ◌≡◌, List, [], ◌∷◌, length, slice_get, Option, Some, None}
use Rattle.sdd_needs.specs.All.{Catalogue, D, Input, Kept, Redeclared, RelNo, Row, Setting, T, Txn, dm_no, nth_era, rows_of, tm_no}
use Rattle.sdd_needs.specs.protocol.declared.entry.Entry.{Entry}
use Rattle.sdd_dm.specs.Represents as dm
use Rattle.sdd_dm.specs.State as dm_state
use Rattle.sdd_tm.specs.Represents as tm
use Rattle.sdd_needs.specs.tm.State as tm_state

-- the module that is looked for is there, and has this
abbrev pub There : {V : Type 0} → (V → Type 0) → Option V → Type 0
There P None = ⊥
There P (Some v) = P v

-- there are so many modules, numbered from 1, and each has what one of its number has
pub record AllBegin {V : Type 0} (P : ℕ → V → Type 0) (count : ℕ) (made : List V) : Type 0 where
  pub count_is : length made ≡ count
  pub each : (n : ℕ) → 1 ≤ n → n ≤ count → There (P n) (slice_get made (n - 1))

-- transaction module n of the whole catalogue, where these classes of it and their protocol table are in force
abbrev pub BeginsT : Catalogue → Catalogue → List Entry → ℕ → Kept tm_state.State → Type 0
BeginsT whole cat table n made = (s : Setting) → s.catalogue ≡ whole → s.site ≡ T (tm_no n)
    → tm.Represents made s (Redeclared (record { catalogue = cat; table = table }) 0 ∷ [])

-- data module n, made of these rows
abbrev pub BeginsD : Catalogue → List (RelNo × Row) → ℕ → Kept dm_state.State → Type 0
BeginsD cat rows n made = dm.Represents made (record { catalogue = cat; site = D (dm_no n); rows = rows }) []

-- What is given is of the whole catalogue and of these transactions, and has no events yet; the first class list in
-- force is that of a catalogue with its table; and of these data modules each is the one of its number, made of the rows
-- that are given for it.
pub record IsBegun (g : Input) (whole cat : Catalogue) (table : List Entry) (txns : List Txn) (dms : List (Kept dm_state.State)) : Type 0 where
  pub catalogue_is : g.catalogue ≡ whole
  pub era_is : nth_era g 0 ≡ record { catalogue = cat; table = table }
  pub txns_are : txns ≡ g.txns
  pub no_events : g.events ≡ []
  pub made : AllBegin (λ n. BeginsD whole (rows_of g (D (dm_no n))) n) whole.dms dms
