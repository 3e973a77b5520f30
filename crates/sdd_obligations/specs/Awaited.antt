-- What the messages of an exchange meet when they are handed over.
use Rattle.std.specs.List.{All, list_any}
use Rattle.std.specs.Prelude.{ℕ, ◌≡◌, List, None, Option, Some, false, map, not}
use Rattle.sdd_invariants.specs.All.{AnswersRead, Ascend, Attempt, Awaits, AwaitsAt, Cond, Fetch, FitsReady, FitsShip, FitsStep, IsClass, IsHere, Msg, Read, Ready, Reduce, Reduced, Reject, Row, Rows, Setting, Ship, Site, Use, Values, active, contains, fetches_use, is_shipping, number_of, reduces_use, uses_at}
use Rattle.sdd_invariants.specs.site_module.SiteLog.{Log}

-- ROWS are awaited, and are of uses that are read at their module alone
pub record AwaitsRowsOf (a : Attempt) (from : Site) (ts : ℕ) (rows : List (ℕ × Row)) : Type 0 where
  pub awaited : Awaits is_shipping a from ts
  pub named : list_any (λ r. not (contains (uses_at a.exchange.modules (number_of from)) r.0)) rows ≡ false

abbrev pub AwaitsRows : Option Attempt → Site → ℕ → List (ℕ × Row) → Type 0
AwaitsRows None from ts rows = ⊥
AwaitsRows (Some a) from ts rows = AwaitsRowsOf a from ts rows

-- an answer of a data module is one that its site awaits
abbrev pub IsAwaited : Setting → Log → Site → Msg → Type 0
IsAwaited s log from (Ready ts class counts) = FitsReady log from ts.0 class.0 counts
IsAwaited s log from (Reject ts class by write) = AnswersRead log from ts.0 class.0
IsAwaited s log from (Values ts class u values) = AwaitsAt (fetches_use u) (active s class.0 log) from ts.0
IsAwaited s log from (Reduced ts class u n) = AwaitsAt (reduces_use u) (active s class.0 log) from ts.0
IsAwaited s log from (Rows ts class rows) = AwaitsRows (active s class.0 log) from ts.0 rows
IsAwaited s log from _ = Unit {0}

-- a FETCH, REDUCE or SHIP is for rows that the data module holds
abbrev pub IsServable : Setting → Log → Site → Msg → Type 0
IsServable s log from (Fetch ts class u col) = FitsStep s log from class.0 ts.0 u
IsServable s log from (Reduce ts class u col values) = FitsStep s log from class.0 ts.0 u
IsServable s log from (Ship ts class) = FitsShip s log from class.0 ts.0
IsServable s log from _ = Unit {0}

-- a READ is of a class of the catalogue, its conditions are on such classes and ascend by class, its uses ascend by number,
-- and the module has copies of their fragments
pub record ReadFits (s : Setting) (class : ℕ) (conds : List Cond) (uses : List Use) : Type 0 where
  pub is_class : IsClass s class
  pub conditions : All (λ d. IsClass s d.class.0) conds
  pub classes_ascend : Ascend (map (λ d. d.class.0) conds)
  pub uses_ascend : Ascend (map (λ u. u.number) uses)
  pub here : All (IsHere s) uses

abbrev pub IsReadable : Setting → Msg → Type 0
IsReadable s (Read ts class txn attempt conds uses) = ReadFits s class.0 conds uses
IsReadable s _ = Unit {0}
