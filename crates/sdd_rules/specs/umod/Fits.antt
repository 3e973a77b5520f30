-- What a message has to meet when it is handed to the module for undeclared transactions, and what a transaction that is
-- given to it.
use Rattle.std.specs.Prelude.{ℕ, ◌<◌, ◌^◌, ◌≡◌, ◌==◌, Bool, false}
use Rattle.std.specs.List.{list_any}
use Rattle.sdd_rules.specs.attempt.Fits.{AwaitsAt, FitsReady, FitsRows, FitsSite, at_site, fetches_use, handed, reduces_use}
use Rattle.sdd_module.specs.All.{Bases, Done, FitsTxn, Held, Log, Msg, Ready, Reduced, Rows, Setting, Site, T, Txn, Values, contains, submits}
use Rattle.sdd_rules.specs.attempt.Attempts.{active}
use Rattle.sdd_rules.specs.umod.Views.{counts, last_served}

-- a HELD of a T answers a HOLD that was sent to it
pub record FitsHeldFrom (log : Log) (tm time : ℕ) : Type 0 where
  pub early : time < 2 ^ 62
  pub awaited : (counts tm log).helds < (counts tm log).holds

abbrev pub FitsHeld : Log → Site → ℕ → Type 0
FitsHeld log (T t) time = FitsHeldFrom log t.0 time
FitsHeld log from time = ⊥

abbrev pub is_done : ℕ → Msg → Bool
is_done ts (Done t) = t.0 == ts
is_done ts _ = false

-- a DONE answers the WRITE of the last Commit, and is the first from its module
pub record FitsDone (s : Setting) (log : Log) (from : Site) (ts : ℕ) : Type 0 where
  pub current : (last_served s log).ts ≡ ts
  pub first : list_any (at_site from (is_done ts)) (handed log) ≡ false

-- no REJECT comes to it
abbrev pub fits_kind : Setting → Bases → Log → Site → Msg → Type 0
fits_kind s bases log from (Ready ts class counts) = FitsReady log from ts.0 class.0 counts
fits_kind s bases log from (Values ts class u values) = AwaitsAt (fetches_use u) (active s class.0 log) from ts.0
fits_kind s bases log from (Reduced ts class u n) = AwaitsAt (reduces_use u) (active s class.0 log) from ts.0
fits_kind s bases log from (Rows ts class rows) = FitsRows s bases (active s class.0 log) from ts.0 rows
fits_kind s bases log from (Held time) = FitsHeld log from time.0
fits_kind s bases log from (Done ts) = FitsDone s log from ts.0
fits_kind s bases log from _ = ⊥

abbrev pub fits : Setting → Bases → Log → Site → Msg → Type 0
fits s bases log from m = FitsSite s bases log × fits_kind s bases log from m

-- a transaction that is given to the module fits the catalogue and has a new number
pub record FitsSubmit (s : Setting) (bases : Bases) (log : Log) (n : ℕ) (txn : Txn) : Type 0 where
  pub site : FitsSite s bases log
  pub fitting : FitsTxn s.catalogue txn
  pub fresh : contains (submits log) n ≡ false
