-- What a message has to meet when it is handed to a transaction module, and what a transaction that is given to it.
use Rattle.std.specs.Prelude.{ℕ, ◌<◌, ◌^◌, ◌≡◌, ◌≢◌, true, false}
use Rattle.sdd_rules.specs.attempt.Fits.{AnswersRead, AwaitsAt, FitsReady, FitsRows, FitsSite, fetches_use, reduces_use}
use Rattle.sdd_module.specs.All.{Ask, Bases, FitsTxn, Log, Msg, Ready, Reduced, Reject, Release, Rows, Setting, Site, T, Txn, U, Values, class_for, contains, current_era, submits}
use Rattle.sdd_module.specs.wire.declared.msg.Msg.TheVariants.{Hold}
use Rattle.sdd_rules.specs.attempt.Attempts.{active}
use Rattle.sdd_rules.specs.tm.Views.{holds, runs, view_of, on_hold}

-- an ASK is for a class of the module
pub record FitsAsk (s : Setting) (class time : ℕ) : Type 0 where
  pub runs_it : contains (runs s) class ≡ true
  pub early : time < 2 ^ 62

pub record FitsReject (log : Log) (from : Site) (ts class write : ℕ) : Type 0 where
  pub answers : AnswersRead log from ts class
  pub early : write < 2 ^ 62

-- a HOLD comes from U, where the module isn't on hold
pub record FitsHold (s : Setting) (log : Log) (from : Site) : Type 0 where
  pub home : from ≡ U
  pub free : on_hold (view_of s log) ≡ false

-- a RELEASE comes from U, and ends a hold whose HELD was sent
pub record FitsRelease (s : Setting) (log : Log) (from : Site) (ts : ℕ) : Type 0 where
  pub home : from ≡ U
  pub hold : on_hold (view_of s log) ≡ true
  pub held : (holds log).helds ≡ (holds log).holds
  pub early : ts < 2 ^ 62

abbrev pub fits_kind : Setting → Bases → Log → Site → Msg → Type 0
fits_kind s bases log from (Ready ts class counts) = FitsReady log from ts.0 class.0 counts
fits_kind s bases log from (Reject ts class by write) = FitsReject log from ts.0 class.0 write.0
fits_kind s bases log from (Values ts class u values) = AwaitsAt (fetches_use u) (active s class.0 log) from ts.0
fits_kind s bases log from (Reduced ts class u n) = AwaitsAt (reduces_use u) (active s class.0 log) from ts.0
fits_kind s bases log from (Rows ts class rows) = FitsRows s bases (active s class.0 log) from ts.0 rows
fits_kind s bases log from (Ask class time) = FitsAsk s class.0 time.0
fits_kind s bases log from Hold = FitsHold s log from
fits_kind s bases log from (Release ts) = FitsRelease s log from ts.0
fits_kind s bases log from _ = ⊥

abbrev pub fits : Setting → Bases → Log → Site → Msg → Type 0
fits s bases log from m = FitsSite s bases log × fits_kind s bases log from m

-- a transaction that is given to the module fits the catalogue, has a new number, and is of a class in force and of
-- this module
pub record FitsSubmit (s : Setting) (bases : Bases) (log : Log) (n : ℕ) (txn : Txn) : Type 0 where
  pub site : FitsSite s bases log
  pub fitting : FitsTxn s.catalogue txn
  pub here : s.site ≡ T txn.tm
  pub declared : class_for (current_era s log).catalogue txn ≢ 0
  pub fresh : contains (submits log) n ≡ false
