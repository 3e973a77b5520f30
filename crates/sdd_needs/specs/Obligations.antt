-- What the modules of a system require of what is next on each lawful log, and that its links exist.
use Rattle.std.specs.Prelude.{Some, suc, ℕ, ◌∷◌, ◌≡◌}
use Rattle.sdd_log.specs.Due.{next}
use Rattle.sdd_log.specs.Entries.{Does, Hand, Input, Log, Mark, Redeclares, Submitted}
use Rattle.sdd_log.specs.Lawful.{IsLawful, IsWithin}
use Rattle.sdd_log.specs.Locals.{local_of, nth_era, redeclares, setting_of, txn_at}
use Rattle.sdd_log.specs.Permitted.{AreSubmittedOnce}
use Rattle.sdd_log.specs.Resting.{AllLinked, IsSiteOf}
use Rattle.sdd_log.specs.Snapshots.{base_of}
use Rattle.sdd_log.specs.attempt.Fits.{FitsSite}
use Rattle.sdd_log.specs.base.Numbers.{tm_no}
use Rattle.sdd_log.specs.base.declared.event.Event.TheVariants.{Tick, Up}
use Rattle.sdd_log.specs.base.declared.site.Site.{Site}
use Rattle.sdd_log.specs.base.declared.site.Site.TheVariants.{T}
use Rattle.sdd_log.specs.lang.declared.transaction.Txn.{Txn}
use Rattle.sdd_log.specs.site_module.SiteLog.{Act, sends_of_act}
use Rattle.sdd_log.specs.wire.declared.msg.Msg.{Msg}
use Rattle.sdd_needs.specs.Fitting.{FitsEra, fits, fits_submit, fits_tick}
use Rattle.sdd_needs.specs.Inputs.{AllFewTicks, FitsInput, HasEras, IsGoodInput}

-- Of all that is given so: what the modules require of messages, transactions, ticks and further class lists holds of what is next on its lawful
-- logs, and what is put goes along links.
pub record Obligations : Type 0 where
  pub hand : (g : Input) → IsGoodInput g → (log : Log) (a b : Site) (n : ℕ) (m : Msg) → IsLawful g log → IsWithin log → next g log ≡ Some (Hand a b n m)
      → fits b (setting_of g b) (base_of g (Hand a b n m ∷ log)) (local_of g b log) a m
  pub submit : (g : Input) → IsGoodInput g → (log : Log) (at : Site) (n : ℕ) (txn : Txn) → IsLawful g log
      → IsWithin log → next g log ≡ Some (Submitted at n) → txn_at g n ≡ Some txn
      → fits_submit at (setting_of g at) (base_of g (Submitted at n ∷ log)) (local_of g at log) n txn
  pub home : (g : Input) → IsGoodInput g → (log : Log) (at : Site) (n : ℕ) → IsLawful g log → next g log ≡ Some (Submitted at n) → IsSiteOf g at
  pub tick : (g : Input) → IsGoodInput g → (log : Log) (t n : ℕ) → IsLawful g log → IsWithin log → next g log ≡ Some (Mark (Tick (tm_no t) n))
      → fits_tick (T (tm_no t)) (setting_of g (T (tm_no t))) (local_of g (T (tm_no t)) log) n
  pub resume : (g : Input) → IsGoodInput g → (log : Log) (at : Site) → IsLawful g log → IsWithin log → next g log ≡ Some (Mark (Up at))
      → FitsSite (setting_of g at) (base_of g (Mark (Up at) ∷ log)) (local_of g at log)
  pub redeclare : (g : Input) → IsGoodInput g → (log : Log) (t : ℕ) → IsLawful g log → IsWithin log
      → next g log ≡ Some (Redeclares t)
      → FitsEra g.catalogue (nth_era g (suc (redeclares log))) t
  pub sends : (g : Input) → IsGoodInput g → (log : Log) (at : Site) (act : Act) → IsLawful g log → next g log ≡ Some (Does at act) → AllLinked g at (sends_of_act act)

-- What is given is good, and the modules can take what is next on its lawful logs: the premise of the running system. That
-- the second follows from the first is a theorem that stands beside the system, and not below it.
pub record IsGood (g : Input) : Type 0 where
  pub given : FitsInput g
  pub eras : HasEras g
  pub few_ticks : AllFewTicks g.events
  pub once : AreSubmittedOnce g.events
  pub needs : Obligations

abbrev pub good_input : (g : Input) → IsGood g → IsGoodInput g
good_input g good = record { given = good.given; eras = good.eras; few_ticks = good.few_ticks; once = good.once }
