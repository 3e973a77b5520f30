-- What the modules of the system ask of messages, transactions, ticks and further class lists, by the kind of their site.
use Rattle.std.specs.Prelude.{ℕ, ◌/◌, ◌<◌, ◌^◌}
use Rattle.sdd_eras.specs.EraOf.{IsEraOf}
use Rattle.sdd_log.specs.attempt.Fits.{FitsSite}
use Rattle.sdd_log.specs.base.declared.site.Site.{Site}
use Rattle.sdd_log.specs.base.declared.site.Site.TheVariants.{D, T, U}
use Rattle.sdd_log.specs.catalog.Catalogue.{Catalogue}
use Rattle.sdd_log.specs.lang.declared.transaction.Txn.{Txn}
use Rattle.sdd_log.specs.site_module.SiteLog.{Bases, Era, Setting}
use Rattle.sdd_log.specs.wire.declared.msg.Msg.{Msg}
use Rattle.sdd_log.specs.dm.Fits as dm
use Rattle.sdd_log.specs.tm.Fits as tm
use Rattle.sdd_log.specs.umod.Fits as um
use Rattle.sdd_log.specs.site_module.SiteLog as site

-- what a message has to meet, and what a transaction with its number
abbrev pub Fitting : Type 1
Fitting = Setting → Bases → site.Log → Site → Msg → Type 0

abbrev pub FittingSubmit : Type 1
FittingSubmit = Setting → Bases → site.Log → ℕ → Txn → Type 0

abbrev pub FittingTick : Type 1
FittingTick = Setting → site.Log → ℕ → Type 0

-- what a message, a transaction and ticks have to meet, by the kind of the site

abbrev pub fits_at : Fitting → Fitting → Fitting → Site → Fitting
fits_at u t d U = u
fits_at u t d (T n) = t
fits_at u t d (D n) = d

abbrev pub fits_submit_at : FittingSubmit → FittingSubmit → Site → FittingSubmit
fits_submit_at u t U setting bases log n txn = u setting bases log n txn
fits_submit_at u t (T k) setting bases log n txn = t setting bases log n txn
fits_submit_at u t (D d) setting bases log n txn = ⊥

abbrev pub fits_tick_at : FittingTick → Site → FittingTick
fits_tick_at t (T k) setting log n = t setting log n
fits_tick_at t _ setting log n = ⊥

abbrev pub fits : Site → Setting → Bases → site.Log → Site → Msg → Type 0
fits at = fits_at um.fits tm.fits dm.fits at

abbrev pub fits_submit : Site → Setting → Bases → site.Log → ℕ → Txn → Type 0
fits_submit at = fits_submit_at um.FitsSubmit tm.FitsSubmit at

abbrev pub FitsTick : Setting → site.Log → ℕ → Type 0
FitsTick s log n = (bases : Bases) × FitsSite s bases log

abbrev pub fits_tick : Site → Setting → site.Log → ℕ → Type 0
fits_tick at = fits_tick_at FitsTick at

-- What a further class list has to meet, and its time: the list is one of the whole catalogue, and the time pushes
-- no clock too far.
pub record FitsEra (whole : Catalogue) (next : Era) (t : ℕ) : Type 0 where
  pub early : t / 64 < 2 ^ 57
  pub era : IsEraOf whole next.catalogue
