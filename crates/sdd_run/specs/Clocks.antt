-- How far the clocks of a run go.
use Rattle.std.specs.Prelude.{◌<◌, ◌^◌, ◌≡◌, ◌++◌, ◌∷◌, [], refl}
use Rattle.sdd_progress.specs.obligations.attempt.Clocks.{clock}
use Rattle.sdd_progress.specs.obligations.base.Numbers.{tm_no}
use Rattle.sdd_progress.specs.obligations.base.declared.event.Event.TheVariants.{Tick}
use Rattle.sdd_progress.specs.obligations.base.declared.site.Site.{Site}
use Rattle.sdd_progress.specs.obligations.base.declared.site.Site.TheVariants.{T}
use Rattle.sdd_progress.specs.obligations.logs.Entries.{Input, Log, Mark}
use Rattle.sdd_progress.specs.obligations.logs.Locals.{local_of}

-- at each moment of the log the clock of each site stands below 2^39 ticks
abbrev pub HasLowClocks : Input → Log → Type 0
HasLowClocks g log = (later before : Log) (at : Site) → log ≡ later ++ before → (clock at (local_of g at before)).ticks < 2 ^ 39

-- worked: a clock goes on by the ticks of an event at its site, and by those of no other

pub own_tick : (g : Input) → (clock (T (tm_no 1)) (local_of g (T (tm_no 1)) (Mark (Tick (tm_no 1) 5) ∷ []))).ticks ≡ 5
own_tick g = refl

pub other_tick : (g : Input) → (clock (T (tm_no 2)) (local_of g (T (tm_no 2)) (Mark (Tick (tm_no 1) 5) ∷ []))).ticks ≡ 0
other_tick g = refl
