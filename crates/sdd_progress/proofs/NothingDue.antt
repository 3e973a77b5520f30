-- Where an event is over nothing is due at a data module, whether or not it is down: before it went down nothing was due
-- there, and while it is down its log stays as it is.
use Rattle.sdd_progress.proofs.AllWaits.{Bases, D, DmNo, Entry, Input, IsLawful, Log, None, Site, [], arith, begins_event, false, local_of, refl, setting_of, site_due, subst, sym, true, ◌∷◌, ◌≡◌, ◌≤◌}
use Rattle.sdd_obligations.specs.All.{Down, Mark, is_down, next_in}
use Rattle.sdd_obligations.specs.dm.Due as dm
use Rattle.sdd_obligations.specs.dm.Views as dm_views
use Rattle.sdd_progress.proofs.EventOver.{none_at_data_up, none_due, over_before}
use Rattle.sdd_progress.proofs.StillWhileDown.{still_by_entry}
use Rattle.sdd_progress.specs.Down.{brings_up}

-- only an event brings a module down, and it leaves the module's log

pub goes_down : (g : Input) (at : Site) (e : Entry) (log : Log) → is_down at log ≡ false → is_down at (e ∷ log) ≡ true
    → (begins_event e ≡ true) × (local_of g at (e ∷ log) ≡ local_of g at log)
goes_down g at (Mark (Down m)) log up down = (refl, refl)
goes_down g at e log up down = grind arith

pub still_down : (at : Site) (e : Entry) (log : Log) → is_down at log ≡ true → is_down at (e ∷ log) ≡ true → brings_up at e ≡ false
still_down at e log was down = grind arith

idle_while_down : (g : Input) (d : DmNo) (log : Log) → 1 ≤ d.0 → d.0 ≤ g.catalogue.dms → IsLawful g log → is_down (D d) log ≡ true
    → (b : Bases) → next_in g (D d) b (local_of g (D d) log) ≡ None
idle_while_down g d [] low high lawful down b = cc
idle_while_down g d (e ∷ log) low high lawful down b =
    elim (is_down (D d) log) as (λ c. is_down (D d) log ≡ c → next_in g (D d) b (local_of g (D d) (e ∷ log)) ≡ None) [
      | true ↦ λ was. (let same = still_by_entry g d e log lawful.0 (still_down (D d) e log was down) was in
          subst (λ l. next_in g (D d) b l ≡ None) (sym same) (idle_while_down g d log low high lawful.1 was b))
      | false ↦ λ up. (let goes = goes_down g (D d) e log up down in
          subst (λ l. next_in g (D d) b l ≡ None) (sym goes.1)
          (none_at_data_up g log d low high up (none_due g log (over_before g e log lawful goes.0))))
    ] refl

pub none_at_data : (g : Input) (log : Log) (d : DmNo) → 1 ≤ d.0 → d.0 ≤ g.catalogue.dms → IsLawful g log → site_due g log ≡ None
    → dm.due (dm_views.home_of (setting_of g (D d))) (dm_views.view_of (setting_of g (D d)) (local_of g (D d) log)) ≡ None
none_at_data g log d low high lawful none =
    elim (is_down (D d) log) as (λ c. is_down (D d) log ≡ c
    → dm.due (dm_views.home_of (setting_of g (D d))) (dm_views.view_of (setting_of g (D d)) (local_of g (D d) log)) ≡ None) [
      | true ↦ λ down. idle_while_down g d log low high lawful down (λ n. [])
      | false ↦ λ up. none_at_data_up g log d low high up none
    ] refl
