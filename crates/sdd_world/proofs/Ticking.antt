-- The clock of a transaction module goes on, over plain worlds.
use Rattle.sdd_world.proofs.All.{AllRepresent, Bool, Boxes, Happened, Input, Log, Mark, Marked, Msg, Represent, Setting, Site, Sites, Spooled, StayAtOthers, T, Tick, Ticked, TmNo, U, World, [], false, fits_tick, good_input, handed_still, local_of, refl, rests_marked, same_here, same_site, setting_of, takes_part, ticked_none, ℕ, ◌∷◌, ◌≡◌}
use Rattle.sdd_world.proofs.Marking.{happened}
use Rattle.sdd_world.proofs.Parting.{all_after, spooled_on}
use Rattle.sdd_sites.specs.needs.site_module.SiteLog as site

own_tick : (g : Input) (t : TmNo) (n : ℕ) (log : Log) → local_of g (T t) (Mark (Tick t n) ∷ log) ≡ Ticked n ∷ local_of g (T t) log
own_tick g t n log = rw (same_here (T t)) refl

other_tick : (g : Input) (x : Site) (t : TmNo) (n : ℕ) (log : Log) → same_site x (T t) ≡ false → local_of g x (Mark (Tick t n) ∷ log) ≡ local_of g x log
other_tick g x t n log e = rw e refl

spool_ticked : (g : Input) (t : TmNo) (n : ℕ) (log : Log) (boxes : Boxes Msg) → Spooled g log boxes U → Spooled g (Mark (Tick t n) ∷ log) boxes U
spool_ticked g t n log boxes s = spooled_on g log (Mark (Tick t n) ∷ log) boxes U (λ at. refl)
    (λ at apart x rest r. record { count = r.count; messages = r.messages }) s

module _ (w : World) (g : Input) (log : Log) (t : TmNo) (n : ℕ) (m : Marked w g log (Tick t n)) where
  tick_fits : fits_tick (T t) (setting_of g (T t)) (local_of g (T t) log) n
  tick_fits = m.parts.good.needs.tick g (good_input g m.parts.good) log t.0 n m.marked.rests.lawful m.marked.rests.within m.marked.next_is

  pub tick_asks : (part : Bool) × (setting : Setting) × (l : site.Log) × Represent w.sites part (T t) setting l × fits_tick (T t) setting l n
  tick_asks = (takes_part (T t) log, setting_of g (T t), local_of g (T t) log, m.parts.sites (T t) m.possible.0, tick_fits)

  abbrev pub TickLaw : Sites → Type 0
  TickLaw s = (part : Bool) (setting : Setting) (l : site.Log) → Represent w.sites part (T t) setting l → fits_tick (T t) setting l n
      → Represent s part (T t) setting (Ticked n ∷ l)

  ticked_sites : (s : Sites) → TickLaw s → StayAtOthers w.sites s (T t) → AllRepresent s g (Mark (Tick t n) ∷ log)
  ticked_sites s law others =
      all_after w.sites s g log (Mark (Tick t n) ∷ log) (T t) [] (Ticked n ∷ local_of g (T t) log) (λ x p. refl)
      (λ x p. other_tick g x t n log p) (own_tick g t n log)
      (law (takes_part (T t) log) (setting_of g (T t)) (local_of g (T t) log) (m.parts.sites (T t) m.possible.0) tick_fits) others m.parts.sites

  pub ticked : (s : Sites) → TickLaw s → StayAtOthers w.sites s (T t) → Happened (record w { sites = s }) g log
  ticked s law others =
      happened w (record w { sites = s }) g log (Tick t n) (Mark (Tick t n) ∷ log) m
      (record { whole = refl; catalogue = refl; txns = refl; given = refl; marks = refl })
      (record {
        rests = rests_marked g log (Tick t n) m.marked (ticked_none g log t n m.marked.rests.no_site) refl
            (handed_still log (Tick t n) tt (λ a b. refl) m.marked.rests.handed_all);
        marks_is = refl;
        left_is = refl;
        redeclares_is = refl;
        history_is = m.parts.history_is;
        sites = ticked_sites s law others;
        net = m.parts.net;
        spooled = spool_ticked g t n log w.spool m.spooled;
      })
