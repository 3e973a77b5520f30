-- At first nothing is due at any site.
use Rattle.sdd_log.proofs.All.{Act, Bases, Bool, D, Era, Input, List, None, Option, Redeclared, Rests, Setting, Site, T, U, [], arith, base_of, beginning, does_at, false, first_nowhere, first_some, if◌then◌else◌, map, next, next_at, next_in, nth_era, refl, setting_of, site_due, sites, takes_part, true, ◌∷◌, ◌≡◌}
use Rattle.sdd_log.proofs.FirstHand.{none_to_hand}
use Rattle.sdd_log.proofs.Ticking.{or_both}
use Rattle.sdd_log.proofs.Completing.{next_is_mark}
use Rattle.sdd_rules.specs.dm.Views as dm_views
use Rattle.sdd_rules.specs.dm.Due as dm
use Rattle.sdd_rules.specs.tm.Views as tm_views
use Rattle.sdd_rules.specs.tm.Due as tm
use Rattle.sdd_rules.specs.umod.Views as um_views
use Rattle.sdd_rules.specs.umod.Due as um

first_map : {A B C : Type 0} (f : B → Option C) (h : A → B) (xs : List A) → ((x : A) → f (h x) ≡ None) → first_some f (map h xs) ≡ None
first_map f h [] k = refl
first_map f h (x ∷ xs) k = or_both (f (h x)) (first_some f (map h xs)) (k x) (first_map f h xs k)

none_t : (s : Setting) (era : Era) (bases : Bases) → tm.next s bases (Redeclared era 0 ∷ []) ≡ None
none_t s era bases = grind (arith, or_both, first_map)

none_u : (s : Setting) (bases : Bases) → um.next s bases [] ≡ None
none_u s bases = grind (arith, or_both, first_map)

none_d : (s : Setting) (bases : Bases) → dm.next s bases [] ≡ None
none_d s bases = grind (arith, or_both, first_map)

none_here : (g : Input) (at : Site) (bases : Bases) → next_in g at bases (beginning g at) ≡ None
none_here g U bases = none_u (setting_of g U) bases
none_here g (T t) bases = none_t (setting_of g (T t)) (nth_era g 0) bases
none_here g (D d) bases = none_d (setting_of g (D d)) bases

does_none : (at : Site) (o : Option Act) → o ≡ None → does_at at o ≡ None
does_none at o e = grind arith

none_at_first : (g : Input) → site_due g [] ≡ None
none_at_first g =
    first_nowhere (λ at. does_at at (next_at g [] at)) (sites g.catalogue.tms g.catalogue.dms)
    (λ at. does_none at (next_at g [] at) (none_of at))
  where
    none_either : (part : Bool) (o : Option Act) → o ≡ None → (if part then o else None) ≡ None
    none_either true o e = e
    none_either false o e = refl

    none_of : (at : Site) → next_at g [] at ≡ None
    none_of at = none_either (takes_part at []) (next_in g at (base_of g []) (beginning g at)) (none_here g at (base_of g []))

pub rests_at_first : (g : Input) → Rests g []
rests_at_first g = record { lawful = tt; within = tt; no_mark = refl; no_site = none_at_first g; handed_all = λ a b p. refl }

pub next_at_first : (g : Input) → g.events ≡ [] → next g [] ≡ None
next_at_first g e = grind (arith, next_is_mark, none_at_first, none_to_hand)
