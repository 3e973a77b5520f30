-- A look at the pipes of each data module, one after the other.
use Rattle.sdd_moments.proofs.All.{ArePipesSeen, Both, D, Input, IsSiteOf, List, Log, PipeMoment, Site, Some, WatchedPipe, all_pipes, ap, arith, dm_no, flat_map, get_or, in_range, le_true, length, length-map, map, numbers_to, pipes_at_module, refl, slice_get, slice_set, subst, sym, take, take_all, watched_pipes, ℕ, ◌+◌, ◌<◌, ◌∙◌, ◌≡◌, ◌≤◌}
use Rattle.sdd_moments.proofs.PipesVisited.{AsTheyStood, first_of_drop, of_place, pipes_join, pipes_none}
use Rattle.sdd_moments.proofs.Visited.{PlaceAt, all_changed, changed_to, group_more, place_at}

module_here : (g : Input) (d : ℕ) → 1 ≤ d → d ≤ g.catalogue.dms → IsSiteOf g (D (dm_no d))
module_here g d l m = rw (le_true 1 d l, le_true d g.catalogue.dms m) refl

pub module_of : (g : Input) (k d : ℕ) → slice_get (numbers_to g.catalogue.dms) k ≡ Some d → IsSiteOf g (D (dm_no d))
module_of g k d e = let m = in_range 1 g.catalogue.dms k d e in module_here g d m.0 (omega (arith, m.1))

-- of the first so many data modules what is kept of their pipes and was seen
pub record ModulesSoFar (g : Input) (old new : Log) (i : ℕ) (pipes : List (Site × List WatchedPipe)) (first now : Both PipeMoment) : Type 0 where
  pub pipes_are : pipes ≡ changed_to (watched_pipes g old) (watched_pipes g new) i (numbers_to g.catalogue.dms)
  pub seen : ArePipesSeen g old new (flat_map (pipes_at_module g) (take i (numbers_to g.catalogue.dms))) first now

pub no_modules_yet : (g : Input) (old new : Log) (pipes : List (Site × List WatchedPipe)) (first : Both PipeMoment)
    → pipes ≡ map (watched_pipes g old) (numbers_to g.catalogue.dms) → ModulesSoFar g old new 0 pipes first first
no_modules_yet g old new pipes first e = record { pipes_are = e; seen = pipes_none g old new first }

pub module_at : (g : Input) (old new : Log) (begun pipes : List (Site × List WatchedPipe)) (i : ℕ) (x : Site × List WatchedPipe)
    (first now : Both PipeMoment)
    → begun ≡ map (watched_pipes g old) (numbers_to g.catalogue.dms) → i < length begun → ModulesSoFar g old new i pipes first now → x ≡ get_or pipes i x
    → PlaceAt (watched_pipes g old) (watched_pipes g new) (numbers_to g.catalogue.dms) pipes i (i + 1) x
module_at g old new begun pipes i x first now e few s is =
    let n = ap length e ∙ length-map (numbers_to g.catalogue.dms) (watched_pipes g old) in
    place_at (watched_pipes g old) (watched_pipes g new) (numbers_to g.catalogue.dms) pipes i (i + 1) x (omega arith) (omega (arith, few, n)) s.pipes_are is

pub modules_more : (g : Input) (old new : Log) (begun pipes : List (Site × List WatchedPipe)) (i : ℕ) (x next : Site × List WatchedPipe)
    (first now then : Both PipeMoment)
    → begun ≡ map (watched_pipes g old) (numbers_to g.catalogue.dms) → i < length begun → ModulesSoFar g old new i pipes first now → x ≡ get_or pipes i x
    → ((d : ℕ) → IsSiteOf g (D (dm_no d)) → x ≡ watched_pipes g old d → next ≡ watched_pipes g new d)
    → ((d : ℕ) → IsSiteOf g (D (dm_no d)) → x ≡ watched_pipes g old d → ArePipesSeen g old new (pipes_at_module g d) now then)
    → ModulesSoFar g old new (i + 1) (slice_set pipes i next) first then
modules_more g old new begun pipes i x next first now then e few s is keeps sees =
    let all : List ℕ = numbers_to g.catalogue.dms in
    let p = module_at g old new begun pipes i x first now e few s is in
    let here = module_of g i p.place p.is_there in
    record {
      pipes_are = p.changed next (keeps p.place here p.stood);
      seen = subst (λ ps. ArePipesSeen g old new ps first then) (sym (group_more (pipes_at_module g) (take i all) p.place (take (i + 1) all) p.further))
          (pipes_join g old new (flat_map (pipes_at_module g) (take i all)) (pipes_at_module g p.place) first now then s.seen (sees p.place here p.stood));
    }

pub modules_over : (g : Input) (old new : Log) (begun pipes : List (Site × List WatchedPipe)) (i : ℕ) (first now : Both PipeMoment)
    → begun ≡ map (watched_pipes g old) (numbers_to g.catalogue.dms) → length begun ≤ i → ModulesSoFar g old new i pipes first now
    → (pipes ≡ map (watched_pipes g new) (numbers_to g.catalogue.dms)) × ArePipesSeen g old new (all_pipes g) first now
modules_over g old new begun pipes i first now e past s =
    let n = ap length e ∙ length-map (numbers_to g.catalogue.dms) (watched_pipes g old) in
    let all : take i (numbers_to g.catalogue.dms) ≡ numbers_to g.catalogue.dms = take_all i (numbers_to g.catalogue.dms) (omega (arith, past, n)) in (
      s.pipes_are ∙ all_changed (watched_pipes g old) (watched_pipes g new) i (numbers_to g.catalogue.dms) (omega (arith, past, n)),
      subst (λ ds. ArePipesSeen g old new (flat_map (pipes_at_module g) ds) first now) all s.seen,
    )

-- the data module at hand, whose pipes stand as they stood

pub module_as_it_stood : (g : Input) (old : Log) (begun pipes : List (Site × List WatchedPipe)) (i : ℕ) (x : Site × List WatchedPipe)
    → begun ≡ map (watched_pipes g old) (numbers_to g.catalogue.dms) → i < length begun → i < length pipes → AsTheyStood i begun pipes → x ≡ get_or pipes i x
    → (d : ℕ) × IsSiteOf g (D (dm_no d)) × (x ≡ watched_pipes g old d)
module_as_it_stood g old begun pipes i x e few here same is =
    let stood : x ≡ get_or begun i x = is ∙ first_of_drop pipes begun i x here few same in
    let n = ap length e ∙ length-map (numbers_to g.catalogue.dms) (watched_pipes g old) in
    let p = of_place (watched_pipes g old) (numbers_to g.catalogue.dms) i x (omega (arith, few, n)) (stood ∙ ap (λ ws. get_or ws i x) e) in
    (p.0, module_of g i p.0 p.1, p.2)
