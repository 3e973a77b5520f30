-- Sites whose links an event leaves alone are passed over.
use Rattle.sdd_moments.proofs.All.{AreSeen, Input, IsBetween, IsGood, List, Log, OnLinks, Reach, Site, Some, WatchedLink, all_links, all_sites, ap, arith, arrived_on, false, filter, filter-append, filter_map, filter_map-append, is_changed_link, length, length-map, link_after, link_before, links_from, map, may_change_from, place_of, refl, slice_get, sym, watched_links, ℕ, ◌++◌, ◌<◌, ◌∙◌, ◌≡◌, ◌≤◌}
use Rattle.sdd_moments.proofs.LinksKept.{AreStill, site_still}
use Rattle.sdd_moments.proofs.LinksLooked.{SitesSoFar, site_here, sites_over}
use Rattle.sdd_moments.proofs.Reached.{reach_after}
use Rattle.sdd_moments.proofs.SitesPlaced.{site_place}
use Rattle.sdd_moments.proofs.Visited.{groups_passed, length_changed, passed_to}

abbrev AllStill : Input → Log → Log → ℕ → ℕ → Type 0
AllStill g old new i j = (k : ℕ) (a : Site) → i ≤ k → k < j → slice_get (all_sites g) k ≡ Some a → AreStill old new (links_from g a)

sites_jump : (g : Input) (old new : Log) (i j : ℕ) (links : List (Site × List WatchedLink)) (first now : OnLinks) → i ≤ j → AllStill g old new i j
    → SitesSoFar g old new i links first now → SitesSoFar g old new j links first now
sites_jump g old new i j links first now more still s =
    let changed = groups_passed (filter (is_changed_link old new)) refl (filter-append (is_changed_link old new)) (links_from g) (all_sites g) i j more
    (λ k a low high e. (still k a low high e).unchanged) in
    record {
      links_are = s.links_are ∙ passed_to (watched_links g old) (watched_links g new) (all_sites g) i j more
          (λ k a low high e. ap (λ ws. (a, ws)) (still k a low high e).kept);
      seen = record {
        before_are = s.seen.before_are ∙ ap (λ ls. first.moments.before.items ++ map (link_before old) ls) changed;
        after_are = s.seen.after_are ∙ ap (λ ls. first.moments.after.items ++ map (link_after old new) ls) changed;
        arrived_are = s.seen.arrived_are
            ∙ ap (λ xs. first.arrived.items ++ xs) (groups_passed (filter_map (arrived_on old new)) refl (filter_map-append (arrived_on old new))
            (links_from g) (all_sites g) i j more (λ k a low high e. (still k a low high e).none));
      };
    }

-- between a place and the next one that is reached
pub sites_passed : (g : Input) (old new : Log) (reach : Reach) (tms i j : ℕ) (links : List (Site × List WatchedLink)) (first now : OnLinks) → IsGood g
    → IsBetween g old new → reach ≡ reach_after g old new new → tms ≡ g.catalogue.tms → i ≤ j
    → ((x : Site) → i ≤ place_of tms x → place_of tms x < j → may_change_from reach x ≡ false)
    → SitesSoFar g old new i links first now → SitesSoFar g old new j links first now
sites_passed g old new reach tms i j links first now good b is many more aside s =
    sites_jump g old new i j links first now more (λ k a low high e.
    let at : place_of tms a ≡ k = ap (λ n. place_of n a) many ∙ site_place g.catalogue.tms g.catalogue.dms k a e in
    site_still g old new a good b (site_here g k a e)
    (ap (λ r. may_change_from r a) (sym is) ∙ aside a (omega (arith, low, at)) (omega (arith, high, at)))) s

-- so many sites there are, whatever was looked at

as_many_sites : (g : Input) (old new : Log) (begun links : List (Site × List WatchedLink)) (i : ℕ) (first now : OnLinks)
    → begun ≡ map (watched_links g old) (all_sites g) → SitesSoFar g old new i links first now → length begun ≡ length links
as_many_sites g old new begun links i first now e s =
    ap length e ∙ length-map (all_sites g) (watched_links g old)
    ∙ sym (ap length s.links_are ∙ length_changed (watched_links g old) (watched_links g new) i (all_sites g))

pub sites_few : (g : Input) (old new : Log) (begun links : List (Site × List WatchedLink)) (i : ℕ) (first now : OnLinks)
    → begun ≡ map (watched_links g old) (all_sites g) → SitesSoFar g old new i links first now → i < length links → i < length begun
sites_few g old new begun links i first now e s few =
    let n = as_many_sites g old new begun links i first now e s in omega (arith, n, few)

pub sites_past : (g : Input) (old new : Log) (begun links : List (Site × List WatchedLink)) (i : ℕ) (first now : OnLinks)
    → begun ≡ map (watched_links g old) (all_sites g) → length links ≤ i → SitesSoFar g old new i links first now
    → (links ≡ map (watched_links g new) (all_sites g)) × AreSeen old new (all_links g) first now
sites_past g old new begun links i first now e past s =
    let n = as_many_sites g old new begun links i first now e s in
    sites_over g old new begun links i first now e (omega (arith, n, past)) s
