-- What is kept of one event after the other, and what is reported of what happened.
use Rattle.sdd_watch.proofs.All.{All, All-filter, AreCommits, AreDones, Arrived, Commits, D, Dones, Event, Found, Happened, History, Input, IsBetween, IsGood, IsOver, IsSiteOf, IsTurn, List, Log, Option, RowDelta, Site, SiteState, Turn, U, World, ap, arrived, contains, dm_no, filter, found_by, happened_at, history, is_done_at, length, link_there, list_any, marks, pair_cmp, round_at, rows_of, says, scheduled_at, sites, states_of, subst, sym, take, takes_part, ℕ, ◌||◌, ◌∙◌, ◌≡◌}
use Rattle.sdd_moments.proofs.Recorded.{first_records}
use Rattle.sdd_moments.proofs.SitesThere.{sites_there}
use Rattle.sdd_watch.proofs.Said.{said_in_all}
use Rattle.sdd_moments.specs.Moments.{handed_on}

pub takers_there : (g : Input) (old new : Log) (all busy : List Site) → all ≡ sites g.catalogue.tms g.catalogue.dms → busy ≡ filter (takes_part g old new) all
    → All (IsSiteOf g) busy
takers_there g old new all busy are is =
    subst (λ (xs : List Site). All (IsSiteOf g) xs) (sym is)
    (All-filter (takes_part g old new) (IsSiteOf g) all (subst (λ (xs : List Site). All (IsSiteOf g) xs) (sym are) (sites_there g)))

-- what was said

pub dones_more : (g : Input) (old new : Log) (known : List Arrived) (before after : Dones) → IsGood g → IsBetween g old new → known ≡ arrived g old new
    → ((t d : ℕ) → contains pair_cmp after.said (t, d) ≡ (list_any (says t d) known || contains pair_cmp before.said (t, d)))
    → AreDones g old before → AreDones g new after
dones_more g old new known before after good between is add were = λ t d linked.
    add t d
    ∙ ap (λ b. list_any (says t d) known || b) (were t d linked)
    ∙ ap (λ (one : List Arrived). list_any (says t d) one || list_any (is_done_at t) (handed_on (D (dm_no d)) U old)) is
    ∙ said_in_all g old new t d good between (link_there g.catalogue.tms g.catalogue.dms (D (dm_no d)) U linked)

-- what was committed

pub records_before : (g : Input) (old new : Log) (records : History) (n : ℕ) → IsBetween g old new → records ≡ history new → n ≡ length (history old)
    → take n records ≡ history old
records_before g old new records n between is at = (λ i. take (at i) (is i)) ∙ first_records g old new between

pub commits_more : (g : Input) (old new : Log) (records : History) (n : ℕ) (before after : Commits) → IsBetween g old new → records ≡ history new
    → n ≡ length (history old) → (AreCommits (take n records) before → AreCommits records after) → AreCommits (history old) before
    → AreCommits (history new) after
commits_more g old new records n before after between is at add were =
    subst (λ (h : History). AreCommits h after) is
    (add (subst (λ (h : History). AreCommits h before) (sym (records_before g old new records n between is at)) were))

-- what happened, by its parts

abbrev of_parts : ℕ → ℕ → Option ℕ → Event → Found → List RowDelta → List SiteState → Happened
of_parts number scheduled round event found rows sites = record {
  number = number;
  scheduled = scheduled;
  round = round;
  event = event;
  found = found;
  rows = rows;
  sites = sites;
}

pub happened_is : (g : Input) (old new : Log) (w : World) (turn : Turn) (found : Found) (number : ℕ) (rows : List RowDelta) (states : List SiteState)
    → IsOver g old new w turn.event found → IsTurn g old new turn → number ≡ marks new → rows ≡ rows_of g old new → states ≡ states_of g old new
    → of_parts number turn.scheduled turn.round turn.event found rows states ≡ happened_at g old new
happened_is g old new w turn found number rows states over at count reported represent =
    (λ i. of_parts (count i) (at.scheduled i) (at.round i) turn.event (over.found_is i) rows states)
    ∙ (λ i. of_parts (marks new) (scheduled_at g old) (round_at g old) (over.event_is i) (found_by (over.event_is i) old new) (reported i) (represent i))
