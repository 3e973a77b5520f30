-- What is kept between two events of what stood where, as the log gives it when the last event was over.
-- For the contracts of the code: not needed to read `IsTextOf`.
use Rattle.std.specs.Prelude.{ℕ, ◌≡◌, ◌==◌, Bool, false, not, if◌then◌else◌, is_some, length, map, option_map, Option, Some, None}
use Rattle.std.specs.BTreeMap.{get}
use Rattle.std.specs.BTreeSet.{contains}
use Rattle.std.specs.List.{list_any, position}
use Rattle.std.specs.Ordering.{nat_cmp}
use Rattle.sdd_moments.specs.obligations.All.{D, Deliver, Done, Down, Event, History, Input, IsLinkOf, Log, Lose, Message, Msg, Packet, Repeat, Resend, U, Up, dm_no, history, is_down, is_empty, link_of, numbers_to, packet_at, sites}
use Rattle.sdd_moments.specs.obligations.net.Links.{unacked}
use Rattle.sdd_moments.specs.obligations.links.Finding.{pair_cmp}
use Rattle.sdd_inside.specs.declared.delta.Taken.{Taken}
use Rattle.sdd_moments.specs.schedule.Pending.{commits}
use Rattle.sdd_moments.specs.schedule.declared.turn.Turn.{Turn}
use Rattle.sdd_moments.specs.schedule.world.Represents.{Calm}
use Rattle.sdd_moments.specs.schedule.world.declared.world.World.{World}
use Rattle.sdd_moments.specs.AtEvent.{taken}
use Rattle.sdd_moments.specs.Changes.{all_sites, queues_by, watched_links, watched_pipes}
use Rattle.sdd_moments.specs.Moments.{handed_on}
use Rattle.sdd_watch.specs.declared.commits.Commits.{Commits}
use Rattle.sdd_watch.specs.declared.dones.Dones.{Dones}
use Rattle.sdd_watch.specs.declared.foreseen.Foreseen.{Foreseen}
use Rattle.sdd_watch.specs.declared.foreseen.Foreseen.TheVariants as foreseens
use Rattle.sdd_watch.specs.declared.watch.Watch.{Watch}
-- between two logs
pub use Rattle.sdd_moments.specs.schedule.Events.{IsBetween, IsMark, IsTellable, IsTurn}

-- what an event is about to find

abbrev pub taken_at : Option (Packet Msg) → Option Taken
taken_at packet = option_map taken packet

abbrev pub foresee_take : Option Taken → Foreseen
foresee_take None = foreseens.Nothing
foresee_take (Some packet) = foreseens.Takes packet

abbrev pub foresee_act : Bool → Foreseen
foresee_act can_do = if can_do then foreseens.Something else foreseens.Nothing

abbrev pub foreseen_by : Event → Log → Foreseen
foreseen_by (Deliver a b k) log = foresee_take (taken_at (packet_at k (link_of a b log)))
foreseen_by (Lose a b k) log = foresee_take (taken_at (packet_at k (link_of a b log)))
foreseen_by (Repeat a b k) log = foresee_act (is_some (packet_at k (link_of a b log)))
foreseen_by (Resend a b) log = foresee_act (not (is_empty (unacked (link_of a b log).there)))
foreseen_by (Down at) log = foresee_act (not (is_down at log))
foreseen_by (Up at) log = foresee_act (is_down at log)
foreseen_by _ log = foreseens.Something

-- what was said and recorded

-- a message says that what was committed with timestamp t is applied
abbrev pub is_done_at : ℕ → Packet Msg → Bool
is_done_at t (Message n (Done ts)) = ts.0 == t
is_done_at t p = false

-- the DONEs that were handed to U, by timestamps and data modules
abbrev pub AreDones : Input → Log → Dones → Type 0
AreDones g log dones =
    (t d : ℕ) → IsLinkOf g (D (dm_no d)) U
    → contains pair_cmp dones.said (t, d) ≡ list_any (is_done_at t) (handed_on (D (dm_no d)) U log)

-- of each transaction the place of its first Commit
abbrev pub AreCommits : History → Commits → Type 0
AreCommits records known = (n : ℕ) → get nat_cmp known.places n ≡ position (commits n) records

-- beside links, queues and pipes
pub record Knows (g : Input) (log : Log) (w : Watch) : Type 0 where
  pub sites : w.sites.items ≡ sites g.catalogue.tms g.catalogue.dms
  pub records : w.records ≡ length (history log)
  pub commits : AreCommits (history log) w.commits
  pub dones : AreDones g log w.dones

-- all of it
pub record Watches (g : Input) (log : Log) (w : Watch) : Type 0 where
  pub sites : w.sites.items ≡ sites g.catalogue.tms g.catalogue.dms
  pub links : w.links.items ≡ map (watched_links g log) (all_sites g)
  pub queues : w.queues.items ≡ map (queues_by g log) (all_sites g)
  pub pipes : w.pipes.items ≡ map (watched_pipes g log) (numbers_to g.catalogue.dms)
  pub records : w.records ≡ length (history log)
  pub commits : AreCommits (history log) w.commits
  pub dones : AreDones g log w.dones

-- What is needed to tell an event: the watch keeps what stood before it, the world is that after it, and what it is, where it
-- stands and what it found are told.
pub record IsToTell (g : Input) (old new : Log) (w : World) (watch : Watch) (turn : Turn) (foreseen : Foreseen) : Type 0 where
  pub between : IsBetween g old new
  pub calm : Calm w g new
  pub watches : Watches g old watch
  pub turn_is : IsTurn g old new turn
  pub foreseen_is : foreseen ≡ foreseen_by turn.event old
  pub tellable : IsTellable g turn.event
