-- The numbers in the lines of every run have 64 bits at most: it stays within the limits of events and of a link's messages, its
-- clocks stay low, and its schedule names small places.
use Rattle.std.proofs.Common.{arith}
use Rattle.std.proofs.lemmas.List.Elements.{All-head, All-tail}
use Rattle.std.specs.List.{All}
use Rattle.std.specs.Prelude.{ℕ, suc, ◌≤◌, List, [], ◌∷◌, length}
use Rattle.sdd_inside_laws.proofs.BytesRead.{HasSmallLines}
use Rattle.sdd_inside_laws.proofs.EachMoment.{between_at}
use Rattle.sdd_inside_laws.proofs.RunRead.{good_run}
use Rattle.sdd_inside_laws.proofs.SmallLinks.{hands_small, puts_small}
use Rattle.sdd_inside_laws.proofs.SmallPipes.{pipes_small}
use Rattle.sdd_inside_laws.proofs.SmallPlaces.{HasFewModules, NamesSmall, taking_small}
use Rattle.sdd_inside_laws.proofs.SmallQueues.{queues_small}
use Rattle.sdd_inside_read.specs.Small.{IsSmallSite}
use Rattle.sdd_app_inside.proofs.watch.obligations.catalog.Sound.{sound_whole}
use Rattle.sdd_app_inside.specs.watch.obligations.All.{AtEach, Catalogue, D, Deliver, Event, Input, IsGood, IsSoundCatalogue, IsTheLog, Log, Lose, Site, T, U}
use Rattle.sdd_app_inside.specs.watch.obligations.Bounds.{IsSmall}
use Rattle.sdd_app_inside.specs.watch.obligations.protocol.declared.entry.Entry.{Entry}
use Rattle.sdd_app_inside.proofs.run.Goods.{few_ticks}
use Rattle.sdd_app_inside.proofs.run.Submissions.{once}
use Rattle.sdd_app_inside.proofs.run.Whole.{events_valid}
use Rattle.sdd_app_inside.proofs.run.class_lists.WholeSound.{whole_sound}
use Rattle.sdd_app_inside.specs.watch.moments.Moments.{at_event}
use Rattle.sdd_app_inside.specs.run.Runs.{AreTables, input_of}
use Rattle.sdd_app_inside.specs.run.class_lists.InForce.{whole_in}
use Rattle.sdd_app_inside.specs.run.script.Valid.{IsSite, IsValid, IsValidEvent}
use Rattle.sdd_app_inside.specs.run.script.declared.workload.Workload.{Workload}

-- what the events of a valid schedule name

of_site : (cat : Catalogue) (at : Site) → cat.tms ≤ 16 → cat.dms ≤ 16 → IsSite cat at → IsSmallSite at
of_site cat U tms dms h = tt
of_site cat (T t) tms dms h = omega (arith, h.1, tms)
of_site cat (D d) tms dms h = omega (arith, h.1, dms)

of_event : (cat : Catalogue) (count : ℕ) (e : Event) → cat.tms ≤ 16 → cat.dms ≤ 16 → IsValidEvent cat count e → NamesSmall e
of_event cat count (Deliver a b k) tms dms h = (of_site cat a tms dms h.0.0, of_site cat b tms dms h.0.1, omega (arith, h.1.1))
of_event cat count (Lose a b k) tms dms h = (of_site cat a tms dms h.0.0, of_site cat b tms dms h.0.1, omega (arith, h.1.1))
of_event cat count _ tms dms h = tt

of_events : (cat : Catalogue) (count : ℕ) (es : List Event) → cat.tms ≤ 16 → cat.dms ≤ 16 → All (IsValidEvent cat count) es → AtEach NamesSmall es
of_events cat count [] tms dms h = tt
of_events cat count (e ∷ es) tms dms h = (
  of_event cat count e tms dms (All-head (IsValidEvent cat count) e es h),
  of_events cat count es tms dms (All-tail (IsValidEvent cat count) e es h),
)

pub small_lines : (cat : Catalogue) (work : Workload) (tables : List (List Entry)) → IsSoundCatalogue cat → IsValid cat work → AreTables cat work tables
    → (log : Log) → IsTheLog (input_of cat tables work) log → HasSmallLines (input_of cat tables work) log
small_lines cat work tables sound valid tabled log the_log k less =
    let g : Input = input_of cat tables work in
    let old : Log = at_event k log in
    let new : Log = at_event (suc k) log in
    let whole = sound_whole (whole_in cat work) (whole_sound cat work sound valid) in
    let valid_events = events_valid cat work valid in
    let good : IsGood g = good_run cat work tables sound valid tabled in
    let few : HasFewModules g = record { tms = whole.few_tms; dms = whole.few_dms } in
    let all : IsSmall g = record {
      few_tms = whole.few_tms;
      few_dms = whole.few_dms;
      few_classes = whole.few_classes;
      few_ticks = few_ticks (whole_in cat work) (length work.txns) work.events valid_events;
      once = once work.events valid.submitted;
    } in
    let names = of_events (whole_in cat work) (length work.txns) work.events whole.few_tms whole.few_dms valid_events in
    let i = between_at g k log good the_log less in
    record {
      taken = taking_small g old new few names i;
      handed = hands_small g old new good few i;
      put = puts_small g old new good few i;
      queues = queues_small g old new good i;
      pipes = pipes_small g old new good few all i;
    }
