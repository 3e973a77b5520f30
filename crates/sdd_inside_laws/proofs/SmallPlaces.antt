-- What the events of a run name has small numbers: those of the schedule are valid, and a round delivers first packets.
use Rattle.std.proofs.Common.{arith, subst, sym, ◌∙◌}
use Rattle.std.proofs.lemmas.Bool.{and_parts, leb-true}
use Rattle.std.specs.Prelude.{◌≡◌, ◌≤◌, Bool, true, false, if◌then◌else◌, List, [], ◌∷◌, ◌++◌, nat_le, Option, Some, None, refl}
use Rattle.sdd_inside.specs.Differences.{takes_one}
use Rattle.sdd_inside_read.specs.Small.{IsSmallSite, IsSmallTaking, IsSmall}
use Rattle.sdd_inside_read.specs.Told.{Taking, taken_by, taking}
use Rattle.sdd_app_inside.proofs.watch.obligations.logs.AsLists.{next_mark_is}
use Rattle.sdd_app_inside.proofs.watch.obligations.logs.NextMark.{mark_is_next}
use Rattle.sdd_app_inside.proofs.watch.obligations.logs.Rounding.{each_of_round}
use Rattle.sdd_app_inside.proofs.watch.obligations.net.Directions.{link_parts}
use Rattle.sdd_app_inside.specs.watch.obligations.All.{AtEach, D, Deliver, Entry, Event, Input, IsLawful, Log, Lose, Mark, Redeclare, Redeclares, Settle, Site, T, U, all_links, calls_of, is_link, is_site, quiet}
use Rattle.sdd_app_inside.specs.watch.obligations.base.Words.{tail_of}
use Rattle.sdd_app_inside.specs.watch.obligations.logs.Entries.{Round}
use Rattle.sdd_app_inside.specs.watch.obligations.logs.Marks.{Ahead, BetweenRounds, InRound, ahead, events_ahead, from_event, greatest_bound, mark_ahead, mark_between, once_marked, once_quiet, with_round}
use Rattle.sdd_app_inside.specs.watch.obligations.net.Links.{round}
use Rattle.sdd_app_inside.proofs.watch.moments.Between.{last_is}
use Rattle.sdd_app_inside.specs.watch.moments.AtEvent.{found_by, last_event}
use Rattle.sdd_app_inside.specs.watch.Text.{change}
use Rattle.sdd_app_inside.specs.watch.moments.Changes.{IsBetween}
use Rattle.sdd_app_inside.specs.watch.Watching.{IsMark}

-- the sites and the place of an event that may take a packet have numbers of 64 bits
abbrev pub NamesSmall : Event → Type 0
NamesSmall (Deliver a b k) = IsSmallSite a × IsSmallSite b × IsSmall k
NamesSmall (Lose a b k) = IsSmallSite a × IsSmallSite b × IsSmall k
NamesSmall _ = Unit {0}

-- a network of few modules
pub record HasFewModules (g : Input) : Type 0 where
  pub tms : g.catalogue.tms ≤ 16
  pub dms : g.catalogue.dms ≤ 16

pub site_small : (g : Input) (at : Site) → HasFewModules g → is_site g.catalogue.tms g.catalogue.dms at ≡ true → IsSmallSite at
site_small g U few h = tt
site_small g (T t) few h =
    let p = and_parts (nat_le 1 t.0) (nat_le t.0 g.catalogue.tms) h in omega (arith, leb-true t.0 g.catalogue.tms p.1, few.tms)
site_small g (D d) few h =
    let p = and_parts (nat_le 1 d.0) (nat_le d.0 g.catalogue.dms) h in omega (arith, leb-true d.0 g.catalogue.dms p.1, few.dms)

pub record AreSmallEnds (a b : Site) : Type 0 where
  pub from : IsSmallSite a
  pub to : IsSmallSite b

pub ends_small : (g : Input) (a b : Site) → HasFewModules g → is_link g.catalogue.tms g.catalogue.dms a b ≡ true → AreSmallEnds a b
ends_small g a b few h =
    let p = link_parts g.catalogue.tms g.catalogue.dms a b h in record { from = site_small g a few p.from; to = site_small g b few p.to }

round_small : (g : Input) (log : Log) → HasFewModules g → AtEach NamesSmall (round (all_links g) (calls_of log))
round_small g log few =
    each_of_round NamesSmall g.catalogue.tms g.catalogue.dms (calls_of log)
    (λ a b l. (let e = ends_small g a b few l in (tt, (e.from, e.to, omega arith))))

-- all that is ahead

abbrev AreSmallAhead : Ahead → Type 0
AreSmallAhead (InRound e rest events) = NamesSmall e × AtEach NamesSmall rest × AtEach NamesSmall events
AreSmallAhead (BetweenRounds events) = AtEach NamesSmall events

small_round : (es events : List Event) → AtEach NamesSmall es → AtEach NamesSmall events → AreSmallAhead (with_round es events)
small_round [] events h k = k
small_round (e ∷ rest) events h k = (h.0, h.1, k)

small_events : (s : Ahead) → AreSmallAhead s → AtEach NamesSmall (events_ahead s)
small_events (InRound e rest events) h = h.2
small_events (BetweenRounds events) h = h

small_rest : (events : List Event) → AtEach NamesSmall events → AtEach NamesSmall (tail_of (from_event events))
small_rest [] h = tt
small_rest (Settle ∷ events) h = small_rest events h.1
small_rest (_ ∷ events) h = h.1

small_marked : (s : Ahead) → AreSmallAhead s → AreSmallAhead (once_marked s)
small_marked (InRound e rest events) h = small_round rest events h.1 h.2
small_marked (BetweenRounds events) h = small_rest events h

-- what the next entry names

abbrev EntryNames : Entry → Type 0
EntryNames (Mark e) = NamesSmall e
EntryNames (Round es) = AtEach NamesSmall es
EntryNames _ = Unit {0}

of_some : (x y : Entry) → Some x ≡ Some y → EntryNames x → EntryNames y
of_some x y e h = (let p : x ≡ y = cc in subst EntryNames p h)

quiet_small : (g : Input) (log : Log) (mark : Option Entry) (x : Entry) → AtEach NamesSmall (round (all_links g) (calls_of log))
    → (mark ≡ Some x → EntryNames x) → once_quiet g log mark ≡ Some x → EntryNames x
quiet_small g log mark x r k =
    elim (quiet (all_links g) (calls_of log)) as (λ b. (if b then mark else Some (Round (round (all_links g) (calls_of log)))) ≡ Some x → EntryNames x) [
      | true ↦ k
      | false ↦ λ e. of_some (Round (round (all_links g) (calls_of log))) x e r
    ]

between_small : (g : Input) (log : Log) (events : List Event) (x : Entry) → AtEach NamesSmall (round (all_links g) (calls_of log))
    → AtEach NamesSmall events → mark_between g log events ≡ Some x → EntryNames x
between_small g log [] x r h e = cc
between_small g log (Settle ∷ events) x r h e = quiet_small g log (mark_between g log events) x r (between_small g log events x r h.1) e
between_small g log (Redeclare ∷ events) x r h e =
    quiet_small g log (Some (Redeclares (greatest_bound g log))) x r (λ p. of_some (Redeclares (greatest_bound g log)) x p tt) e
between_small g log (f ∷ events) x r h e = of_some (Mark f) x e h.0

ahead_small : (g : Input) (log : Log) (s : Ahead) (x : Entry) → AtEach NamesSmall (round (all_links g) (calls_of log))
    → AreSmallAhead s → mark_ahead g log s ≡ Some x → EntryNames x
ahead_small g log (InRound f rest events) x r h e = of_some (Mark f) x e h.0
ahead_small g log (BetweenRounds events) x r h e = between_small g log events x r h e

next_is : (g : Input) (log : Log) (x : Entry) → mark_ahead g log (ahead g.events log) ≡ Some x → HasFewModules g → AreSmallAhead (ahead g.events log) → EntryNames x
next_is g log x e few h = ahead_small g log (ahead g.events log) x (round_small g log few) h e

all_ahead : (g : Input) (log : Log) → HasFewModules g → AtEach NamesSmall g.events → IsLawful g log → AreSmallAhead (ahead g.events log)
all_ahead g [] few h l = h
all_ahead g (Mark e ∷ log) few h l = small_marked (ahead g.events log) (all_ahead g log few h l.1)
all_ahead g (Redeclares t ∷ log) few h l = small_marked (ahead g.events log) (all_ahead g log few h l.1)
all_ahead g (Round es ∷ log) few h l =
    let before = all_ahead g log few h l.1 in
    let names = next_is g log (Round es) (next_mark_is g log ∙ mark_is_next g log (Round es) refl l.0) few before in
    small_round es (events_ahead (ahead g.events log)) names (small_events (ahead g.events log) before)
all_ahead g (_ ∷ log) few h l = all_ahead g log few h l.1

mark_small : (g : Input) (x : Entry) (log : Log) → IsMark x → HasFewModules g → AtEach NamesSmall g.events → IsLawful g (x ∷ log)
    → NamesSmall (last_event (x ∷ log))
mark_small g (Mark e) log m few h l =
    next_is g log (Mark e) (next_mark_is g log ∙ mark_is_next g log (Mark e) refl l.0) few (all_ahead g log few h l.1)
mark_small g (Redeclares t) log m few h l = tt
mark_small g _ log m few h l = absurd m

lawful_from : (g : Input) (more log : Log) → IsLawful g (more ++ log) → IsLawful g log
lawful_from g [] log l = l
lawful_from g (x ∷ more) log l = lawful_from g more log l.1

-- the event between two logs
pub event_small : (g : Input) (old new : Log) → HasFewModules g → AtEach NamesSmall g.events → IsBetween g old new → NamesSmall (last_event new)
event_small g old new few h i =
    let here : IsLawful g (i.mark ∷ old) = lawful_from g i.more (i.mark ∷ old) (subst (IsLawful g) i.parts i.after.lawful) in
    let same : last_event (i.mark ∷ old) ≡ last_event new = sym (subst (λ l. last_event l ≡ last_event (i.mark ∷ old)) (sym i.parts) (last_is i.more (i.mark ∷ old) i.no_marks)) in
    subst NamesSmall same (mark_small g i.mark old i.is_mark few h here)

taken_small : (b : Bool) (e : Event) (t : Taking) → NamesSmall e → (if b then taken_by e else None) ≡ Some t → IsSmallTaking t
taken_small true (Deliver a b k) t h p =
    let same : record { from = a; to = b; place = k } ≡ t = cc in subst IsSmallTaking same h
taken_small true (Lose a b k) t h p =
    let same : record { from = a; to = b; place = k } ≡ t = cc in subst IsSmallTaking same h
taken_small _ _ t h p = cc

pub taking_small : (g : Input) (old new : Log) → HasFewModules g → AtEach NamesSmall g.events → IsBetween g old new
    → (t : Taking) → taking (change g old new) ≡ Some t → IsSmallTaking t
taking_small g old new few h i t =
    taken_small (takes_one (found_by (last_event new) old new)) (last_event new) t (event_small g old new few h i)
