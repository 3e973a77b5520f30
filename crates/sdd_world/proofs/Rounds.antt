-- Rounds and single events, over plain worlds.
use Rattle.sdd_world.proofs.All.{AllRepresent, AtEach, Before, Boxes, Call, Calm, Carries, D, Down, EndsBy, Event, Happened, IfOk, Input, OnlyMarksAreDue, IsGood, IsModuleOf, IsPossible, IsSingle, IsSoundNetwork, List, Log, MAX_RUN_EVENTS, Mark, Marked, Msg, Parts, Redeclare, Represent, Represents, Rests, Result, Round, Rounding, Settle, Settling, Site, Some, Spooled, T, TakesRounds, U, Up, World, [], after_mark, all_links, ap, arith, calls_of, each_of_round, event_left, false, few_marks, in_round, lawful_grows, left, links, local_of, lt-ltb, marks, next, none_left, none_to_hand, one_more, quiet, refl, round, round_next, setting_of, still_none, subst, suc, sym, takes_part, with_event, ℕ, ◌++◌, ◌+◌, ◌∙◌, ◌∷◌, ◌≡◌, ◌≢◌, ◌≤◌}
use Rattle.sdd_world.proofs.Parting.{all_on, spooled_on}
use Rattle.sdd_world.proofs.Results.{of_ok}

pub single : (g : Input) (e : Event) → IsPossible g e → IsSingle e
single g Settle p = absurd p
single g Redeclare p = absurd p
single g _ p = tt

module_more : (g : Input) (e : Event) (at : Site) → IsModuleOf g at → IsModuleOf (with_event g e) at
module_more g e U h = absurd h
module_more g e (T n) h = h
module_more g e (D n) h = h

still_possible : (g : Input) (x e : Event) → IsPossible g e → IsPossible (with_event g x) e
still_possible g x Settle p = absurd p
still_possible g x Redeclare p = absurd p
still_possible g x (Down at) p = module_more g x at p
still_possible g x (Up at) p = module_more g x at p
still_possible g x _ p = p

pub free : (g : Input) (log : Log) → Rests g log → OnlyMarksAreDue g log
free g log r = record { no_mark = r.no_mark; no_site = r.no_site; no_hand = none_to_hand g log r.handed_all }

rests_round : (g : Input) (log : Log) (es : List Event) → Rests g log → next g log ≡ Some (Round es) → Rests g (Round es ∷ log)
rests_round g log es r n = record {
  lawful = (n, r.lawful);
  within = (refl, r.within);
  no_mark = refl;
  no_site = still_none g log (Round es ∷ log) (λ x part. part) (λ x. refl) r.no_site;
  handed_all = λ a b p. r.handed_all a b p;
}

pub rests_more : (g : Input) (e : Event) (log : Log) → Rests g log → Rests (with_event g e) log
rests_more g e log r = record { lawful = lawful_grows g e log r.lawful; within = r.within; no_mark = r.no_mark; no_site = r.no_site; handed_all = r.handed_all }

still_module : (g : Input) (e : Event) (at : Site) → IsModuleOf (with_event g e) at → IsModuleOf g at
still_module g e U h = absurd h
still_module g e (T n) h = h
still_module g e (D n) h = h

spool_round : (g : Input) (es : List Event) (log : Log) (boxes : Boxes Msg) → Spooled g log boxes U → Spooled g (Round es ∷ log) boxes U
spool_round g es log boxes s = spooled_on g log (Round es ∷ log) boxes U (λ at. refl) (λ at apart x rest r. record { count = r.count; messages = r.messages }) s

spool_more : (g : Input) (e : Event) (log : Log) (boxes : Boxes Msg) → Spooled g log boxes U → Spooled (with_event g e) log boxes U
spool_more g e log boxes s = record {
  has = record { tms = s.has.tms; count = s.has.count };
  each = λ at here apart.
      (let k = s.each at (still_module g e at here) apart in
      let n = k.senders in
      record { down_is = k.down_is; senders = record { tms = n.tms; count = n.count; linked = n.linked }; kept = k.kept; empty = k.empty });
}

sound_more : (g : Input) (e : Event) → IsSoundNetwork g → IsSoundNetwork (with_event g e)
sound_more g e s = record { few_tms = s.few_tms; few_dms = s.few_dms; txns_fit = s.txns_fit }

-- a round begins with its events
pub round_opened : (w : World) (g : Input) (log : Log) (e : Event) (events : List Event) → Settling w g log e → quiet (all_links g) (calls_of log) ≡ false
    → ((tms dms : ℕ) (calls : List (Call Msg)) → Carries w.net tms dms calls → events ≡ round (links tms dms) calls)
    → Rounding w g (Round events ∷ log) e events
round_opened w g log to events s q f =
    let e : events ≡ round (links g.catalogue.tms g.catalogue.dms) (calls_of log) = f g.catalogue.tms g.catalogue.dms (calls_of log) s.calm.parts.net in
    let n : next g log ≡ Some (Round events) =
    round_next g log s.waiting to (free g log s.calm.rests) s.left_is s.rounds s.ends q ∙ ap (λ r. Some (Round r)) (sym e) in
    record {
      calm = record {
        parts = record {
          good = s.calm.parts.good;
          sound = s.calm.parts.sound;
          whole_is = s.calm.parts.whole_is;
          catalogue_is = s.calm.parts.catalogue_is;
          txns_are = s.calm.parts.txns_are;
          given_is = s.calm.parts.given_is;
          history_is = s.calm.parts.history_is;
          sites = all_on w.sites g log (Round events ∷ log) (λ x. refl) (λ x. refl) s.calm.parts.sites;
          net = s.calm.parts.net;
        };
        rests = rests_round g log events s.calm.rests n;
        marks_are = s.calm.marks_are;
        spooled = spool_round g events log w.spool s.calm.spooled;
      };
      waiting = s.waiting;
      left_is = ap (λ v. (v.0, events)) s.left_is;
      rounds = s.rounds;
      ends = s.ends;
      possible = subst (λ es. AtEach (IsPossible g) es) (sym e)
          (each_of_round (IsPossible g) g.catalogue.tms g.catalogue.dms (calls_of log) (λ a b l. (l, (l, omega arith))));
    }

pub round_before : (w : World) (g : Input) (log : Log) (to : Event) (events : List Event) (e : Event)
    (rest : List Event) → Rounding w g log to events → events ≡ e ∷ rest
    → Before w g log e
round_before w g log to events e rest r same =
    let p : AtEach (IsPossible g) (e ∷ rest) = subst (λ es. AtEach (IsPossible g) es) same r.possible in
    record { calm = r.calm; next_is = in_round g log r.waiting e rest (free g log r.calm.rests) (r.left_is ∙ ap (λ es. (r.waiting, es)) same); possible = p.0 }

pub round_after : (w w2 : World) (g : Input) (log : Log) (to : Event) (events : List Event) (e : Event)
    (rest : List Event) → Rounding w g log to events → events ≡ e ∷ rest
    → Happened w2 g log → (more : Log) × Rounding w2 g more to rest
round_after w w2 g log to events e rest r same h =
    let p : AtEach (IsPossible g) (e ∷ rest) = subst (λ es. AtEach (IsPossible g) es) same r.possible in (
      h.more,
      record {
        calm = h.calm;
        waiting = r.waiting;
        left_is = ap (λ a. a.rest) h.position_is ∙ ap after_mark (r.left_is ∙ ap (λ es. (r.waiting, es)) same);
        rounds = r.rounds;
        ends = r.ends;
        possible = p.1;
      },
    )

pub one_mark : (w w2 : World) (g : Input) (log : Log) → Calm w g log → Happened w2 g log → w2.marks ≡ suc w.marks
one_mark w w2 g log c h = h.calm.marks_are ∙ ap (λ a. a.number) h.position_is ∙ ap (λ n. suc n) (sym c.marks_are)

pub round_ends : (w : World) (g : Input) (log : Log) (e : Event) (events : List Event) → Rounding w g log e events → events ≡ [] → Settling w g log e
round_ends w g log e events r same = record {
  calm = r.calm;
  waiting = r.waiting;
  left_is = r.left_is ∙ ap (λ es. (r.waiting, es)) same;
  rounds = r.rounds;
  ends = r.ends;
}

-- one event more is given
pub given_more : (w w2 : World) (g : Input) (log : Log) (e : Event) → IsGood (with_event g e)
    → Calm w g log → w2 ≡ record w { given = w2.given } → w2.given.items ≡ w.given.items ++ e ∷ [] → Calm w2 (with_event g e) log
given_more w w2 g log e good c same pushed = record {
  parts = record {
    good = good;
    sound = sound_more g e c.parts.sound;
    whole_is = ap (λ v. v.whole.now) same ∙ c.parts.whole_is;
    catalogue_is = ap (λ v. v.catalogue.now) same ∙ c.parts.catalogue_is;
    txns_are = ap (λ v. v.txns) same ∙ c.parts.txns_are;
    given_is = pushed ∙ ap (λ xs. xs ++ e ∷ []) c.parts.given_is;
    history_is = ap (λ v. v.history) same ∙ c.parts.history_is;
    sites = λ x here. subst (λ z. Represent z (takes_part x log) x (setting_of g x) (local_of g x log)) (sym (ap (λ v. v.sites) same)) (c.parts.sites x here);
    net = subst (λ z. Carries z g.catalogue.tms g.catalogue.dms (calls_of log)) (sym (ap (λ v. v.net) same)) c.parts.net;
  };
  rests = rests_more g e log c.rests;
  marks_are = ap (λ v. v.marks) same ∙ c.marks_are;
  spooled = subst (λ boxes. Spooled (with_event g e) log boxes U) (sym (ap (λ v. v.spool) same)) (spool_more g e log w.spool c.spooled);
}

pub step_before : (w w2 : World) (g : Input) (log : Log) (e : Event) → IsGood (with_event g e)
    → Represents w g log → IsPossible g e → w2 ≡ record w { given = w2.given } → w2.given.items ≡ w.given.items ++ e ∷ [] → Before w2 (with_event g e) log e
step_before w w2 g log e good s p same pushed = record {
  calm = given_more w w2 g log e good s.calm same pushed;
  next_is = (one_more g e log (single g e p) s.calm.rests.lawful s.complete).0;
  possible = still_possible g e e p;
}

pub step_after : (w w2 : World) (g : Input) (log : Log) (e : Event)
    → Represents w g log → IsPossible g e → Happened w2
    (with_event g e) log
    → (more : Log) × Represents w2 (with_event g e) more
step_after w w2 g log e s p h = (
  h.more,
  record {
    calm = h.calm;
    complete = none_left (with_event g e) h.more (free (with_event g e) h.more h.calm.rests)
        (ap (λ a. a.rest) h.position_is ∙ (one_more g e log (single g e p) s.calm.rests.lawful s.complete).1);
  },
)

pub settle_begins : (w w2 : World) (g : Input) (log : Log) (e : Event) → TakesRounds e → IsGood (with_event g e)
    → Represents w g log → w2 ≡ record w { given = w2.given } → w2.given.items ≡ w.given.items ++ e ∷ [] → Settling w2 (with_event g e) log e
settle_begins w w2 g log e rounds good s same pushed =
    let l = event_left g e log s.calm.rests.lawful s.complete in
    record { calm = given_more w w2 g log e good s.calm same pushed; waiting = l.0; left_is = l.1; rounds = rounds; ends = l.2 }

pub few : (w : World) (g : Input) (log : Log) → Calm w g log → w.marks ≤ MAX_RUN_EVENTS
few w g log c = let f : marks log ≤ MAX_RUN_EVENTS = few_marks log c.rests.within in let e : w.marks ≡ marks log = c.marks_are in omega (arith, f, e)

-- the last number was given, so that the next event is beyond the limit
pub marks_end : (w : World) (g : Input) (log : Log) (e : Event) → Before w g log e → w.marks ≡ MAX_RUN_EVENTS → EndsBy g
marks_end w g log e b last =
    let m : w.marks ≡ marks log = b.calm.marks_are in (
      log,
      record {
        lawful = b.calm.rests.lawful;
        within = b.calm.rests.within;
        entry = Mark e;
        next_is = b.next_is;
        past = lt-ltb MAX_RUN_EVENTS (suc (marks log)) (omega (arith, last, m));
      },
    )

-- an event has its number, where one is left
pub marked_next : (w w2 : World) (g : Input) (log : Log) (e e2 : Event)
    → Before w g log e → e ≡ e2 → w.marks ≢ MAX_RUN_EVENTS → w2 ≡ record w { marks = w.marks + 1 } → Marked w2 g log e2
marked_next w w2 g log e e2 b is left same =
    let parts : Parts w g log = b.calm.parts in
    let f : w.marks ≤ MAX_RUN_EVENTS = few w g log b.calm in
    let m : w.marks ≡ marks log = b.calm.marks_are in
    record {
      parts = record {
        good = parts.good;
        sound = parts.sound;
        whole_is = ap (λ v. v.whole.now) same ∙ parts.whole_is;
        catalogue_is = ap (λ v. v.catalogue.now) same ∙ parts.catalogue_is;
        txns_are = ap (λ v. v.txns) same ∙ parts.txns_are;
        given_is = ap (λ v. v.given.items) same ∙ parts.given_is;
        history_is = ap (λ v. v.history) same ∙ parts.history_is;
        sites = subst (λ z. AllRepresent z g log) (sym (ap (λ v. v.sites) same)) parts.sites;
        net = subst (λ z. Carries z g.catalogue.tms g.catalogue.dms (calls_of log)) (sym (ap (λ v. v.net) same)) parts.net;
      };
      marked = record { rests = b.calm.rests; next_is = b.next_is ∙ ap (λ x. Some (Mark x)) is; few = omega (arith, f, left, m) };
      marks_are = let n : w2.marks ≡ w.marks + 1 = ap (λ v. v.marks) same in omega (arith, n, m);
      spooled = subst (λ boxes. Spooled g log boxes U) (sym (ap (λ v. v.spool) same)) b.calm.spooled;
      possible = subst (λ x. IsPossible g x) is b.possible;
    }

-- what carries out an event that has its number, asks and gives what is asked and given before it has one

pub event_asks : (w : World) (e e2 : Event) → e ≡ e2 → w.marks ≢ MAX_RUN_EVENTS → (g : Input) × (log : Log) × Before w g log e
    → (g : Input) × (log : Log) × Marked (record w { marks = w.marks + 1 }) g log e2
event_asks w e e2 is left r = (r.0, r.1, marked_next w _ r.0 r.1 e e2 r.2 is left refl)

pub event_happened : {T E : Type 0} (w after : World) (e e2 : Event) (r : Result T E) → e ≡ e2 → w.marks ≢ MAX_RUN_EVENTS
    → IfOk r (λ _. (g : Input) (log : Log) → Marked (record w { marks = w.marks + 1 }) g log e2 → Happened after g log)
    → IfOk r (λ _. (g : Input) (log : Log) → Before w g log e → Happened after g log)
event_happened w after e e2 r is left h = of_ok r _ _ h (λ x f g log b. f g log (marked_next w _ g log e e2 b is left refl))

pub event_ends : (w : World) (e e2 : Event) → e ≡ e2 → w.marks ≢ MAX_RUN_EVENTS
    → ((g : Input) (log : Log) → Marked (record w { marks = w.marks + 1 }) g log e2 → EndsBy g)
    → (g : Input) (log : Log) → Before w g log e → EndsBy g
event_ends w e e2 is left h g log b = h g log (marked_next w _ g log e e2 b is left refl)
