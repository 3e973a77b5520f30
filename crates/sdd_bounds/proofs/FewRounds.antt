-- A settle has few rounds: of four in a row, after which another begins, one puts a message.
use Rattle.sdd_bounds.proofs.All.{Act, Bool, Call, Deliver, Does, Entry, Event, Hand, Input, IsLawful, List, Log, Lose, Mark, Msg, Notes, Redeclare, Redeclares, Repeat, Resend, Round, Settle, Site, Some, Submitted, [], after_mark, all_links, ap, append-nil, append_assoc, arith, calls_by, calls_of, dec_le, false, false≢true, from_event, left, length, mark_from, mark_of, next, next_is_of_events, puts, quiet, refl, round, rounds, same_Some, sends_of_act, subst, suc, sym, tail_of, true, zero, ℕ, ◌*◌, ◌++◌, ◌+◌, ◌∙◌, ◌∷◌, ◌≡◌, ◌≤◌}
use Rattle.sdd_progress.proofs.obligations.logs.AsLists.{events_left}
use Rattle.sdd_bounds.proofs.NextRound.{AreAtStage, after_round, carried_append, none_yet, quiet_at_last}
use Rattle.sdd_bounds.specs.RoundsOnLinks.{all_carried_out, carried_out}
use Rattle.sdd_bounds.specs.SettleRounds.{AreBetweenEvents, HasFewRounds, messages_put}

-- Events of the schedule are left over or get fewer.

from_shorter : (events : List Event) → length (from_event events) ≤ length events
from_shorter [] = omega arith
from_shorter (Settle ∷ events) = omega (arith, from_shorter events)
from_shorter (_ ∷ events) = omega arith

tail_shorter : {A : Type 0} (xs : List A) (n : ℕ) → length xs ≤ suc n → length (tail_of xs) ≤ n
tail_shorter [] n l = omega arith
tail_shorter (x ∷ xs) n l = omega arith

mark_never_more : (rest : List Event × List Event) → length (after_mark rest).0 ≤ length rest.0
mark_never_more (events, e ∷ round) = omega arith
mark_never_more ([], []) = omega arith
mark_never_more (e ∷ events, []) = let t = tail_shorter (from_event (e ∷ events)) (length events) (from_shorter (e ∷ events)) in omega arith

never_more : (events : List Event) (later log : Log) → length (left events (later ++ log)).0 ≤ length (left events log).0
never_more events [] log = omega arith
never_more events (Mark e ∷ later) log = omega (arith, never_more events later log, mark_never_more (left events (later ++ log)))
never_more events (Redeclares t ∷ later) log = omega (arith, never_more events later log, mark_never_more (left events (later ++ log)))
never_more events (_ ∷ later) log = never_more events later log

one_never_more : (events : List Event) (e : Entry) (log : Log) → length (left events (e ∷ log)).0 ≤ length (left events log).0
one_never_more events e log = never_more events (e ∷ []) log

-- What a round or a mark is, where no event of the schedule is done.

-- the first event of the round in progress
first_of_round : (g : Input) (log : Log) (e : Entry) (rest : List Event × List Event) → mark_of g log rest ≡ Some e
    → length rest.0 ≤ length (after_mark rest).0 → (x : Event) × (events : List Event) × (rest ≡ (rest.0, x ∷ events)) × (e ≡ Mark x)
first_of_round g log e (events, x ∷ round) h kept = (x, round, refl, sym (same_Some (Mark x) e h))
first_of_round g log e ([], []) h kept = cc
first_of_round g log e (y ∷ events, []) h kept = absurd (let t = tail_shorter (from_event (y ∷ events)) (length events) (from_shorter (y ∷ events)) in omega arith)

-- a round that begins
begins_from : (g : Input) (log : Log) (q : Bool) (ws es events : List Event) → mark_from g log q ws events ≡ Some (Round es) → (q ≡ false) × (ws ≡ es)
begins_from g log true ws es (Settle ∷ events) h = begins_from g log true ws es events h
begins_from g log false ws es (Settle ∷ events) h = (refl, cc)
begins_from g log false ws es (Redeclare ∷ events) h = (refl, cc)
begins_from g log _ ws es events h = absurd (cc)

begins : (g : Input) (log : Log) (es : List Event) (rest : List Event × List Event) → mark_of g log rest ≡ Some (Round es)
    → (rest.1 ≡ []) × (quiet (all_links g) (calls_of log) ≡ false) × (round (all_links g) (calls_of log) ≡ es)
begins g log es (events, []) h = let b = begins_from g log (quiet (all_links g) (calls_of log)) (round (all_links g) (calls_of log)) es events h in (refl, b.0, b.1)
begins g log es (events, x ∷ round) h = absurd (cc)

-- The rounds since a message was last put.

-- one such round is in progress or over: the links were at a stage when it began, and these of its events are done
pub record IsInRound (g : Input) (stage : ℕ) (log : Log) : Type 0 where
  pub before : Log
  pub done : List Event
  pub at_stage : AreAtStage g.catalogue.tms g.catalogue.dms stage (calls_of before)
  pub whole : round (all_links g) (calls_of before) ≡ done ++ (left g.events log).1
  pub calls : calls_of log ≡ all_carried_out done (calls_of before)

abbrev pub AreSincePut : Input → ℕ → Log → Type 0
AreSincePut g zero log = Unit {0}
AreSincePut g (suc n) log = IsInRound g n log

same_since : (g : Input) (n : ℕ) (old new : Log) → calls_of new ≡ calls_of old → left g.events new ≡ left g.events old → AreSincePut g n old → AreSincePut g n new
same_since g zero old new c l h = tt
same_since g (suc n) old new c l h = record { before = h.before; done = h.done; at_stage = h.at_stage; whole = h.whole ∙ ap (λ r. h.done ++ r.1) (sym l); calls = c ∙ h.calls }

call_of : (e : Event) (calls : List (Call Msg)) → calls_by e calls ≡ carried_out e calls
call_of (Deliver a b place) calls = refl
call_of (Lose a b place) calls = refl
call_of (Repeat a b place) calls = refl
call_of (Resend a b) calls = refl
call_of _ calls = refl

-- an event of the round is done
event_since : (g : Input) (n : ℕ) (log : Log) (x : Event) (events : List Event) → left g.events log ≡ ((left g.events log).0, x ∷ events)
    → AreSincePut g n log → AreSincePut g n (Mark x ∷ log)
event_since g zero log x events is h = tt
event_since g (suc n) log x events is h = record {
  before = h.before;
  done = h.done ++ x ∷ [];
  at_stage = h.at_stage;
  whole = h.whole ∙ ap (λ r. h.done ++ r.1) is ∙ sym (append_assoc h.done (x ∷ []) events) ∙ ap (λ r. (h.done ++ x ∷ []) ++ (after_mark r).1) (sym is);
  calls = call_of x (calls_of log) ∙ ap (carried_out x) h.calls ∙ sym (carried_append h.done (x ∷ []) (calls_of h.before));
}

-- where a round is over
stage_now : (g : Input) (n : ℕ) (log : Log) → (left g.events log).1 ≡ [] → AreSincePut g n log → AreAtStage g.catalogue.tms g.catalogue.dms n (calls_of log)
stage_now g zero log e h = none_yet g.catalogue.tms g.catalogue.dms (calls_of log)
stage_now g (suc n) log e h =
    let all : h.done ≡ round (all_links g) (calls_of h.before) = sym (append-nil h.done) ∙ sym (h.whole ∙ ap (λ r. h.done ++ r) e) in
    subst (AreAtStage g.catalogue.tms g.catalogue.dms (suc n)) (sym (h.calls ∙ ap (λ es. all_carried_out es (calls_of h.before)) all))
    (after_round g.catalogue.tms g.catalogue.dms n (calls_of h.before) h.at_stage)

pub record HasRounds (g : Input) (later log : Log) : Type 0 where
  pub since : ℕ
  pub few : since ≤ 4
  pub rounds_are : rounds later ≤ 4 * messages_put later + since
  pub are_since : AreSincePut g since (later ++ log)

by_act : (g : Input) (at : Site) (act : Act) (later log : Log) (sends : List (Site × Msg)) → sends_of_act act ≡ sends → HasRounds g later log
    → HasRounds g (Does at act ∷ later) log
by_act g at act later log [] e h = record {
  since = h.since;
  few = h.few;
  rounds_are = omega (arith, h.rounds_are, ap length e);
  are_since = same_since g h.since (later ++ log) (Does at act ∷ (later ++ log)) (ap (λ s. puts at s (calls_of (later ++ log))) e) refl h.are_since;
}
by_act g at act later log (s ∷ sends) e h = record { since = 0; few = omega arith; rounds_are = omega (arith, h.rounds_are, h.few, ap length e); are_since = tt }

by_round : (g : Input) (es : List Event) (later log : Log) → next g (later ++ log) ≡ Some (Round es) → HasRounds g later log → HasRounds g (Round es ∷ later) log
by_round g es later log is h =
    let b = begins g (later ++ log) es (left g.events (later ++ log)) (next_is_of_events g (later ++ log) (Round es) refl is) in
    let now = stage_now g h.since (later ++ log) b.0 h.are_since in
    elim (dec_le 4 h.since) [
      | yes many ↦
          let four : h.since ≡ 4 = omega (arith, h.few) in
          absurd (false≢true (sym b.1 ∙ quiet_at_last g.catalogue.tms g.catalogue.dms (calls_of (later ++ log))
          (subst (λ n. AreAtStage g.catalogue.tms g.catalogue.dms n (calls_of (later ++ log))) four now)))
      | no fewer ↦ record {
        since = suc h.since;
        few = omega (arith, fewer);
        rounds_are = omega (arith, h.rounds_are);
        are_since = record { before = later ++ log; done = []; at_stage = now; whole = b.2; calls = refl };
      }
    ]

by_event : (g : Input) (e : Event) (later log : Log) → next g (later ++ log) ≡ Some (Mark e)
    → length (left g.events (later ++ log)).0 ≤ length (left g.events (Mark e ∷ (later ++ log))).0 → HasRounds g later log → HasRounds g (Mark e ∷ later) log
by_event g e later log is kept h =
    let f = first_of_round g (later ++ log) (Mark e) (left g.events (later ++ log)) (next_is_of_events g (later ++ log) (Mark e) refl is) kept in
    record {
      since = h.since;
      few = h.few;
      rounds_are = h.rounds_are;
      are_since = subst (λ y. AreSincePut g h.since (y ∷ (later ++ log))) (sym f.3) (event_since g h.since (later ++ log) f.0 f.1 f.2 h.are_since);
    }

one_more : (g : Input) (e : Entry) (later log : Log) → next g (later ++ log) ≡ Some e
    → length (left g.events (later ++ log)).0 ≤ length (left g.events (e ∷ (later ++ log))).0 → HasRounds g later log → HasRounds g (e ∷ later) log
one_more g (Mark e) later log is kept h = by_event g e later log is kept h
one_more g (Round es) later log is kept h = by_round g es later log is h
one_more g (Redeclares t) later log is kept h =
    let f = first_of_round g (later ++ log) (Redeclares t) (left g.events (later ++ log)) (next_is_of_events g (later ++ log) (Redeclares t) refl is) kept in
    absurd (let wrong = f.3 in cc)
one_more g (Does at act) later log is kept h = by_act g at act later log (sends_of_act act) refl h
one_more g (Hand from to n m) later log is kept h =
    record { since = h.since; few = h.few; rounds_are = h.rounds_are; are_since = same_since g h.since (later ++ log) (Hand from to n m ∷ (later ++ log)) refl refl h.are_since }
one_more g (Submitted at n) later log is kept h =
    record { since = h.since; few = h.few; rounds_are = h.rounds_are; are_since = same_since g h.since (later ++ log) (Submitted at n ∷ (later ++ log)) refl refl h.are_since }
one_more g Notes later log is kept h =
    record { since = h.since; few = h.few; rounds_are = h.rounds_are; are_since = same_since g h.since (later ++ log) (Notes ∷ (later ++ log)) refl refl h.are_since }

has_rounds : (g : Input) (later log : Log) → IsLawful g (later ++ log) → length (left g.events log).0 ≤ length (left g.events (later ++ log)).0 → HasRounds g later log
has_rounds g [] log h kept = record { since = 0; few = omega arith; rounds_are = omega arith; are_since = tt }
has_rounds g (e ∷ later) log h kept =
    let fewer = one_never_more g.events e (later ++ log) in
    let before = never_more g.events later log in
    one_more g e later log h.0 (omega arith) (has_rounds g later log h.1 (omega arith))

pub few_rounds : (g : Input) (later log : Log) → IsLawful g (later ++ log) → AreBetweenEvents g later log → HasFewRounds later
few_rounds g later log h same =
    let lists : (left g.events (later ++ log)).0 ≡ (left g.events log).0 =
    events_left g.events (later ++ log) ∙ same ∙ sym (events_left g.events log) in
    let r = has_rounds g later log h (omega (arith, ap length lists)) in
    omega (arith, r.rounds_are, r.few)
