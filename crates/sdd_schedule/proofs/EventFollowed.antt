-- An event of a schedule is carried out and followed, over plain worlds.
use Rattle.sdd_schedule.proofs.All.{Entry, Event, Input, IsLawful, IsPossible, IsFollowed, IsTellable, IsToFollow, IsTurn, List, Log, Mark, None, Redeclare, Redeclares, Represents, Settle, Some, Turn, World, [], after_mark, ap, arith, from_event, grows, lawful_grows, left, length, mark_of, marks, next, one_more, refl, rests_given, rounds, single, subst, suc, sym, tail_of, with_event, ℕ, ◌++◌, ◌∙◌, ◌∷◌, ◌≡◌}
use Rattle.sdd_schedule.proofs.EachEvent.{IsMarkedBetween, event_of, goes_to_end, is_between, last_is, one_more_mark}
use Rattle.sdd_schedule.proofs.GivenMore.{first_from, marked_next, one_longer}
use Rattle.sdd_schedule.proofs.InRounds.{no_mark_more, none_in_round}
use Rattle.sdd_schedule.proofs.PlacesListed.{place_left, round_at_listed, round_left, scheduled_listed}

-- the last event that was given

pub left_marked : (events : List Event) (x : Entry) (e : Event) (log : Log) → event_of x ≡ Some e → left events (x ∷ log) ≡ after_mark (left events log)
left_marked events (Mark f) e log h = refl
left_marked events (Redeclares t) e log h = refl
left_marked events _ e log h = cc

-- with its mark nothing is left, so the complete log has one mark more
pub marked_to_end : (g : Input) (old new : Log) (x : Entry) (e : Event) → IsLawful g old → IsLawful g new → event_of x ≡ Some e
    → next g old ≡ Some x → after_mark (left g.events old) ≡ ([], []) → next g new ≡ None → IsMarkedBetween g old new e
marked_to_end g old new x e l k h n none done =
    let p = goes_to_end g old new x l k n done in
    let lawful : IsLawful g (p.0 ++ x ∷ old) = subst (IsLawful g) p.1 k in
    let same = (no_mark_more g p.0 (x ∷ old) lawful (left_marked g.events x e old h ∙ none)).0 in
    record { entry = x; event_is = h; more = p.0; parts = p.1; lawful = k; marks_are = ap marks p.1 ∙ same ∙ one_more_mark x e old h }

last_place : (g : Input) (log : Log) (x : Entry) (e : Event) (s : List Event × List Event) (total : ℕ) → event_of x ≡ Some e
    → mark_of g log s ≡ Some x → after_mark s ≡ ([], []) → s.1 ≡ [] → place_left total s ≡ total
last_place g log x e (ws, y ∷ r) total h n none over = cc
last_place g log x e (ws, []) total h n none over =
    let p = first_from g log _ _ ws x e h n in
    let rest : tail_of (from_event ws) ≡ [] = ap (λ (s : List Event × List Event). s.0) none in
    let behind : p.0 ≡ [] = sym (ap tail_of p.1) ∙ rest in
    let one : length (from_event ws) ≡ 1 = ap length p.1 ∙ ap (λ xs. suc (length xs)) behind in
    omega (arith, one)

pub turn_at_end : (g : Input) (old new : Log) (x : Entry) (e : Event) (place : ℕ) (turn : Turn) → place ≡ length g.events → event_of x ≡ Some e
    → next g old ≡ Some x → after_mark (left g.events old) ≡ ([], []) → (left g.events old).1 ≡ [] → IsMarkedBetween g old new e
    → turn.event ≡ e → turn.scheduled ≡ place → turn.round ≡ None → IsTurn g old new turn
turn_at_end g old new x e place turn is h n none over b event scheduled round = record {
  event = event ∙ sym (last_is g old new e b);
  scheduled =
      scheduled ∙ is ∙ sym (scheduled_listed g old
      ∙ last_place g old x e (left g.events old) (length g.events) h (marked_next g old x e h n) none over);
  round = round ∙ sym (round_at_listed g old ∙ ap (round_left (rounds g.events old)) over);
}

-- an event of the schedule that is no settle and no redeclare

-- what an event names exists, also where an event more is given
tellable_given : (g : Input) (f e : Event) → IsPossible g e → IsTellable (with_event g f) e
tellable_given g f Settle p = absurd p
tellable_given g f Redeclare p = tt
tellable_given g f _ p = p

-- it does so before that
pub tellable_now : (g : Input) (e : Event) → IsPossible g e → IsTellable g e
tellable_now g Settle p = absurd p
tellable_now g Redeclare p = tt
tellable_now g _ p = p

module _ (w w2 : World) (g : Input) (log more : Log) (e : Event) (place : ℕ) (s : Represents w g log) (p : IsPossible g e)
    (s2 : Represents w2 (with_event g e) more) (is : place ≡ suc (length g.events)) where
  step_marked : IsMarkedBetween (with_event g e) log more e
  step_marked =
      let n = one_more g e log (single g e p) s.calm.rests.lawful s.complete in
      marked_to_end (with_event g e) log more (Mark e) e (lawful_grows g e log s.calm.rests.lawful) s2.calm.rests.lawful refl n.0 n.1 s2.complete

  step_over : (left (with_event g e).events log).1 ≡ []
  step_over = ap (λ (x : List Event × List Event). x.1) (grows g e log s.calm.rests.lawful) ∙ none_in_round g log s.complete

  -- it is followed next
  pub step_to_follow : (turn : Turn) → turn.event ≡ e → turn.scheduled ≡ place → turn.round ≡ None → IsToFollow (with_event g e) log more w2 turn
  step_to_follow turn event scheduled round =
      let n = one_more g e log (single g e p) s.calm.rests.lawful s.complete in
      let b = step_marked in
      record {
        between = is_between (with_event g e) log more e (rests_given g e log s.calm.rests) s2.calm.rests b;
        calm = s2.calm;
        turn_is = turn_at_end (with_event g e) log more (Mark e) e place turn (is ∙ sym (one_longer g.events e)) refl n.0 n.1 step_over b
            event scheduled round;
        tellable = subst (IsTellable (with_event g e)) (sym event) (tellable_given g e e p);
      }

  -- and was followed
  pub step_followed : (follows : Input → Log → Type 0) → follows (with_event g e) more → IsFollowed w2 follows (with_event g e) more (suc place)
  step_followed follows f = record {
    represents = s2;
    followed = f;
    place_is = ap (λ n. suc n) (is ∙ sym (one_longer g.events e));
  }
