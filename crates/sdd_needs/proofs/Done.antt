-- What is done of the events, as a lawful log tells it: which modules are down then, and how many lists were put in force.
use Rattle.sdd_needs.proofs.All.{AllFewTicks, AtEach, Bool, Deliver, Down, Event, Input, IsLawful, List, Log, Lose, Mark, Redeclare, Redeclares, Repeat, Resend, Round, Settle, Site, Some, Submit, Tick, TurnsNone, Up, [], after_mark, all_links, ap, append_assoc, arith, calls_of, down_from, each_of_round, false, from_event, is_down, is_down_after, left, mark_from, mark_is_next, mark_of, quiet, redeclares, redeclares_in, refl, round, subst, suc, sym, tail_of, true, turned_by, ℕ, ◌++◌, ◌+◌, ◌∙◌, ◌∷◌, ◌≡◌}
use Rattle.sdd_needs.proofs.OfNext.{of_next}

-- parts of lists of events

pub down_join : (d : Site) (b : Bool) (xs ys : List Event) → down_from d b (xs ++ ys) ≡ down_from d (down_from d b xs) ys
down_join d b [] ys = refl
down_join d b (x ∷ xs) ys = down_join d (turned_by d x b) xs ys

count_in : (e : Event) (es : List Event) → redeclares_in (e ∷ es) ≡ redeclares_in (e ∷ []) + redeclares_in es
count_in e es = grind arith

pub count_join : (xs ys : List Event) → redeclares_in (xs ++ ys) ≡ redeclares_in xs + redeclares_in ys
count_join [] ys = omega arith
count_join (x ∷ xs) ys = let i = count_join xs ys in let a = count_in x (xs ++ ys) in let b = count_in x xs in omega (arith, i, a, b)

-- only settles stand before the first event that has a mark

abbrev pub OnlySettles : List Event → Type 0
OnlySettles [] = Unit {0}
OnlySettles (Settle ∷ es) = OnlySettles es
OnlySettles (_ ∷ es) = ⊥

pub settles_turn : (d : Site) (b : Bool) (es : List Event) → OnlySettles es → down_from d b es ≡ b
settles_turn d b [] h = refl
settles_turn d b (Settle ∷ es) h = settles_turn d b es h
settles_turn d b (_ ∷ es) h = absurd h

settles_count : (es : List Event) → OnlySettles es → redeclares_in es ≡ 0
settles_count [] h = refl
settles_count (Settle ∷ es) h = settles_count es h
settles_count (_ ∷ es) h = absurd h

pub record IsSplit (ws : List Event) (e : Event) : Type 0 where
  pub skip : List Event
  pub rest : List Event
  pub is : ws ≡ skip ++ e ∷ rest
  pub settles : OnlySettles skip
  pub tail_is : tail_of (from_event ws) ≡ rest

at_once : (e : Event) (ws : List Event) → from_event (e ∷ ws) ≡ e ∷ ws → IsSplit (e ∷ ws) e
at_once e ws h = record { skip = []; rest = ws; is = refl; settles = tt; tail_is = ap tail_of h }

behind_settle : (e : Event) (ws : List Event) → IsSplit ws e → IsSplit (Settle ∷ ws) e
behind_settle e ws s = record { skip = Settle ∷ s.skip; rest = s.rest; is = ap (λ z. Settle ∷ z) s.is; settles = s.settles; tail_is = s.tail_is }

by_mark : (ws : List Event) (x e : Event) → Some (Mark x) ≡ Some (Mark e) → redeclares_in (x ∷ []) ≡ 0 → IsSplit ws x
    → IsSplit ws e × (redeclares_in (e ∷ []) ≡ 0)
by_mark ws x e h n s = let p : x ≡ e = cc in (subst (IsSplit ws) p s, subst (λ y. redeclares_in (y ∷ []) ≡ 0) p n)

marked_first : (g : Input) (log : Log) (q : Bool) (r ws : List Event) (e : Event) → mark_from g log q r ws ≡ Some (Mark e)
    → IsSplit ws e × (redeclares_in (e ∷ []) ≡ 0)
marked_first g log true r (Settle ∷ ws) e h = let i = marked_first g log true r ws e h in (behind_settle e ws i.0, i.1)
marked_first g log q r (Submit n ∷ ws) e h = by_mark (Submit n ∷ ws) (Submit n) e h refl (at_once (Submit n) ws refl)
marked_first g log q r (Deliver a b k ∷ ws) e h = by_mark (Deliver a b k ∷ ws) (Deliver a b k) e h refl (at_once (Deliver a b k) ws refl)
marked_first g log q r (Lose a b k ∷ ws) e h = by_mark (Lose a b k ∷ ws) (Lose a b k) e h refl (at_once (Lose a b k) ws refl)
marked_first g log q r (Repeat a b k ∷ ws) e h = by_mark (Repeat a b k ∷ ws) (Repeat a b k) e h refl (at_once (Repeat a b k) ws refl)
marked_first g log q r (Resend a b ∷ ws) e h = by_mark (Resend a b ∷ ws) (Resend a b) e h refl (at_once (Resend a b) ws refl)
marked_first g log q r (Tick t n ∷ ws) e h = by_mark (Tick t n ∷ ws) (Tick t n) e h refl (at_once (Tick t n) ws refl)
marked_first g log q r (Down d ∷ ws) e h = by_mark (Down d ∷ ws) (Down d) e h refl (at_once (Down d) ws refl)
marked_first g log q r (Up d ∷ ws) e h = by_mark (Up d ∷ ws) (Up d) e h refl (at_once (Up d) ws refl)
marked_first g log _ r _ e h = absurd (cc)

pub listed_first : (g : Input) (log : Log) (q : Bool) (r ws : List Event) (t : ℕ) → mark_from g log q r ws ≡ Some (Redeclares t) → IsSplit ws Redeclare
listed_first g log true r (Settle ∷ ws) t h = behind_settle Redeclare ws (listed_first g log true r ws t h)
listed_first g log q r (Redeclare ∷ ws) t h = at_once Redeclare ws refl
listed_first g log _ r _ t h = absurd (cc)

-- what is done

pub record IsDoneAs (g : Input) (down : Site → Bool) (lists : ℕ) (rest : List Event) : Type 0 where
  pub front : List Event
  pub is : g.events ≡ front ++ rest
  pub downs : (d : Site) → down d ≡ is_down_after d front
  pub lists_are : lists ≡ redeclares_in front

one_more : (g : Input) (down : Site → Bool) (lists more total : ℕ) (ws : List Event) (e : Event) (s : IsSplit ws e) → IsDoneAs g down lists ws
    → more ≡ redeclares_in (e ∷ []) → total ≡ more + lists → IsDoneAs g (λ d. turned_by d e (down d)) total s.rest
one_more g down lists more total ws e s i n sum =
    let front : List Event = (i.front ++ s.skip) ++ e ∷ [] in
    let a = count_join (i.front ++ s.skip) (e ∷ []) in
    let b = count_join i.front s.skip in
    let c = settles_count s.skip s.settles in
    let l = i.lists_are in
    record {
      front = front;
      is = (i.is ∙ ap (λ z. i.front ++ z) s.is ∙ sym (append_assoc i.front s.skip (e ∷ s.rest)) ∙ sym (append_assoc (i.front ++ s.skip) (e ∷ []) s.rest));
      downs = λ d. ap (turned_by d e) (i.downs d ∙ sym (settles_turn d (is_down_after d i.front) s.skip s.settles) ∙ sym (down_join d false i.front s.skip))
          ∙ sym (down_join d false (i.front ++ s.skip) (e ∷ []));
      lists_are = omega (arith, a, b, c, l, n, sum);
    }

-- an event that turns no module

abbrev pub AreDone : Input → (Site → Bool) → ℕ → List Event × List Event → Type 0
AreDone g down lists s = AtEach TurnsNone s.1 × IsDoneAs g down lists s.0

mark_done : (g : Input) (log : Log) (e : Event) (s : List Event × List Event) → mark_of g log s ≡ Some (Mark e)
    → AreDone g (λ d. is_down d log) (redeclares log) s → AreDone g (λ d. turned_by d e (is_down d log)) (redeclares log) (after_mark s)
mark_done g log e (ws, []) m i =
    let f = marked_first g log (quiet (all_links g) (calls_of log)) (round (all_links g) (calls_of log)) ws e m in (
      tt,
      subst (IsDoneAs g (λ d. turned_by d e (is_down d log)) (redeclares log)) (sym f.0.tail_is)
          (one_more g (λ d. is_down d log) (redeclares log) 0 (redeclares log) ws e f.0 i.1 (sym f.1) (omega arith)),
    )
mark_done g log e (ws, x ∷ r) m i = grind (arith, TurnsNone)

list_done : (g : Input) (log : Log) (t : ℕ) (s : List Event × List Event) → mark_of g log s ≡ Some (Redeclares t)
    → AreDone g (λ d. is_down d log) (redeclares log) s → AreDone g (λ d. is_down d log) (suc (redeclares log)) (after_mark s)
list_done g log t (ws, []) m i =
    let f = listed_first g log (quiet (all_links g) (calls_of log)) (round (all_links g) (calls_of log)) ws t m in (
      tt,
      subst (IsDoneAs g (λ d. is_down d log) (suc (redeclares log))) (sym f.tail_is)
          (one_more g (λ d. is_down d log) (redeclares log) 1 (suc (redeclares log)) ws Redeclare f i.1 refl (omega arith)),
    )
list_done g log t (ws, x ∷ r) m i = absurd (cc)

pub done : (g : Input) (log : Log) → AllFewTicks g.events → IsLawful g log → AreDone g (λ d. is_down d log) (redeclares log) (left g.events log)
done g [] few h = (tt, record { front = []; is = refl; downs = λ d. refl; lists_are = refl })
done g (Mark e ∷ log) few h = mark_done g log e (left g.events log) (mark_is_next g log (Mark e) refl h.0) (done g log few h.1)
done g (Redeclares t ∷ log) few h = list_done g log t (left g.events log) (mark_is_next g log (Redeclares t) refl h.0) (done g log few h.1)
done g (Round es ∷ log) few h =
    let e : es ≡ round (all_links g) (calls_of log) = of_next g log (Round es) few h.1 h.0 in
    (subst (AtEach TurnsNone) (sym e) (each_of_round TurnsNone g.catalogue.tms g.catalogue.dms (calls_of log) (λ a b l. (tt, tt))), (done g log few h.1).1)
done g (_ ∷ log) few h = done g log few h.1

-- what is done of the lists, and what is left, is what was given
pub redeclares_left : (g : Input) (log : Log) → AllFewTicks g.events → IsLawful g log
    → redeclares log + redeclares_in (left g.events log).0 ≡ redeclares_in g.events
redeclares_left g log few h = grind (arith, done, count_join)
