-- The records of a site that runs transactions: a Start is that of its queue's head, a Commit that of the class's active attempt; and an active attempt has its Start.
use Rattle.sdd_invariants.proofs.All.{Act, AllCommitted, Attempt, Bases, Bool, Did, Each, Entry, Handed, HasStart, IsFair, IsFirstLeft, IsNew, IsRecord, IsServed, IsStep, List, Log, None, Option, Queued, Says, Setting, Some, Submits, Txn, WasSubmitted, [], active, ap, arith, bound, commit_act, current_era, dec_le, false, filter_map, head_of, home, if◌then◌else◌, is_committed, is_for, is_recorded, last_stamp, length, next_stamp, number_of, queue, queued, refl, sends_of_act, slice_get, stamps, start_at, started, starts_of, submits_of, subst, suc, sym, take, take-append-le, take_all, true, zero, ℕ, ◌++◌, ◌<◌, ◌∙◌, ◌∷◌, ◌≡◌, ◌≤◌}
use Rattle.sdd_invariants.proofs.Clocks.{clocked, stamp_below_bound}
use Rattle.sdd_invariants.proofs.Queues.{queue_is, served_head}
use Rattle.sdd_invariants.proofs.Active.{handed_way, sent_way, step_way}
use Rattle.sdd_invariants.proofs.Bools.{same_number, same_or_not}
use Rattle.sdd_invariants.proofs.Lists.{le_up, lt_above}

pub recorded : (s : Setting) (log : Log) (act : Act) → IsStep s log act → IsRecord s log act
recorded s log act i = grind (arith, step_way)

abbrev pub IsStarted : Setting → ℕ → Log → Option Attempt → Type 0
IsStarted s c log None = Unit {0}
IsStarted s c log (Some a) = HasStart s c log a.txn a.attempt a.ts a.text

started_more : (s : Setting) (c : ℕ) (e : Entry) (log : Log) (o : Option Attempt) → is_recorded c e ≡ false → IsStarted s c log o → IsStarted s c (e ∷ log) o
started_more s c e log None p h = tt
started_more s c e log (Some a) p h = record {
  later = e ∷ h.later;
  before = h.before;
  queued = h.queued;
  is = ap (λ l. e ∷ l) h.is;
  none_since = (p, h.none_since);
  at_home = h.at_home;
  idle = h.idle;
  head = h.head;
  number_is = h.number_is;
  try_is = h.try_is;
  text_is = h.text_is;
  ts_is = h.ts_is;
}

started_now : (s : Setting) (c : ℕ) (log : Log) (q : Queued) → home s.catalogue c ≡ s.site → active s c log ≡ None → head_of (queue s c log) ≡ Some q
    → IsStarted s c (Did (start_at s c log q) ∷ log) (started (next_stamp s log) (sends_of_act (start_at s c log q)) (Some q))
started_now s c log q at f e =
    record { later = []; before = log; queued = q; is = refl; none_since = tt; at_home = at; idle = f; head = e; number_is = refl; try_is = refl; text_is = refl; ts_is = refl }

started_act : (s : Setting) (c : ℕ) (log : Log) (act : Act) → IsStep s log act → IsStarted s c log (active s c log)
    → IsStarted s c (Did act ∷ log) (active s c (Did act ∷ log))
started_act s c log act i h = grind (arith, step_way, same_or_not, same_number, started_now, started_more, sent_way)

pub started_is : (s : Setting) (c : ℕ) (log : Log) → Each (IsFair s) log → IsStarted s c log (active s c log)
started_is s c [] h = tt
started_is s c (Handed from m ∷ log) h = grind (arith, started_more, active, handed_way, started_is s c log h.1)
started_is s c (Did act ∷ log) h = started_act s c log act h.0 (started_is s c log h.1)
started_is s c (x ∷ log) h = started_more s c x log (active s c log) refl (started_is s c log h.1)

-- the Start of an active attempt
pub start_of_active : (s : Setting) (c : ℕ) (log : Log) (a : Attempt) → Each (IsFair s) log → active s c log ≡ Some a
    → HasStart s c log a.txn a.attempt a.ts a.text
start_of_active s c log a h e = subst (IsStarted s c log) e (started_is s c log h)

abbrev queued_as : ℕ → Txn → ℕ → Queued
queued_as n txn t = record { number = n; text = txn; tries = t }

abbrev pair : ℕ → Txn → ℕ × Txn
pair n t = (n, t)

first_left : (c : ℕ) (log : Log) (xs : List (ℕ × Txn)) (q : Queued) → head_of (filter_map (queued c log) xs) ≡ Some q → IsFirstLeft c log xs q
first_left c log [] q e = cc
first_left c log (x ∷ xs) q e =
    elim (is_committed c x.0 log) as (λ b. is_committed c x.0 log ≡ b → IsFirstLeft c log (x ∷ xs) q) [
      | true ↦ λ p. let i = first_left c log xs q (rw p at e) in
          record { place = suc i.place; number = i.number; text = i.text; there = i.there; number_is = i.number_is; text_is = i.text_is; not_committed = i.not_committed; tries_are = i.tries_are; before_it = (p, i.before_it) }
      | false ↦ grind (arith, queued_as, starts_of, is_committed)
    ] refl

pub head_left : (s : Setting) (c : ℕ) (log : Log) (q : Queued) → Each (IsFair s) log → Each IsNew log
    → head_of (queue s c log) ≡ Some q → IsFirstLeft c log (submits_of s c log) q
head_left s c log q h n e = first_left c log (submits_of s c log) q (ap head_of (sym (queue_is s c log h n).is) ∙ e)

get_left : {A : Type 0} (xs : List A) (y : A) (k : ℕ) (m : A) → k < length xs → slice_get (xs ++ y ∷ []) k ≡ Some m → slice_get xs k ≡ Some m
get_left [] y k m l e = absurd (omega arith)
get_left (x ∷ xs) y zero m l e = e
get_left (x ∷ xs) y (suc k) m l e = get_left xs y k m (omega arith) e

get_end : {A : Type 0} (xs : List A) (y : A) (k : ℕ) (m : A) → length xs ≤ k → slice_get (xs ++ y ∷ []) k ≡ Some m → (k ≡ length xs) × (y ≡ m)
get_end (x ∷ xs) y (suc k) m l e = let i = get_end xs y k m (omega arith) e in (omega (arith, i.0), i.1)
get_end xs y k m l e = grind arith

submitted_more : (s : Setting) (c : ℕ) (e : Entry) (log : Log) (k n : ℕ) (t : Txn)
    → take k (submits_of s c (e ∷ log)) ≡ take k (submits_of s c log) → WasSubmitted s c log k n t → WasSubmitted s c (e ∷ log) k n t
submitted_more s c e log k n t f h =
    record { later = e ∷ h.later; before = h.before; is = ap (λ l. e ∷ l) h.is; of_class = h.of_class; earlier = h.earlier ∙ sym f }

submit_found : (s : Setting) (c : ℕ) (log : Log) (n : ℕ) (txn : Txn) (b : Bool) (k m : ℕ) (t : Txn) → is_for c (current_era s log).catalogue txn ≡ b
    → submits_of s c (Submits n txn ∷ log) ≡ (if b then submits_of s c log ++ (n, txn) ∷ [] else submits_of s c log)
    → ((j : ℕ) → slice_get (submits_of s c log) j ≡ Some (pair m t) → WasSubmitted s c log j m t)
    → slice_get (if b then submits_of s c log ++ (n, txn) ∷ [] else submits_of s c log) k ≡ Some (pair m t) → WasSubmitted s c (Submits n txn ∷ log) k m t
submit_found s c log n txn false k m t f g i e = submitted_more s c (Submits n txn) log k m t (ap (take k) g) (i k e)
submit_found s c log n txn true k m t f g i e = elim (dec_le (suc k) (length (submits_of s c log))) [
  | yes l ↦ submitted_more s c (Submits n txn) log k m t (ap (take k) g ∙ take-append-le k (submits_of s c log) ((n, txn) ∷ []) (omega arith))
      (i k (get_left (submits_of s c log) (pair n txn) k (pair m t) l e))
  | no l ↦ (let r = get_end (submits_of s c log) (pair n txn) k (pair m t) (omega (arith, l)) e in
      record {
        later = [];
        before = log;
        is = ap (λ (x : ℕ × Txn). Submits x.0 x.1 ∷ log) r.1;
        of_class = subst (λ (x : ℕ × Txn). is_for c (current_era s log).catalogue x.1 ≡ true) r.1 f;
        earlier = grind (arith, submits_of, take-append-le, take_all);
      })
]

pub was_submitted : (s : Setting) (c : ℕ) (log : Log) (k m : ℕ) (t : Txn) → slice_get (submits_of s c log) k ≡ Some (pair m t) → WasSubmitted s c log k m t
was_submitted s c [] k m t e = cc
was_submitted s c (Submits n txn ∷ log) k m t e =
    submit_found s c log n txn (is_for c (current_era s log).catalogue txn) k m t refl refl (λ j p. was_submitted s c log j m t p) e
was_submitted s c (x ∷ log) k m t e = submitted_more s c x log k m t refl (was_submitted s c log k m t e)

start_says : (s : Setting) (c : ℕ) (log : Log) (q : Queued) → number_of s.site ≤ 63 → Each (IsFair s) log → Each IsNew log
    → home s.catalogue c ≡ s.site → head_of (queue s c log) ≡ Some q → Says s log (start_at s c log q)
start_says s c log q low h n at e =
    let i = clocked s log low h in
    let l = head_left s c log q h n e in
    let there : slice_get (submits_of s c log) l.place ≡ Some (pair q.number q.text) = l.there ∙ ap (λ m. Some (pair m l.text)) (sym l.number_is)
    ∙ ap (λ t. Some (pair q.number t)) (sym l.text_is) in
    let w = was_submitted s c log l.place q.number q.text there in
    record {
      at_home = at;
      class_is = refl;
      text = q.text;
      place = l.place;
      submitted = w;
      before_it = subst (AllCommitted c log) (sym w.earlier) l.before_it;
      uses_are = refl;
      not_committed = l.not_committed;
      attempt_is = ap suc l.tries_are;
      ts_is = refl;
      above_stamps = lt_above (last_stamp s log) (next_stamp s log) (stamps log) (omega arith) i.drawn_le;
      p2_is = refl;
      p2_below = omega arith;
      p2_above_stamps = le_up (last_stamp s log) (bound s log) (stamps log) (stamp_below_bound s log low) i.drawn_le;
      p2_above_promises = i.promised_le;
    }

commit_says : (s : Setting) (c : ℕ) (bases : Bases) (log : Log) (a : Attempt) → Each (IsFair s) log → Each IsNew log
    → home s.catalogue c ≡ s.site → active s c log ≡ Some a → Says s log (commit_act s.catalogue bases c a)
commit_says s c bases log a h n at e =
    let r = served_head a (queue s c log) (subst (λ o. IsServed o (queue s c log)) e (queue_is s c log h n).served) in
    grind (arith, start_of_active, is_committed, head_left s c log r.0 h n r.1)

pub says : (s : Setting) (log : Log) (act : Act) → number_of s.site ≤ 63 → Each (IsFair s) log → Each IsNew log → IsStep s log act → Says s log act
says s log act w h n i = step_way s log act (Says s log)
    (λ c q at f e. start_says s c log q w h n at e) (λ c bases a at f. commit_says s c bases log a h n at f) (λ to m hand f. tt) i
