-- An ASK that was handed to a transaction module is open, or a NULL at its time or later was put; and where nothing is due, an
-- ASK that is open has a class with an active attempt before its time.
use Rattle.sdd_progress.proofs.All.{Act, AllByRecursion, AreOpen, Ask, Attempt, Bases, Bool, Catalogue, ClassNo, Did, Each, Handed, Held, IsDue, IsFairT, IsThere, List, Msg, None, Null, Option, Question, Queued, Records, Redeclared, Rise, Sends, Setting, Site, Some, Submits, Ticked, Ts, U, [], active, answers_hand, ap, arith, asks, asks_handed, at_map, at_seam, attempt_due, bound_of, by_ask, by_exchange, by_hold, by_start, class_no, clock, clock_rises, eqb-true, false, first_some, hands, hands_from, head_of, holds, if◌then◌else◌, in_either, in_filtered, in_left, in_one, in_right, inl, inr, leb-false, leb-true, length, nat_le, not, null_at, null_due, null_time, null_to, open_did, open_handed, puts_to, refl, runs, same_number, same_site, sends_of_act, site_is, site_self, slice_get, start_of, subst, suc, sym, time_at, to_site, true, zero, ℕ, ◌++◌, ◌<◌, ◌==◌, ◌∙◌, ◌∷◌, ◌≡◌, ◌≢◌, ◌≤◌, ◌⊎◌}
use Rattle.sdd_progress.proofs.Lists.{kept_there, none_at}
use Rattle.sdd_obligations.specs.All.{class_view}
use Rattle.sdd_obligations.specs.site_module.SiteLog.{Log}
use Rattle.sdd_obligations.specs.tm.Views.{View, view_of}
use Rattle.sdd_obligations.specs.site_module.SiteLog as site

-- the open ASKs came by different hands

are_open : (log : Log) → AreOpen log
are_open [] = record { rise = omega arith; last = omega arith; apart = tt }
are_open (Handed from m ∷ log) = open_handed log from m (are_open log)
are_open (Did act ∷ log) = open_did log act (are_open log)
are_open (_ ∷ log) = let i = are_open log in record { rise = i.rise; last = i.last; apart = i.apart }

risen : (low high : ℕ) (qs : List Question) (k : ℕ) (q : Question) → Rise low high qs → slice_get qs k ≡ Some q → low < q.hand
risen low high [] k q h e = cc
risen low high (x ∷ qs) zero q h e = let p : x ≡ q = cc in subst (λ (y : Question). low < y.hand) p h.0
risen low high (x ∷ qs) (suc k) q h e = let i = risen x.hand high qs k q h.1 e in let l = h.0 in omega (arith, i, l)

one_hand : (low high : ℕ) (qs : List Question) (j k : ℕ) (q r : Question) → Rise low high qs
    → slice_get qs j ≡ Some q → slice_get qs k ≡ Some r → q.hand ≡ r.hand → q ≡ r
one_hand low high [] j k q r h e f same = cc
one_hand low high (x ∷ qs) zero zero q r h e f same = let p : Some q ≡ Some r = sym e ∙ f in cc
one_hand low high (x ∷ qs) zero (suc k) q r h e f same = grind (arith, risen)
one_hand low high (x ∷ qs) (suc j) zero q r h e f same = grind (arith, risen)
one_hand low high (x ∷ qs) (suc j) (suc k) q r h e f same = one_hand x.hand high qs j k q r h.1 e f same

apart_at : (n : ℕ) (qs : List Question) (k : ℕ) (q : Question) → AllByRecursion (λ (x : Question). x.hand ≢ n) qs → slice_get qs k ≡ Some q → q.hand ≢ n
apart_at n [] k q h e = cc
apart_at n (x ∷ qs) zero q h e = let p : x ≡ q = cc in subst (λ (y : Question). y.hand ≢ n) p h.0
apart_at n (x ∷ qs) (suc k) q h e = apart_at n qs k q h.1 e

-- the time of an open ASK is not above the clock's bound

question : ℕ → Site → ClassNo → Ts → Question
question n from c t = record { hand = n; from = from; class = c.0; time = t.0 }

asked_in : (n : ℕ) (from : Site) (m : Msg) (qs : List Question) (q : Question) → IsThere (asks_handed n from m qs) q
    → IsThere qs q ⊎ ((c : ClassNo) × (t : Ts) × (m ≡ Ask c t) × (question n from c t ≡ q))
unfolding question
asked_in n from (Ask c t) qs q h = elim (in_either qs (record { hand = n; from = from; class = c.0; time = t.0 } ∷ []) h.0 q h.1) [
  | inl e ↦ inl (h.0, e)
  | inr e ↦ inr (c, t, refl, in_one _ (record { hand = n; from = from; class = c.0; time = t.0 }) e.0 q refl e.1)
]
asked_in n from m qs q h = inl h

bound_up : (at : Site) (e : site.Entry) (log : Log) (t : ℕ) → t ≤ bound_of (clock at log) → t ≤ bound_of (clock at (e ∷ log))
bound_up at e log t l = let r = clock_rises at e log in omega (arith, l, r)

ask_low : (at from : Site) (m : Msg) (log : Log) (c : ClassNo) (t : Ts) → m ≡ Ask c t → t.0 ≤ bound_of (clock at (Handed from m ∷ log))
ask_low at from m log c t e = subst (λ x. t.0 ≤ bound_of (clock at (Handed from x ∷ log))) (sym e) (omega arith)

asks_low : (at : Site) (log : Log) (q : Question) → IsThere (asks log) q → q.time ≤ bound_of (clock at log)
unfolding question
asks_low at [] q h = cc
asks_low at (Handed from m ∷ log) q h = elim (asked_in (suc (hands log)) from m (asks log) q h) [
  | inl p ↦ bound_up at (Handed from m) log q.time (asks_low at log q p)
  | inr p ↦ subst (λ (x : Question). x.time ≤ bound_of (clock at (Handed from m ∷ log))) p.3 (ask_low at from m log p.0 p.1 p.2)
]
asks_low at (Submits n txn ∷ log) q h = asks_low at log q h
asks_low at (Did act ∷ log) q h = bound_up at (Did act) log q.time (asks_low at log q (grind (arith, in_filtered)))
asks_low at (x ∷ log) q h = bound_up at x log q.time (asks_low at log q h)

-- what a send of a transaction module answers: no hand, the last HOLD, or, as a NULL, an open ASK

record IsNullFor (log : Log) (to : Site) (m : Msg) (hand : Option ℕ) : Type 0 where
  question : Question
  there : IsThere (asks log) question
  to_is : to ≡ question.from
  hand_is : hand ≡ Some question.hand
  time : ℕ
  message_is : m ≡ Null (class_no question.class) (time_at time)
  late : question.time ≤ time

abbrev AnswersOne : Log → Act → Type 0
AnswersOne log (Records c r sends) = Unit {0}
AnswersOne log (Sends to m hand) = (hand ≡ None) ⊎ ((hand ≡ Some (holds log).last) ⊎ IsNullFor log to m hand)

one_as : (log : Log) (x a : Act) → AnswersOne log x → Some x ≡ Some a → AnswersOne log a
one_as log x a h e = let p : x ≡ a = cc in subst (AnswersOne log) p h

attempt_one : (log : Log) (cat : Catalogue) (bases : Bases) (c : ℕ) (o : Option Attempt) (act : Act) → attempt_due cat bases c o ≡ Some act → AnswersOne log act
attempt_one log cat bases c o act e = grind (arith, one_as)

late_null : (v : View) (o : Option Attempt) (t u : ℕ) → t ≤ bound_of v.clock → null_time v o t ≡ Some u → t ≤ u
late_null v o t u l e = grind (arith, nat_le, leb-true)

null_if_one : (log : Log) (v : View) (q : Question) (b : Bool) (o : Option ℕ) (act : Act) → IsThere (asks log) q → ((u : ℕ) → o ≡ Some u → q.time ≤ u)
    → (if b then null_at q o else None) ≡ Some act → AnswersOne log act
null_if_one log v q b o act h l e = grind (arith, one_as, question)

held_one : (log : Log) (b : Bool) (time : Ts) (act : Act)
    → (if b then Some (Sends U (Held time) (Some (holds log).last)) else None) ≡ Some act → AnswersOne log act
held_one log b time act e = grind (arith, one_as)

start_one : (log : Log) (cat : Catalogue) (v : View) (c : ℕ) (b : Bool) (o : Option Queued) (act : Act)
    → (if b then start_of cat v c o else None) ≡ Some act → AnswersOne log act
start_one log cat v c b o act e = grind (arith, one_as)

answers_one : (s : Setting) (bases : Bases) (log : Log) (act : Act) → IsDue s.catalogue bases (view_of s log) act → AnswersOne log act
answers_one s bases log act (by_exchange n k p e) = attempt_one log s.catalogue bases k.class k.active act e
answers_one s bases log act (by_ask n m k q p r e) =
    null_if_one log (view_of s log) q (q.class == k.class) (null_time (view_of s log) k.active q.time) act (m, r)
    (λ u f. late_null (view_of s log) k.active q.time u (asks_low s.site log q (m, r)) f) e
answers_one s bases log act (by_hold e) = held_one log _ (time_at (bound_of (view_of s log).clock)) act e
answers_one s bases log act (by_start n k p e) = start_one log s.catalogue (view_of s log) k.class _ (head_of k.queue) act e

-- each ASK from a module

pub record IsOpen (b : Site) (c : ClassNo) (t : Ts) (log : Log) : Type 0 where
  pub question : Question
  pub there : IsThere (asks log) question
  pub from : question.from ≡ b
  pub class : question.class ≡ c.0
  pub time : question.time ≡ t.0

pub record HasNull (b : Site) (c : ClassNo) (t : Ts) (log : Log) : Type 0 where
  pub place : ℕ
  pub time : Ts
  pub put : slice_get (puts_to b log) place ≡ Some (Null c time)
  pub late : t.0 ≤ time.0

abbrev pub IsCovered : Site → ClassNo → Ts → Log → Type 0
IsCovered b c t log = IsOpen b c t log ⊎ HasNull b c t log

new_asked : (n : ℕ) (from : Site) (c : ClassNo) (t : Ts) (qs : List Question) → IsThere (asks_handed n from (Ask c t) qs) (question n from c t)
unfolding question
new_asked n from c t qs = in_right qs (record { hand = n; from = from; class = c.0; time = t.0 } ∷ []) 0
    (record { hand = n; from = from; class = c.0; time = t.0 }) refl

covered_past : (b from : Site) (m : Msg) (log : Log) (c : ClassNo) (t : Ts) → IsCovered b c t log → IsCovered b c t (Handed from m ∷ log)
covered_past b from m log c t h7 = grind (arith, question, in_left)

covered_new : (b from : Site) (m : Msg) (log : Log) (c : ClassNo) (t : Ts) → b ≡ from → m ≡ Ask c t → IsCovered b c t (Handed from m ∷ log)
unfolding question
covered_new b from m log c t e f = inl (record {
  question = question (suc (hands log)) from c t;
  there = subst (λ x. IsThere (asks_handed (suc (hands log)) from x (asks log))
      (question (suc (hands log)) from c t)) (sym f) (new_asked (suc (hands log)) from c t (asks log));
  from = sym e;
  class = refl;
  time = refl;
})

covered_hand : (b from : Site) (m : Msg) (log : Log) → ((k : ℕ) (c : ClassNo) (t : Ts) → slice_get (hands_from b log) k ≡ Some (Ask c t) → IsCovered b c t log)
    → (x : Bool) → same_site b from ≡ x → (k : ℕ) (c : ClassNo) (t : Ts)
    → slice_get (if x then hands_from b log ++ m ∷ [] else hands_from b log) k ≡ Some (Ask c t) → IsCovered b c t (Handed from m ∷ log)
covered_hand b from m log i false same k c t e = covered_past b from m log c t (i k c t e)
covered_hand b from m log i true same k c t e = elim (in_either (hands_from b log) (m ∷ []) k (Ask c t) e) [
  | inl f ↦ covered_past b from m log c t (i k c t f)
  | inr f ↦ covered_new b from m log c t (site_is b from same) (in_one (m ∷ []) m f.0 (Ask c t) refl f.1)
]

-- the send that takes an open ASK away is its NULL
closes : (b to : Site) (m : Msg) (hand : Option ℕ) (c : ClassNo) (t : Ts) (log : Log) (o : IsOpen b c t log) → AnswersOne log (Sends to m hand)
    → answers_hand hand o.question.hand ≡ true → HasNull b c t (Did (Sends to m hand) ∷ log)
closes b to m hand c t log o (inl e) p = let f : answers_hand None o.question.hand ≡ true = subst (λ x. answers_hand x o.question.hand ≡ true) e p in cc
closes b to m hand c t log o (inr (inl e)) p =
    let f : answers_hand (Some (holds log).last) o.question.hand ≡ true = subst (λ x. answers_hand x o.question.hand ≡ true) e p in
    absurd (apart_at (holds log).last (asks log) o.there.0 o.question (are_open log).apart o.there.1 (sym (eqb-true (holds log).last o.question.hand f)))
closes b to m hand c t log o (inr (inr w)) p =
    let same : w.question ≡ o.question =
    one_hand 0 (hands log) (asks log) w.there.0 o.there.0 w.question o.question
    (are_open log).rise w.there.1 o.there.1 (eqb-true w.question.hand o.question.hand (subst (λ x. answers_hand x o.question.hand ≡ true) w.hand_is p)) in
    let from : b ≡ to = sym (w.to_is ∙ ap (λ (x : Question). x.from) same ∙ o.from) in
    let class : w.question.class ≡ c.0 = ap (λ (x : Question). x.class) same ∙ o.class in
    let time : w.question.time ≡ t.0 = ap (λ (x : Question). x.time) same ∙ o.time in
    let late = w.late in
    record {
      place = length (puts_to b log);
      time = time_at w.time;
      put = (grind (arith, site_self, slice_get, at_seam)) ∙ ap (λ x. Some x) (w.message_is ∙ ap (λ k. Null (class_no k) (time_at w.time)) class);
      late = omega (arith, late, time);
    }

covered_act : (b : Site) (act : Act) (log : Log) (c : ClassNo) (t : Ts) → AnswersOne log act → IsCovered b c t log → IsCovered b c t (Did act ∷ log)
covered_act b (Records k r sends) log c t w (inl o) = inl (record { question = o.question; there = o.there; from = o.from; class = o.class; time = o.time })
covered_act b act log c t w (inr n) =
    inr (record { place = n.place; time = n.time; put = in_left (puts_to b log) (to_site b (sends_of_act act)) n.place (Null c n.time) n.put; late = n.late })
covered_act b (Sends to m hand) log c t w (inl o) =
    elim (answers_hand hand o.question.hand) as (λ x. answers_hand hand o.question.hand ≡ x → IsCovered b c t (Did (Sends to m hand) ∷ log)) [
      | false ↦ λ p. inl (record {
        question = o.question;
        there = kept_there (λ (x : Question). not (answers_hand hand x.hand)) (asks log) o.there.0 o.question o.there.1 (ap not p);
        from = o.from;
        class = o.class;
        time = o.time;
      })
      | true ↦ λ p. inr (closes b to m hand c t log o w p)
    ] refl

pub covered : (s : Setting) (b : Site) (log : Log) → Each (IsFairT s) log → (k : ℕ) (c : ClassNo) (t : Ts)
    → slice_get (hands_from b log) k ≡ Some (Ask c t) → IsCovered b c t log
covered s b [] h k c t e = cc
covered s b (Handed from m ∷ log) h k c t e = covered_hand b from m log (covered s b log h.1) (same_site b from) refl k c t e
covered s b (Ticked n ∷ log) h k c t e = grind (arith, question, (covered s b log h.1 k c t e))
covered s b (Submits n txn ∷ log) h k c t e = grind (arith, question, (covered s b log h.1 k c t e))
covered s b (Redeclared era n ∷ log) h k c t e = grind (arith, question, (covered s b log h.1 k c t e))
covered s b (Did act ∷ log) h k c t e = covered_act b act log c t (answers_one s h.0.0 log act h.0.1) (covered s b log h.1 k c t e)

-- an ASK that can't be answered

pub record IsEarlier (o : Option Attempt) (t : ℕ) : Type 0 where
  pub attempt : Attempt
  pub active_is : o ≡ Some attempt
  pub below : attempt.ts < t

no_null : (q : Question) (o : Option ℕ) → null_at q o ≡ None → o ≡ None
no_null q o e = grind arith

pub open_is_blocked : (s : Setting) (log : Log) (j c : ℕ) (q : Question) → slice_get (runs s) j ≡ Some c
    → first_some (null_due (view_of s log)) (view_of s log).classes ≡ None → IsThere (asks log) q → q.class ≡ c → IsEarlier (active s c log) q.time
open_is_blocked s log j c q i e h at =
    let v = view_of s log in
    let none : null_due v (class_view s log c) ≡ None = none_at (null_due v) v.classes j (class_view s log c) e (at_map (class_view s log) (runs s) j c i) in
    let this : null_to v (class_view s log c) q ≡ None = none_at (null_to v (class_view s log c)) (asks log) h.0 q none h.1 in
    let own : (q.class == c) ≡ true = subst (λ x. (q.class == x) ≡ true) at (same_number q.class) in
    (grind (arith, nat_le, IsEarlier, leb-false))
