-- Tests that tell that a history keeps the law of Applies.
use Rattle.sdd_history_examples.proofs.All.{AppliedBefore, Apply, Attempt, Bool, Catalogue, Change, Committed, Contains, GoesTo, History, IsAnswered, IsApplied, IsCommitted, IsEarlier, IsOfCommit, IsRecordAt, KeepsApplies, Touches, and_from, and_parts, ap, applied_before, arith, changes_member, class_no, committed, dm_no, eq-eqb, eqb-true, from_committed, has_copy, is_applied, is_from_1_to, le-leb, list_all, list_any, lt-ltb, ltb-true, member_passes, nat_le, nat_lt, or_cases, or_left, or_right, passes_member, refl, time_at, true, txn_no, ℕ, ◌&&◌, ◌<◌, ◌==◌, ◌||◌, ◌∙◌, ◌≡◌}
use Rattle.sdd_history_examples.proofs.Each.{if_so, so, each, all_pairs, each_pair}
use Rattle.sdd_history_examples.proofs.Fitting.{from_1_to}
use Rattle.sdd_history_examples.proofs.Listed.{AnswerAt, ApplyAt, answers, in_answers, applies, in_applies}

-- whether a committed transaction is that of an Apply, and has something to be applied there

abbrev touches : Catalogue → Committed → ℕ → Bool
touches cat t d = list_any (λ c. has_copy cat d c.frag.0) t.changes

abbrev pub goes : Catalogue → Committed → ℕ → Bool
goes cat t d = touches cat t d || ((t.start.class == 0) && is_from_1_to cat.dms d)

abbrev is_of : Catalogue → ApplyAt → Committed → Bool
is_of cat x t = (t.start.txn == x.txn) && ((t.start.class == x.class) && ((t.start.ts == x.ts) && (nat_lt t.place x.place && goes cat t x.dm)))

abbrev same_apply : ApplyAt → ApplyAt → Bool
same_apply x y = if_so (x.txn == y.txn) (if_so (x.dm == y.dm) (x.place == y.place))

-- of two transactions of one class, the first with the smaller timestamp:

-- the Applies at one module rise
abbrev applies_rise : Committed → Committed → ApplyAt → ApplyAt → Bool
applies_rise x y p q = if_so (p.txn == x.start.txn) (if_so (q.txn == y.start.txn) (if_so (p.dm == q.dm) (nat_lt p.place q.place)))

-- where the second is applied the first is
abbrev applied_first : Catalogue → History → Committed → Committed → ApplyAt → Bool
applied_first cat h x y q = if_so (q.txn == y.start.txn) (if_so (touches cat x q.dm) (is_applied h q.dm q.place x.start.txn))

abbrev pub is_answer_of : Attempt → AnswerAt → Bool
is_answer_of a z = (z.txn == a.txn) && (z.number == a.number)

-- the second is answered after the first is applied, which isn't left out
abbrev answered_after : Committed → Committed → ApplyAt → AnswerAt → Bool
answered_after x y p z = if_so (p.txn == x.start.txn) (if_so (is_answer_of y.start z) (if_so (p.dm == z.dm) (nat_lt p.place z.place)))

abbrev answered_having : Catalogue → History → Committed → Committed → AnswerAt → Bool
answered_having cat h x y z = if_so (is_answer_of y.start z) (if_so (touches cat x z.dm) (is_applied h z.dm z.place x.start.txn))

-- and the first before the second is applied
abbrev answered_first : Committed → Committed → AnswerAt → ApplyAt → Bool
answered_first x y z q = if_so (is_answer_of x.start z) (if_so (q.txn == y.start.txn) (if_so (z.dm == q.dm) (nat_lt z.place q.place)))

abbrev is_earlier : Committed → Committed → Bool
is_earlier x y = (x.start.class == y.start.class) && nat_lt x.start.ts y.start.ts

pub record PassApplies (cat : Catalogue) (h : History) : Type 0 where
  pub of_commit : list_all (λ x. list_any (is_of cat x) (committed h)) (applies h) ≡ true
  pub one_apply : all_pairs same_apply (applies h) (applies h) ≡ true
  pub rise : all_pairs (λ x y. if_so (is_earlier x y) (all_pairs (applies_rise x y) (applies h) (applies h))) (committed h) (committed h) ≡ true
  pub none_left_out : all_pairs (λ x y. if_so (is_earlier x y) (list_all (applied_first cat h x y) (applies h))) (committed h) (committed h) ≡ true
  pub after_earlier : all_pairs (λ x y. if_so (is_earlier x y) (all_pairs (answered_after x y) (applies h) (answers h))) (committed h) (committed h) ≡ true
  pub has_earlier : all_pairs (λ x y. if_so (is_earlier x y) (list_all (answered_having cat h x y) (answers h))) (committed h) (committed h) ≡ true
  pub before_later : all_pairs (λ x y. if_so (is_earlier x y) (all_pairs (answered_first x y) (answers h) (applies h))) (committed h) (committed h) ≡ true

-- where it goes, as a test

touches_is : (cat : Catalogue) (x : Committed) (d : ℕ) → Touches cat x d → touches cat x d ≡ true
touches_is cat x d t =
    let m = member_passes (λ (c : Change). c.frag.0 == t.fragment) x.changes t.changed in
    passes_member (λ (c : Change). has_copy cat d c.frag.0) x.changes m.0 m.1 (ap (has_copy cat d) (eqb-true m.0.frag.0 t.fragment m.2) ∙ t.copied)

pub goes_is : (cat : Catalogue) (t : Committed) (d : ℕ) → GoesTo cat t d → goes cat t d ≡ true
goes_is cat t d h4 = grind (arith, or_left, touches, touches_is, or_right, and_from, eq-eqb, nat_le, le-leb)

-- an Answer is of its attempt
pub own_answer : (a : Attempt) (d k : ℕ) → is_answer_of a (record { txn = a.txn; number = a.number; dm = d; place = k }) ≡ true
own_answer a d k = and_from (a.txn == a.txn) (a.number == a.number) (eq-eqb a.txn a.txn refl) (eq-eqb a.number a.number refl)

module _ (cat : Catalogue) (h : History) (there : (t : Committed) → IsCommitted h t → Contains (committed h) t) where
  -- what is tested of two such transactions
  of_earlier : (test : Committed → Committed → Bool) (x y : Committed) → IsEarlier h x y
      → all_pairs (λ x y. if_so (is_earlier x y) (test x y)) (committed h) (committed h) ≡ true → test x y ≡ true
  of_earlier test x y e pass =
      so (is_earlier x y) (test x y)
      (each_pair (λ (x y : Committed). if_so (is_earlier x y) (test x y)) (committed h) (committed h) x y pass (there x e.first) (there y e.second))
      (and_from (x.start.class == y.start.class) (nat_lt x.start.ts y.start.ts) (eq-eqb x.start.class y.start.class e.class) (lt-ltb x.start.ts y.start.ts e.time))

  module _ (pass : PassApplies cat h) where
    of_commit : (n class d ts k : ℕ) → IsRecordAt h k (Apply (txn_no n) (class_no class) (dm_no d) (time_at ts)) → IsOfCommit cat h n class d ts k
    of_commit n class d ts k s =
        let x : ApplyAt = record { txn = n; class = class; dm = d; ts = ts; place = k } in
        let some = each (λ (x : ApplyAt). list_any (is_of cat x) (committed h)) (applies h) x pass.of_commit (in_applies h n class d ts k s) in
        let r = member_passes (is_of cat x) (committed h) some in
        let t = r.0 in
        let one = and_parts (t.start.txn == n) ((t.start.class == class) && ((t.start.ts == ts) && (nat_lt t.place k && goes cat t d))) r.2 in
        let two = and_parts (t.start.class == class) ((t.start.ts == ts) && (nat_lt t.place k && goes cat t d)) one.1 in
        let three = and_parts (t.start.ts == ts) (nat_lt t.place k && goes cat t d) two.1 in
        let four = and_parts (nat_lt t.place k) (goes cat t d) three.1 in
        record {
          committed = t;
          is_committed = from_committed h t r.1;
          txn_is = eqb-true t.start.txn n one.0;
          class_is = eqb-true t.start.class class two.0;
          ts_is = eqb-true t.start.ts ts three.0;
          before = ltb-true t.place k four.0;
          goes = (grind (arith, or_cases, touches, member_passes, changes_member, and_parts, eqb-true, from_1_to));
        }

    one_apply : (n d j k : ℕ) → IsApplied h n d j → IsApplied h n d k → j ≡ k
    one_apply n d j k p q =
        let e = each_pair same_apply (applies h) (applies h) _ _ pass.one_apply (in_applies h n p.class d p.ts j p.is_recorded)
        (in_applies h n q.class d q.ts k q.is_recorded) in
        let u = so (n == n) (if_so (d == d) (j == k)) e (eq-eqb n n refl) in
        eqb-true j k (so (d == d) (j == k) u (eq-eqb d d refl))

    rise : (x y : Committed) (d j k : ℕ) → IsEarlier h x y → IsApplied h x.start.txn d j → IsApplied h y.start.txn d k → j < k
    rise x y d j k e p q =
        let n = x.start.txn in
        let m = y.start.txn in
        let t = of_earlier (λ x y. all_pairs (applies_rise x y) (applies h) (applies h)) x y e pass.rise in
        let u = each_pair (applies_rise x y) (applies h) (applies h) _ _ t (in_applies h n p.class d p.ts j p.is_recorded)
        (in_applies h m q.class d q.ts k q.is_recorded) in
        let v = so (n == n) (if_so (m == m) (if_so (d == d) (nat_lt j k))) u (eq-eqb n n refl) in
        let w = so (m == m) (if_so (d == d) (nat_lt j k)) v (eq-eqb m m refl) in
        ltb-true j k (so (d == d) (nat_lt j k) w (eq-eqb d d refl))

    none_left_out : (x y : Committed) (d k : ℕ) → IsEarlier h x y → Touches cat x d → IsApplied h y.start.txn d k → AppliedBefore h x.start.txn d k
    none_left_out x y d k e touch q =
        let m = y.start.txn in
        let last = is_applied h d k x.start.txn in
        let t = of_earlier (λ x y. list_all (applied_first cat h x y) (applies h)) x y e pass.none_left_out in
        let u = each (applied_first cat h x y) (applies h) _ t (in_applies h m q.class d q.ts k q.is_recorded) in
        let v = so (m == m) (if_so (touches cat x d) last) u (eq-eqb m m refl) in
        applied_before h x.start.txn d k (so (touches cat x d) last v (touches_is cat x d touch))

    after_earlier : (x y : Committed) (d j k : ℕ) → IsEarlier h x y → IsApplied h x.start.txn d j → IsAnswered h y.start d k → j < k
    after_earlier x y d j k e p a =
        let n = x.start.txn in
        let own = is_answer_of y.start (record { txn = y.start.txn; number = y.start.number; dm = d; place = k }) in
        let t = of_earlier (λ x y. all_pairs (answered_after x y) (applies h) (answers h)) x y e pass.after_earlier in
        let u = each_pair (answered_after x y) (applies h) (answers h) _ _ t (in_applies h n p.class d p.ts j p.is_recorded)
        (in_answers h y.start.txn y.start.number d k a) in
        let v = so (n == n) (if_so own (if_so (d == d) (nat_lt j k))) u (eq-eqb n n refl) in
        let w = so own (if_so (d == d) (nat_lt j k)) v (own_answer y.start d k) in
        ltb-true j k (so (d == d) (nat_lt j k) w (eq-eqb d d refl))

    has_earlier : (x y : Committed) (d k : ℕ) → IsEarlier h x y → Touches cat x d → IsAnswered h y.start d k → AppliedBefore h x.start.txn d k
    has_earlier x y d k e touch a =
        let own = is_answer_of y.start (record { txn = y.start.txn; number = y.start.number; dm = d; place = k }) in
        let last = is_applied h d k x.start.txn in
        let t = of_earlier (λ x y. list_all (answered_having cat h x y) (answers h)) x y e pass.has_earlier in
        let u = each (answered_having cat h x y) (answers h) _ t (in_answers h y.start.txn y.start.number d k a) in
        let v = so own (if_so (touches cat x d) last) u (own_answer y.start d k) in
        applied_before h x.start.txn d k (so (touches cat x d) last v (touches_is cat x d touch))

    before_later : (x y : Committed) (d j k : ℕ) → IsEarlier h x y → IsAnswered h x.start d j → IsApplied h y.start.txn d k → j < k
    before_later x y d j k e a q =
        let m = y.start.txn in
        let own = is_answer_of x.start (record { txn = x.start.txn; number = x.start.number; dm = d; place = j }) in
        let t = of_earlier (λ x y. all_pairs (answered_first x y) (answers h) (applies h)) x y e pass.before_later in
        let u = each_pair (answered_first x y) (answers h) (applies h) _ _ t (in_answers h x.start.txn x.start.number d j a)
        (in_applies h m q.class d q.ts k q.is_recorded) in
        let v = so own (if_so (m == m) (if_so (d == d) (nat_lt j k))) u (own_answer x.start d j) in
        let w = so (m == m) (if_so (d == d) (nat_lt j k)) v (eq-eqb m m refl) in
        ltb-true j k (so (d == d) (nat_lt j k) w (eq-eqb d d refl))

    pub keeps_applies : KeepsApplies cat h
    keeps_applies =
        record {
          of_commit = of_commit;
          one_apply = one_apply;
          rise = rise;
          none_left_out = none_left_out;
          after_earlier = after_earlier;
          has_earlier = has_earlier;
          before_later = before_later;
        }
