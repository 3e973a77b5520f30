-- What the laws say of a history, as the deeds of its committed transactions.
use Rattle.sdd_laws.proofs.All.{AppliedBefore, Applies, AreEras, Asks, Attempt, Catalogue, Committed, Deeds, Eras, ErasApart, History, IsAnswered, IsApplied, IsAttempt, IsCommitted, IsEarlier, IsModule, IsOfEarlierEra, IsSoundCatalogue, IsSubmitted, KeepsAnswers, KeepsApplies, KeepsEras, KeepsStarts, KeepsUndeclared, List, Option, RelNo, Row, Some, Starts, Touches, Ts, Txn as Text, ZeroAlone, ap, arith, at_each, by_change, by_no_class, by_use, cases_lt, changes, commit_of, eras_begun, event_at, has_copy, inl, inr, is_some, module_of, nat_tests, ne_eqb, not, one_of_txn, one_submitted, option_map, p2_time, reads, refl, same_start, sym, true, unwrap_or, ℕ, ◌<◌, ◌==◌, ◌∙◌, ◌≡◌, ◌≤◌}
use Rattle.sdd_laws.proofs.NumberedStarts.{one_start}
use Rattle.sdd_laws.proofs.Reading.{reads_there}
use Rattle.sdd_acyclic.specs.Deeds.{Txn}
use Rattle.sdd_acyclic.specs.Deeds as core

-- a committed transaction, with the place of its Submit
pub record Placed : Type 0 where
  pub txn : Committed
  pub submit : ℕ

pub record IsPlaced (h : History) (p : Placed) : Type 0 where
  pub committed : IsCommitted h p.txn
  pub submitted : IsSubmitted h p.txn.start.txn p.submit

abbrev pub deeds : Catalogue → History → Deeds Placed
deeds cat h =
    record {
      Committed = IsPlaced h;
      name = λ x. x.txn.start.txn;
      class = λ x. x.txn.start.class;
      ts = λ x. x.txn.start.ts;
      p2 = λ x. p2_time x.txn.start;
      Reads = λ x f. reads x.txn.start f ≡ true;
      Changes = λ x f. changes x.txn f ≡ true;
      dm = module_of cat;
      HasCopy = λ d f. (has_copy cat d f ≡ true) × IsModule cat d;
      submit = λ x. x.submit;
      start = λ x. x.txn.start.place;
      commit = λ x. x.txn.place;
      Answered = λ x d p. IsAnswered h x.txn.start d p;
      Applied = λ x d p. IsApplied h x.txn.start.txn d p;
    }

p2_is : (o : Option Ts) → is_some o ≡ true → (t : Ts) × (o ≡ Some t)
p2_is o e = grind arith

module _ (cat : Catalogue) (sound : IsSoundCatalogue cat) (eras : Eras) (are : AreEras cat eras) (rows : List (RelNo × Row)) (txns : List Text) (h : History)
    (starting : KeepsStarts cat eras txns h) (answering : KeepsAnswers cat rows txns h) (applying : KeepsApplies cat h)
  where
    -- of a transaction one is committed
    pub same_txn : (t u : Committed) → IsCommitted h t → IsCommitted h u → t.start.txn ≡ u.start.txn → t ≡ u
    same_txn = one_of_txn h starting.one_commit (one_start h starting.numbered)

    same : (x y : Txn (deeds cat h)) → x.no.txn.start.txn ≡ y.no.txn.start.txn → x.no ≡ y.no
    same x y e =
        let txn : x.no.txn ≡ y.no.txn = same_txn x.no.txn y.no.txn x.is.committed y.is.committed e in
        grind (arith, nat_tests)

    pub starts_first : (t : Committed) → IsCommitted h t → t.start.place < t.place
    starts_first t p =
        let s = answering.commit_after t.start.txn t.start.number t.place (commit_of h t p) in
        (let e = one_start h starting.numbered s.attempt t.start s.started p.started s.txn_is s.number_is in omega arith)

    pub answer_after : (a : Attempt) (d k : ℕ) → IsAttempt h a → IsAnswered h a d k → a.place < k
    answer_after a d k p q = grind (arith, one_start)

    pub apply_after : (t : Committed) (d k : ℕ) → IsCommitted h t → IsApplied h t.start.txn d k → t.place < k
    apply_after t d k p q =
        let s = applying.of_commit t.start.txn q.class d q.ts k q.is_recorded in
        omega (arith, ap (λ (z : Committed). z.place) (same_txn s.committed t s.is_committed p s.txn_is))

    times_rise : (a b : Attempt) → IsAttempt h a → IsAttempt h b → a.class ≡ b.class → a.place ≤ b.place → a.ts ≤ b.ts
    times_rise a b p q c l = grind arith

    bounds_rise : (a b : Attempt) → IsAttempt h a → IsAttempt h b → a.class ≡ b.class → 1 ≤ a.class → a.place ≤ b.place → p2_time a ≤ p2_time b
    bounds_rise a b p q c d l =
        elim (cases_lt a.place b.place) [
          | inl m ↦
              let declared : not (b.class == 0) ≡ true = ap not (ne_eqb b.class 0 (λ z. absurd (omega arith))) in
              let own = p2_is b.p2 (starting.bound_there b q ∙ declared) in
              let bound = (starting.bound b own.0 q own.1).above a p c m in
              grind (arith, nat_tests, p2_time, unwrap_or, option_map)
          | inr m ↦
              grind (arith, p2_time, unwrap_or, option_map, same_start)
        ]

    -- one starts when those that were submitted before it in its class are committed
    in_turn : (x y : Txn (deeds cat h)) → x.no.txn.start.class ≡ y.no.txn.start.class → x.no.submit < y.no.submit → x.no.txn.place < y.no.txn.start.place
    in_turn x y c l =
        let first = x.no.txn.start in
        let s = starting.submitted first x.is.committed.started in
        let before =
        starting.after_earlier y.no.txn.start first.txn s.place y.no.submit s.txn y.is.committed.started y.is.submitted s.submitted
        (omega (arith, starting.one_submit first.txn s.place x.no.submit s.submitted x.is.submitted)) s.txn_is (sym s.class_is ∙ c) in
        let e : before.place ≡ x.no.txn.place =
        starting.one_commit first.txn before.number first.number before.place x.no.txn.place before.commit (commit_of h x.no.txn x.is.committed) in
        let m = before.before in
        omega (arith, starting.one_submit first.txn s.place x.no.submit s.submitted x.is.submitted)

    answered_there : (x : Txn (deeds cat h)) (d : ℕ) → Asks cat x.no.txn.start d → core.AnsweredBefore (deeds cat h) x.no d x.no.txn.place
    answered_there x d a =
        let s = answering.answered x.no.txn d x.is.committed a in
        record { place = s.place; answered = s.answered; before = s.before }

    pub are_starts : Starts (deeds cat h)
    are_starts =
        record {
          same = same;
          one_time = grind (arith, same_start);
          one_submit = grind (arith, nat_tests, one_submitted);
          times_rise = λ x y. times_rise x.no.txn.start y.no.txn.start x.is.committed.started y.is.committed.started;
          bounds_rise = λ x y. bounds_rise x.no.txn.start y.no.txn.start x.is.committed.started y.is.committed.started;
          in_turn = in_turn;
          starts_first = λ x. starts_first x.no.txn x.is.committed;
          one_answer = λ x d p q. answering.one_answer x.no.txn.start.txn x.no.txn.start.number d p q;
          answer_after = λ x d p. answer_after x.no.txn.start d p x.is.committed.started;
          answered = λ x f r.
              let at = reads_there cat sound eras are txns h starting x.no.txn.start f x.is.committed.started r in
              answered_there x (module_of cat x.no.txn.start.class f) (by_use f r at.read);
          copied = λ x f r.
              let at = reads_there cat sound eras are txns h starting x.no.txn.start f x.is.committed.started r in
              (at.copy, at.is_module);
        }

    is_earlier : (x y : Txn (deeds cat h)) → x.no.txn.start.class ≡ y.no.txn.start.class → x.no.txn.start.ts < y.no.txn.start.ts → IsEarlier h x.no.txn y.no.txn
    is_earlier x y c l = record { first = x.is.committed; second = y.is.committed; class = c; time = l }

    touches : (x : Placed) (d : ℕ) → core.Touches (deeds cat h) x d → Touches cat x.txn d
    touches x d t = record { fragment = t.fragment; changed = t.changes; copied = t.copy.0 }

    applied : (x : Placed) (d k : ℕ) → AppliedBefore h x.txn.start.txn d k → core.AppliedBefore (deeds cat h) x d k
    applied x d k b = record { place = b.place; applied = b.applied; before = b.before }

    pub are_applies : Applies (deeds cat h)
    are_applies =
        record {
          apply_after = λ x d p. apply_after x.no.txn d p x.is.committed;
          in_order = grind (arith, applied, is_earlier, touches);
          after_earlier = λ x y d p c l t a.
              applied x.no d p (applying.has_earlier x.no.txn y.no.txn d p (is_earlier x y c l) (touches x.no d t) a);
          before_later = λ x y d p q c l a b.
              applying.before_later y.no.txn x.no.txn d p q (is_earlier y x (sym c) l) a b;
        }

    -- undeclared transactions run alone

    pub are_alone : KeepsUndeclared cat h → ZeroAlone (deeds cat h)
    are_alone undeclared =
        record {
          one_side = λ u t c n. elim (undeclared.alone u.no.txn t.no.txn u.is.committed t.is.committed c n) [
            | inl l ↦ inl (record {
              time = l.time;
              commits = l.committed;
              applies = λ d f p e a. applied t.no d p (grind (arith, by_change, touches, by_no_class));
            })
            | inr g ↦ inr (record { time = g.time; applies = λ d f k. applied u.no d t.no.txn.start.place (g.applied d k.1) })
          ];
          everywhere = λ u d f c k. answered_there u d (at_each c k.1);
        }

    -- the era of a transaction is that of its Submit

    abbrev pub era_of : Placed → ℕ
    era_of x = eras_begun eras (event_at h x.submit)

    of_earlier_era : (x y : Txn (deeds cat h)) → era_of x.no < era_of y.no → IsOfEarlierEra eras h x.no.txn y.no.txn
    of_earlier_era x y l = grind arith

    pub are_apart : KeepsEras cat eras h → ErasApart (deeds cat h) era_of
    are_apart kept =
        record {
          time = λ x y l. kept.times_rise x.no.txn y.no.txn (of_earlier_era x y l);
          commits = λ x y l. kept.committed x.no.txn y.no.txn y.no.txn.start (of_earlier_era x y l) y.is.committed.started refl;
          applies = λ x y d l t.
              applied x.no d y.no.txn.start.place
              (kept.applied x.no.txn y.no.txn y.no.txn.start d (of_earlier_era x y l) y.is.committed.started refl (by_change (touches x.no d t)));
        }
