-- What is known of the part of a log that stands before a transaction began.
use Rattle.sdd_snapshot_replay.proofs.All.{Catalogue, Contains, Contains-cases, Contains-here, Contains-later, Database, Effect, Log, SeesSnapshots, Txn, ap, arith, begin_of, begins, begun, cond, contains, database, effect, end_of, ended, ends, eq-eqb, false≢true, inl, inr, length, refl, subst, suc, sym, true, ℕ, [], ◌<◌, ◌∷◌, ◌≡◌}
use Rattle.sdd_snapshot_replay.specs.Logs as logs
use Rattle.sdd_snapshot_replay.proofs.Listed.{member_is}
use Rattle.sdd_snapshot_replay.proofs.Sessions.{differ, other_time, times, with_head}

-- times that rise with the ends of a log
abbrev pub Rises : (ℕ → ℕ) → Log → Type 0
Rises time [] = Unit {0}
Rises time (begins n ∷ log) = Rises time log
Rises time (ends n ∷ log) = ((m : ℕ) → Contains (ended log) m → time m < time n) × Rises time log

rises_same : (one other : ℕ → ℕ) (log : Log) → ((m : ℕ) → Contains (ended log) m → one m ≡ other m) → Rises one log → Rises other log
rises_same one other [] same r = tt
rises_same one other (begins n ∷ log) same r = rises_same one other log same r
rises_same one other (ends n ∷ log) same r = (
  (λ m h.
      let a = same m (Contains-later n (ended log) m h) in
      let b = same n (Contains-here n (ended log)) in
      let l = r.0 m h in omega arith),
  rises_same one other log (λ m h. same m (Contains-later n (ended log) m h)) r.1,
)

module _ (class : ℕ → ℕ) where
  pub ends_rise : (log : Log) → logs.HasSessions class log → Rises (end_of log) log
  ends_rise [] r = tt
  ends_rise (begins n ∷ log) r = rises_same (end_of log) (end_of (begins n ∷ log)) log (λ m h. refl) (ends_rise log r.1)
  ends_rise (ends n ∷ log) r =
      let stays : (m : ℕ) → Contains (ended log) m → end_of (ends n ∷ log) m ≡ end_of log m =
      λ m h. other_time n m (suc (length log)) (end_of log m) (differ (ended log) m n (member_is (ended log) m h) r.0.1) in (
        (λ m h.
            let own = ap (λ b. cond b (suc (length log)) (end_of log n)) (eq-eqb n n refl) in
            let kept = stays m h in
            let l = (times class log r.1).ended_by m (member_is (ended log) m h) in omega arith),
        rises_same (end_of log) (end_of (ends n ∷ log)) log (λ m h. sym (stays m h)) (ends_rise log r.1),
      )

  module _ (cat : Catalogue) (txns : ℕ → Txn) (first : Database) (effects : ℕ → Effect) where
    -- before the transaction began
    pub record Before (log : Log) (x : ℕ) : Type 0 where
      pub before : Log
      pub runs : logs.HasSessions class before
      pub sees : SeesSnapshots cat txns first effects before
      pub effect_is : effect cat (database cat first effects before) (txns x) ≡ effects x
      pub rises : (time : ℕ → ℕ) → Rises time log → Rises time before
      -- those that had ended then
      pub had_ended : (m : ℕ) → Contains (ended before) m → Contains (ended log) m × (end_of log m < begin_of log x)
      pub all_ended : (m : ℕ) → Contains (ended log) m → end_of log m < begin_of log x → Contains (ended before) m

    pub before_of : (log : Log) → logs.HasSessions class log → SeesSnapshots cat txns first effects log → (x : ℕ) → contains (begun log) x ≡ true → Before log x
    before_of [] r s x h = absurd (false≢true h)
    before_of (begins n ∷ log) r s x h =
        elim (with_head (begun log) n x h) [
          | inl e ↦
              let own = ap (λ b. cond b (suc (length log)) (begin_of log x)) (eq-eqb n x e) in
              record {
                before = log;
                runs = r.1;
                sees = s.1;
                effect_is = subst (λ z. effect cat (database cat first effects log) (txns z) ≡ effects z) e s.0;
                rises = λ time t. t;
                had_ended = λ m k. (k, (let l = (times class log r.1).ended_by m (member_is (ended log) m k) in omega arith));
                all_ended = λ m k l. k;
              }
          | inr old ↦
              let b = before_of log r.1 s.1 x old in
              let other = other_time n x (suc (length log)) (begin_of log x) (differ (begun log) x n old r.0.0) in
              record {
                before = b.before;
                runs = b.runs;
                sees = b.sees;
                effect_is = b.effect_is;
                rises = λ time t. b.rises time t;
                had_ended = λ m k. (let p = b.had_ended m k in (p.0, (let l = p.1 in omega arith)));
                all_ended = λ m k l. b.all_ended m k (omega arith);
              }
        ]
    before_of (ends n ∷ log) r s x h =
        let b = before_of log r.1 s x h in
        let t = times class log r.1 in
        record {
          before = b.before;
          runs = b.runs;
          sees = b.sees;
          effect_is = b.effect_is;
          rises = λ time u. b.rises time u.1;
          had_ended = λ m k.
              let p = b.had_ended m k in
              let other = other_time n m (suc (length log)) (end_of log m) (differ (ended log) m n (member_is (ended log) m p.0) r.0.1) in
              (Contains-later n (ended log) m p.0, (let l = p.1 in omega arith));
          all_ended = λ m k l.
              elim (Contains-cases n (ended log) m k) [
                | inl e ↦
                    let own = ap (λ c. cond c (suc (length log)) (end_of log m)) (eq-eqb n m (sym e)) in
                    let early = t.begun_by x h in absurd (omega arith)
                | inr old ↦
                    let other = other_time n m (suc (length log)) (end_of log m) (differ (ended log) m n (member_is (ended log) m old) r.0.1) in
                    b.all_ended m old (omega arith)
              ];
        }
