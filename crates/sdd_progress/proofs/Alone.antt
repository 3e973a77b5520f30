-- While the READ of an undeclared transaction is next at a module, each declared transaction whose WRITE is next there has a
-- smaller timestamp, so that the READ holds no WRITE back.
use Rattle.sdd_progress.proofs.All.{Act, Answer, Attempt, Change, ClassNo, Cond, D, DmNo, Does, HasAnswer, Input, IsClass, IsCommitT, IsHigh, IsModule, IsPermitted, IsSoundCatalogue, List, Log, Part, Read, Records, Some, T, Ts, TxnNo, U, Use, Write, all_applied, answered_before, answered_there, ap, append_assoc, arith, at_place, class_number, commit_t, false, has_cond, head, head_put, home_of, home_small, inl, inr, local_of, low_or_high, number_of, numbers_to, part_join, part_of, permitted_part, pipe_at, positive, read_classes, read_of, setting_of, slice_get, sound_whole, start_at, starts, subst, sym, tm_no, u_stamp, write_origin, ℕ, ◌++◌, ◌-◌, ◌<◌, ◌==◌, ◌∙◌, ◌∷◌, ◌≡◌, ◌≤◌}
use Rattle.sdd_progress.proofs.Still.{run_at, runs_place}

-- a READ that is answered doesn't stand at the head again
not_again : (g : Input) (d : DmNo) (log : Log) (a : Attempt) (ts : Ts) (k : ClassNo) (txn : TxnNo) (n : ℕ) (conds : List Cond) (uses : List Use) (before : Log)
    → IsPermitted g log → head (pipe_at g 0 d log) ≡ Some (Read ts k txn n conds uses) → Part log before → HasAnswer g before d 0 a
    → (served : ℕ) → a.ts ≡ served → ts.0 ≡ served → ⊥
not_again g d log a ts k txn n conds uses before h e p w served same own =
    let answer : Act = Records 0 (Answer w.txn w.attempt (home_of (setting_of g (D d))).dm) w.sends in
    let whole : log ≡ (p.0 ++ w.later) ++ Does (D d) answer ∷ w.before = p.1 ∙ ap (λ l. p.0 ++ l) w.is
    ∙ sym (append_assoc p.0 w.later (Does (D d) answer ∷ w.before)) in
    answered_there g 0 d (p.0 ++ w.later) w.before (home_of (setting_of g (D d))).dm w.sends w.ts ts w.of k
    w.txn w.txn txn w.attempt w.attempt n w.conds conds w.uses uses (subst (IsPermitted g) whole h) (omega arith)
    w.head_is (subst (λ l. head (pipe_at g 0 d l) ≡ Some (Read ts k txn n conds uses)) whole e) (w.ts_is ∙ same ∙ sym own)

-- where a declared transaction starts after the undeclared one was served
start_part : (g : Input) (t c : ℕ) (full log : Log) (a : Attempt) (k : IsCommitT g t c full a) (ts n : ℕ)
    (high : IsHigh g t c full log a k ts n) → Part full high.start.rest
start_part g t c full log a k ts n high =
    part_of full high.start.later (Does (T (tm_no t)) (start_at (setting_of g (T (tm_no t))) c k.start.before k.start.queued)) high.start.rest high.start.is

pub below_read : (g : Input) (log : Log) (j : ℕ) (d : DmNo) (ts : Ts) (of : ClassNo) (txn : TxnNo) (n : ℕ)
    (conds : List Cond) (uses : List Use) (w : Ts) (k : ClassNo) (x : TxnNo) (changes : List Change)
    → IsSoundCatalogue g.catalogue → IsPermitted g log → (j == 0) ≡ false → IsClass g.catalogue j → IsModule g.catalogue d.0
    → head (pipe_at g 0 d log) ≡ Some (Read ts of txn n conds uses) → head (pipe_at g j d log) ≡ Some (Write w k x changes) → w.0 < ts.0
below_read g log j d ts of txn n conds uses w k x changes sound h p l m e f =
    let r = (read_of g 0 d log ts of txn n conds uses h e).1 in
    let put = head_put g j d log (Write w k x changes) h f in
    let o = write_origin g log j d w k x changes (class_number k.0 j w.0 put.of_class) put in
    let run = run_at g.catalogue j sound p l in
    let place = runs_place g j run.t (positive j p) l run.number_is in
    let at : slice_get (numbers_to g.catalogue.tms) (run.t - 1) ≡ Some run.t = at_place g.catalogue.tms run.t run.from run.to in
    let few = (sound_whole g.catalogue sound).few_tms in
    let small : number_of (T (tm_no run.t)) ≤ 63 = omega (arith, home_small g.catalogue sound j, ap number_of run.home_is) in
    let ct = commit_t g run.t j log o.later o.before o.bases o.attempt h run.home_is o.is o.active_is in
    elim (low_or_high g (run.t - 1) run.t j place.0 log r.later r.before r.queued o.attempt ct at place.1 small h r.is) [
      | inl lo ↦ (let b = lo.below in omega (arith, b, r.ts_is, o.ts_is))
      | inr hi ↦ (let p1 = start_part g run.t j log r.before o.attempt ct (u_stamp g r.before) (starts (local_of g U r.before)) hi in
          let h1 = permitted_part g log hi.start.rest h p1 in
          let here = at_place g.catalogue.dms d.0 m.0 m.1 in
          let applied = all_applied g hi.start.rest (u_stamp g r.before) (d.0 - 1) d.0 h1 hi.dones here in
          let a = answered_before g (d.0 - 1) d hi.start.rest (u_stamp g r.before) h1 here applied in
          absurd (not_again g d log a.0 ts of txn n conds uses a.1 h e (part_join log hi.start.rest a.1 p1 a.2) a.3 (u_stamp g r.before) a.4 r.ts_is))
    ]

-- the conditions of such a READ ask for its own timestamp
pub zero_time : (g : Input) (log : Log) (d : DmNo) (ts : Ts) (of : ClassNo) (txn : TxnNo) (n : ℕ) (conds : List Cond) (uses : List Use) (place : ℕ) (q : Cond)
    → IsPermitted g log → head (pipe_at g 0 d log) ≡ Some (Read ts of txn n conds uses) → slice_get conds place ≡ Some q → q.time.0 ≡ ts.0
zero_time g log d ts of txn n conds uses place q h e f = grind (arith, read_classes, has_cond)
