-- The history of a permitted log keeps the law of undeclared transactions.
use Rattle.sdd_lawful.proofs.All.{Act, AppliedBefore, Apply, AreErasOf, Attempt, Bases, Catalogue, Committed, Cond, D, Does, Done, Entry, Eras, GoesTo, HasApply, Input, IsAnswered, IsAttempt, IsCommitted, IsMadeAt, IsModule, IsPermitted, IsRecordAt, IsSoundCatalogue, IsWhollyAfter, IsWhollyBefore, KeepsUndeclared, Log, Queued, Rec, Records, Setting, Site, Some, T, Touches, U, [], all_applied, ap, append_assoc, arith, bound, class_at, classes_of, commit_act, commit_of, commit_t, cond_of, dm_no, false, frag_no, fragments_of, history, home, home_of, inl, inr, length, low_or_high, lower_same_higher, map, next_stamp, number_of, numbers_to, p2_of, permitted_before, refl, same_number, same_or_not, same_start, setting_of, slice_get, sound_whole, start_at, start_u, subst, suc, sym, tm_no, true, u_stamp, uses_of, zero_applied, zero_pair, ℕ, ◌++◌, ◌<◌, ◌==◌, ◌∙◌, ◌∷◌, ◌≡◌, ◌≢◌, ◌≤◌, ◌⊎◌}
use Rattle.sdd_lawful.proofs.Answered.{answer_in, answer_rec}
use Rattle.sdd_lawful.proofs.Applied.{apply_rec}
use Rattle.sdd_lawful.proofs.Applies.{of_commit}
use Rattle.sdd_lawful.proofs.Beginnings.{IsStartedAtU, ChangesExist, at_map, in_numbers, numbered_there, started_at_u}
use Rattle.sdd_lawful.proofs.Classes.{at_home, further_back}
use Rattle.sdd_lawful.proofs.Commits.{CommitContent, begun_as, commit_rec, one_commit}
use Rattle.sdd_lawful.proofs.Committed.{IsCommittedIn, commit_content, committed_in, same_committed}
use Rattle.sdd_lawful.proofs.Conditions.{met}
use Rattle.sdd_lawful.proofs.Homes.{positive, served}
use Rattle.sdd_lawful.proofs.Places.{entries_in_order, place_rises, recorded_there}
use Rattle.sdd_lawful.proofs.Rejections.{read_condition}
use Rattle.sdd_lawful.proofs.Started.{start_in, start_of}
use Rattle.sdd_lawful.proofs.Starts.{one_time, start_within}
use Rattle.sdd_lawful.proofs.Touched.{goes_module, kept_there}
use Rattle.sdd_invariants.specs.site_module.SiteLog as site

-- an Apply with the timestamp of an undeclared transaction is its own

own_apply : (g : Input) (log : Log) (eras : Eras) (u : Committed) (d : ℕ) (front before : Log) → IsSoundCatalogue g.catalogue → IsPermitted g log → AreErasOf g log eras
    → IsCommitted (history log) u → log ≡ front ++ before → HasApply g before (dm_no d) u.start.ts
    → AppliedBefore (history log) u.start.txn d (length (history before))
own_apply g log eras u d front before sound h are c is x =
    let act : Act = Records 0 (Apply x.txn x.of (home_of (setting_of g (D (dm_no d)))).dm x.ts) ((U, Done x.ts) ∷ []) in
    let whole : log ≡ (front ++ x.later) ++ Does (D (dm_no d)) act ∷ x.before = is ∙ ap (λ l. front ++ l) x.is
    ∙ sym (append_assoc front x.later (Does (D (dm_no d)) act ∷ x.before)) in
    let r : Rec = apply_rec x.txn.0 x.of.0 d x.ts.0 in
    let there : IsRecordAt (history log) (length (history x.before)) r = subst (λ l. IsRecordAt (history l) (length (history x.before)) r) (sym whole)
    (recorded_there (front ++ x.later) (Does (D (dm_no d)) act) x.before r refl) in
    let o = of_commit g log sound h x.txn.0 x.of.0 d x.ts.0 (length (history x.before)) there in
    let time : o.committed.start.ts ≡ u.start.ts = o.ts_is ∙ x.ts_is in
    let place = one_time g log eras sound h are o.committed.start u.start o.is_committed.started c.started time in
    let same = same_start (history log) o.committed.start u.start o.is_committed.started c.started place in
    let txn : x.txn.0 ≡ u.start.txn = sym o.txn_is ∙ same.txn in
    let rises = place_rises x.later (Does (D (dm_no d)) act) x.before r refl in
    let size : length (history before) ≡ length (history (x.later ++ Does (D (dm_no d)) act ∷ x.before)) = ap (λ l. length (history l)) x.is in
    record {
      place = length (history x.before);
      applied = record { class = x.of.0; ts = x.ts.0; is_recorded = subst (λ n. IsRecordAt (history log) (length (history x.before)) (apply_rec n x.of.0 d x.ts.0)) txn there };
      before = omega arith;
    }

-- two undeclared transactions: the first is applied everywhere where the second starts

pub record IsDone (g : Input) (log : Log) (x : Committed) (a : Attempt) : Type 0 where
  pub time : x.start.ts < a.ts
  pub applied : (d : ℕ) → IsModule g.catalogue d → AppliedBefore (history log) x.start.txn d a.place

abbrev u_record : Input → Log → Queued → Rec
u_record g before q = start_of (begun_as g 0 (at_home g 0 before) q (length (history before)))

abbrev u_made : (g : Input) (log : Log) (a : Attempt) (p : IsStartedAtU g log a) → IsMadeAt log a.place (u_record g p.before p.queued)
u_made g log a p = record { later = p.later; entry = Does U (start_u g p.before p.queued); before = p.before; is = p.is; makes = refl; place_is = p.place_is }

u_behind : (g : Input) (log : Log) (a b : Attempt) (p : IsStartedAtU g log a) (q : IsStartedAtU g log b) → a.place < b.place
    → (between : Log) × (q.before ≡ between ++ Does U (start_u g p.before p.queued) ∷ p.before)
u_behind g log a b p q l =
    let z = entries_in_order log a.place b.place (u_record g p.before p.queued) (u_record g q.before q.queued) (u_made g log a p) (u_made g log b q) l in
    (z.between, z.is)

zero_done : (g : Input) (log : Log) (eras : Eras) (x : Committed) (a : Attempt) → IsSoundCatalogue g.catalogue → IsPermitted g log → AreErasOf g log eras
    → IsCommitted (history log) x → IsAttempt (history log) a → x.start.class ≡ 0 → a.class ≡ 0 → x.start.place < a.place → IsDone g log x a
zero_done g log eras x a sound h are c s e f l =
    let p = started_at_u g log x.start sound h c.started e in
    let q = started_at_u g log a sound h s f in
    let z = u_behind g log x.start a p q l in
    let some = (sound_whole g.catalogue sound).some_tm in
    let t = in_numbers 1 g.catalogue.tms 1 (omega arith) (omega arith) in
    let pair = zero_pair g t.0 1 q.before z.0 p.before q.queued p.queued t.1 q.permitted z.1 in
    let front : Log = q.later ++ Does U (start_u g q.before q.queued) ∷ [] in
    let is : log ≡ front ++ q.before = q.is ∙ sym (append_assoc q.later (Does U (start_u g q.before q.queued) ∷ []) q.before) in
    let time = pair.1 in let tx = p.ts_is in let ta = q.ts_is in
    record {
      time = omega arith;
      applied = λ d m.
          let k = (let hi = m.1 in in_numbers 1 g.catalogue.dms d m.0 (omega arith)) in
          let y = zero_applied g t.0 1 k.0 d q.before z.0 p.before q.queued p.queued t.1 q.permitted z.1 k.1 in
          subst (λ j. AppliedBefore (history log) x.start.txn d j) q.place_is
          (own_apply g log eras x d front q.before sound h are c is (subst (HasApply g q.before (dm_no d)) (sym p.ts_is) y));
    }

-- so it is committed then
done_committed : (g : Input) (log : Log) (x : Committed) (a : Attempt) → IsSoundCatalogue g.catalogue → IsPermitted g log → IsCommitted (history log) x
    → IsDone g log x a → x.place < a.place
done_committed g log x a sound h c done =
    let b = done.applied 1 (omega arith, (sound_whole g.catalogue sound).some_dm) in
    let o = of_commit g log sound h x.start.txn b.applied.class 1 b.applied.ts b.place b.applied.is_recorded in
    let same = same_committed g log sound h o.committed x o.is_committed c o.txn_is in
    let p : o.committed.place ≡ x.place = ap (λ (y : Committed). y.place) same in
    let l1 = o.before in let l2 = b.before in omega arith

-- what is applied everywhere where an attempt starts is applied where it is answered
answered_after : (g : Input) (log : Log) (x : Committed) (a : Attempt) (d k : ℕ) → IsSoundCatalogue g.catalogue → IsPermitted g log → IsAttempt (history log) a
    → IsDone g log x a → IsModule g.catalogue d → IsAnswered (history log) a d k → AppliedBefore (history log) x.start.txn d k
answered_after g log x a d k sound h s done m e =
    let b = done.applied d m in
    let w = answer_in g log a d k sound h s e in
    let l1 = b.before in let l2 = w.read.start_before in let p = w.place_is in
    record { place = b.place; applied = b.applied; before = omega arith }

zero_zero : (g : Input) (log : Log) (eras : Eras) (u t : Committed) → IsSoundCatalogue g.catalogue → IsPermitted g log → AreErasOf g log eras
    → IsCommitted (history log) u → IsCommitted (history log) t → u.start.class ≡ 0 → t.start.class ≡ 0 → u.start.txn ≢ t.start.txn
    → IsWhollyBefore g.catalogue (history log) t u ⊎ IsWhollyAfter g.catalogue (history log) t u
zero_zero g log eras u t sound h are cu ct eu et ne = elim (lower_same_higher t.start.place u.start.place) [
  | inl l ↦ (let done = zero_done g log eras t u.start sound h are ct cu.started et eu l in
      inl (record {
        time = done.time;
        committed = done_committed g log t u.start sound h ct done;
        applied = λ d k goes e. answered_after g log t u.start d k sound h cu.started done (goes_module g.catalogue sound t d goes) e;
      }))
  | inr r ↦ elim r [
    | inl e ↦ absurd (ne (sym (same_start (history log) t.start u.start ct.started cu.started e).txn))
    | inr l ↦ (let done = zero_done g log eras u t.start sound h are cu ct.started eu et l in inr (record { time = done.time; applied = done.applied }))
  ]
]

-- a declared transaction

touches_of : (cat : Catalogue) (t : Committed) (d : ℕ) → (t.start.class == 0) ≡ false → GoesTo cat t d → Touches cat t d
touches_of cat t d ne e = grind arith

-- that is committed with a smaller timestamp is applied at the Answers of the undeclared one
low_seen : (g : Input) (log : Log) (eras : Eras) (u t : Committed) (d k : ℕ) → IsSoundCatalogue g.catalogue → IsPermitted g log → AreErasOf g log eras
    → ChangesExist g (history log) → IsCommitted (history log) u → IsCommitted (history log) t → u.start.class ≡ 0
    → (t.start.class == 0) ≡ false → t.start.ts < u.start.ts → t.start.class ≤ length g.catalogue.classes → GoesTo g.catalogue t d
    → IsAnswered (history log) u.start d k → AppliedBefore (history log) t.start.txn d k
low_seen g log eras u t d k sound h are exist cu ct e ne l within goes s =
    let touch = touches_of g.catalogue t d ne goes in
    let f = exist t touch.fragment ct touch.changed in
    let from = positive t.start.class ne in
    let high = f.1 in
    let j = in_numbers 1 (length g.catalogue.classes) t.start.class from (omega arith) in
    let i = in_numbers 1 (length g.catalogue.fragments) touch.fragment f.0 (omega arith) in
    let frags = map frag_no (fragments_of g.catalogue) in
    let q : Cond = cond_of t.start.class u.start.ts frags in
    let w = answer_in g log u.start d k sound h cu.started s in
    let there : slice_get w.read.conds j.0 ≡ Some q = subst (λ ds. slice_get ds j.0 ≡ Some q)
    (sym (w.read.conds_are ∙ (let p : (u.start.class == 0) ≡ true = ap (λ y. y == 0) e in rw p refl)))
    (at_map (λ c. cond_of c u.start.ts frags) (classes_of g.catalogue) j.0 t.start.class j.1) in
    let cd = read_condition g log eras u.start d w.later w.before
    (Does (D (dm_no d)) (Records u.start.class (answer_rec u.start d) w.sends)) are w.is w.read j.0 q there in
    (met g log eras sound h are u.start d k q t cu.started s cd ct refl (record { fragment = touch.fragment; changed = touch.changed; copied = touch.copied; named = numbered_there (fragments_of g.catalogue) i.0 touch.fragment i.1 })).1 l

-- the Commit that is known to stand before the undeclared one's Start
committed_low : (g : Input) (log : Log) (t : Committed) (c : IsCommittedIn g log t) (at : Site) (bases : Bases) (later before later2 rest : Log) (e : Entry)
    → IsSoundCatalogue g.catalogue → IsPermitted g log → IsCommitted (history log) t → log ≡ later ++ e ∷ before
    → before ≡ later2 ++ Does at (commit_act g.catalogue bases t.start.class c.running) ∷ rest → t.place < length (history before)
committed_low g log t c at bases later before later2 rest e sound h ct is p =
    let act : Act = commit_act g.catalogue bases t.start.class c.running in
    let content : CommitContent = commit_content g bases c.running in
    let f = further_back log later before e (Does at act) later2 rest is p in
    let r : Rec = commit_rec c.running.txn c.running.attempt content in
    let there : IsRecordAt (history log) (length (history rest)) r = subst (λ l. IsRecordAt (history l) (length (history rest)) r) (sym f.1)
    (recorded_there f.0 (Does at act) rest r refl) in
    let named : IsRecordAt (history log) (length (history rest)) (commit_rec t.start.txn c.running.attempt content) = subst
    (λ n. IsRecordAt (history log) (length (history rest)) (commit_rec n c.running.attempt content)) c.txn_is there in
    let same = one_commit g log sound h t.start.txn c.running.attempt t.start.number (length (history rest)) t.place
    (record { reply = content.reply; changes = content.changes; values = content.values; rows = content.rows; is_recorded = named })
    (commit_of (history log) t ct) in
    let rises = place_rises later2 (Does at act) rest r refl in
    let size : length (history before) ≡ length (history (later2 ++ Does at act ∷ rest)) = ap (λ l. length (history l)) p in
    omega arith

-- the Start of an attempt, by its timestamp
start_place : (g : Input) (log : Log) (eras : Eras) (t : Committed) (s : Setting) (l : site.Log) (at : Site) (q : Queued) (later rest : Log)
    → IsSoundCatalogue g.catalogue → IsPermitted g log
    → AreErasOf g log eras → IsCommitted (history log) t → log ≡ later ++ Does at (start_at s t.start.class l q) ∷ rest
    → next_stamp s l ≡ t.start.ts → length (history rest) ≡ t.start.place
start_place g log eras t s l at q later rest sound h are ct is e =
    let b : Attempt = record { txn = q.number; number = suc q.tries; class = t.start.class; ts = next_stamp s l; p2 = p2_of t.start.class (bound s l); uses = uses_of s.catalogue q.text; place = length (history rest) } in
    let there : IsAttempt (history log) b = subst (λ y. IsAttempt (history y) b) (sym is)
    (recorded_there later (Does at (start_at s t.start.class l q)) rest (start_of b) refl) in
    one_time g log eras sound h are b t.start there ct.started e

declared_one : (g : Input) (log : Log) (eras : Eras) (u t : Committed) → IsSoundCatalogue g.catalogue → IsPermitted g log → AreErasOf g log eras
    → ChangesExist g (history log) → IsCommitted (history log) u → IsCommitted (history log) t → u.start.class ≡ 0
    → (t.start.class == 0) ≡ false → IsWhollyBefore g.catalogue (history log) t u ⊎ IsWhollyAfter g.catalogue (history log) t u
declared_one g log eras u t sound h are exist cu ct e ne =
    let class : ℕ = t.start.class in
    let p = started_at_u g log u.start sound h cu.started e in
    let c = committed_in g log t sound h ct in
    let x = start_in g log t.start sound h ct.started in
    let within = start_within g log eras t.start are x in
    let from = positive class ne in
    let s = served g.catalogue sound class from within in
    let few = (sound_whole g.catalogue sound).few_tms in
    let t_no : ℕ = (class_at g.catalogue class).tm.0 in
    let hm : home g.catalogue class ≡ T (tm_no t_no) = rw ne refl in
    let top = s.module_to in
    let i = in_numbers 1 g.catalogue.tms t_no s.module_from (omega arith) in
    let j = in_numbers 1 (length g.catalogue.classes) class from (omega arith) in
    let run = kept_there (λ k. (class_at g.catalogue k).tm.0 == number_of (T (tm_no t_no))) (numbers_to (length g.catalogue.classes)) j.0 class j.1
    (same_number t_no) in
    let cm = commit_t g t_no class log c.later c.before c.bases c.running h hm c.is c.active_is in
    let front : Log = p.later ++ Does U (start_u g p.before p.queued) ∷ [] in
    let ts = c.ts_is in let uts = p.ts_is in
    elim (low_or_high g i.0 t_no class run.0 log p.later p.before p.queued c.running cm i.1 run.1 (omega arith) h p.is) [
      | inl lo ↦ (let below = lo.below in let l : t.start.ts < u.start.ts = omega arith in
          let place = committed_low g log t c (T (tm_no t_no)) cm.bases p.later p.before lo.commit.later lo.commit.rest
          (Does U (start_u g p.before p.queued)) sound h ct p.is lo.commit.is in
          inl (record {
            time = l;
            committed = subst (λ k. t.place < k) p.place_is place;
            applied = λ d k goes s. low_seen g log eras u t d k sound h are exist cu ct e ne l within goes s;
          }))
      | inr hi ↦ (let above = hi.above in
          let at = start_place g log eras t (setting_of g (T (tm_no t_no))) cm.start.before
          (T (tm_no t_no)) cm.start.queued hi.start.later hi.start.rest sound h are ct hi.start.is (sym cm.start.ts_is ∙ c.ts_is) in
          let to_rest : Log = hi.start.later ++ Does (T (tm_no t_no)) (start_at (setting_of g (T (tm_no t_no))) class cm.start.before cm.start.queued) ∷ [] in
          let is : log ≡ to_rest ++ hi.start.rest = hi.start.is ∙ sym
          (append_assoc hi.start.later (Does (T (tm_no t_no)) (start_at (setting_of g (T (tm_no t_no))) class cm.start.before cm.start.queued) ∷ []) hi.start.rest) in
          let hr : IsPermitted g hi.start.rest = permitted_before g to_rest hi.start.rest (subst (IsPermitted g) is h) in
          inr (record {
            time = omega arith;
            applied = λ d m.
                let k = (let hi = m.1 in in_numbers 1 g.catalogue.dms d m.0 (omega arith)) in
                let y = all_applied g hi.start.rest (u_stamp g p.before) k.0 d hr hi.dones k.1 in
                subst (λ n. AppliedBefore (history log) u.start.txn d n) at
                (own_apply g log eras u d to_rest hi.start.rest sound h are cu is (subst (HasApply g hi.start.rest (dm_no d)) (sym p.ts_is) y));
          }))
    ]

pub keeps_undeclared : (g : Input) (log : Log) (eras : Eras) → IsSoundCatalogue g.catalogue → IsPermitted g log → AreErasOf g log eras
    → ChangesExist g (history log) → KeepsUndeclared g.catalogue (history log)
keeps_undeclared g log eras sound h are exist = record {
  alone = λ u t cu ct e ne. elim (same_or_not t.start.class 0) [
    | inl p ↦ zero_zero g log eras u t sound h are cu ct e p ne
    | inr p ↦ declared_one g log eras u t sound h are exist cu ct e p
  ];
}
