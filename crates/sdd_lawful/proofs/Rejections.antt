-- The history of a permitted log keeps the law of rejections.
use Rattle.sdd_lawful.proofs.All.{Act, AppliedBefore, AreErasOf, Attempt, ClassNo, Cond, D, DmNo, Does, Entry, Eras, Input, IsAgain, IsAttempt, IsConditionOf, IsPermitted, IsRecordAt, IsSoundCatalogue, IsStep, IsTable, KeepsRejections, List, Log, Msg, None, Queued, Rec, Records, Rejected, Setting, Site, Some, Start, Ts, TxnNo, [], active, again, allowed_act, ap, append_assoc, arith, bound, catalogue_at, commit_act, conditions_of, d_step, event_at, first_of_filter, head_of, history, home, home_of, length, local_of, nth_era, permitted_before, queue, redeclares, refl, setting_of, slice_get, spoils, step_way, subst, suc, sym, txn_no, view_of, ℕ, ◌++◌, ◌<◌, ◌∙◌, ◌∷◌, ◌≡◌}
use Rattle.sdd_lawful.proofs.Answered.{IsReadIn, read_of_some}
use Rattle.sdd_lawful.proofs.Applied.{applied_before}
use Rattle.sdd_lawful.proofs.Classes.{at_home, further_back, home_setting}
use Rattle.sdd_lawful.proofs.Committed.{commit_of_log, home_step}
use Rattle.sdd_lawful.proofs.Conditions.{conds_are, member_of, start_event}
use Rattle.sdd_lawful.proofs.Homes.{home_small}
use Rattle.sdd_lawful.proofs.Places.{place_rises, recorded_there}
use Rattle.sdd_lawful.proofs.Rejected.{rejecting, spoilt_by, touched_one}
use Rattle.sdd_lawful.proofs.Started.{start_act_of, start_in}
use Rattle.sdd_lawful.proofs.Starts.{p2_bound}
use Rattle.sdd_invariants.specs.site_module.SiteLog as site

-- a Start is of the head of its queue
pub record IsStartOfHead (s : Setting) (log : site.Log) (k : ℕ) (txn : TxnNo) (attempt : ℕ) : Type 0 where
  pub queued : Queued
  pub idle : active s k log ≡ None
  pub head_is : head_of (queue s k log) ≡ Some queued
  pub txn_is : txn ≡ txn_no queued.number
  pub number_is : attempt ≡ suc queued.tries

abbrev OfHead : Setting → site.Log → Act → Type 0
OfHead s log (Records k (Start txn attempt class ts p2 uses) sends) = IsStartOfHead s log k txn attempt
OfHead s log act = Unit {0}

of_head : (s : Setting) (log : site.Log) (act : Act) → IsStep s log act → OfHead s log act
of_head s log act i = step_way s log act (OfHead s log) (λ c q at f e. record { queued = q; idle = f; head_is = e; txn_is = refl; number_is = refl })
    (λ c bases a at f. tt) (λ to m hand f. tt) i

-- a condition of a READ is one of its attempt
pub read_condition : (g : Input) (log : Log) (eras : Eras) (a : Attempt) (d : ℕ) (later before : Log) (e : Entry) → AreErasOf g log eras
    → log ≡ later ++ e ∷ before → (x : IsReadIn g before a d) (k : ℕ) (q : Cond) → slice_get x.conds k ≡ Some q
    → IsConditionOf g.catalogue eras (history log) a d q
read_condition g log eras a d later before e are is x k q there =
    let s = start_event g log later before e a d is x in
    let cat : catalogue_at g.catalogue eras (event_at (history log) a.place) ≡ (nth_era g (redeclares x.start_log)).catalogue = ap (catalogue_at g.catalogue eras) s.2
    ∙ are.era_is s.0 x.start_log s.1 in
    let t : IsTable (catalogue_at g.catalogue eras (event_at (history log) a.place)) (nth_era g (redeclares x.start_log)).table = subst
    (λ c. IsTable c (nth_era g (redeclares x.start_log)).table) (sym cat) (are.tabled s.0 x.start_log s.1).table in
    let same = conds_are g log eras a d later before e (nth_era g (redeclares x.start_log)).table are is x t in
    record {
      table = (nth_era g (redeclares x.start_log)).table;
      table_is = t;
      there = member_of (conditions_of g.catalogue (nth_era g (redeclares x.start_log)).table a d) k q (subst (λ ds. slice_get ds k ≡ Some q) same there);
    }

rejected_there : (g : Input) (log later before : Log) (class : ℕ) (txn : TxnNo) (attempt : ℕ) (d : DmNo) (by : ClassNo) (write : Ts) (sends : List (Site × Msg)) (n number : ℕ)
    → log ≡ later ++ Does (D d) (Records class (Rejected txn attempt (home_of (setting_of g (D d))).dm by write) sends) ∷ before → txn.0 ≡ n
    → attempt ≡ number → IsRecordAt (history log) (length (history before)) (Rejected (txn_no n) number d by write)
rejected_there g log later before class txn attempt d by write sends n number is e f =
    let r : Rec = Rejected txn attempt (home_of (setting_of g (D d))).dm by write in
    let s : IsRecordAt (history log) (length (history before)) r = subst (λ l. IsRecordAt (history l) (length (history before)) r) (sym is)
    (recorded_there later (Does (D d) (Records class r sends)) before r refl) in
    grind arith

pub again_of : (g : Input) (log : Log) (eras : Eras) → IsSoundCatalogue g.catalogue → IsPermitted g log → AreErasOf g log eras
    → (a : Attempt) → IsAttempt (history log) a → 1 < a.number → IsAgain g.catalogue eras (history log) a
again_of g log eras sound h are a s more =
    let x = start_in g log a sound h s in
    let act : Act = start_act_of a x.sends in
    let o : IsStartOfHead (home_setting g a.class) (at_home g a.class x.before) a.class (txn_no a.txn) a.number = of_head (home_setting g a.class)
    (at_home g a.class x.before) act (home_step g a.class x.before act x.permitted) in
    let number = o.number_is in
    let w = again g a.class x.before o.queued x.permitted.1 (λ j. let small = home_small g.catalogue sound j in omega arith) o.idle o.head_is (omega arith) in
    let d : ℕ = w.from.0 in
    let rej : Act = Records a.class (Rejected w.txn w.attempt (home_of (setting_of g (D w.from))).dm w.by w.write) w.sends in
    let now : IsPermitted g (Does (D w.from) rej ∷ w.before) = permitted_before g w.later (Does (D w.from) rej ∷ w.before)
    (subst (IsPermitted g) w.is x.permitted.1) in
    let ds : Setting = setting_of g (D w.from) in
    let l : site.Log = local_of g (D w.from) w.before in
    let rj = rejecting ds l a.class w.txn w.attempt (home_of ds).dm w.by w.write w.sends
    (d_step ds l rej (allowed_act g w.before (Does (D w.from) rej) now.0)) in
    let f = further_back log x.later x.before (Does (home g.catalogue a.class) act) (Does (D w.from) rej) w.later w.before x.is w.is in
    let r = read_of_some g log f.0 w.before (Does (D w.from) rej) a.class w.txn.0 w.attempt d rj.ts rj.class rj.conds rj.uses now.1 f.1 rj.head_is in
    let first = first_of_filter (spoils (view_of ds l)) rj.conds rj.cond_by rj.spoiler_is in
    let z = spoilt_by g w.before w.from rj.cond_by now.1 first.2 in
    let v = further_back log f.0 w.before (Does (D w.from) rej)
    (Does (home g.catalogue rj.cond_by.class.0) (commit_act g.catalogue z.bases rj.cond_by.class.0 z.running)) z.later z.before f.1 z.is in
    let c = commit_of_log g log v.0 z.before rj.cond_by.class.0 z.bases z.running sound h v.1 z.active_is in
    let front : Log = f.0 ++ Does (D w.from) rej ∷ [] in
    let is : log ≡ front ++ w.before = f.1 ∙ sym (append_assoc f.0 (Does (D w.from) rej ∷ []) w.before) in
    let ap_before = applied_before g log front w.before w.from rj.cond_by.class.0 z.running is h z.applied in
    let same_class : w.by.0 ≡ rj.cond_by.class.0 = ap (λ (y : ClassNo). y.0) rj.by_is in
    let write : w.write.0 ≡ z.running.ts = rj.write_is ∙ sym z.ts_is in
    let txn : w.txn.0 ≡ a.txn = w.number_is ∙ ap (λ (y : TxnNo). y.0) (sym o.txn_is) in
    let tries : suc w.attempt ≡ a.number = ap suc w.try_is ∙ sym o.number_is in
    let rises = place_rises w.later (Does (D w.from) rej) w.before _ refl in
    let size : length (history x.before) ≡ length (history (w.later ++ Does (D w.from) rej ∷ w.before)) = ap (λ y. length (history y)) w.is in
    let place = x.place_is in
    let below = w.below_p2 in
    let p2_below = x.says.p2_below in
    let at_least = z.at_least in
    let late = rj.write_is in
    record {
      earlier = r.attempt;
      started = r.started;
      txn_is = r.txn_is ∙ txn;
      number_is = ap suc r.number_is ∙ tries;
      dm = d;
      class = w.by.0;
      write = w.write.0;
      place = length (history w.before);
      rejected = rejected_there g log f.0 w.before a.class w.txn w.attempt w.from w.by w.write w.sends a.txn r.attempt.number f.1 txn (sym r.number_is);
      before = omega arith;
      cond = rj.cond_by;
      condition = read_condition g log eras r.attempt d f.0 w.before (Does (D w.from) rej) are f.1 r.read first.0 rj.cond_by
          (subst (λ y. slice_get y first.0 ≡ Some rj.cond_by) (sym r.same_conds) first.1);
      class_is = sym same_class;
      late = omega arith;
      writer = c.committed;
      committed = c.is_committed;
      writer_class = c.class_is ∙ sym same_class;
      writer_time = c.ts_is ∙ sym write;
      changes = touched_one g c.committed _ rj.cond_by.frags d c.changes_are z.touching;
      applied = subst (λ n. AppliedBefore (history log) n d (length (history w.before))) (sym c.txn_is) ap_before;
      below = omega arith;
      below_bound = λ p2 e. let b = p2_bound a.class (bound (home_setting g a.class) (at_home g a.class x.before)) p2 (sym x.says.p2_is ∙ e) in omega arith;
    }

pub keeps_rejections : (g : Input) (log : Log) (eras : Eras) → IsSoundCatalogue g.catalogue → IsPermitted g log → AreErasOf g log eras
    → KeepsRejections g.catalogue eras (history log)
keeps_rejections g log eras sound h are = record { again = again_of g log eras sound h are }
