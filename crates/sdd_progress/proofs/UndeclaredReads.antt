-- The READ of an undeclared transaction is never rejected, and holds no WRITE back: what is put with a later timestamp was
-- started once that transaction was applied at every module.
use Rattle.sdd_progress.proofs.AllWaits.{Act, Change, ClassNo, Cond, D, DmNo, Does, Input, IsApplyOf, IsClassOf, IsPermitted, IsSoundCatalogue, List, Log, Msg, Read, Records, Rejected, Setting, Site, Some, Ts, TxnNo, Use, Write, all_applied, allowed_act, and_left, and_right, answered_before, any_at, arith, class_at, class_number, commit_t, d_step, head, head_put, holds, holds_back, in_range, inl, inr, le_is, local_of, low_or_high, nat_le, never_spoilt, not_again, not_both, own_time, part_join, part_of, permitted_part, pipe_at, range_there, read_classes, read_of, setting_of, slice_get, sound_whole, spoils, subst, sym, true, u_stamp, view_of, write_origin, ℕ, ◌==◌, ◌∙◌, ◌∷◌, ◌≡◌, ◌≤◌}
use Rattle.sdd_progress.proofs.ClassSites.{class_served, home_of_class, in_runs}
use Rattle.sdd_progress.proofs.Rejected.{IsRejecting, rejecting, spoiler_there}
use Rattle.sdd_obligations.specs.site_module.SiteLog as site

-- while it stands there, nothing that is put is of a declared transaction with its timestamp or a later one
none_later : (g : Input) (i num w : ℕ) (d : DmNo) (log : Log) (ts : Ts) (of : ClassNo) (txn : TxnNo) (n : ℕ) (ds : List Cond) (us : List Use)
    → IsPermitted g log → IsSoundCatalogue g.catalogue → IsClassOf g.catalogue i → 1 ≤ d.0 → d.0 ≤ g.catalogue.dms
    → head (pipe_at g 0 d log) ≡ Some (Read ts of txn n ds us) → ts.0 ≤ w → IsApplyOf g log d i num w → ⊥
none_later g i num w d log ts of txn n ds us h sound c lo hi e le cm =
    let t : ℕ = (class_at g.catalogue i).tm.0 in
    let served = class_served g.catalogue i sound c in
    let few : g.catalogue.tms ≤ 16 = (sound_whole g.catalogue sound).few_tms in
    let k = range_there 1 g.catalogue.tms t served.module_from (omega (arith, served.module_to)) in
    let kd = range_there 1 g.catalogue.dms d.0 lo (omega arith) in
    let j = in_runs g i c in
    let r = (read_of g 0 d log ts of txn n ds us h e).1 in
    let ct = commit_t g t i log cm.later cm.before cm.bases cm.attempt h (home_of_class g.catalogue i c) cm.is cm.active_is in
    elim (low_or_high g k.0 t i j.0 log r.later r.before r.queued cm.attempt ct k.1 j.1 (omega arith) h r.is) [
      | inl low ↦ (let b = low.below in omega (arith, b, le, r.ts_is, cm.ts_is))
      | inr high ↦ (let p1 = part_of log high.start.later _ high.start.rest high.start.is in
          let h1 = permitted_part g log high.start.rest h p1 in
          let applied = all_applied g high.start.rest (u_stamp g r.before) kd.0 d.0 h1 high.dones kd.1 in
          let an = answered_before g kd.0 d high.start.rest (u_stamp g r.before) h1 kd.1 applied in
          not_again g d log an.0 ts of txn n ds us an.1 h e (part_join log high.start.rest an.1 p1 an.2) an.3 (an.4 ∙ sym r.ts_is))
    ]

pub holds_none : (g : Input) (i : ℕ) (d : DmNo) (log : Log) (ts : Ts) (of : ClassNo) (txn : TxnNo) (n : ℕ)
    (ds : List Cond) (us : List Use) (w : Ts) (wc : ClassNo) (wt : TxnNo) (changes : List Change)
    → IsPermitted g log → IsSoundCatalogue g.catalogue → IsClassOf g.catalogue i → 1 ≤ d.0 → d.0 ≤ g.catalogue.dms
    → head (pipe_at g 0 d log) ≡ Some (Read ts of txn n ds us) → head (pipe_at g i d log) ≡ Some (Write w wc wt changes)
    → holds_back i w.0 changes (Some (Read ts of txn n ds us)) ≡ true → ⊥
holds_none g i d log ts of txn n ds us w wc wt changes h sound c lo hi e f b =
    let a = any_at (holds i w.0 changes) ds b in
    let late : nat_le a.1.time.0 w.0 ≡ true = and_left _ _ (and_right (a.1.class.0 == i) _ a.3) in
    let time = own_time g d log ts of txn n ds us a.0 a.1 h e a.2 in
    let put = head_put g i d log (Write w wc wt changes) h f in
    none_later g i wt.0 w.0 d log ts of txn n ds us h sound c lo hi e (subst (λ t. t ≤ w.0) time (le_is a.1.time.0 w.0 late))
    (write_origin g log i d w wc wt changes (class_number wc.0 i w.0 put.of_class) put)

-- and is never rejected

class_of_cond : (g : Input) (d : DmNo) (log : Log) (ts : Ts) (of : ClassNo) (txn : TxnNo) (n : ℕ) (ds : List Cond) (us : List Use) (j : ℕ) (q : Cond)
    → IsPermitted g log → head (pipe_at g 0 d log) ≡ Some (Read ts of txn n ds us) → slice_get ds j ≡ Some q → IsClassOf g.catalogue q.class.0
class_of_cond g d log ts of txn n ds us j q h e f = grind (arith, in_range, read_classes)

pub not_rejected : (g : Input) (log : Log) (d : DmNo) (txn : TxnNo) (attempt : ℕ) (dm : DmNo) (by : ClassNo) (write : Ts) (sends : List (Site × Msg))
    → IsSoundCatalogue g.catalogue → 1 ≤ d.0 → d.0 ≤ g.catalogue.dms → IsPermitted g (Does (D d) (Records 0 (Rejected txn attempt dm by write) sends) ∷ log) → ⊥
not_rejected g log d txn attempt dm by write sends sound lo hi h =
    let s : Setting = setting_of g (D d) in
    let l : site.Log = local_of g (D d) log in
    let act : Act = Records 0 (Rejected txn attempt dm by write) sends in
    let r : IsRejecting s l 0 txn attempt by write = rejecting s l 0 txn attempt dm by write sends (d_step s l act (allowed_act g log (Does (D d) act) h.0)) in
    let q : Cond = r.cond_by in
    let f = spoiler_there (view_of s l) r.conds q r.spoiler_is in
    let class = class_of_cond g d log r.ts r.of txn attempt r.conds r.uses f.1 q h.1 r.head_is f.2 in
    let served = class_served g.catalogue q.class.0 sound class in
    let few : g.catalogue.tms ≤ 16 = (sound_whole g.catalogue sound).few_tms in
    let to = served.module_to in
    let t : ℕ = (class_at g.catalogue q.class.0).tm.0 in
    let k = range_there 1 g.catalogue.tms t served.module_from (omega arith) in
    let kd = range_there 1 g.catalogue.dms d.0 lo (omega arith) in
    let j = in_runs g q.class.0 class in
    let clean = never_spoilt g k.0 t j.0 kd.0 f.1 d log r.ts r.of txn attempt r.conds r.uses q h.1 k.1 j.1 (omega arith)
    (home_of_class g.catalogue q.class.0 class) kd.1 r.head_is f.2 in
    not_both (spoils (view_of s l) q) f.0 clean
