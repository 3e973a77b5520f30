-- A Reject names a WRITE that was processed; a READ that waits is never rejected.
use Rattle.std.proofs.Common.{arith}
use Rattle.sdd_progress.proofs.AllWaits.{Act, Answer, ClassNo, Cond, D, Did, DmNo, Does, Each, Input, IsAnswerOf, IsDueEach, IsPermitted, IsReadStep, IsRejectOf, IsWaitOf, List, Log, May, Msg, Read, Rec, Records, Rejected, Setting, Site, Some, Ts, TxnNo, Use, View, Write, allowed_act, ap, d_step, false, filter, first_there, head, in_filtered, is_processing, is_spoilt, last_write_for, le_by, local_of, not_both, or_zero, pipe, pipe_at, refl, setting_of, slice_get, spoiler, spoils, subst, sym, time_at, true, txn_no, view_of, waits, writer_of, ℕ, ◌∙◌, ◌∷◌, ◌≡◌}
use Rattle.sdd_progress.proofs.Waited.{since}
use Rattle.sdd_obligations.specs.site_module.SiteLog as site

-- what processes a head, at one site

pub record IsProcessing (s : Setting) (log : site.Log) (c : ℕ) (r : Rec) : Type 0 where
  pub msg : Msg
  pub head_is : head (pipe c log) ≡ Some msg
  pub may : May (view_of s log) c (waits c log) msg r

pub processing_of : (s : Setting) (log : site.Log) (c : ℕ) (r : Rec) (sends : List (Site × Msg)) → is_processing r ≡ true
    → IsReadStep s log (Records c r sends) → IsProcessing s log c r
processing_of s log c r sends p h7 = grind (arith, not_both)

-- a Reject

pub record IsRejecting (s : Setting) (log : site.Log) (c : ℕ) (txn : TxnNo) (attempt : ℕ) (by : ClassNo) (write : Ts) : Type 0 where
  pub ts : Ts
  pub of : ClassNo
  pub conds : List Cond
  pub uses : List Use
  pub head_is : head (pipe c log) ≡ Some (Read ts of txn attempt conds uses)
  pub waits_not : waits c log ≡ false
  pub cond_by : Cond
  pub spoiler_is : spoiler (view_of s log) conds ≡ Some cond_by
  pub names : by ≡ cond_by.class
  pub write_is : write.0 ≡ or_zero (last_write_for (view_of s log) cond_by)

rejecting_by : (s : Setting) (log : site.Log) (c : ℕ) (m : Msg) (txn : TxnNo) (attempt : ℕ) (dm : DmNo) (by : ClassNo) (write : Ts)
    → head (pipe c log) ≡ Some m → May (view_of s log) c (waits c log) m (Rejected txn attempt dm by write) → IsRejecting s log c txn attempt by write
rejecting_by s log c (Read ts of n a conds uses) txn attempt dm by write h m =
    let same_attempt : a ≡ attempt = sym m.1 in
    record {
      ts = ts;
      of = of;
      conds = conds;
      uses = uses;
      head_is = h ∙ ap (λ k. Some (Read ts of k a conds uses)) (ap (λ k. txn_no k) (sym m.0)) ∙ ap (λ k. Some (Read ts of txn k conds uses)) same_attempt;
      waits_not = m.2;
      cond_by = m.3;
      spoiler_is = m.4;
      names = m.5;
      write_is = m.6;
    }
rejecting_by s log c _ txn attempt dm by write h m = absurd m

pub rejecting : (s : Setting) (log : site.Log) (c : ℕ) (txn : TxnNo) (attempt : ℕ) (dm : DmNo) (by : ClassNo) (write : Ts) (sends : List (Site × Msg))
    → IsReadStep s log (Records c (Rejected txn attempt dm by write) sends) → IsRejecting s log c txn attempt by write
rejecting s log c txn attempt dm by write sends i =
    let p = processing_of s log c (Rejected txn attempt dm by write) sends refl i in
    rejecting_by s log c p.msg txn attempt dm by write p.head_is p.may

pub spoiler_there : (v : View) (conds : List Cond) (q : Cond) → spoiler v conds ≡ Some q → (spoils v q ≡ true) × (k : ℕ) × (slice_get conds k ≡ Some q)
spoiler_there v conds q e = in_filtered (spoils v) conds 0 q (first_there (filter (spoils v) conds) q e)

pub rejected : (g : Input) (log : Log) (d : DmNo) (c : ℕ) (txn : TxnNo) (attempt : ℕ) (dm : DmNo) (by : ClassNo) (write : Ts) (sends : List (Site × Msg))
    → IsPermitted g (Does (D d) (Records c (Rejected txn attempt dm by write) sends) ∷ log) → IsRejectOf g log d c txn attempt by write
rejected g log d c txn attempt dm by write sends h =
    let s : Setting = setting_of g (D d) in
    let l : site.Log = local_of g (D d) log in
    let act : Act = Records c (Rejected txn attempt dm by write) sends in
    let r = rejecting s l c txn attempt dm by write sends (d_step s l act (allowed_act g log (Does (D d) act) h.0)) in
    let q : Cond = r.cond_by in
    let f = spoiler_there (view_of s l) r.conds q r.spoiler_is in
    let z = is_spoilt s l q f.0 in
    let class : q.class.0 ≡ by.0 = ap (λ (k : ClassNo). k.0) (sym r.names) in
    let there : slice_get (pipe_at g by.0 d log).processed z.place ≡ Some (Write write z.of z.txn z.changes) = subst
    (λ k. slice_get (pipe_at g k d log).processed z.place ≡ Some (Write write z.of z.txn z.changes)) class
    (z.there ∙ ap (λ t. Some (Write t z.of z.txn z.changes)) (ap (λ t. time_at t) (z.ts_is ∙ sym r.write_is))) in
    record {
      ts = r.ts;
      of = r.of;
      conds = r.conds;
      uses = r.uses;
      head_is = r.head_is;
      waits_not = r.waits_not;
      place = f.1;
      cond_by = q;
      there = f.2;
      names = r.names;
      late = le_by q.time.0 (or_zero (last_write_for (view_of s l) q)) write.0 z.at_least r.write_is;
      write_place = z.place;
      writer_class = z.of;
      writer = z.txn;
      changes = z.changes;
      processed = there;
      touching = z.touching;
      written = writer_of g log d by.0 z.place write z.of z.txn z.changes h.1 there;
    }

-- what processes a READ that waits is its Answer

answer_by : (s : Setting) (log : site.Log) (c : ℕ) (ts : Ts) (of : ClassNo) (txn : TxnNo) (attempt : ℕ) (conds : List Cond) (uses : List Use) (r : Rec)
    → waits c log ≡ true → May (view_of s log) c (waits c log) (Read ts of txn attempt conds uses) r → (dm : DmNo) × (r ≡ Answer txn attempt dm)
answer_by s log c ts of txn attempt conds uses (Answer n a dm) w m = (dm, ap (λ k. Answer (txn_no k) a dm) m.0 ∙ ap (λ k. Answer txn k dm) m.1)
answer_by s log c ts of txn attempt conds uses (Rejected n a dm by x) w m = absurd (not_both (waits c log) w m.2)
answer_by s log c ts of txn attempt conds uses r w m = absurd m

pub waited_answer : (s : Setting) (log : site.Log) (c : ℕ) (ts : Ts) (of : ClassNo) (txn : TxnNo) (attempt : ℕ)
    (conds : List Cond) (uses : List Use) (r : Rec) (sends : List (Site × Msg))
    → waits c log ≡ true → head (pipe c log) ≡ Some (Read ts of txn attempt conds uses) → is_processing r ≡ true
    → IsReadStep s log (Records c r sends) → (dm : DmNo) × (r ≡ Answer txn attempt dm)
waited_answer s log c ts of txn attempt conds uses r sends w h p i =
    let x = processing_of s log c r sends p i in
    let m : x.msg ≡ Read ts of txn attempt conds uses = cc (sym x.head_is ∙ h) in
    answer_by s log c ts of txn attempt conds uses r w (subst (λ y. May (view_of s log) c (waits c log) y r) m x.may)

pub not_rejected : (s : Setting) (c : ℕ) (log : site.Log) (r : Rec) (sends : List (Site × Msg))
    → Each (IsDueEach s) (Did (Records c r sends) ∷ log) → waits c log ≡ true → is_processing r ≡ true → IsAnswerOf c log r
not_rejected s c log r sends h w p =
    let i = since s c log h.1 w in
    let x : IsWaitOf s i.before c i.act = i.wait in
    let e : head (pipe c log) ≡ Some (Read x.ts x.of x.txn x.attempt x.conds x.uses) = i.same_head ∙ x.head_is in
    let a = waited_answer s log c x.ts x.of x.txn x.attempt x.conds x.uses r sends w e p (d_step s log (Records c r sends) h.0) in
    record { ts = x.ts; of = x.of; txn = x.txn; attempt = x.attempt; conds = x.conds; uses = x.uses; head_is = e; dm = a.0; record_is = a.1 }
