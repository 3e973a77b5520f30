-- A committed attempt is rejected nowhere: each module that it asks answered it, and a module processes a READ once.
use Rattle.sdd_bounds.proofs.All.{Act, Answer, ClassNo, Committed, Cond, D, Did, DmNo, Does, Input, IsCommitted, IsDataIn, IsPermitted, IsRejectAt, IsSoundCatalogue, List, Log, Msg, Pipe, Read, Rec, Records, Reject, Setting, Site, Some, Ts, TxnNo, Use, [], allowed_act, ap, append_assoc, arith, ascending, class_no, class_puts, commit_act, commit_answered, committed_in, compare, contains, d_step, data_in, dm_no, eq-eqb, fragments_in, further_back, head, head_place, history, home, home_of, home_small, inl, inr, is_processing, length, length-append, local_grows, local_of, modules_of, number_of, one_of_key, own_act, own_record, permitted_before, pipe, pipe_at, processed_grows, processed_more, read_at, read_msg, read_of, read_of_some, reads_strict, refl, rejecting, same_attempt, setting_of, slice_get, subst, sym, time_at, true, txn_no, uses_of, ℕ, ◌++◌, ◌<◌, ◌==◌, ◌∙◌, ◌∷◌, ◌≡◌, ◌≤◌}
use Rattle.sdd_progress.specs.obligations.links.Attempts.{Attempt}
use Rattle.sdd_progress.specs.obligations.site_module.SiteLog as site

-- a record by which a module processes the READ of a class with a timestamp
record IsReadProcessed (g : Input) (log : Log) (d : DmNo) (c ts : ℕ) (r : Rec) : Type 0 where
  later : Log
  before : Log
  sends : List (Site × Msg)
  is : log ≡ later ++ Does (D d) (Records c r sends) ∷ before
  processing : is_processing r ≡ true
  msg : Msg
  head_is : head (pipe_at g c d before) ≡ Some msg
  key_is : read_at c msg ≡ Some ts

-- what is processed once it was
more_processed : (g : Input) (c : ℕ) (d : DmNo) (r : Rec) (sends : List (Site × Msg)) (m : Msg) (later before : Log) → is_processing r ≡ true
    → head (pipe_at g c d before) ≡ Some m
    → length (pipe_at g c d before).processed < length (pipe_at g c d (later ++ Does (D d) (Records c r sends) ∷ before)).processed
more_processed g c d r sends m later before p e =
    let act : Act = Records c r sends in
    let l : site.Log = local_of g (D d) before in
    let x = local_grows g (D d) later (Does (D d) act ∷ before) in
    let is : local_of g (D d) (later ++ Does (D d) act ∷ before) ≡ x.0 ++ Did act ∷ l = x.1 ∙ ap (λ y. x.0 ++ y) (own_act g (D d) act before) in
    omega (
      arith,
      ap (λ y. length (pipe c y).processed) is,
      processed_grows c x.0 (Did act ∷ l),
      ap (λ (q : Pipe). length q.processed) (own_record c r sends l p).0,
      ap length (processed_more (pipe c l) m e),
      length-append (pipe c l).processed (m ∷ []),
    )

-- its place among the puts of the class
place_is : (g : Input) (log : Log) (d : DmNo) (c ts : ℕ) (r : Rec) → IsPermitted g log → (x : IsReadProcessed g log d c ts r)
    → slice_get (class_puts g c d log) (length (pipe_at g c d x.before).processed) ≡ Some x.msg
place_is g log d c ts r h x =
    let front : Log = x.later ++ Does (D d) (Records c r x.sends) ∷ [] in
    let is : log ≡ front ++ x.before = x.is ∙ sym (append_assoc x.later (Does (D d) (Records c r x.sends) ∷ []) x.before) in
    let hb : IsPermitted g x.before = permitted_before g front x.before (subst (IsPermitted g) is h) in
    subst (λ l. slice_get (class_puts g c d l) (length (pipe_at g c d x.before).processed) ≡ Some x.msg) (sym is) (head_place g c d front x.before x.msg hb x.head_is)

-- it isn't processed twice
not_again : (g : Input) (log : Log) (d : DmNo) (c ts : ℕ) (r q : Rec) → IsPermitted g log → number_of (home g.catalogue c) ≤ 63
    → (x : IsReadProcessed g log d c ts r) (y : IsReadProcessed g log d c ts q) (between : Log)
    → y.before ≡ between ++ Does (D d) (Records c r x.sends) ∷ x.before → ⊥
not_again g log d c ts r q h small x y between e =
    let one = one_of_key (read_at c) (class_puts g c d log) (length (pipe_at g c d x.before).processed) (length (pipe_at g c d y.before).processed) x.msg y.msg ts
    (reads_strict g c d log h small) (place_is g log d c ts r h x) (place_is g log d c ts q h y) x.key_is y.key_is in
    let more = more_processed g c d r x.sends x.msg between x.before x.processing x.head_is in
    omega (arith, ap (λ l. length (pipe_at g c d l).processed) e)

same_record : (d : DmNo) (c : ℕ) (r q : Rec) (s t : List (Site × Msg)) → Does (D d) (Records c r s) ≡ Does (D d) (Records c q t) → r ≡ q
same_record d c r q s t e = cc

one_record : (g : Input) (log : Log) (d : DmNo) (c ts : ℕ) (r q : Rec) → IsPermitted g log → number_of (home g.catalogue c) ≤ 63
    → IsReadProcessed g log d c ts r → IsReadProcessed g log d c ts q → r ≡ q
one_record g log d c ts r q h small x y =
    elim (compare x.later y.later (Does (D d) (Records c r x.sends)) (Does (D d) (Records c q y.sends)) x.before y.before (sym x.is ∙ y.is)) [
      | inl same ↦ same_record d c r q x.sends y.sends same.1
      | inr other ↦ elim other [
        | inl z ↦ absurd (not_again g log d c ts r q h small x y z.between z.is)
        | inr z ↦ absurd (not_again g log d c ts q r h small y x z.between z.is)
      ]
    ]

-- a READ of the class has its timestamp as key
key_of : (c : ℕ) (ts : Ts) (k : ClassNo) (txn : TxnNo) (attempt : ℕ) (conds : List Cond) (uses : List Use) → k.0 ≡ c → read_at c (Read ts k txn attempt conds uses) ≡ Some ts.0
key_of c ts k txn attempt conds uses e = rw (eq-eqb k.0 c e) refl

-- and to answer isn't to reject
not_both : (a b : TxnNo) (i j : ℕ) (d e : DmNo) (by : ClassNo) (write : Ts) → Answer a i d ≡ Reject b j e by write → ⊥
not_both a b i j d e by write is = cc

pub never_rejected : (g : Input) (log : Log) (t : Committed) → IsSoundCatalogue g.catalogue → IsPermitted g log → IsCommitted (history log) t
    → IsRejectAt (history log) t.start.txn t.start.number → ⊥
never_rejected g log t sound h ct at =
    let n : ℕ = t.start.txn in
    let c : ℕ = t.start.class in
    let d : DmNo = dm_no at.dm in
    let rec : Rec = Reject (txn_no n) t.start.number d (class_no at.class) (time_at at.write) in
    let x : IsDataIn g log at.place rec d = data_in g log at.place rec d h refl refl (λ e p. sym p) at.is_recorded in
    let act : Act = Records x.class rec x.sends in
    let ds : Setting = setting_of g (D d) in
    let rj = rejecting ds (local_of g (D d) x.before) x.class (txn_no n) t.start.number d (class_no at.class) (time_at at.write) x.sends
    (d_step ds (local_of g (D d) x.before) act (allowed_act g x.before (Does (D d) act) x.permitted.0)) in
    let r = read_of_some g log x.later x.before (Does (D d) act) x.class n t.start.number at.dm rj.ts rj.class rj.conds rj.uses x.permitted.1 x.is rj.head_is in
    let same = same_attempt g log sound h r.attempt t.start r.started ct.started r.txn_is r.number_is in
    let class : c ≡ x.class = ap (λ (a : Attempt). a.class) (sym same) ∙ r.class_is in
    let rejects : IsReadProcessed g log d x.class t.start.ts rec = record {
      later = x.later;
      before = x.before;
      sends = x.sends;
      is = x.is;
      processing = refl;
      msg = read_msg r.attempt r.read.conds r.read.uses;
      head_is = subst (λ k. head (pipe_at g k d x.before) ≡ Some (read_msg r.attempt r.read.conds r.read.uses)) r.class_is r.read.head_is;
      key_is = key_of x.class (time_at r.attempt.ts) (class_no r.attempt.class) (txn_no r.attempt.txn) r.attempt.number r.read.conds r.read.uses r.class_is
          ∙ ap (λ (a : Attempt). Some a.ts) same;
    } in
    let asked : contains (modules_of g.catalogue c (ascending (fragments_in t.start.uses))) at.dm ≡ true = subst
    (λ (a : Attempt). contains (modules_of g.catalogue a.class (ascending (fragments_in a.uses))) at.dm ≡ true) same r.read.asked in
    let z = committed_in g log t sound h ct in
    let ans = commit_answered g c z.before z.bases z.running d z.permitted z.active_is
    (subst (λ us. contains (modules_of g.catalogue c (ascending (fragments_in us))) at.dm ≡ true) z.uses_are asked) in
    let answer : Rec = Answer ans.txn ans.attempt (home_of (setting_of g (D d))).dm in
    let f = further_back log z.later z.before (Does (home g.catalogue c) (commit_act g.catalogue z.bases c z.running)) (Does (D d) (Records c answer ans.sends))
    ans.later ans.before z.is ans.is in
    let hb : IsPermitted g ans.before = (permitted_before g f.0 (Does (D d) (Records c answer ans.sends) ∷ ans.before) (subst (IsPermitted g) f.1 h)).1 in
    let of_class = (read_of g c d ans.before ans.ts ans.of ans.txn ans.attempt ans.conds ans.uses hb ans.head_is).0 in
    let answers : IsReadProcessed g log d c t.start.ts answer = record {
      later = f.0;
      before = ans.before;
      sends = ans.sends;
      is = f.1;
      processing = refl;
      msg = Read ans.ts ans.of ans.txn ans.attempt ans.conds ans.uses;
      head_is = ans.head_is;
      key_is = key_of c ans.ts ans.of ans.txn ans.attempt ans.conds ans.uses of_class ∙ ap (λ k. Some k) (ans.ts_is ∙ z.ts_is);
    } in
    let one : answer ≡ rec = one_record g log d c t.start.ts answer rec h (omega (arith, home_small g.catalogue sound c)) answers
    (subst (λ k. IsReadProcessed g log d k t.start.ts rec) (sym class) rejects) in
    not_both ans.txn (txn_no n) ans.attempt t.start.number (home_of (setting_of g (D d))).dm d (class_no at.class) (time_at at.write) one
