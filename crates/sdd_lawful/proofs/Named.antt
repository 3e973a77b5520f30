-- All that the records of a history name is there.
use Rattle.sdd_lawful.proofs.All.{Act, All-from_recursion, AllByRecursion, Answer, Apply, AreErasOf, AreNumbered, Arrive, Ask, Attempt, Catalogue, Change, ChangeExists, ClassNo, Commit, Committed, Cond, CondExists, D, DmNo, Does, Entry, Eras, ExistsIn, FitsTxn, Hand, HasSoundData, History, Input, IsAskBy, IsAttempt, IsClass, IsCommitted, IsDueAt, IsFrom1To, IsModule, IsPermitted, IsPutAt, IsRead, IsReadStep, IsRecordAt, IsSoundCatalogue, List, Log, Mark, Msg, NamesOneOf, Nothing, Null, NumbersExist, Option, Pass, Read, Rec, Records, Rejected, RelNo, Row, Sends, Setting, Site, Some, Start, Submit, Submitted, Ts, TxnNo, TxnsExist, Use, UseExists, Wait, [], all_join, allowed_act, ap, append_assoc, arith, ascending, class_number, d_step, dm_no, false, first_of_filter, fragments_in, from_ascending, hand_was_put, handed, head, head_put, history, home, in_class, length, local_of, marks, modules_asked, number_member, origin, p2_time, permitted_before, pipe_at, place_of_hand, put_at_home, put_in_by_d, puts_to, record_of, recursion_from_All, refl, same_number, sends_of_act, setting_of, slice_get, spoils, start_at, start_read, subst, suc, sym, to_site, true, txn_no, view_of, ℕ, ◌++◌, ◌-◌, ◌<◌, ◌∙◌, ◌∷◌, ◌≡◌, ◌≤◌}
use Rattle.sdd_lawful.proofs.Answered.{answer_head, in_reads, read_of_some}
use Rattle.sdd_lawful.proofs.Applied.{apply_in}
use Rattle.sdd_lawful.proofs.Applies.{of_commit}
use Rattle.sdd_lawful.proofs.Classes.{at_home, home_setting}
use Rattle.sdd_lawful.proofs.Committed.{home_step}
use Rattle.sdd_lawful.proofs.Commits.{CommitContent, begun, begun_as, commit_in, commit_rec}
use Rattle.sdd_lawful.proofs.Dues.{arrives, home_runs, null_asked, passing, sends_null, waiting}
use Rattle.sdd_lawful.proofs.Existing.{cond_exists, fragment_exists, module_exists, uses_exist}
use Rattle.sdd_lawful.proofs.Makers.{IsOfData, data_home, is_of_run, is_own, none_own}
use Rattle.sdd_lawful.proofs.Places.{history_step, recorded, recorded_there}
use Rattle.sdd_lawful.proofs.Rejected.{rejecting}
use Rattle.sdd_lawful.proofs.Started.{attempt_from, given_of_attempt, start_in, start_of}
use Rattle.sdd_lawful.proofs.Starts.{start_within}
use Rattle.sdd_lawful.proofs.Submissions.{given_at}
use Rattle.sdd_lawful.proofs.Together.{changes_valid, valid_there}
use Rattle.sdd_lawful.proofs.Valid.{IsValid, all_slice}
use Rattle.sdd_invariants.specs.All.{Submit as SubmitEvent}
use Rattle.sdd_invariants.specs.site_module.SiteLog as site

each_exists : (cat : Catalogue) → IsSoundCatalogue cat → (changes : List Change) → AllByRecursion (IsValid cat) changes → AllByRecursion (ChangeExists cat) changes
each_exists cat sound [] h = tt
each_exists cat sound (c ∷ changes) h = (valid_there cat sound c h.0, each_exists cat sound changes h.1)

module _ (g : Input) (rows : List (RelNo × Row)) (eras : Eras) (log : Log) (sound : IsSoundCatalogue g.catalogue) (fine : HasSoundData g rows)
    (h : IsPermitted g log) (are : AreErasOf g log eras) (numbered : AreNumbered g log) where
  abbrev cat : Catalogue
  cat = g.catalogue

  abbrev IsTxn : ℕ → Type 0
  IsTxn n = IsFrom1To (length g.txns) n

  abbrev IsKnown : Rec → Type 0
  IsKnown r = ExistsIn cat r × NamesOneOf (length g.txns) r

  -- what is submitted is there
  submitted_known : (n : ℕ) (at : Site) (later rest : Log) → log ≡ later ++ Submitted at n ∷ rest → IsTxn n
  submitted_known n at later rest is =
      let x = given_at g rest at n (permitted_before g later (Submitted at n ∷ rest) (subst (IsPermitted g) is h)) in
      let whole : log ≡ (later ++ Submitted at n ∷ []) ++ Mark (SubmitEvent x.number) ∷ x.earlier = is ∙ ap (λ r. later ++ Submitted at n ∷ r) x.is
      ∙ sym (append_assoc later (Submitted at n ∷ []) (Mark (SubmitEvent x.number) ∷ x.earlier)) in
      subst IsTxn x.number_is (numbered (later ++ Submitted at n ∷ []) x.earlier x.number whole)

  -- and so is what an attempt names
  attempt_txn : (a : Attempt) → IsAttempt (history log) a → IsTxn a.txn
  attempt_txn a s =
      let w = given_of_attempt g log a (start_in g log a sound h s) in
      submitted_known a.txn (home cat a.class) w.later w.rest w.is

  attempt_class : (a : Attempt) → IsAttempt (history log) a → IsClass cat a.class
  attempt_class a s = start_within g log eras a are (start_in g log a sound h s)

  attempt_uses : (a : Attempt) → IsAttempt (history log) a → AllByRecursion (UseExists cat) a.uses
  attempt_uses a s =
      let x = start_in g log a sound h s in
      let w = given_of_attempt g log a x in
      let fits = all_slice (FitsTxn cat) g.txns (a.txn - 1) x.says.text (recursion_from_All (FitsTxn cat) g.txns fine.txns_fit) w.text_is in
      grind (arith, recursion_from_All, uses_exist)

  -- a READ at the head of a pipe
  record ReadKnown (d n : ℕ) (ds : List Cond) : Type 0 where
    pub at_module : IsModule cat d
    pub txn : IsTxn n
    pub conds : (k : ℕ) (q : Cond) → slice_get ds k ≡ Some q → CondExists cat q

  head_known : (later before : Log) (e : Entry) (c n number d : ℕ) (ts : Ts) (of : ClassNo) (ds : List Cond) (us : List Use) → log ≡ later ++ e ∷ before
      → head (pipe_at g c (dm_no d) before) ≡ Some (Read ts of (txn_no n) number ds us) → ReadKnown d n ds
  head_known later before e c n number d ts of ds us is top =
      let hb = (permitted_before g later (e ∷ before) (subst (IsPermitted g) is h)).1 in
      let r = read_of_some g log later before e c n number d ts of ds us hb is top in
      let b : Attempt = r.attempt in
      record {
        at_module = (module_exists cat sound b.class b.uses d (attempt_class b r.started) (attempt_uses b r.started) r.read.asked);
        txn = subst IsTxn r.txn_is (attempt_txn b r.started);
        conds = λ k q there. cond_exists cat (site.current_era (home_setting g b.class) (at_home g b.class r.read.start_log)).table b.class
            (ascending (fragments_in b.uses)) b.ts (p2_time b) d k q
            (λ f m. fragment_exists cat b.uses f (attempt_uses b r.started)
            (from_ascending (fragments_in b.uses) f (number_member (ascending (fragments_in b.uses)) f m)))
            (subst (λ l. slice_get l k ≡ Some q) r.read.conds_are (subst (λ l. slice_get l k ≡ Some q) (sym r.same_conds) there));
      }

  -- a READ that was put
  put_known : (front rest : Log) (c n number d : ℕ) (ts : Ts) (of : ClassNo) (ds : List Cond) (us : List Use) → log ≡ front ++ rest
      → IsPutAt g rest c (dm_no d) (Read ts of (txn_no n) number ds us) → IsModule cat d × IsTxn n
  put_known front rest c n number d ts of ds us is p =
      let m : Msg = Read ts of (txn_no n) number ds us in
      let z : of.0 ≡ c = class_number of.0 c ts.0 p.of_class in
      let l : site.Log = at_home g c p.before in
      let r : IsRead (home_setting g c) l p.act c ts.0 n number = subst (λ j. IsRead (home_setting g c) l p.act j ts.0 n number) z p.by in
      let start : Act = start_at (home_setting g c) c l r.queued in
      let b : Attempt = begun_as g c l r.queued (length (history p.before)) in
      let i = in_reads (start_read (home_setting g c) c l r.queued) d (modules_asked (home_setting g c) c r.queued.text) p.place m
      (subst (λ y. slice_get (to_site (D (dm_no d)) (sends_of_act y)) p.place ≡ Some m) r.act_is p.there) in
      let whole : log ≡ (front ++ p.later) ++ Does (home cat c) start ∷ p.before = is
      ∙ ap (λ y. front ++ y) (p.is ∙ ap (λ y. p.later ++ Does (home cat c) y ∷ p.before) r.act_is)
      ∙ sym (append_assoc front p.later (Does (home cat c) start ∷ p.before)) in
      let s : IsAttempt (history log) b = subst (λ y. IsAttempt (history y) b) (sym whole)
      (recorded_there (front ++ p.later) (Does (home cat c) start) p.before (start_of b) refl) in
      ((module_exists cat sound b.class b.uses d (attempt_class b s) (attempt_uses b s) i.0), subst IsTxn (sym r.number_is) (attempt_txn b s))

  start_known : (later : Log) (at : Site) (c : ℕ) (txn : TxnNo) (number : ℕ) (class : ClassNo) (ts : Ts)
      (p2 : Option Ts) (uses : List Use) (sends : List (Site × Msg)) (before : Log)
      → log ≡ later ++ Does at (Records c (Start txn number class ts p2 uses) sends) ∷ before → IsKnown (Start txn number class ts p2 uses)
  start_known later at c txn number class ts p2 uses sends before is =
      let a : Attempt = attempt_from txn number class ts p2 uses (length (history before)) in
      let s : IsAttempt (history log) a = subst (λ y. IsAttempt (history y) a) (sym is)
      (recorded_there later (Does at (Records c (start_of a) sends)) before (start_of a) refl) in
      ((attempt_class a s, All-from_recursion (UseExists cat) uses (attempt_uses a s)), attempt_txn a s)

  commit_known : (later : Log) (at : Site) (c : ℕ) (txn : TxnNo) (number : ℕ) (content : CommitContent) (sends : List (Site × Msg)) (before : Log)
      → log ≡ later ++ Does at (Records c (commit_rec txn.0 number content) sends) ∷ before → IsKnown (commit_rec txn.0 number content)
  commit_known later at c txn number content sends before is =
      let k : ℕ = length (history before) in
      let st : IsRecordAt (history log) k (commit_rec txn.0 number content) = subst (λ y. IsRecordAt (history y) k (commit_rec txn.0 number content)) (sym is)
      (recorded_there later (Does at (Records c (commit_rec txn.0 number content) sends)) before (commit_rec txn.0 number content) refl) in
      let b = begun g log txn.0 number k content (commit_in g log txn.0 number k content sound h st) in
      let t : Committed =
      record { start = b.attempt; reply = content.reply; changes = content.changes; values = content.values; rows = content.rows; place = k } in
      let named : IsRecordAt (history log) k (commit_rec b.attempt.txn b.attempt.number content) = subst
      (λ i. IsRecordAt (history log) k (commit_rec b.attempt.txn i content)) (sym b.number_is)
      (subst (λ i. IsRecordAt (history log) k (commit_rec i number content)) (sym b.txn_is) st) in
      let ct : IsCommitted (history log) t = record { started = b.started; committed = named } in (
        All-from_recursion (ChangeExists cat) content.changes
            (each_exists cat sound content.changes (changes_valid g rows log sound fine h t ct)),
        subst IsTxn b.txn_is (attempt_txn b.attempt b.started),
      )

  -- records of data modules

  abbrev OfModule : Log → ℕ → Rec → List (Site × Msg) → Log → DmNo → Type 0
  OfModule later c r sends before d = log ≡ later ++ Does (D d) (Records c r sends) ∷ before

  act_permitted : (later : Log) (c : ℕ) (r : Rec) (sends : List (Site × Msg)) (before : Log) (d : DmNo) → OfModule later c r sends before d
      → IsPermitted g (Does (D d) (Records c r sends) ∷ before)
  act_permitted later c r sends before d is = permitted_before g later (Does (D d) (Records c r sends) ∷ before) (subst (IsPermitted g) is h)

  step_of : (later : Log) (c : ℕ) (r : Rec) (sends : List (Site × Msg)) (before : Log) (d : DmNo) → OfModule later c r sends before d
      → IsReadStep (setting_of g (D d)) (local_of g (D d) before) (Records c r sends)
  step_of later c r sends before d is =
      d_step (setting_of g (D d)) (local_of g (D d) before) (Records c r sends)
      (allowed_act g before (Does (D d) (Records c r sends)) (act_permitted later c r sends before d is).0)

  answer_known : (later : Log) (c : ℕ) (txn : TxnNo) (i : ℕ) (dm : DmNo) (sends : List (Site × Msg)) (before : Log) (d : DmNo)
      → OfModule later c (Answer txn i dm) sends before d → dm ≡ d → IsKnown (Answer txn i dm)
  answer_known later c txn i dm sends before d is e =
      let top = answer_head (setting_of g (D d)) (local_of g (D d) before) c txn i dm sends (step_of later c (Answer txn i dm) sends before d is) in
      let k = head_known later before (Does (D d) (Records c (Answer txn i dm) sends)) c txn.0 i d.0 top.ts top.class top.conds top.uses is top.is in
      (subst (λ (y : DmNo). IsModule cat y.0) (sym e) k.at_module, k.txn)

  reject_known : (later : Log) (c : ℕ) (txn : TxnNo) (i : ℕ) (dm : DmNo) (by : ClassNo) (write : Ts) (sends : List (Site × Msg)) (before : Log) (d : DmNo)
      → OfModule later c (Rejected txn i dm by write) sends before d → dm ≡ d → IsKnown (Rejected txn i dm by write)
  reject_known later c txn i dm by write sends before d is e =
      let s : Setting = setting_of g (D d) in
      let l : site.Log = local_of g (D d) before in
      let rj = rejecting s l c txn i dm by write sends (step_of later c (Rejected txn i dm by write) sends before d is) in
      let k = head_known later before (Does (D d) (Records c (Rejected txn i dm by write) sends)) c txn.0 i d.0 rj.ts rj.class rj.conds rj.uses is rj.head_is in
      let f = first_of_filter (spoils (view_of s l)) rj.conds rj.cond_by rj.spoiler_is in
      let q = k.conds f.0 rj.cond_by f.1 in
      ((subst (λ (y : DmNo). IsModule cat y.0) (sym e) k.at_module, subst (λ (y : ClassNo). IsClass cat y.0) (sym rj.by_is) q.0), k.txn)

  all_conds : (ds : List Cond) → ((k : ℕ) (q : Cond) → slice_get ds k ≡ Some q → CondExists cat q) → AllByRecursion (CondExists cat) ds
  all_conds [] f = tt
  all_conds (q ∷ ds) f = (f 0 q refl, all_conds ds (λ k p e. f (suc k) p e))

  wait_known : (later : Log) (c : ℕ) (txn : TxnNo) (i : ℕ) (dm : DmNo) (ds : List Cond) (sends : List (Site × Msg)) (before : Log) (d : DmNo)
      → OfModule later c (Wait txn i dm ds) sends before d → dm ≡ d → IsKnown (Wait txn i dm ds)
  wait_known later c txn i dm ds sends before d is e =
      let w = waiting (setting_of g (D d)) (local_of g (D d) before) c txn i dm ds sends
      (allowed_act g before (Does (D d) (Records c (Wait txn i dm ds) sends)) (act_permitted later c (Wait txn i dm ds) sends before d is).0) in
      let k = head_known later before (Does (D d) (Records c (Wait txn i dm ds) sends)) c txn.0 i d.0 w.ts w.class w.conds w.uses is w.head_is in (
        (
          subst (λ (y : DmNo). IsModule cat y.0) (sym e) k.at_module,
          All-from_recursion (CondExists cat) ds
              (all_conds ds (λ j q there. let a = w.among j q there in k.conds a.0 q a.1)),
        ),
        k.txn,
      )

  -- a message that was handed was put by the site of its class
  arrive_known : (later : Log) (c : ℕ) (txn : TxnNo) (i : ℕ) (dm : DmNo) (sends : List (Site × Msg)) (before : Log) (d : DmNo)
      → OfModule later c (Arrive txn i dm) sends before d → dm ≡ d → IsKnown (Arrive txn i dm)
  arrive_known later c txn i dm sends before d is e =
      let w = arrives (setting_of g (D d)) (local_of g (D d) before) c txn i dm sends
      (allowed_act g before (Does (D d) (Records c (Arrive txn i dm) sends)) (act_permitted later c (Arrive txn i dm) sends before d is).0) in
      let m : Msg = Read w.ts w.class txn i w.conds w.uses in
      let p = place_of_hand g (D d) before w.later w.from m w.before w.is in
      let front : Log = (later ++ Does (D d) (Records c (Arrive txn i dm) sends) ∷ p.later) ++ Hand w.from (D d) p.number m ∷ [] in
      let whole : log ≡ front ++ p.rest = is ∙ ap (λ y. later ++ Does (D d) (Records c (Arrive txn i dm) sends) ∷ y) p.is
      ∙ sym (append_assoc later (Does (D d) (Records c (Arrive txn i dm) sends) ∷ p.later) (Hand w.from (D d) p.number m ∷ p.rest))
      ∙ sym (append_assoc (later ++ Does (D d) (Records c (Arrive txn i dm) sends) ∷ p.later) (Hand w.from (D d) p.number m ∷ []) p.rest) in
      let now : IsPermitted g (Hand w.from (D d) p.number m ∷ p.rest) = permitted_before g p.later (Hand w.from (D d) p.number m ∷ p.rest)
      (subst (IsPermitted g) p.is (act_permitted later c (Arrive txn i dm) sends before d is).1) in
      let put = (hand_was_put g p.rest w.from (D d) p.number m now.0).1 in
      let home_is : home cat w.class.0 ≡ w.from = put_at_home g w.from (D d) p.rest (handed w.from (D d) p.rest) m now.1 put w.class.0 w.ts.0 refl in
      let there = subst (λ s. slice_get (puts_to (D d) (local_of g s p.rest)) (handed w.from (D d) p.rest) ≡ Some m) (sym home_is) put in
      let j = in_class w.class.0 (puts_to (D d) (local_of g (home cat w.class.0) p.rest)) (handed w.from (D d) p.rest) m there (same_number w.class.0) in
      let k = put_known front p.rest w.class.0 txn.0 i d.0 w.ts w.class w.conds w.uses whole (origin g w.class.0 d p.rest j.0 m now.1 j.1) in
      (subst (λ (y : DmNo). IsModule cat y.0) (sym e) k.0, k.1)

  apply_known : (later : Log) (c : ℕ) (txn : TxnNo) (class : ClassNo) (dm : DmNo) (ts : Ts) (sends : List (Site × Msg)) (before : Log) (d : DmNo)
      → OfModule later c (Apply txn class dm ts) sends before d → dm ≡ d → IsKnown (Apply txn class dm ts)
  apply_known later c txn class dm ts sends before d is e =
      let k : ℕ = length (history before) in
      let st : IsRecordAt (history log) k (Apply txn class dm ts) = subst (λ y. IsRecordAt (history y) k (Apply txn class dm ts)) (sym is)
      (recorded_there later (Does (D d) (Records c (Apply txn class dm ts) sends)) before (Apply txn class dm ts) refl) in
      let x = apply_in g log txn.0 class.0 dm.0 ts.0 k h st in
      let o = of_commit g log sound h txn.0 class.0 dm.0 ts.0 k st in (
        (x.at_module, subst (IsClass cat) o.class_is (attempt_class o.committed.start o.is_committed.started)),
        subst IsTxn o.txn_is
            (attempt_txn o.committed.start o.is_committed.started),
      )

  -- an ASK was put by a Wait
  asked_known : (front rest : Log) (at : Site) (d : DmNo) (class : ClassNo) (time : Ts) (later before : site.Log) → log ≡ front ++ rest
      → local_of g at rest ≡ later ++ site.Handed (D d) (Ask class time) ∷ before → IsModule cat d.0
  asked_known front rest at d class time later before is split =
      let m : Msg = Ask class time in
      let p = place_of_hand g at rest later (D d) m before split in
      let hr = permitted_before g front rest (subst (IsPermitted g) is h) in
      let now : IsPermitted g (Hand (D d) at p.number m ∷ p.rest) = permitted_before g p.later (Hand (D d) at p.number m ∷ p.rest)
      (subst (IsPermitted g) p.is hr) in
      let put = put_in_by_d g p.rest d at (handed (D d) at p.rest) m now.1 (hand_was_put g p.rest (D d) at p.number m now.0).1 in
      let b : IsAskBy (setting_of g (D d)) (local_of g (D d) put.before) at class time = put.by in
      let last : Log = p.later ++ Hand (D d) at p.number m ∷ put.later in
      let whole : log ≡ (front ++ last) ++ Does (D d) put.act ∷ put.before =
      is ∙ ap (λ y. front ++ y) (p.is ∙ ap (λ y. p.later ++ Hand (D d) at p.number m ∷ y) put.is
      ∙ sym (append_assoc p.later (Hand (D d) at p.number m ∷ put.later) (Does (D d) put.act ∷ put.before)))
      ∙ sym (append_assoc front last (Does (D d) put.act ∷ put.before)) in
      (head_known (front ++ last) put.before (Does (D d) put.act) b.class b.txn.0 b.attempt d.0 b.ts b.of b.conds b.uses whole b.head_is).at_module

  -- and a NULL answers an ASK
  pass_known : (later : Log) (c : ℕ) (class : ClassNo) (dm : DmNo) (time : Ts) (sends : List (Site × Msg)) (before : Log) (d : DmNo)
      → OfModule later c (Pass class dm time) sends before d → dm ≡ d → IsKnown (Pass class dm time)
  pass_known later c class dm time sends before d is e =
      let a : Entry = Does (D d) (Records c (Pass class dm time) sends) in
      let x = passing (setting_of g (D d)) (local_of g (D d) before) c class dm time sends (step_of later c (Pass class dm time) sends before d is) in
      let hb : IsPermitted g before = (act_permitted later c (Pass class dm time) sends before d is).1 in
      let p = head_put g c d before (Null x.no x.time) hb x.head_is in
      let b : Entry = Does (home cat c) p.act in
      let now : IsPermitted g (b ∷ p.before) = permitted_before g p.later (b ∷ p.before) (subst (IsPermitted g) p.is hb) in
      let n = sends_null (home_setting g c) (at_home g c p.before) p.act (home_step g c p.before p.act now) d p.place x.no x.time p.there in
      let due : IsDueAt g p.before (home cat c) (Sends (D d) (Null x.no x.time) n.0) = subst (IsDueAt g p.before (home cat c)) n.1
      (allowed_act g p.before b now.0) in
      let w = null_asked g p.before (home cat c) d x.no x.time n.0 (home_runs cat c) due in
      let whole : log ≡ (later ++ a ∷ (p.later ++ b ∷ [])) ++ p.before =
      is ∙ ap (λ y. later ++ a ∷ y) (p.is ∙ sym (append_assoc p.later (b ∷ []) p.before)) ∙ sym (append_assoc later (a ∷ (p.later ++ b ∷ [])) p.before) in
      let at_module : IsModule cat d.0 = asked_known (later ++ a ∷ (p.later ++ b ∷ [])) p.before (home cat c) d w.class w.time w.later w.before whole w.is in
      let class_is : class.0 ≡ c = x.no_is ∙ class_number x.no.0 c x.time.0 p.of_class in
      let within : c < suc (length cat.classes) = x.here in
      let last : c ≤ length cat.classes = omega (arith, within) in
      ((subst (λ (y : DmNo). IsModule cat y.0) (sym e) at_module, subst (IsClass cat) (sym class_is) last), tt)

  -- each record

  of_data : (later : Log) (at : Site) (c : ℕ) (r : Rec) (sends : List (Site × Msg)) (before : Log) → log ≡ later ++ Does at (Records c r sends) ∷ before
      → is_of_run r ≡ false → (d : DmNo) × OfModule later c r sends before d × IsOfData d r
  of_data later at c r sends before is e =
      let x = data_home g at c r sends before (permitted_before g later (Does at (Records c r sends) ∷ before) (subst (IsPermitted g) is h)) e in
      (x.0, subst (λ y. log ≡ later ++ Does y (Records c r sends) ∷ before) x.1 is, x.2)

  not_own : (later : Log) (at : Site) (c : ℕ) (r : Rec) (sends : List (Site × Msg)) (before : Log) → log ≡ later ++ Does at (Records c r sends) ∷ before
      → is_own r ≡ false
  not_own later at c r sends before is =
      none_own g at c r sends before (permitted_before g later (Does at (Records c r sends) ∷ before) (subst (IsPermitted g) is h))

  record_known : (later : Log) (at : Site) (c : ℕ) (r : Rec) (sends : List (Site × Msg)) (before : Log) → log ≡ later ++ Does at (Records c r sends) ∷ before
      → IsKnown r
  record_known later at c (Submit txn) sends before is = let z : true ≡ false = not_own later at c (Submit txn) sends before is in cc
  record_known later at c Nothing sends before is = (tt, tt)
  record_known later at c (Start txn i class ts p2 uses) sends before is = start_known later at c txn i class ts p2 uses sends before is
  record_known later at c (Commit txn i reply changes values rows) sends before is =
      commit_known later at c txn i (record { reply = reply; changes = changes; values = values; rows = rows }) sends before is
  record_known later at c (Arrive txn i dm) sends before is =
      let x = of_data later at c (Arrive txn i dm) sends before is refl in arrive_known later c txn i dm sends before x.0 x.1 x.2
  record_known later at c (Wait txn i dm ds) sends before is =
      let x = of_data later at c (Wait txn i dm ds) sends before is refl in wait_known later c txn i dm ds sends before x.0 x.1 x.2
  record_known later at c (Answer txn i dm) sends before is =
      let x = of_data later at c (Answer txn i dm) sends before is refl in answer_known later c txn i dm sends before x.0 x.1 x.2
  record_known later at c (Rejected txn i dm by write) sends before is =
      let x = of_data later at c (Rejected txn i dm by write) sends before is refl in reject_known later c txn i dm by write sends before x.0 x.1 x.2
  record_known later at c (Apply txn class dm ts) sends before is =
      let x = of_data later at c (Apply txn class dm ts) sends before is refl in apply_known later c txn class dm ts sends before x.0 x.1 x.2
  record_known later at c (Pass class dm time) sends before is =
      let x = of_data later at c (Pass class dm time) sends before is refl in pass_known later c class dm time sends before x.0 x.1 x.2

  abbrev AllKnown : History → Type 0
  AllKnown l = AllByRecursion (λ e. IsKnown e.1) l

  known_till : (later before : Log) → log ≡ later ++ before → AllKnown (history before)
  known_till later [] is = tt
  known_till later (e ∷ before) is =
      subst AllKnown (sym (history_step e before)) (all_join (λ e. IsKnown e.1) (history before) (recorded (marks before) (record_of e))
      (known_till (later ++ e ∷ []) before (is ∙ sym (append_assoc later (e ∷ []) before))) (grind (arith, submitted_known, record_known)))

  all_exist : (l : History) → AllKnown l → AllByRecursion (λ e. ExistsIn cat e.1) l
  all_exist [] k = tt
  all_exist (e ∷ l) k = (k.0.0, all_exist l k.1)

  all_named : (l : History) → AllKnown l → AllByRecursion (λ e. NamesOneOf (length g.txns) e.1) l
  all_named [] k = tt
  all_named (e ∷ l) k = (k.0.1, all_named l k.1)

  pub numbers_exist : NumbersExist cat (history log)
  numbers_exist = All-from_recursion (λ e. ExistsIn cat e.1) (history log) (all_exist (history log) (known_till [] log refl))

  pub txns_exist : TxnsExist (length g.txns) (history log)
  txns_exist = All-from_recursion (λ e. NamesOneOf (length g.txns) e.1) (history log) (all_named (history log) (known_till [] log refl))
