-- Where a class list was put in force: all that was submitted before is committed and applied there.
use Rattle.sdd_progress.proofs.All.{AllCommitted, AppliedBefore, AreNumbered, Commit, Committed, GoesTo, HasCommit, HasSoundLists, History, Input, IsAttempt, IsCommitted, IsIdle, IsLawful, IsQuiet, IsRecordAt, IsSubmitted, Log, Redeclares, Some, [], ap, append_assoc, applied_before, arith, class_no, committed_in, dm_no, eras_of, goes_module, goes_some, history, history_grows, length, next, redeclares, refl, start_in, start_within, subst, sym, time_at, txn_no, ℕ, ◌++◌, ◌<◌, ◌∙◌, ◌∷◌, ◌≡◌}
use Rattle.sdd_progress.proofs.Applied.{all_applied}
use Rattle.sdd_progress.proofs.Committed.{all_committed}
use Rattle.sdd_progress.proofs.ErasOf.{are_eras_of}
use Rattle.sdd_progress.proofs.Finished.{finished}
use Rattle.sdd_progress.proofs.SinceRedeclare.{redeclares_back}
use Rattle.sdd_progress.proofs.Fronts.{recorded_front, recorded_more, recorded_within}
use Rattle.sdd_progress.proofs.Known.{Known, started_before}
use Rattle.sdd_progress.proofs.Still.{module_up, still_of}

pub next_at_redeclare : (g : Input) (log later mid : Log) (t : ℕ) → IsLawful g log → log ≡ later ++ Redeclares t ∷ mid → next g mid ≡ Some (Redeclares t)
next_at_redeclare g log later mid t h is = lawful_at later (subst (IsLawful g) is h)
  where
    lawful_at : (l : Log) → IsLawful g (l ++ Redeclares t ∷ mid) → next g mid ≡ Some (Redeclares t)
    lawful_at [] k = k.0
    lawful_at (x ∷ l) k = lawful_at l k.1

numbered_before : (g : Input) (log other mid : Log) → log ≡ other ++ mid → AreNumbered g log → AreNumbered g mid
numbered_before g log other mid is numbered later before n e =
    numbered (other ++ later) before n (is ∙ ap (λ z. other ++ z) e ∙ sym (append_assoc other later _))

lists_before : (g : Input) (log other mid : Log) → log ≡ other ++ mid → HasSoundLists g log → HasSoundLists g mid
lists_before g log other mid is lists k l =
    let b = redeclares_back other mid in let e : redeclares log ≡ redeclares (other ++ mid) = ap redeclares is in
    lists k (omega (arith, l, b, e))

-- what is known there
pub record IsRest (g : Input) (log mid : Log) : Type 0 where
  pub other : Log
  pub time : ℕ
  pub is : log ≡ other ++ Redeclares time ∷ mid
  pub quiet : IsQuiet g mid
  pub idle : IsIdle g mid
  pub lists : HasSoundLists g mid
  pub all : AllCommitted (history mid)
  pub more : History
  pub history_is : history log ≡ history mid ++ more

module _ (g : Input) (log : Log) (w : Known g log) where
  pub rest : (other mid : Log) (time : ℕ) → log ≡ other ++ Redeclares time ∷ mid → IsRest g log mid
  rest other mid time is =
      let x = w.idle other mid time is in
      let parts : log ≡ (other ++ Redeclares time ∷ []) ++ mid = is ∙ sym (append_assoc other (Redeclares time ∷ []) mid) in
      let t = lists_before g log (other ++ Redeclares time ∷ []) mid parts w.lists in
      let grows = history_grows (other ++ Redeclares time ∷ []) mid in
      record {
        other = other;
        time = time;
        is = is;
        quiet = x.0;
        idle = x.1;
        lists = t;
        all = all_committed g mid x.0.permitted t (numbered_before g log (other ++ Redeclares time ∷ []) mid parts w.numbered) (finished g mid x.0 w.sound x.1);
        more = grows.0;
        history_is = ap history parts ∙ grows.1;
      }

  -- the Commit of what was submitted before
  pub commit_there : (mid : Log) (r : IsRest g log mid) (n k : ℕ) → IsSubmitted (history mid) n k
      → (number : ℕ) × (place : ℕ) × (place < length (history mid)) × HasCommit (history log) n number place
  commit_there mid r n k s =
      let c = r.all n k s in (grind (arith, recorded_within, history, txn_no, recorded_more))

  -- so a transaction that was submitted before it is committed before it
  pub committed_by : (mid : Log) (r : IsRest g log mid) (n k : ℕ) → IsSubmitted (history mid) n k → (x : Committed) → IsCommitted (history log) x
      → x.start.txn ≡ n
      → x.place < length (history mid)
  committed_by mid r n k s x c e =
      let there = commit_there mid r n k s in
      let own : HasCommit (history log) n x.start.number x.place = record {
        reply = x.reply;
        changes = x.changes;
        values = x.values;
        rows = x.rows;
        is_recorded = subst (λ m. IsRecordAt (history log) x.place (Commit (txn_no m) x.start.number x.reply x.changes x.values x.rows)) e c.committed;
      } in
      omega (arith, there.2, w.starts.one_commit n there.0 x.start.number there.1 x.place there.3 own)

  -- and applied wherever it is to be
  pub applied_by : (mid : Log) (r : IsRest g log mid) (x : Committed) (d : ℕ) → IsCommitted (history log) x → x.place < length (history mid)
      → GoesTo g.catalogue x d → AppliedBefore (history log) x.start.txn d (length (history mid))
  applied_by mid r x d c l goes =
      let before = started_before g log w x c in
      let ct : IsCommitted (history mid) x = record {
        started = recorded_front (history mid) r.more x.start.place _ (omega (arith, l, before)) (subst (λ z. IsAttempt z x.start) r.history_is c.started);
        committed = grind (arith, recorded_front, history, txn_no);
      } in
      let t = committed_in g mid x w.sound r.quiet.permitted ct in
      let are = are_eras_of g mid r.lists in
      let within = start_within g mid (eras_of g mid) x.start are (start_in g mid x.start w.sound r.quiet.permitted ct.started) in
      let m = goes_module g.catalogue w.sound x d goes in
      let applied = all_applied g mid x.start.class d t.later t.before t.bases t.running (still_of g mid r.quiet) w.sound within m (module_up g mid d r.quiet m)
      (r.idle.processed x.start.class d within m) t.is (goes_some g mid x t d goes) in
      let a = subst (λ n. AppliedBefore (history mid) n d (length (history mid))) t.txn_is
      (applied_before g mid [] mid (dm_no d) x.start.class t.running refl r.quiet.permitted applied) in
      record {
        place = a.place;
        applied = grind (arith, txn_no, class_no, dm_no, time_at, recorded_more, history);
        before = a.before;
      }
