-- What is known of a lawful log, in the order of which the law of eras follows.
use Rattle.sdd_progress.proofs.All.{AreNumbered, Bases, Catalogue, Committed, Did, Entry, HasCommit, HasSoundData, HasSoundLists, Input, IsCommitted, IsIdleAtRedeclares, IsLawful, IsPermitted, IsSoundCatalogue, IsSoundInput, IsUpAtRedeclares, KeepsApplies, KeepsStarts, KeepsUndeclared, List, Log, Rec, RelNo, Row, Some, StartedBefore, SubmitGiven, [], ap, append_assoc, arith, commit_act, committed_here, eras_begun, eras_of, event_at, event_there, filter_map, history, is_committed, keeps_answers, keeps_applies, keeps_starts, lawful_numbered, lawful_permitted, length, marks, one_place, record_of, redeclares, suc, sym, true, undeclared, ℕ, ◌++◌, ◌<◌, ◌∙◌, ◌∷◌, ◌≡◌}
use Rattle.sdd_progress.proofs.ErasOf.{are_eras_of, begun_is}
use Rattle.sdd_progress.proofs.IdleAtRedeclares.{idle_at_redeclares}
use Rattle.sdd_obligations.specs.site_module.SiteLog as site
use Rattle.sdd_obligations.specs.attempt.Attempts as attempts

pub record Known (g : Input) (log : Log) : Type 0 where
  pub sound : IsSoundCatalogue g.catalogue
  pub lawful : IsLawful g log
  pub permitted : IsPermitted g log
  pub lists : HasSoundLists g log
  pub idle : IsIdleAtRedeclares g log
  pub numbered : AreNumbered g log
  pub starts : KeepsStarts g.catalogue (eras_of g log) g.txns (history log)
  pub after_start : (n number k : ℕ) → HasCommit (history log) n number k → StartedBefore (history log) n number k
  pub applies : KeepsApplies g.catalogue (history log)
  pub alone : KeepsUndeclared g.catalogue (history log)

pub known : (g : Input) (rows : List (RelNo × Row)) (log : Log) → IsSoundInput g → HasSoundData g rows → SubmitGiven g → IsLawful g log
    → HasSoundLists g log → IsUpAtRedeclares g log → Known g log
known g rows log sound fine submits lawful lists up =
    let h = lawful_permitted g log submits.once lawful in
    let are = are_eras_of g log lists in
    record {
      sound = sound.catalogue;
      lawful = lawful;
      permitted = h;
      lists = lists;
      idle = idle_at_redeclares g log submits.once lawful lists up;
      numbered = lawful_numbered g log submits lawful;
      starts = keeps_starts g log (eras_of g log) sound.catalogue h are;
      after_start = (keeps_answers g rows (eras_of g log) log sound.catalogue fine h are).commit_after;
      applies = keeps_applies g log sound.catalogue h;
      alone = undeclared g rows (eras_of g log) log sound.catalogue fine h are;
    }

-- a committed transaction started before its Commit
pub started_before : (g : Input) (log : Log) → Known g log → (x : Committed) → IsCommitted (history log) x → x.start.place < x.place
started_before g log w x c =
    let b = w.after_start x.start.txn x.start.number x.place
    (record { reply = x.reply; changes = x.changes; values = x.values; rows = x.rows; is_recorded = c.committed }) in
    let l = b.before in omega (arith, (one_place g log w.sound w.permitted b.attempt x.start b.started c.started b.txn_is b.number_is), l)

-- how many eras have begun at a record
pub begun_at : (g : Input) (log : Log) (e : Entry) (r : Rec) (later before : Log) (place : ℕ) → record_of e ≡ Some r → log ≡ later ++ e ∷ before
    → length (history before) ≡ place → eras_begun (eras_of g log) (event_at (history log) place) ≡ suc (redeclares before)
begun_at g log e r later before place makes is place_is =
    let event : event_at (history log) place ≡ marks before =
    ap (event_at (history log)) (sym place_is) ∙ ap (λ l. event_at (history l) (length (history before))) is ∙ event_there later e before r makes in
    ap (eras_begun (eras_of g log)) event ∙ begun_is g log (later ++ e ∷ []) before (is ∙ sym (append_assoc later (e ∷ []) before))

-- a Commit commits
pub commit_done : (cat : Catalogue) (bases : Bases) (k : ℕ) (a : attempts.Attempt) (before : site.Log)
    → is_committed k a.txn (Did (commit_act cat bases k a) ∷ before) ≡ true
commit_done cat bases k a before = grind (arith, committed_here, filter_map)
