-- A committed transaction of a history, as the Commit of an active attempt; and what makes one of each.
use Rattle.sdd_lawful.proofs.All.{Act, Attempt, Bases, Change, Commit, Committed, Does, Each, Effect, Input, IsAttempt, IsCommitted, IsFair, IsMadeAt, IsPermitted, IsRecordAt, IsSoundCatalogue, IsStep, List, Log, Records, Reply, Running, Setting, Some, TxnNo, active, ap, arith, commit_act, effect, history, home, home_fair, length, one_active, one_attempt, one_of_txn, one_start, own_act, permitted_before, refl, same_start, says_at, sends_of_act, step_way, subst, sym, txn_at, txn_no, uses_of, ℕ, ◌++◌, ◌∙◌, ◌∷◌, ◌≡◌}
use Rattle.sdd_lawful.proofs.Classes.{at_home, home_setting}
use Rattle.sdd_lawful.proofs.Commits.{CommitContent, IsCommitIn, begun, commit_class, commit_in, commit_rec, one_commit}
use Rattle.sdd_lawful.proofs.Counted.{numbered}
use Rattle.sdd_lawful.proofs.Homes.{home_small}
use Rattle.sdd_lawful.proofs.Places.{recorded_there}
use Rattle.sdd_invariants.specs.site_module.SiteLog as site

-- of one transaction and number there is one attempt
pub one_place : (g : Input) (log : Log) → IsSoundCatalogue g.catalogue → IsPermitted g log → (a b : Attempt) → IsAttempt (history log) a
    → IsAttempt (history log) b → a.txn ≡ b.txn → a.number ≡ b.number → a.place ≡ b.place
one_place g log sound h a b s t e f = one_start (history log) (numbered g log sound h) a b s t e f

pub same_attempt : (g : Input) (log : Log) → IsSoundCatalogue g.catalogue → IsPermitted g log → (a b : Attempt) → IsAttempt (history log) a
    → IsAttempt (history log) b → a.txn ≡ b.txn → a.number ≡ b.number → a ≡ b
same_attempt g log sound h a b s t e f = one_attempt a b (same_start (history log) a b s t (one_place g log sound h a b s t e f))

-- of one transaction one is committed
pub same_committed : (g : Input) (log : Log) → IsSoundCatalogue g.catalogue → IsPermitted g log → (t u : Committed)
    → IsCommitted (history log) t → IsCommitted (history log) u → t.start.txn ≡ u.start.txn → t ≡ u
same_committed g log sound h t u c d e = one_of_txn (history log) (one_commit g log sound h) (one_place g log sound h) t u c d e

-- the act of a Commit
pub record IsOfRunning (s : Setting) (log : site.Log) (k : ℕ) (txn : TxnNo) (attempt : ℕ) (reply : Reply) (changes : List Change) (act : Act) : Type 0 where
  pub running : Running
  pub bases : Bases
  pub active_is : active s k log ≡ Some running
  pub act_is : act ≡ commit_act s.catalogue bases k running
  pub txn_is : txn ≡ txn_no running.txn
  pub number_is : attempt ≡ running.attempt
  pub reply_is : reply ≡ (effect s.catalogue (bases running.ts) running.text).reply
  pub changes_are : changes ≡ (effect s.catalogue (bases running.ts) running.text).changes

abbrev OfRunning : Setting → site.Log → Act → Type 0
OfRunning s log (Records k (Commit txn attempt reply changes values rows) sends) =
    IsOfRunning s log k txn attempt reply changes (Records k (Commit txn attempt reply changes values rows) sends)
OfRunning s log act = Unit {0}

of_running : (s : Setting) (log : site.Log) (act : Act) → IsStep s log act → OfRunning s log act
of_running s log act i = grind (arith, step_way, OfRunning)

pub home_step : (g : Input) (c : ℕ) (log : Log) (act : Act) → IsPermitted g (Does (home g.catalogue c) act ∷ log)
    → IsStep (home_setting g c) (at_home g c log) act
home_step g c log act h =
    (subst (λ l. Each (IsFair (home_setting g c)) l) (own_act g (home g.catalogue c) act log) (home_fair g c (Does (home g.catalogue c) act ∷ log) h)).0

pub record IsCommittedIn (g : Input) (log : Log) (t : Committed) : Type 0 where
  pub later : Log
  pub before : Log
  pub bases : Bases
  pub running : Running
  pub is : log ≡ later ++ Does (home g.catalogue t.start.class) (commit_act g.catalogue bases t.start.class running) ∷ before
  pub place_is : length (history before) ≡ t.place
  pub permitted : IsPermitted g (Does (home g.catalogue t.start.class) (commit_act g.catalogue bases t.start.class running) ∷ before)
  pub active_is : active (home_setting g t.start.class) t.start.class (at_home g t.start.class before) ≡ Some running
  pub txn_is : running.txn ≡ t.start.txn
  pub number_is : running.attempt ≡ t.start.number
  pub ts_is : running.ts ≡ t.start.ts
  pub text_is : txn_at g t.start.txn ≡ Some running.text
  pub uses_are : t.start.uses ≡ uses_of g.catalogue running.text
  pub reply_is : t.reply ≡ (effect g.catalogue (bases running.ts) running.text).reply
  pub changes_are : t.changes ≡ (effect g.catalogue (bases running.ts) running.text).changes

pub committed_in : (g : Input) (log : Log) (t : Committed) → IsSoundCatalogue g.catalogue → IsPermitted g log → IsCommitted (history log) t → IsCommittedIn g log t
committed_in g log t sound h c =
    let content : CommitContent = record { reply = t.reply; changes = t.changes; values = t.values; rows = t.rows } in
    let x = commit_in g log t.start.txn t.start.number t.place content sound h c.committed in
    let b = begun g log t.start.txn t.start.number t.place content x in
    let act : Act = Records x.class (commit_rec t.start.txn t.start.number content) x.sends in
    let r : IsOfRunning (home_setting g x.class) (at_home g x.class x.before) x.class (txn_no t.start.txn) t.start.number t.reply t.changes act = of_running
    (home_setting g x.class) (at_home g x.class x.before) act (home_step g x.class x.before act x.permitted) in
    let now : x.says.now ≡ r.running = one_active (home_setting g x.class) x.class
    (at_home g x.class x.before) x.says.now r.running x.says.active_is r.active_is in
    let start : t.start ≡ b.attempt = same_attempt g log sound h t.start b.attempt c.started b.started (sym b.txn_is) (sym b.number_is) in
    let ts : r.running.ts ≡ t.start.ts = ap (λ (y : Running). y.ts) (sym now) ∙ sym b.ts_is ∙ ap (λ (y : Attempt). y.ts) (sym start) in
    (grind (arith, home_setting, at_home, sym (commit_class g log t.start.txn t.start.number t.place content x t.start sound h c.started refl)))

abbrev pub committed_made : (g : Input) (log : Log) (t : Committed) (x : IsCommittedIn g log t)
    → IsMadeAt log t.place
    (Commit (txn_no x.running.txn) x.running.attempt (effect g.catalogue (x.bases x.running.ts) x.running.text).reply
    (effect g.catalogue (x.bases x.running.ts) x.running.text).changes x.running.exchange.values x.running.exchange.rows)
committed_made g log t x =
    record { later = x.later; entry = Does (home g.catalogue t.start.class) (commit_act g.catalogue x.bases t.start.class x.running); before = x.before; is = x.is; makes = refl; place_is = x.place_is }

-- a Commit in the log is one of the history
pub record IsCommitOfLog (g : Input) (log : Log) (class : ℕ) (bases : Bases) (running : Running) (before : Log) : Type 0 where
  pub committed : Committed
  pub is_committed : IsCommitted (history log) committed
  pub txn_is : committed.start.txn ≡ running.txn
  pub number_is : committed.start.number ≡ running.attempt
  pub class_is : committed.start.class ≡ class
  pub ts_is : committed.start.ts ≡ running.ts
  pub place_is : committed.place ≡ length (history before)
  pub changes_are : committed.changes ≡ (effect g.catalogue (bases running.ts) running.text).changes

abbrev pub commit_content : Input → Bases → Running → CommitContent
commit_content g bases a =
    let e : Effect = effect g.catalogue (bases a.ts) a.text in
    record { reply = e.reply; changes = e.changes; values = a.exchange.values; rows = a.exchange.rows }

pub commit_of_log : (g : Input) (log later before : Log) (class : ℕ) (bases : Bases) (running : Running) → IsSoundCatalogue g.catalogue
    → IsPermitted g log → log ≡ later ++ Does (home g.catalogue class) (commit_act g.catalogue bases class running) ∷ before
    → active (home_setting g class) class (at_home g class before) ≡ Some running → IsCommitOfLog g log class bases running before
commit_of_log g log later before class bases running sound h is active_is =
    let act : Act = commit_act g.catalogue bases class running in
    let content : CommitContent = commit_content g bases running in
    let now : IsPermitted g (Does (home g.catalogue class) act ∷ before) =
    permitted_before g later (Does (home g.catalogue class) act ∷ before) (subst (IsPermitted g) is h) in
    let x : IsCommitIn g log running.txn running.attempt (length (history before)) content =
    record {
      class = class;
      later = later;
      sends = sends_of_act act;
      before = before;
      is = is;
      place_is = refl;
      permitted = now;
      says = says_at g class before act now (omega (arith, home_small g.catalogue sound class));
    } in
    let b = begun g log running.txn running.attempt (length (history before)) content x in
    let there : IsRecordAt (history log) (length (history before)) (commit_rec running.txn running.attempt content) = subst
    (λ l. IsRecordAt (history l) (length (history before)) (commit_rec running.txn running.attempt content)) (sym is)
    (recorded_there later (Does (home g.catalogue class) act) before (commit_rec running.txn running.attempt content) refl) in
    let named : IsRecordAt (history log) (length (history before)) (commit_rec b.attempt.txn b.attempt.number content) = subst
    (λ n. IsRecordAt (history log) (length (history before)) (commit_rec b.attempt.txn n content)) (sym b.number_is)
    (subst (λ n. IsRecordAt (history log) (length (history before)) (commit_rec n running.attempt content)) (sym b.txn_is) there) in
    record {
      committed = record {
        start = b.attempt;
        reply = content.reply;
        changes = content.changes;
        values = content.values;
        rows = content.rows;
        place = length (history before);
      };
      is_committed = record { started = b.started; committed = named };
      txn_is = b.txn_is;
      number_is = b.number_is;
      class_is = b.class_is;
      ts_is = b.ts_is ∙ ap (λ (y : Running). y.ts) (one_active (home_setting g class) class (at_home g class before) x.says.now running x.says.active_is active_is);
      place_is = refl;
      changes_are = refl;
    }
