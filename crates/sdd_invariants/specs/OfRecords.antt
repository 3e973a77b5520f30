-- The records of a site that runs transactions.
use Rattle.std.specs.Prelude.{ℕ, ◌++◌, ◌<◌, ◌==◌, ◌∷◌, ◌≡◌, Bool, List, None, Option, Some, [], false, slice_get, suc, take, true}
use Rattle.sdd_log.specs.All.{Act, Attempt, Bases, Change, ClassNo, Commit, Did, Entry, Queued, Records, Sends, Setting, Start, Submits, Ts, Txn, TxnNo, Use, active, commit_act, current_era, effect, head_of, is_for, p2_of, queue, uses_of}
use Rattle.sdd_log.specs.site_module.SiteLog.{Log}
use Rattle.sdd_invariants.specs.Orders.{AllLe, AllLt}
use Rattle.sdd_invariants.specs.Steps.{bound, home, is_committed, next_stamp, promises, stamps, start_at, starts_of, submits_of}

-- a Start's act and a Commit's act
pub record IsStartOf (s : Setting) (log : Log) (act : Act) (c : ℕ) : Type 0 where
  pub at_home : home s.catalogue c ≡ s.site
  pub idle : active s c log ≡ None
  pub queued : Queued
  pub head : head_of (queue s c log) ≡ Some queued
  pub act_is : act ≡ start_at s c log queued

pub record IsCommitOf (s : Setting) (log : Log) (act : Act) (c : ℕ) : Type 0 where
  pub at_home : home s.catalogue c ≡ s.site
  pub attempt : Attempt
  pub active_is : active s c log ≡ Some attempt
  pub bases : Bases
  pub act_is : act ≡ commit_act s.catalogue bases c attempt

abbrev pub IsRecord : Setting → Log → Act → Type 0
IsRecord s log (Records k (Start txn attempt c ts p2 us) sends) =
    IsStartOf s log (Records k (Start txn attempt c ts p2 us) sends) k
IsRecord s log (Records k (Commit txn attempt reply changes values rows) sends) =
    IsCommitOf s log (Records k (Commit txn attempt reply changes values rows) sends) k
IsRecord s log (Records k _ sends) = ⊥
IsRecord s log (Sends to m hand) = Unit {0}

-- no act of the class is recorded here
abbrev pub is_recorded : ℕ → Entry → Bool
is_recorded c (Did (Records k r sends)) = k == c
is_recorded c _ = false

abbrev pub NoRecord : ℕ → Log → Type 0
NoRecord c [] = Unit {0}
NoRecord c (e ∷ log) = (is_recorded c e ≡ false) × NoRecord c log

-- the last Start of a class
pub record HasStart (s : Setting) (c : ℕ) (log : Log) (n k ts : ℕ) (text : Txn) : Type 0 where
  pub later : Log
  pub before : Log
  pub queued : Queued
  pub is : log ≡ later ++ Did (start_at s c before queued) ∷ before
  pub none_since : NoRecord c later
  pub at_home : home s.catalogue c ≡ s.site
  pub idle : active s c before ≡ None
  pub head : head_of (queue s c before) ≡ Some queued
  pub number_is : n ≡ queued.number
  pub try_is : k ≡ suc queued.tries
  pub text_is : text ≡ queued.text
  pub ts_is : ts ≡ next_stamp s before

-- what the queue's head is: submitted, not committed, and all that were submitted to the class before it are
abbrev pub AllCommitted : ℕ → Log → List (ℕ × Txn) → Type 0
AllCommitted c log [] = Unit {0}
AllCommitted c log (x ∷ xs) = (is_committed c x.0 log ≡ true) × AllCommitted c log xs

pub record IsFirstLeft (c : ℕ) (log : Log) (xs : List (ℕ × Txn)) (q : Queued) : Type 0 where
  pub place : ℕ
  pub number : ℕ
  pub text : Txn
  pub there : slice_get xs place ≡ Some (number, text)
  pub number_is : q.number ≡ number
  pub text_is : q.text ≡ text
  pub not_committed : is_committed c q.number log ≡ false
  pub tries_are : q.tries ≡ starts_of c q.number log
  pub before_it : AllCommitted c log (take place xs)

-- a transaction that stands among those submitted to a class: it was given to the site while its class was that one,
-- and the ones before it in the list were submitted before it
pub record WasSubmitted (s : Setting) (c : ℕ) (log : Log) (place n : ℕ) (text : Txn) : Type 0 where
  pub later : Log
  pub before : Log
  pub is : log ≡ later ++ Submits n text ∷ before
  pub of_class : is_for c (current_era s before).catalogue text ≡ true
  pub earlier : submits_of s c before ≡ take place (submits_of s c log)

-- What a Start says: its transaction was given to its class, and all that were given to the class before it are
-- committed; it has the transaction's uses; its number of attempt counts the Starts before it, and no Commit stands
-- before it; its timestamp is above all of the site before it, and its time of P2, which is below it, is not below any of
-- these or below what the site promised.
pub record IsStartRecord (s : Setting) (log : Log) (k : ℕ) (txn : TxnNo) (attempt : ℕ) (c : ClassNo) (ts : Ts) (p2 : Option Ts) (us : List Use) : Type 0 where
  pub at_home : home s.catalogue k ≡ s.site
  pub class_is : c.0 ≡ k
  pub text : Txn
  pub place : ℕ
  pub submitted : WasSubmitted s k log place txn.0 text
  pub before_it : AllCommitted k log (submits_of s k submitted.before)
  pub uses_are : us ≡ uses_of s.catalogue text
  pub not_committed : is_committed k txn.0 log ≡ false
  pub attempt_is : attempt ≡ suc (starts_of k txn.0 log)
  pub ts_is : ts.0 ≡ next_stamp s log
  pub above_stamps : AllLt ts.0 (stamps log)
  pub p2_is : p2 ≡ p2_of k (bound s log)
  pub p2_below : bound s log < ts.0
  pub p2_above_stamps : AllLe (bound s log) (stamps log)
  pub p2_above_promises : AllLe (bound s log) (promises log)

-- What a Commit says: it is the first of its transaction, by its last attempt, whose Start stands before it; its changes
-- are those of the transaction's effect.
pub record IsCommitRecord (s : Setting) (log : Log) (k : ℕ) (txn : TxnNo) (attempt : ℕ) (changes : List Change) : Type 0 where
  pub at_home : home s.catalogue k ≡ s.site
  pub now : Attempt
  pub active_is : active s k log ≡ Some now
  pub number_is : txn.0 ≡ now.txn
  pub try_is : attempt ≡ now.attempt
  pub bases : Bases
  pub changes_are : changes ≡ (effect s.catalogue (bases now.ts) now.text).changes
  pub start : HasStart s k log txn.0 attempt now.ts now.text
  pub first : is_committed k txn.0 log ≡ false
  pub last_try : attempt ≡ starts_of k txn.0 log

abbrev pub Says : Setting → Log → Act → Type 0
Says s log (Records k (Start txn attempt c ts p2 us) sends) = IsStartRecord s log k txn attempt c ts p2 us
Says s log (Records k (Commit txn attempt reply changes values rows) sends) = IsCommitRecord s log k txn attempt changes
Says s log (Records k _ sends) = ⊥
Says s log (Sends to m hand) = Unit {0}
