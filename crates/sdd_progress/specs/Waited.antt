-- How a READ began to wait: the Wait that its data module made, and what is as it was then.
use Rattle.std.specs.Prelude.{ℕ, ◌++◌, ◌∷◌, ◌≡◌, List, None, Some, filter, false, map, not}
use Rattle.sdd_obligations.specs.invariants.All.{Act, ClassNo, Cond, Did, IsClassHere, Read, Records, Setting, Ts, TxnNo, Use, View, Wait, ask_for, head, home_of, is_met, pipe, spoiler, view_of, waits}
use Rattle.sdd_obligations.specs.site_module.SiteLog.{Log}

-- the conditions that aren't met
abbrev pub lacking : View → List Cond → List Cond
lacking v conds = filter (λ d. not (is_met v d)) conds

-- the Wait of the READ at the head of class c's pipe, which doesn't wait yet and which nothing spoils; with it goes an
-- ASK for each condition that isn't met
pub record IsWaitOf (s : Setting) (log : Log) (c : ℕ) (act : Act) : Type 0 where
  pub ts : Ts
  pub of : ClassNo
  pub txn : TxnNo
  pub attempt : ℕ
  pub conds : List Cond
  pub uses : List Use
  pub here : IsClassHere s c
  pub head_is : head (pipe c log) ≡ Some (Read ts of txn attempt conds uses)
  pub waits_not : waits c log ≡ false
  pub unspoilt : spoiler (view_of s log) conds ≡ None
  pub first : Cond
  pub more : List Cond
  pub lacks : lacking (view_of s log) conds ≡ first ∷ more
  pub act_is : act ≡ Records c (Wait txn attempt (home_of s).dm (first ∷ more)) (map (ask_for (home_of s)) (first ∷ more))

-- since a Wait nothing of the pipe was processed
pub record WaitsSince (s : Setting) (c : ℕ) (log : Log) : Type 0 where
  pub later : Log
  pub act : Act
  pub before : Log
  pub is : log ≡ later ++ Did act ∷ before
  pub wait : IsWaitOf s before c act
  pub same_processed : (pipe c log).processed ≡ (pipe c before).processed
  pub same_head : head (pipe c log) ≡ head (pipe c before)
