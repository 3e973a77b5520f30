-- What the log of a site that runs transactions says of an act in it: of the timestamps, promises, Commits and
-- submissions.
use Rattle.sdd_lawful.proofs.All.{Act, AllCommitted, AllLe, AllLt, Bool, Change, ClassNo, Commit, Did, List, Msg, Option, Records, Reply, Setting, Site, SiteLog as Log, Some, Start, Submits, Ts, Txn, TxnNo, Use, [], and_left, and_right, ap, arith, at_seam, commit_more, current_era, eqb-true, if_way, in_left, in_right, inl, inr, is_committed, is_for, length, only_right, or_left, or_right, promises, refl, same_number, slice_get, stamps, start_more, starts_of, submits_of, subst, suc, sym, true, true_or_false, zero, ℕ, ◌&&◌, ◌++◌, ◌<◌, ◌==◌, ◌∷◌, ◌≡◌, ◌≤◌}
use Rattle.sdd_invariants.specs.site_module.SiteLog as site

pub below_at : (k : ℕ) (xs : List ℕ) (i x : ℕ) → AllLt k xs → slice_get xs i ≡ Some x → x < k
below_at k [] i x h e = cc
below_at k (y ∷ xs) zero x h e = let p : y ≡ x = cc in let l = h.0 in omega arith
below_at k (y ∷ xs) (suc i) x h e = below_at k xs i x h.1 e

pub most_at : (k : ℕ) (xs : List ℕ) (i x : ℕ) → AllLe k xs → slice_get xs i ≡ Some x → x ≤ k
most_at k [] i x h e = cc
most_at k (y ∷ xs) zero x h e = let p : y ≡ x = cc in let l = h.0 in omega arith
most_at k (y ∷ xs) (suc i) x h e = most_at k xs i x h.1 e

-- the timestamp of a Start, and its time of P2

pub stamp_in : (later before : Log) (k : ℕ) (txn : TxnNo) (attempt : ℕ) (c : ClassNo) (ts : Ts) (p2 : Option Ts) (us : List Use) (sends : List (Site × Msg))
    → (i : ℕ) × (slice_get (stamps (later ++ Did (Records k (Start txn attempt c ts p2 us) sends) ∷ before)) i ≡ Some ts.0)
stamp_in [] before k txn attempt c ts p2 us sends = (0, refl)
stamp_in (Did act ∷ later) before k txn attempt c ts p2 us sends = let i = stamp_in later before k txn attempt c ts p2 us sends in in_right _ _ i.0 ts.0 i.1
stamp_in (_ ∷ later) before k txn attempt c ts p2 us sends = stamp_in later before k txn attempt c ts p2 us sends

pub promise_in : (later before : Log) (k : ℕ) (txn : TxnNo) (attempt : ℕ) (c : ClassNo) (ts : Ts) (p2 : Ts) (us : List Use) (sends : List (Site × Msg))
    → (i : ℕ) × (slice_get (promises (later ++ Did (Records k (Start txn attempt c ts (Some p2) us) sends) ∷ before)) i ≡ Some p2.0)
promise_in [] before k txn attempt c ts p2 us sends = (0, refl)
promise_in (Did act ∷ later) before k txn attempt c ts p2 us sends = let i = promise_in later before k txn attempt c ts p2 us sends in in_right _ _ i.0 p2.0 i.1
promise_in (_ ∷ later) before k txn attempt c ts p2 us sends = promise_in later before k txn attempt c ts p2 us sends

-- Commits

commit_stays : (c n : ℕ) (act : Act) (x : Bool) → x ≡ true → commit_more c n act x ≡ true
commit_stays c n act x h = grind (arith, or_right)

pub committed_later : (c n : ℕ) (later log : Log) → is_committed c n log ≡ true → is_committed c n (later ++ log) ≡ true
committed_later c n [] log h = h
committed_later c n (Did act ∷ later) log h = commit_stays c n act (is_committed c n (later ++ log)) (committed_later c n later log h)
committed_later c n (_ ∷ later) log h = committed_later c n later log h

pub committed_here : (c : ℕ) (before : Log) (txn : TxnNo) (attempt : ℕ) (reply : Reply) (changes : List Change) (values rows : ℕ) (sends : List (Site × Msg))
    → is_committed c txn.0 (Did (Records c (Commit txn attempt reply changes values rows) sends) ∷ before) ≡ true
committed_here c before txn attempt reply changes values rows sends = grind (arith, or_left, same_number)

-- the Commit of a committed transaction
pub record HasCommitAct (c n : ℕ) (log : Log) : Type 0 where
  pub later : Log
  pub txn : TxnNo
  pub attempt : ℕ
  pub reply : Reply
  pub changes : List Change
  pub values : ℕ
  pub rows : ℕ
  pub sends : List (Site × Msg)
  pub before : Log
  pub is : log ≡ later ++ Did (Records c (Commit txn attempt reply changes values rows) sends) ∷ before
  pub number_is : txn.0 ≡ n

commit_more_in : (c n : ℕ) (act : Act) (log : Log) → HasCommitAct c n log → HasCommitAct c n (Did act ∷ log)
commit_more_in c n act log h =
    record { later = Did act ∷ h.later; txn = h.txn; attempt = h.attempt; reply = h.reply; changes = h.changes; values = h.values; rows = h.rows; sends = h.sends; before = h.before; is = ap (λ l. Did act ∷ l) h.is; number_is = h.number_is }

commit_in_act : (c n : ℕ) (act : Act) (log : Log) (x : Bool) → (x ≡ true → HasCommitAct c n log) → commit_more c n act x ≡ true
    → HasCommitAct c n (Did act ∷ log)
commit_in_act c n (Records k (Commit txn attempt reply changes values rows) sends) log x f h =
    elim (true_or_false ((k == c) && (n == txn.0))) [
      | inl p ↦ (let a : k ≡ c = eqb-true k c (and_left (k == c) (n == txn.0) p) in
          let b : n ≡ txn.0 = eqb-true n txn.0 (and_right (k == c) (n == txn.0) p) in
          record { later = []; txn = txn; attempt = attempt; reply = reply; changes = changes; values = values; rows = rows; sends = sends; before = log; is = ap (λ j. Did (Records j (Commit txn attempt reply changes values rows) sends) ∷ log) a; number_is = sym b })
      | inr p ↦ commit_more_in c n (Records k (Commit txn attempt reply changes values rows) sends) log (f (only_right ((k == c) && (n == txn.0)) x p h))
    ]
commit_in_act c n y log x f h = commit_more_in c n y log (f h)

commit_past : (c n : ℕ) (e : site.Entry) (log : Log) → HasCommitAct c n log → HasCommitAct c n (e ∷ log)
commit_past c n e log h =
    record { later = e ∷ h.later; txn = h.txn; attempt = h.attempt; reply = h.reply; changes = h.changes; values = h.values; rows = h.rows; sends = h.sends; before = h.before; is = ap (λ l. e ∷ l) h.is; number_is = h.number_is }

pub commit_act_in : (c n : ℕ) (log : Log) → is_committed c n log ≡ true → HasCommitAct c n log
commit_act_in c n [] h = cc
commit_act_in c n (Did act ∷ log) h = commit_in_act c n act log (is_committed c n log) (λ p. commit_act_in c n log p) h
commit_act_in c n (x ∷ log) h = commit_past c n x log (commit_act_in c n log h)

-- what was submitted to a class

abbrev pair : ℕ → Txn → ℕ × Txn
pair n text = (n, text)

pub submitted_in : (s : Setting) (c n : ℕ) (text : Txn) (later before : Log) → is_for c (current_era s before).catalogue text ≡ true
    → (i : ℕ) × (slice_get (submits_of s c (later ++ Submits n text ∷ before)) i ≡ Some (pair n text))
submitted_in s c n text [] before h = (length (submits_of s c before), rw h (at_seam (submits_of s c before) [] (pair n text)))
submitted_in s c n text (Submits k other ∷ later) before h = grind (arith, in_left, pair, (submitted_in s c n text later before h))
submitted_in s c n text (_ ∷ later) before h = submitted_in s c n text later before h

pub all_committed_at : (c : ℕ) (log : Log) (xs : List (ℕ × Txn)) (i : ℕ) (n : ℕ) (text : Txn) → AllCommitted c log xs
    → slice_get xs i ≡ Some (pair n text) → is_committed c n log ≡ true
all_committed_at c log [] i n text h e = cc
all_committed_at c log (x ∷ xs) zero n text h e = let p : x ≡ pair n text = cc in subst (λ (y : ℕ × Txn). is_committed c y.0 log ≡ true) p h.0
all_committed_at c log (x ∷ xs) (suc i) n text h e = all_committed_at c log xs i n text h.1 e

-- how often a transaction was started

start_more_le : (c n : ℕ) (act : Act) (x y : ℕ) → y ≤ x → y ≤ start_more c n act x
start_more_le c n act x y h = grind (arith, if_way)

starts_later : (c n : ℕ) (later log : Log) → starts_of c n log ≤ starts_of c n (later ++ log)
starts_later c n [] log = omega arith
starts_later c n (Did act ∷ later) log = start_more_le c n act (starts_of c n (later ++ log)) (starts_of c n log) (starts_later c n later log)
starts_later c n (_ ∷ later) log = starts_later c n later log

pub starts_grow : (later before : Log) (c : ℕ) (txn : TxnNo) (attempt : ℕ) (class : ClassNo) (ts : Ts) (p2 : Option Ts) (us : List Use) (sends : List (Site × Msg))
    → starts_of c txn.0 before < starts_of c txn.0 (later ++ Did (Records c (Start txn attempt class ts p2 us) sends) ∷ before)
starts_grow later before c txn attempt class ts p2 us sends = grind (arith, starts_later, same_number)
