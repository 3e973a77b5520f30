-- What an attempt reads at one data module: the copies just before the Answer to it.
use Rattle.sdd_obligations.proofs.All.{Answer, Bool, Did, DmNo, Each, List, Msg, Records, Setting, Site, TxnNo, [], ap, arith, before_answer, dated, false, flat_map, frags_asked, head, inl, inr, is_at, items_of, never, pipe, refl, snapshots, subst, sym, true, ℕ, ◌++◌, ◌∙◌, ◌∷◌, ◌≡◌, ◌⊎◌}
use Rattle.sdd_obligations.proofs.Places.{IsAnswerAt}
use Rattle.sdd_invariants.specs.site_module.SiteLog.{Entry, Log}

-- the Answer that is found: what is read is what the copies hold before it
pub record IsSnapped (s : Setting) (ts : ℕ) (log : Log) : Type 0 where
  pub answer : IsAnswerAt ts log
  pub is : snapshots s ts log ≡ flat_map (items_of s.catalogue (dated s answer.before)) (frags_asked (head (pipe answer.class answer.before)))
  pub before_is : before_answer ts log ≡ answer.before

-- or there is none, and nothing is read
abbrev pub MaySnap : Setting → ℕ → Log → Type 0
MaySnap s ts log = (snapshots s ts log ≡ []) ⊎ IsSnapped s ts log

abbrev pub answer_more : (ts : ℕ) (e : Entry) (log : Log) → IsAnswerAt ts log → IsAnswerAt ts (e ∷ log)
answer_more ts e log h =
    record {
      later = e ∷ h.later;
      class = h.class;
      txn = h.txn;
      attempt = h.attempt;
      dm = h.dm;
      sends = h.sends;
      before = h.before;
      is = ap (λ l. e ∷ l) h.is;
      at = h.at;
    }

snap_more : (s : Setting) (ts : ℕ) (e : Entry) (log : Log) → snapshots s ts (e ∷ log) ≡ snapshots s ts log
    → before_answer ts (e ∷ log) ≡ before_answer ts log → MaySnap s ts log → MaySnap s ts (e ∷ log)
snap_more s ts e log p q (inl none) = inl (p ∙ none)
snap_more s ts e log p q (inr h) = inr (record { answer = answer_more ts e log h.answer; is = p ∙ h.is; before_is = q ∙ h.before_is })

snap_answer : (s : Setting) (ts k : ℕ) (txn : TxnNo) (attempt : ℕ) (dm : DmNo) (sends : List (Site × Msg))
    (log : Log) (b : Bool) → is_at ts (head (pipe k log)) ≡ b → MaySnap s ts log
    → MaySnap s ts (Did (Records k (Answer txn attempt dm) sends) ∷ log)
snap_answer s ts k txn attempt dm sends log true e h =
    inr (record {
      answer = record { later = []; class = k; txn = txn; attempt = attempt; dm = dm; sends = sends; before = log; is = refl; at = e };
      is = rw e refl;
      before_is = rw e refl;
    })
snap_answer s ts k txn attempt dm sends log false e h = snap_more s ts (Did (Records k (Answer txn attempt dm) sends)) log (rw e refl) (rw e refl) h

pub may_snap : (s : Setting) (ts : ℕ) (log : Log) → MaySnap s ts log
may_snap s ts [] = inl refl
may_snap s ts (e ∷ log) = grind (arith, snap_answer, snap_more, (may_snap s ts log))

-- where there is an Answer, one is found
snap_behind : (s : Setting) (ts : ℕ) (e : Entry) (log : Log) → snapshots s ts (e ∷ log) ≡ snapshots s ts log
    → before_answer ts (e ∷ log) ≡ before_answer ts log → IsSnapped s ts log → IsSnapped s ts (e ∷ log)
snap_behind s ts e log p q h = record { answer = answer_more ts e log h.answer; is = p ∙ h.is; before_is = q ∙ h.before_is }

snap_there : (s : Setting) (ts k : ℕ) (txn : TxnNo) (attempt : ℕ) (dm : DmNo) (sends : List (Site × Msg))
    (log : Log) (b : Bool) → is_at ts (head (pipe k log)) ≡ b → (b ≡ false → IsSnapped s ts log)
    → IsSnapped s ts (Did (Records k (Answer txn attempt dm) sends) ∷ log)
snap_there s ts k txn attempt dm sends log true e h =
    record {
      answer = record { later = []; class = k; txn = txn; attempt = attempt; dm = dm; sends = sends; before = log; is = refl; at = e };
      is = rw e refl;
      before_is = rw e refl;
    }
snap_there s ts k txn attempt dm sends log false e h = snap_behind s ts (Did (Records k (Answer txn attempt dm) sends)) log (rw e refl) (rw e refl) (h refl)

module _ (s : Setting) (ts : ℕ) (k : ℕ) (txn : TxnNo) (attempt : ℕ) (dm : DmNo) (sends : List (Site × Msg))
    (before : Log) (at : is_at ts (head (pipe k before)) ≡ true) where
  pub snapped_behind : (later : Log) → IsSnapped s ts (later ++ Did (Records k (Answer txn attempt dm) sends) ∷ before)
  snapped_behind [] = snap_there s ts k txn attempt dm sends before (is_at ts (head (pipe k before))) refl (λ no. never (is_at ts (head (pipe k before))) at no)
  snapped_behind (Did (Records c (Answer t a m) ss) ∷ later) =
      snap_there s ts c t a m ss _ (is_at ts (head (pipe c (later ++ Did (Records k (Answer txn attempt dm) sends) ∷ before)))) refl
      (λ no. snapped_behind later)
  snapped_behind (Did (Records c _ ss) ∷ later) = snap_behind s ts _ _ refl refl (snapped_behind later)
  snapped_behind (x ∷ later) = snap_behind s ts x _ refl refl (snapped_behind later)

pub snapped : (s : Setting) (ts : ℕ) (log : Log) → IsAnswerAt ts log → IsSnapped s ts log
snapped s ts log h = subst (IsSnapped s ts) (sym h.is) (snapped_behind s ts h.class h.txn h.attempt h.dm h.sends h.before h.at h.later)

-- what holds along a log holds along that before an Answer
pub each_before_answer : (P : Log → Entry → Type 0) (ts : ℕ) (log : Log) → Each P log → Each P (before_answer ts log)
each_before_answer P ts [] h = h
each_before_answer P ts (Did (Records k (Answer txn attempt dm) sends) ∷ log) h = grind (arith, (each_before_answer P ts log h.1))
each_before_answer P ts (_ ∷ log) h = each_before_answer P ts log h.1
