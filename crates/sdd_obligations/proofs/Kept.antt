-- What a data module keeps for an attempt, entry by entry.
use Rattle.sdd_obligations.proofs.All.{Act, Answer, Bool, ClassNo, Cond, Did, DmNo, Frozen, Handed, List, Msg, None, Option, Read, Rec, Records, Reduce, Rows, Sends, Setting, Site, Some, Ts, TxnNo, Use, Value, [], ap, arith, copies, dated, eqb-true, false, frozen, frozen_at, frozen_for, head, held_for, if◌then◌else◌, inl, inr, is_answer_record as is_answer, is_at, kept, pipe, reduced, refl, same_number, same_or_not, sym, true, ℕ, ◌&&◌, ◌==◌, ◌∙◌, ◌∷◌, ◌≡◌, ◌⊎◌}
use Rattle.sdd_obligations.proofs.ShippedAnswered.{uses_at_head}
use Rattle.sdd_obligations.proofs.Places.{IsAnswerAt}
use Rattle.sdd_obligations.proofs.Snapped.{answer_more}
use Rattle.sdd_invariants.specs.site_module.SiteLog.{Entry, Log}

other_first : (ts : ℕ) (f : Frozen) (o : Option Frozen) → (f.ts == ts) ≡ false → held_for ts (Some f) o ≡ o
other_first ts f o e = ap (λ b. if b then Some f else o) e

-- what is held for it is what is kept
pub kept_now : (s : Setting) (c ts : ℕ) (log : Log) (f : Frozen) → frozen s c log ≡ Some f → f.ts ≡ ts → kept s c ts log ≡ Some f
kept_now s c ts [] f e t = cc
kept_now s c ts (x ∷ log) f e t = ap (λ o. held_for ts o (kept s c ts log)) e ∙ (ap (λ b. if b then Some f else (kept s c ts log)) (ap (λ n. n == ts) t ∙ same_number ts))

-- an entry that leaves what is held leaves what is kept
pub kept_same : (s : Setting) (c ts : ℕ) (x : Entry) (log : Log) → frozen s c (x ∷ log) ≡ frozen s c log → kept s c ts (x ∷ log) ≡ kept s c ts log
kept_same s c ts x log e = ap (λ o. held_for ts o (kept s c ts log)) e ∙ (grind (arith, same_or_not, same_number, kept_now, other_first))

-- so does one after which nothing is held
pub kept_none : (s : Setting) (c ts : ℕ) (x : Entry) (log : Log) → frozen s c (x ∷ log) ≡ None → kept s c ts (x ∷ log) ≡ kept s c ts log
kept_none s c ts x log e = ap (λ o. held_for ts o (kept s c ts log)) e

-- a REDUCE for the attempt reduces what is kept
pub record IsReduced (s : Setting) (c ts : ℕ) (from : Site) (m : Msg) (log : Log) : Type 0 where
  pub t : Ts
  pub of : ClassNo
  pub number : ℕ
  pub col : ℕ
  pub values : List Value
  pub is : m ≡ Reduce t of number col values
  pub ts_is : t.0 ≡ ts
  pub class_is : of.0 ≡ c
  pub rows : Frozen
  pub before : kept s c ts log ≡ Some rows
  pub after : kept s c ts (Handed from m ∷ log) ≡ Some (reduced number col values rows)

-- a hand leaves what is kept, or is such a REDUCE
abbrev pub HandKeeps : Setting → ℕ → ℕ → Site → Msg → Log → Type 0
HandKeeps s c ts from m log = (kept s c ts (Handed from m ∷ log) ≡ kept s c ts log) ⊎ IsReduced s c ts from m log

reduce_keeps : (s : Setting) (c ts : ℕ) (from : Site) (t : Ts) (k : ClassNo) (u col : ℕ) (vs : List Value)
    (log : Log) (o : Option Frozen) (b : Bool) → frozen s c log ≡ o → (k.0 == c) ≡ b
    → HandKeeps s c ts from (Reduce t k u col vs) log
reduce_keeps s c ts from t k u col vs log o b e f = grind (arith, kept_same, kept_none, same_or_not, same_number, eqb-true, kept_now, other_first)

pub hand_keeps : (s : Setting) (c ts : ℕ) (from : Site) (m : Msg) (log : Log) → HandKeeps s c ts from m log
hand_keeps s c ts from (Reduce t k u col vs) log = reduce_keeps s c ts from t k u col vs log (frozen s c log) (k.0 == c) refl refl
hand_keeps s c ts from m log = inl (kept_same s c ts (Handed from m) log refl)

-- an act leaves what is kept, or answers the attempt's READ and freezes its rows
pub record IsFrozen (s : Setting) (c ts : ℕ) (act : Act) (log : Log) : Type 0 where
  pub answer : IsAnswerAt ts (Did act ∷ log)
  pub before_is : answer.before ≡ log
  pub class_is : answer.class ≡ c
  pub after : kept s c ts (Did act ∷ log) ≡ Some (frozen_for (copies (dated s answer.before)) ts (uses_at_head (head (pipe answer.class answer.before))))

abbrev pub ActKeeps : Setting → ℕ → ℕ → Act → Log → Type 0
ActKeeps s c ts act log = (kept s c ts (Did act ∷ log) ≡ kept s c ts log) ⊎ IsFrozen s c ts act log

answer_keeps : (s : Setting) (c ts : ℕ) (txn : TxnNo) (attempt : ℕ) (dm : DmNo) (sends : List (Site × Msg))
    (log : Log) (k : ℕ) (o : Option Msg) → k ≡ c → head (pipe k log) ≡ o
    → frozen s c (Did (Records k (Answer txn attempt dm) sends) ∷ log) ≡ frozen_at (dated s log) o
    → ActKeeps s c ts (Records k (Answer txn attempt dm) sends) log
answer_keeps s c ts txn attempt dm sends log k (Some (Read t of tx n conds uses)) own e f = elim (same_or_not t.0 ts) [
  | inl mine ↦ inr (record {
    answer = record {
      later = [];
      class = k;
      txn = txn;
      attempt = attempt;
      dm = dm;
      sends = sends;
      before = log;
      is = refl;
      at = ap (is_at ts) e ∙ ap (λ n. n == ts) mine ∙ same_number ts;
    };
    before_is = refl;
    class_is = own;
    after = grind (arith, kept_now, frozen_for, copies, dated, uses_at_head);
  })
  | inr other ↦ inl (ap (λ x. held_for ts x (kept s c ts log)) f ∙ other_first ts (frozen_for (copies (dated s log)) t.0 uses) (kept s c ts log) other)
]
answer_keeps s c ts txn attempt dm sends log k o own e f = inl (kept_none s c ts (Did (Records k (Answer txn attempt dm) sends)) log f)

answer_acts : (s : Setting) (c ts : ℕ) (txn : TxnNo) (attempt : ℕ) (dm : DmNo) (sends : List (Site × Msg))
    (log : Log) (k : ℕ) (b : Bool) → (k == c) ≡ b
    → ActKeeps s c ts (Records k (Answer txn attempt dm) sends) log
answer_acts s c ts txn attempt dm sends log k false e = inl (kept_same s c ts (Did (Records k (Answer txn attempt dm) sends)) log (rw e refl))
answer_acts s c ts txn attempt dm sends log k true e = grind (arith, eqb-true, answer_keeps)

gives_up : (s : Setting) (c ts : ℕ) (to : Site) (t : Ts) (k : ClassNo) (rows : List (ℕ × List Value))
    (hand : Option ℕ) (log : Log) (b : Bool) → (k.0 == c) ≡ b
    → kept s c ts (Did (Sends to (Rows t k rows) hand) ∷ log) ≡ kept s c ts log
gives_up s c ts to t k rows hand log true e = kept_none s c ts (Did (Sends to (Rows t k rows) hand)) log (ap (λ b. if b then None else frozen s c log) e)
gives_up s c ts to t k rows hand log false e = kept_same s c ts (Did (Sends to (Rows t k rows) hand)) log (ap (λ b. if b then None else frozen s c log) e)

-- a record that is no Answer, and a send, leave what is kept
pub record_keeps : (s : Setting) (c ts k : ℕ) (r : Rec) (sends : List (Site × Msg)) (log : Log)
    → is_answer r ≡ false → kept s c ts (Did (Records k r sends) ∷ log) ≡ kept s c ts log
record_keeps s c ts k r sends log e =
    kept_same s c ts (Did (Records k r sends)) log
    (grind (arith, frozen_at, dated, head, pipe, frozen))

pub send_keeps : (s : Setting) (c ts : ℕ) (to : Site) (m : Msg) (hand : Option ℕ) (log : Log) → kept s c ts (Did (Sends to m hand) ∷ log) ≡ kept s c ts log
send_keeps s c ts to (Rows t k rows) hand log = gives_up s c ts to t k rows hand log (k.0 == c) refl
send_keeps s c ts to m hand log = kept_same s c ts (Did (Sends to m hand)) log refl

pub act_keeps : (s : Setting) (c ts : ℕ) (act : Act) (log : Log) → ActKeeps s c ts act log
act_keeps s c ts (Records k (Answer txn attempt dm) sends) log = answer_acts s c ts txn attempt dm sends log k (k == c) refl
act_keeps s c ts (Records k r sends) log = inl (record_keeps s c ts k r sends log refl)
act_keeps s c ts (Sends to m hand) log = inl (send_keeps s c ts to m hand log)

-- rows are kept only where a READ of the attempt was answered

for_more : (s : Setting) (c ts : ℕ) (x : Entry) (log : Log) (f : Frozen)
    → kept s c ts (x ∷ log) ≡ kept s c ts log → ((g : Frozen) → kept s c ts log ≡ Some g
    → IsAnswerAt ts log) → kept s c ts (x ∷ log) ≡ Some f → IsAnswerAt ts (x ∷ log)
for_more s c ts x log f same h e = answer_more ts x log (h f (sym same ∙ e))

pub kept_answered : (s : Setting) (c ts : ℕ) (log : Log) (f : Frozen) → kept s c ts log ≡ Some f → IsAnswerAt ts log
kept_answered s c ts [] f e = cc
kept_answered s c ts (Handed from m ∷ log) f e = elim (hand_keeps s c ts from m log) [
  | inl same ↦ for_more s c ts (Handed from m) log f same (kept_answered s c ts log) e
  | inr r ↦ answer_more ts (Handed from m) log (kept_answered s c ts log r.rows r.before)
]
kept_answered s c ts (Did act ∷ log) f e = elim (act_keeps s c ts act log) [
  | inl same ↦ for_more s c ts (Did act) log f same (kept_answered s c ts log) e
  | inr r ↦ r.answer
]
kept_answered s c ts (x ∷ log) f e = for_more s c ts x log f (kept_same s c ts x log refl) (kept_answered s c ts log) e

-- so does an Answer to another READ
pub other_answer_keeps : (s : Setting) (c ts k : ℕ) (txn : TxnNo) (attempt : ℕ) (dm : DmNo)
    (sends : List (Site × Msg)) (log : Log) (t : Ts) (of : ClassNo) (tx : TxnNo) (n : ℕ) (conds : List Cond)
    (uses : List Use)
    → head (pipe k log) ≡ Some (Read t of tx n conds uses) → (k ≡ c → (t.0 == ts) ≡ false)
    → kept s c ts (Did (Records k (Answer txn attempt dm) sends) ∷ log) ≡ kept s c ts log
other_answer_keeps s c ts k txn attempt dm sends log t of tx n conds uses e other = elim (same_or_not k c) [
  | inl own ↦ grind (arith, frozen, frozen_for, copies, dated, frozen_at, head, pipe, same_number, held_for, kept, other_first)
  | inr not_own ↦ kept_same s c ts (Did (Records k (Answer txn attempt dm) sends)) log
      (ap (λ b. if b && true then frozen_at (dated s log) (head (pipe c log)) else frozen s c log) not_own)
]
