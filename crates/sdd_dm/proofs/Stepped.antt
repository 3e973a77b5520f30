-- The state after a step of a head shows the log with the act of that head.
use Rattle.sdd_dm.proofs.All.{All, AreHere, AreSame, ClassNo, Cond, Dated, DatesDiffer, Did, Frozen, HasCopies, Held, IsHere, IsTrue, Kept, List, Log, Msg, Option, Read, Rec, Records, Represent, Setting, Shows, ShowsClass, Site, Some, State, Ts, TxnNo, Use, ap, arith, at_other, at_own, by_class, changes_in, contents, dated, false, fold, frozen, frozen_at, frozen_for, frozen_is_held, frozen_now, frozen_of, head, head_taken, held_for, here_all, is_answer, is_apply, is_here, is_processing, is_taken, is_wait, length, length-update, map, nat_tests, opens, other_number, pipe, refl, represent_all, represent_same, rows_at, same_number, subst, sym, take_all, take_digest, true, update, waits, with_change, ℕ, ◌++◌, ◌∙◌, ◌∷◌, ◌≡◌, ◌≤◌}
use Rattle.sdd_dm.proofs.Handed.{head_handed}
use Rattle.sdd_dm.proofs.Applied.{applied_differ, same_dated, dated_kept}
use Rattle.sdd_rules.proofs.dm.Acted.{waits_own}

-- what a record changes of its class, and of another

frozen_kept : (s : Setting) (k c : ℕ) (r : Rec) (sends : List (Site × Msg)) (log : Log) → is_answer r ≡ false
    → frozen s c (Did (Records k r sends) ∷ log) ≡ frozen s c log
frozen_kept s k c r sends log e = (grind arith)

-- the head is processed

abbrev taken : ℕ → Kept Held → List (Option Frozen) → State → State
taken c copies rows st = record {
  home = st.home;
  pipes_live = st.pipes_live;
  pipes = update c take_digest st.pipes;
  waits = update c (λ w. false) st.waits;
  copies = copies;
  frozen = rows;
}

-- A record that processes the head of class c. The copies and the held rows are as the log gives them.
taken_shown : (s : Setting) (st : State) (log : Log) (c : ℕ) (r : Rec) (sends : List (Site × Msg)) (copies : Kept Held) (rows : List (Option Frozen))
    → Shows s st log → c ≤ length s.catalogue.classes → is_processing r ≡ true → opens (Did (Records c r sends) ∷ log) ≡ opens log
    → IsTrue copies.live → Represent copies.value (dated s (Did (Records c r sends) ∷ log))
    → ((f : ℕ) → is_here copies.value f ≡ is_here st.copies.value f)
    → length rows ≡ length st.frozen
    → ((k : ℕ) → k ≤ length s.catalogue.classes → frozen_of rows k ≡ frozen s k (Did (Records c r sends) ∷ log))
    → Shows s (taken c copies rows st) (Did (Records c r sends) ∷ log)
taken_shown s st log c r sends copies rows shows l e same_opens live represent here many held = record {
  home = shows.home;
  pipes = length-update c take_digest st.pipes ∙ shows.pipes;
  waits = length-update c (λ w. false) st.waits ∙ shows.waits;
  frozen = many ∙ shows.frozen;
  classes = λ k m. (grind (arith, by_class, same_number, at_own, is_taken, other_number, at_other, waits_own));
  answered = same_opens ∙ shows.answered;
  pipes_live = shows.pipes_live;
  live = live;
  copies = represent;
  here = λ f h. here f ∙ shows.here f h;
  dates = shows.dates;
  reads = shows.reads;
}

-- a NULL passes, a READ is rejected: the copies and the held rows stay
pub passed_shown : (s : Setting) (st : State) (log : Log) (c : ℕ) (r : Rec) (sends : List (Site × Msg)) → Shows s st log
    → c ≤ length s.catalogue.classes
    → is_processing r ≡ true → is_apply r ≡ false → is_answer r ≡ false → opens (Did (Records c r sends) ∷ log) ≡ opens log
    → Shows s (head_taken c st) (Did (Records c r sends) ∷ log)
passed_shown s st log c r sends shows l e f g same_opens =
    taken_shown s st log c r sends st.copies st.frozen shows l e same_opens shows.live
    (subst (Represent st.copies.value) (sym (dated_kept s log c r sends f)) shows.copies) (λ f. refl) refl
    (λ k m. (shows.classes k m).frozen ∙ sym (frozen_kept s c k r sends log g))

-- a WRITE is applied

abbrev copies_with : State → Dated → Kept Held
copies_with st xs = record { live = true; value = fold with_change st.copies.value xs }

pub applied_shown : (s : Setting) (st : State) (log : Log) (c : ℕ) (r : Rec) (sends : List (Site × Msg)) (xs : Dated) → Shows s st log
    → c ≤ length s.catalogue.classes
    → is_processing r ≡ true → is_apply r ≡ true → is_answer r ≡ false → opens (Did (Records c r sends) ∷ log) ≡ opens log
    → changes_in (head (pipe c log)) ≡ xs
    → Shows s (taken c (copies_with st xs) st.frozen st) (Did (Records c r sends) ∷ log)
applied_shown s st log c r sends xs shows l e f g same_opens is =
    taken_shown s st log c r sends (copies_with st xs) st.frozen shows l e same_opens refl
    (represent_same (fold with_change st.copies.value xs) (dated s log ++ xs) (dated s (Did (Records c r sends) ∷ log))
    (subst (λ ys. DatesDiffer (dated s log ++ ys)) is (applied_differ s log c shows.dates))
    (subst (λ ys. AreSame (dated s log ++ ys) (dated s (Did (Records c r sends) ∷ log))) is (same_dated s log c r sends l f))
    (represent_all xs st.copies.value (dated s log) shows.copies))
    (here_all xs st.copies.value) refl
    (λ k m. (shows.classes k m).frozen ∙ sym (frozen_kept s c k r sends log g))

-- a READ is answered

are_here : (s : Setting) (st : State) (log : Log) → Shows s st log → (uses : List Use) → All (IsHere s) uses → All (AreHere st.copies.value) uses
are_here s st log shows uses h = grind arith

-- the rows of the copies are those of the log
pub frozen_is : (s : Setting) (st : State) (log : Log) (c : ℕ) (ts : Ts) (class : ClassNo) (txn : TxnNo) (attempt : ℕ) (conds : List Cond) (uses : List Use)
    → Shows s st log
    → head (pipe c log) ≡ Some (Read ts class txn attempt conds uses) → frozen_now st ts.0 uses ≡ frozen_for (λ f. contents f (dated s log)) ts.0 uses
frozen_is s st log c ts class txn attempt conds uses shows e =
    frozen_is_held st.copies.value (dated s log) ts.0 uses (map (held_for (rows_at st.copies.value)) uses) (length uses)
    (ap (map (held_for (rows_at st.copies.value))) (sym (take_all (length uses) uses (omega arith)))) (omega arith) shows.copies
    (are_here s st log shows uses (head_handed (HasCopies s) c log (Read ts class txn attempt conds uses) shows.reads e))

pub answered_shown : (s : Setting) (st : State) (log : Log) (c : ℕ) (r : Rec) (sends : List (Site × Msg)) (f : Frozen) → Shows s st log
    → c ≤ length s.catalogue.classes
    → is_processing r ≡ true → is_apply r ≡ false → is_answer r ≡ true → opens (Did (Records c r sends) ∷ log) ≡ opens log
    → frozen_at (dated s log) (head (pipe c log)) ≡ Some f
    → Shows s (taken c st.copies (update c (λ old. Some f) st.frozen) st) (Did (Records c r sends) ∷ log)
answered_shown s st log c r sends f shows l e g h same_opens is =
    taken_shown s st log c r sends st.copies (update c (λ old. Some f) st.frozen) shows l e same_opens shows.live
    (subst (Represent st.copies.value) (sym (dated_kept s log c r sends g)) shows.copies) (λ f. refl) (length-update c (λ old. Some f) st.frozen)
    (grind (arith, nat_tests, by_class, frozen_of, update, frozen, at_own, same_number, at_other, other_number))

-- a READ begins to wait

waiting_class : (s : Setting) (st : State) (log : Log) (c k : ℕ) (r : Rec) (sends : List (Site × Msg)) → Shows s st log
    → c ≤ length s.catalogue.classes
    → k ≤ length s.catalogue.classes → is_processing r ≡ false → is_wait r ≡ true → is_answer r ≡ false
    → ShowsClass s (record st { waits = update c (λ w. true) st.waits }) (Did (Records c r sends) ∷ log) k
waiting_class s st log c k r sends shows l m e f g = grind (arith, by_class, same_number, other_number, at_own, at_other, frozen_kept)

pub waiting_shown : (s : Setting) (st : State) (log : Log) (c : ℕ) (r : Rec) (sends : List (Site × Msg)) → Shows s st log
    → c ≤ length s.catalogue.classes
    → is_processing r ≡ false → is_wait r ≡ true → is_answer r ≡ false → is_apply r ≡ false
    → opens (Did (Records c r sends) ∷ log) ≡ opens log
    → Shows s (record st { waits = update c (λ w. true) st.waits }) (Did (Records c r sends) ∷ log)
waiting_shown s st log c r sends shows l e f g h same_opens = record {
  home = shows.home;
  pipes = shows.pipes;
  waits = length-update c (λ w. true) st.waits ∙ shows.waits;
  frozen = shows.frozen;
  classes = λ k m. waiting_class s st log c k r sends shows l m e f g;
  answered = same_opens ∙ shows.answered;
  pipes_live = shows.pipes_live;
  live = shows.live;
  copies = subst (Represent st.copies.value) (sym (dated_kept s log c r sends h)) shows.copies;
  here = shows.here;
  dates = shows.dates;
  reads = shows.reads;
}
