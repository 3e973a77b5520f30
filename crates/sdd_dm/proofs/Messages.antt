-- A message is handed: it goes to its pipe, or it is answered at once.
use Rattle.sdd_dm.proofs.All.{Act, Arrive, ClassNo, Cond, DatesDiffer, Did, Handed, HasCopies, Home, List, Log, Msg, Open, Read, Rec, Records, Represent, Setting, Shows, ShowsClass, Site, Some, State, Ts, TxnNo, Use, View, Worked, [], all_dated, answer_of, answer_to, ap, arith, at_other, at_own, by_class, class_view, classes_of, due, empty_digest, false, first_map, first_some, frozen, goes_through, hands, head_due, head_of, home_of, is_answer, is_asked_of, is_processing, is_put, is_wait, length, length-update, made_one, nat_tests, next, notes_handed, nothing_noted, only_class, open_due, opens, or_else, other_number, pipe, pipe_at, put_digest, refl, same_number, state_handed, subst, suc, sym, update, view_of, waits, ℕ, ◌++◌, ◌==◌, ◌∙◌, ◌∷◌, ◌≡◌, ◌≤◌}
use Rattle.sdd_dm.proofs.Applied.{dated_kept}
use Rattle.sdd_dm.proofs.Scans.{from}

-- what answers the one open message is due next

pub is_answered : (h : Home) (s : Setting) (log : Log) (o : Open) (c : ℕ) (a : Act) → opens log ≡ o ∷ []
    → ((k : ℕ) → is_asked_of k o ≡ (c == k))
    → c ≤ length s.catalogue.classes
    → answer_to h (class_view s log c) o o.msg ≡ Some a → due h (view_of s log) ≡ Some a
is_answered h s log o c a e asked l f =
    let v : View = view_of s log in
    let own : open_due h v (class_view s log c) ≡ Some a = grind (arith, nat_tests, answer_of, class_view, head_of, is_asked_of, same_number) in
    let first : first_some (open_due h v) v.classes ≡ Some a =
    first_map (open_due h v) (class_view s log) (classes_of s)
    ∙ only_class (λ k. open_due h v (class_view s log k)) (suc (length s.catalogue.classes)) c a (omega arith) own
    (grind (arith, nat_tests, answer_of, class_view, head_of, is_asked_of, other_number)) in
    ap (λ x. or_else x (first_some (head_due h v) v.classes)) first

-- a message for the pipe of class c

handed_class : (s : Setting) (st : State) (log : Log) (from : Site) (m : Msg) (c k : ℕ) → Shows s st log → c ≤ length s.catalogue.classes
    → k ≤ length s.catalogue.classes
    → ((j : ℕ) → goes_through j m ≡ (c == j)) → frozen s k (Handed from m ∷ log) ≡ frozen s k log
    → ShowsClass s (record st { pipes = update c (put_digest m) st.pipes }) (Handed from m ∷ log) k
handed_class s st log from m c k shows l n through kept = grind (arith, nat_tests, pipe, by_class, pipe_at, update, put_digest, at_own, empty_digest, same_number, is_put, at_other, other_number, waits, frozen)

-- a WRITE or NULL comes: nothing is to be answered
pub put_shown : (s : Setting) (st : State) (log : Log) (from : Site) (m : Msg) (c : ℕ) → Shows s st log → c ≤ length s.catalogue.classes
    → ((j : ℕ) → goes_through j m ≡ (c == j)) → ((k : ℕ) → frozen s k (Handed from m ∷ log) ≡ frozen s k log)
    → opens (Handed from m ∷ log) ≡ opens log
    → DatesDiffer (all_dated s (Handed from m ∷ log)) → HasCopies s m
    → Shows s (record st { pipes = update c (put_digest m) st.pipes }) (Handed from m ∷ log)
put_shown s st log from m c shows l through kept same_opens dates read = record {
  home = shows.home;
  pipes = length-update c (put_digest m) st.pipes ∙ shows.pipes;
  waits = shows.waits;
  frozen = shows.frozen;
  classes = λ k n. handed_class s st log from m c k shows l n through (kept k);
  answered = same_opens ∙ shows.answered;
  pipes_live = shows.pipes_live;
  live = shows.live;
  copies = shows.copies;
  here = shows.here;
  dates = dates;
  reads = (read, shows.reads);
}

-- a READ comes, and arrives

arrived_class : (s : Setting) (st : State) (log : Log) (c k : ℕ) (r : Rec) → is_processing r ≡ false → is_wait r ≡ false → is_answer r ≡ false
    → ShowsClass s st log k → ShowsClass s st (Did (Records c r []) ∷ log) k
arrived_class s st log c k r e f g h = grind arith

pub opened : (log : Log) (from : Site) (m : Msg) → opens log ≡ []
    → opens log ++ record { hand = suc (hands log); from = from; msg = m } ∷ [] ≡ record { hand = suc (hands log); from = from; msg = m } ∷ []
opened log from m e = ap (λ os. os ++ record { hand = suc (hands log); from = from; msg = m } ∷ []) e

pub read_worked : (from : Site) (st : State) (ts : Ts) (class : ClassNo) (txn : TxnNo) (attempt : ℕ) (conds : List Cond) (uses : List Use)
    → Worked from (Read ts class txn attempt conds uses) st (state_handed (Read ts class txn attempt conds uses) st)
    (notes_handed from (Read ts class txn attempt conds uses) st nothing_noted)
read_worked from st ts class txn attempt conds uses s bases log shows fit =
    let m : Msg = Read ts class txn attempt conds uses in
    let c : ℕ = class.0 in
    let l : c ≤ length s.catalogue.classes = fit.piped.source.is_class in
    let r : Rec = Arrive txn attempt st.home.dm in
    let a : Act = Records c r [] in
    let after : Log = Handed from m ∷ log in
    let new : State = record st { pipes = update c (put_digest m) st.pipes } in
    let there : opens after ≡ record { hand = suc (hands log); from = from; msg = m } ∷ [] = opened log from m shows.answered in
    let shown : Shows s new (Did a ∷ after) = record {
      home = shows.home;
      pipes = length-update c (put_digest m) st.pipes ∙ shows.pipes;
      waits = shows.waits;
      frozen = shows.frozen;
      classes = λ k n. arrived_class s new after c k r refl refl refl (handed_class s st log from m c k shows l n (λ j. refl) refl);
      answered = (grind arith);
      pipes_live = shows.pipes_live;
      live = shows.live;
      copies = subst (Represent st.copies.value) (sym (dated_kept s after c r [] refl)) shows.copies;
      here = shows.here;
      dates = shows.dates;
      reads = (fit.here, shows.reads);
    } in
    record {
      view = Did a ∷ after;
      shown = shown;
      made = made_one (next s bases) ◌∷◌ after (Did a ∷ after) a nothing_noted (notes_handed from m st nothing_noted)
          (is_answered (home_of s) s after (record { hand = suc (hands log); from = from; msg = m }) c a there (λ k. refl) l
          (ap (λ h. Some (Records c (Arrive txn attempt h.dm) [])) (sym shows.home)))
          refl refl;
    }
