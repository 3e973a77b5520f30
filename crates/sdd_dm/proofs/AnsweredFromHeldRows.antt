-- A FETCH, REDUCE or SHIP is answered from the held rows; and all messages together.
use Rattle.sdd_dm.proofs.All.{Act, Bases, ClassNo, DatesDiffer, Did, Fetch, Frozen, Handed, HasCopies, List, Log, Msg, None, Notes, Null, Option, Reached, Read, Reduce, Reduced, Rows, Sends, Setting, Ship, Shows, Site, Some, State, Ts, Value, Values, Worked, Write, [], all_dated, all_held, answer_to, ap, arith, at_other, at_own, class_of_pipe, class_view, false, fits, frozen, frozen_handed, frozen_of, given_up, goes_through, hands, home_of, is_asked_of, length, length-update, made_nothing, made_one, nat_tests, next, notes_handed, nothing_noted, opens, reduced_at, refl, rows_held, same_number, state_handed, suc, sym, update, values_in, with_out, ℕ, ◌<◌, ◌==◌, ◌∷◌, ◌≡◌, ◌≤◌}
use Rattle.sdd_dm.proofs.Dates.{new_differ}
use Rattle.sdd_dm.proofs.Messages.{is_answered, opened, put_shown, read_worked}
use Rattle.sdd_dm.proofs.Scans.{from}

-- what a message of this kind asks
record Asks (s : Setting) (st : State) (log : Log) (from : Site) (m reply : Msg) (c : ℕ) (rows : List (Option Frozen)) : Type 0 where
  few : c ≤ length s.catalogue.classes
  through : (j : ℕ) → goes_through j m ≡ false
  opened : opens (Handed from m ∷ log) ≡ record { hand = suc (hands log); from = from; msg = m } ∷ []
  asked : (k : ℕ) → is_asked_of k (record { hand = suc (hands log); from = from; msg = m }) ≡ (c == k)
  answer : answer_to (home_of s) (class_view s (Handed from m ∷ log) c) (record { hand = suc (hands log); from = from; msg = m }) m ≡ Some
      (Sends from reply (Some (suc (hands log))))
  many : length rows ≡ length st.frozen
  held : (k : ℕ) → k ≤ length s.catalogue.classes → frozen_of rows k ≡ given_up k reply (frozen_handed k m (frozen s k log))
  dates : DatesDiffer (all_dated s (Handed from m ∷ log))
  read : HasCopies s m

abbrev with_rows : State → List (Option Frozen) → State
with_rows st rows = record st { frozen = rows }

asked_reached : (s : Setting) (bases : Bases) (st : State) (log : Log) (from : Site) (m reply : Msg) (c : ℕ) (rows : List (Option Frozen)) → Shows s st log
    → Asks s st log from m reply c rows
    → Reached (Shows s) (next s bases) ◌∷◌ (Handed from m ∷ log) (with_rows st rows) nothing_noted (with_out from reply nothing_noted)
asked_reached s bases st log from m reply c rows shows a =
    let act : Act = Sends from reply (Some (suc (hands log))) in
    record {
      view = Did act ∷ Handed from m ∷ log;
      shown = (grind (arith, same_number));
      made = made_one (next s bases) ◌∷◌ (Handed from m ∷ log) (Did act ∷ Handed from m ∷ log) act nothing_noted (with_out from reply nothing_noted)
          (is_answered (home_of s) s (Handed from m ∷ log)
          (record { hand = suc (hands log); from = from; msg = m }) c act a.opened a.asked a.few a.answer) refl refl;
    }

-- FETCH

fetch_worked : (from : Site) (st : State) (ts : Ts) (class : ClassNo) (u col : ℕ)
    → Worked from (Fetch ts class u col) st (state_handed (Fetch ts class u col) st) (notes_handed from (Fetch ts class u col) st nothing_noted)
fetch_worked from st ts class u col s bases log shows fit =
    let m : Msg = Fetch ts class u col in
    let held : frozen_of st.frozen class.0 ≡ frozen s class.0 log = (shows.classes class.0 fit.asked.source.is_class).frozen in
    let reply : Msg = Values ts class u (values_in (rows_held u (frozen_of st.frozen class.0)) col) in
    asked_reached s bases st log from m reply class.0 st.frozen shows (grind (arith, nat_tests, opened, values_in, rows_held, hands))

-- REDUCE

reduce_worked : (from : Site) (st : State) (ts : Ts) (class : ClassNo) (u col : ℕ) (values : List Value)
    → Worked from (Reduce ts class u col values) st (state_handed (Reduce ts class u col values) st)
    (notes_handed from (Reduce ts class u col values) st nothing_noted)
reduce_worked from st ts class u col values s bases log shows fit =
    let m : Msg = Reduce ts class u col values in
    let rows : List (Option Frozen) = update class.0 (reduced_at ts.0 u col values) st.frozen in
    let held : frozen_of rows class.0 ≡ frozen s class.0
    (Handed from m ∷ log) = (grind (arith, at_own, at_other)) in
    asked_reached s bases st log from m (Reduced ts class u (length (rows_held u (frozen_of rows class.0)))) class.0
    rows shows (grind (arith, nat_tests, opened, rows_held, hands, length-update, reduced_at, at_own, at_other))

-- SHIP

ship_worked : (from : Site) (st : State) (ts : Ts) (class : ClassNo)
    → Worked from (Ship ts class) st (state_handed (Ship ts class) st) (notes_handed from (Ship ts class) st nothing_noted)
ship_worked from st ts class s bases log shows fit =
    let m : Msg = Ship ts class in
    let held : frozen_of st.frozen class.0 ≡ frozen s class.0 log = (shows.classes class.0 fit.source.is_class).frozen in
    asked_reached s bases st log from m (Rows ts class (all_held (frozen_of st.frozen class.0))) class.0 (update class.0 (λ f. None) st.frozen) shows (record {
      few = fit.source.is_class;
      through = λ j. refl;
      opened = opened log from m shows.answered;
      asked = λ k. refl;
      answer = ap (λ f. Some (Sends from (Rows ts class (all_held f)) (Some (suc (hands log))))) (sym held);
      many = length-update class.0 (λ f. None) st.frozen;
      held = λ k l. (grind (arith, at_own, at_other));
      dates = shows.dates;
      read = tt;
    })

-- WRITE and NULL

write_worked : (from : Site) (st : State) (ts : Ts) (class : ClassNo) (txn : _) (changes : _)
    → Worked from (Write ts class txn changes) st (state_handed (Write ts class txn changes) st)
    (notes_handed from (Write ts class txn changes) st nothing_noted)
write_worked from st ts class txn changes s bases log shows fit = record {
  view = Handed from (Write ts class txn changes) ∷ log;
  shown = put_shown s st log from (Write ts class txn changes) class.0 shows fit.piped.source.is_class (λ j. refl) (λ k. refl) refl
      (new_differ s log ts.0 changes fit.above fit.fresh fit.items shows.dates) tt;
  made = grind (arith, nat_tests, made_nothing, next, nothing_noted);
}

null_worked : (from : Site) (st : State) (class : ClassNo) (time : Ts)
    → Worked from (Null class time) st (state_handed (Null class time) st) (notes_handed from (Null class time) st nothing_noted)
null_worked from st class time s bases log shows fit = record {
  view = Handed from (Null class time) ∷ log;
  shown = put_shown s st log from (Null class time) class.0 shows fit.source.is_class (λ j. refl) (λ k. refl) refl shows.dates tt;
  made = grind (arith, nat_tests, made_nothing, next, nothing_noted);
}

-- each message

message_worked : (from : Site) (m : Msg) (st : State) → Worked from m st (state_handed m st) (notes_handed from m st nothing_noted)
message_worked from (Read ts class txn attempt conds uses) st = read_worked from st ts class txn attempt conds uses
message_worked from (Write ts class txn changes) st = write_worked from st ts class txn changes
message_worked from (Null class time) st = null_worked from st class time
message_worked from (Fetch ts class u col) st = fetch_worked from st ts class u col
message_worked from (Reduce ts class u col values) st = reduce_worked from st ts class u col values
message_worked from (Ship ts class) st = ship_worked from st ts class
message_worked from _ st = λ s bases log shows fit. absurd fit

-- the same, where the values have other names
pub hand_worked : (from : Site) (m : Msg) (st old new : State) (none notes : Notes) → st ≡ old → new ≡ state_handed m st → none ≡ nothing_noted
    → notes ≡ notes_handed from m st none → Worked from m old new notes
hand_worked from m st old new none notes same e f g = rw (e, g, f, ← same) (message_worked from m st)

-- the class of a message for a pipe is there
class_there : (s : Setting) (bases : Bases) (log : Log) (from : Site) (m : Msg) (c : ℕ) → fits s bases log from m → class_of_pipe m ≡ Some c
    → c ≤ length s.catalogue.classes
class_there s bases log from m c fit e = grind arith

pub class_known : (s : Setting) (bases : Bases) (st : State) (log : Log) (from : Site) (m : Msg) → Shows s st log → fits s bases log from m → (c : ℕ)
    → class_of_pipe m ≡ Some c → c < length st.pipes
class_known s bases st log from m shows fit c e = let l = class_there s bases log from m c fit e in omega (arith, shows.pipes, l)
