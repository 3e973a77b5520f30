-- The laws of messages: of the fields after each tag, and of a tag with its fields.
use Rattle.sdd_wire.proofs.All.{Ask, Change, ClassNo, Cond, Done, Err, Fetch, FitsList, FitsMsg, FitsPair, FitsRow, FitsU32, FitsU64, Held, Hold, List, Msg, Null, Ok, Read, Reading, Ready, Reduce, Reduced, Reject, Release, Result, Rows, Ship, Some, Source, Ts, TxnNo, Use, Value, Values, Write, [], ap, append-nil, append_assoc, arith, fields_by_tag, if◌then◌else◌, is_empty, length, list_at, nat_tests, number_at, numbered, pair_at, read_as, refl, row_at, source_of, spelled, spelled_list, spelled_pair, spelled_row, spelled_u32, spelled_u64, subst, sym, tail_of, w32, w64, whole, ℕ, ◌++◌, ◌∙◌, ◌∷◌, ◌≡◌}
use Rattle.sdd_wire.specs.Reading.{read_at, ready_at, reject_at, fetch_at, values_at, reduce_at, reduced_at, ship_at, rows_at, write_at, null_at, ask_at, held_at, done_at, release_at, message_at, message_in}
use Rattle.sdd_wire.proofs.Laws.{AreBytes, OnlyReads, ReadsBack, IsSpelled, Law, only_then, only_meant, only_next, only_last, only_done, back_next, back_last, back_as}
use Rattle.sdd_wire.proofs.NumberLaws.{byte_law, u32_law, u64_law, class_law, txn_law, ts_law}
use Rattle.sdd_wire.proofs.PartLaws.{pair_law, list_law, row_law, use_law, cond_law, change_law, AllNumbered, numbered_so}

counts_law : Law (FitsList (FitsPair FitsU32 FitsU64)) (spelled_list (spelled_pair spelled_u32 spelled_u64))
    (list_at (pair_at (number_at w32) (number_at w64)))
counts_law = list_law (pair_law u32_law u64_law)

rows_law : Law (FitsList (FitsPair FitsU32 FitsRow)) (spelled_list (spelled_pair spelled_u32 spelled_row))
    (list_at (pair_at (number_at w32) row_at))
rows_law = list_law (pair_law u32_law row_law)

-- the fields, after a tag
abbrev Fields : ℕ → Reading Msg → Type 0
Fields tag fields = OnlyReads (λ msg more. IsSpelled FitsMsg spelled msg (tag ∷ more)) fields

-- what is after the tag of a message is read back
abbrev Back : Reading Msg → Msg → Type 0
Back fields msg = ReadsBack fields (tail_of (spelled msg)) msg

read_fields : Fields 1 read_at
unfolding read_at
read_fields =
    only_next ts_law (λ ts h1. only_next class_law (λ class h2. only_next txn_law (λ txn h3.
    only_next u64_law (λ attempt h4. only_next (list_law cond_law) (λ conds h5.
    only_last _ (list_law use_law) (λ uses h6. (simp append_assoc, (h1, h2, h3, h4, h5, h6))))))))

read_back : (ts : Ts) (class : ClassNo) (txn : TxnNo) (attempt : ℕ) (conds : List Cond) (uses : List Use)
    → FitsMsg (Read ts class txn attempt conds uses) → Back read_at (Read ts class txn attempt conds uses)
unfolding read_at
read_back ts class txn attempt conds uses fits = grind (arith, back_as, back_next, ts_law, class_law, txn_law, u64_law, list_law, cond_law, back_last, use_law, append_assoc)

ready_fields : Fields 2 ready_at
unfolding ready_at
ready_fields =
    only_next ts_law (λ ts h1. only_next class_law (λ class h2.
    only_last _ counts_law (λ counts h3. (simp append_assoc, (h1, h2, h3)))))

ready_back : (ts : Ts) (class : ClassNo) (counts : List (ℕ × ℕ)) → FitsMsg (Ready ts class counts)
    → Back ready_at (Ready ts class counts)
unfolding ready_at
ready_back ts class counts fits = grind (arith, back_as, back_next, ts_law, class_law, back_last, counts_law, append_assoc)

reject_fields : Fields 3 reject_at
unfolding reject_at
reject_fields =
    only_next ts_law (λ ts h1. only_next class_law (λ class h2. only_next class_law (λ by h3.
    only_last _ ts_law (λ write h4. (simp append_assoc, (h1, h2, h3, h4))))))

reject_back : (ts : Ts) (class : ClassNo) (by : ClassNo) (write : Ts)
    → FitsMsg (Reject ts class by write) → Back reject_at (Reject ts class by write)
unfolding reject_at
reject_back ts class by write fits = grind (arith, nat_tests, back_as, back_next, ts_law, class_law, back_last, append_assoc)

fetch_fields : Fields 4 fetch_at
unfolding fetch_at
fetch_fields =
    only_next ts_law (λ ts h1. only_next class_law (λ class h2. only_next u32_law (λ use_no h3.
    only_last _ u32_law (λ column h4. (simp append_assoc, (h1, h2, h3, h4))))))

fetch_back : (ts : Ts) (class : ClassNo) (use_no : ℕ) (column : ℕ)
    → FitsMsg (Fetch ts class use_no column) → Back fetch_at (Fetch ts class use_no column)
unfolding fetch_at
fetch_back ts class use_no column fits = grind (arith, back_as, back_next, ts_law, class_law, u32_law, back_last, append_assoc)

values_fields : Fields 5 values_at
unfolding values_at
values_fields =
    only_next ts_law (λ ts h1. only_next class_law (λ class h2. only_next u32_law (λ use_no h3.
    only_last _ row_law (λ values h4. (simp append_assoc, (h1, h2, h3, h4))))))

values_back : (ts : Ts) (class : ClassNo) (use_no : ℕ) (values : List Value)
    → FitsMsg (Values ts class use_no values) → Back values_at (Values ts class use_no values)
unfolding values_at
values_back ts class use_no values fits = grind (arith, back_as, back_next, ts_law, class_law, u32_law, back_last, row_law, append_assoc)

reduce_fields : Fields 6 reduce_at
unfolding reduce_at
reduce_fields =
    only_next ts_law (λ ts h1. only_next class_law (λ class h2. only_next u32_law (λ use_no h3.
    only_next u32_law (λ column h4. only_last _ row_law (grind (arith, append_assoc))))))

reduce_back : (ts : Ts) (class : ClassNo) (use_no : ℕ) (column : ℕ) (values : List Value)
    → FitsMsg (Reduce ts class use_no column values) → Back reduce_at (Reduce ts class use_no column values)
unfolding reduce_at
reduce_back ts class use_no column values fits = grind (arith, back_as, back_next, ts_law, class_law, u32_law, back_last, row_law, append_assoc)

reduced_fields : Fields 7 reduced_at
unfolding reduced_at
reduced_fields =
    only_next ts_law (λ ts h1. only_next class_law (λ class h2. only_next u32_law (λ use_no h3.
    only_last _ u64_law (λ count h4. (simp append_assoc, (h1, h2, h3, h4))))))

reduced_back : (ts : Ts) (class : ClassNo) (use_no : ℕ) (count : ℕ)
    → FitsMsg (Reduced ts class use_no count) → Back reduced_at (Reduced ts class use_no count)
unfolding reduced_at
reduced_back ts class use_no count fits = grind (arith, back_as, back_next, ts_law, class_law, u32_law, back_last, u64_law, append_assoc)

ship_fields : Fields 8 ship_at
unfolding ship_at
ship_fields = only_next ts_law (λ ts h1. only_last _ class_law (λ class h2. (refl, (h1, h2))))

ship_back : (ts : Ts) (class : ClassNo) → FitsMsg (Ship ts class) → Back ship_at (Ship ts class)
unfolding ship_at
ship_back ts class fits = back_next _ (ts_law.back ts fits.0) (back_last _ (class_law.back class fits.1))

rows_fields : Fields 9 rows_at
unfolding rows_at
rows_fields =
    only_next ts_law (λ ts h1. only_next class_law (λ class h2. only_last _ rows_law (grind (arith, append_assoc))))

rows_back : (ts : Ts) (class : ClassNo) (rows : List (ℕ × List Value)) → FitsMsg (Rows ts class rows)
    → Back rows_at (Rows ts class rows)
unfolding rows_at
rows_back ts class rows fits = grind (arith, back_as, back_next, ts_law, class_law, back_last, rows_law, append_assoc)

write_fields : Fields 10 write_at
unfolding write_at
write_fields =
    only_next ts_law (λ ts h1. only_next class_law (λ class h2. only_next txn_law (λ txn h3.
    only_last _ (list_law change_law) (λ changes h4. (simp append_assoc, (h1, h2, h3, h4))))))

write_back : (ts : Ts) (class : ClassNo) (txn : TxnNo) (changes : List Change)
    → FitsMsg (Write ts class txn changes) → Back write_at (Write ts class txn changes)
unfolding write_at
write_back ts class txn changes fits = grind (arith, back_as, back_next, ts_law, class_law, txn_law, back_last, list_law, change_law, append_assoc)

null_fields : Fields 11 null_at
unfolding null_at
null_fields = only_next class_law (λ class h1. only_last _ ts_law (λ time h2. (refl, (h1, h2))))

null_back : (class : ClassNo) (time : Ts) → FitsMsg (Null class time) → Back null_at (Null class time)
unfolding null_at
null_back class time fits = back_next _ (class_law.back class fits.0) (back_last _ (ts_law.back time fits.1))

ask_fields : Fields 12 ask_at
unfolding ask_at
ask_fields = only_next class_law (λ class h1. only_last _ ts_law (λ time h2. (refl, (h1, h2))))

ask_back : (class : ClassNo) (time : Ts) → FitsMsg (Ask class time) → Back ask_at (Ask class time)
unfolding ask_at
ask_back class time fits = back_next _ (class_law.back class fits.0) (back_last _ (ts_law.back time fits.1))

hold_fields : Fields 13 (read_as Hold)
hold_fields = only_done Hold _ (refl, tt)

held_fields : Fields 14 held_at
unfolding held_at
held_fields = only_last _ ts_law (λ time h1. (refl, h1))

held_back : (time : Ts) → FitsMsg (Held time) → Back held_at (Held time)
unfolding held_at
held_back time fits = back_last _ (ts_law.back time fits)

done_fields : Fields 15 done_at
unfolding done_at
done_fields = only_last _ ts_law (λ ts h1. (refl, h1))

done_back : (ts : Ts) → FitsMsg (Done ts) → Back done_at (Done ts)
unfolding done_at
done_back ts fits = back_last _ (ts_law.back ts fits)

release_fields : Fields 16 release_at
unfolding release_at
release_fields = only_last _ ts_law (λ ts h1. (refl, h1))

release_back : (ts : Ts) → FitsMsg (Release ts) → Back release_at (Release ts)
unfolding release_at
release_back ts fits = back_last _ (ts_law.back ts fits)

-- a tag that is read is that of the message
by_tags : AllNumbered Fields 1 fields_by_tag
by_tags = grind (arith, read_fields, ready_fields, reject_fields, fetch_fields, values_fields, reduce_fields, reduced_fields, ship_fields, rows_fields, write_fields, null_fields, ask_fields, hold_fields, held_fields, done_fields, release_fields)

behind_tag : (tag : ℕ) (fields : Reading Msg) (text : List ℕ) (msg : Msg)
    → numbered fields_by_tag tag ≡ Some fields → ReadsBack fields text msg → ReadsBack message_at (tag ∷ text) msg
unfolding message_at
behind_tag tag fields text msg is back = grind (arith, nat_tests)

message_back : (msg : Msg) → FitsMsg msg → ReadsBack message_at (spelled msg) msg
message_back (Read ts class txn attempt conds uses) fits =
    behind_tag 1 read_at _ _ refl (read_back ts class txn attempt conds uses fits)
message_back (Ready ts class counts) fits = behind_tag 2 ready_at _ _ refl (ready_back ts class counts fits)
message_back (Reject ts class by write) fits = behind_tag 3 reject_at _ _ refl (reject_back ts class by write fits)
message_back (Fetch ts class use_no column) fits =
    behind_tag 4 fetch_at _ _ refl (fetch_back ts class use_no column fits)
message_back (Values ts class use_no values) fits =
    behind_tag 5 values_at _ _ refl (values_back ts class use_no values fits)
message_back (Reduce ts class use_no column values) fits =
    behind_tag 6 reduce_at _ _ refl (reduce_back ts class use_no column values fits)
message_back (Reduced ts class use_no count) fits =
    behind_tag 7 reduced_at _ _ refl (reduced_back ts class use_no count fits)
message_back (Ship ts class) fits = behind_tag 8 ship_at _ _ refl (ship_back ts class fits)
message_back (Rows ts class rows) fits = behind_tag 9 rows_at _ _ refl (rows_back ts class rows fits)
message_back (Write ts class txn changes) fits = behind_tag 10 write_at _ _ refl (write_back ts class txn changes fits)
message_back (Null class time) fits = behind_tag 11 null_at _ _ refl (null_back class time fits)
message_back (Ask class time) fits = behind_tag 12 ask_at _ _ refl (ask_back class time fits)
message_back Hold fits = behind_tag 13 (read_as Hold) [] _ refl (record { reads = λ whole rest. refl })
message_back (Held time) fits = behind_tag 14 held_at _ _ refl (held_back time fits)
message_back (Done ts) fits = behind_tag 15 done_at _ _ refl (done_back ts fits)
message_back (Release ts) fits = behind_tag 16 release_at _ _ refl (release_back ts fits)

IsTagOf : Reading Msg → List ℕ → Type 0
IsTagOf fields text = (tag : ℕ) × (text ≡ tag ∷ []) × (numbered fields_by_tag tag ≡ Some fields)

pub message_law : Law FitsMsg spelled message_at
unfolding message_at IsTagOf
message_law = record {
  back = message_back;
  only = only_then
      (only_meant {Q = IsTagOf} (numbered fields_by_tag) byte_law (λ tag fields fits is. (tag, refl, is)))
      (λ fields text h.
      let behind : Fields h.0 fields = numbered_so Fields fields_by_tag h.0 fields by_tags h.2 in
      subst (λ (l : List ℕ). OnlyReads (λ msg more. IsSpelled FitsMsg spelled msg (l ++ more)) fields) (sym h.1) behind);
}

-- the whole of the bytes

abbrev good : Msg → Result Msg ℕ
good msg = Ok msg

ended : (msg other : Msg) (at : ℕ) (left : List ℕ)
    → (if is_empty left then good msg else Err at) ≡ good other → (msg ≡ other) × (left ≡ [])
ended msg other at left e = grind (arith, nat_tests)

whole_ok : (r : Result (Msg × Source) ℕ) (msg : Msg) → whole r ≡ Ok msg
    → (t : Source) × (r ≡ Ok (msg, t)) × (t.left ≡ [])
whole_ok r msg e = grind (arith, nat_tests)

pub message_read_back : (msg : Msg) → FitsMsg msg → message_in (spelled msg) ≡ Ok msg
unfolding message_in
message_read_back msg fits =
    let n : ℕ = length (spelled msg) in
    ap (λ (l : List ℕ). whole (message_at (record { whole = n; left = l }))) (sym (append-nil (spelled msg)))
    ∙ ap whole ((message_law.back msg fits).reads n [])

pub message_spelled_so : (bytes : List ℕ) (msg : Msg) → AreBytes bytes → message_in bytes ≡ Ok msg
    → FitsMsg msg × (bytes ≡ spelled msg)
unfolding message_in
message_spelled_so bytes msg are_bytes e =
    let read = whole_ok (message_at (source_of bytes)) msg e in
    let took = message_law.only.took (source_of bytes) read.0 msg are_bytes read.1 in
    (took.holds.1, (took.takes.parts ∙ ap (λ (l : List ℕ). took.text ++ l) read.2 ∙ append-nil took.text) ∙ took.holds.0)
