-- The lines of a report: none of its trace tells an order, and what follows the replies begins with a line of no reply.
use Rattle.sdd_verified.proofs.All.{All, All-cons, All-nil, AreLines, Catalogue, Class, Cond, CopyTable, HasNoNewline, IsName, IsOther, List, None, Option, Pending, Rec, ReportedCommit, Some, Ts, Txn, TxnNo, [], append_assoc, arith, attempt_word, class_time, class_word, codes, cond, cond_words, copies_lines, decimal, digit_glyph, digits_onto, false, flat_map, found_member, is_order_line, module_word, name_line, nat_tests, ne_eqb, no_newline-append, of_attempt, of_visit, option_map_or, pending_lines, record_words, refl, reported_of, rules, shipped_line, shipped_of, slice_get, spaced, spelled_lines, subst, suc, sym, tells_reply, time_word, trace, true, txn_name, zero, ℕ, ◌%◌, ◌++◌, ◌+◌, ◌-◌, ◌/◌, ◌<◌, ◌==◌, ◌∷◌, ◌≡◌, ◌≢◌, ◌≤◌}
use Rattle.std.specs.Fmt.{digits}
use Rattle.sdd_run.specs.progress.obligations.history.declared.record.Rec.TheVariants as records

-- numbers

pub record IsNumber (text : List ℕ) : Type 0 where
  pub first : ℕ
  pub rest : List ℕ
  pub is : text ≡ first ∷ rest
  pub most : first ≤ 57
  pub least : 48 ≤ first
  pub line : HasNoNewline text

glyph_is : (d : ℕ) → d < 10 → digit_glyph false d ≡ 48 + d
glyph_is d lt = grind (arith, nat_tests)

-- a digit is no space
pub glyph_apart : (n : ℕ) → digit_glyph false (n % 10) ≢ 32
glyph_apart n e = let small : n % 10 < 10 = omega arith in let glyph = glyph_is (n % 10) small in omega (arith, glyph, e)

digit_first : (n : ℕ) (acc : List ℕ) → HasNoNewline acc → IsNumber (digit_glyph false (n % 10) ∷ acc)
digit_first n acc h =
    let small : n % 10 < 10 = omega arith in
    let glyph = glyph_is (n % 10) small in
    record {
      first = digit_glyph false (n % 10);
      rest = acc;
      is = refl;
      most = omega (arith, glyph, small);
      least = omega (arith, glyph);
      line = (λ e. omega (arith, glyph, e), h);
    }

digits_from : (k n : ℕ) (acc : List ℕ) → HasNoNewline acc → IsNumber (digits_onto (suc k) 10 false n acc)
digits_from zero n acc h = grind arith
digits_from (suc k) n acc h =
    let here = digit_first n acc h in
    let g : ℕ = digit_glyph false (n % 10) in
    elim (n / 10 == 0) as (λ b. IsNumber (cond b (g ∷ acc) (digits_onto (suc k) 10 false (n / 10) (g ∷ acc)))) [
      | true ↦ here
      | false ↦ digits_from k (n / 10) (g ∷ acc) here.line
    ]

pub decimal_is : (n : ℕ) → IsNumber (decimal n)
unfolding digits
decimal_is n = digits_from 63 n [] tt

pub number_line : (n : ℕ) → HasNoNewline (decimal n)
number_line n = (decimal_is n).line

pub spaced_line : (word : List ℕ) → HasNoNewline word → HasNoNewline (spaced word)
spaced_line word h = (λ e. omega (arith, e), h)

-- names

pub named_by : {A : Type 0} (name : A → List ℕ) (members : List A) (i : ℕ) (o : Option A)
    → slice_get members i ≡ o → All (λ m. IsName (name m)) members → HasNoNewline (option_map_or name o [])
named_by name members i None is named = tt
named_by {A} name members i (Some m) is named = name_line (name m) (found_member (λ (k : A). IsName (name k)) members i m named is)

module _ (cat : Catalogue) (txns : List Txn) (classes_named : All (λ (k : Class). IsName k.name) cat.classes)
    (txns_named : All (λ (t : Txn). IsName t.name) txns) where
  pub txn_line : (n : ℕ) → HasNoNewline (txn_name txns n)
  txn_line n = named_by (λ (t : Txn). t.name) txns (n - 1) (slice_get txns (n - 1)) refl txns_named

  pub class_line : (c : ℕ) → HasNoNewline (class_word cat c)
  class_line c = grind (arith, named_by)

  attempt_line : (n attempt : ℕ) → HasNoNewline (attempt_word txns n attempt)
  attempt_line n attempt = no_newline-append (txn_name txns n) (35 ∷ decimal attempt) (txn_line n) (λ e. omega (arith, e), number_line attempt)

  pub class_time_line : (c time : ℕ) → HasNoNewline (class_time cat c time)
  class_time_line c time = no_newline-append (spaced (class_word cat c)) (spaced (decimal time))
      (spaced_line (class_word cat c) (class_line c)) (spaced_line (decimal time) (number_line time))

  time_line : (time : Option Ts) → HasNoNewline (time_word time)
  time_line time = grind (arith, number_line)

  pub module_line : (d : ℕ) → HasNoNewline (spaced (module_word d))
  module_line d = spaced_line (module_word d) (λ e. omega (arith, e), number_line d)

  conds_line : (conds : List Cond) → HasNoNewline (cond_words cat conds)
  conds_line [] = tt
  conds_line (c ∷ conds) = no_newline-append (class_time cat c.class.0 c.time.0) (cond_words cat conds) (class_time_line c.class.0 c.time.0) (conds_line conds)

  attempt_of_line : (word : List ℕ) (n attempt : ℕ) → HasNoNewline word → HasNoNewline (of_attempt word txns n attempt)
  attempt_of_line word n attempt h = no_newline-append word (spaced (attempt_word txns n attempt)) h
      (spaced_line (attempt_word txns n attempt) (attempt_line n attempt))

  visit_line : (word : List ℕ) (n attempt d : ℕ) → HasNoNewline word → HasNoNewline (of_visit word txns n attempt d)
  visit_line word n attempt d h = no_newline-append (of_attempt word txns n attempt) (spaced (module_word d)) (attempt_of_line word n attempt h) (module_line d)

  record_line : (r : Rec) → HasNoNewline (record_words cat txns r)
  record_line (records.Submit txn) = no_newline-append (codes "submit") (spaced (txn_name txns txn.0))
      (search rules) (spaced_line (txn_name txns txn.0) (txn_line txn.0))
  record_line (records.Start txn attempt class ts p2 uses) =
      no_newline-append (of_attempt (codes "start") txns txn.0 attempt)
      (class_time cat class.0 ts.0 ++ spaced (time_word p2))
      (attempt_of_line (codes "start") txn.0 attempt (search rules))
      (no_newline-append (class_time cat class.0 ts.0) (spaced (time_word p2)) (class_time_line class.0 ts.0) (spaced_line (time_word p2) (time_line p2)))
  record_line (records.Arrive txn attempt dm) = visit_line (codes "arrive") txn.0 attempt dm.0 (search rules)
  record_line (records.Wait txn attempt dm conds) =
      no_newline-append (of_visit (codes "wait") txns txn.0 attempt dm.0) (cond_words cat conds)
      (visit_line (codes "wait") txn.0 attempt dm.0 (search rules)) (conds_line conds)
  record_line (records.Answer txn attempt dm) = visit_line (codes "answer") txn.0 attempt dm.0 (search rules)
  record_line (records.Reject txn attempt dm class ts) =
      no_newline-append (of_visit (codes "reject") txns txn.0 attempt dm.0) (class_time cat class.0 ts.0)
      (visit_line (codes "reject") txn.0 attempt dm.0 (search rules)) (class_time_line class.0 ts.0)
  record_line (records.Commit txn attempt reply changes values rows) = attempt_of_line (codes "commit") txn.0 attempt (search rules)
  record_line (records.Apply txn class dm ts) =
      no_newline-append (codes "apply") (spaced (txn_name txns txn.0) ++ spaced (module_word dm.0)) (search rules)
      (no_newline-append (spaced (txn_name txns txn.0)) (spaced (module_word dm.0)) (spaced_line (txn_name txns txn.0) (txn_line txn.0)) (module_line dm.0))
  record_line (records.Pass class dm time) =
      no_newline-append (codes "pass") (spaced (class_word cat class.0) ++ (spaced (module_word dm.0) ++ spaced (decimal time.0))) (search rules)
      (no_newline-append (spaced (class_word cat class.0)) (spaced (module_word dm.0) ++ spaced
      (decimal time.0)) (spaced_line (class_word cat class.0) (class_line class.0))
      (no_newline-append (spaced (module_word dm.0)) (spaced (decimal time.0)) (module_line dm.0) (spaced_line (decimal time.0) (number_line time.0))))
  record_line records.Nothing = search rules

  -- the lines of a trace

  abbrev pub line_of : ℕ × Rec → List ℕ
  line_of made = decimal made.0 ++ spaced (record_words cat txns made.1)

  abbrev pub lines_in : List (ℕ × Rec) → List (List ℕ)
  lines_in [] = []
  lines_in (made ∷ history) = line_of made ∷ lines_in history

  pub trace_is : (history : List (ℕ × Rec)) → trace cat txns history ≡ spelled_lines (lines_in history)
  trace_is [] = refl
  trace_is (made ∷ history) = grind (arith, append_assoc, trace_is history)

  pub trace_lines : (history : List (ℕ × Rec)) → AreLines (lines_in history)
  trace_lines [] = tt
  trace_lines (made ∷ history) = grind (arith, no_newline-append, number_line, record_line, trace_lines history)

  -- which begin with a digit
  other_by : (first : ℕ) (rest : List ℕ) → first ≤ 57 → is_order_line (first ∷ rest) ≡ false
  other_by first rest most = grind (arith, ne_eqb)

  other_line : (made : ℕ × Rec) → is_order_line (line_of made) ≡ false
  other_line made =
      let number = decimal_is made.0 in
      subst (λ (l : List ℕ). is_order_line (l ++ spaced (record_words cat txns made.1)) ≡ false)
      (sym number.is) (other_by number.first (number.rest ++ spaced (record_words cat txns made.1))
      number.most)

  pub trace_others : (history : List (ℕ × Rec)) → All IsOther (lines_in history)
  trace_others [] = All-nil IsOther
  trace_others (made ∷ history) = All-cons IsOther (line_of made) (lines_in history) (other_line made) (trace_others history)

-- what follows the replies begins with a line of no reply

-- a byte with which no line of a reply begins
abbrev pub BeginsNone : ℕ → Type 0
BeginsNone c = (c ≢ 10) × ((rest : List ℕ) → tells_reply (c ∷ rest) ≡ false)

pub record Begins (text : List ℕ) : Type 0 where
  pub first : ℕ
  pub rest : List ℕ
  pub is : text ≡ first ∷ rest
  pub none : BeginsNone first

end_begins : Begins (codes "end\n")
end_begins = record { first = 101; rest = _; is = refl; none = (λ e. omega (arith, e), λ rest. refl) }

shipped_by : (txns : List Txn) (n : TxnNo) (o : Option ReportedCommit) (rest : List ℕ) → Begins rest
    → Begins (option_map_or (λ (reported : ReportedCommit). shipped_line (txn_name txns n.0) reported) o [] ++ rest)
shipped_by txns n o rest h = grind arith

all_shipped : (txns : List Txn) (history : List (ℕ × Rec)) (order : List TxnNo) (rest : List ℕ)
    → Begins rest → Begins (flat_map (shipped_of txns history) order ++ rest)
all_shipped txns history [] rest h = h
all_shipped txns history (n ∷ order) rest h =
    subst Begins (sym (append_assoc (shipped_of txns history n) (flat_map (shipped_of txns history) order) rest))
    (shipped_by txns n (reported_of history n.0) (flat_map (shipped_of txns history) order ++ rest) (all_shipped txns history order rest h))

all_pending : (cat : Catalogue) (txns : List Txn) (pending : List Pending) (rest : List ℕ) → Begins rest → Begins (pending_lines cat txns pending ++ rest)
all_pending cat txns [] rest h = h
all_pending cat txns (p ∷ pending) rest h = grind arith

all_copies : (cat : Catalogue) (copies : List CopyTable) (rest : List ℕ) → Begins rest → Begins (copies_lines cat copies ++ rest)
all_copies cat [] rest h = h
all_copies cat (table ∷ copies) rest h = grind arith

pub rest_begins : (cat : Catalogue) (txns : List Txn) (history : List (ℕ × Rec)) (order : List TxnNo) (pending : List Pending) (copies : List CopyTable)
    → Begins (flat_map (shipped_of txns history) order ++ (pending_lines cat txns pending ++ (copies_lines cat copies ++ codes "end\n")))
rest_begins cat txns history order pending copies =
    all_shipped txns history order (pending_lines cat txns pending ++ (copies_lines cat copies ++ codes "end\n"))
    (all_pending cat txns pending (copies_lines cat copies ++ codes "end\n") (all_copies cat copies (codes "end\n") end_begins))
