-- The first order line of a report, and the lines before it.
use Rattle.sdd_certify.proofs.All.{All, All-head, All-tail, AreLines, Bool, Err, Finding, FirstOrder, HasOrder, IsOther, LineRule, List, MAX_REPORT_BYTES, Numbered, Ok, Result, Yes, [], ap, append_assoc, before_order, cond, cut_are_lines, cut_lines, cut_takes, false, finding, first_fault, first_order, found_by, front_lines, is_order_line, le-leb, leb-true, length, line_behind, lines_behind, lines_of, names_on, nat_le, order_again, order_in, order_line_in, refl, rest_lines, spelled_apart, spelled_lines, subst, sym, true, ℕ, ◌++◌, ◌+◌, ◌>>=◌, ◌∙◌, ◌∷◌, ◌≡◌, ◌≤◌}

abbrev At : Type 0
At = ℕ × List ℕ × Numbered

-- a report with an order isn't too long

abbrev begun_if : Bool → List ℕ → Result Numbered ℕ
begun_if b report = cond b (Ok (1, lines_of report)) (Err 0)

small_by : (report : List ℕ) (at : At) (b : Bool) → nat_le (length report) MAX_REPORT_BYTES ≡ b
    → (begun_if b report >>= (λ (whole : Numbered). order_line_in whole.0 whole.1)) ≡ Ok at
    → (length report ≤ MAX_REPORT_BYTES) × (order_line_in 1 (lines_of report) ≡ Ok at)
small_by report at true e h = (leb-true (length report) MAX_REPORT_BYTES e, h)
small_by report at false e h = absurd cc

-- lines before an order line
before_is : (before : List (List ℕ)) (line : List ℕ) (rest : List (List ℕ)) → All IsOther before → is_order_line line ≡ true
    → before_order (before ++ line ∷ rest) ≡ before
before_is [] line rest others is = rw is refl
before_is (first ∷ before) line rest others is =
    let other : is_order_line first ≡ false = All-head IsOther first before others in
    rw other (ap (λ (l : List (List ℕ)). first ∷ l) (before_is before line rest (All-tail IsOther first before others) is))

-- such an order line, as it is found
pub record Found (report : List ℕ) (at : At) : Type 0 where
  pub has : HasOrder report
  pub line : at.1 ≡ has.order
  pub before : before_order (lines_of report) ≡ has.before

parts_by : (report : List ℕ) (at : At) → length report ≤ MAX_REPORT_BYTES → FirstOrder 1 (lines_of report) at → Found report at
parts_by report at small f =
    let tail : List ℕ = (cut_lines report).1 in
    let rest : List (List ℕ) = at.2.1 in
    let lines : AreLines (f.before ++ at.1 ∷ rest) = subst AreLines f.whole (cut_are_lines report) in
    record {
      has = record {
        small = small;
        before = f.before;
        before_lines = front_lines f.before (at.1 ∷ rest) lines;
        before_order = f.others;
        order = at.1;
        order_line = (rest_lines f.before (at.1 ∷ rest) lines).0;
        order_is = f.is;
        rest = spelled_lines rest ++ tail;
        text_is = sym (cut_takes report) ∙ ap (λ (l : List (List ℕ)). spelled_lines l ++ tail) f.whole
            ∙ spelled_apart f.before (at.1 ∷ rest) tail
            ∙ ap (λ (l : List ℕ). spelled_lines f.before ++ l) (append_assoc at.1 (10 ∷ spelled_lines rest) tail);
      };
      line = refl;
      before = ap before_order f.whole ∙ before_is f.before at.1 rest f.others f.is;
    }

found_order : (report : List ℕ) (at : At) → order_in report ≡ Ok at → Found report at
found_order report at e =
    let s = small_by report at (nat_le (length report) MAX_REPORT_BYTES) refl e in
    parts_by report at s.0 (first_order 1 (lines_of report) at s.1)

-- what is found of a report that has an order
pub record FoundOf (rule : List (List ℕ) → LineRule) (report : List ℕ) (finding : Finding) : Type 0 where
  pub has : HasOrder report
  pub is : first_fault (rule (names_on has.order)) has.before ≡ finding

yes_by : (rule : List (List ℕ) → LineRule) (report : List ℕ) (r : Result At ℕ) → order_in report ≡ r → found_by rule (lines_of report) r ≡ Yes
    → FoundOf rule report Yes
yes_by rule report (Err number) e h = absurd cc
yes_by rule report (Ok at) e h =
    let f = found_order report at e in
    record {
      has = f.has;
      is = subst (λ (l : List ℕ). first_fault (rule (names_on l)) f.has.before ≡ Yes) f.line
          (subst (λ (ls : List (List ℕ)). first_fault (rule (names_on at.1)) ls ≡ Yes) f.before h);
    }

-- where no line is found at fault, the report has an order
pub yes_order : (rule : List (List ℕ) → LineRule) (report : List ℕ) → finding rule report ≡ Yes → FoundOf rule report Yes
yes_order rule report h = yes_by rule report (order_in report) refl h

-- and what is found by the parts of a report is found of it

lines_are : (report : List ℕ) (h : HasOrder report) → lines_of report ≡ h.before ++ h.order ∷ lines_of h.rest
lines_are report h =
    let First : List (List ℕ) × List ℕ → List (List ℕ) = λ cut. cut.0 in
    ap lines_of h.text_is ∙ ap First (lines_behind h.before (h.order ++ 10 ∷ h.rest) h.before_lines)
    ∙ ap (λ (l : List (List ℕ)). h.before ++ l) (ap First (line_behind h.order h.rest h.order_line))

order_is : (report : List ℕ) (h : HasOrder report)
    → order_in report ≡ Ok (1 + length h.before, h.order, (1 + length h.before + 1, lines_of h.rest))
order_is report h =
    let fits : nat_le (length report) MAX_REPORT_BYTES ≡ true = le-leb (length report) MAX_REPORT_BYTES h.small in
    let lines : lines_of report ≡ h.before ++ h.order ∷ lines_of h.rest = lines_are report h in
    rw fits (ap (order_line_in 1) lines ∙ order_again 1 h.before h.order (lines_of h.rest) h.before_order h.order_is)

pub order_found : (rule : List (List ℕ) → LineRule) (report : List ℕ) (finding_is : Finding) (f : FoundOf rule report finding_is)
    → finding rule report ≡ finding_is
order_found rule report finding_is f =
    let h = f.has in
    let before : before_order (lines_of report) ≡ h.before =
    ap before_order (lines_are report h) ∙ before_is h.before h.order (lines_of h.rest) h.before_order h.order_is in
    ap (found_by rule (lines_of report)) (order_is report h)
    ∙ ap (λ (ls : List (List ℕ)). first_fault (rule (names_on h.order)) ls) before ∙ f.is
