-- The line that is due stands in each verified report that has the same lines before it.
use Rattle.sdd_certify.proofs.All.{Bool, Catalogue, Due, Err, IsValid, IsVerified, Line, List, MAX_REPORT_BYTES, NoReply, None, Numbered, Ok, Open, Option, Result, Some, Txn, TxnNo, Workload, [], along, ap, arith, bind_ok, bytes_eq, classes_submitted, cond, database_of, due_behind, due_lines, ends_replies, false, first_order, is_in_turn, is_order_line, judged, leb-false, length, line_or_end, lines_of, must, must_ok, named, names_on, nat_le, numbered_lines, ok_is, order_again, order_line_in, order_on, passed, refl, replies_on, require, serial_replies, slice_get, submitted, subst, suc, sym, take, tells_reply, true, verdict, verdict_of, zero, ℕ, ◌++◌, ◌+◌, ◌-◌, ◌<◌, ◌>>=◌, ◌∙◌, ◌∷◌, ◌≡◌, ◌≢◌, ◌≤◌}
use Rattle.sdd_verify.proofs.LinesFound.{follows, passed_is}
use Rattle.sdd_verify.proofs.NumbersOfNames.{names_are_all}
use Rattle.sdd_verify.proofs.VerifiedReports.{verified_yes}
use Rattle.sdd_verify.specs.declared.verdict.Verdict.TheVariants as verdicts
use Rattle.sdd_certify.proofs.ReplyLines.{get_behind, get_front}
use Rattle.sdd_certify.proofs.SubmittedNames.{all_named}

abbrev At : Type 0
At = ℕ × List ℕ × Numbered

abbrev order_at : ℕ → List ℕ → List (List ℕ) → At
order_at number line rest = (number, line, (number + 1, rest))

abbrev from_first : List (List ℕ) → Numbered
from_first lines = (1, lines)

-- the same order line stands in lines that begin alike

order_from : (number : ℕ) (lines : List (List ℕ)) (at : At) → order_line_in number lines ≡ Ok at → number ≤ at.0
order_from number [] at h = absurd cc
order_from number (line ∷ lines) at h = by_test (is_order_line line) (λ more. order_from (number + 1) lines at more) h
  where
    by_test : (b : Bool) → (order_line_in (number + 1) lines ≡ Ok at → number + 1 ≤ at.0) → cond b (Ok (order_at number line lines)) (order_line_in (number + 1) lines) ≡ Ok at → number ≤ at.0
    by_test true later h = let is : number ≡ at.0 = ap (λ (a : At). a.0) (ok_is {F = ℕ} (order_at number line lines) at h) in omega (arith, is)
    by_test false later h = let more = later h in omega (arith, more)

-- the lines behind it are numbered on
next_number : (number : ℕ) (lines : List (List ℕ)) (at : At) → order_line_in number lines ≡ Ok at → at.2.0 ≡ at.0 + 1
next_number number [] at h = absurd cc
next_number number (line ∷ lines) at h = by_test (is_order_line line) (λ more. next_number (number + 1) lines at more) h
  where
    by_test : (b : Bool) → (order_line_in (number + 1) lines ≡ Ok at → at.2.0 ≡ at.0 + 1) → cond b (Ok (order_at number line lines)) (order_line_in (number + 1) lines) ≡ Ok at → at.2.0 ≡ at.0 + 1
    by_test true later h = ap (λ (a : At). a.2.0) (sym (ok_is {F = ℕ} (order_at number line lines) at h)) ∙ ap (λ (a : At). a.0 + 1) (ok_is {F = ℕ} (order_at number line lines) at h)
    by_test false later h = later h

record SameOrder (number : ℕ) (lines : List (List ℕ)) (at : At) : Type 0 where
  rest : List (List ℕ)
  is : order_line_in number lines ≡ Ok (order_at at.0 at.1 rest)

first_is : (x y : List ℕ) (xs ys : List (List ℕ)) → x ∷ xs ≡ y ∷ ys → (x ≡ y) × (xs ≡ ys)
first_is x y xs ys e = (cc, cc)

same_order : (number n : ℕ) (lines others : List (List ℕ)) (at : At) → take n lines ≡ take n others → order_line_in number lines ≡ Ok at
    → at.0 < number + n → SameOrder number others at
same_order number n [] others at alike h less = absurd cc
same_order number zero (line ∷ lines) others at alike h less =
    let from = order_from number (line ∷ lines) at h in
    absurd (omega (arith, from, less))
same_order number (suc n) (line ∷ lines) [] at alike h less = absurd cc
same_order number (suc n) (line ∷ lines) (other ∷ others) at alike h less =
    let e = first_is line other (take n lines) (take n others) alike in
    by_test (is_order_line line) refl (λ more found. same_order (number + 1) n lines others at more found (omega (arith, less))) e.0 e.1 h
  where
    by_test : (b : Bool) → is_order_line line ≡ b
        → (take n lines ≡ take n others → order_line_in (number + 1) lines ≡ Ok at → SameOrder (number + 1) others at)
        → line ≡ other → take n lines ≡ take n others
        → cond b (Ok (order_at number line lines)) (order_line_in (number + 1) lines) ≡ Ok at → SameOrder number (other ∷ others) at
    by_test true is later same more h =
        let there : order_at number line lines ≡ at = ok_is {F = ℕ} (order_at number line lines) at h in
        let at_is : number ≡ at.0 = ap (λ (a : At). a.0) there in
        let line_is : other ≡ at.1 = sym same ∙ ap (λ (a : At). a.1) there in
        let test : is_order_line other ≡ true = ap is_order_line (sym same) ∙ is in
        record { rest = others; is = rw test (rw (line_is, at_is) refl) }
    by_test false is later same more h =
        let test : is_order_line other ≡ false = ap is_order_line (sym same) ∙ is in
        let s = later more h in
        record { rest = s.rest; is = rw test s.is }

-- what follows the order line of a verified report
record OfVerified (cat : Catalogue) (work : Workload) (at : At) : Type 0 where
  order : List TxnNo
  ordered : order_on (submitted work) (classes_submitted cat work) at.0 at.1 ≡ Ok order
  due_is : lines_of (serial_replies cat work order) ≡ due_lines cat work (names_on at.1)
  next : List ℕ
  more : List (List ℕ)
  other_is : tells_reply next ≡ false
  rest_is : at.2.1 ≡ lines_of (serial_replies cat work order) ++ next ∷ more

abbrev begun_if : Bool → List ℕ → Result Numbered ℕ
begun_if b report = cond b (Ok (1, lines_of report)) (Err 0)

numbered_by : (report : List ℕ) (whole : Numbered) (b : Bool) → begun_if b report ≡ Ok whole → from_first (lines_of report) ≡ whole
numbered_by report whole true h = ok_is {F = ℕ} (from_first (lines_of report)) whole h
numbered_by report whole false h = absurd cc

judged_yes : (r : Result (Unit {0}) ℕ) → verdict_of r ≡ verdicts.Yes → (u : Unit {0}) × (r ≡ Ok u)
judged_yes (Ok u) h = (u, refl)
judged_yes (Err number) h = absurd cc

no_is : (x y : ℕ) → verdicts.No x ≡ verdicts.No y → x ≡ y
no_is x y e = cc

abbrev failed : {A : Type 0} → ℕ → Result A ℕ
failed n = Err n

err_is : {A : Type 0} (x y : ℕ) → failed {A = A} x ≡ failed {A = A} y → x ≡ y
err_is x y e = cc

line_is : (x y : List ℕ) → Line x ≡ Line y → x ≡ y
line_is x y e = cc

module _ (cat : Catalogue) (work : Workload) where
  abbrev Replies : List TxnNo → List (List ℕ)
  Replies order = lines_of (serial_replies cat work order)

  abbrev After3 : At → List TxnNo → Result (Unit {0}) ℕ
  After3 at order = passed at.2.0 (Replies order) at.2.1 >>= (λ (rest : Numbered). must rest.0 (ends_replies rest.1))

  abbrev After2 : At → Result (Unit {0}) ℕ
  After2 at = order_on (submitted work) (classes_submitted cat work) at.0 at.1 >>= (λ (order : List TxnNo). After3 at order)

  abbrev After1 : Numbered → Result (Unit {0}) ℕ
  After1 whole = order_line_in whole.0 whole.1 >>= After2

  due_by : (number : ℕ) (line : List ℕ) (order : List TxnNo) → IsValid cat work
      → order_on (submitted work) (classes_submitted cat work) number line ≡ Ok order → Replies order ≡ due_lines cat work (names_on line)
  due_by number line order valid h =
      let txns = submitted work in
      let classes = classes_submitted cat work in
      let a = bind_ok (along (λ _ name. require number (named txns name)) 0 (names_on line))
      (λ (found : List TxnNo). must number (is_in_turn classes found) >>= λ _. Ok found) order h in
      let b = bind_ok (must number (is_in_turn classes a.0)) (λ _. Ok a.0) order a.2 in
      let same : a.0 ≡ order = ok_is {F = ℕ} a.0 order b.2 in
      let all = names_are_all number txns 0 (names_on line) a.0 a.1 in
      ap Replies (sym same) ∙ sym (ap (due_lines cat work) all.0 ∙ ap (λ (ts : List Txn). lines_of (replies_on cat (database_of cat work.rows) ts)) (all_named cat work a.0 valid all.1))

  verified_by : (at : At) (u : Unit {0}) → IsValid cat work → After2 at ≡ Ok u → OfVerified cat work at
  verified_by at u valid h =
      let c = bind_ok (order_on (submitted work) (classes_submitted cat work) at.0 at.1) (λ (order : List TxnNo). After3 at order) u h in
      let d = bind_ok (passed at.2.0 (Replies c.0) at.2.1) (λ (rest : Numbered). must rest.0 (ends_replies rest.1)) u c.2 in
      let f = follows d.0.1 (must_ok d.0.0 (ends_replies d.0.1) u d.2) in
      record {
        order = c.0;
        ordered = c.1;
        due_is = due_by at.0 at.1 c.0 valid c.1;
        next = f.next;
        more = f.more;
        other_is = f.other;
        rest_is = passed_is at.2.0 (Replies c.0) at.2.1 d.0 d.1 ∙ ap (λ (l : List (List ℕ)). Replies c.0 ++ l) f.whole;
      }

  verified_at : (other : List ℕ) (at : At) → IsValid cat work → IsVerified cat work other → order_line_in 1 (lines_of other) ≡ Ok at → OfVerified cat work at
  verified_at other at valid v h =
      let j = judged_yes (judged cat work other) (verified_yes cat work other valid v) in
      let a = bind_ok (numbered_lines other) After1 j.0 j.1 in
      let whole : from_first (lines_of other) ≡ a.0 = numbered_by other a.0 (nat_le (length other) MAX_REPORT_BYTES) a.1 in
      let begun : After1 (from_first (lines_of other)) ≡ Ok j.0 = ap After1 whole ∙ a.2 in
      let after : After2 at ≡ Ok j.0 = subst (λ (r : Result At ℕ). (r >>= After2) ≡ Ok j.0) h begun in
      verified_by at j.0 valid after

  -- members

  get_none : (xs : List (List ℕ)) (k : ℕ) → slice_get xs k ≡ None → length xs ≤ k
  get_none [] k h = omega arith
  get_none (x ∷ xs) zero h = absurd cc
  get_none (x ∷ xs) (suc k) h = let more = get_none xs k h in omega (arith, more)

  passed_err : (first : ℕ) (expected lines : List (List ℕ)) (number : ℕ) → passed first expected lines ≡ Err number → number ≤ first + length expected
  passed_err first [] lines number h = absurd cc
  passed_err first (line ∷ expected) [] number h = let is : first ≡ number = err_is {A = Numbered} first number h in omega (arith, is)
  passed_err first (line ∷ expected) (found ∷ lines) number h =
      by_test (bytes_eq found line) (λ more. passed_err (first + 1) expected lines number more) h
    where
      by_test : (b : Bool) → (passed (first + 1) expected lines ≡ Err number → number ≤ first + 1 + length expected) → cond b (passed (first + 1) expected lines) (Err first) ≡ Err number → number ≤ first + length (line ∷ expected)
      by_test true later h = let more = later h in omega (arith, more)
      by_test false later h = let is : first ≡ number = err_is {A = Numbered} first number h in omega (arith, is)

  passed_ok : (first : ℕ) (expected lines : List (List ℕ)) (rest : Numbered) → passed first expected lines ≡ Ok rest → rest.0 ≡ first + length expected
  passed_ok first [] lines rest h =
      let is : first ≡ rest.0 = ap (λ (r : Numbered). r.0) (ok_is {F = ℕ} (first, lines) rest h) in
      omega (arith, is)
  passed_ok first (line ∷ expected) [] rest h = absurd cc
  passed_ok first (line ∷ expected) (found ∷ lines) rest h =
      by_test (bytes_eq found line) (λ more. passed_ok (first + 1) expected lines rest more) h
    where
      by_test : (b : Bool) → (passed (first + 1) expected lines ≡ Ok rest → rest.0 ≡ first + 1 + length expected) → cond b (passed (first + 1) expected lines) (Err first) ≡ Ok rest → rest.0 ≡ first + length (line ∷ expected)
      by_test true later h = let more = later h in omega (arith, more)
      by_test false later h = absurd cc

  -- where the lines of a report begin as those of a verified one
  record Alike (at : At) (other : List ℕ) (number : ℕ) : Type 0 where
    order : List TxnNo
    ordered : order_on (submitted work) (classes_submitted cat work) at.0 at.1 ≡ Ok order
    due_is : Replies order ≡ due_lines cat work (names_on at.1)
    next : List ℕ
    more : List (List ℕ)
    other_is : tells_reply next ≡ false
    member : slice_get (lines_of other) (number - 1) ≡ slice_get (due_lines cat work (names_on at.1) ++ next ∷ more) (number - (at.0 + 1))

  alike : (lines : List (List ℕ)) (other : List ℕ) (number : ℕ) (at : At) → IsValid cat work → IsVerified cat work other
      → take (number - 1) lines ≡ take (number - 1) (lines_of other) → order_line_in 1 lines ≡ Ok at → at.0 < number → Alike at other number
  alike lines other number at valid v same h less =
      let s = same_order 1 (number - 1) lines (lines_of other) at same h (omega (arith, less)) in
      let there : At = order_at at.0 at.1 s.rest in
      let f = first_order 1 (lines_of other) there s.is in
      let of : OfVerified cat work there = verified_at other there valid v s.is in
      let again : order_line_in 1 (lines_of other) ≡ Ok (order_at (1 + length f.before) at.1 s.rest) =
      ap (order_line_in 1) f.whole ∙ order_again 1 f.before at.1 s.rest f.others f.is in
      let count : at.0 ≡ 1 + length f.before =
      ap (λ (a : At). a.0) (ok_is {F = ℕ} there (order_at (1 + length f.before) at.1 s.rest) (sym s.is ∙ again)) in
      let place : length f.before + suc (number - (at.0 + 1)) ≡ number - 1 = omega (arith, count, less) in
      let due_is = of.due_is in
      record {
        order = of.order;
        ordered = of.ordered;
        due_is = of.due_is;
        next = of.next;
        more = of.more;
        other_is = of.other_is;
        member = ap (λ (l : List (List ℕ)). slice_get l (number - 1)) f.whole
            ∙ get_behind f.before (at.1 ∷ s.rest) (number - 1) (suc (number - (at.0 + 1))) place
            ∙ ap (λ (l : List (List ℕ)). slice_get l (number - (at.0 + 1)))
            (of.rest_is ∙ ap (λ (l : List (List ℕ)). l ++ of.next ∷ of.more) due_is);
      }

  -- what is due there

  line_by : (o : Option (List ℕ)) (line : List ℕ) → line_or_end o ≡ Line line → o ≡ Some line
  line_by None line h = absurd cc
  line_by (Some x) line h = ap (λ l. Some l) (line_is x line h)

  none_by : (o : Option (List ℕ)) → line_or_end o ≡ NoReply → o ≡ None
  none_by None h = refl
  none_by (Some x) h = absurd cc

  -- the number of the line, and what is due at it
  record Behind (lines : List (List ℕ)) (number : ℕ) (due : Due) : Type 0 where
    at : At
    found : order_line_in 1 lines ≡ Ok at
    behind : at.0 < number
    is : line_or_end (slice_get (due_lines cat work (names_on at.1)) (number - (at.0 + 1))) ≡ due

  behind_by : (lines : List (List ℕ)) (number : ℕ) (due : Due) (r : Result At ℕ) → due ≢ Open → order_line_in 1 lines ≡ r → due_behind cat work number r ≡ due
      → Behind lines number due
  behind_by lines number due (Err n) some e h = absurd (some (sym h))
  behind_by lines number due (Ok at) some e h = by_test (nat_le number at.0) refl h
    where
      by_test : (b : Bool) → nat_le number at.0 ≡ b
          → cond b Open (line_or_end (slice_get (due_lines cat work (names_on at.1)) (number - at.2.0))) ≡ due → Behind lines number due
      by_test true is h = absurd (some (sym h))
      by_test false is h =
          let next = next_number 1 lines at e in
          let less = leb-false number at.0 is in
          record { at = at; found = e; behind = less; is = subst (λ n. line_or_end (slice_get (due_lines cat work (names_on at.1)) (number - n)) ≡ due) next h }

  pub line_expected : (report other line : List ℕ) (number : ℕ) → IsValid cat work → IsVerified cat work other
      → take (number - 1) (lines_of report) ≡ take (number - 1) (lines_of other)
      → due_behind cat work number (order_line_in 1 (lines_of report)) ≡ Line line → slice_get (lines_of other) (number - 1) ≡ Some line
  line_expected report other line number valid v same h =
      let b = behind_by (lines_of report) number (Line line) (order_line_in 1 (lines_of report)) (λ e. absurd cc) refl h in
      let a = alike (lines_of report) other number b.at valid v same b.found b.behind in
      a.member ∙ get_front (due_lines cat work (names_on b.at.1)) (a.next ∷ a.more) (number - (b.at.0 + 1)) line
      (line_by (slice_get (due_lines cat work (names_on b.at.1)) (number - (b.at.0 + 1))) line b.is)

  -- where all replies have come

  judged_no : (r : Result (Unit {0}) ℕ) (number : ℕ) → verdict_of r ≡ verdicts.No number → r ≡ Err number
  judged_no (Ok u) number h = absurd cc
  judged_no (Err k) number h = ap (λ (n : ℕ). Err n) (no_is k number h)

  must_err : (k : ℕ) (b : Bool) (number : ℕ) → must k b ≡ Err number → k ≡ number
  must_err k true number h = absurd cc
  must_err k false number h = err_is {A = Unit {0}} k number h

  last_by : (first : ℕ) (expected lines : List (List ℕ)) (r : Result Numbered ℕ) (number : ℕ) → passed first expected lines ≡ r
      → (r >>= (λ (rest : Numbered). must rest.0 (ends_replies rest.1))) ≡ Err number → number ≤ first + length expected
  last_by first expected lines (Err k) number e h =
      let same = err_is {A = Unit {0}} k number h in
      let most = passed_err first expected lines k e in
      omega (arith, same, most)
  last_by first expected lines (Ok rest) number e h =
      let is = passed_ok first expected lines rest e in
      let same = must_err rest.0 (ends_replies rest.1) number h in
      omega (arith, is, same)

  begun_no : (report : List ℕ) (number : ℕ) (b : Bool) → 0 < number → (begun_if b report >>= After1) ≡ Err number
      → After1 (from_first (lines_of report)) ≡ Err number
  begun_no report number true some h = h
  begun_no report number false some h = let is = err_is {A = Unit {0}} 0 number h in absurd (omega (arith, some, is))

  pub no_reply_expected : (report other : List ℕ) (number : ℕ) → IsValid cat work → IsVerified cat work other
      → take (number - 1) (lines_of report) ≡ take (number - 1) (lines_of other) → verdict cat work report ≡ verdicts.No number
      → due_behind cat work number (order_line_in 1 (lines_of report)) ≡ NoReply
      → (next : List ℕ) × (slice_get (lines_of other) (number - 1) ≡ Some next) × (tells_reply next ≡ false)
  no_reply_expected report other number valid v same fault h =
      let b = behind_by (lines_of report) number NoReply (order_line_in 1 (lines_of report)) (λ e. absurd cc) refl h in
      let a = alike (lines_of report) other number b.at valid v same b.found b.behind in
      let due : List (List ℕ) = due_lines cat work (names_on b.at.1) in
      let behind = b.behind in
      let begun = begun_no report number (nat_le (length report) MAX_REPORT_BYTES) (omega (arith, behind)) (judged_no (judged cat work report) number fault) in
      let after : After2 b.at ≡ Err number = subst (λ (r : Result At ℕ). (r >>= After2) ≡ Err number) b.found begun in
      let served : After3 b.at a.order ≡ Err number =
      subst (λ (r : Result (List TxnNo) ℕ). (r >>= (λ (order : List TxnNo). After3 b.at order)) ≡ Err number) a.ordered after in
      let last = last_by b.at.2.0 (Replies a.order) b.at.2.1 (passed b.at.2.0 (Replies a.order) b.at.2.1) number refl served in
      let counted : length (Replies a.order) ≡ length due = ap (λ (l : List (List ℕ)). length l) a.due_is in
      let numbered = next_number 1 (lines_of report) b.at b.found in
      let least = get_none due (number - (b.at.0 + 1)) (none_by (slice_get due (number - (b.at.0 + 1))) b.is) in
      let place : length due + 0 ≡ number - (b.at.0 + 1) = omega (arith, last, counted, numbered, least) in
      (a.next, a.member ∙ get_behind due (a.next ∷ a.more) (number - (b.at.0 + 1)) 0 place, a.other_is)
