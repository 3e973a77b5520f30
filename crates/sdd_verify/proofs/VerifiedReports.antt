-- A report is judged to be sound exactly where it is verified.
use Rattle.sdd_verify.proofs.All.{All, All-head, All-tail, AreLines, Bool, Catalogue, Err, HasNoNewline, HasNoSpace, IsInTurn, IsName, IsValid, IsValidTxn, IsVerified, List, MAX_REPORT_BYTES, Numbered, Ok, Result, Txn, TxnNo, Workload, Yes, [], along, ap, append_assoc, arith, begins_with_letter, bind_ok, both, classes_submitted, codes, cond, cut_lines, cut_takes, ends_replies, false, flat_map-map, is_in_turn, is_keyword, is_name_byte, is_order_line, judged, le-leb, leb-true, length, line_behind, lines_of, list_all, map, must, must_ok, named, names_on, nat_le, nat_tests, no_newline-append, numbered_lines, ok_is, order_line, order_line_in, order_on, passed, refl, require, rules, serial_replies, spelled_lines, submitted, subst, sym, tells_reply, texts_of, true, verdict, verdict_of, ℕ, ◌++◌, ◌+◌, ◌-◌, ◌>>=◌, ◌∙◌, ◌∷◌, ◌≡◌, ◌≢◌, ◌≤◌}
use Rattle.sdd_verify.proofs.DifferentNames.{submitted_differ}
use Rattle.sdd_verify.proofs.InTurn.{in_turn, in_turn_again}
use Rattle.sdd_verify.proofs.LineCuts.{IsWhole, cut_are_lines, lines_behind, whole_behind, whole_is}
use Rattle.sdd_verify.proofs.LinesFound.{IsOther, first_order, follows, front_lines, order_again, passed_again, passed_is, rest_lines, spelled_apart}
use Rattle.sdd_verify.proofs.NumbersOfNames.{IsThere, member_at, name_in, names_are_all, numbers_again}
use Rattle.sdd_verify.proofs.OrderWords.{HaveNoSpace, behind_spaces, is_order_line_again, names_again, order_line_is}
use Rattle.sdd_verify.proofs.RepliesPassed.{replies_whole}
use Rattle.sdd_verify.proofs.Submissions.{found_member, submitted_valid}

-- the words of an order line
abbrev words_in : List Txn → List TxnNo → List ℕ
words_in txns order = codes "order" ++ behind_spaces (map (name_in txns) order)

-- which the line of the order spells, and ends
line_is : (txns : List Txn) (order : List TxnNo) (rest : List ℕ) → order_line txns order ++ rest ≡ words_in txns order ++ 10 ∷ rest
line_is txns order rest = grind (arith, nat_tests, behind_spaces, name_in, order_line, flat_map-map, append_assoc)

-- names hold no space and no newline

not_it : (c k : ℕ) → is_name_byte k ≡ false → is_name_byte c ≡ true → c ≢ k
not_it c k other e same = let q : is_name_byte c ≡ is_name_byte k = ap is_name_byte same in absurd cc

bytes_fine : (bytes : List ℕ) → list_all is_name_byte bytes ≡ true → HasNoSpace bytes × HasNoNewline bytes
bytes_fine [] e = (tt, tt)
bytes_fine (c ∷ bytes) e = grind (arith, both, is_name_byte, list_all, not_it, (bytes_fine bytes))

named_bytes : (name : List ℕ) → IsName name → list_all is_name_byte name ≡ true
named_bytes name h = grind (arith, nat_tests, begins_with_letter, nat_le, both, list_all, is_name_byte, is_keyword)

pub name_line : (name : List ℕ) → IsName name → HasNoNewline name
name_line name h = (bytes_fine name (named_bytes name h)).1

name_fine : (cat : Catalogue) (txns : List Txn) (number : TxnNo) → All (IsValidTxn cat) txns
    → IsThere txns number → HasNoSpace (name_in txns number) × HasNoNewline (name_in txns number)
name_fine cat txns number valid there =
    let from = there.0 in
    let within = there.1 in
    let member = member_at txns (number.0 - 1) (omega (arith, from, within)) in
    let is = member.1 in
    let name_is : name_in txns number ≡ member.0.name = rw is refl in
    let named = (found_member (IsValidTxn cat) txns (number.0 - 1) member.0 valid is).named in
    let P : List ℕ → Type 0 = λ l. HasNoSpace l × HasNoNewline l in
    subst P (sym name_is) (bytes_fine member.0.name (named_bytes member.0.name named))

-- all lines of a report that isn't too long

abbrev begun_if : Bool → List ℕ → Result Numbered ℕ
begun_if b report = cond b (Ok (1, lines_of report)) (Err 0)

begun_by : (report : List ℕ) (whole : Numbered) (b : Bool) → nat_le (length report) MAX_REPORT_BYTES ≡ b → begun_if b report ≡ Ok whole
    → (length report ≤ MAX_REPORT_BYTES) × (whole ≡ (1, lines_of report))
begun_by report whole b e h = grind (arith, nat_tests, lines_of, leb-true, ok_is)

begun_is : (report : List ℕ) (whole : Numbered) → numbered_lines report ≡ Ok whole → (length report ≤ MAX_REPORT_BYTES) × (whole ≡ (1, lines_of report))
begun_is report whole h = begun_by report whole (nat_le (length report) MAX_REPORT_BYTES) refl h

-- the lines of a report, part by part
lines_parted : (lines all before : List (List ℕ)) (line words : List ℕ) (behind answers rest : List (List ℕ)) (next : List ℕ) (more : List (List ℕ))
    → lines ≡ all → lines ≡ before ++ line ∷ behind → line ≡ words → behind ≡ answers ++ rest
    → rest ≡ next ∷ more → all ≡ before ++ words ∷ (answers ++ next ∷ more)
lines_parted lines all before line words behind answers rest next more a b c d e = rw (← a, b, c, d, e) refl

-- what each rule that is kept tells
record Sound (cat : Catalogue) (work : Workload) (report : List ℕ) : Type 0 where
  small : length report ≤ MAX_REPORT_BYTES
  order : List TxnNo
  there : All (IsThere (submitted work)) order
  turn : is_in_turn (classes_submitted cat work) order ≡ true
  before : List (List ℕ)
  others : All IsOther before
  next : List ℕ
  other : tells_reply next ≡ false
  more : List (List ℕ)
  lines_are : lines_of report ≡ before ++ words_in (submitted work) order ∷ (lines_of (serial_replies cat work order) ++ next ∷ more)

module _ (cat : Catalogue) (work : Workload) (report : List ℕ) where
  abbrev texts : List Txn
  texts = submitted work

  abbrev Classes : List ℕ
  Classes = classes_submitted cat work

  abbrev After3 : List TxnNo → ℕ → List (List ℕ) → Result (Unit {0}) ℕ
  After3 order number lines = passed number (lines_of (serial_replies cat work order)) lines >>= (λ rest. must rest.0 (ends_replies rest.1))

  abbrev After2 : ℕ × List ℕ × Numbered → Result (Unit {0}) ℕ
  After2 found = order_on texts Classes found.0 found.1 >>= (λ order. After3 order found.2.0 found.2.1)

  abbrev After1 : Numbered → Result (Unit {0}) ℕ
  After1 whole = order_line_in whole.0 whole.1 >>= After2

  order_read : (number : ℕ) (line : List ℕ) (order : List TxnNo) → is_order_line line ≡ true → order_on texts Classes number line ≡ Ok order
      → (line ≡ words_in texts order) × All (IsThere texts) order × (is_in_turn Classes order ≡ true)
  order_read number line order is h =
      let a = bind_ok (along (λ _ name. require number (named texts name)) 0 (names_on line))
      (λ found. must number (is_in_turn Classes found) >>= λ _. Ok found) order h in
      let b = bind_ok (must number (is_in_turn Classes a.0)) (λ _. Ok a.0) order a.2 in
      let same : a.0 ≡ order = ok_is {F = ℕ} a.0 order b.2 in
      let reported = names_are_all number texts 0 (names_on line) a.0 a.1 in
      grind (arith, nat_tests, must_ok, is_in_turn, Classes, words_in, texts, order_line_is, behind_spaces, IsThere)

  sound : (u : Unit {0}) → judged cat work report ≡ Ok u → Sound cat work report
  sound u h =
      let a = bind_ok (numbered_lines report) After1 u h in
      let whole = begun_is report a.0 a.1 in
      let b = bind_ok (order_line_in a.0.0 a.0.1) After2 u a.2 in
      let c = bind_ok (order_on texts Classes b.0.0 b.0.1) (λ order. After3 order b.0.2.0 b.0.2.1) u b.2 in
      let d = bind_ok (passed b.0.2.0 (lines_of (serial_replies cat work c.0)) b.0.2.1) (λ rest. must rest.0 (ends_replies rest.1)) u c.2 in
      let first = first_order a.0.0 a.0.1 b.0 b.1 in
      let reported = order_read b.0.0 b.0.1 c.0 first.is c.1 in
      let next = follows d.0.1 (must_ok d.0.0 (ends_replies d.0.1) u d.2) in
      grind (arith, nat_tests, lines_parted, lines_of, words_in, texts, serial_replies, passed_is)

  -- and so the report is verified
  verified_by : Sound cat work report → IsVerified cat work report
  verified_by s =
      let answers : List ℕ = serial_replies cat work s.order in
      let line : List ℕ = words_in texts s.order in
      let tail : List ℕ = (cut_lines report).1 in
      let ended : List ℕ = spelled_lines s.more ++ tail in
      let whole : IsWhole answers = replies_whole (texts_of texts s.order) _ in
      let lines : AreLines (s.before ++ line ∷ (lines_of answers ++ s.next ∷ s.more)) = subst AreLines s.lines_are (cut_are_lines report) in
      let behind : AreLines (lines_of answers ++ s.next ∷ s.more) = (rest_lines s.before (line ∷ (lines_of answers ++ s.next ∷ s.more)) lines).1 in
      let next : List ℕ = s.next ++ 10 ∷ ended in
      let spelled : spelled_lines (lines_of answers ++ s.next ∷ s.more) ++ tail ≡ answers ++ next =
      grind (arith, nat_tests, spelled_apart, lines_of, spelled_lines, whole_is, append_assoc) in
      let of_order : spelled_lines (line ∷ (lines_of answers ++ s.next ∷ s.more)) ++ tail ≡ order_line texts s.order ++ (answers ++ next) =
      grind (arith, nat_tests, append_assoc, spelled_lines, lines_of, line_is, texts) in
      record {
        small = s.small;
        order = s.order;
        are_submitted = s.there;
        in_turn = in_turn Classes s.order s.turn;
        before = s.before;
        before_lines = front_lines s.before (line ∷ (lines_of answers ++ s.next ∷ s.more)) lines;
        before_order = s.others;
        next = s.next;
        next_line = (rest_lines (lines_of answers) (s.next ∷ s.more) behind).0;
        next_other = s.other;
        rest = ended;
        text_is = sym (cut_takes report) ∙ ap (λ (l : List (List ℕ)). spelled_lines l ++ tail) s.lines_are
            ∙ spelled_apart s.before (line ∷ (lines_of answers ++ s.next ∷ s.more)) tail ∙ ap (λ (l : List ℕ). spelled_lines s.before ++ l) of_order;
      }

  judged_yes : (r : Result (Unit {0}) ℕ) → verdict_of r ≡ Yes → (u : Unit {0}) × (r ≡ Ok u)
  judged_yes r h = grind (arith, nat_tests)

  pub yes_verified : verdict cat work report ≡ Yes → IsVerified cat work report
  yes_verified h = let j = judged_yes (judged cat work report) h in verified_by (sound j.0 j.1)

  -- the other way round

  names_fine : (order : List TxnNo) → All (IsValidTxn cat) texts → All (IsThere texts) order
      → HaveNoSpace (map (name_in texts) order) × HasNoNewline (behind_spaces (map (name_in texts) order))
  names_fine [] valid there = (tt, tt)
  names_fine (number ∷ order) valid there =
      let one = name_fine cat texts number valid (All-head (IsThere texts) number order there) in
      let more = names_fine order valid (All-tail (IsThere texts) number order there) in
      ((one.0, more.0), (λ e. omega (arith, e), no_newline-append (name_in texts number) (behind_spaces (map (name_in texts) order)) one.1 more.1))

  line_fine : (order : List TxnNo) → HasNoNewline (behind_spaces (map (name_in texts) order)) → HasNoNewline (words_in texts order)
  line_fine order h = no_newline-append (codes "order") (behind_spaces (map (name_in texts) order)) (search rules) h

  lines_again : (v : IsVerified cat work report) → HasNoNewline (words_in texts v.order)
      → lines_of report ≡ v.before ++ words_in texts v.order ∷ (lines_of (serial_replies cat work v.order) ++ v.next ∷ lines_of v.rest)
  lines_again v line =
      let answers : List ℕ = serial_replies cat work v.order in
      let words : List ℕ = words_in texts v.order in
      let next : List ℕ = v.next ++ 10 ∷ v.rest in
      let whole : IsWhole answers = replies_whole (texts_of texts v.order) _ in
      let First : List (List ℕ) × List ℕ → List (List ℕ) = λ cut. cut.0 in
      ap lines_of v.text_is ∙ ap First (lines_behind v.before (order_line texts v.order ++ (answers ++ next)) v.before_lines)
      ∙ ap (λ (l : List (List ℕ)). v.before ++ l)
      (ap lines_of (line_is texts v.order (answers ++ next)) ∙ ap First (line_behind words (answers ++ next) line)
      ∙ ap (λ (l : List (List ℕ)). words ∷ l) (grind (arith, nat_tests, whole_behind, lines_of, line_behind)))

  order_on_again : (number : ℕ) (order : List TxnNo) → IsValid cat work → All (IsThere texts) order
      → IsInTurn Classes order → HaveNoSpace (map (name_in texts) order) → order_on texts Classes number (words_in texts order) ≡ Ok order
  order_on_again number order valid there turn fine = grind (
    arith,
    nat_tests,
    name_in,
    texts,
    must,
    is_in_turn,
    Classes,
    names_on,
    words_in,
    names_again,
    along,
    require,
    named,
    numbers_again,
    submitted_differ,
    in_turn_again,
  )

  judged_again : IsValid cat work → IsVerified cat work report → judged cat work report ≡ Ok tt
  judged_again valid v =
      let names_are = names_fine v.order (submitted_valid cat work valid) v.are_submitted in
      let answers : List ℕ = serial_replies cat work v.order in
      let words : List ℕ = words_in texts v.order in
      let number : ℕ = 1 + length v.before in
      let behind : List (List ℕ) = lines_of answers ++ v.next ∷ lines_of v.rest in
      let all : numbered_lines report ≡ Ok (1, lines_of report) = ap (λ (b : Bool). begun_if b report) (le-leb (length report) MAX_REPORT_BYTES v.small) in
      let lines = lines_again v (line_fine v.order names_are.1) in
      let found : order_line_in 1 (v.before ++ words ∷ behind) ≡ Ok (number, words, (number + 1, behind)) =
      order_again 1 v.before words behind v.before_order (is_order_line_again (map (name_in texts) v.order)) in
      grind (
        arith,
        nat_tests,
        order_on,
        texts,
        Classes,
        order_on_again,
        passed,
        lines_of,
        passed_again,
        must,
        ends_replies,
        After1,
        order_line_in,
        After2,
        After3,
      )

  pub verified_yes : IsValid cat work → IsVerified cat work report → verdict cat work report ≡ Yes
  verified_yes valid v = ap verdict_of (judged_again valid v)
