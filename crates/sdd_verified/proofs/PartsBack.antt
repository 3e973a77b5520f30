-- The lines of a report give back what they tell.
use Rattle.sdd_verified.proofs.All.{AllByRecursion, AllWords, Bool, Catalogue, CopyTable, HasNoSpace, Int, IsPlain, List, Overflow, Pending, Plain, Reply, Row, Rows, Some, Text, TooMany, Txn, Value, [], all_pending_words, answers_words, ap, append_assoc, append_cancel_left, append_cancel_right, arith, codes, cond, copies_words, copy_words, decimal, decimal_injective, digit_glyph, digits_onto, false, flat_map, in_range, length, line_bytes, mag, map, more_bytes, order_words, outcome_words, pending_names, pending_words, place_words, queries_words, query_words, refl, replies_words, reported_copies, row_words, rows_words, scan, scan_again, signed_decimal, spaced, subst, suc, sym, true, txn_name, value_bytes, value_word, why_words, word_bytes, zero, ℕ, ℤ, ◌%◌, ◌*◌, ◌++◌, ◌+◌, ◌/◌, ◌==◌, ◌^◌, ◌||◌, ◌∙◌, ◌∷◌, ◌≡◌, ◌≤◌}
use Rattle.std.specs.Fmt.{digits}
use Rattle.sdd_verified.proofs.ReportLines.{decimal_is, glyph_apart}
use Rattle.sdd_verified.proofs.ValuesKept.{Answers, Hold, Holds}
use Rattle.sdd_words.specs.declared.split.Mode.TheVariants.{Start}

-- lists

pub same_first : {A : Type 0} (x y : A) (xs ys : List A) → x ∷ xs ≡ y ∷ ys → (x ≡ y) × (xs ≡ ys)
same_first x y xs ys e = let p : x ≡ y = cc in let q : xs ≡ ys = cc in (p, q)

-- the first member, if there is one, fails a test
abbrev pub FirstFails : {A : Type 0} → (A → Bool) → List A → Type 0
FirstFails p [] = Unit {0}
FirstFails p (x ∷ xs) = p x ≡ false

abbrev pub AllPass : {A : Type 0} → (A → Bool) → List A → Type 0
AllPass p xs = AllByRecursion (λ x. p x ≡ true) xs

passes_not : {A : Type 0} (p : A → Bool) (x : A) (xs ys : List A) → p x ≡ true → x ∷ xs ≡ ys → FirstFails p ys → ⊥
passes_not p x xs ys h e f = let g : p x ≡ false = subst (FirstFails p) (sym e) f in let w : true ≡ false = sym h ∙ g in absurd cc

-- two lists that begin with members that pass, and go on with none, are parted at one place
pub parted : {A : Type 0} (p : A → Bool) (xs zs ys ws : List A) → AllPass p xs → AllPass p zs → FirstFails p ys → FirstFails p ws
    → xs ++ ys ≡ zs ++ ws → (xs ≡ zs) × (ys ≡ ws)
parted p [] [] ys ws h k f g e = (refl, e)
parted p [] (z ∷ zs) ys ws h k f g e = absurd (passes_not p z (zs ++ ws) ys k.0 (sym e) f)
parted p (x ∷ xs) [] ys ws h k f g e = absurd (passes_not p x (xs ++ ys) ws h.0 e g)
parted p (x ∷ xs) (z ∷ zs) ys ws h k f g e =
    let s = same_first x z (xs ++ ys) (zs ++ ws) e in
    let r = parted p xs zs ys ws h.1 k.1 f g s.1 in
    (ap (λ y. y ∷ xs) s.0 ∙ ap (λ l. z ∷ l) r.0, r.1)

pub fails_on : {A : Type 0} (p : A → Bool) (xs ys : List A) → FirstFails p xs → FirstFails p ys → FirstFails p (xs ++ ys)
fails_on p xs ys h k = grind arith

pub both_pass : {A : Type 0} (p : A → Bool) (xs ys : List A) → AllPass p xs → AllPass p ys → AllPass p (xs ++ ys)
both_pass p [] ys h k = k
both_pass p (x ∷ xs) ys h k = (h.0, both_pass p xs ys h.1 k)

-- lines by their first two bytes

abbrev pub kind : List ℕ → ℕ
kind [] = 0
kind (a ∷ []) = a
kind (a ∷ b ∷ line) = 256 * a + b

abbrev pub is_row : List ℕ → Bool
is_row line = kind line == kind (codes "row")

abbrev pub is_query : List ℕ → Bool
is_query line = kind line == kind (codes "query")

abbrev pub is_reply : List ℕ → Bool
is_reply line = (kind line == kind (codes "reply")) || (is_query line || is_row line)

abbrev pub is_shipped : List ℕ → Bool
is_shipped line = kind line == kind (codes "shipped")

abbrev pub is_pending : List ℕ → Bool
is_pending line = kind line == kind (codes "pending")

-- numbers hold no space, and give back what they tell

no_space_digits : (k n : ℕ) (acc : List ℕ) → HasNoSpace acc → HasNoSpace (digits_onto (suc k) 10 false n acc)
no_space_digits zero n acc h = grind arith
no_space_digits (suc k) n acc h =
    let g : ℕ = digit_glyph false (n % 10) in
    let here : HasNoSpace (g ∷ acc) = (glyph_apart n, h) in
    elim (n / 10 == 0) as (λ b. HasNoSpace (cond b (g ∷ acc) (digits_onto (suc k) 10 false (n / 10) (g ∷ acc)))) [
      | true ↦ here
      | false ↦ no_space_digits k (n / 10) (g ∷ acc) here
    ]

no_space_decimal : (n : ℕ) → HasNoSpace (decimal n)
unfolding digits
no_space_decimal n = no_space_digits 63 n [] tt

plain_by : (bytes : List ℕ) (first : ℕ) (rest : List ℕ) → bytes ≡ first ∷ rest → 48 ≤ first → HasNoSpace bytes → IsPlain bytes
plain_by bytes first rest e least h = grind arith

decimal_plain : (n : ℕ) → IsPlain (decimal n)
decimal_plain n = let d = decimal_is n in plain_by (decimal n) d.first d.rest d.is d.least (no_space_decimal n)

signed_plain : (n : ℤ) → IsPlain (signed_decimal n)
signed_plain n = grind (arith, decimal_plain)

no_minus : (n m : ℕ) → decimal n ≡ 45 ∷ decimal m → ⊥
no_minus n m e =
    let d = decimal_is n in
    let s = same_first d.first 45 d.rest (decimal m) (sym d.is ∙ e) in
    let first = s.0 in let least = d.least in omega (arith, first, least)

-- a number of 64 bits, or a text
abbrev pub FitsReport : Value → Type 0
FitsReport (Int n) = mag n ≤ 2 ^ 63
FitsReport (Text t) = Unit {0}

pub ints_fit_report : (n : ℤ) → in_range n ≡ true → FitsReport (Int n)
ints_fit_report n fits = grind arith

number_back : (a b : ℤ) → mag a ≤ 2 ^ 63 → mag b ≤ 2 ^ 63 → signed_decimal a ≡ signed_decimal b → a ≡ b
number_back a b h k e = grind (arith, decimal_injective, no_minus)

-- rows give back their values

abbrev pub AreAllValues : List Row → Type 0
AreAllValues rows = Hold FitsReport ints_fit_report rows

abbrev AreValues : Row → Type 0
AreValues row = Holds FitsReport ints_fit_report row

plain_is : (a b : List ℕ) → Plain a ≡ Plain b → a ≡ b
plain_is a b e = cc

value_back : (v w : Value) → FitsReport v → FitsReport w → value_word v ≡ value_word w → v ≡ w
value_back (Int a) (Int b) h k e = ap (λ n. Int n) (number_back a b h k (plain_is (signed_decimal a) (signed_decimal b) e))
value_back (Text s) (Text t) h k e = cc
value_back _ _ h k e = cc

values_back : (row other : Row) → AreValues row → AreValues other → map value_word row ≡ map value_word other → row ≡ other
values_back [] [] h k e = refl
values_back (v ∷ row) (w ∷ other) h k e =
    let s = same_first (value_word v) (value_word w) (map value_word row) (map value_word other) e in
    ap (λ x. x ∷ row) (value_back v w h.0 k.0 s.0) ∙ ap (λ l. w ∷ l) (values_back row other h.1 k.1 s.1)
values_back _ _ h k e = cc

values_are : (row : Row) → flat_map (λ v. 32 ∷ value_bytes v) row ≡ more_bytes (map value_word row)
values_are [] = refl
values_are (v ∷ row) = ap (λ (l : List ℕ). 32 ∷ (word_bytes (value_word v) ++ l)) (values_are row)

words_fine : (row : Row) → AreValues row → AllWords (map value_word row)
words_fine [] h = tt
words_fine (Int n ∷ row) h = (signed_plain n, words_fine row h.1)
words_fine (Text t ∷ row) h = (tt, words_fine row h.1)

row_is_line : (row : Row) → row_words row ≡ line_bytes (Plain (codes "row") ∷ map value_word row)
row_is_line row = ap (λ (l : List ℕ). codes "row" ++ l) (values_are row)

row_scanned : (row : Row) → AreValues row → scan Start [] (row_words row) ≡ Some (Plain (codes "row") ∷ map value_word row)
row_scanned row h =
    ap (λ (l : List ℕ). scan Start [] l) (row_is_line row)
    ∙ scan_again (Plain (codes "row") ∷ map value_word row)
    (((λ e. omega (arith, e)), (λ e. omega (arith, e)), ((λ e. omega (arith, e)), ((λ e. omega (arith, e)), tt))), words_fine row h)

row_back : (row other : Row) → AreValues row → AreValues other → row_words row ≡ row_words other → row ≡ other
row_back row other h k e = grind (arith, row_scanned, values_back)

rows_back : (rows others : List Row) → AreAllValues rows → AreAllValues others → rows_words rows ≡ rows_words others → rows ≡ others
rows_back [] [] h k e = refl
rows_back (r ∷ rows) (o ∷ others) h k e =
    let s = same_first (row_words r) (row_words o) (rows_words rows) (rows_words others) e in
    ap (λ x. x ∷ rows) (row_back r o h.0 k.0 s.0) ∙ ap (λ l. o ∷ l) (rows_back rows others h.1 k.1 s.1)
rows_back _ _ h k e = cc

pub rows_pass : (rows : List Row) → AllPass is_row (rows_words rows)
rows_pass [] = tt
rows_pass (row ∷ rows) = (refl, rows_pass rows)

-- what stands after rows, and isn't one
behind_rows : (rows others : List Row) (xs ys : List (List ℕ)) → AreAllValues rows → AreAllValues others → FirstFails is_row xs → FirstFails is_row ys
    → rows_words rows ++ xs ≡ rows_words others ++ ys → (rows ≡ others) × (xs ≡ ys)
behind_rows rows others xs ys h k f g e = grind (arith, parted, rows_pass, rows_back)

-- replies

abbrev pub AreAnswers : Reply → Type 0
AreAnswers reply = Answers FitsReport ints_fit_report reply

-- a line that begins a reply, or none
abbrev EndsAnswers : List (List ℕ) → Type 0
EndsAnswers lines = FirstFails is_row lines × FirstFails is_query lines

queries_end : (number : ℕ) (answers : List (List Row)) (xs : List (List ℕ)) → FirstFails is_row xs → FirstFails is_row (queries_words number answers ++ xs)
queries_end number [] xs h = h
queries_end number (rows ∷ answers) xs h = refl

queries_back : (number : ℕ) (answers others : List (List Row)) (xs ys : List (List ℕ)) → AllByRecursion AreAllValues answers
    → AllByRecursion AreAllValues others → EndsAnswers xs → EndsAnswers ys
    → queries_words number answers ++ xs ≡ queries_words number others ++ ys → (answers ≡ others) × (xs ≡ ys)
queries_back number [] [] xs ys h k f g e = (refl, e)
queries_back number [] (o ∷ others) xs ys h k f g e =
    absurd (passes_not is_query (query_words number o) ((rows_words o ++ queries_words (number + 1) others) ++ ys) xs refl (sym e) f.1)
queries_back number (a ∷ answers) [] xs ys h k f g e =
    absurd (passes_not is_query (query_words number a) ((rows_words a ++ queries_words (number + 1) answers) ++ xs) ys refl e g.1)
queries_back number (a ∷ answers) (o ∷ others) xs ys h k f g e =
    let mine : List (List ℕ) = queries_words (number + 1) answers in
    let theirs : List (List ℕ) = queries_words (number + 1) others in
    let s = same_first (query_words number a) (query_words number o) ((rows_words a ++ mine) ++ xs) ((rows_words o ++ theirs) ++ ys) e in
    let r = behind_rows a o (mine ++ xs) (theirs ++ ys) h.0 k.0 (queries_end (number + 1) answers xs f.0) (queries_end (number + 1) others ys g.0)
    (sym (append_assoc (rows_words a) mine xs) ∙ s.1 ∙ append_assoc (rows_words o) theirs ys) in
    let m = queries_back (number + 1) answers others xs ys h.1 k.1 f g r.1 in
    (ap (λ x. x ∷ answers) r.0 ∙ ap (λ l. o ∷ l) m.0, m.1)

answers_back : (one two : Reply) (xs ys : List (List ℕ)) → AreAnswers one → AreAnswers two → EndsAnswers xs → EndsAnswers ys
    → outcome_words one ≡ outcome_words two → answers_words one ++ xs ≡ answers_words two ++ ys → (one ≡ two) × (xs ≡ ys)
answers_back (Rows a) (Rows b) xs ys h k f g o e = let r = queries_back 1 a b xs ys h k f g e in (ap Rows r.0, r.1)
answers_back (Rows a) Overflow xs ys h k f g o e = let n : 3 ≡ 9 = ap length o in absurd (omega (arith, n))
answers_back (Rows a) TooMany xs ys h k f g o e = let n : 3 ≡ 8 = ap length o in absurd (omega (arith, n))
answers_back Overflow (Rows b) xs ys h k f g o e = let n : 9 ≡ 3 = ap length o in absurd (omega (arith, n))
answers_back Overflow TooMany xs ys h k f g o e = let n : 9 ≡ 8 = ap length o in absurd (omega (arith, n))
answers_back TooMany (Rows b) xs ys h k f g o e = let n : 8 ≡ 3 = ap length o in absurd (omega (arith, n))
answers_back TooMany Overflow xs ys h k f g o e = let n : 8 ≡ 9 = ap length o in absurd (omega (arith, n))
answers_back _ _ xs ys h k f g o e = (refl, e)

replies_end : (names : List (List ℕ)) (replies : List Reply) → EndsAnswers (replies_words names replies)
replies_end (name ∷ names) (reply ∷ replies) = (refl, refl)
replies_end _ _ = (tt, tt)

pub replies_back : (names : List (List ℕ)) (replies others : List Reply) → length names ≡ length replies → length names ≡ length others
    → AllByRecursion AreAnswers replies → AllByRecursion AreAnswers others → replies_words names replies ≡ replies_words names others → replies ≡ others
replies_back [] [] [] m n h k e = refl
replies_back [] (r ∷ replies) others m n h k e = absurd (omega (arith, m))
replies_back (name ∷ names) [] others m n h k e = absurd (omega (arith, m))
replies_back (name ∷ names) (r ∷ replies) (o ∷ others) m n h k e =
    let first : List ℕ = codes "reply " ++ name in
    let s = same_first (first ++ outcome_words r) (first ++ outcome_words o) (answers_words r ++ replies_words names replies)
    (answers_words o ++ replies_words names others) e in
    let outcome = append_cancel_left first (outcome_words r) (outcome_words o) s.0 in
    let a = answers_back r o (replies_words names replies) (replies_words names others) h.0 k.0 (replies_end names replies)
    (replies_end names others) outcome s.1 in
    ap (λ x. x ∷ replies) a.0 ∙ ap (λ l. o ∷ l) (replies_back names replies others (omega (arith, m)) (omega (arith, n)) h.1 k.1 a.1)
replies_back _ _ _ m n h k e = absurd (omega (arith, n))

-- words up to a space

abbrev EndsWord : List ℕ → Type 0
EndsWord [] = Unit {0}
EndsWord (c ∷ rest) = c ≡ 32

word_back : (a b xs ys : List ℕ) → HasNoSpace a → HasNoSpace b → EndsWord xs → EndsWord ys → a ++ xs ≡ b ++ ys → (a ≡ b) × (xs ≡ ys)
word_back [] [] xs ys h k f g e = (refl, e)
word_back [] (d ∷ b) xs ys h k f g e = let w : EndsWord (d ∷ (b ++ ys)) = subst EndsWord e f in absurd (k.0 w)
word_back (c ∷ a) [] xs ys h k f g e = let w : EndsWord (c ∷ (a ++ xs)) = subst EndsWord (sym e) g in absurd (h.0 w)
word_back (c ∷ a) (d ∷ b) xs ys h k f g e =
    let s = same_first c d (a ++ xs) (b ++ ys) e in
    let r = word_back a b xs ys h.1 k.1 f g s.1 in
    (ap (λ x. x ∷ a) s.0 ∙ ap (λ l. d ∷ l) r.0, r.1)

names_end : (names : List (List ℕ)) → EndsWord (flat_map spaced names)
names_end [] = tt
names_end (name ∷ names) = refl

names_back : (names others : List (List ℕ)) → AllByRecursion HasNoSpace names → AllByRecursion HasNoSpace others
    → flat_map spaced names ≡ flat_map spaced others → names ≡ others
names_back [] [] h k e = refl
names_back (n ∷ names) (o ∷ others) h k e =
    let s = same_first 32 32 (n ++ flat_map spaced names) (o ++ flat_map spaced others) e in
    let w = word_back n o (flat_map spaced names) (flat_map spaced others) h.0 k.0 (names_end names) (names_end others) s.1 in
    ap (λ x. x ∷ names) w.0 ∙ ap (λ l. o ∷ l) (names_back names others h.1 k.1 w.1)
names_back _ _ h k e = cc

pub order_back : (names others : List (List ℕ)) → AllByRecursion HasNoSpace names → AllByRecursion HasNoSpace others
    → order_words names ≡ order_words others → names ≡ others
order_back names others h k e = names_back names others h k (append_cancel_left (codes "order") (flat_map spaced names) (flat_map spaced others) e)

-- pending transactions

pub pending_back : (cat other : Catalogue) (mine theirs : List Txn) → ((n : ℕ) → HasNoSpace (txn_name mine n)) → ((n : ℕ) → HasNoSpace (txn_name theirs n))
    → (left others : List Pending) → all_pending_words cat mine left ≡ all_pending_words other theirs others
    → pending_names mine left ≡ pending_names theirs others
pending_back cat other mine theirs h k [] [] e = refl
pending_back cat other mine theirs h k (p ∷ left) (o ∷ others) e =
    let s = same_first (pending_words cat mine p) (pending_words other theirs o) (all_pending_words cat mine left) (all_pending_words other theirs others) e in
    let one : List ℕ = spaced (why_words cat p.why) in
    let two : List ℕ = spaced (why_words other o.why) in
    let t = append_cancel_left (codes "pending") (spaced (txn_name mine p.txn.0) ++ one) (spaced (txn_name theirs o.txn.0) ++ two) s.0 in
    let u = same_first 32 32 (txn_name mine p.txn.0 ++ one) (txn_name theirs o.txn.0 ++ two) t in
    let w = word_back (txn_name mine p.txn.0) (txn_name theirs o.txn.0) one two (h p.txn.0) (k o.txn.0) refl refl u.1 in
    ap (λ x. x ∷ pending_names mine left) w.0 ∙ ap (λ l. txn_name theirs o.txn.0 ∷ l) (pending_back cat other mine theirs h k left others s.1)
pending_back cat other mine theirs h k _ _ e = cc

-- copies

copies_end : (cat : Catalogue) (copies : List CopyTable) → FirstFails is_row (copies_words cat copies)
copies_end cat [] = tt
copies_end cat (table ∷ copies) = refl

pub copies_back : (cat : Catalogue) (copies others : List CopyTable) → AllByRecursion (λ (t : CopyTable). AreAllValues t.rows) copies
    → AllByRecursion (λ (t : CopyTable). AreAllValues t.rows) others → copies_words cat copies ≡ copies_words cat others
    → reported_copies cat copies ≡ reported_copies cat others
copies_back cat [] [] h k e = refl
copies_back cat (t ∷ copies) (o ∷ others) h k e =
    let s = same_first (copy_words cat t) (copy_words cat o) (rows_words t.rows ++ copies_words cat copies) (rows_words o.rows ++ copies_words cat others) e in
    let r = behind_rows t.rows o.rows (copies_words cat copies) (copies_words cat others) h.0 k.0 (copies_end cat copies) (copies_end cat others) s.1 in
    let many : copy_words cat o ≡ place_words cat o.dm.0 o.frag.0 ++ spaced (decimal (length t.rows)) =
    ap (λ rows. place_words cat o.dm.0 o.frag.0 ++ spaced (decimal (length rows))) (sym r.0) in
    let place = append_cancel_right (place_words cat t.dm.0 t.frag.0) (place_words cat o.dm.0 o.frag.0) (spaced (decimal (length t.rows))) (s.0 ∙ many) in
    ap (λ x. (x, t.rows) ∷ reported_copies cat copies) place ∙ ap (λ rows. (place_words cat o.dm.0 o.frag.0, rows) ∷ reported_copies cat copies) r.0
    ∙ ap (λ l. (place_words cat o.dm.0 o.frag.0, o.rows) ∷ l) (copies_back cat copies others h.1 k.1 r.1)
copies_back cat _ _ h k e = cc
