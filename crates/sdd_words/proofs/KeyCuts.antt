-- What stands before the first word that is a keyword, and what is left from it on.
use Rattle.sdd_words.proofs.All.{AllWords, Bool, IsLeft, List, None, Option, Some, Word, [], ap, append-nil, append_assoc, arith, before, cut_at, drop, false, from_key, if◌then◌else◌, is_key, is_some, le-ltb, length, length-append, length-drop, line_bytes, lt-ltb, nat_lt, nat_tests, not, not_empty, or_none, position_or_len, refl, subst, suc, sym, take, take-append-drop, take-append-le, take_all, true, up_to, words_left, words_of, ℕ, ◌++◌, ◌+◌, ◌-◌, ◌<◌, ◌==◌, ◌∙◌, ◌∷◌, ◌≡◌}
use Rattle.sdd_words.proofs.Comparing.{none_of}
use Rattle.sdd_words.proofs.Points.{from_on}
use Rattle.sdd_words.proofs.Splits.{scan_takes}
use Rattle.sdd_words.proofs.WordCuts.{is_left, left_again}
use Rattle.sdd_words.proofs.Written.{more_bytes-append as more_joined}

-- ---- the words of a line are left

pub some_words : (line : List ℕ) → true ≡ is_some (words_of line) → words_of line ≡ Some (words_left line)
some_words line e = (grind (arith, nat_tests))

pub no_words : (line : List ℕ) → false ≡ is_some (words_of line) → words_of line ≡ None
no_words line e = none_of (words_of line) (sym e)

left_by : (line : List ℕ) (ws : List Word) → words_of line ≡ Some ws → IsLeft line
left_by line ws e =
    let taken = scan_takes line ws e in
    let are : words_left line ≡ ws = ap or_none e in
    record { words = subst AllWords (sym are) (grind (arith, nat_tests)); spelled = taken.1 ∙ ap line_bytes (sym are) }

pub line_left : (line : List ℕ) → true ≡ is_some (words_of line) → IsLeft line
line_left line e = left_by line (words_left line) (some_words line e)

-- ---- bytes are left where words are

pub has_bytes : (bytes : List ℕ) → IsLeft bytes → not (length bytes == 0) ≡ not_empty (words_left bytes)
has_bytes bytes left = (grind (arith, nat_tests))

-- ---- from the keyword on

pub key_found : (key : List ℕ) (w : Word) (bytes : List ℕ) (ws total : List Word) → words_left bytes ≡ w ∷ ws → true ≡ is_key key w
    → from_key key (words_left bytes) ≡ total → words_left bytes ≡ total
key_found key w bytes ws total is found so_far = cc

pub key_later : (key : List ℕ) (w : Word) (bytes more : List ℕ) (total : List Word) → words_left bytes ≡ w ∷ words_left more
    → false ≡ is_key key w
    → from_key key (words_left bytes) ≡ total → from_key key (words_left more) ≡ total
key_later key w bytes more total is other so_far =
    sym (from_on (is_key key) w (words_left more) (sym other)) ∙ ap (from_key key) (sym is) ∙ so_far

pub key_nowhere : (key bytes : List ℕ) (total : List Word) → words_left bytes ≡ [] → from_key key (words_left bytes) ≡ total
    → words_left bytes ≡ total
key_nowhere key bytes total is so_far = is ∙ ap (from_key key) (sym is) ∙ so_far

-- ---- before it

before_joined : (xs ys : List Word) → AllWords ys → before (line_bytes (xs ++ ys)) (line_bytes ys) ≡ line_bytes xs
before_joined xs ys h = grind (arith, append-nil, nat_tests, more_joined, append_assoc, length-append, take-append-le, take_all)

all_taken : (n : ℕ) (ws : List Word) → AllWords ws → AllWords (take n ws)
all_taken (suc n) (w ∷ ws) h = (h.0, all_taken n ws h.1)
all_taken _ _ h = tt

pub front_words : (key bytes rest : List ℕ) → IsLeft bytes → IsLeft rest → words_left rest ≡ from_key key (words_left bytes)
    → words_left (before bytes rest) ≡ up_to key (words_left bytes)
front_words key bytes rest left more is =
    ap words_left (grind (arith, take-append-drop, position_or_len, before_joined))
    ∙ left_again (up_to key (words_left bytes)) (all_taken (position_or_len (is_key key) (words_left bytes)) (words_left bytes) left.words)

pub front_left : (key bytes rest : List ℕ) → IsLeft bytes → IsLeft rest → words_left rest ≡ from_key key (words_left bytes)
    → IsLeft (before bytes rest)
front_left key bytes rest left more is =
    subst IsLeft (sym (grind (arith, take-append-drop, position_or_len, before_joined)))
    (is_left (up_to key (words_left bytes)) (all_taken (position_or_len (is_key key) (words_left bytes)) (words_left bytes) left.words))

-- ---- before and after it

abbrev given : List Word → List Word → Option (List Word × List Word)
given front behind = Some (front, behind)

cut_by : (key : List ℕ) (ws : List Word) (n : ℕ) (b : Bool) → nat_lt n (length ws) ≡ b → n ≡ position_or_len (is_key key) ws
    → cut_at key ws ≡ (if b then Some (take n ws, drop (n + 1) ws) else None)
cut_by key ws n b e is = grind (arith, nat_tests)

behind_first : (n : ℕ) (ws : List Word) (w : Word) (more : List Word) → drop n ws ≡ w ∷ more → (n < length ws) × (drop (n + 1) ws ≡ more)
behind_first (suc n) (x ∷ ws) w more e = grind (arith, (behind_first n ws w more e))
behind_first _ _ w more e = grind (arith, nat_tests)

pub cut_found : (key : List ℕ) (ws : List Word) (w : Word) (more : List Word) → from_key key ws ≡ w ∷ more
    → cut_at key ws ≡ Some (up_to key ws, more)
cut_found key ws w more e = grind (arith, position_or_len, behind_first, cut_by, lt-ltb, given)

pub cut_nowhere : (key : List ℕ) (ws : List Word) → from_key key ws ≡ [] → cut_at key ws ≡ None
cut_nowhere key ws e =
    let n = position_or_len (is_key key) ws in
    cut_by key ws n false (le-ltb n (length ws) (omega (arith, ap length e, length-drop n ws))) refl
