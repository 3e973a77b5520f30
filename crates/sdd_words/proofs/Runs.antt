-- Runs of a text: what stands before its first quote or backslash.
use Rattle.sdd_words.proofs.All.{List, NoneBefore, Nowhere, Passes, ap, arith, false, get_or, is_special, length, not, not_true as false_from_ne_true, position_or_len, prefix_len_is, sym, true, ℕ, ◌<◌, ◌≡◌, ◌≤◌}

-- how many bytes stand before the first quote or backslash
abbrev pub run_of : List ℕ → ℕ
run_of text = position_or_len is_special text

-- the run ends at a place before which all is plain, and at which the text ends or no plain byte stands
run_is : (text : List ℕ) (n : ℕ) → n ≤ length text → ((k : ℕ) → k < n → is_special (get_or text k 0) ≡ false)
    → (n < length text → is_special (get_or text n 0) ≡ true) → n ≡ position_or_len is_special text
run_is text n le plain stops =
    sym (prefix_len_is (λ c. not (is_special c)) text n 0 le (λ k lt. ap not (plain k lt)) (λ lt. ap not (stops lt)))

-- the run ends before the first quote or backslash that a search finds
pub run_before : (text : List ℕ) (n : ℕ) → NoneBefore (Passes is_special text) 0 (length text) n
    → Passes is_special text n → n ≡ position_or_len is_special text
run_before text n found stops = grind (arith, run_is, false_from_ne_true)

-- a text in which none is found is one run
pub run_of_all : (text : List ℕ) → Nowhere (Passes is_special text) 0 (length text)
    → length text ≡ position_or_len is_special text
run_of_all text none = grind (arith, run_is, false_from_ne_true)
