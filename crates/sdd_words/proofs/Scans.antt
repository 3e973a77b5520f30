-- The reading of words, one byte more.
use Rattle.sdd_words.proofs.All.{Adds, Bool, Ends, Goes, List, Mode, Move, None, Option, Refuses, Some, Start, Word, [], ap, arith, drop, false, get_or, is_some, last_word, length, mode_after, move_of, moved, moves_to, nat_tests, onto, refl, sym, take, take_all, word_of, words_at_end, ℕ, ◌-◌, ◌<◌, ◌∙◌, ◌∷◌, ◌≡◌}
use Rattle.sdd_words.specs.Scan.{scan}

scan-cons : (mode : Mode) (text : List ℕ) (c : ℕ) (cs : List ℕ) (m : Move) → m ≡ move_of mode c
    → scan mode text (c ∷ cs) ≡ moved m mode text c (λ m t. scan m t cs)
unfolding scan
scan-cons mode text c cs m e = rw e refl

-- whether bytes are words doesn't depend on what was read of the first one

some_onto : (front : List Word) (read : Option (List Word)) → is_some (onto front read) ≡ is_some read
some_onto front read = grind (arith, nat_tests)

some_moved : (m : Move) (mode : Mode) (a b : List ℕ) (c : ℕ) (cs : List ℕ)
    → ((to : Mode) (s t : List ℕ) → is_some (scan to s cs) ≡ is_some (scan to t cs))
    → is_some (moved m mode a c (λ m t. scan m t cs)) ≡ is_some (moved m mode b c (λ m t. scan m t cs))
some_moved m mode a b c cs same = grind (arith, nat_tests)

same_some : (mode : Mode) (a b cs : List ℕ) → is_some (scan mode a cs) ≡ is_some (scan mode b cs)
unfolding scan
same_some mode a b (c ∷ cs) = some_moved (move_of mode c) mode a b c cs (λ to s t. same_some to s t cs)
same_some _ a b _ = grind (arith, nat_tests)

-- what is left after the first byte
abbrev left : List ℕ → List ℕ
left rest = take (length rest - 1) (drop 1 rest)

goes_on : (m : Move) (mode to : Mode) (c : ℕ) (cs : List ℕ) → m ≡ move_of mode c → Some to ≡ moves_to m
    → is_some (scan mode [] (c ∷ cs)) ≡ is_some (scan to [] cs)
goes_on (Goes next) mode to c cs is e = let t : to ≡ next = cc in ap is_some (scan-cons mode [] c cs (Goes next) is) ∙ rw t refl
goes_on (Adds next) mode to c cs is e =
    let t : to ≡ next = cc in ap is_some (scan-cons mode [] c cs (Adds next) is) ∙ rw t (same_some next (c ∷ []) [] cs)
goes_on Ends mode to c cs is e =
    let t : to ≡ Start = cc in ap is_some (scan-cons mode [] c cs Ends is) ∙ rw t (some_onto (word_of mode [] ∷ []) (scan Start [] cs))
goes_on Refuses mode to c cs is e = absurd cc

pub byte_more : (mode to : Mode) (rest : List ℕ) (total : Bool) → 0 < length rest → Some to ≡ mode_after mode (get_or rest 0 0)
    → is_some (scan mode [] rest) ≡ total → is_some (scan to [] (left rest)) ≡ total
byte_more mode to rest total some e so_far = grind (arith, left, take_all, goes_on)

refused : (m : Move) (mode : Mode) (c : ℕ) (cs : List ℕ) → m ≡ move_of mode c → None ≡ moves_to m → is_some (scan mode [] (c ∷ cs)) ≡ false
refused Refuses mode c cs is e = ap is_some (scan-cons mode [] c cs Refuses is)
refused _ mode c cs is e = absurd cc

pub byte_refused : (mode : Mode) (rest : List ℕ) (total : Bool) → 0 < length rest → None ≡ mode_after mode (get_or rest 0 0)
    → is_some (scan mode [] rest) ≡ total → false ≡ total
byte_refused mode [] total some e so_far = absurd (omega arith)
byte_refused mode (c ∷ cs) total some e so_far = sym (refused (move_of mode c) mode c cs refl e) ∙ so_far

some_last : (mode : Mode) → is_some (last_word mode []) ≡ is_some (words_at_end mode [])
some_last mode = grind (arith, nat_tests)

pub line_ended : (mode : Mode) (rest : List ℕ) (total : Bool) → length rest < 1 → is_some (scan mode [] rest) ≡ total
    → is_some (last_word mode []) ≡ total
unfolding scan
line_ended mode [] total none so_far = some_last mode ∙ so_far
line_ended mode (c ∷ cs) total none so_far = absurd (omega arith)
