-- The words of an order line.
use Rattle.sdd_verify.proofs.All.{All, All-cons, All-nil, HasNoSpace, List, [], ap, append-nil, arith, bytes_eq, bytes_eq-Decides, codes, eqb, false, flat_map, is_order_line, join_with_byte, join_with_byte-slice_split, names_on, nat_tests, ne_eqb, refl, rules, slice_split_at, slice_split_none, starts_is, sym, tail_of, true, words_of, ℕ, ◌++◌, ◌∙◌, ◌∷◌, ◌≡◌}

-- words, each after a space
abbrev pub behind_spaces : List (List ℕ) → List ℕ
behind_spaces names = flat_map (λ name. 32 ∷ name) names

no_space : (bytes : List ℕ) → HasNoSpace bytes → All (λ c. eqb c 32 ≡ false) bytes
no_space [] h = All-nil (λ c. eqb c 32 ≡ false)
no_space (c ∷ bytes) h = All-cons (λ c. eqb c 32 ≡ false) c bytes (ne_eqb c 32 h.0) (no_space bytes h.1)

abbrev pub HaveNoSpace : List (List ℕ) → Type 0
HaveNoSpace [] = Unit {0}
HaveNoSpace (name ∷ names) = HasNoSpace name × HaveNoSpace names

-- words that are put after spaces are cut again
pub words_again : (word : List ℕ) (names : List (List ℕ)) → HasNoSpace word → HaveNoSpace names → words_of (word ++ behind_spaces names) ≡ word ∷ names
words_again word [] h hs = ap words_of (append-nil word) ∙ slice_split_none (λ c. eqb c 32) word (no_space word h)
words_again word (name ∷ names) h hs = grind (arith, slice_split_at, behind_spaces, no_space, (words_again name names hs.0 hs.1))

-- so the names of an order line are read again
pub names_again : (names : List (List ℕ)) → HaveNoSpace names → names_on (codes "order" ++ behind_spaces names) ≡ names
names_again names h = ap tail_of (words_again (codes "order") names (search rules) h)

-- and it is an order line
pub is_order_line_again : (names : List (List ℕ)) → is_order_line (codes "order" ++ behind_spaces names) ≡ true
is_order_line_again [] = refl
is_order_line_again (name ∷ names) = refl

-- words joined by spaces
joined : (word : List ℕ) (names : List (List ℕ)) → join_with_byte 32 (word ∷ names) ≡ word ++ behind_spaces names
joined word [] = sym (append-nil word)
joined word (name ∷ names) = ap (λ (l : List ℕ). word ++ 32 ∷ l) (joined name names)

-- what is cut at spaces is the first word and the others after spaces
cut_joined : (line word : List ℕ) (names : List (List ℕ)) → words_of line ≡ word ∷ names → line ≡ word ++ behind_spaces (names_on line)
cut_joined line word names e =
    let is : names_on line ≡ names = ap tail_of e in
    sym (join_with_byte-slice_split 32 line) ∙ ap (join_with_byte 32) e ∙ joined word names ∙ ap (λ (l : List (List ℕ)). word ++ behind_spaces l) (sym is)

-- an order line is the word `order` and its names after spaces
pub order_line_is : (line : List ℕ) → is_order_line line ≡ true → line ≡ codes "order" ++ behind_spaces (names_on line)
order_line_is line e = grind (arith, nat_tests, bytes_eq, bytes_eq-Decides, cut_joined, starts_is, words_of)
