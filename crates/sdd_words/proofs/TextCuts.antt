-- A text, its spelling, and where that ends.
use Rattle.sdd_words.proofs.All.{Bool, List, None, Some, [], ap, append-nil, append_assoc, arith, drop, eqb, escaped, escaped_byte, false, get_or, if◌then◌else◌, leads_on, length, length-append, nat_tests, one_more, passes_to, refl, sym, take, take_all, unescaped, ℕ, ◌++◌, ◌+◌, ◌-◌, ◌<◌, ◌∙◌, ◌∷◌, ◌≡◌}
use Rattle.sdd_words.specs.Tokens.{unescaped_from, quote_from}

-- ---- what is spelled is read

byte_back : (c : ℕ) (cs : List ℕ) (x y : Bool) → eqb c 34 ≡ x → eqb c 92 ≡ y
    → unescaped_from false (escaped_byte c ++ cs) ≡ c ∷ unescaped_from false cs
unfolding unescaped_from
byte_back c cs x y p q = grind (arith, nat_tests)

pub text_back : (text : List ℕ) → unescaped (escaped text) ≡ text
unfolding unescaped_from
text_back [] = refl
text_back (c ∷ cs) = grind (arith, byte_back, (text_back cs))

-- what is left after the first byte
abbrev left : List ℕ → List ℕ
left rest = take (length rest - 1) (drop 1 rest)

left_is : (c : ℕ) (cs : List ℕ) → left (c ∷ cs) ≡ cs
left_is c cs = take_all _ _ (omega arith)

read_by : (b behind : Bool) (c : ℕ) (cs front whole : List ℕ) → leads_on behind c ≡ b → front ++ unescaped_from behind (c ∷ cs) ≡ whole
    → (if b then front else front ++ c ∷ []) ++ unescaped_from b cs ≡ whole
unfolding unescaped_from
read_by b behind c cs front whole e so_far = grind (arith, append_assoc)

-- one byte more of a text
pub byte_read : (behind : Bool) (rest front whole : List ℕ) → 0 < length rest → front ++ unescaped_from behind rest ≡ whole
    → (if leads_on behind (get_or rest 0 0) then front else front ++ get_or rest 0 0 ∷ [])
    ++ unescaped_from (leads_on behind (get_or rest 0 0)) (left rest) ≡ whole
byte_read behind [] front whole some so_far = absurd (omega arith)
byte_read behind (c ∷ cs) front whole some so_far = rw (left_is c cs) (read_by (leads_on behind c) behind c cs front whole refl so_far)

pub all_read : (behind : Bool) (rest front whole : List ℕ) → length rest < 1 → front ++ unescaped_from behind rest ≡ whole → front ≡ whole
unfolding unescaped_from
all_read behind [] front whole none so_far = sym (append-nil front) ∙ so_far
all_read behind (c ∷ cs) front whole none so_far = absurd (omega arith)

-- ---- a text is spelled up to the quote that ends it

byte_passed : (c : ℕ) (cs : List ℕ) (x y : Bool) → eqb c 34 ≡ x → eqb c 92 ≡ y
    → quote_from false (escaped_byte c ++ cs) ≡ length (escaped_byte c) + quote_from false cs
unfolding quote_from
byte_passed c cs x y p q = grind (arith, nat_tests)

pub ends_at_quote : (text rest : List ℕ) → quote_from false (escaped text ++ 34 ∷ rest) ≡ length (escaped text)
unfolding quote_from
ends_at_quote [] rest = refl
ends_at_quote (c ∷ cs) rest = grind (arith, append_assoc, byte_passed, length-append, (ends_at_quote cs rest))

-- one byte more is passed
pub passed_more : (behind to : Bool) (rest : List ℕ) (place total : ℕ) → 0 < length rest → Some to ≡ passes_to behind (get_or rest 0 0)
    → place + quote_from behind rest ≡ total → place + 1 + quote_from to (left rest) ≡ total
unfolding quote_from
passed_more behind to [] place total some e so_far = absurd (omega arith)
passed_more behind to (c ∷ cs) place total some e so_far =
    rw (left_is c cs) (omega (arith, (ap (λ o. one_more o (λ b. quote_from b cs)) (sym e)), so_far))

-- the quote is found
pub passed_none : (behind : Bool) (rest : List ℕ) (place total : ℕ) → 0 < length rest → None ≡ passes_to behind (get_or rest 0 0)
    → place + quote_from behind rest ≡ total → place ≡ total
unfolding quote_from
passed_none behind [] place total some e so_far = absurd (omega arith)
passed_none behind (c ∷ cs) place total some e so_far = grind arith

pub left_length : (rest : List ℕ) (place total : ℕ) → 0 < length rest → place + length rest ≡ total → place + 1 + length (left rest) ≡ total
left_length [] place total some e = absurd (omega arith)
left_length (c ∷ cs) place total some e = rw (left_is c cs) (omega (arith, e))

pub passed_all : (behind : Bool) (rest : List ℕ) (place total : ℕ) → length rest < 1
    → place + quote_from behind rest ≡ total → place ≡ total
unfolding quote_from
passed_all behind [] place total none so_far = omega (arith, so_far)
passed_all behind (c ∷ cs) place total none so_far = absurd (omega arith)
