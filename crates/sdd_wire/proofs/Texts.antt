-- Bytes that are the text of a column, and others.
use Rattle.sdd_wire.proofs.All.{Any-from_list_any, Bool, Contains, IsText, IsUtf8, IsUtf8-from_is_utf8, List, MAX_TEXT_BYTES, None, Some, and_from, and_parts, arith, both_ways, contains, eq-eqb, eqb-true, false_from_ne_true, get_or_default, if◌then◌else◌, is_text, is_utf8, is_utf8-from_IsUtf8, le-leb, leb-true, length, list_any_at, nat_le, nat_tests, not, not-true, not_from_false, refl, text_in, true, ℕ, ◌&&◌, ◌==◌, ◌∙◌, ◌≡◌}

pub contains-true : (ns : List ℕ) (n : ℕ) → contains ns n ≡ true → Contains ns n
contains-true ns n h =
    let found = Any-from_list_any (λ x. x == n) ns h in
    (found.0, found.2, get_or_default ns found.0 n found.1 found.2 ∙ found.3 ∙ eqb-true found.1 n found.4)

Contains-true : (ns : List ℕ) (n : ℕ) → Contains ns n → contains ns n ≡ true
Contains-true ns n h = list_any_at (λ x. x == n) ns h.0 n h.1 (eq-eqb _ _ h.2)

abbrev is_short : List ℕ → Bool
is_short bytes = nat_le (length bytes) MAX_TEXT_BYTES

abbrev is_line : List ℕ → Bool
is_line bytes = not (contains bytes 10)

pub is_text-true : (bytes : List ℕ) → is_text bytes ≡ true → IsText bytes
is_text-true bytes h =
    let outer = and_parts (is_short bytes && is_line bytes) (is_utf8 bytes) h in
    let inner = and_parts (is_short bytes) (is_line bytes) outer.0 in
    record {
      short = leb-true _ _ inner.0;
      on_a_line = λ there. both_ways (contains bytes 10) (not-true (contains bytes 10) inner.1) (Contains-true bytes 10 there);
      utf8 = IsUtf8-from_is_utf8 bytes outer.1;
    }

pub IsText-true : (bytes : List ℕ) → IsText bytes → is_text bytes ≡ true
IsText-true bytes t = grind (arith, false_from_ne_true, contains-true, not_from_false, and_from, le-leb, is_utf8-from_IsUtf8)

-- a text is found
pub text_found : (bytes : List ℕ) → IsText bytes → text_in bytes ≡ Some bytes
text_found bytes t = rw (IsText-true bytes t) refl

-- none is found in other bytes
pub no_text : (bytes : List ℕ) → (IsText bytes → ⊥) → text_in bytes ≡ None
no_text bytes other = rw (false_from_ne_true (is_text bytes) (λ e. other (is_text-true bytes e))) refl

pub no_utf8 : (bytes : List ℕ) → (IsUtf8 bytes → ⊥) → text_in bytes ≡ None
no_utf8 bytes other = no_text bytes (λ t. other t.utf8)

found : (b : Bool) (bytes text : List ℕ) → (if b then Some bytes else None) ≡ Some text → (b ≡ true) × (bytes ≡ text)
found b bytes text e = grind (arith, nat_tests)

-- what is found is the bytes, and a text
pub found_text : (bytes text : List ℕ) → text_in bytes ≡ Some text → (bytes ≡ text) × IsText text
found_text bytes text h = grind (arith, nat_tests, found, is_text-true)
