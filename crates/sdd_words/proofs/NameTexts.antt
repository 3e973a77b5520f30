-- Names are texts.
use Rattle.sdd_words.proofs.All.{Bool, IsAscii, IsAscii-cons, IsAscii-nil, IsUtf8, IsUtf8-from_ascii, List, None, Some, [], and_parts, arith, begins_with_letter, false, is_keyword, is_name, is_name_byte, length, list_all, name_in, nat_le, nat_tests, not, refl, true, ℕ, ◌&&◌, ◌∷◌, ◌≡◌}

name_bytes_are_ascii : (bs : List ℕ) → list_all is_name_byte bs ≡ true → IsAscii bs
name_bytes_are_ascii [] e = IsAscii-nil
name_bytes_are_ascii (b ∷ bs) e =
    IsAscii-cons b bs (grind (arith, nat_tests)) (name_bytes_are_ascii bs (and_parts (is_name_byte b) (list_all is_name_byte bs) e).1)

-- so a name is a text
pub name_is_utf8 : (bs : List ℕ) → is_name bs ≡ true → IsUtf8 bs
name_is_utf8 bs e =
    let all = and_parts (begins_with_letter bs && nat_le (length bs) 32 && list_all is_name_byte bs) (not (is_keyword bs)) e in
    IsUtf8-from_ascii bs (name_bytes_are_ascii bs (and_parts (begins_with_letter bs && nat_le (length bs) 32) (list_all is_name_byte bs) all.0).1)

name_in-false : (bs : List ℕ) (b : Bool) → is_name bs ≡ b → (b ≡ true → ⊥) → name_in bs ≡ None
name_in-false bs b e other = grind (arith, nat_tests)

-- bytes that are no text are no name
pub name_in_other_bytes : (bs : List ℕ) → (IsUtf8 bs → ⊥) → name_in bs ≡ None
name_in_other_bytes bs other = name_in-false bs (is_name bs) refl (λ e. other (name_is_utf8 bs e))

-- bytes that a name was read of are one, and others aren't
pub named : (bs n : List ℕ) → Some n ≡ name_in bs → true ≡ is_name bs
named bs n e = (grind (arith, nat_tests))

pub unnamed : (bs : List ℕ) → None ≡ name_in bs → false ≡ is_name bs
unnamed bs e = (grind (arith, nat_tests))
