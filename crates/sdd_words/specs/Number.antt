-- A number and its one spelling: decimal, without a plus sign or leading zeros, and no `-0`.
use Rattle.std.specs.Prelude.{ℕ, ℤ, ◌^◌, nat_lt, List, Bool, ◌&&◌, Option, Some, None, if◌then◌else◌}
use Rattle.std.specs.Int.Signed.{mag}
use Rattle.std.specs.Str.{bytes_eq}
use Rattle.std.specs.Str.Parse.{signed_digits_value}
use Rattle.std.specs.Fmt.{signed_decimal}

-- whether the number is one of 64 bits
abbrev pub is_small : ℤ → Bool
is_small z = nat_lt (mag z) (2 ^ 63)

-- the number whose spelling the bytes are
unfoldable pub number_of : List ℕ → Option ℤ
number_of bs = let z = signed_digits_value 10 bs in if bytes_eq bs (signed_decimal z) && is_small z then Some z else None
