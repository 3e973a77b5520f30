-- Numbers of any size, by their spelling.
use Rattle.std.specs.Prelude.{ℕ, List, [], ◌∷◌, ◌==◌, ◌&&◌, not, length, Bool, false, if◌then◌else◌}
use Rattle.std.specs.List.{list_all}
use Rattle.sdd_base.specs.Name.{is_digit}

-- digits, of which the first is 0 only where it stands alone
abbrev pub whole_digits : List ℕ → Bool
whole_digits [] = false
whole_digits (c ∷ cs) = if c == 48 then length cs == 0 else list_all is_digit (c ∷ cs)

abbrev pub is_nonzero : List ℕ → Bool
is_nonzero [] = false
is_nonzero (c ∷ cs) = not (c == 48)

-- digits, or digits of a number that isn't 0 after a minus
abbrev pub is_whole : List ℕ → Bool
is_whole [] = false
is_whole (c ∷ cs) = if c == 45 then whole_digits cs && is_nonzero cs else whole_digits (c ∷ cs)
