-- When dated changes are one set, whose order doesn't matter.
use Rattle.std.specs.Prelude.{ℕ, ◌≡◌, Contains}
use Rattle.sdd_lang.specs.All.{Change}
use Rattle.sdd_copy.specs.Contents.{Dated}

-- two different changes of one item have different dates
abbrev pub DatesDiffer : Dated → Type 0
DatesDiffer xs = (x y : ℕ × Change) → Contains xs x → Contains xs y
    → x.1.frag.0 ≡ y.1.frag.0 → x.1.key ≡ y.1.key → x.0 ≡ y.0 → x ≡ y

-- the same changes, in whatever order
abbrev pub AreSame : Dated → Dated → Type 0
AreSame xs ys = (x : ℕ × Change) → (Contains xs x → Contains ys x) × (Contains ys x → Contains xs x)
