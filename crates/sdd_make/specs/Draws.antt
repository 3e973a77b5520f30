-- Numbers that are drawn from a state, one after the other: a linear congruential generator.
use Rattle.std.specs.Prelude.{ℕ, ◌+◌, ◌*◌, ◌/◌, ◌%◌, ◌^◌}

-- the state that follows a state
abbrev pub next : ℕ → ℕ
next state = (state * 1103515245 + 12345) % 2 ^ 31

-- the number below a bound that a state shows
abbrev pub shown : ℕ → ℕ → ℕ
shown below state = (state / 65536) % below

-- what is made of drawn numbers, and the state after them
abbrev pub Drawing : Type 0 → Type 0
Drawing A = ℕ → A × ℕ

-- one drawing and then the next, which is given what the first one made
infixl 10 ◌>>=◌
abbrev pub ◌>>=◌ : {A B : Type 0} → Drawing A → (A → Drawing B) → Drawing B
first >>= then_made = λ state. then_made (first state).0 (first state).1

-- the end of a drawing: this is what is made
abbrev pub give : {A : Type 0} → A → Drawing A
give made state = (made, state)

-- one number below a bound
abbrev pub draw : ℕ → Drawing ℕ
draw below state = (shown below (next state), next state)
