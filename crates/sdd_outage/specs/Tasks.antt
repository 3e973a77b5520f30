-- What a class has to get done.
use Rattle.std.specs.Prelude.{ℕ}

pub data Task : Type 0 where
  -- an attempt of one of its transactions comes to its end
  attempt : ℕ → Task
  -- it passes a time at a module that is up: its writes up to that time are applied there, and no more of them will come
  passing : ℕ → Task
