-- Transactions of no declared class, which have class 0.
use Rattle.std.specs.Prelude.{◌≤◌, ◌≡◌}
use Rattle.sdd_acyclic.specs.System.{System, Precedes, over}

-- a transaction of class 0 is a barrier: nothing from its timestamp on precedes what stands up to it
pub record HasBarriers {T : Type 0} (S : System T) : Type 0 where
  pub barrier : (u x y : T) → S.class u ≡ 0 → S.ts x ≤ S.ts u → S.ts u ≤ S.ts y → ¬ Precedes S y x

-- a transaction of a declared class
pub record Declared {T : Type 0} (S : System T) : Type 0 where
  pub txn : T
  pub class : 1 ≤ S.class txn

-- those of the declared classes alone
abbrev pub declared : {T : Type 0} (S : System T) → System (Declared S)
declared S = over (λ x. x.txn) S
