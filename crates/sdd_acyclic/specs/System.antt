-- Committed transactions and what they did, stated without histories.
use Rattle.std.specs.Prelude.{ℕ, ◌<◌, ◌≤◌, ◌≡◌, ◌≢◌}

pub record System (T : Type 0) : Type 1 where
  pub name : T → ℕ
  pub class : T → ℕ
  -- the timestamp, and the time up to which protocol P2 asks
  pub ts : T → ℕ
  pub p2 : T → ℕ
  -- the fragments that it reads, and that it changes
  pub Reads : T → ℕ → Type 0
  pub Changes : T → ℕ → Type 0
  -- the data module at which a class reads a fragment
  pub dm : ℕ → ℕ → ℕ
  -- the first was applied at the module before the second was answered there
  pub Seen : T → ℕ → T → Type 0

-- the first has to stand before the second: it is earlier in its class; it changes what the second changes later; it reads
-- what the second changes, and did not see that; or the second reads what it changes, and saw it
pub data Precedes {T : Type 0} (S : System T) (x y : T) : Type 0 where
  by_class : S.name x ≢ S.name y → S.class x ≡ S.class y → S.ts x < S.ts y → Precedes S x y
  by_writes : S.name x ≢ S.name y → (f : ℕ) → S.Changes x f → S.Changes y f → S.ts x < S.ts y → Precedes S x y
  by_unseen : S.name x ≢ S.name y → (f : ℕ) → S.Reads x f → S.Changes y f → (¬ S.Seen y (S.dm (S.class x) f) x)
      → Precedes S x y
  by_seen : S.name x ≢ S.name y → (f : ℕ) → S.Changes x f → S.Reads y f → S.Seen x (S.dm (S.class y) f) y
      → Precedes S x y

-- of one class, and not later
pub record Below {T : Type 0} (S : System T) (x y : T) : Type 0 where
  pub class : S.class x ≡ S.class y
  pub time : S.ts x ≤ S.ts y

-- what holds of committed transactions whatever the protocols of their reads
pub record Facts {T : Type 0} (S : System T) : Type 0 where
  -- different transactions have different timestamps
  pub one_time : (x y : T) → S.ts x ≡ S.ts y → S.name x ≡ S.name y
  -- a reader sees the earlier writers of its class, and no others of it
  pub own_earlier : (x y : T) (f : ℕ) → S.class x ≡ S.class y → S.ts x < S.ts y → S.Changes x f → S.Reads y f
      → S.Seen x (S.dm (S.class y) f) y
  pub own_later : (x y : T) (f : ℕ) → S.class x ≡ S.class y → S.ts y ≤ S.ts x → S.Reads y f
      → ¬ S.Seen x (S.dm (S.class y) f) y
  -- what sees a transaction sees the earlier ones of its class
  pub writers_below : (x x' y : T) (f : ℕ) → Below S x x' → S.Changes x f → S.Reads y f
      → S.Seen x' (S.dm (S.class y) f) y → S.Seen x (S.dm (S.class y) f) y
  -- and what a transaction sees the later ones of its class see
  pub readers_above : (x y y' : T) (f : ℕ) → Below S y y' → S.Reads y f → S.Reads y' f
      → S.Seen x (S.dm (S.class y) f) y → S.Seen x (S.dm (S.class y') f) y'

-- some of the transactions: those that f gives
abbrev pub over : {A B : Type 0} → (B → A) → System A → System B
over f S =
    record {
      name = λ x. S.name (f x);
      class = λ x. S.class (f x);
      ts = λ x. S.ts (f x);
      p2 = λ x. S.p2 (f x);
      Reads = λ x. S.Reads (f x);
      Changes = λ x. S.Changes (f x);
      dm = S.dm;
      Seen = λ x d y. S.Seen (f x) d (f y);
    }
