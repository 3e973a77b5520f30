-- What transactions did, at places of a history, and what the history's laws say of it.
use Rattle.std.specs.Prelude.{ℕ, ◌<◌, ◌≤◌, ◌≡◌, ◌≢◌, ◌⊎◌}
use Rattle.sdd_acyclic.specs.System.{System}

-- over a type of what is known of a transaction, with its number
pub record Deeds (K : Type 0) : Type 1 where
  pub Committed : K → Type 0
  pub name : K → ℕ
  pub class : K → ℕ
  -- of the attempt that was committed
  pub ts : K → ℕ
  pub p2 : K → ℕ
  pub Reads : K → ℕ → Type 0
  pub Changes : K → ℕ → Type 0
  -- the data module at which a class reads a fragment, and whether a module has a copy of a fragment
  pub dm : ℕ → ℕ → ℕ
  pub HasCopy : ℕ → ℕ → Type 0
  -- the places of its Submit, of the Start of the attempt that was committed, and of its Commit
  pub submit : K → ℕ
  pub start : K → ℕ
  pub commit : K → ℕ
  -- at the module it was answered, or applied, at the place
  pub Answered : K → ℕ → ℕ → Type 0
  pub Applied : K → ℕ → ℕ → Type 0

-- a transaction that was committed
pub record Txn {K : Type 0} (D : Deeds K) : Type 0 where
  pub no : K
  pub is : D.Committed no

-- it changes a fragment that has a copy at the module
pub record Touches {K : Type 0} (D : Deeds K) (x : K) (d : ℕ) : Type 0 where
  pub fragment : ℕ
  pub changes : D.Changes x fragment
  pub copy : D.HasCopy d fragment

pub record AppliedBefore {K : Type 0} (D : Deeds K) (x : K) (d p : ℕ) : Type 0 where
  pub place : ℕ
  pub applied : D.Applied x d place
  pub before : place < p

pub record AnsweredBefore {K : Type 0} (D : Deeds K) (x : K) (d p : ℕ) : Type 0 where
  pub place : ℕ
  pub answered : D.Answered x d place
  pub before : place < p

-- the first was applied at the module before the second was answered there
pub record IsSeen {K : Type 0} (D : Deeds K) (x : K) (d : ℕ) (y : K) : Type 0 where
  pub answer : ℕ
  pub answered : D.Answered y d answer
  pub applied : AppliedBefore D x d answer

abbrev pub system : {K : Type 0} (D : Deeds K) → System (Txn D)
system D =
    record {
      name = λ x. D.name x.no;
      class = λ x. D.class x.no;
      ts = λ x. D.ts x.no;
      p2 = λ x. D.p2 x.no;
      Reads = λ x. D.Reads x.no;
      Changes = λ x. D.Changes x.no;
      dm = D.dm;
      Seen = λ x d y. IsSeen D x.no d y.no;
    }

-- the order of Starts, Answers and Commits
pub record Starts {K : Type 0} (D : Deeds K) : Type 0 where
  -- of a number there is one transaction, with one timestamp and one place of submission that no other has
  pub same : (x y : Txn D) → D.name x.no ≡ D.name y.no → x.no ≡ y.no
  pub one_time : (x y : Txn D) → D.ts x.no ≡ D.ts y.no → D.name x.no ≡ D.name y.no
  pub one_submit : (x y : Txn D) → D.submit x.no ≡ D.submit y.no → D.name x.no ≡ D.name y.no
  -- of a class the earlier Start has the smaller timestamp, and no later time of P2
  pub times_rise : (x y : Txn D) → D.class x.no ≡ D.class y.no → D.start x.no ≤ D.start y.no → D.ts x.no ≤ D.ts y.no
  pub bounds_rise : (x y : Txn D) → D.class x.no ≡ D.class y.no → 1 ≤ D.class x.no → D.start x.no ≤ D.start y.no
      → D.p2 x.no ≤ D.p2 y.no
  -- and one starts when those that were submitted before it in its class are committed
  pub in_turn : (x y : Txn D) → D.class x.no ≡ D.class y.no → D.submit x.no < D.submit y.no → D.commit x.no < D.start y.no
  pub starts_first : (x : Txn D) → D.start x.no < D.commit x.no
  -- it is answered once at a module, after its Start, and at each one that it reads before its Commit
  pub one_answer : (x : Txn D) (d p q : ℕ) → D.Answered x.no d p → D.Answered x.no d q → p ≡ q
  pub answer_after : (x : Txn D) (d p : ℕ) → D.Answered x.no d p → D.start x.no < p
  pub answered : (x : Txn D) (f : ℕ) → D.Reads x.no f → AnsweredBefore D x.no (D.dm (D.class x.no) f) (D.commit x.no)
  pub copied : (x : Txn D) (f : ℕ) → D.Reads x.no f → D.HasCopy (D.dm (D.class x.no) f) f

-- the order of Applies
pub record Applies {K : Type 0} (D : Deeds K) : Type 0 where
  pub apply_after : (x : Txn D) (d p : ℕ) → D.Applied x.no d p → D.commit x.no < p
  -- those of a class in order, and none left out
  pub in_order : (x y : Txn D) (d p : ℕ) → D.class x.no ≡ D.class y.no → D.ts x.no < D.ts y.no → Touches D x.no d
      → D.Applied y.no d p → AppliedBefore D x.no d p
  -- one is answered after the Applies of the earlier ones of its class, and before those of the later ones
  pub after_earlier : (x y : Txn D) (d p : ℕ) → D.class x.no ≡ D.class y.no → D.ts x.no < D.ts y.no → Touches D x.no d
      → D.Answered y.no d p → AppliedBefore D x.no d p
  pub before_later : (x y : Txn D) (d p q : ℕ) → D.class x.no ≡ D.class y.no → D.ts y.no < D.ts x.no
      → D.Answered y.no d p → D.Applied x.no d q → p < q

-- t stands wholly before u, which has class 0
pub record IsLow {K : Type 0} (D : Deeds K) (t u : K) : Type 0 where
  pub time : D.ts t < D.ts u
  pub commits : D.commit t < D.start u
  pub applies : (d f p : ℕ) → Touches D t d ⊎ ((D.class t ≡ 0) × D.HasCopy d f) → D.Answered u d p → AppliedBefore D t d p

-- or wholly after it
pub record IsHigh {K : Type 0} (D : Deeds K) (t u : K) : Type 0 where
  pub time : D.ts u < D.ts t
  pub applies : (d f : ℕ) → D.HasCopy d f → AppliedBefore D u d (D.start t)

pub record ZeroAlone {K : Type 0} (D : Deeds K) : Type 0 where
  pub one_side : (u t : Txn D) → D.class u.no ≡ 0 → D.name u.no ≢ D.name t.no → IsLow D t.no u.no ⊎ IsHigh D t.no u.no
  -- class 0 is answered at every module
  pub everywhere : (u : Txn D) (d f : ℕ) → D.class u.no ≡ 0 → D.HasCopy d f → AnsweredBefore D u.no d (D.commit u.no)

-- the order of eras: what an earlier one submits is committed, and applied, before what a later one submits starts
pub record ErasApart {K : Type 0} (D : Deeds K) (era : K → ℕ) : Type 0 where
  pub time : (x y : Txn D) → era x.no < era y.no → D.ts x.no < D.ts y.no
  pub commits : (x y : Txn D) → era x.no < era y.no → D.commit x.no < D.start y.no
  pub applies : (x y : Txn D) (d : ℕ) → era x.no < era y.no → Touches D x.no d → AppliedBefore D x.no d (D.start y.no)
