-- Where the conditions of a READ come from: the protocol table that was in force at the Start of its attempt.
use Rattle.std.specs.Prelude.{ℕ, ◌++◌, ◌∷◌, ◌≡◌, ◌⊎◌, List, Some, slice_get}
use Rattle.sdd_obligations.specs.invariants.All.{ClassNo, Cond, Diagonal, Does, FragNo, Input, Log, P2, P3, Protocol, Queued, bound, home, local_of, next_stamp, nth_era, redeclares, setting_of, start_at}
use Rattle.sdd_obligations.specs.protocol.declared.entry.Entry as line

-- an entry of the table is a diagonal from class i to class j for the fragment, and has the protocol
pub record IsDiagonalIn (table : List line.Entry) (protocol : Protocol) (i j : ℕ) (fragment : FragNo) : Type 0 where
  pub place : ℕ
  pub entry : line.Entry
  pub there : slice_get table place ≡ Some entry
  pub reader : ClassNo
  pub writer : ClassNo
  pub edge_is : entry.edge ≡ Diagonal reader writer fragment
  pub reader_is : reader.0 ≡ i
  pub writer_is : writer.0 ≡ j
  pub protocol_is : entry.protocol ≡ protocol

abbrev pub AllDiagonalsIn : List line.Entry → Protocol → ℕ → ℕ → List FragNo → Type 0
AllDiagonalsIn table protocol i j frags = (k : ℕ) (f : FragNo) → slice_get frags k ≡ Some f → IsDiagonalIn table protocol i j f

-- A condition of an attempt of class i, whose timestamp is `own` and whose time of P2 is `p2`: it names fragments, each of
-- which has a diagonal of P3 to the class that it names, and its time is the attempt's own; or each has one of P2, and
-- its time is that of P2.
pub record IsFromTable (table : List line.Entry) (i own p2 : ℕ) (cond : Cond) : Type 0 where
  pub first : FragNo
  pub more : List FragNo
  pub names : cond.frags ≡ first ∷ more
  pub by : ((cond.time.0 ≡ own) × AllDiagonalsIn table P3 i cond.class.0 cond.frags) ⊎ ((cond.time.0 ≡ p2) × AllDiagonalsIn table P2 i cond.class.0 cond.frags)

-- The Start of the attempt of class c with this timestamp: each of these conditions comes from the table in force there;
-- the time of P2 is the bound of the clock there.
pub record AreConditionsOf (g : Input) (log : Log) (c ts : ℕ) (conds : List Cond) : Type 0 where
  pub later : Log
  pub before : Log
  pub queued : Queued
  pub is : log ≡ later ++ Does (home g.catalogue c) (start_at (setting_of g (home g.catalogue c)) c (local_of g (home g.catalogue c) before) queued) ∷ before
  pub ts_is : ts ≡ next_stamp (setting_of g (home g.catalogue c)) (local_of g (home g.catalogue c) before)
  pub from_table : (k : ℕ) (cond : Cond) → slice_get conds k ≡ Some cond
      → IsFromTable (nth_era g (redeclares before)).table c ts (bound (setting_of g (home g.catalogue c)) (local_of g (home g.catalogue c) before)) cond
