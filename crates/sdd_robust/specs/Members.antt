-- A workload's transactions, each with its place and its accesses.
use Rattle.std.specs.Prelude.{ℕ, ◌+◌, List, [], ◌∷◌, Contains, map}
use Rattle.std.specs.Borrow.{Bor}
use Rattle.sdd_lang.specs.All.{Catalogue, Database}
use Rattle.sdd_lang.specs.declared.transaction.Txn.{Txn}
use Rattle.sdd_robust_laws.specs.Accesses.{accesses}
use Rattle.sdd_robust_laws.specs.declared.access.Access.{Access}
use Rattle.sdd_robust.specs.declared.member.Member.{Member}

-- those that are lent
abbrev pub lent : List (Bor Member) → List Member
lent members = map (λ m. m.now) members

-- what they access
abbrev pub kinds : List Member → List (List Access)
kinds members = map (λ m. m.accesses) members

-- some of all members, with each of whom one of them has the same accesses
pub record StandFor (all few : List Member) : Type 0 where
  pub there : (m : Member) → Contains few m → Contains all m
  pub each : (m : Member) → Contains all m → Contains (kinds few) m.accesses

-- the transactions from a place on
abbrev pub members_from : Catalogue → List Txn → Database → ℕ → List Txn → List Member
members_from cat work first place [] = []
members_from cat work first place (txn ∷ txns) =
    record { place = place; accesses = accesses cat work first txn } ∷ members_from cat work first (place + 1) txns

-- all of them
abbrev pub members_of : Catalogue → List Txn → Database → List Member
members_of cat work first = members_from cat work first 0 work
