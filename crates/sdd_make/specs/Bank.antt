-- The catalogue of a bank: accounts in the east and in the west, each kept at two modules.
use Rattle.std.specs.Prelude.{ℕ, ℤ, pos, List, [], ◌∷◌, codes, refl}
use Rattle.sdd_script.specs.All.{Catalogue, ClassPart, ColumnPart, FragmentPart, Kind, Parts, ReadPart, RelationPart, catalogue_of, greatest_key, least_key}
use Rattle.sdd_script.specs.catalog.Rules.{IsValid, faults_of}
use Rattle.sdd_script.specs.catalog.declared.parts.Kind.TheVariants.{Int, Text}

-- a column of the accounts
abbrev pub column : List ℕ → Kind → ColumnPart
column name kind = record { name = name; kind = kind }

-- the one relation: accounts with their owners and balances
abbrev pub account : RelationPart
account =
    record {
      name = codes "account";
      columns = column (codes "id") Int ∷ column (codes "owner") Text ∷ column (codes "bal") Int ∷ [];
      key = codes "id";
    }

-- a fragment of the accounts, with copies at its own module and at module 3
abbrev pub fragment : List ℕ → ℤ → ℤ → ℕ → FragmentPart
fragment name from to dm = record { name = name; relation = codes "account"; from = from; to = to; copies = dm ∷ 3 ∷ [] }

-- a fragment that a class reads, and the module where it does
abbrev pub read : List ℕ → ℕ → ReadPart
read fragment at = record { fragment = fragment; at = at }

-- a class at a module
abbrev pub class : List ℕ → ℕ → List ReadPart → List (List ℕ) → ClassPart
class name tm reads writes = record { name = name; tm = tm; reads = reads; writes = writes }

-- the names of the fragments
abbrev pub east : List ℕ
east = codes "east"

abbrev pub west : List ℕ
west = codes "west"

-- payments within the east and within the west
abbrev pub eastpay : ClassPart
eastpay = class (codes "eastpay") 1 (read east 1 ∷ []) (east ∷ [])

abbrev pub westpay : ClassPart
westpay = class (codes "westpay") 2 (read west 2 ∷ []) (west ∷ [])

-- the books, which are read at one module
abbrev pub book : ClassPart
book = class (codes "book") 3 (read east 3 ∷ read west 3 ∷ []) []

-- payments between the two
abbrev pub transfers : ClassPart
transfers = class (codes "move") 3 (read east 1 ∷ read west 2 ∷ []) (east ∷ west ∷ [])

-- three modules of each sort, two fragments, four classes
abbrev pub bank_parts : Parts
bank_parts =
    record {
      tms = 3;
      dms = 3;
      relations = account ∷ [];
      fragments = fragment east least_key (pos 999) 1 ∷ fragment west (pos 1000) greatest_key 2 ∷ [];
      classes = eastpay ∷ westpay ∷ book ∷ transfers ∷ [];
    }

-- no rule of catalogues is broken
pub bank_is_valid : IsValid bank_parts
unfolding faults_of
bank_is_valid = refl

-- the catalogue of the bank
abbrev pub bank : Catalogue
bank = catalogue_of bank_parts
