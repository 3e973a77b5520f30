-- The words by which a report names what has a number.
use Rattle.std.specs.Prelude.{ℕ, ◌-◌, ◌==◌, if◌then◌else◌, List, [], ◌∷◌, ◌++◌, codes, slice_get}
use Rattle.std.specs.Option.{option_map_or}
use Rattle.std.specs.Fmt.{decimal}
use Rattle.sdd_lang.specs.All.{Catalogue, Class, D, Fragment, Site, T, U}
use Rattle.sdd_lang.specs.declared.transaction.Txn.{Txn}

-- a word after a space
abbrev pub spaced : List ℕ → List ℕ
spaced word = 32 ∷ word

-- a transaction by its name; a number past the last has the empty name, here and below
abbrev pub txn_name : List Txn → ℕ → List ℕ
txn_name txns n = option_map_or (λ (t : Txn). t.name) (slice_get txns (n - 1)) []

-- an attempt of a transaction, as `NAME#2`
abbrev pub attempt_word : List Txn → ℕ → ℕ → List ℕ
attempt_word txns n attempt = txn_name txns n ++ 35 ∷ decimal attempt

-- a class that is declared, by its name
abbrev pub class_name : Catalogue → ℕ → List ℕ
class_name cat c = option_map_or (λ (k : Class). k.name) (slice_get cat.classes (c - 1)) []

-- a class by its name; that of undeclared transactions has none
abbrev pub class_word : Catalogue → ℕ → List ℕ
class_word cat c = if c == 0 then codes "-" else class_name cat c

-- a fragment by its name
abbrev pub fragment_name : Catalogue → ℕ → List ℕ
fragment_name cat f = option_map_or (λ (p : Fragment). p.name) (slice_get cat.fragments (f - 1)) []

-- a data module, as `D2`
abbrev pub module_word : ℕ → List ℕ
module_word d = 68 ∷ decimal d

-- a site, as `U`, `T1` or `D2`
abbrev pub site_word : Site → List ℕ
site_word U = codes "U"
site_word (T tm) = 84 ∷ decimal tm.0
site_word (D dm) = module_word dm.0

-- a class and a time, as conditions show them
abbrev pub class_time : Catalogue → ℕ → ℕ → List ℕ
class_time cat c time = spaced (class_word cat c) ++ spaced (decimal time)
