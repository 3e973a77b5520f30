-- Names have no byte that no name has: no space, no newline, no `#`.
use Rattle.std.proofs.Common.{All, List, None, Option, Some, [], ap, arith, false, nat_eq as eqb, nat_le, ne_eqb, refl, slice_get, true, ℕ, ◌-◌, ◌∷◌, ◌≡◌, ◌≢◌}
use Rattle.std.proofs.lemmas.Bool.Decides.{nat_tests}
use Rattle.std.proofs.lemmas.List.Elements.{All-cons, All-nil}
use Rattle.std.specs.List.{list_all}
use Rattle.std.specs.Option.{option_map_or}
use Rattle.sdd_verified.specs.report.Names.{txn_name}
use Rattle.sdd_verified.specs.script.All.{HasNoSpace, IsName, Txn, begins_with_letter, is_keyword, is_name_byte}
use Rattle.sdd_verified.proofs.script.words.Numbers.{both}
use Rattle.sdd_certify.proofs.verifying.Submissions.{found_member}

pub named_bytes : (name : List ℕ) → IsName name → list_all is_name_byte name ≡ true
named_bytes name h = grind (arith, nat_tests, begins_with_letter, nat_le, both, list_all, is_name_byte, is_keyword)

not_it : (c k : ℕ) → is_name_byte k ≡ false → is_name_byte c ≡ true → c ≢ k
not_it c k other e same = let q : is_name_byte c ≡ is_name_byte k = ap is_name_byte same in absurd cc

abbrev pub IsNot : ℕ → ℕ → Type 0
IsNot k c = eqb c k ≡ false

-- none of its bytes is this one
pub bytes_apart : (k : ℕ) (bytes : List ℕ) → is_name_byte k ≡ false → list_all is_name_byte bytes ≡ true → All (IsNot k) bytes
bytes_apart k [] other e = All-nil (IsNot k)
bytes_apart k (c ∷ bytes) other e =
    let b = both (is_name_byte c) (list_all is_name_byte bytes) e in
    All-cons (IsNot k) c bytes (ne_eqb c k (not_it c k other b.0)) (bytes_apart k bytes other b.1)

pub bytes_spaceless : (bytes : List ℕ) → list_all is_name_byte bytes ≡ true → HasNoSpace bytes
bytes_spaceless [] e = tt
bytes_spaceless (c ∷ bytes) e =
    let b = both (is_name_byte c) (list_all is_name_byte bytes) e in
    (not_it c 32 refl b.0, bytes_spaceless bytes b.1)

-- the name of a transaction by its number

name_by : (txns : List Txn) (i : ℕ) (o : Option Txn) → slice_get txns i ≡ o → All (λ (t : Txn). IsName t.name) txns
    → list_all is_name_byte (option_map_or (λ (t : Txn). t.name) o []) ≡ true
name_by txns i None is named = refl
name_by txns i (Some t) is named = named_bytes t.name (found_member (λ (u : Txn). IsName u.name) txns i t named is)

pub txn_bytes : (txns : List Txn) (n : ℕ) → All (λ (t : Txn). IsName t.name) txns → list_all is_name_byte (txn_name txns n) ≡ true
txn_bytes txns n named = name_by txns (n - 1) (slice_get txns (n - 1)) refl named
