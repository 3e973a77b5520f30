-- What a workload that its catalogue allows gives: transactions and a database as the law asks for them; and what is found of
-- its members, by places.
use Rattle.std.proofs.Common.{Contains, List, [], ap, arith, drop, le-leb, length, map, nat_le, refl, slice_index_or as get_or, subst, suc, sym, zero, ℕ, ◌++◌, ◌+◌, ◌<◌, ◌∙◌, ◌∷◌, ◌≡◌}
use Rattle.std.specs.List.{All}
use Rattle.std.proofs.lemmas.List.Elements.{All-weaker}
use Rattle.std.proofs.lemmas.Bool.{and_from as and_both}
use Rattle.std.proofs.lemmas.List.{append_assoc, drop_more}
use Rattle.sdd_lang.proofs.StaysDatabase.{rows_make_database}
use Rattle.sdd_lang.specs.All.{Catalogue, Database, FitsStart, FitsTxn, IsDatabase, IsHeld, PutsHeld, RelNo, Row, Value, database_of}
use Rattle.sdd_lang.specs.declared.statement.Stmt.{Stmt}
use Rattle.sdd_lang.specs.declared.transaction.Txn.{Txn}
use Rattle.sdd_script.specs.All.{HoldsValues, IsValid, IsValidRow, IsValidTxn, IsValue}
use Rattle.sdd_script.specs.declared.workload.Workload.{Workload}
use Rattle.sdd_robust_laws.specs.Accesses.{accesses}
use Rattle.sdd_robust_laws.specs.Runs.{IsRobust}
use Rattle.sdd_robust_laws.specs.Shown.{IsDangerous, IsShownRobust}
use Rattle.sdd_robust_laws.specs.Theorems.{IsWorkload, ShownIsRobust}
use Rattle.sdd_robust_laws.specs.declared.access.Access.{Access}
use Rattle.sdd_robust.specs.Members.{kinds, members_from, members_of}
use Rattle.sdd_robust.specs.Pivots.{IsPivot}
use Rattle.sdd_robust.specs.Workloads.{IsPivotOf, accesses_at, accesses_in}
use Rattle.sdd_robust.specs.declared.member.Member.{Member}

pub rows_fit : (cat : Catalogue) (work : Workload) → IsValid cat work → All (FitsStart cat) work.rows
rows_fit cat work valid = All-weaker (IsValidRow cat) (FitsStart cat) (λ r v. v.fits) work.rows valid.rows

pub txns_fit : (cat : Catalogue) (work : Workload) → IsValid cat work → All (FitsTxn cat) work.txns
txns_fit cat work valid = All-weaker (IsValidTxn cat) (FitsTxn cat) (λ t v. v.fits) work.txns valid.txns

held : (v : Value) → IsValue v → IsHeld v
held v h = grind (arith, le-leb, and_both, nat_le)

puts_held : (s : Stmt) → HoldsValues s → PutsHeld s
puts_held s h = grind (arith, held)

pub is_workload : (cat : Catalogue) (work : Workload) → IsValid cat work → IsWorkload cat work.txns
is_workload cat work valid = (
  txns_fit cat work valid,
  All-weaker (IsValidTxn cat) (λ (txn : Txn). All PutsHeld txn.statements)
      (λ t v. All-weaker HoldsValues PutsHeld puts_held t.statements v.values) work.txns valid.txns,
)

pub first_database : (cat : Catalogue) (work : Workload) → IsValid cat work → IsDatabase cat (database_of cat work.rows)
first_database cat work valid =
    rows_make_database cat work.rows (rows_fit cat work valid)
    (All-weaker (IsValidRow cat) (λ (r : RelNo × Row). All IsHeld r.1) (λ r v. All-weaker IsValue IsHeld held r.1 v.values) work.rows valid.rows)

-- what the members access is what the transactions do
kinds_from : (cat : Catalogue) (work : List Txn) (first : Database) (n : ℕ) (txns : List Txn)
    → kinds (members_from cat work first n txns) ≡ map (accesses cat work first) txns
kinds_from cat work first n [] = refl
kinds_from cat work first n (txn ∷ txns) = rw (kinds_from cat work first (n + 1) txns) refl

pub kinds_are : (cat : Catalogue) (work : List Txn) (first : Database) → kinds (members_of cat work first) ≡ accesses_in cat work first
kinds_are cat work first = kinds_from cat work first 0 work

-- a member has the accesses of the transaction at its place
member_from : (cat : Catalogue) (work : List Txn) (first : Database) (n : ℕ) (txns : List Txn) (i : ℕ) (d : Member) → i < length txns
    → ((get_or (members_from cat work first n txns) i d).place ≡ n + i)
    × ((get_or (members_from cat work first n txns) i d).accesses ≡ get_or (map (accesses cat work first) txns) i [])
member_from cat work first n [] i d l = absurd (omega arith)
member_from cat work first n (txn ∷ txns) zero d l = (omega arith, refl)
member_from cat work first n (txn ∷ txns) (suc i) d l =
    let rest = member_from cat work first (n + 1) txns i d (omega arith) in
    let place = rest.0 in
    (omega (arith, place), rest.1)

as_many : (cat : Catalogue) (work : List Txn) (first : Database) (n : ℕ) (txns : List Txn) → length (members_from cat work first n txns) ≡ length txns
as_many cat work first n [] = refl
as_many cat work first n (txn ∷ txns) = ap suc (as_many cat work first (n + 1) txns)

member_at : (cat : Catalogue) (work : List Txn) (first : Database) (m : Member) → Contains (members_of cat work first) m
    → (m.place < length work) × (m.accesses ≡ accesses_at cat work first m.place)
member_at cat work first m there =
    let many = as_many cat work first 0 work in
    let within : there.0 < length work = omega (arith, many, there.1) in
    let is = member_from cat work first 0 work there.0 m within in
    let from_0 : m.place ≡ 0 + there.0 = ap (λ (x : Member). x.place) (sym there.2) ∙ is.0 in
    let place : m.place ≡ there.0 = omega (arith, from_0) in (
      subst (λ k. k < length work) (sym place) within,
      ap (λ (x : Member). x.accesses) (sym there.2) ∙ is.1 ∙ ap (λ k. accesses_at cat work first k) (sym place),
    )

-- what is dangerous is so among equal accesses
by_places : (all same : List (List Access)) (pivot own : List Access) (d : IsDangerous all pivot) → all ≡ same → pivot ≡ own → (P : Type 0)
    → ((e : IsDangerous same own) → e.missed ≡ d.missed → e.missing ≡ d.missing → P) → P
by_places all same pivot own d p q P =
    subst (λ o. ((e : IsDangerous same o) → e.missed ≡ d.missed → e.missing ≡ d.missing → P) → P) q
    (subst (λ s. ((e : IsDangerous s pivot) → e.missed ≡ d.missed → e.missing ≡ d.missing → P) → P) p (λ f. f d refl refl))

-- where no pivot is found, the workload is shown robust
pub shown : (cat : Catalogue) (work : Workload) (all : List Member) → all ≡ members_of cat work.txns (database_of cat work.rows)
    → ((pivot : List Access) → Contains (kinds all) pivot → IsDangerous (kinds all) pivot → ⊥)
    → IsShownRobust cat work.txns (database_of cat work.rows)
shown cat work all is none =
    subst (λ kinds. (pivot : List Access) → Contains kinds pivot → IsDangerous kinds pivot → ⊥)
    (ap kinds is ∙ kinds_are cat work.txns (database_of cat work.rows)) none

-- so it is robust
pub robust : (cat : Catalogue) → ShownIsRobust cat → (work : Workload) → IsValid cat work → IsShownRobust cat work.txns (database_of cat work.rows)
    → IsRobust cat work.txns (database_of cat work.rows)
robust cat law work valid is = law work.txns (is_workload cat work valid) (database_of cat work.rows) (first_database cat work valid) is

-- one that is found is a pivot of the workload, by places
pub pivot_of : (cat : Catalogue) (work : List Txn) (first : Database) (all : List Member) (pivot missed missing : Member)
    → all ≡ members_of cat work first → IsPivot all pivot missed missing
    → IsPivotOf cat work first (record { pivot = pivot.place; missed = missed.place; missing = missing.place })
pivot_of cat work first all pivot missed missing is found =
    let at = λ (m : Member) (h : Contains all m). member_at cat work first m (subst (λ ms. Contains ms m) is h) in
    let of_pivot = at pivot found.pivot_there in
    let of_missed = at missed found.missed_there in
    let of_missing = at missing found.missing_there in
    by_places (kinds all) (accesses_in cat work first) pivot.accesses (accesses_at cat work first pivot.place) found.dangerous
    (ap kinds is ∙ kinds_are cat work first) of_pivot.1
    (IsPivotOf cat work first (record { pivot = pivot.place; missed = missed.place; missing = missing.place }))
    (λ d e f. record {
      pivot_there = of_pivot.0;
      missed_there = of_missed.0;
      missing_there = of_missing.0;
      dangerous = d;
      missed_is = e ∙ found.missed_is ∙ of_missed.1;
      missing_is = f ∙ found.missing_is ∙ of_missing.1;
    })

-- one more member of those that are listed
pub members_more : (cat : Catalogue) (work : List Txn) (first : Database) (txns : List Txn) (n i : ℕ) (all more whole : List Member) (txn : Txn) (m : Member)
    → i < length txns → get_or txns i txn ≡ txn → m ≡ record { place = n; accesses = accesses cat work first txn } → more ≡ all ++ m ∷ []
    → all ++ members_from cat work first n (drop i txns) ≡ whole → more ++ members_from cat work first (n + 1) (drop (i + 1) txns) ≡ whole
members_more cat work first txns n i all more whole txn m l is made pushed so_far =
    let rest : List Member = members_from cat work first (n + 1) (drop (i + 1) txns) in
    let next : drop i txns ≡ txn ∷ drop (i + 1) txns = drop_more txns i txn l ∙ ap (λ t. t ∷ drop (i + 1) txns) is in
    ap (λ zs. zs ++ rest) pushed ∙ append_assoc all (m ∷ []) rest ∙ ap (λ y. all ++ y ∷ rest) made
    ∙ sym (ap (λ ts. all ++ members_from cat work first n ts) next) ∙ so_far
