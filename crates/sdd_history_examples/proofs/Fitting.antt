-- Tests that tell that what the laws speak of fits together.
use Rattle.sdd_history_examples.proofs.All.{All, All-from_recursion, AllByRecursion, Answer, Apply, AreEras, AreFragments, Arrive, Bool, Catalogue, Change, ChangeExists, Commit, Cond, CondExists, Eras, ExistsIn, FitTogether, FitsStart, FitsTxn, FragNo, History, IsEraOf, List, NamesOneOf, Nothing, Pass, Rec, Reject, RelNo, Row, Some, Start, Submit, Txn, Use, UseExists, Wait, [], and_parts, arith, era_of_itself, is_from_1_to, leb-true, length, list_all, nat_le, one_era, refl, same_Some, slice_get, subst, suc, true, zero, ℕ, ◌&&◌, ◌<◌, ◌∷◌, ◌≡◌, ◌≤◌}
use Rattle.sdd_laws.specs.All.{IsFrom1To}

-- what a test tells of each member

each_by : {A : Type 0} (P : A → Type 0) (p : A → Bool) → ((x : A) → p x ≡ true → P x) → (xs : List A) → list_all p xs ≡ true → AllByRecursion P xs
each_by P p tells [] e = tt
each_by P p tells (x ∷ xs) e =
    let both = and_parts (p x) (list_all p xs) e in
    (tells x both.0, each_by P p tells xs both.1)

pub all_by : {A : Type 0} (P : A → Type 0) (p : A → Bool) → ((x : A) → p x ≡ true → P x) → (xs : List A) → list_all p xs ≡ true → All P xs
all_by P p tells xs e = All-from_recursion P xs (each_by P p tells xs e)

pub from_1_to : (most n : ℕ) → is_from_1_to most n ≡ true → IsFrom1To most n
from_1_to most n e = let both = and_parts (nat_le 1 n) (nat_le n most) e in (leb-true 1 n both.0, leb-true n most both.1)

module _ (cat : Catalogue) where
  abbrev are_fragments : List FragNo → Bool
  are_fragments frags = list_all (λ f. is_from_1_to (length cat.fragments) f.0) frags

  frags_exist : (frags : List FragNo) → are_fragments frags ≡ true → AreFragments cat frags
  frags_exist frags e =
      all_by (λ (f : FragNo). IsFrom1To (length cat.fragments) f.0) (λ f. is_from_1_to (length cat.fragments) f.0)
      (λ f t. from_1_to (length cat.fragments) f.0 t) frags e

  abbrev is_use : Use → Bool
  is_use u = is_from_1_to (length cat.relations) u.rel.0 && are_fragments u.frags

  use_exists : (u : Use) → is_use u ≡ true → UseExists cat u
  use_exists u e = grind (arith, and_parts, are_fragments, from_1_to, frags_exist)

  abbrev is_cond : Cond → Bool
  is_cond c = nat_le c.class.0 (length cat.classes) && are_fragments c.frags

  cond_exists : (c : Cond) → is_cond c ≡ true → CondExists cat c
  cond_exists c e = grind (arith, and_parts, nat_le, are_fragments, leb-true, frags_exist)

  abbrev is_change : Change → Bool
  is_change c = is_from_1_to (length cat.fragments) c.frag.0

  abbrev pub exists_in : Rec → Bool
  exists_in (Submit txn) = true
  exists_in (Start txn attempt class ts p2 uses) = nat_le class.0 (length cat.classes) && list_all is_use uses
  exists_in (Arrive txn attempt dm) = is_from_1_to cat.dms dm.0
  exists_in (Wait txn attempt dm conds) = is_from_1_to cat.dms dm.0 && list_all is_cond conds
  exists_in (Answer txn attempt dm) = is_from_1_to cat.dms dm.0
  exists_in (Reject txn attempt dm class ts) = is_from_1_to cat.dms dm.0 && nat_le class.0 (length cat.classes)
  exists_in (Commit txn attempt reply changes values rows) = list_all is_change changes
  exists_in (Apply txn class dm ts) = is_from_1_to cat.dms dm.0 && nat_le class.0 (length cat.classes)
  exists_in (Pass class dm time) = is_from_1_to cat.dms dm.0 && nat_le class.0 (length cat.classes)
  exists_in Nothing = true

  module_and_class : (d c : ℕ) → (is_from_1_to cat.dms d && nat_le c (length cat.classes)) ≡ true → IsFrom1To cat.dms d × (c ≤ length cat.classes)
  module_and_class d c e = grind (arith, and_parts, nat_le, from_1_to, leb-true)

  pub exists : (r : Rec) → exists_in r ≡ true → ExistsIn cat r
  exists (Start txn attempt class ts p2 uses) e =
      let both = and_parts (nat_le class.0 (length cat.classes)) (list_all is_use uses) e in
      (leb-true class.0 (length cat.classes) both.0, all_by (UseExists cat) is_use use_exists uses both.1)
  exists (Arrive txn attempt dm) e = from_1_to cat.dms dm.0 e
  exists (Wait txn attempt dm conds) e =
      let both = and_parts (is_from_1_to cat.dms dm.0) (list_all is_cond conds) e in
      (from_1_to cat.dms dm.0 both.0, all_by (CondExists cat) is_cond cond_exists conds both.1)
  exists (Answer txn attempt dm) e = from_1_to cat.dms dm.0 e
  exists (Reject txn attempt dm class ts) e = module_and_class dm.0 class.0 e
  exists (Commit txn attempt reply changes values rows) e = all_by (ChangeExists cat) is_change (λ c t. from_1_to (length cat.fragments) c.frag.0 t) changes e
  exists (Apply txn class dm ts) e = module_and_class dm.0 class.0 e
  exists (Pass class dm time) e = module_and_class dm.0 class.0 e
  exists _ e = tt

abbrev pub names_one_of : ℕ → Rec → Bool
names_one_of count (Submit txn) = is_from_1_to count txn.0
names_one_of count (Start txn attempt class ts p2 uses) = is_from_1_to count txn.0
names_one_of count (Arrive txn attempt dm) = is_from_1_to count txn.0
names_one_of count (Wait txn attempt dm conds) = is_from_1_to count txn.0
names_one_of count (Answer txn attempt dm) = is_from_1_to count txn.0
names_one_of count (Reject txn attempt dm class ts) = is_from_1_to count txn.0
names_one_of count (Commit txn attempt reply changes values rows) = is_from_1_to count txn.0
names_one_of count (Apply txn class dm ts) = is_from_1_to count txn.0
names_one_of count (Pass class dm time) = true
names_one_of count Nothing = true

-- one catalogue from the beginning

pub are_eras : (cat : Catalogue) → AreEras cat (one_era cat)
are_eras cat = record { first = (cat, refl); rise = rise; each = each }
  where
    rise : (k : ℕ) (a b : ℕ × Catalogue) → slice_get (one_era cat) k ≡ Some a → slice_get (one_era cat) (suc k) ≡ Some b → a.0 < b.0
    rise zero a b p q = absurd (cc)
    rise (suc k) a b p q = absurd (cc)

    each : (k : ℕ) (a : ℕ × Catalogue) → slice_get (one_era cat) k ≡ Some a → IsEraOf cat a.1
    each zero a p = subst (λ (e : ℕ × Catalogue). IsEraOf cat e.1) (same_Some (0, cat) a p) (era_of_itself cat)
    each (suc k) a p = absurd (cc)

pub record PassFit (cat : Catalogue) (eras : Eras) (rows : List (RelNo × Row)) (txns : List Txn) (h : History) : Type 0 where
  pub are_eras : AreEras cat eras
  pub rows_fit : AllByRecursion (FitsStart cat) rows
  pub txns_fit : AllByRecursion (FitsTxn cat) txns
  pub numbers_exist : list_all (λ e. exists_in cat e.1) h ≡ true
  pub txns_exist : list_all (λ e. names_one_of (length txns) e.1) h ≡ true

pub fit_together : (cat : Catalogue) (eras : Eras) (rows : List (RelNo × Row)) (txns : List Txn) (h : History) → PassFit cat eras rows txns h
    → FitTogether cat eras rows txns h
fit_together cat eras rows txns h pass =
    record {
      are_eras = pass.are_eras;
      rows_fit = All-from_recursion (FitsStart cat) rows pass.rows_fit;
      txns_fit = All-from_recursion (FitsTxn cat) txns pass.txns_fit;
      numbers_exist = all_by (λ (e : ℕ × Rec). ExistsIn cat e.1) (λ e. exists_in cat e.1) (λ e t. exists cat e.1 t) h pass.numbers_exist;
      txns_exist = all_by (λ (e : ℕ × Rec). NamesOneOf (length txns) e.1) (λ e. names_one_of (length txns) e.1)
          (λ e t. (grind (arith, from_1_to))) h pass.txns_exist;
    }
