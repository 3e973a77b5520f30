-- Which items an access has.
use Rattle.sdd_robust_laws.proofs.All.{Access, AllByRecursion, Bool, Catalogue, Condition, Contains, Contains-cases, Contains-here, Contains-nil, FitsCondition, Int, Interval, IsEntry, IsOfKeys, IsRelation, IsSoundCatalogue, IsWithin, Item, List, RelNo, Row, allowed_key, and_from, ap, column, cond, eq-eqb, false, holds_some, inl, inr, int_le, key_column, key_in_range, key_is_there, keys_of_part, le_true, meets_restrictions, over_keys, rel_of, restrictions_fit, restrictions_of, some_within, subst, sym, true, ℕ, ℤ, [], ◌&&◌, ◌==◌, ◌∙◌, ◌∷◌, ◌≡◌}

-- the item is a row of the access
abbrev pub covers : Access → Item → Bool
covers x item = (x.rel.0 == item.0) && (int_le x.least item.1 && int_le item.1 x.greatest)

abbrev pub access_of : RelNo → Interval → ℕ → Bool → Bool → Bool → Access
access_of rel keys k reads changes sure = record { rel = rel; least = keys.0; greatest = keys.1; column = k; reads = reads; changes = changes; sure = sure }

-- an access of keys is there where there is a key
pub over_has : (rel : RelNo) (keys : Interval) (k : ℕ) (reads changes sure : Bool) (key : ℤ) → IsWithin key keys
    → Contains (over_keys rel keys k reads changes sure) (access_of rel keys k reads changes sure)
over_has rel keys k reads changes sure key h =
    let a : Access = access_of rel keys k reads changes sure in
    subst (λ b. Contains (cond b (a ∷ []) []) a) (sym (some_within key keys h)) (Contains-here a [])

-- and none but that one is
pub over_is : (rel : RelNo) (keys : Interval) (k : ℕ) (reads changes sure : Bool) (x : Access) → Contains (over_keys rel keys k reads changes sure) x
    → x ≡ access_of rel keys k reads changes sure
over_is rel keys k reads changes sure x h = by (holds_some keys) h
  where
    by : (b : Bool) → Contains (cond b (access_of rel keys k reads changes sure ∷ []) []) x → x ≡ access_of rel keys k reads changes sure
    by true m = elim (Contains-cases (access_of rel keys k reads changes sure) [] x m) [ inl e ↦ e | inr none ↦ absurd (Contains-nil x none) ]
    by false m = absurd (Contains-nil x m)

pub within_covers : (rel : RelNo) (keys : Interval) (k : ℕ) (reads changes sure : Bool) (item : Item) → item.0 ≡ rel.0 → IsWithin item.1 keys
    → covers (access_of rel keys k reads changes sure) item ≡ true
within_covers rel keys k reads changes sure item e h =
    and_from (rel.0 == item.0) _ (eq-eqb rel.0 item.0 (sym e)) (and_from (int_le keys.0 item.1) _ (le_true keys.0 item.1 h.0) (le_true item.1 keys.1 h.1))

-- the key of a row that meets the restrictions of a part is one of the part's keys
pub lies_in_keys : (cat : Catalogue) → IsSoundCatalogue cat → (rels : List RelNo) (part : ℕ) (conds : List Condition) (rel : RelNo) → rel_of rels part ≡ rel.0
    → IsRelation cat rel.0 → AllByRecursion (FitsCondition cat rels) conds → (e : Item × Row) → IsEntry cat e
    → e.0.0 ≡ rel.0 → meets_restrictions conds part e.1 ≡ true → IsWithin e.0.1 (keys_of_part cat rel part conds)
lies_in_keys cat sound rels part conds rel of there fits e entry same met =
    let held = key_in_range e.0.1 entry.key_held in
    let key_is : column e.1 (key_column cat rel.0) ≡ Int e.0.1 =
    subst (λ n. column e.1 (key_column cat n) ≡ Int e.0.1) same (key_is_there cat sound e.0.0 e.1 entry.relation entry.row ∙ ap Int (sym entry.key)) in
    let kinds : AllByRecursion (IsOfKeys (key_column cat rel.0)) (restrictions_of part conds) =
    subst (λ n. AllByRecursion (IsOfKeys (key_column cat n)) (restrictions_of part conds)) of
    (restrictions_fit cat sound rels part conds (subst (IsRelation cat) (sym of) there) fits) in
    allowed_key (key_column cat rel.0) e.1 e.0.1 (restrictions_of part conds) key_is held kinds met
