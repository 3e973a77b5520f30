-- The rows and copies with which a module begins.
use Rattle.sdd_dm.proofs.All.{All, All-head, All-tail, Bor, Catalogue, Change, Database, Dated, FragNo, Held, IsEntry, Item, Items, List, RelNo, Row, Some, Value, [], ap, arith, changed_at, false, first_row, fold, fragment_of, insert_entry, is_here, item_cmp, key_in, length, lent, map, option_map, refl, slice_index_or, subst, suc, sym, with_change, with_row, zero, ℕ, ℤ, ◌++◌, ◌+◌, ◌<◌, ◌∷◌, ◌≡◌}
use Rattle.sdd_copy.specs.Items.{written}

-- a change of a fragment without a copy is left out

not_changed : (copies : Held) (f : ℕ) (g : Items → Items) → is_here copies f ≡ false → changed_at f (option_map g) copies ≡ copies
not_changed (Some items ∷ copies) zero g e = absurd cc
not_changed (c ∷ copies) (suc f) g e = ap (λ l. c ∷ l) (not_changed copies f g e)
not_changed _ _ g e = refl

pub not_written : (copies : Held) (x : ℕ × Change) → is_here copies x.1.frag.0 ≡ false → copies ≡ with_change copies x
not_written copies x e = sym (not_changed copies x.1.frag.0 (λ items. written items x) e)

-- rows that are lent, and the rows themselves
pub lent_put : (es : List (Item × Bor (List Value))) (k : Item) (v : Bor (List Value))
    → map lent (insert_entry item_cmp es k v) ≡ insert_entry item_cmp (map lent es) k v.now
lent_put [] k v = refl
lent_put (e ∷ es) k v = grind (arith, lent_put es k v)

-- one more element

pub at_pushed : {A : Type 0} (xs : List A) (y d : A) (f : ℕ) (P : A → Type 0) → f < length xs + 1 → (f < length xs → P (slice_index_or xs f d))
    → (f ≡ length xs → P y) → P (slice_index_or (xs ++ y ∷ []) f d)
at_pushed [] y d zero P l old new = new refl
at_pushed [] y d (suc f) P l old new = absurd (omega arith)
at_pushed (x ∷ xs) y d zero P l old new = old (omega arith)
at_pushed (x ∷ xs) y d (suc f) P l old new = at_pushed xs y d f P (omega arith) (λ m. old (omega arith)) (λ e. new (ap suc e))

-- the rows that are left, and one of them put in

abbrev pub put_row : Catalogue → Database → RelNo × Row → Database
put_row cat db r = with_row db (r.0.0, key_in cat r.0.0 r.1) r.1

-- the first of the entries that are left

pub first_entry : (cat : Catalogue) (old rest : List (Item × Bor (List Value))) (e : Item × Bor (List Value)) → old ≡ e ∷ rest
    → All (IsEntry cat) (map lent old) → IsEntry cat (lent e)
first_entry cat old rest e is all = All-head (IsEntry cat) (lent e) (map lent rest) (subst (λ es. All (IsEntry cat) (map lent es)) is all)

pub later_entries : (cat : Catalogue) (old rest : List (Item × Bor (List Value))) (e : Item × Bor (List Value)) → old ≡ e ∷ rest
    → All (IsEntry cat) (map lent old) → All (IsEntry cat) (map lent rest)
later_entries cat old rest e is all = All-tail (IsEntry cat) (lent e) (map lent rest) (subst (λ es. All (IsEntry cat) (map lent es)) is all)

abbrev first_of : Catalogue → List (Item × Bor (List Value)) → Dated
first_of cat es = map (first_row cat) (map lent es)

pub one_written : (cat : Catalogue) (old rest : List (Item × Bor (List Value))) (e : Item × Bor (List Value)) (f : FragNo) (copies new all : Held)
    → old ≡ e ∷ rest → f.0 ≡ fragment_of cat e.0.0 e.0.1
    → new ≡ with_change copies (0, record { frag = f; key = e.0.1; row = Some e.1.now }) → fold with_change copies (first_of cat old) ≡ all
    → fold with_change new (first_of cat rest) ≡ all
one_written cat old rest e f copies new all is number written so_far = cc

abbrev pub with_key : Held → FragNo → List Value → ℤ → Held
with_key copies f row key = with_change copies (0, record { frag = f; key = key; row = Some row })
