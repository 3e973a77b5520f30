-- The rows with which a module begins: those of the fragments of which it has copies.
use Rattle.sdd_dm.proofs.All.{All, All-filter, AllByRecursion, Bool, Bor, Catalogue, CmpEqualImpliesEq, Database, Equal, Greater, Held, IsEntry, IsStrictlySortedBy, IsTotalOrder, Item, Less, List, Ordering, RelNo, Row, Value, [], ap, arith, cond, database_of, false, filter, first_row, fold, fragment_of, here_more, insert_entry, inserted_sorted, is_here, item_cmp, item_cmp_exact, item_cmp_total, key_in, keys_of, lent, map, match_ordering, nat_tests, own_rows, refl, rules, sorted_head, sorted_nil, sorted_tail, subst, sym, true, with_change, with_own, with_row, ℕ, ℤ, ◌∙◌, ◌∷◌, ◌≡◌}
use Rattle.sdd_dm.proofs.Beginning.{lent_put, not_written, put_row}
use Rattle.sdd_dm.specs.Starts.{is_own}

-- a key below all others goes to the front

goes_first : {K X : Type 0} (R : K → K → Ordering) (es : List (K × X)) (k : K) (v : X)
    → AllByRecursion (λ y. R k y ≡ Less) (keys_of es) → insert_entry R es k v ≡ (k, v) ∷ es
goes_first R [] k v all = refl
goes_first R (e ∷ es) k v all = cc

below_kept : {K X : Type 0} (R : K → K → Ordering) → IsTotalOrder R → (p : K × X → Bool) (es : List (K × X)) (k b : K)
    → R k b ≡ Less → AllByRecursion (λ y. R b y ≡ Less) (keys_of es)
    → AllByRecursion (λ y. R k y ≡ Less) (keys_of (filter p es))
below_kept R total p [] k b h all = tt
below_kept R total p (e ∷ es) k b h all = search (rules, below_kept R total p es k b h all.1)

below_all : {K X : Type 0} (R : K → K → Ordering) → IsTotalOrder R → (p : K × X → Bool) (e : K × X) (es : List (K × X)) (k : K)
    → R k e.0 ≡ Less → AllByRecursion (λ y. R e.0 y ≡ Less) (keys_of es)
    → AllByRecursion (λ y. R k y ≡ Less) (keys_of (filter p (e ∷ es)))
below_all R total p e es k h all =
    elim (p e) as (λ t. AllByRecursion (λ y. R k y ≡ Less) (keys_of (cond t (e ∷ filter p es) (filter p es)))) [
      | true ↦ (h, below_kept R total p es k e.0 h all)
      | false ↦ below_kept R total p es k e.0 h all
    ]

-- of ascending entries those whose keys pass a test: what is put in is put in there, or left out

pub put_in_kept : {K X : Type 0} (R : K → K → Ordering) → IsTotalOrder R → CmpEqualImpliesEq R → (p : K → Bool)
    (es : List (K × X)) (k : K) (v : X) → IsStrictlySortedBy R (keys_of es) → p k ≡ true
    → filter (λ e. p e.0) (insert_entry R es k v) ≡ insert_entry R (filter (λ e. p e.0) es) k v
put_in_kept R total exact p [] k v sorted own = ap (λ b. cond b ((k, v) ∷ []) []) own
put_in_kept {K} {X} R total exact p (e ∷ es) k v sorted own =
    let q : K × X → Bool = λ x. p x.0 in
    elim (R k e.0) as (λ o. R k e.0 ≡ o
    → filter q (match_ordering o ((k, v) ∷ e ∷ es) ((e.0, v) ∷ es) (e ∷ insert_entry R es k v)) ≡ insert_entry R (filter q (e ∷ es)) k v) [
      | Less ↦ λ h. ap (λ b. cond b ((k, v) ∷ filter q (e ∷ es)) (filter q (e ∷ es))) own
          ∙ sym (goes_first R (filter q (e ∷ es)) k v (below_all R total q e es k h (sorted_head R e.0 (keys_of es) sorted)))
      | Equal ↦ grind (arith, nat_tests, insert_entry, match_ordering)
      | Greater ↦ grind (arith, nat_tests, insert_entry, sorted_tail, keys_of, match_ordering, (put_in_kept R total exact p es k v (sorted_tail R e.0 (keys_of es) sorted) own))
    ] refl

pub put_in_left : {K X : Type 0} (R : K → K → Ordering) → CmpEqualImpliesEq R → (p : K → Bool)
    (es : List (K × X)) (k : K) (v : X) → p k ≡ false
    → filter (λ e. p e.0) (insert_entry R es k v) ≡ filter (λ e. p e.0) es
put_in_left R exact p [] k v out = ap (λ b. cond b ((k, v) ∷ []) []) out
put_in_left {K} {X} R exact p (e ∷ es) k v out = search (rules, put_in_left R exact p es k v out)

-- the module's own rows are those of the database of all rows whose fragments it keeps

own_from : (cat : Catalogue) (copies : Held) (db : Database) (rows : List (RelNo × Row)) → IsStrictlySortedBy item_cmp (keys_of db)
    → fold (with_own cat copies) (filter (λ e. is_own cat copies e.0) db) rows
    ≡ filter (λ e. is_own cat copies e.0) (fold (put_row cat) db rows)
own_from cat copies db [] sorted = refl
own_from cat copies db (r ∷ rows) sorted =
    let q : Item × Row → Bool = λ e. is_own cat copies e.0 in
    let item : Item = (r.0.0, key_in cat r.0.0 r.1) in
    let later : fold (with_own cat copies) (filter q (with_row db item r.1)) rows ≡ filter q (fold (put_row cat) (with_row db item r.1) rows) =
    own_from cat copies (with_row db item r.1) rows (inserted_sorted item_cmp item_cmp_total db item r.1 sorted) in
    elim (is_own cat copies item) as (λ b. is_own cat copies item ≡ b
    → fold (with_own cat copies) (cond b (with_row (filter q db) item r.1) (filter q db)) rows
    ≡ filter q (fold (put_row cat) (with_row db item r.1) rows)) [
      | true ↦ λ h. ap (λ d. fold (with_own cat copies) d rows)
          (sym (put_in_kept item_cmp item_cmp_total item_cmp_exact (is_own cat copies) db item r.1 sorted h)) ∙ later
      | false ↦ λ h. ap (λ d. fold (with_own cat copies) d rows)
          (sym (put_in_left item_cmp item_cmp_exact (is_own cat copies) db item r.1 h)) ∙ later
    ] refl

pub own_rows_are : (cat : Catalogue) (copies : Held) (rows : List (RelNo × Row))
    → own_rows cat copies rows ≡ filter (λ e. is_own cat copies e.0) (database_of cat rows)
own_rows_are cat copies rows = own_from cat copies [] rows (sorted_nil item_cmp)

-- the others change no copy

others_left : (cat : Catalogue) (first copies : Held) (db : Database) → ((f : ℕ) → is_here copies f ≡ is_here first f)
    → fold with_change copies (map (first_row cat) (filter (λ e. is_own cat first e.0) db)) ≡ fold with_change copies (map (first_row cat) db)
others_left cat first copies [] same = refl
others_left cat first copies (e ∷ db) same =
    let q : Item × Row → Bool = λ x. is_own cat first x.0 in
    elim (is_own cat first e.0) as (λ b. is_own cat first e.0 ≡ b
    → fold with_change copies (map (first_row cat) (cond b (e ∷ filter q db) (filter q db)))
    ≡ fold with_change (with_change copies (first_row cat e)) (map (first_row cat) db)) [
      | true ↦ λ h. others_left cat first (with_change copies (first_row cat e)) db (λ f. here_more copies (first_row cat e) f ∙ same f)
      | false ↦ λ h. others_left cat first copies db same
          ∙ ap (λ c. fold with_change c (map (first_row cat) db)) (not_written copies (first_row cat e) (same _ ∙ h))
    ] refl

pub own_are_enough : (cat : Catalogue) (copies : Held) (rows : List (RelNo × Row))
    → fold with_change copies (map (first_row cat) (own_rows cat copies rows))
    ≡ fold with_change copies (map (first_row cat) (database_of cat rows))
own_are_enough cat copies rows = search (rules, own_rows_are, others_left)

-- a row is added where its fragment has a copy, and else left out

pub own_added : (cat : Catalogue) (copies : Held) (rel : RelNo) (old new : List (Item × Bor (List Value))) (key : ℤ) (f : ℕ) (row : Bor (List Value))
    → new ≡ insert_entry item_cmp old (rel.0, key) row → key ≡ key_in cat rel.0 row.now → f ≡ fragment_of cat rel.0 key
    → is_here copies f ≡ true → map lent new ≡ with_own cat copies (map lent old) (rel, row.now)
own_added cat copies rel old new key f row put key_is number here = search (rules, lent_put)

pub other_left : (cat : Catalogue) (copies : Held) (rel : RelNo) (old : List (Item × Bor (List Value))) (key : ℤ) (f : ℕ) (row : Bor (List Value))
    → key ≡ key_in cat rel.0 row.now → f ≡ fragment_of cat rel.0 key
    → is_here copies f ≡ false → map lent old ≡ with_own cat copies (map lent old) (rel, row.now)
other_left cat copies rel old key f row key_is number out = cc

pub own_entries : (cat : Catalogue) (copies : Held) (rows : List (RelNo × Row)) (own : List (Item × Bor (List Value)))
    → map lent own ≡ own_rows cat copies rows → All (IsEntry cat) (database_of cat rows) → All (IsEntry cat) (map lent own)
own_entries cat copies rows own are all =
    subst (All (IsEntry cat)) (sym (are ∙ own_rows_are cat copies rows))
    (All-filter (λ e. is_own cat copies e.0) (IsEntry cat) (database_of cat rows) all)
