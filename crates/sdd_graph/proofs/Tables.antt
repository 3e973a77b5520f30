-- What the tables of a catalogue hold at a class and at a fragment.
use Rattle.sdd_graph.proofs.All.{All, All-filter, All-from_recursion, All-same, All-weaker, Bool, Catalogue, ClassUses, FragNo, IsClassOf, IsServedClass, IsWhole, List, all_uses, ap, arith, class_at, class_uses, cond, each_in_range, false, fragments_of, get_or, get_or-map-range_with_len, is_some, length, length-map-range_with_len, list_any, map, ne_eqb, numbers_to, reads_at, reads_of, sym, take, take_all, true, write_sets_meet, writes, written_by, zip, ℕ, ◌&&◌, ◌+◌, ◌-◌, ◌<◌, ◌==◌, ◌∙◌, ◌≡◌, ◌≤◌}
use Rattle.sdd_graph.proofs.Lists.{any_both, is_among}

-- so many classes
pub all_uses_long : (cat : Catalogue) (uses : List ClassUses) → uses ≡ all_uses cat → length uses ≡ length cat.classes
all_uses_long cat uses e = ap length e ∙ length-map-range_with_len (class_uses cat) 1 (length cat.classes)

-- one of them
pub uses_at : (cat : Catalogue) (uses : List ClassUses) (i : ℕ) (d : ClassUses)
    → uses ≡ all_uses cat → IsClassOf cat i → get_or uses (i - 1) d ≡ class_uses cat i
uses_at cat uses i d e is =
    let from : 1 ≤ i = is.from in
    let to : i ≤ length cat.classes = is.to in
    ap (λ (us : List ClassUses). get_or us (i - 1) d) e ∙ get_or-map-range_with_len (class_uses cat) 1 (length cat.classes) (i - 1) i d (omega arith)
    (omega arith)

-- a flag for each fragment
pub written_long : (cat : Catalogue) (i : ℕ) → length (written_by cat i) ≡ length cat.fragments
written_long cat i = length-map-range_with_len (writes cat i) 1 (length cat.fragments)

-- one of them
pub written_at : (cat : Catalogue) (i f : ℕ) (d : Bool) → 1 ≤ f → f ≤ length cat.fragments
    → get_or (written_by cat i) (f - 1) d ≡ writes cat i f
written_at cat i f d from to = get_or-map-range_with_len (writes cat i) 1 (length cat.fragments) (f - 1) f d (omega arith) (omega arith)

-- the numbers from 1 to n are such
pub each_to : (n : ℕ) → All (λ d. (1 ≤ d) × (d ≤ n)) (numbers_to n)
each_to n =
    All-weaker (λ d. (1 ≤ d) × (d < 1 + n)) (λ d. (1 ≤ d) × (d ≤ n)) (λ d h. (h.0, omega (arith, h.1))) (numbers_to n) (All-from_recursion _ (numbers_to n) (each_in_range 1 n))

-- what is read is there
pub reads_within : (cat : Catalogue) (i : ℕ) → All (λ f. (1 ≤ f) × (f ≤ length cat.fragments)) (reads_of cat i)
reads_within cat i =
    All-filter (λ f. is_some (reads_at cat i f)) (λ f. (1 ≤ f) × (f ≤ length cat.fragments)) (fragments_of cat) (each_to (length cat.fragments))

-- two write sets meet where their flags do
pub flags_meet : (cat : Catalogue) (i j : ℕ)
    → list_any (λ (x : Bool × Bool). x.0 && x.1) (zip (written_by cat i) (written_by cat j)) ≡ write_sets_meet cat i j
flags_meet cat i j = any_both (writes cat i) (writes cat j) (fragments_of cat)

-- what is written is there
pub writes_within : (cat : Catalogue) (i : ℕ) (written : List FragNo) → IsWhole cat → IsClassOf cat i
    → written ≡ (class_at cat i).writes → All (λ f. (1 ≤ f.0) × (f.0 ≤ length cat.fragments)) written
writes_within cat i written whole is e =
    let from : 1 ≤ i = is.from in
    let to : i ≤ length cat.classes = is.to in
    let served : IsServedClass cat (class_at cat i) = whole.classes (i - 1) _ (omega arith) in
    All-same (λ f. (1 ≤ f.0) × (f.0 ≤ length cat.fragments)) written _ e served.writes

-- the flags of all fragments that are written
pub written_all : (cat : Catalogue) (i : ℕ) (written : List FragNo) (k : ℕ) (flags : List Bool) → IsClassOf cat i
    → written ≡ (class_at cat i).writes → length written ≤ k
    → flags ≡ map (is_among (take k written)) (fragments_of cat) → flags ≡ written_by cat i
written_all cat i written k flags is e done made =
    let from : 1 ≤ i = is.from in
    let declared : (i == 0) ≡ false = ne_eqb i 0 (λ z. absurd (omega arith)) in
    made
    ∙ ap (λ ws. map (is_among ws) (fragments_of cat)) (take_all k written done ∙ e)
    ∙ ap (λ b. map (λ f. cond b true (is_among (class_at cat i).writes f)) (fragments_of cat)) (sym declared)
