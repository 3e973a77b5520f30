-- The flags that are made tell the relations, and so the text tells what is needed.
use Rattle.sdd_ask.proofs.All.{Bool, CELLS, Catalogue, Contains, Entry, IsClassOf, IsTable, IsWhole, List, Relation, Tells, WIDTH, add-one, ap, arith, awaits, begins, closed, flag_at, flags_of, is_held, is_queued, length, meets, moves, needed_by, needs_text, range_with_len, subst, sym, through, waits_for, ℕ, ◌&&◌, ◌+◌, ◌<◌, ◌==◌, ◌||◌, ◌∙◌, ◌≡◌, ◌≤◌}
use Rattle.sdd_ask.proofs.All.{All-contains, All-from_recursion, each_in_range}
use Rattle.sdd_ask.specs.Needs.{IsNeedsText}
use Rattle.sdd_ask.proofs.Agreeing.{any_same, text_same}
use Rattle.sdd_ask.proofs.Cells.{tells_flags}
use Rattle.sdd_ask.proofs.Closing.{closed_agree}
use Rattle.sdd_ask.proofs.Owning.{tells_needs}

-- before the first round
pub closed_none : (flags all : List Bool) → all ≡ flags → length flags ≡ CELLS → Tells all (closed (flag_at flags) 0)
closed_none flags all e long = record { cells = ap length e ∙ long; at = λ i j a b. ap (λ z. flag_at z i j) e }

-- after the last one
pub closed_all : (related : Relation) (all : List Bool) (k : ℕ) → k ≤ WIDTH → WIDTH ≤ k → Tells all (closed related k)
    → Tells all (closed related WIDTH)
closed_all related all k to from tells =
    let last : k ≡ WIDTH = omega arith in
    subst (λ n. Tells all (closed related n)) last tells

-- one round more
pub closed_more : (related : Relation) (old new : List Bool) (k : ℕ) → k < WIDTH → Tells old (closed related k)
    → new ≡ flags_of (through (flag_at old) k) → Tells new (closed related (k + 1))
closed_more related old new k l tells made =
    let now = tells_flags (through (flag_at old) k) new made in
    subst (λ n. Tells new (closed related n)) (sym (add-one k))
    (record {
      cells = now.cells;
      at = λ i j a b.
          now.at i j a b
          ∙ ap (λ z. z || (flag_at old i k && flag_at old k j)) (tells.at i j a b)
          ∙ ap (λ z. closed related k i j || (z && flag_at old k j)) (tells.at i k a l)
          ∙ ap (λ z. closed related k i j || (closed related k i k && z)) (tells.at k j l b);
    })

below_width : (r : ℕ) → Contains (range_with_len 0 WIDTH) r → r < WIDTH
below_width r h = (All-contains (λ i. (0 ≤ i) × (i < 0 + WIDTH)) (range_with_len 0 WIDTH) r (All-from_recursion (λ i. (0 ≤ i) × (i < 0 + WIDTH)) (range_with_len 0 WIDTH) (each_in_range 0 WIDTH)) h).1

module _ (cat : Catalogue) (related : Relation) (waits_made moves_made passing_made awaited_made begun_made : List Bool)
    (waits_tell : Tells waits_made related)
    (moves_are : moves_made ≡ flags_of (moves (flag_at waits_made)))
    (passing_tell : Tells passing_made (closed (flag_at moves_made) WIDTH))
    (awaited_are : awaited_made ≡ flags_of (awaits cat (flag_at waits_made)))
    (begun_are : begun_made ≡ flags_of (begins (flag_at awaited_made) (flag_at passing_made))) where
  move_same : (i j : ℕ) → i < WIDTH → j < WIDTH → flag_at moves_made i j ≡ moves related i j
  move_same i j a b =
      (tells_flags (moves (flag_at waits_made)) moves_made moves_are).at i j a b
      ∙ ap (λ z. (i == j) || (z || is_held (flag_at waits_made) i j)) (waits_tell.at i j a b)
      ∙ ap (λ z. (i == j) || (related i j || z))
      (any_same (λ r. flag_at waits_made r i && flag_at waits_made r j) (λ r. related r i && related r j) (range_with_len 0 WIDTH)
      (λ r h.
      let l = below_width r h in
      ap (λ z. z && flag_at waits_made r j) (waits_tell.at r i l a) ∙ ap (λ z. related r i && z) (waits_tell.at r j l b)))

  pub passing_same : (i j : ℕ) → i < WIDTH → j < WIDTH → flag_at passing_made i j ≡ closed (moves related) WIDTH i j
  passing_same i j a b =
      passing_tell.at i j a b ∙ closed_agree (flag_at moves_made) (moves related) move_same WIDTH i j (omega arith) a b

  awaited_same : (i j : ℕ) → i < WIDTH → j < WIDTH → flag_at awaited_made i j ≡ awaits cat related i j
  awaited_same i j a b =
      (tells_flags (awaits cat (flag_at waits_made)) awaited_made awaited_are).at i j a b
      ∙ ap (λ z. z || is_queued cat (flag_at waits_made) i j) (waits_tell.at i j a b)
      ∙ ap (λ z. related i j || z)
      (any_same (λ r. flag_at waits_made r i && (flag_at waits_made r j && meets cat i r)) (λ r. related r i && (related r j && meets cat i r)) (range_with_len 0 WIDTH)
      (λ r h.
      let l = below_width r h in
      ap (λ z. z && (flag_at waits_made r j && meets cat i r)) (waits_tell.at r i l a)
      ∙ ap (λ z. related r i && (z && meets cat i r)) (waits_tell.at r j l b)))

  pub begun_same : (i j : ℕ) → i < WIDTH → j < WIDTH → flag_at begun_made i j ≡ begins (awaits cat related) (closed (moves related) WIDTH) i j
  begun_same i j a b =
      (tells_flags (begins (flag_at awaited_made) (flag_at passing_made)) begun_made begun_are).at i j a b
      ∙ ap (λ z. (i == j) || z)
      (any_same (λ k. flag_at awaited_made i k && flag_at passing_made k j) (λ k. awaits cat related i k && closed (moves related) WIDTH k j) (range_with_len 0 WIDTH)
      (λ k h.
      let l = below_width k h in
      ap (λ z. z && flag_at passing_made k j) (awaited_same i k a l) ∙ ap (λ z. awaits cat related i k && z) (passing_same k j l b)))

pub is_needs_text : (cat : Catalogue) (entries : List Entry) (waits_made moves_made passing_made awaited_made begun_made : List Bool) (text : List ℕ)
    → IsTable cat entries → IsWhole cat → Tells waits_made (waits_for entries)
    → moves_made ≡ flags_of (moves (flag_at waits_made)) → Tells passing_made (closed (flag_at moves_made) WIDTH)
    → awaited_made ≡ flags_of (awaits cat (flag_at waits_made))
    → begun_made ≡ flags_of (begins (flag_at awaited_made) (flag_at passing_made))
    → text ≡ needs_text cat (needed_by cat (flag_at begun_made) (flag_at passing_made)) → IsNeedsText cat text
is_needs_text cat entries w m p a b text table whole tell_w are_m tell_p are_a are_b spelled =
    let passed : Relation = closed (moves (waits_for entries)) WIDTH in
    let begun : Relation = begins (awaits cat (waits_for entries)) passed in
    let below : (i : ℕ) → IsClassOf cat i → i < WIDTH = λ i is. (let to = is.to in let few = whole.few_classes in omega arith) in
    record {
      entries = entries;
      table = table;
      needed = needed_by cat begun passed;
      tells = tells_needs cat entries table whole;
      spelled =
          spelled
          ∙ text_same cat (flag_at b) (flag_at p) begun passed
          (λ i j x y. begun_same cat (waits_for entries) w m p a b tell_w are_m tell_p are_a are_b i j (below i x) (below j y))
          (λ i j x y. passing_same cat (waits_for entries) w m p a b tell_w are_m tell_p are_a are_b i j (below i x) (below j y));
    }
