-- The flags of a relation tell it.
use Rattle.sdd_ask.proofs.All.{Bool, CELLS, List, Relation, Tells, WIDTH, ap, arith, div-mul-add, flag_at, flags_of, get_or-map-range_with_len, length, length-map-range_with_len, mod-mul-add, ℕ, ◌%◌, ◌*◌, ◌+◌, ◌/◌, ◌<◌, ◌∙◌, ◌≡◌}

flag_is : (related : Relation) (i j : ℕ) → i < WIDTH → j < WIDTH → flag_at (flags_of related) i j ≡ related i j
flag_is related i j a b =
    let cell : ℕ = i * WIDTH + j in
    get_or-map-range_with_len (λ c. related (c / WIDTH) (c % WIDTH)) 0 CELLS cell cell _ (omega arith) (omega arith)
    ∙ ap (λ z. related z (cell % WIDTH)) (div-mul-add i WIDTH j b)
    ∙ ap (λ z. related i z) (mod-mul-add i WIDTH j b)

pub tells_flags : (related : Relation) (flags : List Bool) → flags ≡ flags_of related → Tells flags related
tells_flags related flags e =
    record {
      cells = ap length e ∙ length-map-range_with_len (λ c. related (c / WIDTH) (c % WIDTH)) 0 CELLS;
      at = λ i j a b. ap (λ z. flag_at z i j) e ∙ flag_is related i j a b;
    }
