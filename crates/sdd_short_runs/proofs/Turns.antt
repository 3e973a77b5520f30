-- Transactions that run one after the other, and lent ones by their places.
use Rattle.sdd_short_runs.proofs.All.{All, Catalogue, Database, Effect, List, Txn, [], after_changes, after_effects, ap, arith, effect, effects_in_turn, get_or-map, length, length-map, lent_txns, refl, slice_index_or, subst, sym, take, take_more, ℕ, ◌++◌, ◌+◌, ◌<◌, ◌∙◌, ◌∷◌, ◌≡◌}
use Rattle.std.specs.Borrow.{Bor}

-- the effect of the last one
turn_last : (cat : Catalogue) (db : Database) (txns : List Txn) (t : Txn)
    → effects_in_turn cat db (txns ++ t ∷ []) ≡ effects_in_turn cat db txns ++ effect cat (after_effects cat db (effects_in_turn cat db txns)) t ∷ []
turn_last cat db [] t = refl
turn_last cat db (u ∷ txns) t = ap (λ rest. effect cat db u ∷ rest) (turn_last cat (after_changes cat db (effect cat db u).changes) txns t)

pub long_lent : (txns : List (Bor Txn)) → length (lent_txns txns) ≡ length txns
long_lent txns = length-map txns (λ (t : Bor Txn). t.now)

-- the transaction at a place, whatever stands for those that aren't there
pub lent_at : (txns : List (Bor Txn)) (i : ℕ) (t : Bor Txn) (d : Txn) → i < length txns → t ≡ slice_index_or txns i t → slice_index_or (lent_txns txns) i d ≡ t.now
lent_at txns i t d l is = get_or-map (λ (u : Bor Txn). u.now) txns i t d l ∙ ap (λ (u : Bor Txn). u.now) (sym is)

pub fits_at : (P : Txn → Type 0) (txns : List (Bor Txn)) (i : ℕ) (t : Bor Txn) → i < length txns → t ≡ slice_index_or txns i t → All P (lent_txns txns) → P t.now
fits_at P txns i t l is all =
    let long = long_lent txns in
    subst P (lent_at txns i t t.now l is) (all i t.now (omega (arith, long)))

-- one more
pub turn_step : (cat : Catalogue) (db : Database) (done : List Effect) (txns : List (Bor Txn)) (i : ℕ) (t : Bor Txn) (e : Effect)
    → i < length txns → t ≡ slice_index_or txns i t → done ≡ effects_in_turn cat db (take i (lent_txns txns))
    → e ≡ effect cat (after_effects cat db done) t.now → done ++ e ∷ [] ≡ effects_in_turn cat db (take (i + 1) (lent_txns txns))
turn_step cat db done txns i t e l is are made =
    let long = long_lent txns in
    ap (λ f. done ++ f ∷ []) made ∙ ap (λ d. d ++ effect cat (after_effects cat db d) t.now ∷ []) are
    ∙ sym (turn_last cat db (take i (lent_txns txns)) t.now)
    ∙ ap (effects_in_turn cat db) (ap (λ x. take i (lent_txns txns) ++ x ∷ []) (sym (lent_at txns i t t.now l is)) ∙ sym (take_more (lent_txns txns) i t.now (omega (arith, long))))
