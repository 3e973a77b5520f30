-- The classes are gone through by one place that only goes on: what a class does disturbs no other, and leaves less to do.
use Rattle.sdd_tm.proofs.All.{AreSettled, Bases, ClassState, IsCalm, None, Some, State, Step, arith, class_step, get_set_other, rules, slice_get, start_step, state_done, ℕ, ◌+◌, ◌<◌, ◌≡◌, ◌≤◌}
use Rattle.sdd_tm.proofs.Dues.{none_parts}

-- a class makes a step
pub calm_done : (bases : Bases) (state : State) (place end : ℕ) (k : ClassState) (step : Step) → place < end
    → IsCalm place end state → IsCalm place end (state_done bases place k step state)
calm_done bases state place end k step less calm = search (rules, get_set_other)

-- it has none: the next one
pub calm_next : (state : State) (place end : ℕ) → place < end → IsCalm place end state
    → ((k : ClassState) → slice_get state.classes place ≡ Some k → class_step state.on_hold k ≡ None) → IsCalm (place + 1) end state
calm_next state place end less calm none = grind arith

pub all_settled : (state : State) (place end : ℕ) → end ≤ place → IsCalm place end state → AreSettled state
all_settled state place end l calm j x e = grind arith

-- where nothing had a step, and only some classes were changed
pub calm_kept : (old new : State) (place end : ℕ) → AreSettled old → place ≤ end
    → ((j : ℕ) (x : ClassState) → slice_get new.classes j ≡ Some x → (j ≡ place → end ≤ place)
    → slice_get old.classes j ≡ Some x)
    → ((j : ℕ) (x : ClassState) → slice_get old.classes j ≡ Some x
    → (j < place → start_step new.on_hold x ≡ None) × (end ≤ j → start_step new.on_hold x ≡ None))
    → IsCalm place end new
calm_kept old new place end settled l kept starts = record {
  own = λ j x e apart. (none_parts old.on_hold x (settled j x (kept j x e apart))).0;
  before = λ j x e less. (starts j x (kept j x e (λ same. absurd (omega arith)))).0 less;
  behind = λ j x e more. (starts j x (kept j x e (λ same. omega arith))).1 more;
}
