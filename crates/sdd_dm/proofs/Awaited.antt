-- What a module tells of its READs that wait.
use Rattle.sdd_dm.proofs.All.{Bool, Cond, IsAwaited, Kept, List, Log, None, Option, Represents, Setting, Shows, Some, State, Step, [], ap, arith, conds_of, false, find, first_some, first_step, first_unmet, head_at, if◌then◌else◌, length, list_all, not, of_class, or_else, range_with_len, refl, step_at, step_by, suc, sym, true, waiting_in, waits, zero, ℕ, ◌&&◌, ◌+◌, ◌<◌, ◌∙◌, ◌∷◌, ◌≡◌, ◌≤◌}
use Rattle.sdd_dm.proofs.Shown.{met_is}

-- where none of a range is there, each isn't
each_none : {B : Type 0} (f : ℕ → Option B) (a n c : ℕ) → first_some f (range_with_len a n) ≡ None → c < n → f (a + c) ≡ None
each_none f a zero c e l = absurd (omega arith)
each_none f a (suc n) zero e l = grind arith
each_none f a (suc n) (suc c) e l = grind (arith, or_else, first_some, range_with_len, (each_none f (a + 1) n c))

no_step_of : (c : ℕ) (o : Option Step) → of_class c o ≡ None → o ≡ None
no_step_of c o e = grind arith

-- a quiet module has nothing for a head to do
quiet_at : (st : State) (c : ℕ) → first_step st.pipes st.waits ≡ None → c < length st.pipes → step_at st.pipes st.waits c ≡ None
quiet_at st c e l =
    let z : 0 + c ≡ c = omega arith in
    no_step_of c (step_at st.pipes st.waits c)
    (ap (λ k. of_class k (step_at st.pipes st.waits k)) (sym z) ∙ each_none (λ k. of_class k (step_at st.pipes st.waits k)) 0 (length st.pipes) c e l)

-- so a READ that waits lacks a condition

some_lacks : (f : Cond → Bool) (conds : List Cond) → list_all f conds ≡ false → (d : Cond) × (find (λ e. not (f e)) conds ≡ Some d)
some_lacks f [] e = absurd cc
some_lacks f (d ∷ conds) e =
    elim (f d) as (λ b. f d ≡ b → (b && list_all f conds) ≡ false → (x : Cond) × (find (λ y. not (f y)) (d ∷ conds) ≡ Some x)) [
      | true ↦ λ p q. let r = some_lacks f conds q in (r.0, rw p r.1)
      | false ↦ λ p q. (d, rw p refl)
    ] refl e

lacks_in : (st : State) (c t : ℕ) (b : Bool) (conds : List Cond) → step_by st.pipes st.waits c b (head_at st.pipes c) ≡ None
    → (if b then conds_of t (head_at st.pipes c) else None) ≡ Some conds
    → (d : Cond) × (first_unmet st.pipes (Some conds) ≡ Some d)
lacks_in st c t b conds e f = grind (arith, some_lacks)

awaited_by : (s : Setting) (st : State) (log : Log) (c t : ℕ) (o : Option (List Cond)) → Shows s st log → c ≤ length s.catalogue.classes
    → first_step st.pipes st.waits ≡ None
    → waiting_in st.pipes st.waits c t ≡ o → IsAwaited s log c t (first_unmet st.pipes o)
awaited_by s st log c t o shows l quiet e = grind (arith, lacks_in, waits, quiet_at, met_is)

pub awaited_is : (k : Kept State) (s : Setting) (log : Log) (c t : ℕ) (answer : Option Cond) → Represents k s log → c ≤ length s.catalogue.classes
    → answer ≡ first_unmet k.value.pipes (waiting_in k.value.pipes k.value.waits c t) → IsAwaited s log c t answer
awaited_is k s log c t answer represents l is = grind (arith, awaited_by)
