-- A class that was lent by its place.
use Rattle.sdd_tm.proofs.All.{Bases, Bool, Catalogue, ClassState, Commit, Err, IsDatabase, List, Notes, Ok, OnOk, Result, ServesAt, Some, State, Step, Ticking, [], act_of, slice_get, slice_index_or, some_is, subst, suc, with_due_act, zero, ℕ, ◌∙◌, ◌∷◌, ◌≡◌}
use Rattle.sdd_tm.proofs.Settling.{NotesDone}
use Rattle.sdd_attempt.specs.protocol.declared.entry.Entry as line

-- the parts of a module
abbrev pub parts : Catalogue → List line.Entry → Ticking → Bool → Bool → List ClassState → State
parts cat table clock on_hold owes_held classes =
    record { era = record { catalogue = cat; table = table }; clock = clock; on_hold = on_hold; owes_held = owes_held; classes = classes }

pub lent_is : {A : Type 0} (xs : List A) (i : ℕ) (x y : A) → slice_get xs i ≡ Some x → y ≡ slice_index_or xs i y → y ≡ x
lent_is [] i x y e f = absurd cc
lent_is (z ∷ xs) zero x y e f = f ∙ some_is e
lent_is (z ∷ xs) (suc i) x y e f = lent_is xs i x y e f

on_ok : {T E P Q : Type 0} (r : Result T E) → (P → Q) → OnOk r P → OnOk r Q
on_ok (Ok x) f h = f h
on_ok (Err e) f h = tt

pub notes_of_lent : {T E : Type 0} (r : Result T E) (st : State) (place : ℕ) (step : Step) (run : ClassState)
    (old new : Notes) → run ≡ slice_index_or st.classes place run
    → OnOk r ((bases : Bases) → ((ts : ℕ) → IsDatabase run.line.catalogue (bases ts))
    → (step ≡ Commit → ServesAt run.line.catalogue bases run.line.active)
    → new ≡ with_due_act (act_of bases st.era.table st.clock run step) old)
    → OnOk r (NotesDone st place step old new)
notes_of_lent r st place step run old new lent h =
    on_ok r (λ g bases k there. subst (λ (x : ClassState). ((ts : ℕ) → IsDatabase x.line.catalogue (bases ts))
    → (step ≡ Commit → ServesAt x.line.catalogue bases x.line.active)
    → new ≡ with_due_act (act_of bases st.era.table st.clock x step) old)
    (lent_is st.classes place k run there lent) (g bases)) h
