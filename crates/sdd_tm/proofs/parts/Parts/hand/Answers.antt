-- What is kept of a log has few classes, each number once, and the message is one that its class awaits.
use Rattle.sdd_tm.proofs.All.{AreApart, ClassState, IsAwaited, Some, State, length, slice_get, subst, sym, ℕ, ◌<◌, ◌^◌, ◌≡◌}
use Rattle.sdd_tm.proofs.Taking.{few_kept, apart_kept, awaited_kept, push_early, handed_unnamed}
use Rattle.sdd_tm.proofs.parts.Parts.hand.Goals as goal

pub apply_hold-requires : goal.apply_hold-requires
apply_hold-requires c = let r = c.requires in push_early r.0 r.1 r.2 c.args.from c.args.msg r.4.1

pub all_places-requires : goal.all_places-requires
all_places-requires c =
    let r = c.requires in
    subst (λ (st : State). length st.classes < 2 ^ 32) (sym c.apply_hold.ensures) (few_kept r.0 r.2 c.args.self.now r.3)

pub hand_class-requires-clause-few : goal.hand_class-requires-clause-few
hand_class-requires-clause-few c =
    let r = c.requires in
    subst (λ (st : State). length st.classes < 2 ^ 32) (sym c.apply_hold.ensures) (few_kept r.0 r.2 c.args.self.now r.3)

pub hand_class-requires-clause-apart : goal.hand_class-requires-clause-apart
hand_class-requires-clause-apart c =
    let r = c.requires in
    subst (λ (st : State). AreApart st.classes) (sym c.apply_hold.ensures) (apart_kept r.0 r.2 c.args.self.now r.3)

pub hand_class-requires-clause-awaited : goal.hand_class-requires-clause-awaited
hand_class-requires-clause-awaited c =
    let r = c.requires in
    subst (λ (st : State). (place : ℕ) (k : ClassState) → slice_get st.classes place ≡ Some k
    → IsAwaited k.line.class c.args.from c.args.msg k.line.active) (sym c.apply_hold.ensures)
    (awaited_kept r.0 r.1 r.2 c.args.self.now c.args.from c.args.msg r.3 r.4.1)

pub returns-in-None-clause-state : goal.returns-in-None-clause-state
returns-in-None-clause-state c = handed_unnamed c.args.self.now c.apply_hold.new.self c.args.from c.args.msg c.apply_hold.ensures c.in-None.ensures
