use Rattle.sdd_turns.proofs.All.{Option, allows, ap, get, get_or, nat_cmp, sym, txn_no, ℕ, ◌∙◌}
use Rattle.sdd_turns.proofs.Turns.{goes_on, last_at, stops}
use Rattle.sdd_turns.proofs.in_turn.is_in_turn.Goals as goal

pub returns-then-not-may_come_after : goal.returns-then-not-may_come_after
returns-then-not-may_come_after c =
    let kept : ℕ → Option ℕ = λ n. get nat_cmp c.order.last n in
    let refused = ap (λ (o : Option ℕ). allows o (get_or c.args.order.now c.order.number-index (txn_no 0)).0)
    (sym c.get.ensures.value) ∙ sym c.may_come_after.ensures ∙ c.if-not-may_come_after.true in
    sym (stops c.args.classes.now c.args.order.now c.order.number-index (txn_no 0) c.class_of-class.result kept
    c.order-test.true c.class_of-class.ensures c.order.invariant.in_turn c.order.invariant.last refused)

pub order-preserved : goal.order-preserved
order-preserved c =
    let classes = c.args.classes.now in
    let order = c.args.order.now in
    let i = c.order.number-index in
    let within = c.order-test.true in
    let class = c.class_of-class.ensures in
    let kept : ℕ → Option ℕ = λ n. get nat_cmp c.order.last n in
    let new : ℕ → Option ℕ = λ n. get nat_cmp c.insert.new.self n in
    let h = c.order.invariant in
    let allowed = ap (λ (o : Option ℕ). allows o (get_or c.args.order.now c.order.number-index (txn_no 0)).0)
    (sym c.get.ensures.value) ∙ sym c.may_come_after.ensures ∙ c.if-not-may_come_after.false in
    record {
      in_turn = goes_on classes order i (txn_no 0) c.class_of-class.result kept within class h.in_turn h.last allowed;
      last = last_at classes order i (txn_no 0) c.class_of-class.result kept new within class h.last c.in_ok-insert.ensures.updates.0;
    }
