use Rattle.sdd_order.proofs.All.{All, Committed, IfOk-weaker, IsClass, IsSerial, List, UseExists, ap, committed, length_permutation, links, numbers_at, order_of, serial_order, subst, sym, ℕ, ◌<◌, ◌∙◌, ◌≡◌}
use Rattle.sdd_order.proofs.ByLinks.{all_exist, ends_within, order_found}
use Rattle.sdd_order.proofs.InOrder.{in_order_of_time, in_sorted, from_sorted}
use Rattle.sdd_order.proofs.Serial.{serial_order_is}
use Rattle.sdd_order.proofs.order.serial_order.Goals as goal

pub find_links-requires : goal.find_links-requires
find_links-requires c =
    let cat = c.args.catalogue.now in
    let h = c.args.history.now in
    let o = c.requires.orderable in
    let txns = c.in_ok-txns.txns.items in
    let ordered = in_order_of_time cat h o txns (c.in_ok-txns.ensures.permutation) (c.in_ok-txns.ensures.sorted) in
    record {
      exist = subst (All (λ (t : Committed). IsClass cat t.start.class × All (UseExists cat) t.start.uses)) (sym (c.deref.ensures.value))
          (all_exist cat h o c.in_ok-marks.marks (c.in_ok-marks.ensures) txns ordered);
    }

pub order_of-requires : goal.order_of-requires
order_of-requires c =
    let cat = c.args.catalogue.now in
    let h = c.args.history.now in
    let o = c.requires.orderable in
    let marks = c.in_ok-marks.marks in
    let txns = c.in_ok-txns.txns.items in
    let ordered = in_order_of_time cat h o txns (c.in_ok-txns.ensures.permutation) (c.in_ok-txns.ensures.sorted) in
    let same = c.deref-2.ensures.value ∙ c.in_ok-links.ensures ∙ ap (links cat marks) (c.deref.ensures.value) in
    let within : ℕ → List (ℕ × ℕ) → Type 0 = λ n. All (λ l. (l.0 < n) × (l.1 < n)) in
    record {
      ends = subst (within c.len.result) (sym same)
          (subst (λ n. within n (links cat marks txns)) (sym (c.len.ensures ∙ c.in_ok-txns.txns.ok.0)) (ends_within cat h o marks (c.in_ok-marks.ensures) txns ordered));
    }

-- what is found is the serial order
found : (c : goal.After-drop-marks-3) → numbers_at c.deref-3.result.now c.deref-4.result.now ≡ serial_order c.args.catalogue.now c.args.history.now
found c =
    let cat = c.args.catalogue.now in
    let h = c.args.history.now in
    let o = c.requires.orderable in
    let marks = c.in_ok-marks.marks in
    let txns = c.in_ok-txns.txns.items in
    let moved = c.in_ok-txns.ensures.permutation in
    let sorted = c.in_ok-txns.ensures.sorted in
    let linked = c.deref-2.ensures.value ∙ c.in_ok-links.ensures ∙ ap (links cat marks) (c.deref.ensures.value) in
    ap (λ t. numbers_at t c.deref-4.result.now) (c.deref-3.ensures.value)
    ∙ ap (numbers_at txns)
    (c.deref-4.ensures.value ∙ c.in_ok-order.ensures ∙ ap (λ l. order_of l c.len.result) linked
    ∙ ap (order_of (links cat marks txns)) (c.len.ensures ∙ c.in_ok-txns.txns.ok.0))
    ∙ order_found cat h o marks (c.in_ok-marks.ensures) txns (in_order_of_time cat h o txns moved sorted)
    (length_permutation (committed h) txns moved) (in_sorted cat h o txns moved sorted) (from_sorted cat h o txns moved sorted)

pub returns-clause-order : goal.returns-clause-order
returns-clause-order c =
    IfOk-weaker c.numbers_at.result (λ made. made.items ≡ numbers_at c.deref-3.result.now c.deref-4.result.now)
    (λ order. order.items ≡ serial_order c.args.catalogue.now c.args.history.now)
    (λ order e. e ∙ found c) (c.numbers_at.ensures)

pub returns-clause-serial : goal.returns-clause-serial
returns-clause-serial c =
    let cat = c.args.catalogue.now in
    let h = c.args.history.now in
    IfOk-weaker c.numbers_at.result (λ made. made.items ≡ numbers_at c.deref-3.result.now c.deref-4.result.now)
    (λ order. IsSerial cat h order.items)
    (λ order e. subst (IsSerial cat h) (sym (e ∙ found c)) (serial_order_is cat h c.requires.orderable)) (c.numbers_at.ensures)
