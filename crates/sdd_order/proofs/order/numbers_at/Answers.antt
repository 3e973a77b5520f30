use Rattle.sdd_order.proofs.All.{Committed, List, Option, TxnNo, [], ap, append-nil, cons_option, drop, get_or_default, numbers_at, option_map, slice_get, subst, sym, txn_no, ℕ, ◌++◌, ◌+◌, ◌∙◌, ◌≡◌}
use Rattle.sdd_links.proofs.Numbered.{option_more}
use Rattle.sdd_order.proofs.order.numbers_at.Goals.{in-Some+in_ok-push, in_default}
use Rattle.sdd_order.proofs.order.numbers_at.Goals as goal

pub loop-place-preserved : goal.loop-place-preserved
loop-place-preserved c =
    let txns : List Committed = c.args.txns.now in
    let places : List ℕ = c.args.places.now in
    let i = c.loop-place.place-index in
    let name : ℕ → Option TxnNo = λ k. option_map (λ t. txn_no t.start.txn) (slice_get txns k) in
    let old = c.loop-place.made.items in
    let Now : List TxnNo → Type 0 = λ l. l ++ numbers_at txns (drop (i + 1) places) ≡ numbers_at txns places in
    elim c.match-number_at.branch [
      | in-Some+in_ok-push w ↦
          let is = ap (λ o. cons_option o []) (sym w.in-Some.is ∙ c.number_at.ensures) in
          subst (λ m. Now m.items) (sym w.made-is)
          (option_more name places i _ old w.push.new.self.items (numbers_at txns places) c.loop-place-test.true
          (get_or_default places i 0 _ c.loop-place-test.true) c.loop-place.invariant (w.in_ok-push.ensures.items ∙ ap (λ l. old ++ l) is))
      | in_default w ↦
          let none = ap (λ o. cons_option o []) (sym w.in_default.is ∙ c.number_at.ensures) in
          subst (λ m. Now m.items) (sym w.made-is)
          (option_more name places i _ old old (numbers_at txns places) c.loop-place-test.true
          (get_or_default places i 0 _ c.loop-place-test.true) c.loop-place.invariant (sym (append-nil old) ∙ ap (λ l. old ++ l) none))
    ]
