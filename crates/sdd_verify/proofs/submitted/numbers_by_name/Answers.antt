use Rattle.sdd_verify.proofs.All.{List, Option, TxnNo, get, map, nat_cmp, slice_cmp, subst, sym, take, ℕ, ◌+◌, ◌∙◌}
use Rattle.sdd_verify.proofs.NamesFound.{Found, known_step, new_step}
use Rattle.sdd_verify.proofs.submitted.numbers_by_name.Goals.{then-not-contains_key+in_ok-insert, else-not-contains_key}
use Rattle.sdd_verify.proofs.submitted.numbers_by_name.Goals as goal

pub txns-preserved : goal.txns-preserved
txns-preserved c =
    let txns = c.args.txns.now in
    let i = c.txns.i in
    let t = c.index-txns-i.result in
    let within = c.txns-test.true in
    let there = c.index-txns-i.is in
    let same = c.in_ok-name.ensures ∙ c.as_bytes.ensures.value ∙ c.as_str.ensures.value in
    let old : List ℕ → Option TxnNo = λ n. get (slice_cmp nat_cmp) c.txns.made n in
    elim c.if-not-contains_key.branch [
      | then-not-contains_key+in_ok-insert w ↦
          let absent = sym c.contains_key.ensures ∙ w.if-not-contains_key.true in
          let new : List ℕ → Option TxnNo = λ n. get (slice_cmp nat_cmp) w.insert.new.self n in
          let now = new_step txns i t c.in_ok-name.name old new within there same absent w.in_ok-insert.ensures.updates.0 c.txns.invariant in
          subst (λ m. Found (λ n. get (slice_cmp nat_cmp) m n) (map (λ t. t.now) (take (i + 1) txns))) (sym w.made-is) now
      | else-not-contains_key w ↦
          let has = sym c.contains_key.ensures ∙ w.if-not-contains_key.false in
          let now = known_step txns i t c.in_ok-name.name old within there same has c.txns.invariant in
          subst (λ m. Found (λ n. get (slice_cmp nat_cmp) m n) (map (λ t. t.now) (take (i + 1) txns))) (sym w.made-is) now
    ]
