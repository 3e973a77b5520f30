use Rattle.sdd_exchange.proofs.All.{AreSmall, Exchange, OnOk, subst, sym, ◌<◌, ◌^◌, ◌∙◌, ◌≡◌}
use Rattle.sdd_exchange.proofs.Going.{to_first, past_first, small_rest}
use Rattle.sdd_exchange.proofs.exchange.Exchange.go_on.Goals as goal

pub fetch-requires : goal.fetch-requires
fetch-requires c =
    let next = to_first c.args.ts.0 c.args.class.0 _ c.loop-query.self c.in-Some.query.now _ _ c.push.new.self.items
    c.in-Some-next_reduction.one _ c.self.view_is c.in-Some.ensures.item.3.0 c.in-Some.ensures.lookup
    (c.deref.ensures.value ∙ c.in_ok-counts.ensures) c.deref-in-Some.ensures.value c.in-Some-next_reduction.is
    c.next_reduction.ensures c.in_ok-push-in-Some-next_reduction.ensures.items in
    subst (λ (y : Exchange). y.values < 2 ^ 128) (sym (next ∙ c.loop-query.invariant.goes)) c.requires.values

pub returns-in-Some-next_reduction : goal.returns-in-Some-next_reduction
returns-in-Some-next_reduction c =
    let next = to_first c.args.ts.0 c.args.class.0 _ c.loop-query.self c.in-Some.query.now _ _ c.push.new.self.items
    c.in-Some-next_reduction.one _ c.self.view_is c.in-Some.ensures.item.3.0 c.in-Some.ensures.lookup
    (c.deref.ensures.value ∙ c.in_ok-counts.ensures) c.deref-in-Some.ensures.value c.in-Some-next_reduction.is
    c.next_reduction.ensures c.in_ok-push-in-Some-next_reduction.ensures.items in
    subst (λ (y : Exchange). OnOk c.fetch.result (c.fetch.new.self ≡ y)) (next ∙ c.loop-query.invariant.goes) c.fetch.ensures

pub loop-query-preserved : goal.loop-query-preserved
loop-query-preserved c =
    let small : AreSmall c.self.inside.left.items = subst (λ (y : Exchange). AreSmall y.left) (sym c.self.view_is) c.loop-query.invariant.small in
    let next = past_first c.args.ts.0 c.args.class.0 _ c.loop-query.self c.in-Some.query.now _ _
    c.clear.new.self.items c.pop_front.new.self.items _ c.self.view_is c.in-Some.ensures.item.3.0 c.in-Some.ensures.lookup
    (c.deref.ensures.value ∙ c.in_ok-counts.ensures) c.deref-in-Some.ensures.value c.in-None.is c.next_reduction.ensures c.pop_front.ensures.rest c.clear.ensures.items in
    record { small = subst AreSmall (sym c.pop_front.ensures.rest) (small_rest c.self.inside.left.items small); goes = next ∙ c.loop-query.invariant.goes }
