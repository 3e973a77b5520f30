use Rattle.sdd_running.proofs.All.{DmNo, ap, map, nat_lt, not, position, sym, ◌∙◌}
use Rattle.sdd_running.proofs.Putting.{is_found_among, put_among, put_behind}
use Rattle.sdd_running.proofs.reads.put_module.Goals as goal

pub returns-in_ok-push-in-None : goal.returns-in_ok-push-in-None
returns-in_ok-push-in-None c =
    let d = c.args.dm in
    let place = ap (position (λ (n : DmNo). not (nat_lt n.0 d.0))) (sym c.deref.ensures.value) ∙ sym c.place_of.ensures ∙ c.in-None.is in
    ap (map (λ (n : DmNo). n.0)) c.in_ok-push-in-None.ensures.items ∙ sym (put_behind c.args.dms.now.items d place)

pub returns-in_ok-insert-in-Some : goal.returns-in_ok-insert-in-Some
returns-in_ok-insert-in-Some c =
    let d = c.args.dm in
    let place = ap (position (λ (n : DmNo). not (nat_lt n.0 d.0))) (sym c.deref.ensures.value) ∙ sym c.place_of.ensures ∙ c.in-Some.is in
    ap (map (λ (n : DmNo). n.0)) c.in_ok-insert-in-Some.ensures.items
    ∙ sym (put_among c.args.dms.now.items d c.index.result.now c.in-Some.place place c.index.ensures c.if-index-dm.true)

pub returns-else-index-dm : goal.returns-else-index-dm
returns-else-index-dm c =
    let d = c.args.dm in
    let place = ap (position (λ (n : DmNo). not (nat_lt n.0 d.0))) (sym c.deref.ensures.value) ∙ sym c.place_of.ensures ∙ c.in-Some.is in
    sym (is_found_among c.args.dms.now.items d c.index.result.now c.in-Some.place place c.index.ensures c.if-index-dm.false)
