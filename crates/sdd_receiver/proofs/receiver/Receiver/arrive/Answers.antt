use Rattle.sdd_receiver.proofs.All.{ap, arith, handed_on, true, ◌∙◌, ◌≤◌}
use Rattle.sdd_receiver.proofs.Turns.{received_is}
use Rattle.sdd_receiver.proofs.Results.{if_both}
use Rattle.sdd_receiver.proofs.Receives.{arrival_is_exact, old_arrival, next_arrival}
use Rattle.sdd_receiver.proofs.receiver.Receiver.arrive.Goals as goal

pub returns-clause-ok : goal.returns-clause-ok
returns-clause-ok g c =
    let none = c.take_next.ensures.none c.in_default.is in
    let i = c.loop-next.invariant in
    rw (← c.self.view_is, none.0)
    (ap (λ v. record { live = true; value = v }) (received_is _ _ _ _ _ _ _ _ c.if-no-self.false c.in_ok-insert.ensures.entries i.handed i.waits i.count none.1).1)

pub returns-clause-law : goal.returns-clause-law
returns-clause-law g c =
    let none = c.take_next.ensures.none c.in_default.is in
    let i = c.loop-next.invariant in
    let handed = (received_is _ _ _ _ _ _ _ _ c.if-no-self.false c.in_ok-insert.ensures.entries i.handed i.waits i.count none.1).0 in
    arrival_is_exact c.args.no c.args.msg c.args.self.now.value
    (record { live = true; value = record { count = c.loop-next.self-inside.count; early = c.take_next.new.early.entries } }) c.from_vec-2.result c.requires.number
    (returns-clause-ok g c) (c.from_vec-2.ensures ∙ handed ∙ ap (λ v. handed_on c.args.no c.args.msg v.value) c.self.view_is)

pub returns-then-no-self-clause-law : goal.returns-then-no-self-clause-law
returns-then-no-self-clause-law g c =
    let count = ap (λ v. v.value.count) c.self.view_is in
    let old : c.args.no ≤ c.args.self.now.value.count = omega (arith, count, c.if-no-self.true) in
    let same = old_arrival c.args.no c.args.msg c.args.self.now c.requires.live old in
    arrival_is_exact c.args.no c.args.msg c.args.self.now.value c.args.self.now c.from_vec.result c.requires.number same.0
    (c.from_vec.ensures ∙ c.new-handed.ensures.items ∙ same.1)

pub returns-then-is_next-clause-law : goal.returns-then-is_next-clause-law
returns-then-is_next-clause-law g c =
    let next = next_arrival c.args.no c.args.msg c.args.self.now.value (c.is_next.ensures c.if-is_next.true) in
    if_both c.hand_on.result _ _ _ c.hand_on.ensures.handed c.hand_on.ensures.ok (λ handed h new.
    arrival_is_exact c.args.no c.args.msg c.args.self.now.value c.hand_on.new.self handed c.requires.number
    (new ∙ ap (λ v. record { live = true; value = v }) next.1) (h ∙ next.0))
