use Rattle.sdd_watch.proofs.All.{Event, IsTellable, ap, foresee_act, foresee_take, foreseen_by, is_some, link_of, not, packet_at, subst, sym, ◌∙◌}
use Rattle.sdd_watch.proofs.FoundBy.{otherwise_done, some_taken}
use Rattle.sdd_watch.proofs.foreseen.foresee.Goals as goal

pub packet_at-requires : goal.packet_at-requires
packet_at-requires c =
    let r = c.requires in
    let p = subst (IsTellable r.0) c.in-Deliver.is r.3 in (r.0, r.1, r.2, p.0, p.1)

pub packet_at-requires-in-Lose : goal.packet_at-requires-in-Lose
packet_at-requires-in-Lose c =
    let r = c.requires in
    let p = subst (IsTellable r.0) c.in-Lose.is r.3 in (r.0, r.1, r.2, p.0, p.1)

pub packet_at-requires-in-Repeat : goal.packet_at-requires-in-Repeat
packet_at-requires-in-Repeat c =
    let r = c.requires in
    let p = subst (IsTellable r.0) c.in-Repeat.is r.3 in (r.0, r.1, r.2, p.0, p.1)

pub is_acknowledged-requires : goal.is_acknowledged-requires
is_acknowledged-requires c = let r = c.requires in (r.0, r.1, r.2, subst (IsTellable r.0) c.in-Resend.is r.3)

pub is_down-requires : goal.is_down-requires
is_down-requires c = let r = c.requires in (r.0, r.1, subst (IsTellable r.0) c.in-Down.is r.3, r.2)

pub is_down-requires-in-Up : goal.is_down-requires-in-Up
is_down-requires-in-Up c = let r = c.requires in (r.0, r.1, subst (IsTellable r.0) c.in-Up.is r.3, r.2)

pub returns-in-Deliver : goal.returns-in-Deliver
returns-in-Deliver c = λ g log calm possible.
    let p = subst (IsTellable g) c.in-Deliver.is possible in
    c.foresee_take.ensures ∙ ap foresee_take (c.packet_at.ensures g log calm p.0) ∙ ap (λ (e : Event). foreseen_by e log) (sym c.in-Deliver.is)

pub returns-in-Lose : goal.returns-in-Lose
returns-in-Lose c = λ g log calm possible.
    let p = subst (IsTellable g) c.in-Lose.is possible in
    c.foresee_take-in-Lose.ensures ∙ ap foresee_take (c.packet_at-in-Lose.ensures g log calm p.0) ∙ ap (λ (e : Event). foreseen_by e log) (sym c.in-Lose.is)

pub returns-in-Repeat : goal.returns-in-Repeat
returns-in-Repeat c = λ g log calm possible.
    let p = subst (IsTellable g) c.in-Repeat.is possible in
    let there = c.is_some.ensures ∙ ap is_some (c.packet_at-in-Repeat.ensures g log calm p.0) in
    c.foresee_act.ensures ∙ ap foresee_act (there ∙ some_taken (packet_at c.in-Repeat.place (link_of c.in-Repeat.from c.in-Repeat.to log)))
    ∙ ap (λ (e : Event). foreseen_by e log) (sym c.in-Repeat.is)

pub returns-in-Resend : goal.returns-in-Resend
returns-in-Resend c = λ g log calm possible.
    c.foresee_act-in-Resend.ensures ∙ ap (λ b. foresee_act (not b)) (c.is_acknowledged.ensures g log calm (subst (IsTellable g) c.in-Resend.is possible))
    ∙ ap (λ (e : Event). foreseen_by e log) (sym c.in-Resend.is)

pub returns-in-Down : goal.returns-in-Down
returns-in-Down c = λ g log calm possible.
    c.foresee_act-in-Down.ensures ∙ ap (λ b. foresee_act (not b)) (c.is_down.ensures g log (subst (IsTellable g) c.in-Down.is possible) calm)
    ∙ ap (λ (e : Event). foreseen_by e log) (sym c.in-Down.is)

pub returns-in-Up : goal.returns-in-Up
returns-in-Up c = λ g log calm possible.
    c.foresee_act-in-Up.ensures ∙ ap foresee_act (c.is_down-in-Up.ensures g log (subst (IsTellable g) c.in-Up.is possible) calm)
    ∙ ap (λ (e : Event). foreseen_by e log) (sym c.in-Up.is)

pub returns-in_default : goal.returns-in_default
returns-in_default c = λ g log calm possible.
    otherwise_done c.args.event.now log c.in_default.not-Deliver c.in_default.not-Lose c.in_default.not-Repeat c.in_default.not-Resend
    c.in_default.not-Down c.in_default.not-Up
