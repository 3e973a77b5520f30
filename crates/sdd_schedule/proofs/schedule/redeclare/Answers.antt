use Rattle.std.proofs.Common.{arith}
use Rattle.std.proofs.lemmas.Grind.{common_steps}
use Rattle.sdd_schedule.proofs.All.{Redeclare, ap, handed_on, lists_after, refl, sym, with_event}
use Rattle.sdd_schedule.proofs.Carrying.{next_list}
use Rattle.sdd_schedule.proofs.RoundsFollowed.{list_followed, list_to_follow}
use Rattle.sdd_schedule.proofs.schedule.redeclare.Goals as goal

pub rounds-requires : goal.rounds-requires
rounds-requires t c = let r = c.requires in (r.0, r.1, r.2, tt, r.3.good)

pub look_before-requires : goal.look_before-requires
look_before-requires t c =
    let r = c.requires in
    let s = c.in_ok-rounds.ensures.log r.0 r.1 r.2 tt r.3.good in
    (with_event r.0 Redeclare, s.settled.more, s.followed, s.settled.settling.calm, tt)

pub end_redeclare-requires : goal.end_redeclare-requires
end_redeclare-requires t c =
    let r = c.requires in (
      r.0,
      next_list r.0 c.args.lists.now.items c.pop_front.new.self.items c.in-Some.first c.in-Some.ensures.items r.3,
      (c.in_ok-rounds.ensures.log r.0 r.1 r.2 tt r.3.good).settled,
    )

pub look_after-requires : goal.look_after-requires
look_after-requires t c =
    let r = c.requires in
    let g = with_event r.0 Redeclare in
    let s = c.in_ok-rounds.ensures.log r.0 r.1 r.2 tt r.3.good in
    let next = next_list r.0 c.args.lists.now.items c.pop_front.new.self.items c.in-Some.first c.in-Some.ensures.items r.3 in
    let n = c.in_ok-end_redeclare-in-Some.ensures.log r.0 next s.settled in (
      g,
      s.settled.more,
      n.0,
      c.look_before.ensures g s.settled.more s.followed s.settled.settling.calm tt,
      list_to_follow c.rounds.new.world c.end_redeclare.new.self (t.O.Observer.follows c.rounds.new.observer) g c.args.place s n.0 n.1 _ refl refl refl,
    )

pub returns-in_err-rounds-clause-limit : goal.returns-in_err-rounds-clause-limit
returns-in_err-rounds-clause-limit t c = λ err g log h a.
    c.in_err-rounds.ensures.limit (handed_on c.from_residual.result c.in_err-rounds.field-0.0 c.from_residual.ensures.1 err) g log h tt a.good

pub returns-in_err-end_redeclare-in-Some-clause-limit : goal.returns-in_err-end_redeclare-in-Some-clause-limit
returns-in_err-end_redeclare-in-Some-clause-limit t c = λ err g log h a.
    c.in_err-end_redeclare-in-Some.ensures.limit
    (handed_on c.from_residual-in_err-end_redeclare-in-Some.result c.in_err-end_redeclare-in-Some.field-0.0
    c.from_residual-in_err-end_redeclare-in-Some.ensures.1 err) g
    (next_list g c.args.lists.now.items c.pop_front.new.self.items c.in-Some.first c.in-Some.ensures.items a)
    (c.in_ok-rounds.ensures.log g log h tt a.good).settled

pub returns-clause-log : goal.returns-clause-log
returns-clause-log t c = λ g0 log h a.
    let g = with_event g0 Redeclare in
    let s = c.in_ok-rounds.ensures.log g0 log h tt a.good in
    let next = next_list g0 c.args.lists.now.items c.pop_front.new.self.items c.in-Some.first c.in-Some.ensures.items a in
    let n = c.in_ok-end_redeclare-in-Some.ensures.log g0 next s.settled in
    let before = t.O.Observer.follows c.rounds.new.observer in
    let after = list_to_follow c.rounds.new.world c.end_redeclare.new.self before g c.args.place s n.0 n.1 _ refl refl refl in
    let awaited = c.look_before.ensures g s.settled.more s.followed s.settled.settling.calm tt in
    list_followed c.rounds.new.world c.end_redeclare.new.self before g c.args.place s n.0 n.1 (t.O.Observer.follows c.look_after.new.self)
    (c.in_ok-look_after-in-Some.ensures g s.settled.more n.0 awaited after)

pub returns-clause-others : goal.returns-clause-others
returns-clause-others t c = sym (ap (lists_after Redeclare) c.in-Some.ensures.items)

pub unreachable-requires : goal.unreachable-requires
unreachable-requires g c = grind (arith, common_steps)
