use Rattle.std.proofs.lemmas.Grind.{common_steps}
use Rattle.sdd_attempt.proofs.All.{IsLine, Line, None, [], ap, arith, get_or, length, line_done, line_of, option_map, start_next, subst, sym, unwrap_or, ◌<◌, ◌∙◌, ◌≡◌}
use Rattle.sdd_attempt.proofs.Queueing.{begun_at, begun_seen}
use Rattle.sdd_attempt.proofs.line.Line.begin.Goals as goal

pub add_try-requires : goal.add_try-requires
add_try-requires c =
    let q = c.in-Some.queued.now in
    let some = subst (λ (l : Line). 0 < length l.queue) c.self.view_is c.in-Some.ensures.item.3.0 in
    let first = subst (λ (l : Line). q ≡ get_or l.queue 0 q) c.self.view_is c.in-Some.ensures.value in
    omega (arith, c.requires.tries 0 q some, ap (λ x. x.tries) first, c.requires.time)

pub invariant_of-self-in-Some : goal.invariant_of-self-in-Some
invariant_of-self-in-Some c =
    let s = c.self.inside in
    subst (IsLine s.catalogue.now s.class.0 _) (sym c.set_running.ensures)
    (begun_at s.catalogue.now s.class.0
    (unwrap_or (option_map (λ t. t.now) c.args.table) []) c.args.clock.now s.queue.items c.in-Some.queued.now c.add_try.new.self s.running c.in_ok-running-in-Some.running
    c.law_is_sound.ensures.whole c.self.invariant c.in-Some.ensures.item.3.0 c.in-Some.ensures.value c.add_try.ensures c.in_ok-running-in-Some.ensures.running)

pub returns-in_ok-running-in-Some-clause-line : goal.returns-in_ok-running-in-Some-clause-line
returns-in_ok-running-in-Some-clause-line c =
    let s = c.self.inside in
    let table = unwrap_or (option_map (λ t. t.now) c.args.table) [] in
    let idle = subst (λ (l : Line). l.active ≡ None) (sym c.self.view_is) c.requires.idle in
    ap (line_of s.catalogue.now s.class.0 _) c.set_running.ensures
    ∙ begun_seen s.catalogue.now s.class.0 table c.args.clock.now s.queue.items c.in-Some.queued.now c.add_try.new.self s.running c.in_ok-running-in-Some.running
    c.self.invariant c.in-Some.ensures.item.3.0 c.in-Some.ensures.value c.add_try.ensures c.in_ok-running-in-Some.ensures.running idle
    ∙ ap (λ (l : Line). line_done (start_next table c.args.clock.now l) l) c.self.view_is

pub returns-in_ok-running-in-Some-clause-clock : goal.returns-in_ok-running-in-Some-clause-clock
returns-in_ok-running-in-Some-clause-clock c = grind (arith, common_steps)

pub returns-in_ok-running-in-Some-clause-draft : goal.returns-in_ok-running-in-Some-clause-draft
returns-in_ok-running-in-Some-clause-draft c = grind (arith, common_steps)
