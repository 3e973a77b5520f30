use Rattle.std.proofs.lemmas.Grind.{common_steps}
use Rattle.sdd_base.proofs.All.{arith, length, subst, take, ◌-◌, ◌∙◌}
use Rattle.sdd_base.proofs.Paging.{front_taken, joined, on_err, page_left, pages_taken, room_left}
use Rattle.sdd_base.proofs.pages.write_each.Goals as goal

pub returns-in_err-write_text-clause-front : goal.returns-in_err-write_text-clause-front
returns-in_err-write_text-clause-front g c =
    on_err c.from_residual.result _
    (front_taken (g.O.Sink.taken c.args.out.now) (g.O.Sink.taken c.pages.out) (g.O.Sink.taken c.write_text.new.out)
    c.args.pages.now c.pages.page-index c.page-item.result c.as_slice.result.now c.pages-test.true c.page-item.is
    c.as_slice.ensures c.pages.invariant.taken c.in_err-write_text.ensures.front)

pub returns-in_err-write_text-clause-surely : goal.returns-in_err-write_text-clause-surely
returns-in_err-write_text-clause-surely g c = λ room fits sure.
    let i = c.pages.page-index in
    let left = page_left c.args.pages.now i c.page-item.result c.as_slice.result.now room c.pages-test.true c.page-item.is
    c.as_slice.ensures fits in
    let failed = (c.in_err-write_text.ensures.surely (room - length (joined (take i c.args.pages.now))) left
    (c.pages.invariant.surely room fits sure).0).0 in
    absurd cc

pub returns-in_err-write_text-clause-room : goal.returns-in_err-write_text-clause-room
returns-in_err-write_text-clause-room g c = λ room fits sure.
    let i = c.pages.page-index in
    let left = page_left c.args.pages.now i c.page-item.result c.as_slice.result.now room c.pages-test.true c.page-item.is
    c.as_slice.ensures fits in
    let failed = (c.in_err-write_text.ensures.surely (room - length (joined (take i c.args.pages.now))) left
    (c.pages.invariant.surely room fits sure).0).0 in
    absurd cc

pub pages-preserved : goal.pages-preserved
pages-preserved g c =
    let e = c.in_ok-write_text.ensures in
    let inv = c.pages.invariant in
    let pages = c.args.pages.now in
    let i = c.pages.page-index in
    let page = c.page-item.result in
    let bytes = c.as_slice.result.now in
    record {
      taken = pages_taken (g.O.Sink.taken c.args.out.now) (g.O.Sink.taken c.pages.out) (g.O.Sink.taken c.write_text.new.out)
          pages i page bytes c.pages-test.true c.page-item.is c.as_slice.ensures inv.taken e.done;
      later = omega (arith, inv.later, e.cause.later);
      surely = λ room fits sure.
          let before = inv.surely room fits sure in
          let left = page_left pages i page bytes room c.pages-test.true c.page-item.is c.as_slice.ensures fits in
          let same = room_left pages i page bytes room c.pages-test.true c.page-item.is c.as_slice.ensures in
          let rest = room - length (joined (take i pages)) in
          (subst (g.O.Sink.sure c.write_text.new.out) same (e.room rest left before.0), (e.surely rest left before.0).1 ∙ before.1);
    }

pub returns-clause-done : goal.returns-clause-done
returns-clause-done g c = grind (arith, common_steps)

pub returns-clause-room : goal.returns-clause-room
returns-clause-room g c = grind (arith, common_steps)
