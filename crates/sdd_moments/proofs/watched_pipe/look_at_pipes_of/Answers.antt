-- One pipe more, and all of them.
use Rattle.sdd_moments.proofs.All.{U, WatchedPipe, arith, class_no, dm_no, get_or, refl}
use Rattle.sdd_moments.proofs.PipesVisited.{at_hand, at_module, no_pipes_yet, pipes_more, pipes_over, rest_is_kept}
use Rattle.sdd_moments.proofs.watched_pipe.look_at_pipes_of.Goals as goal

pub loop-pipe-init : goal.loop-pipe-init
loop-pipe-init c = record {
  rest = refl;
  so_far = λ g old new d calm between all here e. no_pipes_yet g old new d c.args.pipes.now c.args.parts.now e;
}

abbrev none_there : WatchedPipe
none_there = record { dm = dm_no 0; class = class_no 0; source = U; unprocessed = 0 }

pub look-requires : goal.look-requires
look-requires c =
    let r = c.requires in (
      r.0,
      r.2,
      r.4,
      at_module r.0 r.1 r.3 c.args.pipes.now c.loop-pipe.pipes c.loop-pipe.pipe-index (get_or c.loop-pipe.pipes c.loop-pipe.pipe-index none_there) r.5 r.6
          c.loop-pipe-test.true (omega (arith, c.loop-pipe-test.true, c.loop-pipe.auto.pipes)) c.loop-pipe.invariant.rest
          (at_hand c.args.pipes.now c.loop-pipe.pipes c.loop-pipe.pipe-index none_there c.loop-pipe-test.true c.loop-pipe.auto.pipes),
    )

pub loop-pipe-preserved : goal.loop-pipe-preserved
loop-pipe-preserved c =
    let x : WatchedPipe = get_or c.loop-pipe.pipes c.loop-pipe.pipe-index none_there in
    record {
      rest = rest_is_kept c.args.pipes.now c.loop-pipe.pipes c.loop-pipe.pipe-index c.look.new.self c.loop-pipe.invariant.rest;
      so_far = λ g old new d calm between all here e.
          pipes_more g old new d c.args.pipes.now c.loop-pipe.pipes c.loop-pipe.pipe-index x c.look.new.self
          c.args.parts.now c.loop-pipe.parts c.look.new.parts here e c.loop-pipe-test.true (c.loop-pipe.invariant.so_far g old new d calm between all here e)
          (at_hand c.args.pipes.now c.loop-pipe.pipes c.loop-pipe.pipe-index none_there c.loop-pipe-test.true c.loop-pipe.auto.pipes)
          (λ n k site few is. c.in_ok-look.ensures.kept g old new calm between all n k site few is)
          (λ n k site few is. c.in_ok-look.ensures.before g old new calm between all n k site few is)
          (λ n k site few is. c.in_ok-look.ensures.after g old new calm between all n k site few is);
    }

pub returns-clause-kept : goal.returns-clause-kept
returns-clause-kept c = λ g old new d calm between all here e.
    (pipes_over g old new d c.args.pipes.now c.loop-pipe.pipes c.loop-pipe.pipe-index c.args.parts.now c.loop-pipe.parts
    e c.loop-pipe-test.false (c.loop-pipe.invariant.so_far g old new d calm between all here e)).0

pub returns-clause-seen : goal.returns-clause-seen
returns-clause-seen c = λ g old new d calm between all here e.
    (pipes_over g old new d c.args.pipes.now c.loop-pipe.pipes c.loop-pipe.pipe-index c.args.parts.now c.loop-pipe.parts
    e c.loop-pipe-test.false (c.loop-pipe.invariant.so_far g old new d calm between all here e)).1
