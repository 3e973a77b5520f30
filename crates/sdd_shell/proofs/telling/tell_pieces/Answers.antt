use Rattle.sdd_shell.proofs.All.{arith, flat_map, length, take, take_all, ◌+◌, ◌-◌, ◌≡◌}
use Rattle.sdd_shell.proofs.Sinks.{took_all, took_front, flat_map_at, flat_next, more_taken, piece_more}
use Rattle.sdd_shell.proofs.telling.tell_pieces.Goals as goal

pub pieces-preserved : goal.pieces-preserved
pieces-preserved g c =
    let w = c.in-Ok.ensures in
    let xs = c.args.pieces.now in
    let i = c.pieces.piece-index in
    let inv = c.pieces.invariant in
    let k = flat_map_at (λ p. p.now) xs i _ c.pieces-test.true in
    record {
      taken = more_taken (g.E.Sink.taken c.args.err.now) (g.E.Sink.taken c.pieces.err)
          (g.E.Sink.taken c.write_text.new.out) (flat_map (λ p. p.now) (take i xs)) _ (flat_map (λ p. p.now) (take (i + 1) xs))
          inv.taken w.done (flat_next (λ p. p.now) xs i _ c.pieces-test.true);
      later = omega (arith, inv.later, w.cause.later);
      sure = λ room sure fits.
          piece_more (g.E.Sink.sure c.pieces.err) (g.E.Sink.sure c.write_text.new.out) (g.E.Sink.faults c.args.err.now) (g.E.Sink.faults c.pieces.err)
          (g.E.Sink.faults c.write_text.new.out) room
          (flat_map (λ p. p.now) xs) (flat_map (λ p. p.now) (take i xs)) _ (flat_map (λ p. p.now) (take (i + 1) xs)) k.0
          w.room (λ left within s. (w.surely left within s).1) (flat_next (λ p. p.now) xs i _ c.pieces-test.true) k.1 fits (inv.sure room sure fits);
    }

pub returns-in-Err : goal.returns-in-Err
returns-in-Err g c =
    let e = c.in-Err.ensures in
    let k = flat_map_at (λ p. p.now) c.args.pieces.now c.pieces.piece-index _ c.pieces-test.true in
    let front = length (flat_map (λ p. p.now) (take c.pieces.piece-index c.args.pieces.now)) in
    took_front (g.E.Sink.sure c.args.err.now) (g.E.Sink.taken c.args.err.now) (g.E.Sink.taken c.pieces.err)
    (g.E.Sink.taken c.write_text.new.out) (g.E.Sink.faults c.args.err.now) (g.E.Sink.faults c.pieces.err) (g.E.Sink.faults c.write_text.new.out)
    (flat_map (λ p. p.now) c.args.pieces.now) (flat_map (λ p. p.now) (take c.pieces.piece-index c.args.pieces.now)) _ k.0 e.front.0 k.1
    c.pieces.invariant.taken c.pieces.invariant.later e.front.1 e.cause.later e.cause.failed
    (λ room sure fits within.
    let failed = (e.surely (room - front) (omega (arith, within)) (c.pieces.invariant.sure room sure fits).0).0 in absurd cc)

pub returns : goal.returns
returns g c =
    let whole : take c.pieces.piece-index c.args.pieces.now ≡ c.args.pieces.now =
    take_all c.pieces.piece-index c.args.pieces.now (omega (arith, c.pieces-test.false)) in
    took_all (g.E.Sink.sure c.args.err.now) (g.E.Sink.taken c.args.err.now) (g.E.Sink.taken c.pieces.err)
    (g.E.Sink.faults c.args.err.now) (g.E.Sink.faults c.pieces.err) (flat_map (λ p. p.now) c.args.pieces.now)
    (rw whole at c.pieces.invariant.taken) c.pieces.invariant.later (λ room sure fits. (c.pieces.invariant.sure room sure fits).1)
