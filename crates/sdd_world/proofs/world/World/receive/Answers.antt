use Rattle.sdd_world.proofs.All.{Deliver, Mark, sym, ◌∙◌, ◌∷◌}
use Rattle.sdd_world.proofs.Arriving.{comes_to, is_kept, is_keeping, is_over, site_and_spool, to_hand}
use Rattle.sdd_world.proofs.Results.{of_ok as map_ok}
use Rattle.sdd_world.proofs.world.World.receive.Goals as goal

pub takes_part-requires : goal.takes_part-requires
takes_part-requires c = let r = c.requires in comes_to r.2 c.args.self.now r.0 r.1 c.args.from c.args.to r.3 c.args.messages r.4

pub hand_all-requires : goal.hand_all-requires
hand_all-requires c =
    let r = c.requires in
    let t = site_and_spool r.2 c.args.self.now r.0 r.1 c.args.from c.args.to r.3 c.args.messages r.4 in (
      r.0,
      Mark (Deliver c.args.from c.args.to r.3) ∷ r.1,
      r.4.marked.possible.0,
      to_hand r.2 c.args.self.now r.0 r.1 c.args.from c.args.to r.3 c.args.messages r.4 (sym (c.takes_part.ensures r.0 r.1 t.0 t.1) ∙ c.if-takes_part.true),
    )

pub keep_all-requires : goal.keep_all-requires
keep_all-requires c =
    let r = c.requires in
    let t = site_and_spool r.2 c.args.self.now r.0 r.1 c.args.from c.args.to r.3 c.args.messages r.4 in (
      r.0,
      Mark (Deliver c.args.from c.args.to r.3) ∷ r.1,
      is_keeping r.2 c.args.self.now r.0 r.1 c.args.from c.args.to r.3 c.args.messages r.4 (sym (c.takes_part.ensures r.0 r.1 t.0 t.1) ∙ c.if-takes_part.false),
    )

pub returns-then-takes_part-clause-ok : goal.returns-then-takes_part-clause-ok
returns-then-takes_part-clause-ok c = map_ok c.hand_all.result _ _ c.hand_all.ensures.ok (λ x f given log w place h.
    let t = site_and_spool w c.args.self.now given log c.args.from c.args.to place c.args.messages h in
    let part = sym (c.takes_part.ensures given log t.0 t.1) ∙ c.if-takes_part.true in
    is_over w c.args.self.now given log c.args.from c.args.to place c.args.messages h c.hand_all.new.self part
    (f given (Mark (Deliver c.args.from c.args.to place) ∷ log) h.marked.possible.0
    (to_hand w c.args.self.now given log c.args.from c.args.to place c.args.messages h part)))

pub returns-then-takes_part-clause-limit : goal.returns-then-takes_part-clause-limit
returns-then-takes_part-clause-limit c = λ e given log w place h.
    let t = site_and_spool w c.args.self.now given log c.args.from c.args.to place c.args.messages h in
    c.hand_all.ensures.limit e given (Mark (Deliver c.args.from c.args.to place) ∷ log) h.marked.possible.0
    (to_hand w c.args.self.now given log c.args.from c.args.to place c.args.messages h
    (sym (c.takes_part.ensures given log t.0 t.1) ∙ c.if-takes_part.true))

pub returns-clause-ok : goal.returns-clause-ok
returns-clause-ok c = λ given log w place h.
    let t = site_and_spool w c.args.self.now given log c.args.from c.args.to place c.args.messages h in
    let part = sym (c.takes_part.ensures given log t.0 t.1) ∙ c.if-takes_part.false in
    is_kept w c.args.self.now given log c.args.from c.args.to place c.args.messages h c.keep_all.new.self part
    c.in_ok-keep_all.ensures.same
    (c.in_ok-keep_all.ensures.kept given (Mark (Deliver c.args.from c.args.to place) ∷ log)
    (is_keeping w c.args.self.now given log c.args.from c.args.to place c.args.messages h part))
