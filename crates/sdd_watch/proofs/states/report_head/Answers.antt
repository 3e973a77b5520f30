use Rattle.sdd_watch.proofs.All.{eqb-true, length, pipe_at, sym, ◌∙◌}
use Rattle.sdd_watch.proofs.AtD.{head_is_reported, idle_is_reported}
use Rattle.sdd_watch.proofs.states.report_head.Goals as goal

pub returns : goal.returns
returns c = λ s log represents l.
    c.head_in.ensures
    ∙ head_is_reported c.args.dm_module.now.value s log c.args.class c.in_ok-conds.conds c.in_ok-readers.readers represents.shows l
    c.in_ok-conds.ensures c.in_ok-readers.ensures

pub returns-then-is_idle : goal.returns-then-is_idle
returns-then-is_idle c = λ s log represents l.
    idle_is_reported c.args.dm_module.now.value s log c.args.class.0 represents.shows l
    (eqb-true (length (pipe_at c.args.dm_module.now.value.pipes c.args.class.0).unprocessed) 0 (sym c.is_idle.ensures ∙ c.if-is_idle.true))
