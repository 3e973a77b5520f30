-- The heads of the classes before the one at hand are reported.
use Rattle.sdd_watch.proofs.All.{Setting, class_view, filter_map, map, range_with_len, report_head, view_of, ◌≡◌}
use Rattle.sdd_moments.specs.schedule.world.data_module.Represents.{Represents}
use Rattle.sdd_moments.specs.obligations.site_module.SiteLog.{Log}
use Rattle.sdd_watch.proofs.states.dm_state.Given as goal

abbrev pub invariant-loop-class : goal.invariant-loop-class
invariant-loop-class l =
    (s : Setting) (log : Log) → Represents l.dm_module s log
    → l.heads.items ≡ filter_map (report_head (view_of s log)) (map (class_view s log) (range_with_len 0 l.class))
