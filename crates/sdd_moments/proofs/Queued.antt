-- The queues of a transaction module, by what it keeps.
use Rattle.sdd_moments.proofs.All.{Bool, Input, Kept, LivesT, Log, Queues, Setting, T, TmNo, ap, class_of, false, local_of, map, map-map, queue_in, queues_at, represents_queues, runs, setting_of, sym, true, ◌∙◌, ◌≡◌}
use Rattle.sdd_progress.specs.obligations.site_module.SiteLog as site
use Rattle.sdd_schedule.specs.world.txn_module.Represents as tm
use Rattle.sdd_progress.specs.obligations.tm.State as tm_state

pub queues_reported : (g : Input) (log : Log) (t : TmNo) (k : Kept tm_state.State) → tm.Queues k (setting_of g (T t)) (local_of g (T t) log)
    → map queue_in k.value.classes ≡ queues_at g log t.0
queues_reported g log t k keeps =
    let s : Setting = setting_of g (T t) in
    let own : site.Log = local_of g (T t) log in
    ap (λ (v : tm_state.State). map queue_in v.classes) (sym keeps.state_is)
    ∙ map-map queue_in (tm_state.class_of s own) (runs s)

-- whether it takes part or is down, a module keeps what follows from its log
pub keeps_its_log : (part : Bool) (k : Kept tm_state.State) (s : Setting) (log : site.Log) → LivesT part k s log → tm.Queues k s log
keeps_its_log true k s log lives = represents_queues k s log lives.represents_log
keeps_its_log false k s log lives = lives.represents_log
