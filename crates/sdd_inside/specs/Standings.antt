-- How sites stand, as JSON.
use Rattle.std.specs.Prelude.{ℕ, List, ◌++◌, codes}
use Rattle.std.specs.Fmt.{decimal}
use Rattle.sdd_script.specs.All.{Catalogue, Site, Txn}
use Rattle.sdd_script.specs.base.declared.site.Site.TheVariants as sites
use Rattle.sdd_inside.specs.Json.{quoted, array, triple, member, also, object, unless_empty, if_true}
use Rattle.sdd_inside.specs.Words.{time_json, class_json, attempt_json, site_json, dm_json, cond_json}
use Rattle.sdd_inside.specs.declared.standing.Active.{Active}
use Rattle.sdd_inside.specs.declared.standing.DmState.{DmState}
use Rattle.sdd_inside.specs.declared.standing.Head.{Head}
use Rattle.sdd_inside.specs.declared.standing.Head.TheVariants as heads
use Rattle.sdd_inside.specs.declared.standing.Phase.{Phase}
use Rattle.sdd_inside.specs.declared.standing.Phase.TheVariants as phases
use Rattle.sdd_inside.specs.declared.standing.Question.{Question}
use Rattle.sdd_inside.specs.declared.standing.SiteState.{SiteState}
use Rattle.sdd_inside.specs.declared.standing.SiteState.TheVariants as states
use Rattle.sdd_inside.specs.declared.standing.Stage.{Stage}
use Rattle.sdd_inside.specs.declared.standing.Stage.TheVariants as stages
use Rattle.sdd_inside.specs.declared.standing.TmState.{TmState}
use Rattle.sdd_inside.specs.declared.standing.UState.{UState}

abbrev pub phase_word : Phase → List ℕ
phase_word phases.Reading = codes "reading"
phase_word phases.Fetching = codes "fetching"
phase_word phases.Reducing = codes "reducing"
phase_word phases.Shipping = codes "shipping"

abbrev pub stage_word : Stage → List ℕ
stage_word stages.Idle = codes "idle"
stage_word stages.Holding = codes "holding"
stage_word stages.Reading = codes "reading"
stage_word stages.Writing = codes "writing"

-- the members of an attempt after its class: which it is, and what it waits for

abbrev pub attempt_members : List Txn → Active → List ℕ
attempt_members txns a = also (codes "txn") (attempt_json txns a.txn a.attempt) ++ also (codes "time") (decimal a.time.0)

abbrev pub phase_members : Catalogue → List Txn → Active → List ℕ
phase_members cat txns a = also (codes "phase") (quoted (phase_word a.phase)) ++ unless_empty (codes "lacks") (dm_json cat txns) a.lacks

-- an attempt that is under way
abbrev pub active_json : Catalogue → List Txn → Active → List ℕ
active_json cat txns a =
    object (member (codes "class") (class_json cat txns a.class)) (attempt_members txns a ++ phase_members cat txns a)

-- a question to which there is no answer yet
abbrev pub question_json : Catalogue → List Txn → Question → List ℕ
question_json cat txns q = triple (class_json cat txns q.class) (site_json cat txns q.from) (time_json cat txns q.time)

-- a head that can't be processed
abbrev pub head_json : Catalogue → List Txn → Head → List ℕ
head_json cat txns (heads.Waits class conds) =
    object (member (codes "class") (class_json cat txns class)) (also (codes "waits") (array (cond_json cat txns) conds))
head_json cat txns (heads.Held class readers) =
    object (member (codes "class") (class_json cat txns class)) (also (codes "held") (array (class_json cat txns) readers))

-- the object of a site, which begins with the site
abbrev pub standing : Catalogue → List Txn → Site → List ℕ → List ℕ
standing cat txns site members = object (member (codes "at") (site_json cat txns site)) members

abbrev pub tm_flags : TmState → List ℕ
tm_flags s =
    if_true (codes "down") s.is_down
    ++ (also (codes "clock") (decimal s.clock) ++ (if_true (codes "hold") s.on_hold ++ if_true (codes "owes") s.owes_held))

abbrev pub tm_lists : Catalogue → List Txn → TmState → List ℕ
tm_lists cat txns s =
    unless_empty (codes "asks") (question_json cat txns) s.asks ++ unless_empty (codes "active") (active_json cat txns) s.active

abbrev pub u_stage : UState → List ℕ
u_stage s = also (codes "clock") (decimal s.clock) ++ also (codes "phase") (quoted (stage_word s.stage))

abbrev pub u_lists : Catalogue → List Txn → UState → List ℕ
u_lists cat txns s =
    unless_empty (codes "lacks") (site_json cat txns) s.lacks ++ unless_empty (codes "active") (active_json cat txns) s.active

abbrev pub dm_members : Catalogue → List Txn → DmState → List ℕ
dm_members cat txns s = if_true (codes "down") s.is_down ++ unless_empty (codes "heads") (head_json cat txns) s.heads

-- how a site stands
abbrev pub site_state_json : Catalogue → List Txn → SiteState → List ℕ
site_state_json cat txns (states.U s) = standing cat txns sites.U (u_stage s ++ u_lists cat txns s)
site_state_json cat txns (states.T s) = standing cat txns (sites.T s.tm) (tm_flags s ++ tm_lists cat txns s)
site_state_json cat txns (states.D s) = standing cat txns (sites.D s.dm) (dm_members cat txns s)
