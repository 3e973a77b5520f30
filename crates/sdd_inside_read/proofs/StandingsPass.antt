-- How sites stand is passed whole.
use Rattle.std.specs.Prelude.{ℕ, List, ◌++◌, codes, refl}
use Rattle.std.specs.Fmt.{decimal}
use Rattle.sdd_inside.specs.Json.{also, array, if_true, member, object, quoted, unless_empty}
use Rattle.sdd_inside.specs.Standings.{active_json, attempt_members, dm_members, head_json, phase_members, phase_word, question_json, site_state_json, stage_word, standing, tm_flags, tm_lists, u_lists, u_stage}
use Rattle.sdd_inside.specs.Words.{attempt_json, class_json, cond_json, dm_json, site_json, time_json}
use Rattle.sdd_inside.specs.declared.standing.Active.{Active}
use Rattle.sdd_inside.specs.declared.standing.DmState.{DmState}
use Rattle.sdd_inside.specs.declared.standing.Head.{Head}
use Rattle.sdd_inside.specs.declared.standing.Head.TheVariants as heads
use Rattle.sdd_inside.specs.declared.standing.Question.{Question}
use Rattle.sdd_inside.specs.declared.standing.SiteState.{SiteState}
use Rattle.sdd_inside.specs.declared.standing.SiteState.TheVariants as states
use Rattle.sdd_inside.specs.declared.standing.TmState.{TmState}
use Rattle.sdd_inside.specs.declared.standing.UState.{UState}
use Rattle.sdd_inside_read.proofs.JsonPass.{inner_also, inner_if_true, inner_number, inner_unless_empty, whole_array, whole_member, whole_object, whole_triple}
use Rattle.sdd_inside_read.proofs.DigitsPass.{whole_number}
use Rattle.sdd_inside_read.proofs.MessagesPass.{whole_cond}
use Rattle.sdd_inside_read.proofs.NamesPass.{whole_attempt, whole_class, whole_module, whole_site}
use Rattle.sdd_inside_read.proofs.Passing.{IsInner, IsWhole, inner_join}
use Rattle.sdd_inside_read.proofs.StringsPass.{whole_string}
use Rattle.sdd_script.specs.All.{Catalogue, Site, Txn}
use Rattle.sdd_script.specs.base.declared.number.ClassNo.{ClassNo}
use Rattle.sdd_script.specs.base.declared.site.Site.TheVariants as sites

-- an object whose first member is the class or the site

of_class : (cat : Catalogue) (txns : List Txn) (c : ClassNo) (more : List ℕ) → IsInner more
    → IsWhole (object (member (codes "class") (class_json cat txns c)) more)
of_class cat txns c more h =
    whole_object (member (codes "class") (class_json cat txns c)) more (whole_member (codes "class") (class_json cat txns c) refl (whole_class cat txns c)) h

of_site : (cat : Catalogue) (txns : List Txn) (site : Site) (members : List ℕ) → IsInner members → IsWhole (standing cat txns site members)
of_site cat txns site members h =
    whole_object (member (codes "at") (site_json cat txns site)) members (whole_member (codes "at") (site_json cat txns site) refl (whole_site cat txns site)) h

-- attempts, questions, heads

whole_active : (cat : Catalogue) (txns : List Txn) (a : Active) → IsWhole (active_json cat txns a)
whole_active cat txns a =
    of_class cat txns a.class (attempt_members txns a ++ phase_members cat txns a)
    (inner_join (attempt_members txns a) (phase_members cat txns a)
    (inner_join (also (codes "txn") (attempt_json txns a.txn a.attempt)) (also (codes "time") (decimal a.time.0))
    (inner_also (codes "txn") (attempt_json txns a.txn a.attempt) refl (whole_attempt txns a.txn a.attempt)) (inner_number (codes "time") a.time.0 refl))
    (inner_join (also (codes "phase") (quoted (phase_word a.phase))) (unless_empty (codes "lacks") (dm_json cat txns) a.lacks)
    (inner_also (codes "phase") (quoted (phase_word a.phase)) refl (whole_string (phase_word a.phase)))
    (inner_unless_empty (codes "lacks") (dm_json cat txns) a.lacks refl (whole_module cat txns))))

whole_question : (cat : Catalogue) (txns : List Txn) (q : Question) → IsWhole (question_json cat txns q)
whole_question cat txns q =
    whole_triple (class_json cat txns q.class) (site_json cat txns q.from) (time_json cat txns q.time) (whole_class cat txns q.class)
    (whole_site cat txns q.from) (whole_number q.time.0)

whole_head : (cat : Catalogue) (txns : List Txn) (h : Head) → IsWhole (head_json cat txns h)
whole_head cat txns (heads.Waits class conds) =
    of_class cat txns class (also (codes "waits") (array (cond_json cat txns) conds))
    (inner_also (codes "waits") (array (cond_json cat txns) conds) refl (whole_array (cond_json cat txns) conds (whole_cond cat txns)))
whole_head cat txns (heads.Held class readers) =
    of_class cat txns class (also (codes "held") (array (class_json cat txns) readers))
    (inner_also (codes "held") (array (class_json cat txns) readers) refl (whole_array (class_json cat txns) readers (whole_class cat txns)))

-- sites

inner_active : (cat : Catalogue) (txns : List Txn) (active : List Active) → IsInner (unless_empty (codes "active") (active_json cat txns) active)
inner_active cat txns active = inner_unless_empty (codes "active") (active_json cat txns) active refl (whole_active cat txns)

inner_u : (cat : Catalogue) (txns : List Txn) (s : UState) → IsInner (u_stage s ++ u_lists cat txns s)
inner_u cat txns s =
    inner_join (u_stage s) (u_lists cat txns s)
    (inner_join (also (codes "clock") (decimal s.clock)) (also (codes "phase") (quoted (stage_word s.stage))) (inner_number (codes "clock") s.clock refl)
    (inner_also (codes "phase") (quoted (stage_word s.stage)) refl (whole_string (stage_word s.stage))))
    (inner_join (unless_empty (codes "lacks") (site_json cat txns) s.lacks) (unless_empty (codes "active") (active_json cat txns) s.active)
    (inner_unless_empty (codes "lacks") (site_json cat txns) s.lacks refl (whole_site cat txns)) (inner_active cat txns s.active))

inner_flags : (s : TmState) → IsInner (tm_flags s)
inner_flags s =
    let holding = if_true (codes "hold") s.on_hold ++ if_true (codes "owes") s.owes_held in
    inner_join (if_true (codes "down") s.is_down) (also (codes "clock") (decimal s.clock) ++ holding) (inner_if_true (codes "down") s.is_down refl)
    (inner_join (also (codes "clock") (decimal s.clock)) holding (inner_number (codes "clock") s.clock refl)
    (inner_join (if_true (codes "hold") s.on_hold) (if_true (codes "owes") s.owes_held) (inner_if_true (codes "hold") s.on_hold refl)
    (inner_if_true (codes "owes") s.owes_held refl)))

inner_t : (cat : Catalogue) (txns : List Txn) (s : TmState) → IsInner (tm_flags s ++ tm_lists cat txns s)
inner_t cat txns s =
    inner_join (tm_flags s) (tm_lists cat txns s) (inner_flags s)
    (inner_join (unless_empty (codes "asks") (question_json cat txns) s.asks) (unless_empty (codes "active") (active_json cat txns) s.active)
    (inner_unless_empty (codes "asks") (question_json cat txns) s.asks refl (whole_question cat txns)) (inner_active cat txns s.active))

inner_d : (cat : Catalogue) (txns : List Txn) (s : DmState) → IsInner (dm_members cat txns s)
inner_d cat txns s =
    inner_join (if_true (codes "down") s.is_down) (unless_empty (codes "heads") (head_json cat txns) s.heads)
    (inner_if_true (codes "down") s.is_down refl) (inner_unless_empty (codes "heads") (head_json cat txns) s.heads refl (whole_head cat txns))

pub whole_standing : (cat : Catalogue) (txns : List Txn) (s : SiteState) → IsWhole (site_state_json cat txns s)
whole_standing cat txns (states.U s) = of_site cat txns sites.U (u_stage s ++ u_lists cat txns s) (inner_u cat txns s)
whole_standing cat txns (states.T s) = of_site cat txns (sites.T s.tm) (tm_flags s ++ tm_lists cat txns s) (inner_t cat txns s)
whole_standing cat txns (states.D s) = of_site cat txns (sites.D s.dm) (dm_members cat txns s) (inner_d cat txns s)
