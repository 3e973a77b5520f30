use Rattle.sdd_running.proofs.All.{DmNo, [], ap, dm_no, map, map-append, sym, up_to, ◌++◌, ◌∙◌, ◌∷◌}
use Rattle.sdd_running.proofs.reads.all_modules.Goals as goal

pub loop-number-preserved : goal.loop-number-preserved
loop-number-preserved c =
    let n = c.loop-number.number in
    ap (map (λ (d : DmNo). d.0)) c.in_ok-push.ensures.items ∙ map-append (λ (d : DmNo). d.0) c.loop-number.dms.items (dm_no n ∷ [])
    ∙ ap (λ ns. ns ++ n ∷ []) c.loop-number.invariant ∙ sym (up_to n c.loop-number.auto.number)
