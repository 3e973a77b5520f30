use Rattle.sdd_backups.proofs.All.{refl}
use Rattle.sdd_backups.proofs.Nothing.{tracks_nothing}
use Rattle.sdd_backups.proofs.state.State.new.Goals as goal

pub returns-clause-nothing : goal.returns-clause-nothing
returns-clause-nothing c =
    tracks_nothing _ c.requires c.in_ok-new.ensures c.in_ok-new-2.ensures c.in_ok-new-3.ensures
    c.in_ok-new-4.ensures c.in_ok-new-5.ensures c.in_ok-new-6.ensures c.in_ok-new-7.ensures
    c.in_ok-new-8.ensures refl
