use Rattle.sdd_dm.proofs.All.{DmNo, Home, List, Site, ap, ◌+◌}
use Rattle.sdd_dm.proofs.First.{first_shown, first_quiet}
use Rattle.sdd_dm.proofs.parts.Parts.new.Goals as goal

abbrev home_with : DmNo → List Site → Home
home_with dm sources = record { dm = dm; sources = sources }

pub returns-clause-shows : goal.returns-clause-shows
returns-clause-shows c =
    first_shown c.args.catalogue.now c.args.dm c.args.rows.now (c.classes-classes.result + 1) _ c.law_is_sound.ensures.sound c.law_rows_make_database.ensures
    (ap (λ n. n + 1) c.classes-classes.ensures) (ap (home_with c.args.dm) c.in_ok-sources.ensures) (ap (λ p. p.value) c.in_ok-pipes.ensures)
    c.in_ok-waits.ensures c.in_ok-spaces.ensures (ap (λ p. p.live) c.in_ok-pipes.ensures)
    c.in_ok-copies.ensures.live c.in_ok-copies.ensures.represent c.in_ok-copies.ensures.here

pub returns-clause-quiet : goal.returns-clause-quiet
returns-clause-quiet c = first_quiet (record {
  home = home_with c.args.dm c.in_ok-sources.sources.items;
  pipes_live = c.in_ok-pipes.pipes.live;
  pipes = c.in_ok-pipes.pipes.value;
  waits = c.in_ok-waits.waits.items;
  copies = c.in_ok-copies.copies;
  frozen = c.in_ok-spaces.spaces.items;
}) (c.classes-classes.result + 1) (ap (λ p. p.value) c.in_ok-pipes.ensures) c.in_ok-waits.ensures
