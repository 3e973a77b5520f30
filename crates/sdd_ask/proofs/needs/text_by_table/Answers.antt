use Rattle.sdd_ask.proofs.All.{Tells, subst, sym, waits_for}
use Rattle.sdd_ask.proofs.Entries.{entries_named}
use Rattle.sdd_ask.proofs.needs.text_by_table.Goals as goal

pub waits-requires : goal.waits-requires
waits-requires c = entries_named c.args.catalogue.now c.args.entries.now c.law_is_sound.ensures.whole c.requires

pub text_by_waits-requires : goal.text_by_waits-requires
text_by_waits-requires c = (
  c.args.entries.now,
  c.requires,
  subst (λ z. Tells z (waits_for c.args.entries.now)) (sym c.as_slice.ensures.value) c.in_ok-waits.ensures,
)
