-- What is reported so far, while a world carries out a schedule.
-- For the contracts of the code: not needed to read `IsTextOf`.
use Rattle.std.specs.Prelude.{◌≡◌}
use Rattle.sdd_moments.specs.obligations.All.{Event, Input, Log}
use Rattle.sdd_watch.specs.Text.{inside_text}
use Rattle.sdd_watch.specs.Watching.{Watches, foreseen_by}
use Rattle.sdd_watch.specs.declared.teller.Teller.{Teller}

-- the text is that of the log, and what is kept is what stood where at its end
pub record Tells (g : Input) (log : Log) (t : Teller) : Type 0 where
  pub catalogue_is : t.catalogue.now ≡ g.catalogue
  pub text_is : t.text.items ≡ inside_text g log
  pub watches : Watches g log t.watch

-- so it is, and this event, which is next, is about to find what is kept as foreseen
pub record Foresees (g : Input) (log : Log) (e : Event) (t : Teller) : Type 0 where
  pub tells : Tells g log t
  pub finds_is : t.finds ≡ foreseen_by e log
