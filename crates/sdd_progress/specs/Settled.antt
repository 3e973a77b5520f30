-- A complete log at whose end the links are quiet and every module takes part.
use Rattle.std.specs.Prelude.{◌≡◌, false, true, None}
use Rattle.sdd_obligations.specs.All.{Input, IsLawful, IsModuleOf, Log, Site, all_links, calls_of, is_down, next, quiet}
use Rattle.sdd_progress.specs.Premises.{IsUpAtRedeclares}

-- Where all events are carried out: nothing is next, not even a mark, and no module is down, nor was one where a
-- further class list was put in force.
pub record IsAtEnd (g : Input) (log : Log) : Type 0 where
  pub lawful : IsLawful g log
  pub complete : next g log ≡ None
  pub up_before : IsUpAtRedeclares g log
  pub up : (at : Site) → IsModuleOf g at → is_down at log ≡ false

-- and the links are quiet, as after a settle
pub record IsSettled (g : Input) (log : Log) : Type 0 where
  pub at_end : IsAtEnd g log
  pub links : quiet (all_links g) (calls_of log) ≡ true
