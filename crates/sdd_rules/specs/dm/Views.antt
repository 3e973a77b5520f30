-- All that the acts of a data module rest on, and how it changes with an entry of the log.
use Rattle.std.specs.Prelude.{ℕ, suc, Bool, false, List, [], ◌∷◌, ◌++◌, map, slice_index_or, Option, None}
use Rattle.std.specs.List.{flat_map}
use Rattle.sdd_module.specs.All.{Did, DmNo, Entry, Handed, Log, Setting, Site, T, U, dm_no, hands, number_of}
use Rattle.sdd_copy.specs.Items.{Dated}
use Rattle.sdd_copy.specs.Frozen.{Frozen}
use Rattle.sdd_pipe.specs.Pipe.{Pipe, empty_pipe}
use Rattle.sdd_rules.specs.dm.Pipes.{pipe, waits, pipe_handed, pipe_acted, waits_acted}
use Rattle.sdd_rules.specs.dm.Copies.{classes_of, applied, applied_acted, first_rows, frozen, frozen_handed, frozen_acted}
use Rattle.sdd_rules.specs.dm.Opens.{Open, opens, opens_handed, opens_acted}

-- the module's number, and of each class, from 0 on, the site that runs it
pub record Home : Type 0 where
  pub dm : DmNo
  pub sources : List Site

abbrev pub home_of : Setting → Home
home_of s = record { dm = dm_no (number_of s.site); sources = U ∷ map (λ k. T k.tm) s.catalogue.classes }

-- the site that runs class c
abbrev pub source_of : Home → ℕ → Site
source_of h c = slice_index_or h.sources c U

-- of one class: its pipe, whether its head waits, its changes that are applied, and the rows that are held for it
pub record ClassView : Type 0 where
  pub class : ℕ
  pub pipe : Pipe
  pub waits : Bool
  pub applied : Dated
  pub frozen : Option Frozen

-- the number of hands, the messages still to be answered, the rows with which the module began, and the classes
-- from 0 on
pub record View : Type 0 where
  pub hands : ℕ
  pub opens : List Open
  pub first : Dated
  pub classes : List ClassView

abbrev pub class_view : Setting → Log → ℕ → ClassView
class_view s log c = record { class = c; pipe = pipe c log; waits = waits c log; applied = applied c log; frozen = frozen s c log }

abbrev pub view_of : Setting → Log → View
view_of s log = record { hands = hands log; opens = opens log; first = first_rows s; classes = map (class_view s log) (classes_of s) }

-- what a view says of class c
abbrev pub at_class : View → ℕ → ClassView
at_class v c = slice_index_or v.classes c (record { class = 0; pipe = empty_pipe; waits = false; applied = []; frozen = None })

-- all changes that make the copies
abbrev pub dated_in : View → Dated
dated_in v = v.first ++ flat_map (λ k. k.applied) v.classes

-- the view after an entry

abbrev pub class_after : Entry → View → ClassView → ClassView
class_after (Handed from m) v k = record k { pipe = pipe_handed k.class m k.pipe; frozen = frozen_handed k.class m k.frozen }
class_after (Did act) v k = record {
  class = k.class;
  pipe = pipe_acted k.class act k.pipe;
  waits = waits_acted k.class act k.waits;
  applied = applied_acted k.class act k.pipe k.applied;
  frozen = frozen_acted k.class act (dated_in v) k.pipe k.frozen;
}
class_after _ v k = k

abbrev pub after : Entry → View → View
after (Handed from m) v = record v {
  hands = suc v.hands;
  opens = opens_handed (suc v.hands) from m v.opens;
  classes = map (class_after (Handed from m) v) v.classes;
}
after (Did act) v = record v { opens = opens_acted act v.opens; classes = map (class_after (Did act) v) v.classes }
after _ v = v
