-- What a module makes of its view of the log. The view is all that its acts rest on: `due` is the act that is due by it,
-- and `after` the view after an entry.
use Rattle.std.specs.Prelude.{◌≡◌, List, [], ◌∷◌, Option, Some}
use Rattle.sdd_module.specs.SiteLog.{Entry, Did, Act}
use Rattle.sdd_module.specs.Notes.{Notes, with_acts}

-- from the view v, by acts of which each was due, the view becomes w
abbrev pub Goes : {V : Type 0} → (V → Option Act) → (Entry → V → V) → V → List Act → V → Type 0
Goes due after v [] w = v ≡ w
Goes due after v (a ∷ acts) w = (due v ≡ Some a) × Goes due after (after (Did a) v) acts w

-- acts by which the view v becomes w, and what they add to the notes
pub record Made {V : Type 0} (due : V → Option Act) (after : Entry → V → V) (v w : V) (old new : Notes) : Type 0 where
  pub acts : List Act
  pub goes : Goes due after v acts w
  pub notes_are : new ≡ with_acts acts old

-- A state of the code shows a view where it holds all of it that matters. From the view v on acts were made, and the
-- state shows what the view has become.
pub record Reached {S V : Type 0} (Shows : S → V → Type 0) (due : V → Option Act) (after : Entry → V → V) (v : V) (state : S) (old new : Notes) : Type 0 where
  pub view : V
  pub shown : Shows state view
  pub made : Made due after v view old new

-- the work of a call since the entry e, whatever view the state showed before
abbrev pub Worked : {S V : Type 0} → (S → V → Type 0) → (V → Option Act) → (Entry → V → V) → Entry → S → S → Notes → Notes → Type 0
Worked {V = V} Shows due after e before now old new = (v : V) → Shows before v → Reached Shows due after (after e v) now old new
