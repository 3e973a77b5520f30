-- Which logs a data module represents.
use Rattle.std.specs.Prelude.{ℕ, suc, ◌≤◌, ◌≡◌, true, IsTrue, [], ◌∷◌, ◌++◌, length, Some, None}
use Rattle.std.specs.List.{All}
use Rattle.sdd_module.specs.All.{Bases, Handed, Kept, Log, Msg, Notes, Reached, Read, Setting, Site, has_copy, nothing_noted, number_of}
use Rattle.sdd_copy.specs.Contents.{Dated}
use Rattle.sdd_copy.specs.Sets.{DatesDiffer}
use Rattle.sdd_copy.specs.Copies.{is_here, Represent}
use Rattle.sdd_pipe.specs.Digest.{IsDigest}
use Rattle.sdd_pipe.specs.Pipes.{pipe_at}
use Rattle.sdd_rules.specs.dm.Pipes.{pipe, waits}
use Rattle.sdd_rules.specs.dm.Copies.{changes_in, first_rows, dated, frozen}
use Rattle.sdd_rules.specs.dm.Opens.{opens}
use Rattle.sdd_rules.specs.dm.Views.{home_of}
use Rattle.sdd_rules.specs.dm.Due.{next}
use Rattle.sdd_rules.specs.dm.Fits.{IsHere, fits}
use Rattle.sdd_dm.specs.Heads.{waits_at, first_step}
use Rattle.sdd_dm.specs.State.{State, frozen_of}

-- the changes of all WRITEs that were handed to the module, applied or not, and the rows with which it began
abbrev pub written : Log → Dated
written [] = []
written (Handed from m ∷ log) = changes_in (Some m) ++ written log
written (_ ∷ log) = written log

abbrev pub all_dated : Setting → Log → Dated
all_dated s log = first_rows s ++ written log

-- what holds of each message that was handed to the module
abbrev pub EachHanded : (Msg → Type 0) → Log → Type 0
EachHanded P [] = Unit {0}
EachHanded P (Handed from m ∷ log) = P m × EachHanded P log
EachHanded P (_ ∷ log) = EachHanded P log

-- the module has copies of what a READ reads
abbrev pub HasCopies : Setting → Msg → Type 0
HasCopies s (Read ts class txn attempt conds uses) = All (IsHere s) uses
HasCopies s _ = Unit {0}

-- of class c the state holds what the log gives
pub record ShowsClass (s : Setting) (st : State) (log : Log) (c : ℕ) : Type 0 where
  pub pipe : IsDigest (pipe_at st.pipes c) (pipe c log)
  pub waits : waits_at st.waits c ≡ waits c log
  pub frozen : frozen_of st.frozen c ≡ frozen s c log

-- The state holds all of the log that matters, and nothing is left to answer. The copies are those of the dated changes, in
-- whatever order these came; so of all WRITEs no two change one item at one time.
pub record Shows (s : Setting) (st : State) (log : Log) : Type 0 where
  pub home : st.home ≡ home_of s
  pub pipes : length st.pipes ≡ suc (length s.catalogue.classes)
  pub waits : length st.waits ≡ suc (length s.catalogue.classes)
  pub frozen : length st.frozen ≡ suc (length s.catalogue.classes)
  pub classes : (c : ℕ) → c ≤ length s.catalogue.classes → ShowsClass s st log c
  pub answered : opens log ≡ []
  pub pipes_live : IsTrue st.pipes_live
  pub live : IsTrue st.copies.live
  pub copies : Represent st.copies.value (dated s log)
  pub here : (f : ℕ) → has_copy s.catalogue (number_of s.site) f ≡ true → is_here st.copies.value f ≡ true
  pub dates : DatesDiffer (all_dated s log)
  pub reads : EachHanded (HasCopies s) log

-- the work of a call: from a message that fits on, acts that were due one after the other
abbrev pub Worked : Site → Msg → State → State → Notes → Type 0
Worked from m old new notes =
    (s : Setting) (bases : Bases) (log : Log) → Shows s old log → fits s bases log from m
    → Reached (Shows s) (next s bases) ◌∷◌ (Handed from m ∷ log) new nothing_noted notes

-- a module, made in this setting, represents this log; nothing more is due
pub record Represents (k : Kept State) (s : Setting) (log : Log) : Type 0 where
  pub live : IsTrue k.live
  pub shows : Shows s k.value log
  pub quiet : first_step k.value.pipes k.value.waits ≡ None
