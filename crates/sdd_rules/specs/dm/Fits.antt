-- What a message has to meet when it is handed to a data module.
use Rattle.std.specs.Prelude.{ℕ, ◌≤◌, ◌<◌, ◌^◌, ◌≡◌, max, true, false, List, [], ◌∷◌, ◌++◌, map, fold, length, Option, Some, None, IfSome}
use Rattle.std.specs.List.{All, IsDistinct}
use Rattle.std.specs.Ordering.{is_eq}
use Rattle.sdd_module.specs.All.{Bases, Change, Cond, Fetch, Handed, Log, Msg, Null, Read, Reduce, Setting, Ship, Site, Use, Write, contains, fragment_at, has_copy, item_cmp, key_in, number_of, time_of}
use Rattle.sdd_pipe.specs.Pipe.{Pipe}
use Rattle.sdd_copy.specs.Frozen.{Frozen}
use Rattle.sdd_rules.specs.dm.Pipes.{pipe}
use Rattle.sdd_rules.specs.dm.Copies.{frozen}
use Rattle.sdd_rules.specs.dm.Views.{home_of, source_of}

-- times stay far below what a number holds
abbrev pub IsEarly : ℕ → Type 0
IsEarly time = time < 2 ^ 62

abbrev pub IsClass : Setting → ℕ → Type 0
IsClass s class = class ≤ length s.catalogue.classes

-- a message of a class comes from the site that runs it
pub record FitsClass (s : Setting) (from : Site) (class : ℕ) : Type 0 where
  pub is_class : IsClass s class
  pub home : from ≡ source_of (home_of s) class

abbrev pub last_time : Pipe → ℕ
last_time p = fold max 0 (map time_of (p.processed ++ p.unprocessed))

-- a READ, WRITE or NULL has no time below those of its pipe
pub record FitsPipe (s : Setting) (log : Log) (from : Site) (class time : ℕ) : Type 0 where
  pub source : FitsClass s from class
  pub in_turn : last_time (pipe class log) ≤ time
  pub early : IsEarly time

-- the module has copies of a use's fragments
abbrev pub IsHere : Setting → Use → Type 0
IsHere s u = All (λ f. has_copy s.catalogue (number_of s.site) f.0 ≡ true) u.frags

pub record FitsCond (s : Setting) (d : Cond) : Type 0 where
  pub is_class : IsClass s d.class.0
  pub early : IsEarly d.time.0

-- numbers that ascend: each is above the one before it

abbrev pub StartsAbove : ℕ → List ℕ → Type 0
StartsAbove k [] = Unit {0}
StartsAbove k (n ∷ ns) = k < n

abbrev pub Ascend : List ℕ → Type 0
Ascend [] = Unit {0}
Ascend (n ∷ ns) = StartsAbove n ns × Ascend ns

-- A READ's conditions ascend by class and its uses by number, so that the first condition that spoils it is that of the
-- lowest class.
pub record FitsRead (s : Setting) (log : Log) (from : Site) (class time : ℕ) (conds : List Cond) (uses : List Use) : Type 0 where
  pub piped : FitsPipe s log from class time
  pub conditions : All (FitsCond s) conds
  pub classes_ascend : Ascend (map (λ d. d.class.0) conds)
  pub uses_ascend : Ascend (map (λ u. u.number) uses)
  pub here : All (IsHere s) uses

abbrev pub write_time_of : Msg → Option ℕ
write_time_of (Write ts class txn changes) = Some ts.0
write_time_of _ = None

abbrev pub with_time : Option ℕ → List ℕ → List ℕ
with_time None times = times
with_time (Some t) times = t ∷ times

-- the timestamps of the WRITEs that were handed to the module
abbrev pub write_times : Log → List ℕ
write_times [] = []
write_times (Handed from m ∷ log) = with_time (write_time_of m) (write_times log)
write_times (_ ∷ log) = write_times log

-- the module has a copy of a change's fragment, and its row has the key in its key column
pub record FitsChange (s : Setting) (x : Change) : Type 0 where
  pub here : has_copy s.catalogue (number_of s.site) x.frag.0 ≡ true
  pub keyed : IfSome x.row (λ row. key_in s.catalogue (fragment_at s.catalogue x.frag.0).rel.0 row ≡ x.key)

-- a WRITE's timestamp is above 0 and new, and its changes are of different items
pub record FitsWrite (s : Setting) (log : Log) (from : Site) (class time : ℕ) (changes : List Change) : Type 0 where
  pub piped : FitsPipe s log from class time
  pub above : 0 < time
  pub fresh : contains (write_times log) time ≡ false
  pub items : IsDistinct (λ x y. is_eq (item_cmp x y)) (map (λ x. (x.frag.0, x.key)) changes)
  pub each : All (FitsChange s) changes

-- rows are held for the READ with this timestamp
abbrev pub AreFor : ℕ → Option Frozen → Type 0
AreFor ts None = ⊥
AreFor ts (Some f) = f.ts ≡ ts

-- of use u
abbrev pub HaveUse : ℕ → Option Frozen → Type 0
HaveUse u None = ⊥
HaveUse u (Some f) = contains (map (λ e. e.0) f.uses) u ≡ true

-- FETCH, REDUCE and SHIP are for the READ of the class that was answered last; its rows weren't shipped
pub record FitsShip (s : Setting) (log : Log) (from : Site) (class ts : ℕ) : Type 0 where
  pub source : FitsClass s from class
  pub held : AreFor ts (frozen s class log)

-- FETCH and REDUCE name one of its uses
pub record FitsStep (s : Setting) (log : Log) (from : Site) (class ts use_no : ℕ) : Type 0 where
  pub asked : FitsShip s log from class ts
  pub named : HaveUse use_no (frozen s class log)

abbrev pub fits : Setting → Bases → Log → Site → Msg → Type 0
fits s bases log from (Read ts class txn attempt conds uses) = FitsRead s log from class.0 ts.0 conds uses
fits s bases log from (Write ts class txn changes) = FitsWrite s log from class.0 ts.0 changes
fits s bases log from (Null class time) = FitsPipe s log from class.0 time.0
fits s bases log from (Fetch ts class u col) = FitsStep s log from class.0 ts.0 u
fits s bases log from (Reduce ts class u col values) = FitsStep s log from class.0 ts.0 u
fits s bases log from (Ship ts class) = FitsShip s log from class.0 ts.0
fits s bases log from _ = ⊥
