-- The RELEASEs of U against its Starts: the k-th RELEASE to a T carries the timestamp of the k-th Start, and was sent once
-- each data module's DONE for it was handed.
use Rattle.std.specs.Prelude.{ℕ, ◌++◌, ◌+◌, ◌<◌, ◌==◌, ◌∷◌, ◌≡◌, ◌≤◌, Bool, List, None, Option, Some, [], false, filter_map, length, slice_get, take}
use Rattle.sdd_log.specs.All.{Attempt, Did, Done, Handed, Msg, Release, Setting, T, active, counts, last_served, tm_no}
use Rattle.sdd_log.specs.site_module.SiteLog.{Log}
use Rattle.sdd_invariants.specs.AtU.{starts}
use Rattle.sdd_invariants.specs.Turns.{one_if}
use Rattle.sdd_invariants.specs.Steps.{stamp_of}
use Rattle.sdd_invariants.specs.Traffic.{puts_to}

-- the timestamps of the Starts, oldest first
abbrev pub drawn_so_far : Log → List ℕ
drawn_so_far [] = []
drawn_so_far (Did act ∷ log) = drawn_so_far log ++ stamp_of act
drawn_so_far (_ ∷ log) = drawn_so_far log

abbrev pub last_of : List ℕ → Option ℕ
last_of [] = None
last_of (x ∷ []) = Some x
last_of (x ∷ y ∷ ys) = last_of (y ∷ ys)

abbrev pub release_time : Msg → Option ℕ
release_time (Release ts) = Some ts.0
release_time _ = None

abbrev pub release_times : List Msg → List ℕ
release_times ms = filter_map release_time ms

abbrev pub is_done_of : ℕ → Msg → Bool
is_done_of x (Done t) = t.0 == x
is_done_of x _ = false

abbrev pub dones_of : ℕ → Log → ℕ
dones_of x [] = 0
dones_of x (Handed from m ∷ log) = one_if (is_done_of x m) + dones_of x log
dones_of x (_ ∷ log) = dones_of x log

-- what U's steps keep
pub record IsServing (s : Setting) (t : ℕ) (log : Log) : Type 0 where
  pub counted : length (drawn_so_far log) ≡ starts log
  pub active_last : (a : Attempt) → active s 0 log ≡ Some a → last_of (drawn_so_far log) ≡ Some a.ts
  pub served_last : starts log ≡ (last_served s log).commits → 0 < (last_served s log).commits
      → last_of (drawn_so_far log) ≡ Some (last_served s log).ts
  pub dones_le : (last_served s log).dones ≤ dones_of (last_served s log).ts log
  pub released : release_times (puts_to (T (tm_no t)) log) ≡ take (counts t log).releases (drawn_so_far log)
  pub done : (j x : ℕ) → j < (counts t log).releases → slice_get (drawn_so_far log) j ≡ Some x → s.catalogue.dms ≤ dones_of x log
