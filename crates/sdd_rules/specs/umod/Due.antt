-- What is due at the module for undeclared transactions. First what its active attempt makes due; then RELEASE to each T;
-- then a Start; then HOLD to each T.
use Rattle.std.specs.Prelude.{ℕ, suc, nat_lt, ◌≡◌, ◌==◌, Bool, ◌&&◌, if◌then◌else◌, [], slice_get, Option, Some, None}
use Rattle.std.specs.List.{list_all}
use Rattle.sdd_module.specs.All.{Act, Bases, Catalogue, Log, Release, Sends, Setting, T, first_some, head_of, or_else, time_at}
use Rattle.sdd_module.specs.wire.declared.msg.Msg.TheVariants.{Hold}
use Rattle.sdd_rules.specs.attempt.Queues.{Queued}
use Rattle.sdd_rules.specs.attempt.Acts.{attempt_due, start_act}
use Rattle.sdd_module.specs.base.Numbers.{tm_no}
use Rattle.sdd_rules.specs.umod.Views.{View, TmCounts, view_of}

-- once every data module has applied the WRITE of the last Commit, each T that has had fewer RELEASEs than there are
-- Commits gets one
abbrev pub release_due : Catalogue → View → TmCounts → Option Act
release_due cat v k =
    if nat_lt k.releases v.served.commits && (v.served.dones == cat.dms)
    then Some (Sends (T (tm_no k.tm)) (Release (time_at v.served.ts)) None) else None

-- a T holds for the next transaction: one HOLD more was sent to it than there are Commits, and one HELD more came
abbrev pub is_holding : View → TmCounts → Bool
is_holding v k = (k.holds == suc v.served.commits) && (k.helds == suc v.served.commits)

abbrev pub start_of : Catalogue → View → Option Queued → Option Act
start_of cat v None = None
start_of cat v (Some q) = if (q.tries == 0) && list_all (is_holding v) v.counts then Some (start_act cat [] 0 v.clock q) else None

-- the first transaction of the queue starts once every T holds for it; its attempt is never rejected
abbrev pub start_due : Catalogue → View → Option Act
start_due cat v = start_of cat v (head_of v.queue)

abbrev pub hold_to : TmCounts → Option Queued → Option Act
hold_to k None = None
hold_to k (Some q) = if k.releases == k.holds then Some (Sends (T (tm_no k.tm)) Hold None) else None

-- while the queue isn't empty, a T that has had as many RELEASEs as HOLDs gets a HOLD
abbrev pub hold_due : View → TmCounts → Option Act
hold_due v k = hold_to k (head_of v.queue)

-- the table

-- of four ranks the first that has something due
abbrev pub by_rank : {A : Type 0} → Option A → Option A → Option A → Option A → Option A
by_rank exchange releases start holds = or_else exchange (or_else releases (or_else start holds))

abbrev pub due : Catalogue → Bases → View → Option Act
due cat bases v =
    by_rank (attempt_due cat bases 0 v.active) (first_some (release_due cat v) v.counts)
    (start_due cat v) (first_some (hold_due v) v.counts)

abbrev pub next : Setting → Bases → Log → Option Act
next s bases log = due s.catalogue bases (view_of s log)

-- due, of whatever rank: for logs whose entries come in any order
pub data IsDue (cat : Catalogue) (bases : Bases) (v : View) : Act → Type 0 where
  by_exchange : {a : Act} → attempt_due cat bases 0 v.active ≡ Some a → IsDue cat bases v a
  by_release : {a : Act} (n : ℕ) (k : TmCounts) → slice_get v.counts n ≡ Some k → release_due cat v k ≡ Some a → IsDue cat bases v a
  by_start : {a : Act} → start_due cat v ≡ Some a → IsDue cat bases v a
  by_hold : {a : Act} (n : ℕ) (k : TmCounts) → slice_get v.counts n ≡ Some k → hold_due v k ≡ Some a → IsDue cat bases v a
