-- What is kept of a pipe: the messages that aren't processed, and of the processed ones what read conditions ask, which
-- are the greatest time and, for each fragment, the greatest timestamp of a WRITE that changes it.
use Rattle.std.specs.Prelude.{ℕ, nat_le, ◌≡◌, true, Bool, false, if◌then◌else◌, List, [], ◌∷◌, ◌++◌, map, filter_map, fold, is_some, Option, Some, None}
use Rattle.std.specs.Ordering.{nat_cmp}
use Rattle.std.specs.Map.{lookup}
use Rattle.std.specs.BTreeMap.{insert_entry, is_at}
use Rattle.sdd_base.specs.Words.{head_of, tail_of}
use Rattle.sdd_base.specs.declared.number.FragNo.{FragNo}
use Rattle.sdd_base.specs.declared.change.Change.{Change}
use Rattle.sdd_wire.specs.declared.msg.Msg.{Msg}
use Rattle.sdd_wire.specs.declared.msg.Msg.TheVariants.{Write}
use Rattle.sdd_wire.specs.Piped.{time_of}
use Rattle.sdd_pipe.specs.Pipe.{Pipe, raised, greatest, last_write}

-- by fragment, ascending, the greatest timestamp of a processed WRITE that changes it; a fragment that only unprocessed
-- WRITEs change has an entry without one, so that processing them takes no memory
abbrev pub Writes : Type 0
Writes = List (ℕ × Option ℕ)

pub record Digest : Type 0 where
  pub unprocessed : List Msg
  pub latest : Option ℕ
  pub writes : Writes

abbrev pub empty_digest : Digest
empty_digest = record { unprocessed = []; latest = None; writes = [] }

abbrev pub entry_of : ℕ → Writes → Option (Option ℕ)
entry_of f writes = lookup (is_at (nat_cmp f)) writes

abbrev pub changes_of : Msg → List Change
changes_of (Write ts class txn changes) = changes
changes_of _ = []

-- a message comes

abbrev pub with_room : Writes → Change → Writes
with_room writes x = if is_some (entry_of x.frag.0 writes) then writes else insert_entry nat_cmp writes x.frag.0 None

abbrev pub put_digest : Msg → Digest → Digest
put_digest m d = record { unprocessed = d.unprocessed ++ m ∷ []; latest = d.latest; writes = fold with_room d.writes (changes_of m) }

-- the first unprocessed message is processed

abbrev pub raised_entry : ℕ → ℕ → Writes → Option (Option ℕ) → Writes
raised_entry f time writes None = writes
raised_entry f time writes (Some latest) = insert_entry nat_cmp writes f (raised latest time)

abbrev pub with_write : ℕ → Writes → Change → Writes
with_write time writes x = raised_entry x.frag.0 time writes (entry_of x.frag.0 writes)

abbrev pub with_processed : Option Msg → Digest → Digest
with_processed None d = d
with_processed (Some m) d = record {
  unprocessed = tail_of d.unprocessed;
  latest = raised d.latest (time_of m);
  writes = fold (with_write (time_of m)) d.writes (changes_of m);
}

abbrev pub take_digest : Digest → Digest
take_digest d = with_processed (head_of d.unprocessed) d

-- what conditions ask

abbrev pub is_by : ℕ → Option ℕ → Bool
is_by t None = false
is_by t (Some last) = nat_le t last

abbrev pub has_passed_by : Option Msg → Option ℕ → ℕ → Bool
has_passed_by (Some m) latest t = nat_le t (time_of m)
has_passed_by None latest t = is_by t latest

abbrev pub has_passed : Digest → ℕ → Bool
has_passed d t = has_passed_by (head_of d.unprocessed) d.latest t

-- the greatest time that the class has passed

abbrev pub passed_with : Option Msg → Option ℕ → Option ℕ
passed_with (Some m) latest = Some (time_of m)
passed_with None latest = latest

abbrev pub passed_to : Digest → Option ℕ
passed_to d = passed_with (head_of d.unprocessed) d.latest

abbrev pub or_none : Option (Option ℕ) → Option ℕ
or_none None = None
or_none (Some time) = time

abbrev pub write_in : Writes → FragNo → Option ℕ
write_in writes f = or_none (entry_of f.0 writes)

abbrev pub last_in : List FragNo → Digest → Option ℕ
last_in frags d = greatest (filter_map (write_in d.writes) frags)

-- which pipe it is of

-- there are entries for the fragments of some changes, and of all WRITEs among some messages
abbrev pub HasRoom : Writes → List Change → Type 0
HasRoom writes [] = Unit {0}
HasRoom writes (x ∷ changes) = (is_some (entry_of x.frag.0 writes) ≡ true) × HasRoom writes changes

abbrev pub HaveRoom : Writes → List Msg → Type 0
HaveRoom writes [] = Unit {0}
HaveRoom writes (m ∷ messages) = HasRoom writes (changes_of m) × HaveRoom writes messages

pub record IsDigest (d : Digest) (p : Pipe) : Type 0 where
  pub unprocessed : d.unprocessed ≡ p.unprocessed
  pub latest : d.latest ≡ greatest (map time_of p.processed)
  pub writes : (f : FragNo) → write_in d.writes f ≡ last_write (f ∷ []) p
  pub room : HaveRoom d.writes p.unprocessed
