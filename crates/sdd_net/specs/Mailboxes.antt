-- What is kept for modules that are down.
use Rattle.std.specs.Prelude.{ℕ, suc, ◌+◌, ◌<◌, ◌≡◌, nat_le, ◌&&◌, if◌then◌else◌, Bool, false, List, [], ◌∷◌, ◌++◌, length, map, replicate, slice_index_or, slice_set, Option, Some, None, refl}
use Rattle.sdd_base.specs.Numbers.{tm_no, dm_no}
use Rattle.sdd_base.specs.Sites.{same_site, sites}
use Rattle.sdd_base.specs.declared.site.Site.{Site}
use Rattle.sdd_base.specs.declared.site.Site.TheVariants.{U, T, D}

-- of one module: whether it is down, how many transaction modules there are, and the messages that are kept for it, one
-- list for each site as sender: U, then each T, then each D
pub record Mailbox (M : Type 0) : Type 0 where
  pub down : Bool
  pub tms : ℕ
  pub queues : List (List M)

-- of a module that is up, where there are so many transaction modules and data modules
abbrev pub empty_mailbox : {M : Type 0} → ℕ → ℕ → Mailbox M
empty_mailbox tms dms = record { down = false; tms = tms; queues = replicate (suc (tms + dms)) [] }

-- The place of a site in the order of sites, where there are so many transaction modules. Modules count from 1.
abbrev pub place_of : ℕ → Site → Option ℕ
place_of tms U = Some 0
place_of tms (T n) = if nat_le 1 n.0 && nat_le n.0 tms then Some n.0 else None
place_of tms (D n) = if nat_le 1 n.0 then Some (tms + n.0) else None

-- worked: the sites have their places in order, and a module that isn't there has none
pub worked_places : map (place_of 2) (sites 2 1) ≡ Some 0 ∷ Some 1 ∷ Some 2 ∷ Some 3 ∷ []
worked_places = refl

pub worked_no_places : map (place_of 2) (T (tm_no 0) ∷ T (tm_no 3) ∷ D (dm_no 0) ∷ []) ≡ None ∷ None ∷ None ∷ []
worked_no_places = refl

abbrev pub queue_at : {M : Type 0} → List (List M) → Option ℕ → List M
queue_at queues None = []
queue_at queues (Some k) = slice_index_or queues k []

-- the messages of a site that are kept, in the order in which they were put
abbrev pub kept_from : {M : Type 0} → Mailbox M → Site → List M
kept_from b x = queue_at b.queues (place_of b.tms x)

abbrev pub IsWithin : ℕ → Option ℕ → Type 0
IsWithin n None = ⊥
IsWithin n (Some k) = k < n

-- how many messages of all senders are kept
abbrev pub total : {M : Type 0} → List (List M) → ℕ
total [] = 0
total (q ∷ queues) = length q + total queues

abbrev pub kept_count : {M : Type 0} → Mailbox M → ℕ
kept_count b = total b.queues

-- a sender of the mailbox: a site that has a list there
abbrev pub IsSender : {M : Type 0} → Mailbox M → Site → Type 0
IsSender b x = IsWithin (length b.queues) (place_of b.tms x)

-- Of all modules: how many transaction modules there are, and a mailbox for each site in the order of sites. U, which never
-- goes down, has one, so that a site's mailbox has the same place as its lists in the mailboxes.
pub record Boxes (M : Type 0) : Type 0 where
  pub tms : ℕ
  pub boxes : List (Mailbox M)

-- nothing is kept, and all modules are up
abbrev pub empty_boxes : {M : Type 0} → ℕ → ℕ → Boxes M
empty_boxes tms dms = record { tms = tms; boxes = replicate (suc (tms + dms)) (empty_mailbox tms dms) }

-- a mailbox that is not there
abbrev pub no_mailbox : {M : Type 0} → Mailbox M
no_mailbox = record { down = false; tms = 0; queues = [] }

abbrev pub box_at : {M : Type 0} → List (Mailbox M) → Option ℕ → Mailbox M
box_at boxes None = no_mailbox
box_at boxes (Some k) = slice_index_or boxes k no_mailbox

-- the mailbox of a site
abbrev pub mailbox_at : {M : Type 0} → Boxes M → Site → Mailbox M
mailbox_at s at = box_at s.boxes (place_of s.tms at)

-- the site has a mailbox
abbrev pub IsPlaced : {M : Type 0} → Boxes M → Site → Type 0
IsPlaced s at = IsWithin (length s.boxes) (place_of s.tms at)

-- a message is put after those of its sender
pub record Puts {M : Type 0} (old new : Mailbox M) (from : Site) (msg : M) : Type 0 where
  pub down : new.down ≡ old.down
  pub tms : new.tms ≡ old.tms
  pub count : length new.queues ≡ length old.queues
  pub here : kept_from new from ≡ kept_from old from ++ msg ∷ []
  pub others : (x : Site) → same_site x from ≡ false → kept_from new x ≡ kept_from old x

-- the first message of a sender is taken
pub record TakesMessage {M : Type 0} (old new : Mailbox M) (from : Site) (msg : M) : Type 0 where
  pub down : new.down ≡ old.down
  pub tms : new.tms ≡ old.tms
  pub count : length new.queues ≡ length old.queues
  pub sender : IsSender old from
  pub here : kept_from old from ≡ msg ∷ kept_from new from
  pub fewer : suc (kept_count new) ≡ kept_count old
  pub others : (x : Site) → same_site x from ≡ false → kept_from new x ≡ kept_from old x

-- senders come in the order of their places
abbrev pub IsBefore : Option ℕ → Option ℕ → Type 0
IsBefore (Some j) (Some k) = j < k
IsBefore j k = ⊥

-- and no lower sender has one
abbrev pub IsLowest : {M : Type 0} → Mailbox M → Site → Type 0
IsLowest b from = (x : Site) → IsBefore (place_of b.tms x) (place_of b.tms from) → kept_from b x ≡ []

-- only the mailbox of one site changes
pub record OnlyAt {M : Type 0} (old new : Boxes M) (at : Site) : Type 0 where
  pub tms : new.tms ≡ old.tms
  pub count : length new.boxes ≡ length old.boxes
  pub others : (x : Site) → same_site x at ≡ false → mailbox_at new x ≡ mailbox_at old x

-- of some lists the first item of the first that isn't empty is taken
pub record TakesFirst {M : Type 0} (old new : List (List M)) (place : ℕ) (item : M) : Type 0 where
  pub rest : List M
  pub within : place < length old
  pub lower : (j : ℕ) → j < place → slice_index_or old j [] ≡ []
  pub here : slice_index_or old place [] ≡ item ∷ rest
  pub left : new ≡ slice_set old place rest
