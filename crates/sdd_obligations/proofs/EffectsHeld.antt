-- What a data module holds, where the WRITEs that are handed to it have changes of items.
use Rattle.sdd_obligations.proofs.All.{Act, AllByRecursion, Answer, AreWritten, Bool, Catalogue, Change, Dated, Did, Each, Handed, IsDatabase, IsEntry, IsItemChange, IsSoundCatalogue, List, Msg, Option, Pipe, Records, Sends, Setting, Some, Write, [], all_joined, applied, applied_acted, arith, changes_in, classes_of, database_of, dated, false, flat_map, frags_asked, goes_through, head, if◌then◌else◌, is_apply, is_at, items_of, map, pipe, recursion_from_All, snapshots, true, ℕ, ◌&&◌, ◌++◌, ◌==◌, ◌∷◌}
use Rattle.sdd_obligations.proofs.Entries.{AreItems, all_gathered, first_are_items, items_are_entries}
use Rattle.sdd_invariants.specs.site_module.SiteLog.{Entry, Log}

-- a WRITE to data module d has such changes
abbrev pub FitsMsg : Catalogue → ℕ → Msg → Type 0
FitsMsg cat d (Write ts class txn changes) = AreWritten cat d changes
FitsMsg cat d _ = Unit {0}

-- so of what is handed to it
abbrev pub HandFits : Catalogue → ℕ → Log → Entry → Type 0
HandFits cat d log (Handed from m) = FitsMsg cat d m
HandFits cat d log _ = Unit {0}

-- and of what waits in a pipe
abbrev AreFit : Catalogue → ℕ → List Msg → Type 0
AreFit cat d ms = AllByRecursion (FitsMsg cat d) ms

pipe_fits : (cat : Catalogue) (d c : ℕ) (log : Log) → Each (HandFits cat d) log → AreFit cat d (pipe c log).unprocessed
pipe_fits cat d c [] h = tt
pipe_fits cat d c (e ∷ log) h = grind (arith, all_joined, FitsMsg, goes_through, pipe, (pipe_fits cat d c log h.1))

-- the changes that are applied

dated_items : (cat : Catalogue) (t : ℕ) (xs : List Change) → AllByRecursion (IsItemChange cat) xs → AreItems cat (map (λ x. (t, x)) xs)
dated_items cat t [] all = tt
dated_items cat t (x ∷ xs) all = (all.0, dated_items cat t xs all.1)

message_items : (cat : Catalogue) (d : ℕ) (m : Msg) → FitsMsg cat d m → AreItems cat (changes_in (Some m))
message_items cat d (Write ts class txn changes) h = dated_items cat ts.0 changes (recursion_from_All (IsItemChange cat) changes h.each)
message_items cat d _ h = tt

more_items : (cat : Catalogue) (b : Bool) (xs ys : Dated) → AreItems cat xs → AreItems cat ys → AreItems cat (if b then xs ++ ys else xs)
more_items cat b xs ys h k = grind (arith, all_joined)

act_items : (cat : Catalogue) (d c : ℕ) (act : Act) (p : Pipe) (xs : Dated) → AreFit cat d p.unprocessed
    → AreItems cat xs → AreItems cat (applied_acted c act p xs)
act_items cat d c (Records k r sends) p xs all h = more_items cat ((k == c) && is_apply r) xs (changes_in (head p)) h (grind (arith, message_items))
act_items cat d c (Sends to m hand) p xs all h = h

applied_items : (cat : Catalogue) (d c : ℕ) (log : Log) → Each (HandFits cat d) log → AreItems cat (applied c log)
applied_items cat d c [] h = tt
applied_items cat d c (Did act ∷ log) h = act_items cat d c act (pipe c log) (applied c log) (pipe_fits cat d c log h.1) (applied_items cat d c log h.1)
applied_items cat d c (_ ∷ log) h = applied_items cat d c log h.1

module _ (s : Setting) (sound : IsSoundCatalogue s.catalogue) (first : IsDatabase s.catalogue (database_of s.catalogue s.rows)) (d : ℕ) where
  -- all changes that make the copies are of items
  pub all_items : (log : Log) → Each (HandFits s.catalogue d) log → AreItems s.catalogue (dated s log)
  all_items log h =
      all_joined (λ (x : ℕ × Change). IsItemChange s.catalogue x.1) _ (flat_map (λ c. applied c log) (classes_of s))
      (first_are_items s.catalogue (database_of s.catalogue s.rows) first)
      (all_gathered (λ (x : ℕ × Change). IsItemChange s.catalogue x.1) (λ c. applied c log) (classes_of s) (λ c. applied_items s.catalogue d c log h))

  -- what an attempt reads of them are entries of a database
  answer_entries : (ts : ℕ) (b : Bool) (o : Option Msg) (log : Log) → Each (HandFits s.catalogue d) log
      → AllByRecursion (IsEntry s.catalogue) (snapshots s ts log)
      → AllByRecursion (IsEntry s.catalogue) (if b then flat_map (items_of s.catalogue (dated s log)) (frags_asked o) else snapshots s ts log)
  answer_entries ts true o log h rest =
      all_gathered (IsEntry s.catalogue) (items_of s.catalogue (dated s log)) (frags_asked o)
      (items_are_entries s.catalogue sound (dated s log) (all_items log h))
  answer_entries ts false o log h rest = rest

  pub snapshot_entries : (ts : ℕ) (log : Log) → Each (HandFits s.catalogue d) log → AllByRecursion (IsEntry s.catalogue) (snapshots s ts log)
  snapshot_entries ts [] h = tt
  snapshot_entries ts (Did (Records k (Answer txn attempt dm) sends) ∷ log) h =
      answer_entries ts (is_at ts (head (pipe k log))) (head (pipe k log)) log h.1 (snapshot_entries ts log h.1)
  snapshot_entries ts (_ ∷ log) h = snapshot_entries ts log h.1
