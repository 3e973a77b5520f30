-- The WRITEs of an attempt that commits, as a site makes them.
use Rattle.std.specs.Prelude.{ℕ, ◌==◌, not, ◌||◌, cond, List, filter, Option, Some, None}
use Rattle.sdd_module.specs.All.{Catalogue, Change, D, Msg, Site, Write, class_no, dm_no, has_copy, is_empty, time_at, txn_no}

-- of the changes those of fragments that have a copy at module d
abbrev pub changes_at : Catalogue → ℕ → List Change → List Change
changes_at cat d changes = filter (λ x. has_copy cat d x.frag.0) changes

-- the WRITE to module d, for a transaction with this number whose attempt has this timestamp
abbrev pub write_of : Catalogue → ℕ → ℕ → ℕ → List Change → ℕ → Option (Site × Msg)
write_of cat c ts txn changes d =
    cond (not (is_empty (changes_at cat d changes)) || (c == 0)) (Some (D (dm_no d), Write (time_at ts) (class_no c) (txn_no txn) (changes_at cat d changes))) None
