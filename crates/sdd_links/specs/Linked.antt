-- The links that the order is found along: of all precedences those that the others follow from.
use Rattle.std.specs.Prelude.{ℕ, zero, suc, nat_lt, ◌+◌, ◌-◌, ◌/◌, Bool, false, List, [], ◌∷◌, ◌++◌, length, map, Option, Some, None, slice_get, slice_index_or, if◌then◌else◌}
use Rattle.std.specs.List.{enumerate_from, flat_map}
use Rattle.sdd_lang.specs.All.{Catalogue, fragments_in}
use Rattle.sdd_links.specs.Attempts.{Committed, changes}
use Rattle.sdd_links.specs.declared.seen.Marks.{Marks}
use Rattle.sdd_links.specs.Finding.{sees}
use Rattle.sdd_links.specs.Precedence.{module_of}
use Rattle.sdd_links.specs.Groups.{Groups, groups, chains}

-- The transactions are numbered by their places in a list.

abbrev pub by_class : List Committed → List (ℕ × ℕ)
by_class txns = map (λ p. (p.1.start.class, p.0)) (enumerate_from 0 txns)

abbrev pub by_fragment : List Committed → List (ℕ × ℕ)
by_fragment txns = flat_map (λ p. map (λ c. (c.frag.0, p.0)) p.1.changes) (enumerate_from 0 txns)

-- where a test that holds of some first numbers from low on ends to hold, below high; found by halves, at most n times
abbrev pub end_of : (ℕ → Bool) → ℕ → ℕ → ℕ → ℕ
end_of p zero low high = low
end_of p (suc n) low high =
    let middle : ℕ = low + (high - low) / 2 in
    if nat_lt low high then (if p middle then end_of p n (middle + 1) high else end_of p n low middle) else low

-- whether the reader, at module d, has seen what the k-th of these writers changed
abbrev pub has_seen : Marks → List Committed → ℕ → Committed → List ℕ → ℕ → Bool
has_seen marks txns d reader writers k =
    elim (slice_get txns (slice_index_or writers k 0)) [
      | None ↦ false
      | Some writer ↦ sees marks writer.start.txn d reader.start.txn reader.start.number
    ]

-- of the writers of a fragment, with those before k seen and the others not: a link from the last that is seen to the
-- reader, and one from the reader to the first that isn't
abbrev pub links_at : List ℕ → ℕ → ℕ → List (ℕ × ℕ)
links_at writers reader k =
    (if nat_lt 0 k then (slice_index_or writers (k - 1) 0, reader) ∷ [] else [])
    ++ (if nat_lt k (length writers) then (reader, slice_index_or writers k 0) ∷ [] else [])

module _ (cat : Catalogue) (marks : Marks) (txns : List Committed) where
  abbrev pub fragment_links : Groups → ℕ × Committed → ℕ → List (ℕ × ℕ)
  fragment_links writers (reader, t) f =
      let of_f : List ℕ = slice_index_or writers f [] in
      if changes t f then [] else
      links_at of_f reader (end_of (has_seen marks txns (module_of cat t.start.class f) t of_f) (length of_f) 0 (length of_f))

  abbrev pub read_links : Groups → List (ℕ × ℕ)
  read_links writers = flat_map (λ p. flat_map (fragment_links writers p) (fragments_in p.1.start.uses)) (enumerate_from 0 txns)

  abbrev pub links : List (ℕ × ℕ)
  links =
      let writers : Groups = groups (by_fragment txns) (length cat.fragments + 1) in
      (chains (groups (by_class txns) (length cat.classes + 1)) ++ chains writers) ++ read_links writers
