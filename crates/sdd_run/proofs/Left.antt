-- A copy at which all is applied that changed its fragment has the rows that one plain database is left with.
use Rattle.sdd_run.proofs.All.{AreAllApplied, AreAppliedAlike, Catalogue, Committed, Contains, Contains-from_filter, Contains-from_flat_map, Contains-from_map, CopyTable, D, Dated, Event, FragNo, HasSoundData, HasSoundLists, History, Input, IsMadeAt, IsPermitted, IsSerial, IsSoundCatalogue, Item, List, Log, Lose, Mark, None, Notes, Nothing, Option, Rec, RelNo, Row, TxnNo, U, [], ap, are_eras_of, arith, attempt_of, by_event, by_mark, committed, cons_option, contents, dated, dm_no, due_by, equal_copies, eras_of, filter, filter_map, flat_map, has_copy, history, is_apply, is_none, left_in_copies, length, link_of, list_any, local_of, map, map-map, note_if, numbers_to, placed, refl, rows_left, run, same_copy, setting_of, slice_get_past, subst, suc, sym, table_of, tables_at, tables_of, take-append_seam, take_all, true, ℕ, ◌++◌, ◌-◌, ◌∙◌, ◌∷◌, ◌≡◌}
use Rattle.sdd_progress.specs.obligations.laws.Snapshots as laws

-- The copies at the end of a log are those before a record after it: that of an event which finds nothing to do, as one
-- that loses a packet which isn't there.

abbrev no_packet : Log → Event
no_packet log = Lose U U (suc (length (link_of U U log).there.flight))

abbrev noted : Log → Log
noted log = Notes ∷ Mark (no_packet log) ∷ log

-- the record stands after all others
abbrev at_the_end : (log : Log) → IsMadeAt (noted log) (length (history log)) Nothing
at_the_end log = record { later = []; entry = Notes; before = Mark (no_packet log) ∷ log; is = refl; makes = refl; place_is = refl }

-- and it tells of no attempt and no Commit

abbrev with_nothing : History → ℕ → History
with_nothing h n = h ++ (n, Nothing) ∷ []

found_alike : {A : Type 0} (f : ℕ × Rec → Option A) → ((k : ℕ) → f (k, Nothing) ≡ None)
    → (h : History) (n k : ℕ) → filter_map f (placed k (with_nothing h n)) ≡ filter_map f (placed k h)
found_alike f none [] n k = ap (λ o. cons_option o []) (none k)
found_alike f none (e ∷ h) n k = ap (cons_option (f (k, e.1))) (found_alike f none h n (suc k))

same_committed : (h : History) (n : ℕ) → committed (with_nothing h n) ≡ committed h
same_committed h n = grind (arith, filter_map, with_nothing, attempt_of, found_alike)

-- what makes the copies at the end of the history, by its first so many records
abbrev dated_by : Catalogue → List (RelNo × Row) → List Committed → History → ℕ → Dated
dated_by cat rows all front d =
    laws.first_rows cat rows ++ flat_map laws.dated (filter (λ (t : Committed). list_any (λ (e : ℕ × Rec). is_apply t.start.txn d e.1) front) all)

same_dated : (cat : Catalogue) (rows : List (RelNo × Row)) (h : History) (n d : ℕ)
    → laws.dated_at cat rows (with_nothing h n) d (length h) ≡ laws.dated_at cat rows h d (length h)
same_dated cat rows h n d = grind (arith, dated_by, with_nothing, same_committed, take-append_seam, take_all)

module _ (g : Input) (rows : List (RelNo × Row)) (log : Log) (sound : IsSoundCatalogue g.catalogue) (fine : HasSoundData g rows) (permitted : IsPermitted g log)
    (lists : HasSoundLists g log) where
  -- the copies that the log of a data module leaves are those that the history gives
  contents_are : (d f : ℕ) → has_copy g.catalogue d f ≡ true
      → contents f (dated (setting_of g (D (dm_no d))) (local_of g (D (dm_no d)) log)) ≡ laws.copy_at g.catalogue rows (history log) d (length (history log)) f
  contents_are d f copied =
      same_copy g rows (eras_of g log) (noted log) sound fine (grind (arith, link_of, due_by, no_packet, note_if, is_none, slice_get_past, by_event, by_mark))
      (are_eras_of g (noted log) lists) d (length (history log)) Nothing (at_the_end log) f copied
      ∙ ap (contents f) (same_dated g.catalogue rows (history log) _ d)

  -- a copy that is reported has what the history gives
  pub copy_rows_are : (copy : CopyTable) → Contains (tables_of g log) copy
      → copy.rows ≡ map (λ e. e.1) (laws.copy_at g.catalogue rows (history log) copy.dm.0 (length (history log)) copy.frag.0)
  copy_rows_are copy there =
      let at = Contains-from_flat_map (tables_at g log) (numbers_to g.catalogue.dms) copy there in
      let of = Contains-from_map (table_of at.0 (dated (setting_of g (D (dm_no at.0))) (local_of g (D (dm_no at.0)) log))) _ copy at.2 in
      let copied = Contains-from_filter (has_copy g.catalogue at.0) (numbers_to (length g.catalogue.fragments)) of.0 of.1 in
      subst (λ (t : CopyTable). t.rows ≡ map (λ e. e.1) (laws.copy_at g.catalogue rows (history log) t.dm.0 (length (history log)) t.frag.0))
      (sym of.2) (ap (λ l. map (λ e. e.1) l) (contents_are at.0 of.0 copied.1))

  -- two copies of a fragment at which the same is applied that changes it are equal
  pub alike_in : (one two : CopyTable) → Contains (tables_of g log) one → Contains (tables_of g log) two → one.frag ≡ two.frag
      → AreAppliedAlike (history log) one.frag.0 one.dm.0 (length (history log)) two.dm.0 (length (history log)) → one.rows ≡ two.rows
  alike_in one two here there same alike =
      let h = history log in
      copy_rows_are one here ∙ ap (λ l. map (λ e. e.1) l) (equal_copies g.catalogue rows h one.frag.0 one.dm.0 (length h) two.dm.0 (length h) alike)
      ∙ ap (λ (f : FragNo). map (λ e. e.1) (laws.copy_at g.catalogue rows h two.dm.0 (length h) f.0)) same ∙ sym (copy_rows_are two there)

  module _ (order : List TxnNo) (serial : IsSerial g.catalogue (history log) order) where
    left_at : (d f : ℕ) → has_copy g.catalogue d f ≡ true → AreAllApplied (history log) f d (length (history log))
        → map (λ e. e.1) (contents f (dated (setting_of g (D (dm_no d)))
        (local_of g (D (dm_no d)) log))) ≡ rows_left g.catalogue (run g.catalogue rows g.txns order).1 f
    left_at d f copied all =
        let copy = laws.copy_at g.catalogue rows (history log) d (length (history log)) f in
        ap (λ l. map (λ e. e.1) l) (contents_are d f copied) ∙ sym (map-map (λ (e : Item × Row). e.1) _ copy)
        ∙ sym (ap (map (λ (e : Item × Row). e.1))
        (left_in_copies g rows (eras_of g log) log order sound fine permitted (are_eras_of g log lists) serial f d (length (history log)) all))

    -- each copy that is reported
    pub left_in : (copy : CopyTable) → Contains (tables_of g log) copy → AreAllApplied (history log) copy.frag.0 copy.dm.0 (length (history log))
        → copy.rows ≡ rows_left g.catalogue (run g.catalogue rows g.txns order).1 copy.frag.0
    left_in copy there =
        let at = Contains-from_flat_map (tables_at g log) (numbers_to g.catalogue.dms) copy there in
        let of = Contains-from_map (table_of at.0 (dated (setting_of g (D (dm_no at.0))) (local_of g (D (dm_no at.0)) log))) _ copy at.2 in
        let copied = Contains-from_filter (has_copy g.catalogue at.0) (numbers_to (length g.catalogue.fragments)) of.0 of.1 in
        subst (λ (t : CopyTable). AreAllApplied (history log) t.frag.0 t.dm.0 (length (history log))
        → t.rows ≡ rows_left g.catalogue (run g.catalogue rows g.txns order).1 t.frag.0)
        (sym of.2) (left_at at.0 of.0 copied.1)
