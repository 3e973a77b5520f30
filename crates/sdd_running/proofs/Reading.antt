-- The READs to the first modules, and one more.
use Rattle.sdd_running.proofs.All.{Beginning, DmNo, List, Msg, Notes, Site, [], ap, append_assoc, arith, filter_map, filter_map-append, get_or, length, map, map-append, module_read, read_to, reads_to, sym, take, take_more, ℕ, ◌++◌, ◌+◌, ◌<◌, ◌∙◌, ◌∷◌, ◌≡◌}
use Rattle.sdd_module.specs.wire.declared.msg.Msg.TheVariants as msgs

abbrev pub reads_till : Beginning → List DmNo → ℕ → List (Site × Msg)
reads_till b dms i = reads_to b (map (λ (n : DmNo). n.0) (take i dms))

abbrev read_by : Beginning → ℕ → Site × Msg
read_by b d = read_to b.catalogue b.table b.class b.queued b.uses b.own b.p2 d

read_more : (b : Beginning) (dms : List DmNo) (i : ℕ) (d : DmNo) (read : Site × Msg) → i < length dms → read ≡ read_by b (get_or dms i d).0
    → reads_till b dms (i + 1) ≡ reads_till b dms i ++ read ∷ []
read_more b dms i d read l e =
    ap (λ xs. reads_to b (map (λ (n : DmNo). n.0) xs)) (take_more dms i d l)
    ∙ ap (reads_to b) (map-append (λ (n : DmNo). n.0) (take i dms) (get_or dms i d ∷ []))
    ∙ map-append (read_by b) (map (λ (n : DmNo). n.0) (take i dms)) ((get_or dms i d).0 ∷ []) ∙ ap (λ x. reads_till b dms i ++ x ∷ []) (sym e)

pub sent_more : (b : Beginning) (dms : List DmNo) (i : ℕ) (d : DmNo) (read : Site × Msg) (first old new : Notes) → i < length dms
    → read ≡ read_by b (get_or dms i d).0 → old ≡ record first { out = first.out ++ reads_till b dms i } → new ≡ record old { out = old.out ++ read ∷ [] }
    → new ≡ record first { out = first.out ++ reads_till b dms (i + 1) }
sent_more b dms i d read first old new l e f g = grind (arith, append_assoc, reads_till, read_more)

pub module_more : (b : Beginning) (dms : List DmNo) (i : ℕ) (d : DmNo) (read : Site × Msg) (old new : List (ℕ × List ℕ)) → i < length dms
    → read ≡ read_by b (get_or dms i d).0 → old ≡ filter_map module_read (reads_till b dms i) → new ≡ old ++ filter_map module_read (read ∷ [])
    → new ≡ filter_map module_read (reads_till b dms (i + 1))
module_more b dms i d read old new l e f g =
    g ∙ ap (λ ms. ms ++ filter_map module_read (read ∷ [])) f ∙ sym (filter_map-append module_read (reads_till b dms i) (read ∷ []))
    ∙ ap (filter_map module_read) (sym (read_more b dms i d read l e))
