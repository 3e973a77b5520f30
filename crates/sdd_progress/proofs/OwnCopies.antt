-- The copy that a data module has at the end of a log is that which the history gives. What is known of copies at records is
-- said of the record of an event that finds nothing to do after the log.
use Rattle.sdd_progress.proofs.All.{D, HasSoundData, HasSoundLists, History, Input, IsMadeAt, IsPermitted, IsQuiet, IsSoundCatalogue, List, Log, Mark, None, Notes, Nothing, Option, Rec, RelNo, Row, Up, [], ap, arith, by_event, by_mark, cons_option, contents, copy_module, dated, dm_no, eras_of, false, filter_map, flat_map, has_copy, history, is_down, length, list_any, local_of, mark_due, note_if, placed, refl, same_copy, setting_of, suc, take, true, ℕ, ◌++◌, ◌∙◌, ◌∷◌, ◌≡◌}
use Rattle.sdd_progress.proofs.ErasOf.{are_eras_of}
use Rattle.sdd_progress.proofs.Still.{module_up}
use Rattle.sdd_obligations.specs.laws.Snapshots as laws

-- a record of nothing after a history tells nothing of transactions

none_more : {B : Type 0} (f : ℕ × Rec → Option B) → ((k : ℕ) → f (k, Nothing) ≡ None) → (k : ℕ) (h : History) (event : ℕ)
    → filter_map f (placed k (h ++ (event, Nothing) ∷ [])) ≡ filter_map f (placed k h)
none_more f n k [] event = ap (λ o. cons_option o []) (n k)
none_more f n k (x ∷ h) event = ap (cons_option (f (k, x.1))) (none_more f n (suc k) h event)

take_same : {A : Type 0} (xs ys : List A) → take (length xs) (xs ++ ys) ≡ take (length xs) xs
take_same [] ys = refl
take_same (x ∷ xs) ys = ap (λ zs. x ∷ zs) (take_same xs ys)

-- the event

abbrev noted : ℕ → Log → Log
noted d log = Notes ∷ Mark (Up (D (dm_no d))) ∷ log

noted_permitted : (g : Input) (log : Log) (d : ℕ) → is_down (D (dm_no d)) log ≡ false → IsPermitted g log → IsPermitted g (noted d log)
noted_permitted g log d up h = grind (arith, mark_due, dm_no, note_if, by_event, by_mark)

abbrev noted_made : (log : Log) (d : ℕ) → IsMadeAt (noted d log) (length (history log)) Nothing
noted_made log d = record { later = []; entry = Notes; before = Mark (Up (D (dm_no d))) ∷ log; is = refl; makes = refl; place_is = refl }

pub own_copy : (g : Input) (rows : List (RelNo × Row)) (log : Log) (f d : ℕ) → IsSoundCatalogue g.catalogue → IsQuiet g log → HasSoundLists g log
    → HasSoundData g rows → has_copy g.catalogue d f ≡ true
    → contents f (dated (setting_of g (D (dm_no d))) (local_of g (D (dm_no d)) log)) ≡ laws.copy_at g.catalogue rows (history log) d (length (history log)) f
own_copy g rows log f d sound h lists fine copied =
    same_copy g rows (eras_of g log) (noted d log) sound fine
    (noted_permitted g log d (module_up g log d h (copy_module g.catalogue sound d f copied)) h.permitted)
    (are_eras_of g (noted d log) lists) d (length (history log)) Nothing (noted_made log d) f copied
    ∙ (grind (arith, flat_map, list_any, filter_map, none_more, take_same))
