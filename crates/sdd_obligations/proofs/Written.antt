-- What a data module asks of a WRITE's changes.
use Rattle.sdd_obligations.proofs.All.{All, AreWritten, Catalogue, Change, ClassNo, D, DmNo, FitsChange, FitsInput, IfSome, Input, IsItemChange, IsPermitted, IsSoundCatalogue, List, Log, Site, Some, Ts, TxnNo, Write, arith, entry_placed, fragment_at, key_in, message_at, setting_of, slice_index_or as get_or, ℕ, ◌≡◌}
use Rattle.sdd_obligations.proofs.Put.{acts_fit, message_fits}

-- the row of a change of an item has the item's key
pub keyed : (cat : Catalogue) → IsSoundCatalogue cat → (c : Change) → IsItemChange cat c → IfSome c.row (λ row. key_in cat (fragment_at cat c.frag.0).rel.0 row ≡ c.key)
keyed cat sound c h = grind (arith, entry_placed)

pub write_put : (g : Input) (log : Log) (from : Site) (d : DmNo) (n : ℕ) (ts : Ts) (class : ClassNo)
    (txn : TxnNo) (changes : List Change) → FitsInput g → IsPermitted g log
    → message_at from (D d) n log ≡ Some (Write ts class txn changes) → AreWritten g.catalogue d.0 changes
write_put g log from d n ts class txn changes good h e = message_fits g log (acts_fit g good log h) from d n (Write ts class txn changes) e

pub changes_fit : (g : Input) (d : DmNo) (changes : List Change) → FitsInput g
    → AreWritten g.catalogue d.0 changes → All (FitsChange (setting_of g (D d))) changes
changes_fit g d changes good w i x within = record { here = w.here i x within; keyed = keyed g.catalogue good.sound (get_or changes i x) (w.each i x within) }
