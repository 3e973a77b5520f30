-- The history of a permitted log keeps all laws by which it has a serial order, and by which that gives the replies.
use Rattle.sdd_lawful.proofs.All.{AllZip, AreAllApplied, AreErasOf, AreFew, Catalogue, Change, Committed, Eras, HasNoCycle, HasSoundData, Input, IsCommitted, IsFragment, IsOrderable, IsPermitted, IsReplyOf, IsSerial, IsSoundCatalogue, KeepsEras, KeepsLaws, KeepsUndeclared, List, Log, NumbersExist, RelNo, Row, TxnNo, TxnsExist, acyclic, any_at, are_few, copy_at, eqb-true, fragment_holds, gives_replies, history, key_in_range, leaves_copies, length, orderable, rows_in_fragment, rows_make_database, run, subst, sym, ℕ, ◌==◌, ◌≡◌}
use Rattle.sdd_lawful.proofs.Applies.{keeps_applies}
use Rattle.sdd_lawful.proofs.Beginnings.{ChangesExist}
use Rattle.sdd_lawful.proofs.Committed.{committed_in}
use Rattle.sdd_lawful.proofs.Conditions.{keeps_conditions}
use Rattle.sdd_lawful.proofs.Effects.{keeps_answers}
use Rattle.sdd_lawful.proofs.Rejections.{keeps_rejections}
use Rattle.sdd_lawful.proofs.Starts.{keeps_starts}
use Rattle.sdd_lawful.proofs.Undeclared.{keeps_undeclared}
use Rattle.sdd_lawful.proofs.Valid.{AllValid, IsValid, all_slice, commits_valid}
use Rattle.sdd_laws.specs.All.{items_of}

-- the changes of a committed transaction are of items
pub changes_valid : (g : Input) (rows : List (RelNo × Row)) (log : Log) → IsSoundCatalogue g.catalogue → HasSoundData g rows → IsPermitted g log
    → (t : Committed) → IsCommitted (history log) t → AllValid g.catalogue t.changes
changes_valid g rows log sound fine h t ct =
    let c = committed_in g log t sound h ct in
    subst (AllValid g.catalogue) (sym c.changes_are) (commits_valid g rows log sound fine h t.start.class c.bases c.running c.later c.before c.is c.active_is)

pub valid_there : (cat : Catalogue) → IsSoundCatalogue cat → (c : Change) → IsValid cat c → IsFragment cat c.frag.0
valid_there cat sound c v =
    let x = (fragment_holds cat sound v.rel c.key v.there.0 v.there.1 (key_in_range c.key v.held)).there in
    subst (IsFragment cat) (sym v.frag) (x.from, x.to)

pub changes_exist : (g : Input) (rows : List (RelNo × Row)) (log : Log) → IsSoundCatalogue g.catalogue → HasSoundData g rows → IsPermitted g log
    → ChangesExist g (history log)
changes_exist g rows log sound fine h t f ct e =
    let i = any_at (λ (x : Change). x.frag.0 == f) t.changes e in
    let v : IsValid g.catalogue i.1 = all_slice (IsValid g.catalogue) t.changes i.0 i.1 (changes_valid g rows log sound fine h t ct) i.2 in
    subst (IsFragment g.catalogue) (eqb-true i.1.frag.0 f i.3) (valid_there g.catalogue sound i.1 v)

pub undeclared : (g : Input) (rows : List (RelNo × Row)) (eras : Eras) (log : Log) → IsSoundCatalogue g.catalogue → HasSoundData g rows → IsPermitted g log
    → AreErasOf g log eras → KeepsUndeclared g.catalogue (history log)
undeclared g rows eras log sound fine h are = keeps_undeclared g log eras sound h are (changes_exist g rows log sound fine h)

pub keeps_laws : (g : Input) (rows : List (RelNo × Row)) (eras : Eras) (log : Log) → IsSoundCatalogue g.catalogue → HasSoundData g rows → IsPermitted g log
    → AreErasOf g log eras → KeepsEras g.catalogue eras (history log) → KeepsLaws g.catalogue eras rows g.txns (history log)
keeps_laws g rows eras log sound fine h are kept = record {
  starts = keeps_starts g log eras sound h are;
  answers = keeps_answers g rows eras log sound fine h are;
  applies = keeps_applies g log sound h;
  conditions = keeps_conditions g log eras sound h are;
  undeclared = undeclared g rows eras log sound fine h are;
  redeclares = kept;
}

-- no cycle of precedence, so there is a serial order

pub no_cycle : (g : Input) (rows : List (RelNo × Row)) (eras : Eras) (log : Log) → IsSoundCatalogue g.catalogue → HasSoundData g rows → IsPermitted g log
    → AreErasOf g log eras → KeepsEras g.catalogue eras (history log) → NumbersExist g.catalogue (history log)
    → TxnsExist (length g.txns) (history log) → HasNoCycle g.catalogue (history log)
no_cycle g rows eras log sound fine h are kept numbers txns =
    acyclic g.catalogue sound eras rows g.txns (history log) (rows_make_database g.catalogue rows fine.rows_fit fine.rows_held) fine.txns_held
    (record { are_eras = are.are_eras; rows_fit = fine.rows_fit; txns_fit = fine.txns_fit; numbers_exist = numbers; txns_exist = txns }) (keeps_laws g rows eras log sound fine h are kept)

pub has_order : (g : Input) (rows : List (RelNo × Row)) (eras : Eras) (log : Log) → IsSoundCatalogue g.catalogue → HasSoundData g rows → IsPermitted g log
    → AreErasOf g log eras → KeepsEras g.catalogue eras (history log) → NumbersExist g.catalogue (history log)
    → TxnsExist (length g.txns) (history log) → IsOrderable g.catalogue (history log)
has_order g rows eras log sound fine h are kept numbers txns =
    orderable g.catalogue sound eras rows g.txns (history log) (rows_make_database g.catalogue rows fine.rows_fit fine.rows_held) fine.txns_held
    (record { are_eras = are.are_eras; rows_fit = fine.rows_fit; txns_fit = fine.txns_fit; numbers_exist = numbers; txns_exist = txns }) (keeps_laws g rows eras log sound fine h are kept)

-- along a serial order one plain database gives the replies, and has what is left in the copies

pub replies : (g : Input) (rows : List (RelNo × Row)) (eras : Eras) (log : Log) (order : List TxnNo) → IsSoundCatalogue g.catalogue → HasSoundData g rows
    → IsPermitted g log → AreErasOf g log eras → IsSerial g.catalogue (history log) order
    → AllZip (IsReplyOf (history log)) order (run g.catalogue rows g.txns order).0
replies g rows eras log order sound fine h are serial =
    gives_replies g.catalogue sound eras are.are_eras rows g.txns (history log) fine.txns_fit fine.txns_held (keeps_starts g log eras sound h are)
    (keeps_answers g rows eras log sound fine h are) (keeps_applies g log sound h)
    (rows_make_database g.catalogue rows fine.rows_fit fine.rows_held) order serial

pub copies : (g : Input) (rows : List (RelNo × Row)) (eras : Eras) (log : Log) (order : List TxnNo) → IsSoundCatalogue g.catalogue → HasSoundData g rows
    → IsPermitted g log → AreErasOf g log eras → IsSerial g.catalogue (history log) order → (f d k : ℕ) → AreAllApplied (history log) f d k
    → rows_in_fragment g.catalogue (run g.catalogue rows g.txns order).1 f ≡ items_of g.catalogue f (copy_at g.catalogue rows (history log) d k f)
copies g rows eras log order sound fine h are serial =
    leaves_copies g.catalogue sound eras are.are_eras rows g.txns (history log) fine.txns_fit fine.txns_held (keeps_starts g log eras sound h are)
    (keeps_answers g rows eras log sound fine h are) (keeps_applies g log sound h)
    (rows_make_database g.catalogue rows fine.rows_fit fine.rows_held) order serial

pub few : (g : Input) (eras : Eras) (log : Log) → IsSoundCatalogue g.catalogue → IsPermitted g log → AreErasOf g log eras → AreFew (history log)
few g eras log sound h are = are_few g.catalogue eras g.txns (history log) (keeps_starts g log eras sound h are) (keeps_rejections g log eras sound h are)
