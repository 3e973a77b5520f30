-- Rows and transactions of a workload that a catalogue allows.
use Rattle.std.specs.List.{All}
use Rattle.sdd_script.specs.All.{Catalogue, FitsStart, FitsTxn, IsValid, IsValidRow, IsValidTxn}
use Rattle.sdd_script.specs.declared.workload.Workload.{Workload}
use Rattle.std.proofs.lemmas.List.Elements.{All-weaker}

-- its rows may be those of a database at the start
pub rows_fit : (cat : Catalogue) (w : Workload) → IsValid cat w → All (FitsStart cat) w.rows
rows_fit cat w valid = All-weaker (IsValidRow cat) (FitsStart cat) (λ r of. of.fits) w.rows valid.rows

-- its transactions fit
pub txns_fit : (cat : Catalogue) (w : Workload) → IsValid cat w → All (FitsTxn cat) w.txns
txns_fit cat w valid = All-weaker (IsValidTxn cat) (FitsTxn cat) (λ t of. of.fits) w.txns valid.txns
