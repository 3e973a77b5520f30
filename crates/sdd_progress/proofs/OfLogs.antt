-- What the laws of histories say of permitted logs.
use Rattle.sdd_progress.proofs.All.{AreErasOf, AreFewRejected, AreNumbered, Eras, HasSoundData, Input, IsPermitted, IsSoundCatalogue, List, Log, MAX_TXNS, RelNo, Row, arith, attempts, few, history, keeps_rejections, keeps_starts, length, mul-le, txns_exist, ◌*◌, ◌^◌, ◌≤◌}
use Rattle.sdd_progress.proofs.AttemptsSquare.{attempts_square}
use Rattle.sdd_progress.proofs.FewRejected.{are_few_rejected}
use Rattle.sdd_progress.proofs.Rejects.{keeps_rejects}

pub few_rejected : (g : Input) (log : Log) (eras : Eras) → IsSoundCatalogue g.catalogue → IsPermitted g log → AreErasOf g log eras
    → AreFewRejected (history log)
few_rejected g log eras sound h are =
    are_few_rejected g.catalogue eras g.txns (history log) (keeps_starts g log eras sound h are) (keeps_rejections g log eras sound h are)
    (keeps_rejects g log eras sound h are)

pub few_attempts : (g : Input) (rows : List (RelNo × Row)) (log : Log) (eras : Eras) → IsSoundCatalogue g.catalogue → HasSoundData g rows
    → IsPermitted g log → AreErasOf g log eras → AreNumbered g log → length (attempts (history log)) ≤ length g.txns * length g.txns
few_attempts g rows log eras sound fine h are numbered =
    attempts_square (length g.txns) (history log) (keeps_starts g log eras sound h are).one_commit
    (txns_exist g rows eras log sound fine h are numbered) (few g eras log sound h are)

pub few_in_limit : (g : Input) (rows : List (RelNo × Row)) (log : Log) (eras : Eras) → IsSoundCatalogue g.catalogue → HasSoundData g rows
    → IsPermitted g log → AreErasOf g log eras → AreNumbered g log → length g.txns ≤ MAX_TXNS → length (attempts (history log)) ≤ 2 ^ 22
few_in_limit g rows log eras sound fine h are numbered l =
    let square = few_attempts g rows log eras sound fine h are numbered in
    let most = mul-le (length g.txns) (length g.txns) MAX_TXNS MAX_TXNS l l in
    omega arith
