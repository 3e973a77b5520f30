-- A history that keeps the laws has no cycle of precedence.
use Rattle.sdd_laws.proofs.All.{All, Catalogue, Committed, Eras, FitTogether, HasNoCycle, History, IsCommitted, IsDatabase, IsOrderable, IsSoundCatalogue, KeepsLaws, List, PutsHeld, RelNo, Row, Txn as Text, ap, base_of, by_use, database_of, eras_begun, event_at, is_some, orderly_in_eras}
use Rattle.sdd_laws.proofs.NumberedStarts.{one_start}
use Rattle.sdd_laws.proofs.Deeds.{deeds, are_starts, are_applies, are_alone, are_apart}
use Rattle.sdd_laws.proofs.Fitting.{frags_of, catalogue_of, fits, meets}
use Rattle.sdd_laws.proofs.Reading.{reads_there}
use Rattle.sdd_laws.proofs.Recorded.{snapshots_make_databases}
use Rattle.sdd_laws.proofs.Precedes.{no_cycle_of_deeds}

-- where the databases of the snapshots are databases
acyclic_by_bases : (cat : Catalogue) → IsSoundCatalogue cat → (eras : Eras) (rows : List (RelNo × Row)) (txns : List Text) (h : History)
    → FitTogether cat eras rows txns h → KeepsLaws cat eras rows txns h
    → ((t : Committed) → IsCommitted h t → IsDatabase cat (base_of cat rows h t.start)) → HasNoCycle cat h
acyclic_by_bases cat sound eras rows txns h fit laws bases =
    let are = fit.are_eras in
    let exist = fit.numbers_exist in
    let starts = are_starts cat sound eras are rows txns h laws.starts laws.answers laws.applies in
    let applies = are_applies cat sound eras are rows txns h laws.starts laws.answers laws.applies in
    let alone = are_alone cat sound eras are rows txns h laws.starts laws.answers laws.applies laws.undeclared in
    let apart = are_apart cat sound eras are rows txns h laws.starts laws.answers laws.applies laws.redeclares in
    let orderly =
    orderly_in_eras (deeds cat h) starts applies (λ p. eras_begun eras (event_at h p.submit)) apart alone cat
    (catalogue_of cat sound eras are rows txns h exist fit.txns_fit laws.starts laws.answers laws.applies laws.redeclares laws.conditions bases)
    frags_of
    (fits cat sound eras are rows txns h exist fit.txns_fit laws.starts laws.answers laws.applies laws.redeclares laws.conditions bases)
    (meets cat sound eras are rows txns h exist fit.txns_fit laws.starts laws.answers laws.applies laws.redeclares laws.conditions bases) in
    no_cycle_of_deeds cat h (λ t c. let s = laws.starts.submitted t.start c.started in (s.place, s.submitted)) orderly

pub acyclic : (cat : Catalogue) → IsSoundCatalogue cat → (eras : Eras) (rows : List (RelNo × Row)) (txns : List Text) (h : History)
    → IsDatabase cat (database_of cat rows) → All (λ (t : Text). All PutsHeld t.statements) txns
    → FitTogether cat eras rows txns h → KeepsLaws cat eras rows txns h → HasNoCycle cat h
acyclic cat sound eras rows txns h first held fit laws =
    acyclic_by_bases cat sound eras rows txns h fit laws
    (snapshots_make_databases cat sound eras fit.are_eras rows txns h fit.txns_fit held laws.starts laws.answers laws.applies first)

-- so it has a serial order
pub orderable : (cat : Catalogue) → IsSoundCatalogue cat → (eras : Eras) (rows : List (RelNo × Row)) (txns : List Text) (h : History)
    → IsDatabase cat (database_of cat rows) → All (λ (t : Text). All PutsHeld t.statements) txns
    → FitTogether cat eras rows txns h → KeepsLaws cat eras rows txns h → IsOrderable cat h
orderable cat sound eras rows txns h first held fit laws =
    let starting = laws.starts in
    record {
      orderly = acyclic cat sound eras rows txns h first held fit laws;
      numbers_exist = fit.numbers_exist;
      one_time = starting.one_time;
      one_start = one_start h starting.numbered;
      read_there = λ a f p r.
          let at = reads_there cat sound eras fit.are_eras txns h starting a f p r in
          ap is_some at.read;
      one_commit = starting.one_commit;
      started = λ n number k c.
          let s = laws.answers.commit_after n number k c in
          (s.attempt, s.started, s.txn_is, s.number_is);
      answered = λ t f d c r e.
          let s = laws.answers.answered t d c (by_use f r e) in
          record {
            place = s.place;
            is_recorded = s.answered;
            one = λ k p. laws.answers.one_answer t.start.txn t.start.number d k s.place p s.answered;
          };
    }
