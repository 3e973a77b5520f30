-- Transactions that read and write what their classes may fit the catalogue.
use Rattle.sdd_snapshot_replay.proofs.All.{All, All-contains, Bool, Catalogue, FitsSystem, FragNo, IsClassOf, IsFragmentOf, IsOfClass, IsWhole, Log, Txn, ap, arith, at_member, class_at, cond, declared, eqb-true, length, list_any, member_passes, ne_eqb, read_set, read_set_there, recursion_from_All, run_of, sym, system_of, true, writes, ℕ, ◌-◌, ◌==◌, ◌∙◌, ◌≡◌, ◌≤◌}

-- a fragment that a class writes is there
pub written_there : (cat : Catalogue) → IsWhole cat → (class f : ℕ) → IsClassOf cat class → writes cat class f ≡ true → IsFragmentOf cat f
written_there cat whole class f is e =
    let from = is.from in
    let to = is.to in
    let passes : list_any (λ (w : FragNo). w.0 == f) (class_at cat class).writes ≡ true =
    sym (ap (λ b. cond {A = Bool} b true (list_any (λ (w : FragNo). w.0 == f) (class_at cat class).writes)) (ne_eqb class 0 (λ z. absurd (omega arith)))) ∙ e in
    let x = member_passes (λ (w : FragNo). w.0 == f) (class_at cat class).writes passes in
    let n : ℕ = length cat.fragments in
    let all : All (λ (w : FragNo). (1 ≤ w.0) × (w.0 ≤ n)) (class_at cat class).writes = (whole.classes (class - 1) _ (omega arith)).writes in
    let within = All-contains (λ (w : FragNo). (1 ≤ w.0) × (w.0 ≤ n)) (class_at cat class).writes x.0 all x.1 in
    let same = eqb-true (x.0).0 f x.2 in
    let a = within.0 in
    let b = within.1 in
    record { from = omega arith; to = omega arith }

module _ (cat : Catalogue) (whole : IsWhole cat) (txns : ℕ → Txn) (class : ℕ → ℕ) (of : (n : ℕ) → IsOfClass cat (txns n) (class n)) (log : Log) where
  pub fits : FitsSystem cat (declared (system_of (run_of cat txns class log)))
  fits =
      record {
        class = λ x. (of x.txn.no).class_is;
        fragment_read = λ x f r.
            let There : ℕ → Type 0 = λ g. (1 ≤ g) × (g ≤ length cat.fragments) in
            let there : (1 ≤ f) × (f ≤ length cat.fragments) =
            at_member There (read_set cat (txns x.txn.no)) f (recursion_from_All There (read_set cat (txns x.txn.no)) (read_set_there cat (txns x.txn.no))) r in
            record { from = there.0; to = there.1 };
        fragment_changed = λ x f c. written_there cat whole (class x.txn.no) f (of x.txn.no).class_is ((of x.txn.no).writes f c);
        reads = λ x f r. (of x.txn.no).reads f r;
        changes = λ x f c. (of x.txn.no).writes f c;
      }
