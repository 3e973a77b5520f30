-- What the laws say of the committed transactions' texts, results and snapshots, so far as replay needs it.
use Rattle.sdd_laws.proofs.All.{All, All-ascending, All-contains, All-nil, Answer, AreEras, ArePieces, AreRecorded, Attempt, Bool, Catalogue, Committed, Contains, Contains-here, Contains-later, Eras, FitsTxn, History, IsCommitted, IsDatabase, IsOfSubmit, IsRecordAt, IsSoundCatalogue, Item, KeepsAnswers, KeepsApplies, KeepsStarts, Ledger, List, PutsHeld, Reads, Rec, RelNo, Row, Txn as Text, [], all_at, answer_at, answer_passes, answer_place, any_from, ap, arith, ascending, base_of, by_use, cases_Bool, comes_before, committed, cond, contains, contents, database_of, dm_no, effect, facts, false, filter, first_rows, flat_map, fragments_in, from_committed, in_committed, inl, inr, is_answer, is_answered, is_applied, is_apply, items_of, list_any, module_of, not, or_cases, or_right, position_or_len, read_set, reads, refl, snapshot as snapshot_by, subst, suc, sym, take, tm_no, true, txn_at, txn_no, unwrap_or, was_seen, ℕ, ◌&&◌, ◌++◌, ◌+◌, ◌-◌, ◌<◌, ◌||◌, ◌∙◌, ◌∷◌, ◌≡◌}
use Rattle.sdd_laws.proofs.Members.{Contains-flat_map, Contains-from_flat_map}
use Rattle.sdd_laws.proofs.Snapshots.{bases_are}
use Rattle.sdd_laws.proofs.NumberedStarts.{one_start}
use Rattle.sdd_laws.proofs.Deeds.{deeds, are_starts, are_applies, same_txn, apply_after}
use Rattle.sdd_laws.proofs.Fitting.{each_here}
use Rattle.sdd_laws.proofs.Precedes.{seen_is, at_place}
use Rattle.sdd_laws.proofs.Reading.{reads_there}
use Rattle.sdd_acyclic.specs.Deeds.{Txn}
use Rattle.sdd_laws.specs.Snapshots.{dated, snapshot}

-- what stands before the only record that passes a test

-- no two records pass
abbrev OneAtMost : (Rec → Bool) → History → Type 0
OneAtMost q h = (j k : ℕ) (r s : Rec) → IsRecordAt h j r → IsRecordAt h k s → q r ≡ true → q s ≡ true → j ≡ k

passing_place : (q : Rec → Bool) (h : History) → list_any (λ e. q e.1) h ≡ true → (k : ℕ) × (r : Rec) × IsRecordAt h k r × (q r ≡ true)
passing_place q [] e = absurd (cc)
passing_place q (x ∷ h) e =
    elim (or_cases (q x.1) (list_any (λ y. q y.1) h) e) [
      | inl t ↦ (0, x.1, refl, t)
      | inr t ↦ let r = passing_place q h t in (suc r.0, r.1, r.2, r.3)
    ]

none_later : (q : Rec → Bool) (x : ℕ × Rec) (h : History) → OneAtMost q (x ∷ h) → q x.1 ≡ true → list_any (λ e. q e.1) h ≡ false
none_later q x h one t =
    elim (cases_Bool (list_any (λ e. q e.1) h)) [
      | inl e ↦ let r = passing_place q h e in let z = one 0 (suc r.0) x.1 r.1 refl r.2 t r.3 in absurd (omega arith)
      | inr f ↦ f
    ]

and_none : (b : Bool) → ((b && false) || false) ≡ false
and_none true = refl
and_none false = refl

none_before : (p q : Rec → Bool) (h : History) → list_any (λ e. q e.1) h ≡ false → comes_before p q h ≡ false
none_before p q [] f = refl
none_before p q (x ∷ h) f =
    elim (cases_Bool (list_any (λ e. q e.1) h)) [
      | inl t ↦ let wrong : false ≡ true = sym f ∙ or_right (q x.1) (list_any (λ e. q e.1) h) t in absurd (cc)
      | inr g ↦
          ap (λ b. (p x.1 && b) || comes_before p q h) g
          ∙ ap (λ b. (p x.1 && false) || b) (none_before p q h g)
          ∙ and_none (p x.1)
    ]

later_one : (q : Rec → Bool) (x : ℕ × Rec) (h : History) → OneAtMost q (x ∷ h) → OneAtMost q h
later_one q x h one j k r s a b t u = let e = one (suc j) (suc k) r s a b t u in omega arith

before_the_one : (p q : Rec → Bool) (h : History) → OneAtMost q h → list_any (λ e. q e.1) h ≡ true
    → list_any (λ e. p e.1) (take (position_or_len (λ e. q e.1) h) h) ≡ comes_before p q h
before_the_one p q [] one some = absurd (cc)
before_the_one p q (x ∷ h) one some =
    elim (q x.1) as (λ b. q x.1 ≡ b → list_any (λ e. p e.1) (take (cond (not b) (1 + position_or_len (λ e. q e.1) h) 0) (x ∷ h)) ≡ comes_before p q (x ∷ h)) [
      | true ↦ λ t.
          let none = none_later q x h one t in
          sym (ap (λ b. (p x.1 && b) || comes_before p q h) none ∙ ap (λ b. (p x.1 && false) || b) (none_before p q h none) ∙ and_none (p x.1))
      | false ↦ λ f.
          let there : list_any (λ e. q e.1) h ≡ true = ap (λ b. b || list_any (λ e. q e.1) h) (sym f) ∙ some in
          let rest = before_the_one p q h (later_one q x h one) there in
          let next : 1 + position_or_len (λ e. q e.1) h ≡ suc (position_or_len (λ e. q e.1) h) = omega arith in
          ap (λ n. list_any (λ e. p e.1) (take n (x ∷ h))) next
          ∙ ap (λ b. p x.1 || b) rest
          ∙ sym (ap (λ b. (p x.1 && b) || comes_before p q h) there ∙ and_all (p x.1) (comes_before p q h))
    ] refl
  where
    and_all : (b c : Bool) → ((b && true) || c) ≡ (b || c)
    and_all true c = refl
    and_all false c = refl

-- tests that agree on the members filter alike
same_filter : {A : Type 0} (p q : A → Bool) (xs : List A) → ((x : A) → Contains xs x → p x ≡ q x) → filter p xs ≡ filter q xs
same_filter p q [] same = refl
same_filter p q (x ∷ xs) same =
    ap (λ b. cond b (x ∷ filter p xs) (filter p xs)) (same x (Contains-here x xs))
    ∙ ap (λ z. cond (q x) (x ∷ z) z) (same_filter p q xs (λ y m. same y (Contains-later x xs y m)))

-- the ledger of a history

abbrev no_text : Text
no_text = record { name = []; tm = tm_no 0; statements = [] }

abbrev pub ledger : Catalogue → List Text → History → Ledger Committed
ledger cat txns h =
    record {
      txn = λ t. unwrap_or (txn_at txns t.start.txn) no_text;
      ts = λ t. t.start.ts;
      result = λ t. record { reply = t.reply; changes = t.changes };
      saw = λ t f u. was_seen h u (module_of cat t.start.class f) t;
    }

-- the entries of a transaction's snapshots
abbrev pub pieces : Catalogue → List (RelNo × Row) → History → Committed → List (Item × Row)
pieces cat rows h t = flat_map (λ f. items_of cat f (snapshot cat rows h t.start f)) (ascending (fragments_in t.start.uses))

pub from_ascending : (xs : List ℕ) (n : ℕ) → Contains (ascending xs) n → contains xs n ≡ true
from_ascending xs n m =
    All-contains (λ k. contains xs k ≡ true) (ascending xs) n
    (All-ascending (λ k. contains xs k ≡ true) [] xs (All-nil (λ k. contains xs k ≡ true)) (each_here xs xs (λ k c. c))) m

module _ (cat : Catalogue) (sound : IsSoundCatalogue cat) (eras : Eras) (are : AreEras cat eras) (rows : List (RelNo × Row)) (txns : List Text) (h : History)
    (fit : All (FitsTxn cat) txns) (held : All (λ (t : Text). All PutsHeld t.statements) txns)
    (starting : KeepsStarts cat eras txns h) (answering : KeepsAnswers cat rows txns h) (applying : KeepsApplies cat h)
  where
    pub is_committed : (t : Committed) → Contains (committed h) t → IsCommitted h t
    is_committed t m = from_committed h t m

    abbrev pub submit_of : (t : Committed) → IsCommitted h t → IsOfSubmit cat eras txns h t.start
    submit_of t c = starting.submitted t.start c.started

    -- its text is that of its Submit
    pub text_is : (t : Committed) (c : IsCommitted h t) → (ledger cat txns h).txn t ≡ (submit_of t c).txn
    text_is t c = ap (λ o. unwrap_or o no_text) (submit_of t c).txn_is

    read_sets : (t : Committed) → IsCommitted h t → ascending (fragments_in t.start.uses) ≡ read_set cat ((ledger cat txns h).txn t)
    read_sets t c = ap (λ u. ascending (fragments_in u)) (submit_of t c).uses_are ∙ ap (read_set cat) (sym (text_is t c))

    -- what it reads by its text it reads by its Start
    pub reads_by_start : (t : Committed) → IsCommitted h t → (f : ℕ) → Reads cat (ledger cat txns h) t f → reads t.start f ≡ true
    reads_by_start t c f m = grind (arith, from_ascending)

    abbrev pub placed_of : (t : Committed) → IsCommitted h t → Txn (deeds cat h)
    placed_of t c = let s = submit_of t c in at_place cat h t s.place c s.submitted

    -- none saw itself, and one saw only what was committed before it

    not_itself : (t : Committed) → IsCommitted h t → (f : ℕ) → reads t.start f ≡ true
        → was_seen h t (module_of cat t.start.class f) t ≡ false
    not_itself t c f r =
        let x = placed_of t c in
        let starts = are_starts cat sound eras are rows txns h starting answering applying in
        let applies = are_applies cat sound eras are rows txns h starting answering applying in
        let d = module_of cat t.start.class f in
        elim (cases_Bool (was_seen h t d t)) [
          | inl seen ↦
              absurd ((facts (deeds cat h) starts applies).own_later x x f refl (omega arith) r (seen_is cat h x.no x.no d seen))
          | inr unseen ↦ unseen
        ]

    earlier : (t u : Committed) → IsCommitted h t → IsCommitted h u → (f : ℕ) → reads t.start f ≡ true
        → was_seen h u (module_of cat t.start.class f) t ≡ true → u.place < t.place
    earlier t u c b f r e =
        let x = placed_of t c in
        let y = placed_of u b in
        let d = module_of cat t.start.class f in
        let starts = are_starts cat sound eras are rows txns h starting answering applying in
        let applies = are_applies cat sound eras are rows txns h starting answering applying in
        let seen = seen_is cat h y.no x.no d e in
        let one = apply_after cat sound eras are rows txns h starting answering applying u d seen.applied.place b seen.applied.applied in
        let two = seen.applied.before in
        let three = answer_at (deeds cat h) starts applies x f seen.answer r seen.answered in
        omega arith

    -- the snapshots

    one_answer : (a : Attempt) (d : ℕ) → OneAtMost (is_answer a.txn a.number d) h
    one_answer a d j k r s p q t u = grind (arith, is_answered)

    some_answer : (t : Committed) → IsCommitted h t → (f : ℕ) → reads t.start f ≡ true
        → list_any (λ e. is_answer t.start.txn t.start.number (module_of cat t.start.class f) e.1) h ≡ true
    some_answer t c f r =
        let d = module_of cat t.start.class f in
        let at = reads_there cat sound eras are txns h starting t.start f c.started r in
        let answer = answering.answered t d c (by_use f r at.read) in
        any_from (is_answer t.start.txn t.start.number d) h answer.place (Answer (txn_no t.start.txn) t.start.number (dm_no d))
        answer.answered (answer_passes t.start.txn t.start.number d)

    -- what was applied before the Answer was seen
    applied_is_seen : (t : Committed) → IsCommitted h t → (f : ℕ) → reads t.start f ≡ true → (u : Committed)
        → is_applied h (module_of cat t.start.class f) (answer_place h t.start (module_of cat t.start.class f)) u.start.txn
        ≡ was_seen h u (module_of cat t.start.class f) t
    applied_is_seen t c f r u =
        let d = module_of cat t.start.class f in
        before_the_one (is_apply u.start.txn d) (is_answer t.start.txn t.start.number d) h (one_answer t.start d) (some_answer t c f r)

    pub snapshot_is : (t : Committed) → IsCommitted h t → (f : ℕ) → reads t.start f ≡ true
        → items_of cat f (snapshot cat rows h t.start f) ≡ snapshot_by cat (database_of cat rows) (ledger cat txns h) (committed h) t f
    snapshot_is t c f r =
        let d = module_of cat t.start.class f in
        let k = answer_place h t.start d in
        ap (λ txns. items_of cat f (contents f (first_rows cat rows ++ flat_map dated txns)))
        (same_filter (λ u. is_applied h d k u.start.txn) (λ u. was_seen h u d t) (committed h) (λ u m. applied_is_seen t c f r u))

    are_pieces : ArePieces cat (database_of cat rows) (ledger cat txns h) (committed h) (pieces cat rows h)
    are_pieces =
        record {
          each = λ t m f e r there.
              let c = is_committed t m in
              let by_start = reads_by_start t c f r in
              Contains-flat_map (λ g. items_of cat g (snapshot cat rows h t.start g)) (ascending (fragments_in t.start.uses)) f e
              (subst (λ z. Contains z f) (sym (read_sets t c)) r)
              (subst (λ z. Contains z e) (sym (snapshot_is t c f by_start)) there);
          of = λ t m e there.
              let c = is_committed t m in
              let g = Contains-from_flat_map (λ g. items_of cat g (snapshot cat rows h t.start g)) (ascending (fragments_in t.start.uses)) e there in
              let r : Reads cat (ledger cat txns h) t g.0 = subst (λ z. Contains z g.0) (read_sets t c) g.1 in
              (g.0, r, subst (λ z. Contains z e) (snapshot_is t c g.0 (reads_by_start t c g.0 r)) g.2);
        }

    text_there : (P : Text → Type 0) → All P txns → (t : Committed) → IsCommitted h t → P ((ledger cat txns h).txn t)
    text_there P all t c =
        let s = submit_of t c in
        subst P (sym (text_is t c)) (all_at P txns (t.start.txn - 1) s.txn all s.txn_is)

    one_result : (t u : Committed) → IsCommitted h t → IsCommitted h u → t.start.ts ≡ u.start.ts
        → (ledger cat txns h).result t ≡ (ledger cat txns h).result u
    one_result t u c b e = grind (arith, same_txn)

    pub are_recorded : AreRecorded cat (database_of cat rows) (ledger cat txns h) (committed h)
    are_recorded =
        record {
          fits = λ t m. text_there (FitsTxn cat) fit t (is_committed t m);
          puts_held = λ t m. text_there (λ (z : Text). All PutsHeld z.statements) held t (is_committed t m);
          time = λ t m. starting.time t.start (is_committed t m).started;
          one_time = λ t u m n e. one_result t u (is_committed t m) (is_committed u n) e;
          not_itself = λ t m f r. let c = is_committed t m in not_itself t c f (reads_by_start t c f r);
          place = λ t. t.place;
          earlier = λ t u m n f r e.
              let c = is_committed t m in
              earlier t u c (is_committed u n) f (reads_by_start t c f r) e;
          pieces = pieces cat rows h;
          are_pieces = are_pieces;
          effect_is = λ t m.
              let c = is_committed t m in
              let s = submit_of t c in
              ap (effect cat (base_of cat rows h t.start)) (text_is t c) ∙ answering.effect_is t s.txn c s.txn_is;
        }

    -- so the databases of the snapshots are databases
    pub snapshots_make_databases : IsDatabase cat (database_of cat rows) → (t : Committed) → IsCommitted h t
        → IsDatabase cat (base_of cat rows h t.start)
    unfolding are_recorded
    snapshots_make_databases first t c =
        bases_are cat sound (database_of cat rows) first (ledger cat txns h) (committed h) are_recorded t
        (in_committed h (one_start h starting.numbered) t c)
