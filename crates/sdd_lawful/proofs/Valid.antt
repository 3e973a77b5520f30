-- What committed transactions change are items of the catalogue, and so the database that an attempt reads is one.
use Rattle.sdd_lawful.proofs.All.{Act, All, AllByRecursion, Answer, Apply, Bases, Catalogue, Change, D, Database, Dated, Did, DmNo, Does, FitsTxn, HasSoundData, Input, IsBased, IsChange, IsEntry, IsModule, IsPermitted, IsSoundCatalogue, IsWrite, Item, List, Log, Msg, PutsHeld, Rec, Records, RelNo, Row, Running, Setting, Site, SiteLog, Some, T, Txn, U, Write, [], active, all_filtered, all_have, all_join, and_left, and_right, ap, append_assoc, applied, apply_of_head, arith, base_of, changes_in, changes_to, class_at, class_number, commit_act, commit_put_is, database_of, dated, dm_no, each_has, each_inserted, effect, effect_changes, entry_placed, eqb-true, first_row, first_rows, flat_map, fold, fragment_at, frags_asked, has_copy, head, head_put, held_by, home, home_fair, if_way, inl, inr, is_apply, is_at, item_cmp, item_cmp_exact, items_of, local_of, map, one_active, permitted_before, pipe, place_of_act, range_with_len, recursion_from_All, refl, rows_make_database, rows_of, sends_of_act, setting_of, slice_get, snapshots, snapshots_at, start_at, start_of_active, subst, suc, sym, t_commit, tm_no, to_site, true, true_or_false, txn_at, u_commit, with_item, zero, ℕ, ℤ, ◌&&◌, ◌++◌, ◌+◌, ◌-◌, ◌==◌, ◌∙◌, ◌∷◌, ◌≡◌, ◌≤◌}
use Rattle.sdd_lawful.proofs.Classes.{at_home, home_setting}
use Rattle.sdd_lawful.proofs.Commits.{text_of_head}
use Rattle.sdd_invariants.specs.dm.Copies.{classes_of}
use Rattle.sdd_invariants.specs.site_module.SiteLog as site

abbrev pub IsValid : Catalogue → Change → Type 0
IsValid cat c = IsChange cat ((c.frag.0, c.key), c.row)

abbrev pub AllValid : Catalogue → List Change → Type 0
AllValid cat changes = AllByRecursion (IsValid cat) changes

abbrev pub AllValidAt : Catalogue → Dated → Type 0
AllValidAt cat xs = AllByRecursion (λ (x : ℕ × Change). IsValid cat x.1) xs

-- lists

all_front : {A : Type 0} (P : A → Type 0) (xs ys : List A) → AllByRecursion P (xs ++ ys) → AllByRecursion P xs
all_front P [] ys h = tt
all_front P (x ∷ xs) ys h = (h.0, all_front P xs ys h.1)

all_gathered : {A B : Type 0} (P : B → Type 0) (f : A → List B) (xs : List A) → ((x : A) → AllByRecursion P (f x)) → AllByRecursion P (flat_map f xs)
all_gathered P f [] h = tt
all_gathered P f (x ∷ xs) h = all_join P (f x) (flat_map f xs) (h x) (all_gathered P f xs h)

all_dated : (cat : Catalogue) (t : ℕ) (changes : List Change) → AllValid cat changes → AllValidAt cat (map (λ x. (t, x)) changes)
all_dated cat t [] h = tt
all_dated cat t (c ∷ changes) h = (h.0, all_dated cat t changes h.1)

-- copies hold entries of the database

abbrev item_in : ℕ → ℤ → Item
item_in rel key = (rel, key)

entry_from : (cat : Catalogue) → IsSoundCatalogue cat → (f : ℕ) (c : Change) (e : Item × Row) → IsValid cat c → c.frag.0 ≡ f
    → item_in (fragment_at cat f).rel.0 c.key ≡ e.0 → c.row ≡ Some e.1 → IsEntry cat e
entry_from cat sound f c e v frag item row = grind (arith, entry_placed)

entries_left : (cat : Catalogue) → IsSoundCatalogue cat → (xs : Dated) → AllValidAt cat xs → (f : ℕ) → AllByRecursion (IsEntry cat) (items_of cat xs f)
entries_left cat sound xs all f =
    all_have (IsEntry cat) (items_of cat xs f) (λ e h. let g = held_by cat f xs e h in
    entry_from cat sound f g.0.1 e (each_has (λ (x : ℕ × Change). IsValid cat x.1) xs g.0 all g.1.there) g.1.frag g.1.item g.1.row)

-- the changes that a data module has applied, where those of each WRITE that it applied are valid

abbrev pub AppliesValid : Catalogue → SiteLog → Type 0
AppliesValid cat l =
    (c : ℕ) (r : Rec) (sends : List (Site × Msg)) (later before : SiteLog) → l ≡ later ++ Did (Records c r sends) ∷ before → is_apply r ≡ true
    → AllValidAt cat (changes_in (head (pipe c before)))

less_valid : (cat : Catalogue) (e : site.Entry) (l : SiteLog) → AppliesValid cat (e ∷ l) → AppliesValid cat l
less_valid cat e l h = λ c r sends later before is a. h c r sends (e ∷ later) before (ap (λ k. e ∷ k) is) a

applied_valid : (cat : Catalogue) (c : ℕ) (l : SiteLog) → AppliesValid cat l → AllValidAt cat (applied c l)
applied_valid cat c [] h = tt
applied_valid cat c (Did (Records k r sends) ∷ l) h =
    let i = applied_valid cat c l (less_valid cat (Did (Records k r sends)) l h) in
    elim (true_or_false ((k == c) && is_apply r)) [
      | inl p ↦ (let e : k ≡ c = eqb-true k c (and_left (k == c) (is_apply r) p) in
          let now = h k r sends [] l refl (and_right (k == c) (is_apply r) p) in
          rw p (all_join _ (applied c l) (changes_in (head (pipe c l))) i (subst (λ j. AllValidAt cat (changes_in (head (pipe j l)))) e now)))
      | inr p ↦ rw p i
    ]
applied_valid cat c (x ∷ l) h = applied_valid cat c l (less_valid cat x l h)

-- the rows with which a module begins

first_valid : (cat : Catalogue) (es : Database) → AllByRecursion (IsEntry cat) es → AllValidAt cat (map (first_row cat) es)
first_valid cat [] h = tt
first_valid cat (e ∷ es) h = (record { rel = e.0.0; there = h.0.relation; held = h.0.key_held; frag = refl; row = (h.0.row, h.0.key) }, first_valid cat es h.1)

pub dated_valid : (s : Setting) (l : SiteLog) → AllByRecursion (IsEntry s.catalogue) (database_of s.catalogue s.rows) → AppliesValid s.catalogue l
    → AllValidAt s.catalogue (dated s l)
dated_valid s l first h =
    all_join _ (first_rows s) (flat_map (λ c. applied c l) (classes_of s)) (first_valid s.catalogue (database_of s.catalogue s.rows) first)
    (all_gathered _ (λ c. applied c l) (classes_of s) (λ c. applied_valid s.catalogue c l h))

-- what an attempt reads at a module

snapshots_valid : (s : Setting) → IsSoundCatalogue s.catalogue → (ts : ℕ) (l : SiteLog) → AllByRecursion (IsEntry s.catalogue) (database_of s.catalogue s.rows)
    → AppliesValid s.catalogue l → AllByRecursion (IsEntry s.catalogue) (snapshots s ts l)
snapshots_valid s sound ts [] first h = tt
snapshots_valid s sound ts (Did (Records k (Answer txn attempt dm) sends) ∷ l) first h =
    let less = less_valid s.catalogue (Did (Records k (Answer txn attempt dm) sends)) l h in
    if_way (AllByRecursion (IsEntry s.catalogue)) (is_at ts (head (pipe k l))) (flat_map (items_of s.catalogue (dated s l)) (frags_asked (head (pipe k l))))
    (snapshots s ts l)
    (all_gathered (IsEntry s.catalogue) (items_of s.catalogue (dated s l)) (frags_asked (head (pipe k l)))
    (λ f. entries_left s.catalogue sound (dated s l) (dated_valid s l first less) f))
    (snapshots_valid s sound ts l first less)
snapshots_valid s sound ts (x ∷ l) first h = snapshots_valid s sound ts l first (less_valid s.catalogue x l h)

put_together : (cat : Catalogue) (start es : Database) → AllByRecursion (IsEntry cat) start → AllByRecursion (IsEntry cat) es
    → AllByRecursion (IsEntry cat) (fold with_item start es)
put_together cat start [] h k = h
put_together cat start (e ∷ es) h k = put_together cat (with_item start e) es (each_inserted item_cmp item_cmp_exact (IsEntry cat) start e.0 e.1 h k.0) k.1

-- a Commit's changes, in the whole log

abbrev pub CommitsValid : Input → Log → Type 0
CommitsValid g log =
    (c : ℕ) (bases : Bases) (a : Running) (later before : Log) → log ≡ later ++ Does (home g.catalogue c) (commit_act g.catalogue bases c a) ∷ before
    → active (home_setting g c) c (at_home g c before) ≡ Some a → AllValid g.catalogue (effect g.catalogue (bases a.ts) a.text).changes

abbrev pub AllBegin : Input → Type 0
AllBegin g = (d : ℕ) → IsModule g.catalogue d → AllByRecursion (IsEntry g.catalogue) (database_of g.catalogue (rows_of g (D (dm_no d))))

-- what a data module applies is a WRITE of such a Commit
pub applies_valid : (g : Input) (d : ℕ) (log : Log) → IsPermitted g log → CommitsValid g log → AppliesValid g.catalogue (local_of g (D (dm_no d)) log)
applies_valid g d log h valid c (Apply txn of dm ts) sends later before is a =
    let at : DmNo = dm_no d in
    let act : Act = Records c (Apply txn of dm ts) sends in
    let p = place_of_act g (D at) log later act before is in
    let now : IsPermitted g (Does (D at) act ∷ p.rest) = permitted_before g p.later (Does (D at) act ∷ p.rest) (subst (IsPermitted g) p.is h) in
    let w = apply_of_head g p.rest at c txn of dm ts sends now in
    let m : Msg = Write ts of txn w.0 in
    let put = head_put g c at p.rest m now.1 w.1 in
    let r : IsWrite (home_setting g c) (at_home g c put.before) put.act c ts.0 txn.0 = subst
    (λ j. IsWrite (home_setting g c) (at_home g c put.before) put.act j ts.0 txn.0) (class_number of.0 c ts.0 put.of_class) put.by in
    let sent = subst (λ y. slice_get (to_site (D at) (sends_of_act y)) put.place ≡ Some m) r.act_is put.there in
    let same = commit_put_is (home_setting g c) c r.bases r.attempt at put.place m sent in
    let whole : log ≡ (p.later ++ Does (D at) act ∷ put.later) ++ Does (home g.catalogue c) (commit_act g.catalogue r.bases c r.attempt) ∷ put.before =
    p.is ∙ ap (λ k. p.later ++ Does (D at) act ∷ k) (put.is ∙ ap (λ y. put.later ++ Does (home g.catalogue c) y ∷ put.before) r.act_is)
    ∙ sym (append_assoc p.later (Does (D at) act ∷ put.later) (Does (home g.catalogue c) (commit_act g.catalogue r.bases c r.attempt) ∷ put.before)) in
    let v = valid c r.bases r.attempt (p.later ++ Does (D at) act ∷ put.later) put.before whole r.active_is in
    let some = all_filtered (IsValid g.catalogue) (λ x. has_copy g.catalogue d x.frag.0) (effect g.catalogue (r.bases r.attempt.ts) r.attempt.text).changes v in
    let sent_valid : AllValidAt g.catalogue (changes_in (Some m)) = subst (λ y. AllValidAt g.catalogue (changes_in (Some y))) (sym same.0)
    (all_dated g.catalogue r.attempt.ts (changes_to g r.bases r.attempt at) some) in
    subst (λ o. AllValidAt g.catalogue (changes_in o)) (sym (subst (λ k. head (pipe c k) ≡ Some m) p.local_is w.1)) sent_valid
applies_valid g d log h valid c r sends later before is a = cc

-- at the modules from a on
all_at_modules : (g : Input) (log : Log) (ts : ℕ) → IsSoundCatalogue g.catalogue → IsPermitted g log → AllBegin g → CommitsValid g log
    → (a n : ℕ) → 1 ≤ a → a + n ≤ suc g.catalogue.dms → AllByRecursion (IsEntry g.catalogue) (flat_map (snapshots_at g log ts) (range_with_len a n))
all_at_modules g log ts sound h begin valid a zero lo hi = tt
all_at_modules g log ts sound h begin valid a (suc n) lo hi = grind (arith, all_join, flat_map, range_with_len, snapshots_valid, applies_valid, (all_at_modules g log ts sound h begin valid (a + 1) n (omega arith) (omega arith)))

-- so the database that an attempt reads has entries of the catalogue alone
pub base_valid : (g : Input) (log : Log) (ts : ℕ) → IsSoundCatalogue g.catalogue → IsPermitted g log → AllBegin g → CommitsValid g log
    → AllByRecursion (IsEntry g.catalogue) (base_of g log ts)
base_valid g log ts sound h begin valid = grind (arith, put_together, all_at_modules)

-- and what the transaction changes on it are items of the catalogue

abbrev pub IsRunSite : Site → Type 0
IsRunSite (D d) = ⊥
IsRunSite _ = Unit {0}

pub home_runs : (cat : Catalogue) (c : ℕ) → IsRunSite (home cat c)
home_runs cat c = if_way IsRunSite (c == 0) U (T (tm_no (class_at cat c).tm.0)) tt tt

pub all_slice : {A : Type 0} (P : A → Type 0) (xs : List A) (k : ℕ) (x : A) → AllByRecursion P xs → slice_get xs k ≡ Some x → P x
all_slice P [] k x h e = cc
all_slice {A = A} P (y ∷ xs) zero x h e = let p : ◌≡◌ {A = A} y x = cc in subst P p h.0
all_slice P (y ∷ xs) (suc k) x h e = all_slice P xs k x h.1 e

pub all_begin : (g : Input) (rows : List (RelNo × Row)) → HasSoundData g rows → AllBegin g
all_begin g rows fine d m =
    subst (λ r. AllByRecursion (IsEntry g.catalogue) (database_of g.catalogue r)) (sym (fine.alike d m))
    (recursion_from_All (IsEntry g.catalogue) (database_of g.catalogue rows) (rows_make_database g.catalogue rows fine.rows_fit fine.rows_held).entries)

-- an active attempt has the text that was submitted
text_of_active : (g : Input) (c : ℕ) (log : Log) (a : Running) → IsPermitted g log → active (home_setting g c) c (at_home g c log) ≡ Some a
    → txn_at g a.txn ≡ Some a.text
text_of_active g c log a h e =
    let st = start_of_active (home_setting g c) c (at_home g c log) a (home_fair g c log h) e in
    let p = place_of_act g (home g.catalogue c) log st.later (start_at (home_setting g c) c st.before st.queued) st.before st.is in
    let hp = permitted_before g p.later (Does (home g.catalogue c) (start_at (home_setting g c) c st.before st.queued) ∷ p.rest)
    (subst (IsPermitted g) p.is h) in
    grind (arith, text_of_head, head)

pub base_is : (g : Input) (at : Site) (log : Log) (act : Act) → IsPermitted g (Does at act ∷ log) → IsRunSite at
    → IsBased (setting_of g at) (base_of g log) (local_of g at log) act
base_is g at log act h s = grind (arith, u_commit, t_commit)

commit_valid : (g : Input) (rows : List (RelNo × Row)) (c : ℕ) (bases : Bases) (a : Running) (log : Log) → IsSoundCatalogue g.catalogue → HasSoundData g rows
    → IsPermitted g (Does (home g.catalogue c) (commit_act g.catalogue bases c a) ∷ log)
    → active (home_setting g c) c (at_home g c log) ≡ Some a → CommitsValid g log → AllValid g.catalogue (effect g.catalogue (bases a.ts) a.text).changes
commit_valid g rows c bases a log sound fine h act valid =
    let based = base_is g (home g.catalogue c) log (commit_act g.catalogue bases c a) h (home_runs g.catalogue c) in
    let same : based.0 ≡ a = one_active (home_setting g c) c (at_home g c log) based.0 a based.1 act in
    let text : txn_at g a.txn ≡ Some a.text = text_of_active g c log a h.1 act in
    let fits = all_slice (FitsTxn g.catalogue) g.txns (a.txn - 1) a.text (recursion_from_All (FitsTxn g.catalogue) g.txns fine.txns_fit) text in
    let held = all_slice (λ (t : Txn). All PutsHeld t.statements) g.txns (a.txn - 1) a.text
    (recursion_from_All (λ (t : Txn). All PutsHeld t.statements) g.txns fine.txns_held) text in
    let entries = base_valid g log a.ts sound h.1 (all_begin g rows fine) valid in
    subst (AllValid g.catalogue) (sym (based.3 ∙ ap (λ (y : Running). (effect g.catalogue (base_of g log y.ts) y.text).changes) same))
    (grind (arith, effect_changes, base_of, recursion_from_All))

pub commits_valid : (g : Input) (rows : List (RelNo × Row)) (log : Log) → IsSoundCatalogue g.catalogue → HasSoundData g rows → IsPermitted g log → CommitsValid g log
commits_valid g rows [] sound fine h c bases a [] before is act = cc
commits_valid g rows [] sound fine h c bases a (x ∷ later) before is act = cc
commits_valid g rows (e ∷ log) sound fine h c bases a [] before is act =
    let p : e ≡ Does (home g.catalogue c) (commit_act g.catalogue bases c a) = cc in
    let q : log ≡ before = cc in
    let now : IsPermitted g (Does (home g.catalogue c) (commit_act g.catalogue bases c a) ∷ before) = subst
    (λ l. IsPermitted g (Does (home g.catalogue c) (commit_act g.catalogue bases c a) ∷ l)) q (subst (λ y. IsPermitted g (y ∷ log)) p h) in
    commit_valid g rows c bases a before sound fine now act (subst (CommitsValid g) q (commits_valid g rows log sound fine h.1))
commits_valid g rows (e ∷ log) sound fine h c bases a (x ∷ later) before is act =
    let q : log ≡ later ++ Does (home g.catalogue c) (commit_act g.catalogue bases c a) ∷ before = cc in
    commits_valid g rows log sound fine h.1 c bases a later before q act
