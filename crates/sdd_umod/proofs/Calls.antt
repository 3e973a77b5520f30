-- What a call of the module does, of every log for which the module stands.
use Rattle.sdd_umod.proofs.All.{Bases, Bool, Catalogue, Does, DoesMore, FitsSubmit, Handed, IsAmid, IsKept, IsTrue, IsWhole, Kept, List, Log, Msg, None, Notes, Option, Rec, Release, Represents, Setting, Site, State, Submit, Submits, TmCounts, Txn, TxnNo, U, Works, [], all_noted, ap, arith, does_from, find, first_state, fits, if◌then◌else◌, is_kept_on_hold, map, next, no_counts, nothing_noted, numbers_to, option_map, or_else, records_of, refl, state_given, state_handed, state_of, step_of, subst, sym, tm_of, ℕ, ◌<◌, ◌==◌, ◌^◌, ◌∙◌, ◌∷◌, ◌≡◌}
use Rattle.sdd_umod.proofs.Handing.{amid_handed}
use Rattle.sdd_umod.proofs.Giving.{amid_given}
use Rattle.sdd_umod.proofs.Dues.{nothing_due}
use Rattle.sdd_attempt.specs.catalog.Rules as catalogues

represents_now : (new : Kept State) (s : Setting) (bases : Bases) (log : Log) → IsTrue new.live → step_of new.value ≡ None
    → IsAmid s bases new.value log → Represents new s log
represents_now new s bases log live settled amid = record { live = live; setting = amid.setting; sound = amid.sound; state_is = amid.state_is; settled = settled }

-- from what the module keeps once the entry is taken in
call_does : (taken : State) (new : Kept State) (old all : Notes) (s : Setting) (bases : Bases) (start : Log)
    → IsTrue new.live → Works taken new.value old all → step_of new.value ≡ None → IsAmid s bases taken start
    → DoesMore (next s bases) start old all (Represents new s)
call_does taken new old all s bases start live works settled amid =
    let r = works s bases start amid in
    let represents = represents_now new s bases r.view live settled r.shown in
    does_from (λ l. l) (next s bases) (λ e l. e ∷ l) (λ e log. refl) start start r.view old all refl r.made
    (nothing_due s bases new.value r.view r.shown.setting.whole r.shown.state_is settled) (Represents new s) (λ log e. subst (Represents new s) (sym e) represents)

pub kept_of : (k : Kept State) (s : Setting) (log : Log) → Represents k s log → IsKept s log k.value
kept_of k s log st = record { setting = st.setting; sound = st.sound; state_is = st.state_is }

-- a message

pub amid_for : (k : Kept State) (s : Setting) (bases : Bases) (log : Log) (from : Site) (m : Msg) (taken : State)
    → Represents k s log → fits s bases log from m → taken ≡ state_handed from m k.value → IsAmid s bases taken (Handed from m ∷ log)
amid_for k s bases log from m taken st fit t = grind (arith, amid_handed, step_of)

pub take_does : (from : Site) (m : Msg) (old new : Kept State) (taken : State) (all : Notes)
    (records : List Rec) (sends : List (Site × Msg)) → IsTrue new.live → taken ≡ state_handed from m old.value
    → Works taken new.value nothing_noted all → step_of new.value ≡ None
    → records ≡ all.recs → sends ≡ all.out → (s : Setting) (bases : Bases) (log : Log) → Represents old s log
    → fits s bases log from m → Does (next s bases) (Handed from m ∷ log) records sends (Represents new s)
take_does from m old new taken all records sends live t works settled e f s bases log st fit =
    all_noted (next s bases) (Handed from m ∷ log) all records sends (Represents new s)
    (call_does taken new nothing_noted all s bases (Handed from m ∷ log) live works settled (amid_for old s bases log from m taken st fit t)) e f

-- a transaction

abbrev pub submitted : TxnNo → Notes
submitted n = record { recs = Submit n ∷ []; out = [] }

pub amid_after : (k : Kept State) (s : Setting) (bases : Bases) (log : Log) (n : ℕ) (txn : Txn) (taken : State)
    → n < 2 ^ 32 → Represents k s log → FitsSubmit s bases log n txn → taken ≡ state_given n txn k.value → IsAmid s bases taken (Submits n txn ∷ log)
amid_after k s bases log n txn taken small st fit t =
    subst (λ x. IsAmid s bases x (Submits n txn ∷ log)) (ap (state_given n txn) st.state_is ∙ sym t)
    (amid_given s bases log n txn small st.setting st.sound (subst (λ x. step_of x ≡ None) (sym st.state_is) st.settled) fit)

pub submit_does : (n : TxnNo) (txn : Txn) (old new : Kept State) (taken : State) (all : Notes)
    (records : List Rec) (sends : List (Site × Msg)) → n.0 < 2 ^ 32 → IsTrue new.live
    → taken ≡ state_given n.0 txn old.value → Works taken new.value (submitted n) all → step_of new.value ≡ None → records ≡ all.recs → sends ≡ all.out
    → (s : Setting) (bases : Bases) (log : Log) → Represents old s log → FitsSubmit s bases log n.0 txn
    → (rest : List Rec) × (records ≡ Submit n ∷ rest) × Does (next s bases) (Submits n.0 txn ∷ log) rest sends (Represents new s)
submit_does n txn old new taken all records sends small live t works settled e f s bases log st fit =
    let d = call_does taken new (submitted n) all s bases (Submits n.0 txn ∷ log) live works settled
    (amid_after old s bases log n.0 txn taken small st fit t) in (
      records_of d.acts,
      e ∙ d.recs_are,
      subst (λ xs. Does (next s bases) (Submits n.0 txn ∷ log) (records_of d.acts) xs (Represents new s)) (sym (f ∙ d.out_is)) d.does,
    )

-- before the first message

none_on_hold : (ns : List ℕ) → find (is_kept_on_hold 0) (map no_counts ns) ≡ None
none_on_hold [] = refl
none_on_hold (n ∷ ns) = none_on_hold ns

release_none : (b : Bool) (o : Option TmCounts) → o ≡ None → or_else (if b then option_map Release (option_map tm_of o) else None) None ≡ None
release_none b o e = grind arith

pub new_represents : (k : Kept State) (cat : Catalogue) → IsTrue k.live → k.value ≡ first_state cat → catalogues.IsSoundCatalogue cat → IsWhole cat
    → (s : Setting) → s.catalogue ≡ cat → s.site ≡ U → Represents k s []
new_represents k cat live is valid whole s e f =
    let state : state_of s [] ≡ k.value = (grind arith) ∙ sym is in
    record {
      live = live;
      setting = record { valid = rw e valid; whole = rw e whole };
      sound = record {
        line = record { in_queue = record { differ = tt; waiting = tt }; of_head = tt; asking = tt };
        stamped = tt;
        turns = λ t. record { committed = omega arith; released = omega arith; answered = omega arith };
        started = record { few = omega arith };
      };
      state_is = state;
      settled = rw is (release_none (0 == cat.dms) (find (is_kept_on_hold 0) (map no_counts (numbers_to cat.tms))) (none_on_hold (numbers_to cat.tms)));
    }
