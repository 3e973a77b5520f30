-- A transaction is given to its module, which does what is due, over plain worlds.
use Rattle.sdd_world.proofs.All.{Act, All, AllRepresent, AreDue, AreLinked, Bases, Bool, Boxes, Carries, Catalogue, EndsBy, Era, Followed, Happened, Input, IsClassAt, IsLawful, IsPast, IsSiteOf, List, Log, Mark, Marked, MaySend, Msg, Outcome, Rec, Represent, Rests, Setting, Site, Sites, Some, Spooled, StayAtOthers, Submission, Submit, Submits, T, Txn, TxnNo, U, World, [], acts_lawful, after_acts, good_input, ap, append_assoc, arith, base_of, calls_acts, calls_of, class_for, ends_in_acts, false, fits_in_era, fits_submit, get_or, history, history_acts, home_in, home_of, left_acts, linked_acts, listed, local_of, log_after, map, mark_within, marks, marks_acts, next_in, next_of, nth_era, other_local, puts, puts_past, records_of, redeclared_is, redeclares, refl, same_site, sends_of, setting_of, slice_get, submits_and_acts, submits_to_wait, submitted, submitted_lawful, submitted_local, submitted_within, subst, suc, sym, takes_part, true, txn_at, zero, ℕ, ◌++◌, ◌-◌, ◌∙◌, ◌∷◌, ◌≡◌, ◌≤◌}
use Rattle.sdd_world.proofs.Handing.{are_linked, due_same}
use Rattle.sdd_world.proofs.Marking.{happened}
use Rattle.sdd_world.proofs.Parting.{all_after, events_before, later, redeclares_acts, spooled_acts, spooled_on}
use Rattle.sdd_world.proofs.Placing.{is_module, no_u}
use Rattle.sdd_sites.specs.needs.lang.Fits.{FitsTxn}
use Rattle.sdd_sites.specs.needs.site_module.SiteLog as site

-- what is read at a place of a list is the member there
pub read_at : {A : Type 0} (xs : List A) (i : ℕ) (x y : A) → slice_get xs i ≡ Some x → y ≡ get_or xs i y → slice_get xs i ≡ Some y
read_at [] i x y e h = cc
read_at (z ∷ xs) zero x y e h = ap (λ v. Some v) (sym h)
read_at (z ∷ xs) (suc i) x y e h = read_at xs i x y e h

spool_submitted : (g : Input) (n : TxnNo) (log : Log) (boxes : Boxes Msg) → Spooled g log boxes U → Spooled g (submitted g n log) boxes U
spool_submitted g n log boxes s = spooled_on g log (submitted g n log) boxes U (λ at. refl)
    (λ at apart x rest r. record { count = r.count; messages = r.messages }) s

module _ (w : World) (g : Input) (log : Log) (n : TxnNo) (m : Marked w g log (Submit n)) where
  abbrev home : Site
  home = home_in g n log

  abbrev submitted_log : Log
  submitted_log = submitted g n log

  -- the transaction that is read is the one that is submitted
  pub txn_read : (txns : List Txn) (txn : Txn) → txn ≡ get_or txns (n.0 - 1) txn → txns ≡ w.txns → txn_at g n.0 ≡ Some txn
  txn_read txns txn h same =
      read_at g.txns (n.0 - 1) m.possible.0 txn m.possible.2 (h ∙ ap (λ xs. get_or xs (n.0 - 1) txn) (same ∙ m.parts.txns_are))

  -- and fits the catalogue in force
  pub txn_fits : (txn : Txn) → txn_at g n.0 ≡ Some txn → FitsTxn (w.catalogue.now) txn
  txn_fits txn is = subst (λ c. FitsTxn c txn) (sym m.parts.catalogue_is)
      (fits_in_era g.catalogue (nth_era g (redeclares log)).catalogue (m.parts.good.eras (redeclares log)) txn (m.parts.sound.txns_fit n.0 txn is))

  lawful_here : IsLawful g (Mark (Submit n) ∷ log)
  lawful_here = (m.marked.next_is, m.marked.rests.lawful)

  home_here : IsSiteOf g home
  home_here = m.parts.good.needs.home g (good_input g m.parts.good) (Mark (Submit n) ∷ log) home n.0 lawful_here refl

  pub events_order : All {X = ℕ × Rec} (λ e. e.0 ≤ w.marks) w.history
  events_order = rw (m.marks_are, m.parts.history_is) (later (marks log) (suc (marks log)) (history log) (omega arith) (events_before log))

  module _ (txn : Txn) (is : txn_at g n.0 ≡ Some txn) where
    home_is : (at : Site) → at ≡ home_of (w.catalogue.now) (Some txn) → at ≡ home
    home_is at e = e ∙ ap (λ c. home_of c (Some txn)) m.parts.catalogue_is ∙ ap (λ o. home_of (nth_era g (redeclares log)).catalogue o) (sym is)

    -- its module takes part, or not, as the spool tells
    pub part_here : (at : Site) (taking part : Bool) → at ≡ home → (IsSiteOf g at → Spooled g log w.spool U → taking ≡ takes_part at log) → taking ≡ part
        → takes_part at log ≡ part
    part_here at taking part e told is = sym (told (subst (IsSiteOf g) (sym e) home_here) m.spooled) ∙ is

    pub there : (at : Site) → at ≡ home → (h : Input) × (l : Log) × IsSiteOf h at × Spooled h l w.spool U
    there at e = (g, log, subst (IsSiteOf g) (sym e) home_here, m.spooled)

    submit_fits : fits_submit home (setting_of g home) (base_of g submitted_log) (local_of g home log) n.0 txn
    submit_fits = m.parts.good.needs.submit g (good_input g m.parts.good) (Mark (Submit n) ∷ log) home n.0 txn lawful_here
        (mark_within log (Submit n) m.marked.few, m.marked.rests.within) refl is

    submit_represents : (part : Bool) → takes_part home log ≡ part → Represent w.sites part home (setting_of g home) (local_of g home log)
    submit_represents part e = subst (λ z. Represent w.sites z home (setting_of g home) (local_of g home log)) e (m.parts.sites home home_here)

    part_at : (at : Site) (part : Bool) → at ≡ home → takes_part at log ≡ part → takes_part home log ≡ part
    part_at at part e p = ap (λ z. takes_part z log) (sym e) ∙ p

    -- the list in force at a transaction module is that of the world
    class_at : (at : Site) (class : ℕ) → class ≡ class_for (w.catalogue.now) txn → IsClassAt at (setting_of g at) (local_of g at log) class txn
    class_at (T t) class e = e ∙ ap (λ c. class_for c txn) m.parts.catalogue_is ∙ sym (ap (λ (f : Era). class_for f.catalogue txn) (redeclared_is g t log))
    class_at _ class e = tt

    pub submit_asks : (at : Site) (class : ℕ) → at ≡ home → takes_part at log ≡ true → class ≡ class_for (w.catalogue.now) txn
        → (setting : Setting) × (bases : Bases) × (l : site.Log)
        × Represent w.sites true at setting l × fits_submit at setting bases l n.0 txn × IsClassAt at setting l class txn
    submit_asks at class e part is =
        subst (λ z. (setting : Setting) × (bases : Bases) × (l : site.Log) × Represent w.sites true z setting l
        × fits_submit z setting bases l n.0 txn × IsClassAt z setting l class txn) (sym e)
        (setting_of g home, base_of g submitted_log, local_of g home log, submit_represents true (part_at at true e part), submit_fits, class_at home class is)

    pub queue_asks : (at : Site) (class : ℕ) → at ≡ home → takes_part at log ≡ false → class ≡ class_for (w.catalogue.now) txn
        → (setting : Setting) × (bases : Bases) × (l : site.Log) × (same_site at U ≡ false)
        × Represent w.sites false at setting l × fits_submit at setting bases l n.0 txn × IsClassAt at setting l class txn
    queue_asks at class e part is =
        let down : takes_part home log ≡ false = part_at at false e part in
        subst (λ z. (setting : Setting) × (bases : Bases) × (l : site.Log) × (same_site z U ≡ false) × Represent w.sites false z setting l
        × fits_submit z setting bases l n.0 txn × IsClassAt z setting l class txn) (sym e) (
          setting_of g home,
          base_of g submitted_log,
          local_of g home log,
          no_u g home (is_module g home log home_here down),
          submit_represents false down,
          submit_fits,
          class_at home class is,
        )

    -- what the module of the site did: all that is due where it takes part, and nothing where it doesn't
    pub record Taken (s : Sites) (outcome : Outcome) : Type 0 where
      pub acts : List Act
      pub due : takes_part home log ≡ true → AreDue (next_in g home (base_of g submitted_log)) (Submits n.0 txn ∷ local_of g home log) acts
      pub waits : takes_part home log ≡ false → acts ≡ []
      pub records_are : outcome.recs ≡ Submission n ∷ records_of acts
      pub sends_are : outcome.out ≡ sends_of acts
      pub after : Represent s (takes_part home log) home (setting_of g home) (log_after acts (Submits n.0 txn ∷ local_of g home log))

    abbrev pub SubmitLaw : Sites → Site → Outcome → Type 0
    SubmitLaw s at outcome = (setting : Setting) (bases : Bases) (l : site.Log) → Represent w.sites true at setting l → fits_submit at setting bases l n.0 txn
        → (recs : List Rec) × (outcome.recs ≡ Submission n ∷ recs) × site.Does (next_of at setting bases)
        (Submits n.0 txn ∷ l) recs outcome.out (Represent s true at setting)

    pub taken : (s : Sites) (at : Site) (outcome : Outcome) → at ≡ home → takes_part at log ≡ true → SubmitLaw s at outcome → Taken s outcome
    taken s at outcome e part law =
        let mine : SubmitLaw s home outcome = subst (λ z. SubmitLaw s z outcome) e law in
        let up : takes_part home log ≡ true = part_at at true e part in
        let d = mine (setting_of g home) (base_of g submitted_log) (local_of g home log) (submit_represents true up) submit_fits in
        record {
          acts = d.2.acts;
          due = λ p. due_same g home (base_of g submitted_log) (Submits n.0 txn ∷ local_of g home log) d.2.acts d.2.due;
          waits = λ p. (let no : true ≡ false = sym up ∙ p in cc);
          records_are = d.1 ∙ ap (λ r. Submission n ∷ r) d.2.records_are;
          sends_are = d.2.sends_are;
          after = subst (λ z. Represent s z home (setting_of g home) (log_after d.2.acts (Submits n.0 txn ∷ local_of g home log))) (sym up) d.2.after;
        }

    abbrev pub QueueLaw : Sites → Site → Outcome → Type 0
    QueueLaw s at outcome = (setting : Setting) (bases : Bases) (l : site.Log) → Represent w.sites false at setting l → fits_submit at setting bases l n.0 txn
        → (outcome.recs ≡ Submission n ∷ []) × (outcome.out ≡ []) × Represent s false at setting (Submits n.0 txn ∷ l)

    pub queued : (s : Sites) (at : Site) (outcome : Outcome) → at ≡ home → takes_part at log ≡ false → QueueLaw s at outcome → Taken s outcome
    queued s at outcome e part law =
        let mine : QueueLaw s home outcome = subst (λ z. QueueLaw s z outcome) e law in
        let down : takes_part home log ≡ false = part_at at false e part in
        let d = mine (setting_of g home) (base_of g submitted_log) (local_of g home log) (submit_represents false down) submit_fits in
        record {
          acts = [];
          due = λ p. (let no : true ≡ false = sym p ∙ down in absurd cc);
          waits = λ p. refl;
          records_are = d.0;
          sends_are = d.1;
          after = subst (λ z. Represent s z home (setting_of g home) (Submits n.0 txn ∷ local_of g home log)) (sym down) d.2;
        }

    acts_lawful_here : (s : Sites) (outcome : Outcome) (t : Taken s outcome) → IsLawful g (after_acts home t.acts submitted_log)
    acts_lawful_here s outcome t =
        elim (takes_part home log) as (λ c. takes_part home log ≡ c → IsLawful g (after_acts home t.acts submitted_log)) [
          | true ↦ λ p. acts_lawful g n log m.marked txn t.acts is (listed g.catalogue.tms g.catalogue.dms home home_here) p (t.due p)
          | false ↦ λ p. subst (λ acts. IsLawful g (after_acts home acts submitted_log)) (sym (t.waits p)) (submitted_lawful g n log m.marked)
        ] refl

    rests_here : (s : Sites) (outcome : Outcome) (t : Taken s outcome) → puts_past (calls_of log) home (sends_of t.acts) ≡ false
        → Rests g (after_acts home t.acts submitted_log)
    rests_here s outcome t few =
        elim (takes_part home log) as (λ c. takes_part home log ≡ c → Rests g (after_acts home t.acts submitted_log)) [
          | true ↦ λ p. submits_and_acts g n log m.marked txn t.acts is (listed g.catalogue.tms g.catalogue.dms home home_here) p (t.due p) few
          | false ↦ λ p. subst (λ acts. Rests g (after_acts home acts submitted_log)) (sym (t.waits p)) (submits_to_wait g n log m.marked p)
        ] refl

    linked_out : (s : Sites) (outcome : Outcome) → Taken s outcome → AreLinked g.catalogue.tms g.catalogue.dms home outcome.out
    linked_out s outcome t =
        rw t.sends_are (are_linked g home (sends_of t.acts) (linked_acts g home t.acts submitted_log
        (λ l act k e. m.parts.good.needs.sends g (good_input g m.parts.good) l home act k e) (acts_lawful_here s outcome t)))

    -- it may be sent
    pub may_send : (s : Sites) (at : Site) (outcome : Outcome) → at ≡ home → Taken s outcome → MaySend (record w { sites = s }) at outcome
    may_send s at outcome e t = (
      g.catalogue.tms,
      g.catalogue.dms,
      calls_of log,
      m.parts.net,
      subst (λ z. AreLinked g.catalogue.tms g.catalogue.dms z outcome.out) (sym e) (linked_out s outcome t),
    )

    -- where there is no number for one of its messages, the limit ends the log
    pub submit_ends : (s : Sites) (at : Site) (outcome : Outcome) → at ≡ home → Taken s outcome → IsPast (record w { sites = s }) at outcome → EndsBy g
    submit_ends s at outcome e t past =
        ends_in_acts g home t.acts submitted_log
        (ap (λ o. puts_past (calls_of log) home o) (sym t.sends_are)
        ∙ subst (λ z. IsPast (record w { sites = s }) z outcome) e past g.catalogue.tms
        g.catalogue.dms (calls_of log) m.parts.net (linked_out s outcome t)) (submitted_within g n log m.marked) (acts_lawful_here s outcome t)

    done_sites : (s : Sites) (outcome : Outcome) → (t : Taken s outcome) → StayAtOthers w.sites s home → AllRepresent s g (after_acts home t.acts submitted_log)
    done_sites s outcome t others =
        all_after w.sites s g log submitted_log home t.acts (Submits n.0 txn ∷ local_of g home log) (λ x p. refl)
        (λ x p. other_local g x home n.0 (Mark (Submit n) ∷ log) p) (submitted_local g n log m.marked txn is) t.after others m.parts.sites

    -- it is recorded and sent
    pub submit_done : (s : Sites) (w2 : World) (at : Site) (outcome : Outcome) → at ≡ home → Taken s outcome → StayAtOthers w.sites s at
        → Followed (record w { sites = s }) w2 at outcome → Happened w2 g log
    submit_done s w2 at outcome e t others_at followed_at =
        let others : StayAtOthers w.sites s home = subst (λ z. StayAtOthers w.sites s z) e others_at in
        let f : Followed (record w { sites = s }) w2 home outcome =
        subst (λ z. Followed (record w { sites = s }) w2 z outcome) e followed_at in
        let sent_all = f.net g.catalogue.tms g.catalogue.dms (calls_of log) m.parts.net (linked_out s outcome t) in
        let calls : calls_of (after_acts home t.acts submitted_log) ≡ puts home outcome.out (calls_of log) =
        calls_acts home t.acts submitted_log ∙ ap (λ o. puts home o (calls_of log)) (sym t.sends_are) in
        happened w w2 g log (Submit n) (after_acts home t.acts submitted_log) m
        (record { whole = f.whole; catalogue = f.catalogue; txns = f.txns; given = f.given; marks = f.marks })
        (record {
          rests = rests_here s outcome t (ap (λ o. puts_past (calls_of log) home o) (sym t.sends_are) ∙ sent_all.0);
          marks_is = marks_acts home t.acts submitted_log;
          left_is = left_acts g.events home t.acts submitted_log;
          redeclares_is = redeclares_acts home t.acts submitted_log;
          history_is = f.history ∙ ap (λ r. w.history ++ map (λ x. (w.marks, x)) r) t.records_are
              ∙ ap (λ k. w.history ++ map (λ x. (k, x)) (Submission n ∷ records_of t.acts)) m.marks_are
              ∙ ap (λ xs. xs ++ map (λ x. (suc (marks log), x)) (Submission n ∷ records_of t.acts)) m.parts.history_is
              ∙ sym (append_assoc (history log) ((suc (marks log), Submission n) ∷ []) (map (λ x. (suc (marks log), x)) (records_of t.acts)))
              ∙ sym (history_acts home t.acts submitted_log);
          sites = subst (λ z. AllRepresent z g (after_acts home t.acts submitted_log)) (sym f.sites) (done_sites s outcome t others);
          net = subst (λ c. Carries w2.net g.catalogue.tms g.catalogue.dms c) (sym calls) sent_all.1;
          spooled = subst (λ boxes. Spooled g (after_acts home t.acts submitted_log) boxes U) (sym f.spool)
              (spooled_acts g home t.acts submitted_log w.spool U (spool_submitted g n log w.spool m.spooled));
        })

-- the transaction that is read, with the site of its class
module _ (w : World) (g : Input) (log : Log) (n : TxnNo) (m : Marked w g log (Submit n)) where
  pub record Given (txn : Txn) (at : Site) : Type 0 where
    pub is : txn_at g n.0 ≡ Some txn
    pub home : at ≡ home_in g n log

  pub given : (txns : List Txn) (txn : Txn) (class : ℕ) (at : Site) → txn ≡ get_or txns (n.0 - 1) txn → txns ≡ w.txns → class ≡ class_for (w.catalogue.now) txn
      → ((catalogue : Catalogue) → class ≡ class_for catalogue txn → at ≡ home_of catalogue (Some txn)) → Given txn at
  given txns txn class at read same class_is home =
      let is : txn_at g n.0 ≡ Some txn = txn_read w g log n m txns txn read same in
      record { is = is; home = home_is w g log n m txn is at (home w.catalogue.now class_is) }
