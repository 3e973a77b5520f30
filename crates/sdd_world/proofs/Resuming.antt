-- A module that came up does what is due, over plain worlds.
use Rattle.sdd_world.proofs.All.{Act, All, AllRepresent, AreDue, AreLinked, At, Bases, Carries, D, DmNo, EndsBy, FitsSite, Followed, Input, IsLawful, IsPast, IsSiteOf, Kept, List, LivesD, Log, Mark, MaySend, None, Option, Outcome, Rec, Remain, Represent, Resumed, Resuming, Rising, Setting, Site, Sites, Some, Spooled, StayAtOthers, T, TmNo, U, Up, World, [], after_acts, ap, arith, base_of, calls_acts, calls_of, comes_up, ends_in_acts, false, good_input, history, history_acts, if◌then◌else◌, is_down, kept_from, linked_acts, listed, local_of, log_after, mailbox_at, map, marks, marks_acts, next_in, next_of, not, nothing_due, nth_era, part_here, puts, puts_past, records_of, refl, resumes_lawful, same_site, sends_of, setting_of, slice_get, subst, suc, sym, takes_part, true, up_within, ℕ, ◌++◌, ◌-◌, ◌||◌, ◌∙◌, ◌∷◌, ◌≡◌, ◌≤◌}
use Rattle.sdd_world.proofs.Handing.{are_linked, due_same}
use Rattle.sdd_world.proofs.Parting.{all_after, events_before, later, position_acts, redeclares_acts, spooled_acts}
use Rattle.sdd_world.proofs.Placing.{other_way, part_is, site_of}
use Rattle.sdd_sites.specs.needs.dm.Due as dm_due
use Rattle.sdd_sites.specs.data_module.State as dm_state
use Rattle.sdd_sites.specs.needs.site_module.SiteLog as site

-- another site takes part as before
others_part : (x at : Site) (log : Log) → same_site x at ≡ false → takes_part x (Mark (Up at) ∷ log) ≡ takes_part x log
others_part x at log n = ap (λ same. same_site x U || not (if same then false else is_down x log)) (other_way x at n)

module _ (w : World) (g : Input) (log : Log) (at : Site) (r : Resuming w g log at) where
  abbrev up_log : Log
  up_log = Mark (Up at) ∷ log

  site_here : IsSiteOf g at
  site_here = site_of g at r.rising.here

  pub events_order : All {X = ℕ × Rec} (λ e. e.0 ≤ w.marks) w.history
  events_order = rw (r.marks_are, r.parts.history_is) (later (marks log) (suc (marks log)) (history log) (omega arith) (events_before log))

  resume_fits : FitsSite (setting_of g at) (base_of g up_log) (local_of g at log)
  resume_fits = r.parts.good.needs.resume g (good_input g r.parts.good) log at r.marked.rests.lawful r.marked.rests.within r.marked.next_is

  resume_represents : Represent w.sites false at (setting_of g at) (local_of g at log)
  resume_represents =
      subst (λ z. Represent w.sites z at (setting_of g at) (local_of g at log)) (part_is g at log r.rising.here ∙ ap not r.was_down)
      (r.parts.sites at site_here)

  pub resume_asks : (setting : Setting) × (bases : Bases) × (l : site.Log) × Represent w.sites false at setting l × FitsSite setting bases l
  resume_asks = (setting_of g at, base_of g up_log, local_of g at log, resume_represents, resume_fits)

  -- what the module did
  pub record Taken (s : Sites) (outcome : Outcome) : Type 0 where
    pub acts : List Act
    pub due : AreDue (next_in g at (base_of g up_log)) (local_of g at log) acts
    pub records_are : outcome.recs ≡ records_of acts
    pub sends_are : outcome.out ≡ sends_of acts
    pub after : Represent s true at (setting_of g at) (log_after acts (local_of g at log))

  abbrev pub ResumeLaw : Sites → Outcome → Type 0
  ResumeLaw s outcome = (setting : Setting) (bases : Bases) (l : site.Log) → Represent w.sites false at setting l → FitsSite setting bases l
      → site.Does (next_of at setting bases) l outcome.recs outcome.out (Represent s true at setting)

  pub taken : (s : Sites) (outcome : Outcome) → ResumeLaw s outcome → Taken s outcome
  taken s outcome law =
      let d = law (setting_of g at) (base_of g up_log) (local_of g at log) resume_represents resume_fits in
      record {
        acts = d.acts;
        due = due_same g at (base_of g up_log) (local_of g at log) d.acts d.due;
        records_are = d.records_are;
        sends_are = d.sends_are;
        after = d.after;
      }

  lawful_here : (s : Sites) (outcome : Outcome) (t : Taken s outcome) → IsLawful g (after_acts at t.acts up_log)
  lawful_here s outcome t = resumes_lawful g at log r.marked r.was_down (listed g.catalogue.tms g.catalogue.dms at site_here) t.acts t.due

  linked_out : (s : Sites) (outcome : Outcome) → Taken s outcome → AreLinked g.catalogue.tms g.catalogue.dms at outcome.out
  linked_out s outcome t =
      rw t.sends_are (are_linked g at (sends_of t.acts) (linked_acts g at t.acts up_log
      (λ l act k e. r.parts.good.needs.sends g (good_input g r.parts.good) l at act k e) (lawful_here s outcome t)))

  -- it may be sent
  pub may_send : (s : Sites) (outcome : Outcome) → Taken s outcome → MaySend (record w { sites = s }) at outcome
  may_send s outcome t = (g.catalogue.tms, g.catalogue.dms, calls_of log, r.parts.net, linked_out s outcome t)

  -- where there is no number for one of its messages, the limit ends the log
  pub resume_ends : (s : Sites) (outcome : Outcome) → Taken s outcome → IsPast (record w { sites = s }) at outcome → EndsBy g
  resume_ends s outcome t past =
      ends_in_acts g at t.acts up_log
      (ap (λ o. puts_past (calls_of log) at o) (sym t.sends_are) ∙ past g.catalogue.tms g.catalogue.dms (calls_of log) r.parts.net (linked_out s outcome t))
      (up_within g at log r.marked r.was_down (listed g.catalogue.tms g.catalogue.dms at site_here) t.acts t.due) (lawful_here s outcome t)

  done_sites : (s : Sites) (outcome : Outcome) (t : Taken s outcome) → StayAtOthers w.sites s at → AllRepresent s g (after_acts at t.acts up_log)
  done_sites s outcome t others =
      all_after w.sites s g log up_log at t.acts (local_of g at log) (λ x n. others_part x at log n) (λ x n. refl) refl
      (subst (λ z. Represent s z at (setting_of g at) (log_after t.acts (local_of g at log))) (sym (part_here at log)) t.after) others r.parts.sites

  -- it is recorded and sent
  pub resume_done : (s : Sites) (w2 : World) (outcome : Outcome) → Taken s outcome → StayAtOthers w.sites s at
      → Followed (record w { sites = s }) w2 at outcome → Resumed w2 g log at
  resume_done s w2 outcome t others d =
      let more : Log = after_acts at t.acts up_log in
      let sent_all = d.net g.catalogue.tms g.catalogue.dms (calls_of log) r.parts.net (linked_out s outcome t) in
      let calls : calls_of more ≡ puts at outcome.out (calls_of log) = calls_acts at t.acts up_log ∙ ap (λ o. puts at o (calls_of log)) (sym t.sends_are) in
      record {
        more = more;
        handing = record {
          parts = record {
            good = r.parts.good;
            sound = r.parts.sound;
            whole_is = d.whole ∙ r.parts.whole_is;
            catalogue_is = d.catalogue ∙ r.parts.catalogue_is ∙ ap (λ k. (nth_era g k).catalogue) (sym (redeclares_acts at t.acts up_log));
            txns_are = d.txns ∙ r.parts.txns_are;
            given_is = ap (λ v. v.items) d.given ∙ r.parts.given_is;
            history_is = d.history ∙ ap (λ k. w.history ++ map (λ x. (w.marks, x)) k) t.records_are
                ∙ ap (λ k. w.history ++ map (λ x. (k, x)) (records_of t.acts)) r.marks_are
                ∙ ap (λ xs. xs ++ map (λ x. (suc (marks log), x)) (records_of t.acts)) r.parts.history_is ∙ sym (history_acts at t.acts up_log);
            sites = subst (λ z. AllRepresent z g more) (sym d.sites) (done_sites s outcome t others);
            net = subst (λ c. Carries w2.net g.catalogue.tms g.catalogue.dms c) (sym calls) sent_all.1;
          };
          waits = comes_up g at log r.marked r.was_down (listed g.catalogue.tms g.catalogue.dms at site_here) t.acts t.due
              (kept_from (mailbox_at w2.spool at)) (ap (λ o. puts_past (calls_of log) at o) (sym t.sends_are) ∙ sent_all.0)
              (λ x. subst (λ z. Remain log x at (kept_from (mailbox_at z at) x)) (sym d.spool) (r.kept x));
          marks_are = d.marks ∙ r.marks_are ∙ sym (marks_acts at t.acts up_log);
          spooled = subst (λ z. Spooled g more z at) (sym d.spool) (spooled_acts g at t.acts up_log w.spool at r.others);
        };
        rising = subst (λ z. Rising g z at) (sym d.spool) r.rising;
        position_is = position_acts g at t.acts up_log;
      }

  -- where nothing is due, and the module represents its log all the same
  pub resume_none : next_in g at (base_of g up_log) (local_of g at log) ≡ None → Represent w.sites true at (setting_of g at) (local_of g at log)
      → Resumed w g log at
  resume_none none up = record {
    more = up_log;
    handing = record {
      parts = record {
        good = r.parts.good;
        sound = r.parts.sound;
        whole_is = r.parts.whole_is;
        catalogue_is = r.parts.catalogue_is;
        txns_are = r.parts.txns_are;
        given_is = r.parts.given_is;
        history_is = r.parts.history_is;
        sites = all_after w.sites w.sites g log up_log at [] (local_of g at log) (λ x n. others_part x at log n) (λ x n. refl) refl
            (subst (λ z. Represent w.sites z at (setting_of g at) (local_of g at log)) (sym (part_here at log)) up) (λ x part setting l n h. h) r.parts.sites;
        net = r.parts.net;
      };
      waits = comes_up g at log r.marked r.was_down (listed g.catalogue.tms g.catalogue.dms at site_here) [] none
          (kept_from (mailbox_at w.spool at)) refl r.kept;
      marks_are = r.marks_are;
      spooled = r.others;
    };
    rising = r.rising;
    position_is = refl;
  }

-- nothing is due at a data module between events

quiet_at : (o : Option (Kept dm_state.State)) (setting : Setting) (bases : Bases) (l : site.Log) → At LivesD o setting l → dm_due.next setting bases l ≡ None
quiet_at None setting bases l h = absurd h
quiet_at (Some v) setting bases l h = nothing_due setting bases v.value l h.represents_log.quiet h.represents_log.shows

resumed_at : (w : World) (g : Input) (log : Log) (d : DmNo) → Resuming w g log (D d) → Resumed w g log (D d)
resumed_at w g log d r =
    let here : Represent w.sites true (D d) (setting_of g (D d)) (local_of g (D d) log) = resume_represents w g log (D d) r in
    resume_none w g log (D d) r
    (quiet_at (slice_get w.sites.dms.items (d.0 - 1)) (setting_of g (D d)) (base_of g (Mark (Up (D d)) ∷ log)) (local_of g (D d) log) here.1) here

-- so a module that is no transaction module has nothing to do
pub resumed_other : (w : World) (g : Input) (log : Log) (at : Site) → ((t : TmNo) → at ≡ T t → ⊥) → Resuming w g log at → Resumed w g log at
resumed_other w g log U other r = absurd r.rising.here
resumed_other w g log (T t) other r = absurd (other t refl)
resumed_other w g log (D d) other r = resumed_at w g log d r
