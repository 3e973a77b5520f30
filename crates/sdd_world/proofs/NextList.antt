-- Another class list is put in force, once the links are quiet, over plain worlds.
use Rattle.sdd_world.proofs.All.{AllRepresent, AreRedeclared, Carries, Catalogue, EndsBy, EndsIn, Entry, Era, Event, FitsEra, Input, IsNextList, IsSettled, List, Log, MAX_RUN_EVENTS, Redeclare, Redeclares, Redeclaring, Represent, Represents, Sites, Spooled, U, World, [], good_input, ap, arith, calls_of, count_join, greatest_bound, left, local_of, lt-ltb, marks, none_left, nth_era, redeclare_next, redeclares, redeclares_in, redeclares_left, refl, rests_redeclared, setting_of, settles_before, subst, suc, sym, takes_part, with_era, with_event, zero, ℕ, ◌+◌, ◌∙◌, ◌∷◌, ◌≡◌, ◌≢◌}
use Rattle.sdd_world.proofs.Parting.{spooled_on}
use Rattle.sdd_world.proofs.Rounds.{few, free}

-- the list that is put in force next is the next that is given

one_in : (n : ℕ) → redeclares_in (settles_before n Redeclare) ≡ 1
one_in zero = refl
one_in (suc n) = one_in n

one_left : (events : List Event) → EndsIn Redeclare events → redeclares_in events ≡ 1
one_left events e = ap redeclares_in e.1 ∙ one_in e.0

pub redeclaring : (w : World) (g : Input) (cat : Catalogue) (table : List Entry) → IsNextList g cat table → IsSettled w (with_event g Redeclare) Redeclare
    → (log : Log) × Redeclaring w (with_event g Redeclare) log (record { catalogue = cat; table = table })
redeclaring w g cat table next s =
    let given : Input = with_event g Redeclare in
    let log : Log = s.more in
    let c = s.settling.calm in
    let n = redeclare_next given log s.settling.waiting (free given log c.rests) s.settling.left_is s.settling.ends s.is_quiet in
    let all = redeclares_left given log c.parts.good.few_ticks c.rests.lawful in
    let one : redeclares_in (left given.events log).0 ≡ 1 =
    ap (λ (l : List Event × List Event). redeclares_in l.0) s.settling.left_is ∙ one_left s.settling.waiting s.settling.ends in
    let sum = count_join g.events (Redeclare ∷ []) in
    let done : redeclares log ≡ redeclares_in g.events = omega (arith, all, one, sum) in (
      log,
      record { calm = c; next_is = n.0; none_behind = n.1; era_is = ap (λ k. nth_era g (suc k)) done ∙ next },
    )

module _ (w : World) (g : Input) (log : Log) (era : Era) (f : Redeclaring w g log era) where
  -- the last number was given, so that the limit ends the log
  pub era_ends : w.marks ≡ MAX_RUN_EVENTS → EndsBy g
  era_ends last =
      let m : w.marks ≡ marks log = f.calm.marks_are in (
        log,
        record {
          lawful = f.calm.rests.lawful;
          within = f.calm.rests.within;
          entry = Redeclares (greatest_bound g log);
          next_is = f.next_is;
          past = lt-ltb MAX_RUN_EVENTS (suc (marks log)) (omega (arith, last, m));
        },
      )

  -- the list in force till then has the modules of the network
  pub same_tms : w.catalogue.now.tms ≡ g.catalogue.tms
  same_tms = ap (λ (k : Catalogue). k.tms) f.calm.parts.catalogue_is ∙ (f.calm.parts.good.eras (redeclares log)).tms

  -- the list and its time are what modules ask of them
  pub era_fits : (t : ℕ) → t ≡ greatest_bound g log → FitsEra g.catalogue era t
  era_fits t e =
      subst (λ x. FitsEra g.catalogue x t) f.era_is
      (subst (λ x. FitsEra g.catalogue (nth_era g (suc (redeclares log))) x) (sym e)
      (f.calm.parts.good.needs.redeclare g (good_input g f.calm.parts.good) log (greatest_bound g log) f.calm.rests.lawful f.calm.rests.within f.next_is))

  sites_redeclared : (w2 : World) (s : Sites) (t : ℕ) → t ≡ greatest_bound g log → AreRedeclared s g log era t → w2.sites ≡ s
      → AllRepresent w2.sites g (Redeclares (greatest_bound g log) ∷ log)
  sites_redeclared w2 s t e redeclared_at is at here =
      subst (λ z. Represent z (takes_part at log) at (setting_of g at) (local_of g at (Redeclares (greatest_bound g log) ∷ log))) (sym is)
      (subst (λ x. Represent s (takes_part at log) at (setting_of g at) (with_era at x (greatest_bound g log) (local_of g at log))) (sym f.era_is)
      (subst (λ x. Represent s (takes_part at log) at (setting_of g at) (with_era at era x (local_of g at log))) e (redeclared_at at here)))

  -- it is in force
  pub is_redeclared : (w2 : World) (s : Sites) (t : ℕ) → t ≡ greatest_bound g log → w.marks ≢ MAX_RUN_EVENTS → AreRedeclared s g log era t
      → w2 ≡ record w { sites = s; marks = w.marks + 1; catalogue = w2.catalogue } → w2.catalogue.now ≡ era.catalogue → (more : Log) × Represents w2 g more
  is_redeclared w2 s t e number redeclared_at same is =
      let now : ℕ = greatest_bound g log in
      let more : Log = Redeclares now ∷ log in
      let m : w.marks ≡ marks log = f.calm.marks_are in
      let rests = rests_redeclared g log now f.calm.rests f.next_is (omega (arith, m, few w g log f.calm, number)) in (
        more,
        record {
          calm = record {
            parts = record {
              good = f.calm.parts.good;
              sound = f.calm.parts.sound;
              whole_is = ap (λ v. v.whole.now) same ∙ f.calm.parts.whole_is;
              catalogue_is = is ∙ ap (λ (x : Era). x.catalogue) (sym f.era_is);
              txns_are = ap (λ v. v.txns) same ∙ f.calm.parts.txns_are;
              given_is = ap (λ v. v.given.items) same ∙ f.calm.parts.given_is;
              history_is = ap (λ v. v.history) same ∙ f.calm.parts.history_is;
              sites = sites_redeclared w2 s t e redeclared_at (ap (λ v. v.sites) same);
              net = subst (λ z. Carries z g.catalogue.tms g.catalogue.dms (calls_of log)) (sym (ap (λ v. v.net) same)) f.calm.parts.net;
            };
            rests = rests;
            marks_are = let n : w2.marks ≡ w.marks + 1 = ap (λ v. v.marks) same in omega (arith, n, m);
            spooled = subst (λ boxes. Spooled g more boxes U) (sym (ap (λ v. v.spool) same))
                (spooled_on g log more w.spool U (λ at. refl) (λ at apart x rest r. record { count = r.count; messages = r.messages }) f.calm.spooled);
          };
          complete = none_left g more (free g more rests) f.none_behind;
        },
      )
