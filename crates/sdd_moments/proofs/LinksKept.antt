-- A link that an event doesn't touch, and on which nothing is put, stays as it is.
use Rattle.sdd_moments.proofs.All.{Across, Along, Around, Bool, Call, D, Deliver, Does, Entry, Event, Found, From, Input, IsBetween, IsGood, IsMark, IsSiteOf, Link, List, Log, Lose, Mark, Msg, None, Nowhere, Puts, Reach, Redeclares, Site, Some, T, Tick, Ticked, U, WatchedLink, Way, [], all_sites, ap, are_linked, arith, arrived_on, calls_of, cond, cons_option, drop, drop_all, eq-eqb, false, filter, filter_map, found_by, handed, if◌then◌else◌, is_between, is_changed_link, is_empty, is_taken, is_touched, last_event, left_between, left_of, length, link, link_of, links_from, local_of, map, marks, may_act, may_change_from, not, numbered, purposed, put, puts, puts_to, reach_of, refl, same_site, sends_of_act, sent, sent_is, suc, sym, takes_one, true, turned, watched_link, ℕ, ◌&&◌, ◌++◌, ◌+◌, ◌==◌, ◌||◌, ◌∙◌, ◌∷◌, ◌≡◌}
use Rattle.sdd_progress.specs.obligations.site_module.SiteLog as site
use Rattle.sdd_moments.proofs.Between.{both_back}
use Rattle.sdd_moments.proofs.Flights.{length_joined}
use Rattle.sdd_moments.proofs.Reached.{aside_log, link_at_mark, neither, reach_after, touched_by_delivery, untouched_handed}

-- what is put on a link, and that it stays where as many messages stand on it

pub record Longer (old new : Way Msg) : Type 0 where
  pub more : ℕ
  pub count : length new.sent ≡ length old.sent + more
  pub same : more ≡ 0 → new ≡ old

longer_by_put : (o : Way Msg) (c d : Bool) (m : Msg) (l : Link Msg) → Longer o l.there
    → Longer o (if c then put m l else if d then turned (put m (turned l)) else l).there
longer_by_put o true d m l h =
    let count = h.count in
    let one = length_joined l.there.sent (m ∷ []) in
    record { more = suc h.more; count = omega (arith, count, one); same = λ z. absurd (omega (arith, z)) }
longer_by_put o false true m l h = h
longer_by_put o false false m l h = h

longer_by_puts : (o : Way Msg) (x y at : Site) (sends : List (Site × Msg)) (calls : List (Call Msg)) → Longer o (link x y calls).there
    → Longer o (link x y (puts at sends calls)).there
longer_by_puts o x y at [] calls h = h
longer_by_puts o x y at (s ∷ sends) calls h =
    longer_by_puts o x y at sends (Puts at s.0 s.1 ∷ calls)
    (longer_by_put o (same_site x at && same_site y s.0) (same_site x s.0 && same_site y at) s.1 (link x y calls) h)

longer_on : (x y : Site) (more log : Log) → marks more ≡ 0 → Longer (link_of x y log).there (link_of x y (more ++ log)).there
longer_on x y [] log z = record { more = 0; count = omega arith; same = λ e. refl }
longer_on x y (Does at act ∷ more) log z =
    longer_by_puts (link_of x y log).there x y at (sends_of_act act) (calls_of (more ++ log)) (longer_on x y more log z)
longer_on x y (Mark e ∷ more) log z = absurd (omega (arith, z))
longer_on x y (Redeclares t ∷ more) log z = absurd (omega (arith, z))
longer_on x y (_ ∷ more) log z = longer_on x y more log z

way_stays : (x y : Site) (more log : Log) → marks more ≡ 0 → length (sent x y (more ++ log)) ≡ length (sent x y log)
    → (link_of x y (more ++ log)).there ≡ (link_of x y log).there
way_stays x y more log z e = let h = longer_on x y more log z in let count = h.count in h.same (omega (arith, count, e))

-- a mark puts nothing

ticked_puts : (y x : Site) (c : Bool) (n : ℕ) (l : site.Log) → puts_to y (if c then Ticked n ∷ l else l) ≡ puts_to y l
ticked_puts y x true n l = refl
ticked_puts y x false n l = refl

marked_puts : (g : Input) (y x : Site) (mark : Entry) (old : Log) → IsMark mark → puts_to y (local_of g x (mark ∷ old)) ≡ puts_to y (local_of g x old)
marked_puts g y x (Mark (Tick t n)) old h = ticked_puts y x (same_site x (T t)) n (local_of g x old)
marked_puts g y x (Mark e) old h = refl
marked_puts g y U (Redeclares t) old h = refl
marked_puts g y (T n) (Redeclares t) old h = refl
marked_puts g y (D d) (Redeclares t) old h = refl
marked_puts g y x _ old h = absurd h

-- a link that stays as it is

pub record IsStill (old new : Log) (l : Site × Site) : Type 0 where
  pub kept : watched_link new l ≡ watched_link old l
  pub unchanged : is_changed_link old new l ≡ false
  pub none : arrived_on old new l ≡ None

abbrev watched : Site → Site → Way Msg → ℕ → WatchedLink
watched x y w handed =
    record {
      from = x;
      to = y;
      flying = length w.flight;
      sent = length w.sent;
      handed = handed;
      waiting = filter_map purposed (drop handed (numbered 0 w.sent));
    }

never : (b : Bool) → (b && false) ≡ false
never true = refl
never false = refl

not_taken : (g : Input) (new : Log) (e : Event) (found : Found) (x y : Site) → is_touched (reach_of g new e found) x y ≡ false
    → is_taken e found (x, y) ≡ false
not_taken g new (Deliver a b k) found x y h =
    let p = neither (same_site x a && same_site y b) (same_site x b && same_site y a) (sym (touched_by_delivery a b found x y) ∙ h) in
    ap (λ c. takes_one found && c) (both_back x y a b ∙ p.0) ∙ never (takes_one found)
not_taken g new (Lose a b k) found x y h =
    let p = neither (same_site x a && same_site y b) (same_site x b && same_site y a) h in
    ap (λ c. takes_one found && c) (both_back x y a b ∙ p.0) ∙ never (takes_one found)
not_taken g new _ found x y h = never (takes_one found)

module _ (g : Input) (old new : Log) (good : IsGood g) (b : IsBetween g old new) where
  pub link_stays : (x y : Site) → is_touched (reach_after g old new new) x y ≡ false → length (sent x y new) ≡ length (sent x y old)
      → IsStill old new (x, y)
  link_stays x y t same =
      let u = link_at_mark g old new good b x y t in
      let count : length (sent x y (b.more ++ b.mark ∷ old)) ≡ length (sent x y (b.mark ∷ old)) =
      ap (λ l. length (sent x y l)) (sym b.parts) ∙ same ∙ ap (λ (l : Link Msg). length l.there.sent) (sym u) in
      let there : (link_of x y new).there ≡ (link_of x y old).there =
      ap (λ l. (link_of x y l).there) b.parts ∙ way_stays x y b.more (b.mark ∷ old) b.no_marks count ∙ ap (λ (l : Link Msg). l.there) u in
      let h = untouched_handed g old new good b x y t in
      let left : left_between old new (x, y) ≡ length (link_of x y old).there.flight =
      ap (λ c. left_of c (length (link_of x y old).there.flight)) (not_taken g new (last_event new) (found_by (last_event new) old new) x y t) in
      let none : drop (left_between old new (x, y)) (link_of x y new).there.flight ≡ [] =
      (λ i. drop (left i) (there i).flight) ∙ drop_all (length (link_of x y old).there.flight) (link_of x y old).there.flight (omega arith) in
      let equal : (handed x y old == handed x y new) ≡ true = eq-eqb (handed x y old) (handed x y new) (sym h) in
      record {
        kept = λ i. watched x y (there i) (h i);
        unchanged = (λ i. not (is_empty (none i) && equal i));
        none = rw (equal) refl;
      }

  pub nothing_put : (x y : Site) → IsSiteOf g x → may_act (reach_after g old new new) x ≡ false → sent x y new ≡ sent x y old
  nothing_put x y here t =
      sent_is g x y new ∙ ap (puts_to y) (aside_log g old new good b x here t) ∙ marked_puts g y x b.mark old b.is_mark ∙ sym (sent_is g x y old)

-- the links from a site

aside : (r : Reach) (x : Site) → may_change_from r x ≡ false → may_act r x ≡ false
aside Nowhere x h = refl
aside (Along a b) x h = refl
aside (Across a b) x h = (neither (same_site x a) (same_site x b) h).1
aside (From a) x h = h
aside (Around a) x h = let no : true ≡ false = h in cc

beside_both : (a b x y : Site) → (same_site x a || same_site x b) ≡ false → is_between a b x y ≡ false
beside_both a b x y h = let p = neither (same_site x a) (same_site x b) h in rw (p.0, p.1) refl

untouched_from : (r : Reach) (x y : Site) → may_change_from r x ≡ false → is_touched r x y ≡ false
untouched_from Nowhere x y h = refl
untouched_from (Along a b) x y h = beside_both a b x y h
untouched_from (Across a b) x y h = beside_both a b x y h
untouched_from (From a) x y h = refl
untouched_from (Around a) x y h = let no : true ≡ false = h in cc

pub record AreStill (old new : Log) (ls : List (Site × Site)) : Type 0 where
  pub kept : map (watched_link new) ls ≡ map (watched_link old) ls
  pub unchanged : filter (is_changed_link old new) ls ≡ []
  pub none : filter_map (arrived_on old new) ls ≡ []

one_still : (old new : Log) (l : Site × Site) (ls : List (Site × Site)) → IsStill old new l → AreStill old new ls → AreStill old new (l ∷ ls)
one_still old new l ls s r = record {
  kept = λ i. s.kept i ∷ r.kept i;
  unchanged = (rw (s.unchanged) r.unchanged);
  none = (rw (s.none) r.none);
}

all_still : (old new : Log) (a : Site) (bs : List Site) → ((y : Site) → IsStill old new (a, y))
    → AreStill old new (filter_map (λ b. cond (are_linked a b) (Some (a, b)) None) bs)
all_still old new a [] h = record { kept = refl; unchanged = refl; none = refl }
all_still old new a (b ∷ bs) h =
    let rest : List (Site × Site) = filter_map (λ b. cond (are_linked a b) (Some (a, b)) None) bs in
    elim (are_linked a b) as (λ c. AreStill old new (cons_option (cond c (Some (a, b)) None) rest)) [
      | true ↦ one_still old new (a, b) rest (h b) (all_still old new a bs h)
      | false ↦ all_still old new a bs h
    ]

pub site_still : (g : Input) (old new : Log) (a : Site) → IsGood g → IsBetween g old new → IsSiteOf g a
    → may_change_from (reach_after g old new new) a ≡ false → AreStill old new (links_from g a)
site_still g old new a good b here h =
    let r : Reach = reach_after g old new new in
    all_still old new a (all_sites g) (λ y.
    link_stays g old new good b a y (untouched_from r a y h) (ap length (nothing_put g old new good b a y here (aside r a h))))
