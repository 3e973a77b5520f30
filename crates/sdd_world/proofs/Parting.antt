-- What the parts of a world represent, as the log goes on.
use Rattle.sdd_world.proofs.All.{Act, All, All-append, All-cons, All-nil, All-weaker, AllRepresent, Bool, Boxes, Does, Event, Hand, History, Input, KeepsFor, List, Log, Mailbox, Mark, Msg, Position, Rec, Redeclares, Remain, Represent, Round, Setting, Site, Sites, Spooled, StayAtOthers, [], after_acts, ap, arith, false, history, is_down, is_down_acts, kept_from, left, left_acts, local_of, log_after, mailbox_at, map, marks, marks_acts, other_acts, own_acts, position_of, records_of_act, redeclares, refl, remain_acts, same_is, same_site, setting_of, subst, suc, sym, takes_part, takes_part_acts, true, ℕ, ◌++◌, ◌∙◌, ◌∷◌, ◌≡◌, ◌≤◌}
use Rattle.sdd_sites.specs.needs.site_module.SiteLog as site

-- no record is of a later event than the last

all_at : (n : ℕ) (rs : List Rec) → All {X = ℕ × Rec} (λ e. e.0 ≤ n) (map (λ r. (n, r)) rs)
all_at n [] = All-nil {X = ℕ × Rec} (λ e. e.0 ≤ n)
all_at n (r ∷ rs) = All-cons {X = ℕ × Rec} (λ e. e.0 ≤ n) (n, r) (map (λ r. (n, r)) rs) (omega arith) (all_at n rs)

events_append : (n : ℕ) (h : History) (rs : List Rec) → All {X = ℕ × Rec} (λ e. e.0 ≤ n) h → All {X = ℕ × Rec} (λ e. e.0 ≤ n) (h ++ map (λ r. (n, r)) rs)
events_append n h rs a = All-append {X = ℕ × Rec} (λ e. e.0 ≤ n) h (map (λ r. (n, r)) rs) a (all_at n rs)

pub later : (n m : ℕ) (h : History) → n ≤ m → All {X = ℕ × Rec} (λ e. e.0 ≤ n) h → All {X = ℕ × Rec} (λ e. e.0 ≤ m) h
later n m h l a = All-weaker {X = ℕ × Rec} (λ e. e.0 ≤ n) (λ e. e.0 ≤ m) (λ e p. omega (arith, p, l)) h a

pub events_before : (log : Log) → All {X = ℕ × Rec} (λ e. e.0 ≤ marks log) (history log)
events_before [] = All-nil {X = ℕ × Rec} (λ e. e.0 ≤ 0)
events_before (Mark e ∷ log) = later (marks log) (suc (marks log)) (history log) (omega arith) (events_before log)
events_before (Redeclares t ∷ log) = later (marks log) (suc (marks log)) (history log) (omega arith) (events_before log)
events_before (Round es ∷ log) = events_before log
events_before (Hand a b n m ∷ log) = events_before log
events_before (Does a act ∷ log) = events_append (marks log) (history log) (records_of_act act) (events_before log)
events_before (_ ∷ log) = All-append {X = ℕ × Rec} (λ e. e.0 ≤ marks log) (history log) _
    (events_before log) (All-cons {X = ℕ × Rec} (λ e. e.0 ≤ marks log) _ [] (omega arith) (All-nil {X =
    ℕ × Rec} (λ e. e.0 ≤ marks log)))

-- acts put no classes in force
pub redeclares_acts : (at : Site) (acts : List Act) (log : Log) → redeclares (after_acts at acts log) ≡ redeclares log
redeclares_acts at [] log = refl
redeclares_acts at (a ∷ acts) log = redeclares_acts at acts (Does at a ∷ log)

pub same_position : (a b : List Event × List Event) (m n : ℕ) → a ≡ b → m ≡ n → ◌≡◌ {A = Position} (record { rest = a; number = m }) (record { rest = b; number = n })
same_position a b m n e f = rw (e, f) refl

pub position_acts : (g : Input) (at : Site) (acts : List Act) (log : Log) → position_of g (after_acts at acts log) ≡ position_of g log
position_acts g at acts log = same_position (left g.events (after_acts at acts log)) (left g.events log)
    (marks (after_acts at acts log)) (marks log) (left_acts g.events at acts log) (marks_acts at acts log)

-- mailboxes stay as the log goes on, where no module turns and what remains stays

pub keeps_on : (g : Input) (log more : Log) (at : Site) (b : Mailbox Msg) → is_down at more ≡ is_down at log
    → ((x : Site) (rest : List Msg) → Remain log x at rest → Remain more x at rest) → KeepsFor g log at b → KeepsFor g more at b
keeps_on g log more at b same remains k = record {
  down_is = k.down_is ∙ sym same;
  senders = k.senders;
  kept = λ e x. remains x (kept_from b x) (k.kept (sym same ∙ e) x);
  empty = λ e x. k.empty (sym same ∙ e) x;
}

pub spooled_on : (g : Input) (log more : Log) (boxes : Boxes Msg) (busy : Site) → ((at : Site) → is_down at more ≡ is_down at log)
    → ((at : Site) → same_site at busy ≡ false → (x : Site) (rest : List Msg) → Remain log x at rest → Remain more x at rest)
    → Spooled g log boxes busy → Spooled g more boxes busy
spooled_on g log more boxes busy same remains s = record {
  has = s.has;
  each = λ at here apart. keeps_on g log more at (mailbox_at boxes at) (same at) (remains at apart) (s.each at here apart);
}

pub spooled_acts : (g : Input) (at : Site) (acts : List Act) (log : Log) (boxes : Boxes Msg) (busy : Site)
    → Spooled g log boxes busy → Spooled g (after_acts at acts log) boxes busy
spooled_acts g at acts log boxes busy s =
    spooled_on g log (after_acts at acts log) boxes busy (λ b. is_down_acts b at acts log) (λ b apart x rest r. remain_acts at acts log x b rest r) s

-- the modules, as the log goes on

-- where a site takes part as before and its log stays
pub represent_on : (m : Sites) (at : Site) (p q : Bool) (setting : Setting) (l k : site.Log) → q ≡ p → k ≡ l
    → Represent m p at setting l → Represent m q at setting k
represent_on m at p q setting l k e f h = subst (λ z. Represent m z at setting k) (sym e) (subst (λ z. Represent m p at setting z) (sym f) h)

pub all_on : (m : Sites) (g : Input) (log more : Log) → ((at : Site) → takes_part at more ≡ takes_part at log)
    → ((at : Site) → local_of g at more ≡ local_of g at log) → AllRepresent m g log → AllRepresent m g more
all_on m g log more part same all at here =
    represent_on m at (takes_part at log) (takes_part at more) (setting_of g at) (local_of g at log) (local_of g at more) (part at) (same at) (all at here)

-- one module did what is due, and the others stay
pub all_after : (old new : Sites) (g : Input) (log base : Log) (at : Site) (acts : List Act) (l : site.Log)
    → ((x : Site) → same_site x at ≡ false → takes_part x base ≡ takes_part x log)
    → ((x : Site) → same_site x at ≡ false → local_of g x base ≡ local_of g x log) → local_of g at base ≡ l
    → Represent new (takes_part at base) at (setting_of g at) (log_after acts l) → StayAtOthers old new at
    → AllRepresent old g log → AllRepresent new g (after_acts at acts base)
all_after old new g log base at acts l part same own after others all x here =
    let more : Log = after_acts at acts base in
    elim (same_site x at) as (λ c. same_site x at ≡ c → Represent new (takes_part x more) x (setting_of g x) (local_of g x more)) [
      | true ↦ λ p. subst (λ z. Represent new (takes_part z more) z (setting_of g z) (local_of g z more)) (sym (same_is x at p))
          (represent_on new at (takes_part at base) (takes_part at more) (setting_of g at) (log_after acts l) (local_of g at more)
          (takes_part_acts at at acts base) (own_acts g at acts base ∙ ap (λ k. log_after acts k) own) after)
      | false ↦ λ p. represent_on new x (takes_part x log) (takes_part x more) (setting_of g x) (local_of g x log) (local_of g x more)
          (takes_part_acts x at acts base ∙ part x p) (other_acts g x at acts base p ∙ same x p)
          (others x (takes_part x log) (setting_of g x) (local_of g x log) p (all x here))
    ] refl
