-- A look at the queues of each site, one after the other.
use Rattle.sdd_moments.proofs.All.{All, All-head, All-tail, AreAside, Bool, Both, Input, IsSiteOf, List, Log, QueueMoment, Reach, Site, [], all_sites, ap, arith, false, flat_map, get_or, length, length-map, map, queues_by, queues_if, refl, slice_set, sym, take, take_all, true, ℕ, ◌++◌, ◌+◌, ◌<◌, ◌∙◌, ◌∷◌, ◌≡◌, ◌≤◌}
use Rattle.sdd_moments.proofs.SitesThere.{sites_there}
use Rattle.sdd_moments.proofs.LinksLooked.{site_here}
use Rattle.sdd_moments.proofs.Visited.{PlaceAt, all_changed, changed_to, group_more, place_at}

-- of the first so many sites what is kept and was seen
pub record QueuesSoFar (g : Input) (old new : Log) (moved : Bool) (reach : Reach) (i : ℕ)
    (queues : List (Site × List QueueMoment)) (now : Both QueueMoment) : Type 0 where
  pub queues_are : queues ≡ changed_to (queues_by g old) (queues_by g new) i (all_sites g)
  pub before_are : now.before.items ≡ flat_map (queues_if moved reach g old) (take i (all_sites g))
  pub after_are : now.after.items ≡ flat_map (queues_if moved reach g new) (take i (all_sites g))

pub no_queues_yet : (g : Input) (old new : Log) (moved : Bool) (reach : Reach) (queues : List (Site × List QueueMoment)) (first : Both QueueMoment)
    → queues ≡ map (queues_by g old) (all_sites g) → first.before.items ≡ [] → first.after.items ≡ []
    → QueuesSoFar g old new moved reach 0 queues first
no_queues_yet g old new moved reach queues first e b a = record { queues_are = e; before_are = b; after_are = a }

pub queues_at_hand : (g : Input) (old new : Log) (moved : Bool) (reach : Reach) (begun queues : List (Site × List QueueMoment)) (i : ℕ)
    (x : Site × List QueueMoment) (now : Both QueueMoment) → begun ≡ map (queues_by g old) (all_sites g) → i < length begun
    → QueuesSoFar g old new moved reach i queues now → x ≡ get_or queues i x
    → PlaceAt (queues_by g old) (queues_by g new) (all_sites g) queues i (i + 1) x
queues_at_hand g old new moved reach begun queues i x now e few s is =
    let n = ap length e ∙ length-map (all_sites g) (queues_by g old) in
    place_at (queues_by g old) (queues_by g new) (all_sites g) queues i (i + 1) x (omega arith) (omega (arith, few, n)) s.queues_are is

more_seen : (f : Site → List QueueMoment) (all : List Site) (i : ℕ) (a : Site) (now then : List QueueMoment) → take (i + 1) all ≡ take i all ++ a ∷ []
    → now ≡ flat_map f (take i all) → then ≡ now ++ f a → then ≡ flat_map f (take (i + 1) all)
more_seen f all i a now then more e add = add ∙ ap (λ qs. qs ++ f a) e ∙ sym (group_more f (take i all) a (take (i + 1) all) more)

pub queues_more : (g : Input) (old new : Log) (moved : Bool) (reach : Reach) (begun queues : List (Site × List QueueMoment)) (i : ℕ)
    (x next : Site × List QueueMoment) (now then : Both QueueMoment) → begun ≡ map (queues_by g old) (all_sites g) → i < length begun
    → QueuesSoFar g old new moved reach i queues now → x ≡ get_or queues i x
    → ((a : Site) → IsSiteOf g a → x ≡ queues_by g old a → next ≡ queues_by g new a)
    → ((a : Site) → x ≡ queues_by g old a → then.before.items ≡ now.before.items ++ queues_if moved reach g old a)
    → ((a : Site) → IsSiteOf g a → x ≡ queues_by g old a → then.after.items ≡ now.after.items ++ queues_if moved reach g new a)
    → QueuesSoFar g old new moved reach (i + 1) (slice_set queues i next) then
queues_more g old new moved reach begun queues i x next now then e few s is keeps b a =
    let p = queues_at_hand g old new moved reach begun queues i x now e few s is in
    let here = site_here g i p.place p.is_there in
    record {
      queues_are = p.changed next (keeps p.place here p.stood);
      before_are = more_seen (queues_if moved reach g old) (all_sites g) i p.place now.before.items then.before.items p.further s.before_are
          (b p.place p.stood);
      after_are = more_seen (queues_if moved reach g new) (all_sites g) i p.place now.after.items then.after.items p.further s.after_are
          (a p.place here p.stood);
    }

pub record QueuesOver (g : Input) (old new : Log) (moved : Bool) (reach : Reach)
    (queues : List (Site × List QueueMoment)) (now : Both QueueMoment) : Type 0 where
  pub queues_are : queues ≡ map (queues_by g new) (all_sites g)
  pub before_are : now.before.items ≡ flat_map (queues_if moved reach g old) (all_sites g)
  pub after_are : now.after.items ≡ flat_map (queues_if moved reach g new) (all_sites g)

pub queues_over : (g : Input) (old new : Log) (moved : Bool) (reach : Reach) (begun queues : List (Site × List QueueMoment)) (i : ℕ) (now : Both QueueMoment)
    → begun ≡ map (queues_by g old) (all_sites g) → length begun ≤ i → QueuesSoFar g old new moved reach i queues now
    → QueuesOver g old new moved reach queues now
queues_over g old new moved reach begun queues i now e past s =
    let n = ap length e ∙ length-map (all_sites g) (queues_by g old) in
    let all : take i (all_sites g) ≡ all_sites g = take_all i (all_sites g) (omega (arith, past, n)) in
    record {
      queues_are = s.queues_are ∙ all_changed (queues_by g old) (queues_by g new) i (all_sites g) (omega (arith, past, n));
      before_are = s.before_are ∙ ap (flat_map (queues_if moved reach g old)) all;
      after_are = s.after_are ∙ ap (flat_map (queues_if moved reach g new)) all;
    }

-- where no transaction entered a queue or left one, no site is looked at

none_looked_at : (reach : Reach) (g : Input) (log : Log) (sites : List Site) → flat_map (queues_if false reach g log) sites ≡ []
none_looked_at reach g log [] = refl
none_looked_at reach g log (a ∷ sites) = none_looked_at reach g log sites

all_stay : (g : Input) (old new : Log) (reach : Reach) → AreAside g old new false reach → (sites : List Site) → All (IsSiteOf g) sites
    → map (queues_by g old) sites ≡ map (queues_by g new) sites
all_stay g old new reach aside [] there = refl
all_stay g old new reach aside (a ∷ sites) there =
    let same = sym (aside a (All-head (IsSiteOf g) a sites there) refl) in
    let rest = all_stay g old new reach aside sites (All-tail (IsSiteOf g) a sites there) in
    (λ i. (a, same i) ∷ rest i)

pub all_passed : (g : Input) (old new : Log) (moved : Bool) (reach : Reach) (queues : List (Site × List QueueMoment)) (now : Both QueueMoment)
    → moved ≡ false → AreAside g old new moved reach → queues ≡ map (queues_by g old) (all_sites g) → now.before.items ≡ [] → now.after.items ≡ []
    → QueuesOver g old new moved reach queues now
all_passed g old new true reach queues now e aside stood b a = let no : true ≡ false = e in cc
all_passed g old new false reach queues now e aside stood b a = record {
  queues_are = stood ∙ all_stay g old new reach aside (all_sites g) (sites_there g);
  before_are = b ∙ sym (none_looked_at reach g old (all_sites g));
  after_are = a ∙ sym (none_looked_at reach g new (all_sites g));
}
