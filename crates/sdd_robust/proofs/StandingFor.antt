-- Members that stand for all, by what they access.
use Rattle.std.proofs.Common.{Contains, List, [], ap, inl, inr, length, slice_index_or as get_or, subst, sym, take, ℕ, ◌++◌, ◌+◌, ◌<◌, ◌∙◌, ◌∷◌, ◌≡◌, ◌≤◌, ◌⊎◌}
use Rattle.std.proofs.lemmas.List.{map-append, take_more}
use Rattle.std.proofs.lemmas.List.Elements.{Contains-append_left, Contains-push, Contains-push_cases}
use Rattle.std.specs.Borrow.{Bor}
use Rattle.sdd_lang.proofs.base.Membership.{Contains-nil}
use Rattle.sdd_links.proofs.Members.{Contains-from_map, Contains-map}
use Rattle.sdd_robust_laws.specs.Shown.{AreLinked, IsBeside, IsDangerous}
use Rattle.sdd_robust_laws.specs.Shown.AreLinked.{further, itself}
use Rattle.sdd_robust_laws.specs.declared.access.Access.{Access}
use Rattle.sdd_robust.specs.Members.{StandFor, kinds, lent}
use Rattle.sdd_robust.specs.Pivots.{IsPivot}
use Rattle.sdd_robust.specs.declared.member.Member.{Member}
use Rattle.sdd_robust.proofs.Steps.{each_all, each_more}

-- One more that is lent.

pub lent_pushed : (old more : List (Bor Member)) (x : Bor Member) → more ≡ old ++ x ∷ [] → lent more ≡ lent old ++ x.now ∷ []
lent_pushed old more x e = ap lent e ∙ map-append (λ (m : Bor Member). m.now) old (x ∷ [])

pub pushed_kept : (old more : List (Bor Member)) (x : Bor Member) → more ≡ old ++ x ∷ []
    → (m : Member) → Contains (lent old) m → Contains (lent more) m
pushed_kept old more x e m h =
    subst (λ z. Contains z m) (sym (lent_pushed old more x e)) (Contains-append_left (lent old) (x.now ∷ []) m h)

pub pushed_of_them : (old more : List (Bor Member)) (x : Bor Member) → more ≡ old ++ x ∷ []
    → (m : Member) → Contains (lent more) m → Contains (lent old) m ⊎ (x.now ≡ m)
pushed_of_them old more x e m h = Contains-push_cases (lent old) x.now m (subst (λ z. Contains z m) (lent_pushed old more x e) h)

pub like_pushed : (old more : List (Bor Member)) (x : Bor Member) → more ≡ old ++ x ∷ [] → Contains (kinds (lent more)) x.now.accesses
like_pushed old more x e =
    Contains-map (λ (m : Member). m.accesses) (lent more) x.now
    (subst (λ z. Contains z x.now) (sym (lent_pushed old more x e)) (Contains-push (lent old) x.now))

-- More members access more.
kinds_more : (few more : List Member) → ((m : Member) → Contains few m → Contains more m)
    → (a : List Access) → Contains (kinds few) a → Contains (kinds more) a
kinds_more few more wider a h =
    let m = Contains-from_map (λ (m : Member). m.accesses) few a h in
    subst (Contains (kinds more)) (sym m.2) (Contains-map (λ (m : Member). m.accesses) more m.0 (wider m.0 m.1))

-- None stand for none, and with one more for one more.

pub stand_begun : (few : List Member) → few ≡ [] → StandFor [] few
stand_begun few e = record { there = λ m h. subst (λ z. Contains z m) e h; each = λ m h. absurd (Contains-nil m h) }

module _ (all few more : List Member) (i : ℕ) (x : Member) (l : i < length all) (is : get_or all i x ≡ x)
    (kept : (m : Member) → Contains few m → Contains more m) (of_them : (m : Member) → Contains more m → Contains few m ⊎ (x ≡ m))
    (like : Contains (kinds more) x.accesses) (stand : StandFor (take i all) few) where
  one_more : take (i + 1) all ≡ take i all ++ x ∷ []
  one_more = take_more all i x l ∙ ap (λ z. take i all ++ z ∷ []) is

  there_new : (m : Member) → Contains few m ⊎ (x ≡ m) → Contains (take i all ++ x ∷ []) m
  there_new m (inl before) = Contains-append_left (take i all) (x ∷ []) m (stand.there m before)
  there_new m (inr e) = subst (Contains (take i all ++ x ∷ [])) e (Contains-push (take i all) x)

  pub stand_more : StandFor (take (i + 1) all) more
  stand_more = record {
    there = λ m h. subst (λ z. Contains z m) (sym one_more) (there_new m (of_them m h));
    each = each_more (λ (m : Member). Contains (kinds more) m.accesses) all i x l is like
        (λ m h. kinds_more few more kept m.accesses (stand.each m h));
  }

-- All access what those do that stand for them.

all_kinds : (all few : List Member) → StandFor all few → (a : List Access) → Contains (kinds all) a → Contains (kinds few) a
all_kinds all few stand a h =
    let m = Contains-from_map (λ (m : Member). m.accesses) all a h in
    subst (Contains (kinds few)) (sym m.2) (stand.each m.0 m.1)

-- So one is dangerous among all where it is among those that stand for them, and the other way round.

module _ (some others : List (List Access)) (wider : (a : List Access) → Contains some a → Contains others a) (pivot : List Access) where
  beside_in : (c : List Access) → IsBeside some pivot c → IsBeside others pivot c
  beside_in c b = record { there = wider c b.there; may_both = b.may_both }

  linked_in : (c a : List Access) → AreLinked some pivot c a → AreLinked others pivot c a
  linked_in _ _ (itself c b) = itself c (beside_in c b)
  linked_in _ _ (further c d a b e rest) = further c d a (beside_in c b) e (linked_in d a rest)

  pub dangerous_in : IsDangerous some pivot → IsDangerous others pivot
  dangerous_in d = record {
    missed = d.missed;
    missing = d.missing;
    linked = linked_in d.missed d.missing d.linked;
    read = d.read;
    change = d.change;
    of_read = d.of_read;
    of_change = d.of_change;
    reads = d.reads;
    changes = d.changes;
    differ = d.differ;
  }

pub none_of_all : (all few : List Member) → StandFor all few → (pivot : List Access) → (IsDangerous (kinds few) pivot → ⊥)
    → IsDangerous (kinds all) pivot → ⊥
none_of_all all few stand pivot none d = none (dangerous_in (kinds all) (kinds few) (all_kinds all few stand) pivot d)

pub pivot_of_all : (all few : List Member) → StandFor all few → (pivot missed missing : Member) → IsPivot few pivot missed missing
    → IsPivot all pivot missed missing
unfolding dangerous_in
pivot_of_all all few stand pivot missed missing is = record {
  pivot_there = stand.there pivot is.pivot_there;
  missed_there = stand.there missed is.missed_there;
  missing_there = stand.there missing is.missing_there;
  dangerous = dangerous_in (kinds few) (kinds all) (kinds_more few all stand.there) pivot.accesses is.dangerous;
  missed_is = is.missed_is;
  missing_is = is.missing_is;
}

-- and where none of those that stand for all is a pivot, none is
pub no_pivot_among : (all few : List Member) (n : ℕ) → length few ≤ n → StandFor all few
    → ((m : Member) → Contains (take n few) m → IsDangerous (kinds all) m.accesses → ⊥)
    → (pivot : List Access) → Contains (kinds all) pivot → IsDangerous (kinds all) pivot → ⊥
no_pivot_among all few n l stand none pivot there d =
    let m = Contains-from_map (λ (m : Member). m.accesses) few pivot (all_kinds all few stand pivot there) in
    each_all (λ (m : Member). IsDangerous (kinds all) m.accesses → ⊥) few n l none m.0 m.1 (subst (IsDangerous (kinds all)) m.2 d)
