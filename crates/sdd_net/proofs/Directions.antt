-- A call on one link changes that link and the link back, and no other.
use Rattle.sdd_net.proofs.All.{Call, Channel, ChannelsRepresent, Delivers, FitsWay, IsTrue, Link, List, Loses, Puts, Repeats, Resends, Site, [], after_call, and_parts, ap, are_linked, arith, both_ways, deliver, false, if◌then◌else◌, index_of, is_link, is_site, leb-true, link, lose, nat_le, nat_tests, on_link, put, refl, repeat, resend, same_from_place, same_site, site_count, slice_get, subst, sym, true, turned, ℕ, ◌&&◌, ◌<◌, ◌∙◌, ◌∷◌, ◌≡◌, ◌≢◌, ◌≤◌}
use Rattle.sdd_net.specs.Nets.{place_of}

pub same_is : (a b : Site) → same_site a b ≡ true → a ≡ b
same_is a b e = grind (arith, nat_tests)

pub same_here : (a : Site) → same_site a a ≡ true
same_here a = grind (arith, nat_tests)

linked_apart : (a b : Site) → are_linked a b ≡ true → a ≢ b
linked_apart a b e = grind (arith, nat_tests)

linked_back : (a b : Site) → are_linked a b ≡ true → are_linked b a ≡ true
linked_back a b e = grind (arith, nat_tests)

pub record LinkParts (tms dms : ℕ) (a b : Site) : Type 0 where
  pub from : is_site tms dms a ≡ true
  pub to : is_site tms dms b ≡ true
  pub linked : are_linked a b ≡ true

pub link_parts : (tms dms : ℕ) (a b : Site) → IsTrue (is_link tms dms a b) → LinkParts tms dms a b
link_parts tms dms a b h = grind (arith, nat_tests)

pub link_back : (tms dms : ℕ) (a b : Site) → IsTrue (is_link tms dms a b) → IsTrue (is_link tms dms b a)
link_back tms dms a b h = grind (arith, nat_tests)

pub within : (n most : ℕ) → (nat_le 1 n && nat_le n most) ≡ true → (1 ≤ n) × (n ≤ most)
within n most e = let p = and_parts (nat_le 1 n) (nat_le n most) e in (leb-true 1 n p.0, leb-true n most p.1)

pub place_below : (tms dms : ℕ) (a : Site) → is_site tms dms a ≡ true → place_of tms a < site_count tms dms
place_below tms dms a e = grind (arith, nat_tests)

-- two links have one index only if they are one
pub index_is : (tms dms : ℕ) (a b c d : Site) → IsTrue (is_link tms dms a b)
    → IsTrue (is_link tms dms c d) → index_of tms dms a b ≡ index_of tms dms c d → (a ≡ c) × (b ≡ d)
index_is tms dms a b c d h k e =
    let p = link_parts tms dms a b h in
    let same = same_from_place (place_of tms a) (place_of tms b) (place_of tms c) (place_of tms d) (site_count tms dms) (place_below tms dms b p.to)
    (place_below tms dms d (link_parts tms dms c d k).to) e in
    ((grind (arith, nat_tests)), (grind (arith, nat_tests)))

pub index_apart : (tms dms : ℕ) (a b : Site) → IsTrue (is_link tms dms a b)
    → index_of tms dms a b ≢ index_of tms dms b a
index_apart tms dms a b h e = grind (arith, nat_tests, linked_apart, link_parts, index_is, link_back)

-- the link back is the link, turned
on_link_turned : {M : Type 0} (a b from to : Site) (f : Link M → Link M) (l : Link M) → a ≢ b
    → on_link b a from to f (turned l) ≡ turned (on_link a b from to f l)
on_link_turned a b from to f l ne = grind (arith, nat_tests)

pub link_turned : {M : Type 0} (a b : Site) (calls : List (Call M)) → a ≢ b → link b a calls ≡ turned (link a b calls)
link_turned a b [] ne = refl
link_turned a b (Puts from to m ∷ calls) ne =
    ap (on_link b a from to (put m)) (link_turned a b calls ne) ∙ on_link_turned a b from to (put m) (link a b calls) ne
link_turned a b (Delivers from to place ∷ calls) ne =
    ap (on_link b a from to (deliver place)) (link_turned a b calls ne) ∙ on_link_turned a b from to (deliver place) (link a b calls) ne
link_turned a b (Loses from to place ∷ calls) ne =
    ap (on_link b a from to (lose place)) (link_turned a b calls ne) ∙ on_link_turned a b from to (lose place) (link a b calls) ne
link_turned a b (Repeats from to place ∷ calls) ne =
    ap (on_link b a from to (repeat place)) (link_turned a b calls ne) ∙ on_link_turned a b from to (repeat place) (link a b calls) ne
link_turned a b (Resends from to ∷ calls) ne =
    ap (on_link b a from to resend) (link_turned a b calls ne) ∙ on_link_turned a b from to resend (link a b calls) ne

pub back_is : {M : Type 0} (tms dms : ℕ) (a b : Site) (calls : List (Call M))
    → IsTrue (is_link tms dms a b) → (link b a calls).there ≡ (link a b calls).back
back_is tms dms a b calls h = ap (λ l. l.there) (link_turned a b calls (linked_apart a b (link_parts tms dms a b h).linked))

-- what a call does to the channels of its link makes the network represent the calls with it
pub step : {M : Type 0} (tms dms : ℕ) (old new : List (Channel M)) (calls : List (Call M)) (call : Call M) (from to : Site) (f : Link M → Link M)
    → ((a b : Site) (l : Link M) → after_call a b call l ≡ on_link a b from to f l)
    → IsTrue (is_link tms dms from to) → ChannelsRepresent tms dms old calls
    → FitsWay (slice_get new (index_of tms dms from to)) (f (link from to calls)).there
    → FitsWay (slice_get new (index_of tms dms to from)) (f (link from to calls)).back
    → ((k : ℕ) → k ≢ index_of tms dms from to → k ≢ index_of tms dms to from → slice_get new k ≡ slice_get old k)
    → ChannelsRepresent tms dms new (call ∷ calls)
step {M = M} tms dms old new calls call from to f is exists represents there back others = λ a b linked.
    let G : Link M → Type 0 = λ l. FitsWay (slice_get new (index_of tms dms a b)) l.there in
    subst G (sym (is a b (link a b calls)))
    (elim (same_site a from && same_site b to) as
    (λ c. (same_site a from && same_site b to) ≡ c → G
    (if c then f (link a b calls) else if same_site a to && same_site b from then turned (f (turned (link a b calls))) else link a b calls)) [
      | true ↦ λ p. (let q = and_parts (same_site a from) (same_site b to) p in
          subst (λ x. FitsWay (slice_get new (index_of tms dms x b)) (f (link x b calls)).there) (sym (same_is a from q.0))
          (subst (λ x. FitsWay (slice_get new (index_of tms dms from x)) (f (link from x calls)).there) (sym (same_is b to q.1)) there))
      | false ↦ λ p. elim (same_site a to && same_site b from) as
          (λ c. (same_site a to && same_site b from) ≡ c → G (if c then turned (f (turned (link a b calls))) else link a b calls)) [
            | true ↦ λ t. (let q = and_parts (same_site a to) (same_site b from) t in
                subst (λ x. FitsWay (slice_get new (index_of tms dms x b)) (f (turned (link x b calls))).back) (sym (same_is a to q.0))
                (subst (λ x. FitsWay (slice_get new (index_of tms dms to x)) (f (turned (link to x calls))).back) (sym (same_is b from q.1))
                (grind (arith, slice_get, index_of, turned, link_turned, linked_apart, link_parts))))
            | false ↦ λ t.
                subst (λ o. FitsWay o (link a b calls).there)
                (sym (others (index_of tms dms a b)
                (λ e. let q = index_is tms dms a b from to linked exists e in
                both_ways (same_site a from && same_site b to) p (rw (q.0, q.1, same_here from, same_here to) refl))
                (λ e. let q = index_is tms dms a b to from linked (link_back tms dms from to exists) e in
                both_ways (same_site a to && same_site b from) t (rw (q.0, q.1, same_here from, same_here to) refl))))
                (represents a b linked)
          ] refl
    ] refl)

-- where the call changes one direction
pub one_way : {M : Type 0} (tms dms : ℕ) (old new : List (Channel M)) (calls : List (Call M)) (call : Call M) (from to : Site) (f : Link M → Link M)
    → ((a b : Site) (l : Link M) → after_call a b call l ≡ on_link a b from to f l)
    → ((l : Link M) → (f l).back ≡ l.back) → IsTrue (is_link tms dms from to) → ChannelsRepresent tms dms old calls
    → FitsWay (slice_get new (index_of tms dms from to)) (f (link from to calls)).there
    → ((k : ℕ) → k ≢ index_of tms dms from to → slice_get new k ≡ slice_get old k) → ChannelsRepresent tms dms new (call ∷ calls)
one_way {M = M} tms dms old new calls call from to f is same exists represents there others =
    step tms dms old new calls call from to f is exists represents there
    (grind (arith, slice_get, index_of, link, back_is, index_apart, link_back))
    (λ k here back. others k here)
