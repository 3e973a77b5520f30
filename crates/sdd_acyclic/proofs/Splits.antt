-- What a reader sees of the writers of a block: those below its time.
use Rattle.sdd_acyclic.proofs.All.{Bool, Catalogue, Cond, Contains, Contains-filter_map, Contains-map, Diagonal, Edge, Entry, FitsSystem, FragNo, IsClassOf, IsDiagonal, IsTable, List, Meets, Option, P2, P3, Protocol, Some, System, Waits, [], all_at, and_from, ap, arith, asked_by, asked_in, blocks_of, class_no, cond, cond_for, cond_of, condition_on, condition_under, conflict_graph, contains, diagonal_protocol, eq-eqb, false, first_block-vertical, frag_no, get_or, get_or-map, is_asked, is_read_at, length, length-append, length-map, length-map-range_with_len, list_any, map, nat_tests, numbers_to, option_and_then, option_eq, option_map, passes_member, protocol_between, protocol_in, protocol_known, refl, same_Some, same_protocol, slice_get, slice_get-get_or, slice_get-map, slice_get_within, slice_index, subst, sym, time_asked, time_in, true, vertical_block, vertical_block-lists, ℕ, ◌-◌, ◌<◌, ◌==◌, ◌||◌, ◌↔◌, ◌∙◌, ◌∷◌, ◌≡◌, ◌≢◌, ◌≤◌}
use Rattle.sdd_acyclic.proofs.Covers.{class_is}
use Rattle.sdd_protocol.proofs.Tables.{edges_of}

-- an entry asks for its fragment where it is a diagonal between the classes, with the protocol
asked_here : (protocol : Protocol) (test : ℕ → Bool) (i j f : ℕ) (x : Entry)
    → x.edge ≡ Diagonal (class_no i) (class_no j) (frag_no f) → same_protocol x.protocol protocol ≡ true
    → test f ≡ true → asked_in protocol test i j x ≡ Some (frag_no f)
asked_here protocol test i j f x e p t = grind (arith, and_from, eq-eqb)

-- a condition for fragments is there where there are some
cond_there : (j t : ℕ) (frags : List FragNo) (f : FragNo) → Contains frags f
    → cond_for j t frags ≡ Some (cond_of j t frags)
cond_there j t frags f h = grind arith

pub names_fragment : (frags : List FragNo) (f : FragNo) → Contains frags f → contains (map (λ g. g.0) frags) f.0 ≡ true
names_fragment frags f h =
    passes_member (λ x. x == f.0) (map (λ g. g.0) frags) f.0 (Contains-map (λ (g : FragNo). g.0) frags f h)
    (eq-eqb f.0 f.0 refl)

pub any_of_map : {X Y : Type 0} (p : Y → Bool) (g : X → Y) (xs : List X)
    → list_any (λ x. p (g x)) xs ≡ list_any p (map g xs)
any_of_map p g [] = refl
any_of_map p g (x ∷ xs) = ap (λ b. p (g x) || b) (any_of_map p g xs)

-- the protocol of a diagonal by its block
by_block : (here own : ℕ) → here ≢ 0 → diagonal_protocol here own ≡ cond (own == here) P3 P2
by_block here own n = grind arith

-- a condition on class j up to time t, for a fragment among others
pub record Asks (found : Option Cond) (j t f : ℕ) : Type 0 where
  pub condition : Cond
  pub is : found ≡ Some condition
  pub class_is : condition.class.0 ≡ j
  pub time_is : condition.time.0 ≡ t
  pub named : contains (map (λ g. g.0) condition.frags) f ≡ true

asks_for : (found : Option Cond) (j t : ℕ) (frags : List FragNo) (f : ℕ) → found ≡ Some (cond_of j t frags)
    → Contains frags (frag_no f) → Asks found j t f
asks_for found j t frags f e h =
    record { condition = cond_of j t frags; is = e; class_is = refl; time_is = refl; named = names_fragment frags (frag_no f) h }

module _ (era : Catalogue) (entries : List Entry) (table : IsTable era entries) where
  -- the entry at the place of an edge
  entry_at : (k : ℕ) (e : Edge) → slice_get (conflict_graph era) k ≡ Some e
      → (x : Entry) × (slice_get entries k ≡ Some x) × (x.edge ≡ e) × (slice_index (blocks_of entries) k ≡ x.block)
  entry_at k e h = grind (arith, slice_get, edges_of, slice_get_within, length-map, get_or, slice_get-get_or, slice_get-map, option_map, same_Some, get_or-map)

  -- the block of a vertical edge stands at the place of its class
  vertical_is : (i : ℕ) → IsClassOf era i → vertical_block entries i ≡ slice_index (blocks_of entries) (i - 1)
  vertical_is i c = grind (arith, length-append, length-map-range_with_len, blocks_of, length-map, vertical_block-lists, first_block-vertical)

  -- the entry of a diagonal in a block has P3 where the edge of its reader's nodes lies in the block, else P2
  pub record IsDiagonalEntry (i j f k : ℕ) : Type 0 where
    pub entry : Entry
    pub there : slice_get entries k ≡ Some entry
    pub edge : entry.edge ≡ Diagonal (class_no i) (class_no j) (frag_no f)
    pub protocol : entry.protocol ≡ cond (slice_index (blocks_of entries) (i - 1) == slice_index (blocks_of entries) k) P3 P2

  protocol_is : (i j f k : ℕ) → IsClassOf era i → IsDiagonal (conflict_graph era) k i j f
      → slice_index (blocks_of entries) k ≢ 0 → IsDiagonalEntry i j f k
  protocol_is i j f k c e z =
      let q = entry_at k (Diagonal (class_no i) (class_no j) (frag_no f)) e in
      let x = q.0 in
      let own = slice_index (blocks_of entries) (i - 1) in
      let here = slice_index (blocks_of entries) k in
      let p : x.protocol ≡ diagonal_protocol here own =
      all_at (λ w. w.protocol ≡ protocol_in entries w.edge w.block) entries k x table.protocols q.1
      ∙ ap (λ w. protocol_in entries w x.block) q.2
      ∙ ap (λ w. diagonal_protocol x.block w) (vertical_is i c)
      ∙ ap (λ w. diagonal_protocol w own) (sym q.3) in
      record { entry = x; there = q.1; edge = q.2; protocol = p ∙ by_block here own z }

  -- such an entry asks for its fragment
  in_asked : (i j f k : ℕ) (test : ℕ → Bool) (protocol : Protocol) (d : IsDiagonalEntry i j f k)
      → same_protocol d.entry.protocol protocol ≡ true → test f ≡ true
      → Contains (asked_by protocol test entries i j) (frag_no f)
  in_asked i j f k test protocol d p t =
      let l = slice_get_within entries k d.entry d.there in
      Contains-filter_map (asked_in protocol test i j) entries d.entry (frag_no f) (k, l, (grind (arith, nat_tests, same_Some, get_or, slice_get-get_or)))
      (asked_here protocol test i j f d.entry d.edge p t)

  -- so does the condition, up to the time of the protocol between the classes
  asks_by : (i j f k own p2 : ℕ) (test : ℕ → Bool) (protocol : Protocol) (t : ℕ) (d : IsDiagonalEntry i j f k)
      → protocol_between entries i j ≡ Some protocol → same_protocol d.entry.protocol protocol ≡ true
      → time_asked own p2 protocol ≡ Some t → test f ≡ true → Asks (condition_on test entries i own p2 j) j t f
  asks_by i j f k own p2 test protocol t d between same up passes =
      let frags = asked_by protocol test entries i j in
      let m = in_asked i j f k test protocol d same passes in
      asks_for (condition_on test entries i own p2 j) j t frags f
      (ap (λ o. option_and_then (condition_under test entries i own p2 j) o) between
      ∙ ap (λ o. option_and_then (λ u. cond_for j u frags) o) up
      ∙ cond_there j t frags (frag_no f) m) m

  -- the condition of a reader on the writers of a class with which it shares a diagonal in a block
  condition_there : (i j f k own p2 : ℕ) (test : ℕ → Bool) → IsClassOf era i → IsDiagonal (conflict_graph era) k i j f
      → slice_index (blocks_of entries) k ≢ 0 → test f ≡ true → Asks (condition_on test entries i own p2 j) j
      (cond (slice_index (blocks_of entries) (i - 1) == slice_index (blocks_of entries) k) own p2) f
  condition_there i j f k own p2 test c e z t =
      let d = protocol_is i j f k c e z in
      let between : protocol_between entries i j ≡ Some d.entry.protocol = protocol_known era entries k d.entry i j (frag_no f) table d.there d.edge in
      let whole : Option Cond = condition_on test entries i own p2 j in
      elim (slice_index (blocks_of entries) (i - 1) == slice_index (blocks_of entries) k) as
      (λ b. d.entry.protocol ≡ cond b P3 P2 → Asks whole j (cond b own p2) f) [
        | true ↦ λ p. asks_by i j f k own p2 test P3 own d (between ∙ ap (λ w. Some w) p) (ap (λ w. same_protocol w P3) p) refl t
        | false ↦ λ p. asks_by i j f k own p2 test P2 p2 d (between ∙ ap (λ w. Some w) p) (ap (λ w. same_protocol w P2) p) refl t
      ] d.protocol

  module _ (cat : Catalogue) {T : Type 0} (S : System T) (fits : FitsSystem era S) (frags : T → List FragNo) (meets : Meets cat entries S frags) where
    asked_of : (y : T) (f : ℕ) → S.Reads y f → is_asked cat (S.class y) (S.dm (S.class y) f) (frags y) f ≡ true
    asked_of y f r =
        let d = S.dm (S.class y) f in
        and_from (list_any (λ g. g.0 == f) (frags y)) (is_read_at cat (S.class y) d f)
        (any_of_map (λ n. n == f) (λ (g : FragNo). g.0) (frags y) ∙ meets.reads y f r) (grind (arith, nat_tests, option_eq, eq-eqb))

    split : (x y : T) (f k : ℕ) → S.class y ≢ S.class x → S.Reads y f → S.Changes x f
        → IsDiagonal (conflict_graph era) k (S.class y) (S.class x) f → slice_index (blocks_of entries) k ≢ 0
        → S.Seen x (S.dm (S.class y) f) y ↔ (S.ts x < time_in S (blocks_of entries) (slice_index (blocks_of entries) k) y)
    split x y f k n r w e z =
        let i = S.class y in
        let d = S.dm i f in
        let test = is_asked cat i d (frags y) in
        let c = condition_there i (S.class x) f k (S.ts y) (S.p2 y) test (fits.class y) e z (asked_of y f r) in
        let member =
        Contains-filter_map (condition_on test entries i (S.ts y) (S.p2 y)) (numbers_to (length cat.classes)) (S.class x)
        c.condition (class_is cat (S.class x) (meets.class x)) c.is in
        subst (λ t. S.Seen x d y ↔ (S.ts x < t)) c.time_is (meets.met x y f f c.condition r member c.class_is w c.named (meets.copies y f r))

    pub waits : ((x y : T) → S.class x ≡ S.class y → S.ts x ≤ S.ts y → S.p2 x ≤ S.p2 y)
        → Waits S (conflict_graph era) (blocks_of entries)
    waits rises = record { split = split; rises = rises }
