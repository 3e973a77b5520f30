-- A receiver's window against all that ever arrived.
use Rattle.sdd_receiver.proofs.All.{AreSent, Ascends, HasReceived, IsEarly, IsTrue, Kept, List, Receiving, Some, [], add-zero, ap, arith, contains, dec_le, drop, drop_all, eq-eqb, eqb-false, eqb-true, false, handed_on, in_turn, insert_entry, le-leb, length, length-take, lt-leb, match_ordering, nat_cmp, nat_le, nat_tests, ne_eqb, numbers, out_of_turn, received, refl, slice_get, subst, suc, sym, take, top, true, ℕ, ◌+◌, ◌-◌, ◌<◌, ◌==◌, ◌||◌, ◌∙◌, ◌∷◌, ◌≡◌, ◌≢◌, ◌≤◌}
use Rattle.sdd_receiver.proofs.Lists.{by_order, drop-member, get-take}
use Rattle.sdd_receiver.proofs.Tops.{top_is, stops, starts, counts_up, repeated}

-- numbers that ascend above k have none at or below it
none_below : {M : Type 0} (k j : ℕ) (early : List (ℕ × M)) → Ascends k early → j ≤ k
    → contains (numbers early) j ≡ false
none_below k j [] h l = refl
none_below k j ((n, m) ∷ rest) h l = grind (arith, nat_tests, (none_below n j rest h.1 (omega (arith, h.0))))

-- a message that comes early goes to its place
ascends_insert : {M : Type 0} (k n : ℕ) (m : M) (early : List (ℕ × M)) → Ascends k early → k < n
    → Ascends k (insert_entry nat_cmp early n m)
ascends_insert k n m [] h l = (l, tt)
ascends_insert k n m ((x, y) ∷ rest) h l =
    by_order n x (λ o. Ascends k (match_ordering o ((n, m) ∷ (x, y) ∷ rest) ((x, m) ∷ rest) ((x, y) ∷ insert_entry nat_cmp rest n m)))
    (λ less. (l, (less, h.1)))
    (λ same. (h.0, h.1))
    (λ more. (h.0, ascends_insert x n m rest h.1 more))

are_sent_insert : {M : Type 0} (sent : List M) (n : ℕ) (m : M) (early : List (ℕ × M))
    → AreSent sent early → slice_get sent (n - 1) ≡ Some m → AreSent sent (insert_entry nat_cmp early n m)
are_sent_insert sent n m [] h e = (e, tt)
are_sent_insert sent n m ((x, y) ∷ rest) h e = grind (arith, by_order, match_ordering, insert_entry, nat_cmp, slice_get, (are_sent_insert sent n m rest h.1 e))

has_insert : {M : Type 0} (j n : ℕ) (m : M) (early : List (ℕ × M))
    → contains (numbers (insert_entry nat_cmp early n m)) j ≡ ((n == j) || contains (numbers early) j)
has_insert j n m [] = refl
has_insert j n m ((x, y) ∷ rest) = grind (arith, nat_tests, (has_insert j n m rest))

-- what is in turn is what leads to the new count
pub record Turns {M : Type 0} (k : ℕ) (ns : List ℕ) (sent : List M) (early : List (ℕ × M)) : Type 0 where
  pub count : k + length (in_turn k early) ≡ top ns
  pub handed : in_turn k early ≡ drop k (take (top ns) sent)
  pub waits : IsEarly (top ns) ns sent (out_of_turn k early)

stays : {M : Type 0} (k : ℕ) (ns : List ℕ) (sent : List M) (early : List (ℕ × M))
    → IsEarly k ns sent early → k ≡ top ns → in_turn k early ≡ [] → out_of_turn k early ≡ early → Turns k ns sent early
stays {M = M} k ns sent early h e none rest = grind (arith, nat_tests, add-zero, drop_all, length-take)

turn : {M : Type 0} (k : ℕ) (ns : List ℕ) (sent : List M) (m : M) (rest : List (ℕ × M))
    → IsEarly k ns sent ((k + 1, m) ∷ rest) → Turns (k + 1) ns sent rest → Turns k ns sent ((k + 1, m) ∷ rest)
turn {M = M} k ns sent m rest h t =
    let test : (k + 1 == k + 1) ≡ true = eq-eqb (k + 1) (k + 1) refl in
    let at : k + 1 - 1 ≡ k = omega arith in
    let here : slice_get (take (top ns) sent) k ≡ Some m = get-take sent (top ns) k m (omega (arith, t.count)) (rw at at h.are_sent.0) in
    let one : suc k ≡ k + 1 = omega arith in
    record {
      count = rw test (omega (arith, t.count));
      handed = rw test (ap (λ ms. m ∷ ms) t.handed ∙ ap (λ j. m ∷ drop j (take (top ns) sent)) (sym one) ∙ sym (drop-member (take (top ns) sent) k m here));
      waits = rw test t.waits;
    }

pub turns_to : {M : Type 0} (k : ℕ) (ns : List ℕ) (sent : List M) (early : List (ℕ × M))
    → IsEarly k ns sent early → ((j : ℕ) → j < k → contains ns (suc j) ≡ true) → Turns k ns sent early
turns_to k ns sent [] h below = stays k ns sent [] h (stops ns k below (sym (h.same (suc k) (omega arith)))) refl refl
turns_to {M = M} k ns sent ((x, m) ∷ rest) h below = elim (x == k + 1) as (λ b. (x == k + 1) ≡ b → Turns k ns sent ((x, m) ∷ rest)) [
  | true ↦ λ p. (let same : x ≡ k + 1 = eqb-true x (k + 1) p in
      let one : suc k ≡ k + 1 = omega arith in
      let below1 : (j : ℕ) → j < k + 1 → contains ns (suc j) ≡ true = λ j l. counts_up ns k below (grind (arith, nat_tests)) j (omega arith) in
      subst (λ z. Turns k ns sent ((z, m) ∷ rest)) (sym same)
      (turn k ns sent m rest (subst (λ z. IsEarly k ns sent ((z, m) ∷ rest)) same h) (turns_to (k + 1) ns sent rest (grind (arith, nat_tests)) below1)))
  | false ↦ λ p. (let ne : x ≢ k + 1 = eqb-false x (k + 1) p in
      let gap : contains (numbers ((x, m) ∷ rest)) (suc k) ≡ false = none_below (suc k) (suc k) ((x, m) ∷ rest) (omega (arith, ne, h.ascends.0), h.ascends.1)
      (omega arith) in
      stays k ns sent ((x, m) ∷ rest) h (stops ns k below (sym (h.same (suc k) (omega arith)) ∙ gap)) (rw p refl) (rw p refl))
] refl

-- the arrival of message n: the receiver represents one number more, and hands on what just came to belong to 1 to k
pub record Receives {M : Type 0} (n : ℕ) (m : M) (arrived : List ℕ) (sent : List M) (r : Receiving M) : Type 0 where
  pub represents : HasReceived (received n m r) (n ∷ arrived) sent
  pub handed : handed_on n m r ≡ drop (top arrived) (take (top (n ∷ arrived)) sent)

receives_old : {M : Type 0} (n : ℕ) (m : M) (arrived : List ℕ) (sent : List M) (r : Receiving M)
    → 1 ≤ n → n ≤ top arrived → HasReceived r arrived sent → Receives n m arrived sent r
receives_old {M = M} n m arrived sent r one old h =
    let there : contains arrived n ≡ true = subst (λ j. contains arrived j ≡ true) (omega arith) ((top_is arrived).0 (n - 1) (omega arith)) in
    let same : top (n ∷ arrived) ≡ top arrived = repeated n arrived there in
    let test : nat_le n r.count ≡ true = le-leb n r.count (omega (arith, h.count)) in
    record {
      represents = grind (arith, ne_eqb);
      handed = rw (test, same) (sym (drop_all (top arrived) (take (top arrived) sent) (omega (arith, length-take (top arrived) sent))));
    }

receives_new : {M : Type 0} (n : ℕ) (m : M) (arrived : List ℕ) (sent : List M) (r : Receiving M)
    → top arrived < n → slice_get sent (n - 1) ≡ Some m → HasReceived r arrived sent → Receives n m arrived sent r
receives_new {M = M} n m arrived sent r new is h =
    let e : r.count ≡ top arrived = h.count in
    let test : nat_le n r.count ≡ false = lt-leb n r.count (omega arith) in
    let t : Turns (top arrived) (n ∷ arrived) sent (insert_entry nat_cmp r.early n m) =
    turns_to (top arrived) (n ∷ arrived) sent (insert_entry nat_cmp r.early n m) (grind (arith, nat_tests, ascends_insert, are_sent_insert, has_insert))
    (starts n arrived) in
    record {
      represents = record { count = rw (test, e) t.count; early = rw (test, e) t.waits };
      handed = rw (test, e) t.handed;
    }

pub receives : {M : Type 0} (n : ℕ) (m : M) (arrived : List ℕ) (sent : List M) (r : Receiving M)
    → 1 ≤ n → slice_get sent (n - 1) ≡ Some m → HasReceived r arrived sent → Receives n m arrived sent r
receives n m arrived sent r one is h =
    elim (dec_le n (top arrived)) [ yes p ↦ receives_old n m arrived sent r one p h | no p ↦ receives_new n m arrived sent r (omega (arith, p)) is h ]

-- what is exact of one arrival says what the receiver represents after it
pub arrival_is_exact : {M : Type 0} (n : ℕ) (m : M) (old : Receiving M) (new : Kept (Receiving M)) (handed : List M)
    → 1 ≤ n → new ≡ record { live = true; value = received n m old } → handed ≡ handed_on n m old
    → (arrived : List ℕ) (sent : List M) → slice_get sent (n - 1) ≡ Some m → HasReceived old arrived sent
    → HasReceived new.value (n ∷ arrived) sent × (handed ≡ drop (top arrived) (take (top (n ∷ arrived)) sent))
arrival_is_exact n m old new handed one e f arrived sent is h =
    let got : Receives n m arrived sent old = receives n m arrived sent old one is h in
    (subst (λ k. HasReceived k.value (n ∷ arrived) sent) (sym e) got.represents, f ∙ got.handed)

-- a message that was handed on before changes nothing
pub old_arrival : {M : Type 0} (n : ℕ) (m : M) (r : Kept (Receiving M)) → IsTrue r.live → n ≤ r.value.count
    → (r ≡ record { live = true; value = received n m r.value }) × ([] ≡ handed_on n m r.value)
old_arrival n m r live old = grind (arith, nat_tests)

-- the next message is handed on at once where no message waits
pub next_arrival : {M : Type 0} (n : ℕ) (m : M) (r : Receiving M) → (r.early ≡ []) × (n ≡ r.count + 1)
    → (m ∷ [] ≡ handed_on n m r) × (record r { count = r.count + 1 } ≡ received n m r)
next_arrival n m r e = grind (arith, nat_tests)
