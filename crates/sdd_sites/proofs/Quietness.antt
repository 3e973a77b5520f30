-- Whether the network is quiet, and the events of a round, don't depend on how messages are spelled.
use Rattle.sdd_sites.proofs.All.{Call, Deliver, Link, List, None, Option, Resend, Site, Some, [], all_same, ap, call_as, cond, filter_map, flat_map, in_flight, is_empty, is_quiet_link, is_some, joined_same, length, length-map, link, link_as, link_map, map, nat_le, nat_lt, packet_as, packet_at, quiet, refl, replicate, resends_now, round, slice_get, suc, ℕ, ◌&&◌, ◌++◌, ◌+◌, ◌-◌, ◌∙◌, ◌∷◌, ◌≡◌}

found_same : {A B : Type 0} (p q : A → Option B) (xs : List A) → ((x : A) → p x ≡ q x) → filter_map p xs ≡ filter_map q xs
found_same p q [] e = refl
found_same p q (x ∷ xs) e = rw (e x, found_same p q xs e) refl

empty_map : {A B : Type 0} (f : A → B) (xs : List A) → is_empty (map f xs) ≡ is_empty xs
empty_map f [] = refl
empty_map f (x ∷ xs) = refl

module _ {A B : Type 0} (f : A → B) where
  pub count_same : (a b : Site) (calls : List (Call A)) → length (link a b (map (call_as f) calls)).there.sent ≡ length (link a b calls).there.sent
  count_same a b calls = ap (λ l. length l.there.sent) (link_map f a b calls) ∙ length-map (link a b calls).there.sent f

  pub unacked_same : (a b : Site) (calls : List (Call A))
      → nat_lt (link a b (map (call_as f) calls)).there.acked (length (link a b (map (call_as f) calls)).there.sent)
      ≡ nat_lt (link a b calls).there.acked (length (link a b calls).there.sent)
  unacked_same a b calls =
      ap (λ l. nat_lt l.there.acked (length l.there.sent)) (link_map f a b calls)
      ∙ ap (λ n. nat_lt (link a b calls).there.acked n) (length-map (link a b calls).there.sent f)

  quiet_link : (l : Link A) → is_quiet_link (link_as f l) ≡ is_quiet_link l
  quiet_link l =
      ap (λ b. b && nat_le (length (map f l.there.sent)) l.there.acked) (empty_map (packet_as f) l.there.flight)
      ∙ ap (λ n. is_empty l.there.flight && nat_le n l.there.acked) (length-map l.there.sent f)

  resends_same : (l : Link A) → resends_now (link_as f l) ≡ resends_now l
  resends_same l =
      ap (λ n. nat_lt l.there.acked n && (is_empty (map (packet_as f) l.there.flight) && is_empty (map (packet_as f) l.back.flight)))
      (length-map l.there.sent f)
      ∙ ap (λ b. nat_lt l.there.acked (length l.there.sent) && (b && is_empty (map (packet_as f) l.back.flight))) (empty_map (packet_as f) l.there.flight)
      ∙ ap (λ b. nat_lt l.there.acked (length l.there.sent) && (is_empty l.there.flight && b)) (empty_map (packet_as f) l.back.flight)

  flight_same : (l : Link A) → in_flight (link_as f l) ≡ in_flight l
  flight_same l =
      ap (λ n. n + cond (resends_now (link_as f l)) (length (map f l.there.sent) - l.there.acked) 0) (length-map l.there.flight (packet_as f))
      ∙ ap (λ b. length l.there.flight + cond b (length (map f l.there.sent) - l.there.acked) 0) (resends_same l)
      ∙ ap (λ n. length l.there.flight + cond (resends_now l) (n - l.there.acked) 0) (length-map l.there.sent f)

  pub quiet_same : (ls : List (Site × Site)) (calls : List (Call A)) → quiet ls (map (call_as f) calls) ≡ quiet ls calls
  quiet_same ls calls =
      all_same (λ l. is_quiet_link (link l.0 l.1 (map (call_as f) calls))) (λ l. is_quiet_link (link l.0 l.1 calls)) ls
      (λ l. ap (λ k. is_quiet_link k) (link_map f l.0 l.1 calls) ∙ quiet_link (link l.0 l.1 calls))

  pub round_same : (ls : List (Site × Site)) (calls : List (Call A)) → round ls (map (call_as f) calls) ≡ round ls calls
  round_same ls calls =
      let resends : filter_map (λ l. cond (resends_now (link l.0 l.1 (map (call_as f) calls))) (Some (Resend l.0 l.1)) None) ls
      ≡ filter_map (λ l. cond (resends_now (link l.0 l.1 calls)) (Some (Resend l.0 l.1)) None) ls =
      found_same (λ l. cond (resends_now (link l.0 l.1 (map (call_as f) calls))) (Some (Resend l.0 l.1)) None)
      (λ l. cond (resends_now (link l.0 l.1 calls)) (Some (Resend l.0 l.1)) None) ls
      (λ l. ap (λ k. cond (resends_now k) (Some (Resend l.0 l.1)) None) (link_map f l.0 l.1 calls)
      ∙ ap (λ b. cond b (Some (Resend l.0 l.1)) None) (resends_same (link l.0 l.1 calls))) in
      let deliveries : flat_map (λ l. replicate (in_flight (link l.0 l.1 (map (call_as f) calls))) (Deliver l.0 l.1 1)) ls
      ≡ flat_map (λ l. replicate (in_flight (link l.0 l.1 calls)) (Deliver l.0 l.1 1)) ls =
      joined_same (λ l. replicate (in_flight (link l.0 l.1 (map (call_as f) calls))) (Deliver l.0 l.1 1))
      (λ l. replicate (in_flight (link l.0 l.1 calls)) (Deliver l.0 l.1 1)) ls
      (λ l. ap (λ k. replicate (in_flight k) (Deliver l.0 l.1 1)) (link_map f l.0 l.1 calls)
      ∙ ap (λ n. replicate n (Deliver l.0 l.1 1)) (flight_same (link l.0 l.1 calls))) in
      ap (λ xs. xs ++ flat_map (λ l. replicate (in_flight (link l.0 l.1 (map (call_as f) calls))) (Deliver l.0 l.1 1)) ls) resends
      ∙ ap (λ ys. filter_map (λ l. cond (resends_now (link l.0 l.1 calls)) (Some (Resend l.0 l.1)) None) ls ++ ys) deliveries

some_map : {A B : Type 0} (f : A → B) (xs : List A) (i : ℕ) → is_some (slice_get (map f xs) i) ≡ is_some (slice_get xs i)
some_map f (x ∷ xs) (suc i) = some_map f xs i
some_map f _ _ = refl

-- a packet is there where its spelling is
pub packet_same : {A B : Type 0} (f : A → B) (a b : Site) (k : ℕ) (calls : List (Call A))
    → is_some (packet_at k (link a b (map (call_as f) calls))) ≡ is_some (packet_at k (link a b calls))
packet_same f a b k calls = ap (λ l. is_some (packet_at k l)) (link_map f a b calls) ∙ some_map (packet_as f) (link a b calls).there.flight (k - 1)
