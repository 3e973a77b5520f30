-- The packets that a sender makes.
use Rattle.sdd_net.proofs.All.{List, Message, Packet, [], add-zero, arith, length, length-map, map, map-append, nat_tests, numbered, refl, ◌++◌, ◌+◌, ◌∷◌, ◌≡◌, ℕ}

-- one message more is one packet more
pub numbered-append : {M : Type 0} (k : ℕ) (ms : List M) (m : M)
    → numbered k (ms ++ m ∷ []) ≡ numbered k ms ++ Message (k + length ms + 1) m ∷ []
numbered-append k [] m = rw add-zero refl
numbered-append k (x ∷ ms) m = grind (arith, (numbered-append (k + 1) ms m))

-- the sender's loop over what it keeps
pub numbered_more : {A M : Type 0} (f : A → M) (k n : ℕ) (ys : List A) (y : A) (m : M) (ps qs : List (Packet M))
    → ps ≡ numbered k (map f ys) → n ≡ k + length ys → m ≡ f y → qs ≡ ps ++ Message (n + 1) m ∷ []
    → qs ≡ numbered k (map f (ys ++ y ∷ []))
numbered_more f k n ys y m ps qs e same copy push = grind (arith, nat_tests, map-append, numbered-append, length-map)

pub ruleset numbering = (numbered_more)
