-- A text that is put together from pieces.
use Rattle.sdd_commands.proofs.All.{Err, List, Ok, OnOk, Result, [], append_assoc, refl, ℕ, ◌++◌, ◌≡◌}

pub three_pieces : (text a b c t1 t2 t3 : List ℕ) → text ≡ [] → t1 ≡ text ++ a → t2 ≡ t1 ++ b → t3 ≡ t2 ++ c → t3 ≡ a ++ (b ++ c)
three_pieces text a b c t1 t2 t3 e e1 e2 e3 = rw (e3, e2, e1, e) (append_assoc a b c)

-- the last of the four is written only where memory suffices
pub four_pieces : {T E : Type 0} (r : Result T E) (text a b c d t1 t2 t3 t4 : List ℕ) → t1 ≡ text ++ a → t2 ≡ t1 ++ b → t3 ≡ t2 ++ c
    → OnOk r (t4 ≡ t3 ++ d) → OnOk r (t4 ≡ text ++ (a ++ (b ++ (c ++ d))))
four_pieces (Ok x) text a b c d t1 t2 t3 t4 e1 e2 e3 e4 =
    rw (e4, e3, e2, e1, append_assoc ((text ++ a) ++ b) c d, append_assoc (text ++ a) b (c ++ d), append_assoc text a (b ++ (c ++ d))) refl
four_pieces (Err e) text a b c d t1 t2 t3 t4 e1 e2 e3 e4 = tt
