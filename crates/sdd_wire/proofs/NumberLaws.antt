-- The laws of bytes and numbers.
use Rattle.sdd_wire.proofs.All.{Bool, Err, Fits-of_z, FitsClass, FitsFrag, FitsI64, FitsRel, FitsTs, FitsTxnNo, FitsU32, FitsU64, List, Ok, Reading, Result, Some, Source, [], ap, arith, be_bytes_4, be_bytes_8, byte_at, cases_lt, cast_signed, cast_unsigned, drop, drop_at, false, first_byte, flag, flag_at, from_be_bytes, from_be_bytes-to_be_bytes_4, from_be_bytes-to_be_bytes_8, get_or-drop, get_or-take, get_or_past, if◌then◌else◌, le-ltb, length, length-append, length-take, nat_lt, nat_tests, of_z-to_z, piece_at, place, refl, sfits_to_z, spelled_class, spelled_frag, spelled_rel, spelled_ts, spelled_txn, subst, suc, sym, take, take-append-drop, take_at, to_be_bytes, to_z-of_z, true, w32, w64, ℕ, ◌<◌, ◌∙◌, ◌∷◌, ◌≡◌}
use Rattle.sdd_wire.specs.Source.{number_at}
use Rattle.sdd_wire.specs.Spelling.{spelled_u32, spelled_u64, spelled_i64}
use Rattle.sdd_wire.specs.Reading.{i64_at, class_at, rel_at, frag_at, txn_at, ts_at}
use Rattle.sdd_wire.proofs.Laws.{AreBytes, Took, ReadsBack, IsSpelled, Law, only_last, back_last, only_meant}

-- pieces

pub record IsPiece (n : ℕ) (piece : List ℕ) : Type 0 where
  pub long : length piece ≡ n
  pub bytes : AreBytes piece

pub piece_back : (n : ℕ) (text : List ℕ) → length text ≡ n → ReadsBack (piece_at n) text text
piece_back n text len = grind (arith, nat_lt, le-ltb, length-append, take_at, drop_at)

abbrev done : {A : Type 0} → A × Source → Result (A × Source) ℕ
done x = Ok x

done_is : {A : Type 0} (x y : A × Source) → done x ≡ done y → x ≡ y
done_is x y e = cc

piece_ok : (b : Bool) (at : ℕ) (x y : List ℕ × Source) → (if b then Err at else done x) ≡ Ok y → (b ≡ false) × (x ≡ y)
piece_ok b at x y e = grind (arith, nat_tests)

pub piece_law : (n : ℕ) → Law (IsPiece n) (λ x. x) (piece_at n)
piece_law n = record {
  back = λ text fits. piece_back n text fits.long;
  only = record {
    took = λ s t x fits e.
        let read = piece_ok (nat_lt (length s.left) n) (place s) (take n s.left, record s { left = drop n s.left }) (x, t) e in
        (grind (arith, take-append-drop, get_or-drop, length-take, nat_tests, cases_lt, get_or-take, get_or_past));
  };
}

-- bytes

pub record IsByte (n : ℕ) : Type 0 where
  pub below : n < 256

first_taken : (s t : Source) (x : ℕ) (bytes : List ℕ) → s.left ≡ bytes → AreBytes bytes
    → first_byte s bytes ≡ Ok (x, t) → Took (IsSpelled IsByte (λ n. n ∷ [])) s x t
first_taken s t x [] is fits e = absurd cc
first_taken s t x (byte ∷ rest) is fits e =
    let read = done_is (byte, record s { left = rest }) (x, t) e in
    let byte_is : byte ≡ x = ap (λ p. p.0) read in
    let rest_is : rest ≡ t.left = ap (λ p. p.1.left) read in
    record {
      text = x ∷ [];
      takes = record {
        parts = is ∙ ap (λ n. n ∷ rest) byte_is ∙ ap (λ (l : List ℕ). x ∷ l) rest_is;
        bytes = rw (← rest_is) (λ i. fits (suc i));
      };
      holds = (refl, record { below = rw (← byte_is) (fits 0) });
    }

pub byte_law : Law IsByte (λ n. n ∷ []) byte_at
byte_law = record {
  back = λ n fits. record { reads = λ whole rest. refl };
  only = record { took = λ s t x fits e. first_taken s t x s.left refl fits e };
}

-- flags

abbrev pub flag_byte : Bool → List ℕ
flag_byte false = 0 ∷ []
flag_byte true = 1 ∷ []

flag_is : (n : ℕ) (b : Bool) → flag n ≡ Some b → n ∷ [] ≡ flag_byte b
flag_is n b e = grind (arith, nat_tests)

flag_back : (b : Bool) → ReadsBack flag_at (flag_byte b) b
flag_back b = grind (arith, nat_tests)

pub flag_law : Law (λ b. Unit {0}) flag_byte flag_at
flag_law = grind (arith, nat_tests, flag_back, only_meant, byte_law, flag_is)

-- numbers

back_value : {A : Type 0} {reading : Reading A} {text : List ℕ} {x y : A} → ReadsBack reading text x
    → x ≡ y → ReadsBack reading text y
back_value {reading = reading} {text = text} h is = subst (λ z. ReadsBack reading text z) is h

pub u32_law : Law FitsU32 spelled_u32 (number_at w32)
unfolding number_at spelled_u32
u32_law = record {
  back = grind (arith, back_value, back_last, from_be_bytes, piece_back, to_be_bytes, from_be_bytes-to_be_bytes_4);
  only = only_last (from_be_bytes w32) (piece_law 4) (λ bytes piece.
      let b = piece.bytes in
      (sym (be_bytes_4 bytes _ piece.long b refl), omega (arith, b 0, b 1, b 2, b 3)));
}

pub u64_law : Law FitsU64 spelled_u64 (number_at w64)
unfolding number_at spelled_u64
u64_law = record {
  back = λ n fits.
      back_value (back_last (from_be_bytes w64) (piece_back 8 (to_be_bytes w64 n) refl))
      (from_be_bytes-to_be_bytes_8 n fits);
  only = only_last (from_be_bytes w64) (piece_law 8) (grind (arith, from_be_bytes, be_bytes_8));
}

pub i64_law : Law FitsI64 spelled_i64 i64_at
unfolding i64_at spelled_i64 spelled_u64
i64_law = record {
  back = λ z fits.
      back_value (back_last (cast_signed w64) (u64_law.back (cast_unsigned w64 z) (Fits-of_z fits).fits))
      (to_z-of_z w64 z fits);
  only = only_last (cast_signed w64) u64_law (grind (arith, to_be_bytes, of_z-to_z, sfits_to_z));
}

pub class_law : Law FitsClass spelled_class class_at
unfolding class_at
class_law = record {
  back = λ x fits. back_last _ (u32_law.back x.0 fits);
  only = only_last _ u32_law (λ n fits. (refl, fits));
}

pub rel_law : Law FitsRel spelled_rel rel_at
unfolding rel_at
rel_law = record {
  back = λ x fits. back_last _ (u32_law.back x.0 fits);
  only = only_last _ u32_law (λ n fits. (refl, fits));
}

pub frag_law : Law FitsFrag spelled_frag frag_at
unfolding frag_at
frag_law = record {
  back = λ x fits. back_last _ (u32_law.back x.0 fits);
  only = only_last _ u32_law (λ n fits. (refl, fits));
}

pub txn_law : Law FitsTxnNo spelled_txn txn_at
unfolding txn_at
txn_law = record {
  back = λ x fits. back_last _ (u32_law.back x.0 fits);
  only = only_last _ u32_law (λ n fits. (refl, fits));
}

pub ts_law : Law FitsTs spelled_ts ts_at
unfolding ts_at
ts_law = record {
  back = λ x fits. back_last _ (u64_law.back x.0 fits);
  only = only_last _ u64_law (λ n fits. (refl, fits));
}
