-- The owner of the accounts is a text.
use Rattle.sdd_make.proofs.All.{Contains-cases, Contains-nil, IsAscii-cons, IsAscii-nil, IsText, IsUtf8-from_ascii, [], arith, codes, inl, inr}

pub owner_is_text : IsText (codes "o")
owner_is_text =
    record {
      short = omega arith;
      on_a_line = λ m. elim (Contains-cases 111 [] 10 m) [ inl e ↦ omega (arith, e) | inr k ↦ Contains-nil 10 k ];
      utf8 = IsUtf8-from_ascii (codes "o") (IsAscii-cons 111 [] (omega arith) IsAscii-nil);
    }
