-- Transactions that were submitted, of which none has a number above the greatest.
use Rattle.std.specs.Prelude.{◌++◌, ◌<◌, ◌==◌, ◌∷◌, []}
use Rattle.std.proofs.lemmas.List.Elements.{All-cons, All-nil, All-weaker}
use Rattle.std.proofs.lemmas.List.Folds.{list_any_none}
use Rattle.sdd_script.proofs.All.{All, All-append, List, TxnNo, arith, false, list_any, ℕ, ◌≡◌, ◌≤◌}

apart : (m most n : ℕ) → m ≤ most → most < n → (m == n) ≡ false
apart m most n p l = grind arith

pub none_later : (most n : ℕ) (ts : List TxnNo) → All (λ (t : TxnNo). t.0 ≤ most) ts → most < n
    → list_any (λ (t : TxnNo). t.0 == n) ts ≡ false
none_later most n ts h l =
    list_any_none (λ (t : TxnNo). t.0 == n) ts
    (All-weaker (λ (t : TxnNo). t.0 ≤ most) (λ (t : TxnNo). (t.0 == n) ≡ false) (λ t p. apart t.0 most n p l) ts h)

pub one_more : (old new : ℕ) (t : TxnNo) (ts : List TxnNo) → All (λ (t : TxnNo). t.0 ≤ old) ts → old ≤ new → t.0 ≤ new
    → All (λ (t : TxnNo). t.0 ≤ new) (ts ++ t ∷ [])
one_more old new t ts h more own =
    All-append (λ (t : TxnNo). t.0 ≤ new) ts (t ∷ [])
    (All-weaker (λ (t : TxnNo). t.0 ≤ old) (λ (t : TxnNo). t.0 ≤ new) (λ t p. grind arith) ts h)
    (All-cons (λ (t : TxnNo). t.0 ≤ new) t [] own (All-nil (λ (t : TxnNo). t.0 ≤ new)))
