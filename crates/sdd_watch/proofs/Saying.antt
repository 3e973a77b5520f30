-- What is said by one message more, and by all.
use Rattle.sdd_watch.proofs.All.{Applied, Bool, List, Purpose, Ts, ap, cond, false, get_or, length, list_any, list_any_more, refl, says_one, sym, take, take_all, true, ℕ, ◌&&◌, ◌+◌, ◌<◌, ◌==◌, ◌||◌, ◌∙◌, ◌≡◌, ◌≤◌}

or_turn : (a b c : Bool) → (b || (a || c)) ≡ ((a || b) || c)
or_turn true true c = refl
or_turn _ _ c = refl

pub said_more : {A : Type 0} (p : A → Bool) (xs : List A) (x : A) (i : ℕ) (first now new : Bool) → i < length xs → x ≡ get_or xs i x
    → now ≡ (list_any p (take i xs) || first) → new ≡ (p x || now) → new ≡ (list_any p (take (i + 1) xs) || first)
said_more p xs x i first now new lt is e add =
    add ∙ ap (λ b. p x || b) e ∙ or_turn (list_any p (take i xs)) (p x) first
    ∙ ap (λ b. b || first) (ap (λ y. list_any p (take i xs) || p y) is ∙ sym (list_any_more p xs i x lt))

pub said_end : {A : Type 0} (p : A → Bool) (xs : List A) (i : ℕ) (first now : Bool) → length xs ≤ i
    → now ≡ (list_any p (take i xs) || first) → now ≡ (list_any p xs || first)
said_end p xs i first now past e = e ∙ ap (λ ys. list_any p ys || first) (take_all i xs past)

cond_or : (b x : Bool) → cond b true x ≡ (b || x)
cond_or true x = refl
cond_or false x = refl

pub said_by : (t d n : ℕ) (p : ℕ × Purpose) (ts : Ts) (new old : Bool) → p.1 ≡ Applied ts
    → new ≡ cond ((ts.0 == t) && (n == d)) true old → new ≡ (says_one t d n p || old)
said_by t d n p ts new old is e = e ∙ cond_or ((ts.0 == t) && (n == d)) old ∙ ap (λ q. says_one t d n (p.0, q) || old) (sym is)
