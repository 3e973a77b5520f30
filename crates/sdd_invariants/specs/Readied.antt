-- The answers that an exchange has had.
use Rattle.std.specs.List.{list_any}
use Rattle.std.specs.Prelude.{ℕ, ◌&&◌, ◌==◌, ◌||◌, ◌∷◌, ◌≡◌, ◌⊎◌, Bool, List, None, Option, Some, [], false, map, true}
use Rattle.sdd_log.specs.All.{Attempt, D, Did, Entry, Exchange, Handed, Msg, Ready, Redeclared, Reduced, Setting, Site, Submits, Ticked, Values, asks_rows, contains, counts, dm_no, same_site, sends_of_act}
use Rattle.sdd_log.specs.wire.declared.msg.Msg.TheVariants.{Rows}
use Rattle.sdd_log.specs.site_module.SiteLog.{Log}
use Rattle.sdd_invariants.specs.Steps.{is_reading, modules_asked}

-- whether a READY for the attempt was handed from a site
abbrev pub is_ready : ℕ → ℕ → Msg → Bool
is_ready ts c (Ready t k counts) = (t.0 == ts) && (k.0 == c)
is_ready ts c _ = false

abbrev pub was_ready : ℕ → ℕ → Site → Log → Bool
was_ready ts c d [] = false
was_ready ts c d (Handed from m ∷ log) = (same_site d from && is_ready ts c m) || was_ready ts c d log
was_ready ts c d (_ ∷ log) = was_ready ts c d log

-- whether a question of the attempt's exchange was put
abbrev pub asks_in : ℕ → ℕ → List (Site × Msg) → Bool
asks_in ts c sends = list_any (λ (p : Site × Msg). asks_rows ts c p.1) sends

abbrev pub was_asked : ℕ → ℕ → Log → Bool
was_asked ts c [] = false
was_asked ts c (Did act ∷ log) = asks_in ts c (sends_of_act act) || was_asked ts c log
was_asked ts c (_ ∷ log) = was_asked ts c log

-- an answer of the exchange
abbrev pub is_answer : ℕ → ℕ → Msg → Bool
is_answer ts c (Values t k u vs) = (t.0 == ts) && (k.0 == c)
is_answer ts c (Reduced t k u n) = (t.0 == ts) && (k.0 == c)
is_answer ts c (Rows t k rows) = (t.0 == ts) && (k.0 == c)
is_answer ts c _ = false

-- it comes after a question
abbrev pub IsHonest : Log → Entry → Type 0
IsHonest log (Handed from m) = (ts c : ℕ) → is_answer ts c m ≡ true → was_asked ts c log ≡ true
IsHonest log (Ticked n) = Unit {0}
IsHonest log (Submits n txn) = Unit {0}
IsHonest log (Redeclared era t) = Unit {0}
IsHonest log (Did act) = Unit {0}

abbrev pub firsts : List (ℕ × List ℕ) → List ℕ
firsts ms = map (λ m. m.0) ms

abbrev pub site_d : ℕ → Site
site_d d = D (dm_no d)

-- each module of the exchange still lacks while READs are awaited, or a READY was handed from it
abbrev pub AreReady : ℕ → ℕ → Log → Exchange → Type 0
AreReady ts c log x =
    (d : ℕ) → contains (firsts x.modules) d ≡ true → ((contains x.lacks d ≡ true) × (is_reading x.phase ≡ true)) ⊎ (was_ready ts c (site_d d) log ≡ true)

pub record IsReadied (s : Setting) (c : ℕ) (log : Log) (a : Attempt) : Type 0 where
  pub modules_are : firsts a.exchange.modules ≡ modules_asked s c a.text
  pub ready : AreReady a.ts c log a.exchange
  pub unasked : is_reading a.exchange.phase ≡ true → was_asked a.ts c log ≡ false

abbrev pub AllReadied : Setting → ℕ → Log → Option Attempt → Type 0
AllReadied s c log None = Unit {0}
AllReadied s c log (Some a) = IsReadied s c log a
