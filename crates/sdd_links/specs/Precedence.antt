-- Which of two committed transactions has to stand before the other in a serial order.
use Rattle.std.specs.Prelude.{ℕ, nat_lt, ◌≡◌, ◌==◌, Bool, true, false, not, ◌&&◌, ◌||◌, unwrap_or}
use Rattle.std.specs.List.{list_any}
use Rattle.sdd_lang.specs.All.{Catalogue, fragments_in, reads_at}
use Rattle.sdd_history.specs.declared.record.Rec.{Rec}
use Rattle.sdd_history.specs.declared.record.Rec.TheVariants.{Answer, Apply}
use Rattle.sdd_history.specs.Records.{History}
use Rattle.sdd_links.specs.Attempts.{Attempt, Committed, IsCommitted, reads, changes}
use Rattle.sdd_links.specs.Paths.{IsOrderly}
use Rattle.sdd_links.specs.Places.{comes_before}

-- the module at which a class reads a fragment
abbrev pub module_of : Catalogue → ℕ → ℕ → ℕ
module_of cat class f = unwrap_or (reads_at cat class f) 0

-- whether a record is the Answer of an attempt at a module, or an Apply of a transaction there

abbrev pub is_answer : ℕ → ℕ → ℕ → Rec → Bool
is_answer n number d (Answer txn attempt dm) = (txn.0 == n) && ((attempt == number) && (dm.0 == d))
is_answer n number d _ = false

abbrev pub is_apply : ℕ → ℕ → Rec → Bool
is_apply n d (Apply txn class dm ts) = (txn.0 == n) && (dm.0 == d)
is_apply n d _ = false

-- whether x was applied at module d before y was answered there
abbrev pub was_seen : History → Committed → ℕ → Committed → Bool
was_seen h x d y = comes_before (is_apply x.start.txn d) (is_answer y.start.txn y.start.number d) h

-- The four kinds of precedence.

-- of one class the one with the smaller timestamp
abbrev pub is_earlier : Committed → Committed → Bool
is_earlier x y = (x.start.class == y.start.class) && nat_lt x.start.ts y.start.ts

-- of two that change one fragment the one with the smaller timestamp
abbrev pub is_overwritten : Committed → Committed → Bool
is_overwritten x y = list_any (λ c. changes y c.frag.0) x.changes && nat_lt x.start.ts y.start.ts

-- x reads a fragment before the change that y makes of it comes to the module where x reads it
abbrev pub misses : Catalogue → History → Committed → Committed → Bool
misses cat h x y = list_any (λ f. changes y f && not (was_seen h y (module_of cat x.start.class f) x)) (fragments_in x.start.uses)

-- y reads a fragment after the change that x makes of it came to the module where y reads it
abbrev pub is_read_by : Catalogue → History → Committed → Committed → Bool
is_read_by cat h x y = list_any (λ f. changes x f && was_seen h x (module_of cat y.start.class f) y) (fragments_in y.start.uses)

-- whether x precedes y
abbrev pub precedes : Catalogue → History → Committed → Committed → Bool
precedes cat h x y =
    not (x.start.txn == y.start.txn)
    && ((is_earlier x y || is_overwritten x y) || (misses cat h x y || is_read_by cat h x y))

-- of two committed transactions the first precedes the second
pub record Precedes (cat : Catalogue) (h : History) (x y : Committed) : Type 0 where
  pub first : IsCommitted h x
  pub second : IsCommitted h y
  pub precedes : precedes cat h x y ≡ true

-- no list of transactions, each preceding the next, comes back to its first
abbrev pub HasNoCycle : Catalogue → History → Type 0
HasNoCycle cat h = IsOrderly (Precedes cat h)
