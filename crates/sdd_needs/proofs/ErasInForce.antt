-- The class list in force at a transaction module is that of the log.
use Rattle.sdd_needs.proofs.All.{Bool, Does, Event, Hand, Input, Log, Mark, Notes, Round, Submitted, T, TmNo, arith, current_era, local_of, nth_era, redeclares, refl, setting_of, with_tick, if◌then◌else◌, ℕ, ◌∷◌, ◌≡◌}
use Rattle.sdd_log.specs.site_module.SiteLog as site

if_way : {A : Type 0} (P : A → Type 0) (b : Bool) (x y : A) → P x → P y → P (if b then x else y)
if_way P b x y h k = grind arith

abbrev IsRedeclared : Input → ℕ → TmNo → site.Log → Type 0
IsRedeclared g k t l = current_era (setting_of g (T t)) l ≡ nth_era g k

tick_redeclared : (g : Input) (k : ℕ) (t : TmNo) (e : Event) (l : site.Log) → IsRedeclared g k t l → IsRedeclared g k t (with_tick (T t) e l)
tick_redeclared g k t e l h = grind (arith, if_way)

pub redeclared_is : (g : Input) (t : TmNo) (log : Log) → IsRedeclared g (redeclares log) t (local_of g (T t) log)
redeclared_is g t (Mark e ∷ log) = tick_redeclared g (redeclares log) t e (local_of g (T t) log) (redeclared_is g t log)
redeclared_is g t (Hand a b n m ∷ log) = grind (arith, if_way, redeclared_is g t log)
redeclared_is g t (Submitted at n ∷ log) = grind (arith, if_way, redeclared_is g t log)
redeclared_is g t (Does by act ∷ log) = grind (arith, if_way, IsRedeclared, (redeclared_is g t log))
redeclared_is g t (Round es ∷ log) = redeclared_is g t log
redeclared_is g t (Notes ∷ log) = redeclared_is g t log
redeclared_is g t _ = refl
