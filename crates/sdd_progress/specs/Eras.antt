-- The eras of a log: the catalogues of the class lists that it put in force one after the other, each with the event
-- from which it is.
use Rattle.std.specs.Prelude.{suc, [], ◌∷◌, ◌++◌}
use Rattle.sdd_obligations.specs.All.{Eras, Input, Log, Redeclares, marks, nth_era, redeclares}

abbrev pub eras_of : Input → Log → Eras
eras_of g [] = (0, (nth_era g 0).catalogue) ∷ []
eras_of g (Redeclares t ∷ log) = eras_of g log ++ (suc (marks log), (nth_era g (suc (redeclares log))).catalogue) ∷ []
eras_of g (_ ∷ log) = eras_of g log
