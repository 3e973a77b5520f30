-- The modules that a class needs, by the classes to which its tasks lead.
use Rattle.std.specs.Prelude.{ℕ, ◌==◌, ◌&&◌, Bool, false}
use Rattle.std.specs.List.{list_any}
use Rattle.sdd_base.specs.declared.site.Site.{Site}
use Rattle.sdd_base.specs.declared.site.Site.TheVariants.{U, T, D}
use Rattle.sdd_catalog.specs.Catalogue.{Catalogue, class_at}
use Rattle.sdd_graph.specs.Graph.{classes_of}
use Rattle.sdd_ask.specs.Flags.{Relation}
use Rattle.sdd_outage.specs.Tasks.{Task, attempt, passing}

-- whether the class runs or reads at the module
abbrev pub is_own : Catalogue → ℕ → Site → Bool
is_own cat c U = false
is_own cat c (T tm) = (class_at cat c).tm.0 == tm.0
is_own cat c (D dm) = list_any (λ read. read.at.0 == dm.0) (class_at cat c).reads

-- whether a class is related to another one of which the module is an own one
abbrev pub leads_to : Catalogue → Relation → ℕ → Site → ℕ → Bool
leads_to cat related c s other = related c other && is_own cat other s

abbrev pub needs_by : Catalogue → Relation → ℕ → Site → Bool
needs_by cat related c s = list_any (leads_to cat related c s) (classes_of cat)

-- by the classes to which attempts lead, and those to which passings do
abbrev pub needed_by : Catalogue → Relation → Relation → Task → Site → Bool
needed_by cat begun passed (attempt c) s = needs_by cat begun c s
needed_by cat begun passed (passing c) s = needs_by cat passed c s
