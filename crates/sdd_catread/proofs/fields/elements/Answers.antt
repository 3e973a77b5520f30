use Rattle.std.proofs.Common.{map, refl}
use Rattle.toml.specs.View.{view as data_of}
use Rattle.toml.proofs.Views.{view-Array}
use Rattle.sdd_catread.proofs.Views.{listed_items}
use Rattle.sdd_catread.proofs.fields.elements.Goals as goal

pub returns-in-Array : goal.returns-in-Array
returns-in-Array c = rw (c.in-Array.is, view-Array c.in-Array.values, listed_items (map data_of c.in-Array.values.items), c.as_slice.ensures.value) refl
