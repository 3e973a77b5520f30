-- The catalogue that the bytes of a file give, or its first fault.
use Rattle.std.specs.Prelude.{ℕ, nat_lt, if◌then◌else◌, List, [], ◌∷◌, length, Option, Some, None, Result, Ok, Err}
use Rattle.std.specs.Str.{is_utf8}
use Rattle.toml.specs.Data.{Members}
use Rattle.toml.specs.Parse.{parse_document}
use Rattle.sdd_base.specs.declared.limits.TheConstants.{MAX_CATALOGUE_BYTES}
use Rattle.sdd_catalog.specs.Catalogue.{Catalogue, catalogue_of}
use Rattle.sdd_catalog.specs.Rules.{faults_of}
use Rattle.sdd_catalog.specs.declared.fault.CatFault.{CatFault}
use Rattle.sdd_catalog.specs.declared.fault.CatRule.TheVariants.{TooLong, NotToml}
use Rattle.sdd_catalog.specs.declared.parts.Parts.{Parts}
use Rattle.sdd_base.specs.Readings.{◌>>=◌}
use Rattle.sdd_catread.specs.Faults.{broken}
use Rattle.sdd_catread.specs.Form.{top, parts_at}

-- the table that the bytes are as TOML, where they are UTF-8 and its grammar takes them
abbrev pub document_in : List ℕ → Option Members
document_in bytes = if is_utf8 bytes then parse_document bytes else None

abbrev pub parts_of_document : Option Members → Result Parts CatFault
parts_of_document None = Err (broken top NotToml)
parts_of_document (Some ms) = parts_at ms

-- the parts that the bytes spell: not too many bytes, of TOML, in a catalogue's form
unfoldable pub parts_in : List ℕ → Result Parts CatFault
parts_in bytes = if nat_lt MAX_CATALOGUE_BYTES (length bytes) then Err (broken top TooLong) else parts_of_document (document_in bytes)

-- the catalogue of parts, or the first of the faults that they have
abbrev pub built : List CatFault → Parts → Result Catalogue CatFault
built [] parts = Ok (catalogue_of parts)
built (fault ∷ faults) parts = Err fault

-- Faults of form come before those of the parts.
unfoldable pub catalogue_in : List ℕ → Result Catalogue CatFault
catalogue_in bytes = do
  parts ← parts_in bytes
  built (faults_of parts) parts
