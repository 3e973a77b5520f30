-- The words with which the lines of a control file begin.
use Rattle.std.specs.Prelude.{ℕ, List, codes, Option, Some, None, if◌then◌else◌}
use Rattle.std.specs.Str.{bytes_eq}
use Rattle.sdd_script.specs.All.{Plain, Quoted, Word}
use Rattle.sdd_control.specs.declared.key.Key.{Key}
use Rattle.sdd_control.specs.declared.key.Key.TheVariants as keys

abbrev pub key_in : List ℕ → Option Key
key_in bytes =
    if bytes_eq bytes (codes "control") then Some keys.Control else (
    if bytes_eq bytes (codes "step") then Some keys.Step else (
    if bytes_eq bytes (codes "deliver") then Some keys.Deliver else (
    if bytes_eq bytes (codes "stop") then Some keys.Stop else (
    if bytes_eq bytes (codes "end") then Some keys.End else None))))

abbrev pub key_of : Word → Option Key
key_of (Plain bytes) = key_in bytes
key_of (Quoted text) = None
