-- What is printed of a catalogue.
use Rattle.std.specs.Prelude.{ℕ, ◌≡◌, List}
use Rattle.sdd_lang.specs.All.{Catalogue}
use Rattle.sdd_protocol.specs.declared.entry.Entry.{Entry}
use Rattle.sdd_protocol.specs.Protocols.{IsTable}
use Rattle.sdd_advise.specs.Texts.{IsAdviceText}
use Rattle.sdd_commands.specs.declared.listing.Listing.{Listing}
use Rattle.sdd_commands.specs.declared.listing.Listing.TheVariants as listings
use Rattle.sdd_commands.specs.Check.{check_line}
use Rattle.sdd_commands.specs.Edges.{graph_text, table_text}

-- the text is what the protocol table of the catalogue gives
pub record TellsTable (cat : Catalogue) (shown : Catalogue → List Entry → List ℕ) (text : List ℕ) : Type 0 where
  pub entries : List Entry
  pub table : IsTable cat entries
  pub text_is : text ≡ shown cat entries

-- the text is what a listing prints of the catalogue
abbrev pub Tells : Listing → Catalogue → List ℕ → Type 0
Tells listings.Counts cat text = text ≡ check_line cat
Tells listings.Graph cat text = TellsTable cat graph_text text
Tells listings.Table cat text = TellsTable cat table_text text
Tells listings.Advice cat text = IsAdviceText cat text
