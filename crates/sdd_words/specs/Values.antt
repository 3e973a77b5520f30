-- Values as words.
use Rattle.std.specs.Fmt.{signed_decimal}
use Rattle.sdd_base.specs.declared.value.Value.{Value}
use Rattle.sdd_base.specs.declared.value.Value.TheVariants.{Int, Text}
use Rattle.sdd_words.specs.Words.{Word, Plain, Quoted}

-- a whole number by its one spelling, or a text between quotes
abbrev pub value_word : Value → Word
value_word (Int number) = Plain (signed_decimal number)
value_word (Text text) = Quoted text
