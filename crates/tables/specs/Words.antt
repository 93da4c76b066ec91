-- The words for the tables and for the refusals.
use Rattle.std.specs.Prelude.{ℕ, List, codes}
use Rattle.tables.specs.declared.result.CompileError.{CompileError}
use Rattle.tables.specs.declared.result.CompileError.TheVariants.{NoSuchEntityType, NoSuchAttribute, TypeError, UnsupportedFeature, Full, BadInput, TooDeep, NotCovered, NotBoolean, BadRow, NoMemory}
use Rattle.tables.specs.declared.result.Table.{Table}
use Rattle.tables.specs.declared.result.Table.TheVariants.{Terms, Types, Names, Lists, Rows}

-- The word for a table.
abbrev pub table_word : Table → List ℕ
table_word Terms = codes "terms"
table_word Types = codes "types"
table_word Names = codes "names"
table_word Lists = codes "lists"
table_word Rows = codes "rows"

-- The word for a refusal, without the name or the table that it speaks of.
abbrev pub refusal_word : CompileError → List ℕ
refusal_word (NoSuchEntityType n) = codes "NoSuchEntityType"
refusal_word (NoSuchAttribute n) = codes "NoSuchAttribute"
refusal_word TypeError = codes "TypeError"
refusal_word UnsupportedFeature = codes "UnsupportedFeature"
refusal_word (Full t) = codes "Full"
refusal_word BadInput = codes "BadInput"
refusal_word TooDeep = codes "TooDeep"
refusal_word NotCovered = codes "NotCovered"
refusal_word NotBoolean = codes "NotBoolean"
refusal_word BadRow = codes "BadRow"
refusal_word NoMemory = codes "NoMemory"
