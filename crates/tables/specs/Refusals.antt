-- The numbers of the refusals and of the tables.
use Rattle.std.specs.Prelude.{ℕ}
use Rattle.tables.specs.declared.result.CompileError.{CompileError}
use Rattle.tables.specs.declared.result.CompileError.TheVariants.{NoSuchEntityType, NoSuchAttribute, TypeError, UnsupportedFeature, Full, BadInput, TooDeep, NotCovered, NotBoolean, BadRow, NoMemory}
use Rattle.tables.specs.declared.result.Table.{Table}
use Rattle.tables.specs.declared.result.Table.TheVariants.{Terms, Types, Names, Lists, Rows}

-- The number of a table.
abbrev pub table_number : Table → ℕ
table_number Terms = 1
table_number Types = 2
table_number Names = 3
table_number Lists = 4
table_number Rows = 5

-- The number of a refusal.
abbrev pub refusal_number : CompileError → ℕ
refusal_number (NoSuchEntityType n) = 1
refusal_number (NoSuchAttribute n) = 2
refusal_number TypeError = 3
refusal_number UnsupportedFeature = 4
refusal_number (Full t) = 5
refusal_number BadInput = 6
refusal_number TooDeep = 7
refusal_number NotCovered = 8
refusal_number NotBoolean = 9
refusal_number BadRow = 10
refusal_number NoMemory = 11
