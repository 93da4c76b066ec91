-- Types without parts.
use Rattle.std.specs.Prelude.{◌≢◌, ℕ, List, codes}
use Rattle.tables.specs.declared.term_type.TermType.{TermType}
use Rattle.tables.specs.declared.term_type.TermType.TheVariants.{Bool as BoolT, Long as LongT, String as StringT, Decimal as DecimalT, Datetime as DatetimeT, Duration as DurationT}
use Rattle.script.specs.declared.types.Basic.{Basic}
use Rattle.script.specs.declared.types.Basic.TheVariants.{Bool, Long, String, Decimal, Datetime, Duration}

-- The type that a workbench enters for it.
abbrev pub basic_type : {F : Type 0} → Basic → TermType F
basic_type Bool = BoolT
basic_type Long = LongT
basic_type String = StringT
basic_type Decimal = DecimalT
basic_type Datetime = DatetimeT
basic_type Duration = DurationT

-- The atom that a line has for it.
abbrev pub basic_word : Basic → List ℕ
basic_word Bool = codes "bool"
basic_word Long = codes "long"
basic_word String = codes "string"
basic_word Decimal = codes "decimal"
basic_word Datetime = codes "datetime"
basic_word Duration = codes "duration"

-- The atom is that of no basic type.
abbrev pub IsNoWord : List ℕ → Type 0
IsNoWord name = (b : Basic) → name ≢ basic_word b
