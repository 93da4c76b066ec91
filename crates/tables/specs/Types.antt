-- Types as a table holds them, and when two are the same.
use Rattle.std.specs.Prelude.{ℕ, Bool, ◌&&◌, List, [], ◌==◌}
use Rattle.std.specs.Borrow.{Bor}
use Rattle.std.specs.Cmp.Lexicographic.{pointwise}
use Rattle.tables.specs.declared.term_type.FieldType.{FieldType}
use Rattle.tables.specs.declared.term_type.TermType.{TermType}
use Rattle.tables.specs.declared.term_type.TermType.TheVariants.{Bool as BoolT, Long, String, Decimal, Datetime, Duration, Entity, Set, Option, Record}
use Rattle.tables.specs.Spans.{with_fields}

-- A type with its fields in a list.
abbrev pub Type' : Type 0
Type' = TermType (List FieldType)

-- The type that a value of the code stands for.
abbrev pub type_of : TermType (Bor (List FieldType)) → Type'
type_of = with_fields (λ x. x.now)

-- A number for each kind of type.
abbrev pub kind_of : {F : Type 0} → TermType F → ℕ
kind_of BoolT = 0
kind_of Long = 1
kind_of String = 2
kind_of Decimal = 3
kind_of Datetime = 4
kind_of Duration = 5
kind_of (Entity n) = 6
kind_of (Set t) = 7
kind_of (Option t) = 8
kind_of (Record x) = 9

-- The number of the one part of an entity, set or option type; 0 for the others.
abbrev pub part_of : {F : Type 0} → TermType F → ℕ
part_of (Entity n) = n.0
part_of (Set t) = t.0
part_of (Option t) = t.0
part_of t = 0

-- A record's fields; other types have none.
abbrev pub fields_of : {X : Type 0} → TermType (List X) → List X
fields_of (Record x) = x
fields_of t = []

-- Two fields have one name and one type.
abbrev pub same_field : FieldType → FieldType → Bool
same_field f g = f.name.0 == g.name.0 && f.ty.0 == g.ty.0

-- Two types are the same: one kind, one part, and the same fields, one by one.
unfoldable pub same_type : Type' → Type' → Bool
same_type s t = kind_of s == kind_of t && (part_of s == part_of t && pointwise same_field (fields_of s) (fields_of t))
