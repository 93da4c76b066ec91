-- Where lists lie in the tables that hold them, and what a type reads with its fields in place of their span.
use Rattle.std.specs.Prelude.{◌≡◌, ℕ, ◌+◌, Bool, true, List, take, drop, nat_le}
use Rattle.tables.specs.declared.span.Span.{Span}
use Rattle.tables.specs.declared.term.Op1.TheVariants.{StringLike}
use Rattle.tables.specs.declared.term.Term.{Term}
use Rattle.tables.specs.declared.term.Term.TheVariants.{Set as SetTerm, Record as RecordTerm, Unary}
use Rattle.tables.specs.declared.term_type.TermType.{TermType}
use Rattle.tables.specs.declared.term_type.TermType.TheVariants.{Bool as BoolT, Long, String, Decimal, Datetime, Duration, Entity, Set, Option, Record}

-- What a span names of a list.
abbrev pub part : {X : Type 0} → List X → Span → List X
part xs s = take s.count (drop s.first xs)

-- The type with its fields given another way.
abbrev pub with_fields : {F G : Type 0} → (F → G) → TermType F → TermType G
with_fields f BoolT = BoolT
with_fields f Long = Long
with_fields f String = String
with_fields f Decimal = Decimal
with_fields f Datetime = Datetime
with_fields f Duration = Duration
with_fields f (Entity n) = Entity n
with_fields f (Set t) = Set t
with_fields f (Option t) = Option t
with_fields f (Record x) = Record (f x)

-- The second type is the first with its fields given another way: y for x, by the relation.
abbrev pub MapsFields : {F G : Type 0} → (F → G → Type 0) → TermType F → TermType G → Type 0
MapsFields R BoolT u = u ≡ BoolT
MapsFields R Long u = u ≡ Long
MapsFields R String u = u ≡ String
MapsFields R Decimal u = u ≡ Decimal
MapsFields R Datetime u = u ≡ Datetime
MapsFields R Duration u = u ≡ Duration
MapsFields R (Entity n) u = u ≡ Entity n
MapsFields R (Set t) u = u ≡ Set t
MapsFields R (Option t) u = u ≡ Option t
MapsFields {G = G} R (Record x) u = (y : G) × R x y × (u ≡ Record y)

-- The span lies within the first m places.
abbrev pub within : ℕ → Span → Bool
within m s = nat_le (s.first + s.count) m

-- A record's fields lie within the first m places.
abbrev pub record_within : ℕ → TermType Span → Bool
record_within m (Record s) = within m s
record_within m t = true

-- A set's elements, a record's fields and a pattern lie within the first e, f and p places.
abbrev pub lists_within : ℕ → ℕ → ℕ → Term Span Span Span → Bool
lists_within e f p (SetTerm t s) = within e s
lists_within e f p (RecordTerm s) = within f s
lists_within e f p (Unary (StringLike s) t) = within p s
lists_within e f p t = true
