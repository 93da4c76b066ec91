-- The equality that is derived for types is that of their definition.
use Rattle.std.proofs.Common.{◌≡◌, List, refl, sym}
use Rattle.std.proofs.Math.Bool.{and-true}
use denote.RattleType.{RattleType}
use Rattle.std.specs.declared.cmp.PartialEq.{Ghosts}
use Rattle.std.specs.Cmp.Lexicographic.{pointwise}
use Rattle.tables.specs.contracts.term_type.TermTypePartialEq.TheImpl.{ghosts, no_dict}
use Rattle.tables.specs.declared.term_type.FieldType.{FieldType}
use Rattle.tables.specs.declared.term_type.TermType.{TermType}
use Rattle.tables.specs.declared.term_type.TermType.TheVariants.{Bool as BoolT, Long, String, Decimal, Datetime, Duration, Entity, Set, Option, Record}
use Rattle.tables.specs.Spans.{with_fields}
use Rattle.tables.specs.Types.{same_field, same_type}

module _ (F : RattleType) (E : Ghosts F.Denot) (fields : F.Denot → List FieldType) (same : (x y : F.Denot) → E.eq x y ≡ pointwise same_field (fields x) (fields y)) where
  pub eq-same_type : (s t : TermType F.Denot) → (ghosts F E no_dict).eq s t ≡ same_type (with_fields fields s) (with_fields fields t)
  unfolding same_type
  eq-same_type BoolT BoolT = refl
  eq-same_type Long Long = refl
  eq-same_type String String = refl
  eq-same_type Decimal Decimal = refl
  eq-same_type Datetime Datetime = refl
  eq-same_type Duration Duration = refl
  eq-same_type (Entity m) (Entity n) = sym (and-true _)
  eq-same_type (Set s) (Set t) = sym (and-true _)
  eq-same_type (Option s) (Option t) = sym (and-true _)
  eq-same_type (Record x) (Record y) = same x y
  eq-same_type s t = refl
