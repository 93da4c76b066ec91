-- Two types that test as the same are equal, and the other way round.
use Rattle.std.proofs.Common.{◌≡◌, ℕ, true, cond, ap, eqb, List, sym, refl, ◌∙◌, subst}
use Rattle.std.proofs.lemmas.Bool.{and_parts, and_from, eqb-true, eq-eqb}
use Rattle.std.proofs.lemmas.Slice.Eq.{slice_eq-Decides}
use Rattle.std.specs.Bool.{Decides}
use Rattle.std.specs.Cmp.Lexicographic.{pointwise}
use Rattle.tables.specs.declared.term_type.FieldType.{FieldType}
use Rattle.tables.specs.declared.term_type.TermType.TheVariants.{Bool as BoolT, Long, String, Decimal, Datetime, Duration, Entity, Set, Option, Record}
use Rattle.tables.specs.Types.{Type', kind_of, part_of, fields_of, same_field, same_type}

same_field-Decides : (f g : FieldType) → Decides (same_field f g) (f ≡ g)
same_field-Decides f g = (
  λ e.
      let (n, t) = and_parts (eqb f.name.0 g.name.0) (eqb f.ty.0 g.ty.0) e in
      λ i. record { name = record { 0 = eqb-true f.name.0 g.name.0 n i }; ty = record { 0 = eqb-true f.ty.0 g.ty.0 t i } },
  λ e. and_from _ _ (eq-eqb f.name.0 g.name.0 (ap (λ h. h.name.0) e)) (eq-eqb f.ty.0 g.ty.0 (ap (λ h. h.ty.0) e)),
)

fields-Decides : (fs gs : List FieldType) → Decides (pointwise same_field fs gs) (fs ≡ gs)
fields-Decides fs gs = slice_eq-Decides same_field-Decides fs gs (pointwise same_field fs gs) refl

-- The type of a kind, with a part and fields.
made : ℕ → ℕ → List FieldType → Type'
made k n fs =
    cond (eqb k 0) BoolT
    (cond (eqb k 1) Long
    (cond (eqb k 2) String
    (cond (eqb k 3) Decimal
    (cond (eqb k 4) Datetime
    (cond (eqb k 5) Duration
    (cond (eqb k 6) (Entity (record { 0 = n }))
    (cond (eqb k 7) (Set (record { 0 = n }))
    (cond (eqb k 8) (Option (record { 0 = n })) (Record fs)))))))))

remade : (t : Type') → made (kind_of t) (part_of t) (fields_of t) ≡ t
unfolding made
remade BoolT = refl
remade t = refl

pub types_same : (s t : Type') → same_type s t ≡ true → s ≡ t
unfolding same_type
types_same s t e =
    let (a, r) = and_parts (eqb (kind_of s) (kind_of t)) _ e in
    let (b, c) = and_parts (eqb (part_of s) (part_of t)) (pointwise same_field (fields_of s) (fields_of t)) r in
    sym (remade s)
    ∙ (λ i. made (eqb-true (kind_of s) (kind_of t) a i) (eqb-true (part_of s) (part_of t) b i) ((fields-Decides (fields_of s) (fields_of t)).0 c i))
    ∙ remade t

pub same_types : (s t : Type') → s ≡ t → same_type s t ≡ true
unfolding same_type
same_types s t e =
    subst (λ u. same_type s u ≡ true) e
    (and_from _ _ (eq-eqb (kind_of s) (kind_of s) refl) (and_from _ _ (eq-eqb (part_of s) (part_of s) refl) ((fields-Decides (fields_of s) (fields_of s)).1 refl)))
