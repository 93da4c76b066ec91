-- Names in their order, and fields in the order of their names, as std compares slices and asks whether they are sorted.
use Rattle.std.proofs.Common.{◌≡◌, ℕ, zero, suc, ◌+◌, ◌<◌, Bool, true, false, ◌&&◌, List, [], ◌∷◌, length, Some, get_or, sym, refl, ap, arith}
use native.Mathlib.Numerals.{unary_clauses}
use Rattle.std.specs.Cmp.Lexicographic.{slice_partial_cmp}
use Rattle.std.specs.List.{AllAdjacentBelow, IsAllAdjacentAnswer}
use Rattle.std.specs.Ordering.{nat_cmp, is_lt, is_some_and}
use Rattle.std.proofs.lemmas.Bool.{and_from, and_right}
use Rattle.std.proofs.lemmas.Bool.Decides.{nat_tests}
use Rattle.std.proofs.lemmas.Cmp.{same_from_slice_cmp_tested}
use Rattle.tables.specs.declared.term_type.FieldType.{FieldType}
use Rattle.tables.specs.Contents.{Contents, name_at}
use Rattle.tables.specs.Names.{before}
use Rattle.tables.specs.Shapes.{ascending_after, ascending}

pub before-slice_cmp : (xs ys : List ℕ) (r : Bool) → r ≡ is_some_and is_lt (slice_partial_cmp (λ x y. Some (nat_cmp x y)) xs ys) → r ≡ before xs ys
unfolding before
before-slice_cmp = same_from_slice_cmp_tested nat_cmp is_lt before refl (λ _ _. refl) (λ _ _. refl) (λ x y xs ys o h. grind (arith, nat_tests))

module _ (w : Contents) where
  abbrev in_order : FieldType → FieldType → Bool
  in_order f g = before (name_at w f.name.0) (name_at w g.name.0)

  ascends : (f : FieldType) (fs : List FieldType) → AllAdjacentBelow (λ x y. true ≡ in_order x y) (f ∷ fs) (length (f ∷ fs)) → ascending_after w f fs ≡ true
  unfolding ascending_after
  ascends f [] h = refl
  ascends f (g ∷ gs) h = and_from (in_order f g) (ascending_after w g gs) (sym (h 0 f (omega arith))) (ascends g gs (λ k d l. simp unary_clauses (simp unary_clauses at (h (suc k) d (omega arith)))))

  falls : (f : FieldType) (fs : List FieldType) (k : ℕ) → k + 1 < length (f ∷ fs) → ((d : FieldType) → false ≡ in_order (get_or (f ∷ fs) k d) (get_or (f ∷ fs) (k + 1) d)) → ascending_after w f fs ≡ false
  unfolding ascending_after
  falls f [] k l h = absurd (omega arith)
  falls f (g ∷ gs) zero l h = ap (λ b. b && ascending_after w g gs) (sym (h f))
  falls f (g ∷ gs) (suc k) l h = and_right (in_order f g) _ (falls g gs k (omega arith) (λ d. simp unary_clauses (simp unary_clauses at (h d))))

  pub ascending-adjacent : (fs : List FieldType) (r : Bool) → IsAllAdjacentAnswer (λ x y b. b ≡ in_order x y) fs r → r ≡ ascending w fs
  ascending-adjacent [] true h = refl
  ascending-adjacent [] false (k, l, h) = absurd (omega arith)
  ascending-adjacent (f ∷ fs) true h = sym (ascends f fs h)
  ascending-adjacent (f ∷ fs) false (k, l, h) = sym (falls f fs k l h)
