use Rattle.std.proofs.Common.{◌≡◌, ℕ, Bool, true, false, cond, not, eqb, List, [], ◌∷◌, Some, None, Option, MatchOption, IsTrue, refl, Bor}
use Rattle.std.specs.List.{find}
use Rattle.std.specs.Option.{option_map}
use Rattle.script.specs.Skipped.{blank, skipped}

abbrev begins_comment : Option ℕ → Bool
begins_comment None = true
begins_comment (Some b) = eqb b 59

-- the first byte that is no blank tells
first_tells : (bs : List ℕ) → skipped bs ≡ begins_comment (find (λ b. not (blank b)) bs)
first_tells [] = refl
first_tells (b ∷ bs) =
    elim (blank b) as (λ v. cond v (skipped bs) (eqb b 59) ≡ begins_comment (cond (not v) (Some b) (find (λ x. not (blank x)) bs))) [
      | true ↦ first_tells bs
      | false ↦ refl
    ]

pub told : (bs : List ℕ) (o : Option (Bor ℕ)) (r : Bool) → option_map (λ x. x.now) o ≡ find (λ b. not (blank b)) bs → MatchOption o (IsTrue r) (λ x. r ≡ eqb x.now 59) → r ≡ skipped bs
told bs None r e h = rw (first_tells bs, ← e) h
told bs (Some x) r e h = rw (first_tells bs, ← e) h
