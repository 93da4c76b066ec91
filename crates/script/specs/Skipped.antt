-- Which lines have no answer.
use Rattle.std.specs.Prelude.{ℕ, Bool, true, cond, ◌||◌, List, [], ◌∷◌, ◌==◌}

-- a space, a tab or a carriage return
abbrev pub blank : ℕ → Bool
blank b = b == 32 || (b == 9 || b == 13)

-- a line of blanks, or one whose first byte past them is `;`
abbrev pub skipped : List ℕ → Bool
skipped [] = true
skipped (b ∷ bs) = cond (blank b) (skipped bs) (b == 59)
