-- What it means that a pattern matches a text.
-- A pattern is a list of numbers: 256 stands for any run of bytes, also the empty one, and any other number for itself.
-- A text is a list of bytes, so a number above 256 matches nothing.
use Rattle.std.specs.Prelude.{ℕ, Bool, true, false, cond, ◌&&◌, ◌||◌, List, [], ◌∷◌, ◌==◌}

-- The text is empty.
unfoldable pub is_empty : List ℕ → Bool
is_empty [] = true
is_empty (b ∷ t) = false

-- Some suffix of the text passes the test: the whole text, the empty one or one between.
unfoldable pub some_suffix : (List ℕ → Bool) → List ℕ → Bool
some_suffix test [] = test []
some_suffix test (b ∷ t) = test (b ∷ t) || some_suffix test t

-- The text begins with the byte c, and what follows it passes the test.
unfoldable pub begins_with : ℕ → (List ℕ → Bool) → List ℕ → Bool
begins_with c test [] = false
begins_with c test (b ∷ t) = c == b && test t

-- The pattern matches the whole text: the empty pattern matches the empty text, a run leaves some suffix to the rest of the pattern, and a byte stands for itself.
unfoldable pub matches : List ℕ → List ℕ → Bool
matches [] t = is_empty t
matches (c ∷ p) t = cond (c == 256) (some_suffix (matches p) t) (begins_with c (matches p) t)
