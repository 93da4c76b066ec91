-- Suffixes that pass a test.
use Rattle.std.proofs.Common.{◌≡◌, ℕ, Bool, true, false, ◌&&◌, ◌||◌, eqb, List, [], ◌∷◌, drop, sym, refl, ⊎_elim}
use Rattle.std.proofs.lemmas.Bool.{false≢true, and_parts, or_cases, or_left, or_right}
use Rattle.pattern.specs.Like.{some_suffix, begins_with}

-- What holds only where x does adds nothing to x.
pub or_covered : (x y : Bool) → (y ≡ true → x ≡ true) → (x || y) ≡ x
or_covered true y h = refl
or_covered false true h = sym (h refl)
or_covered false false h = refl

module _ (test : List ℕ → Bool) where
  -- The whole text is a suffix of itself.
  suffix_whole : (t : List ℕ) → test t ≡ true → some_suffix test t ≡ true
  unfolding some_suffix
  suffix_whole [] e = e
  suffix_whole (b ∷ t) e = or_left (test (b ∷ t)) (some_suffix test t) e

  -- A suffix of what follows a byte is a suffix of the text.
  suffix_longer : (b : ℕ) (t : List ℕ) → some_suffix test t ≡ true → some_suffix test (b ∷ t) ≡ true
  unfolding some_suffix
  suffix_longer b t e = or_right (test (b ∷ t)) (some_suffix test t) e

  -- A suffix of a suffix is a suffix.
  pub suffix_twice : (t : List ℕ) → some_suffix (some_suffix test) t ≡ true → some_suffix test t ≡ true
  unfolding some_suffix
  suffix_twice [] e = e
  suffix_twice (b ∷ t) e =
      ⊎_elim (λ whole. whole) (λ part. suffix_longer b t (suffix_twice t part))
      (or_cases (some_suffix test (b ∷ t)) (some_suffix (some_suffix test) t) e)

  -- Where a suffix begins with a byte and goes on with what passes, some suffix of the text without its first byte passes.
  pub suffix_shorter : (c b : ℕ) (t : List ℕ) → some_suffix (begins_with c test) (b ∷ t) ≡ true → some_suffix test t ≡ true
  unfolding some_suffix begins_with
  suffix_shorter c b [] e =
      ⊎_elim (λ here. (and_parts (eqb c b) (test []) here).1) (λ none. absurd (false≢true none))
      (or_cases (eqb c b && test []) false e)
  suffix_shorter c b (d ∷ t) e =
      ⊎_elim (λ here. suffix_whole (d ∷ t) (and_parts (eqb c b) (test (d ∷ t)) here).1) (λ after. suffix_longer d t (suffix_shorter c d t after))
      (or_cases (eqb c b && test (d ∷ t)) (some_suffix (begins_with c test) (d ∷ t)) e)

  -- The suffixes of a text: the whole, and those of what follows its first byte.
  pub suffix_from : (t : List ℕ) → some_suffix test t ≡ (test t || some_suffix test (drop 1 t))
  unfolding some_suffix
  suffix_from [] = sym (or_covered (test []) (test []) (λ e. e))
  suffix_from (b ∷ t) = refl
