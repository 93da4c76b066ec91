-- Lists with each element once, and searches in them.
use Rattle.std.proofs.Common.{◌≡◌, ℕ, zero, suc, ◌+◌, ◌<◌, ◌≤◌, Bool, true, false, cond, ◌⊎◌, List, [], ◌∷◌, ◌++◌, length, get_or, Some, None, Option, sym, refl, ap, ◌∙◌, subst, inl, inr, true≢false, arith}
use Rattle.std.proofs.lemmas.List.{length_push, get_or_push, get_or_append_left}
use Rattle.std.proofs.lemmas.Bool.{cases_lt}
use Rattle.tables.specs.Kinds.{first_from}

-- To show a thing of each place of a list with one more element: of the old places, and of the new one.
pub each_push : {X : Type 0} (xs : List X) (x : X) (P : ℕ → Type 0) → ((i : ℕ) → i < length xs → P i) → P (length xs) → (i : ℕ) → i < length (xs ++ x ∷ []) → P i
each_push xs x P old new i h = go (cases_lt i (length xs))
  where
    go : (i < length xs) ⊎ (length xs ≤ i) → P i
    go (inl l) = old i l
    go (inr g) = let e : length xs ≡ i = omega (arith, length_push xs x) in subst P e new

module _ {X : Type 0} (d : X) (xs : List X) (x : X) where
  pub at_old : (i : ℕ) → i < length xs → get_or (xs ++ x ∷ []) i d ≡ get_or xs i d
  at_old i h = get_or_append_left xs (x ∷ []) d i h

  pub at_new : get_or (xs ++ x ∷ []) (length xs) d ≡ x
  at_new = get_or_push xs x d (length xs) refl

-- Once more an element whose f none of the others has.
module _ {X Y : Type 0} (f : X → Y) (d : X) (xs : List X) (x : X) where
  pub once_push : ((i j : ℕ) → i < length xs → j < length xs → f (get_or xs i d) ≡ f (get_or xs j d) → i ≡ j) → ((i : ℕ) → i < length xs → f (get_or xs i d) ≡ f x → ⊥)
      → (i j : ℕ) → i < length (xs ++ x ∷ []) → j < length (xs ++ x ∷ []) → f (get_or (xs ++ x ∷ []) i d) ≡ f (get_or (xs ++ x ∷ []) j d) → i ≡ j
  once_push once absent i j hi hj =
      each_push xs x (λ i. f (get_or (xs ++ x ∷ []) i d) ≡ f (get_or (xs ++ x ∷ []) j d) → i ≡ j)
      (λ i h. each_push xs x (λ j. f (get_or (xs ++ x ∷ []) i d) ≡ f (get_or (xs ++ x ∷ []) j d) → i ≡ j)
      (λ j g e. once i j h g (sym (old i h) ∙ e ∙ old j g))
      (λ e. absurd (absent i h (sym (old i h) ∙ e ∙ new))) j hj)
      (each_push xs x (λ j. f (get_or (xs ++ x ∷ []) (length xs) d) ≡ f (get_or (xs ++ x ∷ []) j d) → length xs ≡ j)
      (λ j g e. absurd (absent j g (sym (old j g) ∙ sym e ∙ new)))
      (λ e. refl) j hj)
      i hi
    where
      old : (i : ℕ) → i < length xs → f (get_or (xs ++ x ∷ []) i d) ≡ f (get_or xs i d)
      old i h = ap f (at_old d xs x i h)

      new : f (get_or (xs ++ x ∷ []) (length xs) d) ≡ f x
      new = ap f (at_new d xs x)

-- What a search finds passes the test, and is in range.
pub first_some : (p : ℕ → Bool) (n k i : ℕ) → first_from p n k ≡ Some i → (n ≤ i) × (i < n + k) × (p i ≡ true)
unfolding first_from
first_some p n zero i e = absurd (cc)
first_some p n (suc k) i e = go (p n) refl e (first_some p (n + 1) k i)
  where
    go : (b : Bool) → p n ≡ b → cond b (Some n) (first_from p (n + 1) k) ≡ Some i
        → (first_from p (n + 1) k ≡ Some i → (n + 1 ≤ i) × (i < (n + 1) + k) × (p i ≡ true)) → (n ≤ i) × (i < n + suc k) × (p i ≡ true)
    go true q r ih = let s : n ≡ i = cc in (omega arith, omega arith, ap p (sym s) ∙ q)
    go false q r ih = let (a, b, c) = ih r in (omega arith, omega arith, c)

-- Where a search finds nothing, no number in range passes.
pub first_none : (p : ℕ → Bool) (n k : ℕ) → first_from p n k ≡ None → (i : ℕ) → n ≤ i → i < n + k → p i ≡ false
unfolding first_from
first_none p n zero e i l h = absurd (omega arith)
first_none p n (suc k) e i l h = go (p n) refl e (first_none p (n + 1) k) (cases_lt n i)
  where
    go : (b : Bool) → p n ≡ b → cond b (Some n) (first_from p (n + 1) k) ≡ None
        → (first_from p (n + 1) k ≡ None → (i : ℕ) → n + 1 ≤ i → i < (n + 1) + k → p i ≡ false) → (n < i) ⊎ (i ≤ n) → p i ≡ false
    go true q r ih c = absurd (cc)
    go false q r ih (inl g) = ih r i (omega arith) (omega arith)
    go false q r ih (inr g) = let s : n ≡ i = omega arith in ap p (sym s) ∙ q

-- The only number in range that passes is the one that is found.
pub first_at : (p : ℕ → Bool) (k i : ℕ) → i < k → p i ≡ true → ((j : ℕ) → j < k → p j ≡ true → j ≡ i) → first_from p 0 k ≡ Some i
first_at p k i h t only = go (first_from p 0 k) refl
  where
    go : (o : Option ℕ) → first_from p 0 k ≡ o → first_from p 0 k ≡ Some i
    go None e = absurd (true≢false (sym t ∙ first_none p 0 k e i (omega arith) (omega arith)))
    go (Some j) e = let (a, b, c) = first_some p 0 k j e in e ∙ ap Some (only j (omega arith) c)
