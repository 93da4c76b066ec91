-- A list in order whose elements have numbers of their own below n has at most n elements.
use Rattle.std.proofs.Common.{◌≡◌, ℕ, zero, suc, ◌<◌, ◌≤◌, Bool, true, false, cond, eqb, List, [], ◌∷◌, length, Ordering, Equal, sym, refl, subst, inl, inr, arith}
use Rattle.std.proofs.lemmas.Bool.{eqb-true, eqb-false}
use Rattle.std.specs.List.{AllByRecursion}
use Rattle.sorting.specs.Orders.{In, Ascending}
use Rattle.sorting.proofs.Lists.{all_in, in_all}

module _ {A : Type 0} (f : A → ℕ) where
  -- No two elements have the same number.
  abbrev Apart : List A → Type 0
  Apart [] = Unit {0}
  Apart (x ∷ xs) = AllByRecursion (λ y. f x ≡ f y → ⊥) xs × Apart xs

  -- The elements with another number than n.
  abbrev without : ℕ → List A → List A
  without n [] = []
  without n (x ∷ xs) = cond (eqb (f x) n) (without n xs) (x ∷ without n xs)

  all_without : (P : A → Type 0) (n : ℕ) (xs : List A) → AllByRecursion P xs → AllByRecursion P (without n xs)
  all_without P n [] h = tt
  all_without P n (x ∷ xs) h = go (eqb (f x) n) (all_without P n xs h.1)
    where
      go : (b : Bool) → AllByRecursion P (without n xs) → AllByRecursion P (cond b (without n xs) (x ∷ without n xs))
      go true ih = ih
      go false ih = (h.0, ih)

  below_without : (n : ℕ) (xs : List A) → AllByRecursion (λ x. f x < suc n) xs → AllByRecursion (λ x. f x < n) (without n xs)
  below_without n [] h = tt
  below_without n (x ∷ xs) h = go (eqb (f x) n) refl (below_without n xs h.1)
    where
      go : (b : Bool) → eqb (f x) n ≡ b → AllByRecursion (λ x. f x < n) (without n xs) → AllByRecursion (λ x. f x < n) (cond b (without n xs) (x ∷ without n xs))
      go true e ih = ih
      go false e ih = (let ne = eqb-false (f x) n e in let lt = h.0 in omega (arith, ne), ih)

  apart_without : (n : ℕ) (xs : List A) → Apart xs → Apart (without n xs)
  apart_without n [] h = tt
  apart_without n (x ∷ xs) h = go (eqb (f x) n) (apart_without n xs h.1)
    where
      go : (b : Bool) → Apart (without n xs) → Apart (cond b (without n xs) (x ∷ without n xs))
      go true ih = ih
      go false ih = (all_without (λ y. f x ≡ f y → ⊥) n xs h.0, ih)

  -- Where no element has the number, all stay.
  without_none : (n : ℕ) (xs : List A) → AllByRecursion (λ y. n ≡ f y → ⊥) xs → length xs ≤ length (without n xs)
  without_none n [] h = omega arith
  without_none n (x ∷ xs) h = go (eqb (f x) n) refl (without_none n xs h.1)
    where
      go : (b : Bool) → eqb (f x) n ≡ b → length xs ≤ length (without n xs) → length (x ∷ xs) ≤ length (cond b (without n xs) (x ∷ without n xs))
      go true e ih = absurd (h.0 (sym (eqb-true (f x) n e)))
      go false e ih = omega arith

  -- At most one goes.
  without_one : (n : ℕ) (xs : List A) → Apart xs → length xs ≤ suc (length (without n xs))
  without_one n [] h = omega arith
  without_one n (x ∷ xs) h = go (eqb (f x) n) refl (without_one n xs h.1)
    where
      go : (b : Bool) → eqb (f x) n ≡ b → length xs ≤ suc (length (without n xs)) → length (x ∷ xs) ≤ suc (length (cond b (without n xs) (x ∷ without n xs)))
      go true e ih = omega (arith, without_none n xs (subst (λ k. AllByRecursion (λ y. k ≡ f y → ⊥) xs) (eqb-true (f x) n e) h.0))
      go false e ih = omega arith

  apart_fits : (n : ℕ) (xs : List A) → AllByRecursion (λ x. f x < n) xs → Apart xs → length xs ≤ n
  apart_fits zero [] h a = omega arith
  apart_fits zero (x ∷ xs) h a = let lt = h.0 in omega arith
  apart_fits (suc n) xs h a =
      omega (arith, without_one n xs a, apart_fits n (without n xs) (below_without n xs h) (apart_without n xs a))

  ascending_apart : (cmp : A → A → Ordering) (xs : List A) → ((x y : A) → In x xs → In y xs → f x ≡ f y → cmp x y ≡ Equal) → Ascending cmp xs → Apart xs
  ascending_apart cmp [] same h = tt
  ascending_apart cmp (x ∷ xs) same h = (
    all_in (λ y. f x ≡ f y → ⊥) xs (λ y k e. cc (in_all _ xs h.0 y k, same x y (inl refl) (inr k) e)),
    ascending_apart cmp xs (λ y z k l. same y z (inr k) (inr l)) h.1,
  )

-- The same number is to mean equal, of the elements or of all.
pub pigeonhole_in : {A : Type 0} (cmp : A → A → Ordering) (f : A → ℕ) (n : ℕ) (xs : List A) → ((x y : A) → In x xs → In y xs → f x ≡ f y → cmp x y ≡ Equal) → Ascending cmp xs → AllByRecursion (λ x. f x < n) xs → length xs ≤ n
pigeonhole_in cmp f n xs same h below = apart_fits f n xs below (ascending_apart f cmp xs same h)

pub pigeonhole : {A : Type 0} (cmp : A → A → Ordering) (f : A → ℕ) (n : ℕ) (xs : List A) → ((x y : A) → f x ≡ f y → cmp x y ≡ Equal) → Ascending cmp xs → AllByRecursion (λ x. f x < n) xs → length xs ≤ n
pigeonhole cmp f n xs same h below = pigeonhole_in cmp f n xs (λ x y k l. same x y) h below
