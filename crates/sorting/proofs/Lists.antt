-- Members of lists, and what holds of each.
use Rattle.std.proofs.Common.{◌≡◌, List, [], ◌∷◌, map, sym, refl, ap, subst, inl, inr}
use Rattle.std.specs.List.{AllByRecursion}
use Rattle.sorting.specs.Orders.{In}

pub all_in : {A : Type 0} (P : A → Type 0) (xs : List A) → ((x : A) → In x xs → P x) → AllByRecursion P xs
all_in P [] f = tt
all_in P (x ∷ xs) f = (f x (inl refl), all_in P xs (λ z h. f z (inr h)))

pub in_all : {A : Type 0} (P : A → Type 0) (xs : List A) → AllByRecursion P xs → (x : A) → In x xs → P x
in_all P [] h z k = absurd k
in_all P (x ∷ xs) h z (inl p) = subst P (sym p) h.0
in_all P (x ∷ xs) h z (inr k) = in_all P xs h.1 z k

pub all_members : {A : Type 0} (xs : List A) → AllByRecursion (λ x. In x xs) xs
all_members xs = all_in (λ x. In x xs) xs (λ x h. h)

pub in_map : {A B : Type 0} (f : A → B) (z : B) (xs : List A) → In z (map f xs) → (x : A) × In x xs × (z ≡ f x)
in_map f z [] h = absurd h
in_map f z (x ∷ xs) (inl p) = (x, inl refl, p)
in_map f z (x ∷ xs) (inr h) = let (y, k, e) = in_map f z xs h in (y, inr k, e)

pub map_in : {A B : Type 0} (f : A → B) (x : A) (xs : List A) → In x xs → In (f x) (map f xs)
map_in f x [] h = absurd h
map_in f x (y ∷ xs) (inl p) = inl (ap f p)
map_in f x (y ∷ xs) (inr h) = inr (map_in f x xs h)
