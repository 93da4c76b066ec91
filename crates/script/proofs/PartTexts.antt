use Rattle.std.proofs.Common.{◌≡◌, ℕ, zero, suc, ◌-◌, ◌<◌, ◌≤◌, [], ◌∷◌, length, get_or, arith, refl, ⊎_elim}
use Rattle.std.proofs.lemmas.List.{get_or_append_left, get_or-append_right, get_or_past, length_push}
use Rattle.std.proofs.lemmas.Bool.{cases_lt}
use Rattle.tables.specs.Contents.{Contents}
use Rattle.script.specs.AnswerText.{types_text, part_text, type_text}

length_types : (w : Contents) (k : ℕ) → length (types_text w k) ≡ k
unfolding types_text
length_types w zero = refl
length_types w (suc k) = let h = length_types w k in search (arith, length_push)

-- a part below its whole
pub part_is : (w : Contents) (n m : ℕ) → m < n → part_text w n m ≡ type_text w m
unfolding part_text types_text
part_is w zero m h = absurd (omega arith)
part_is w (suc k) m h =
    let l = length_types w k in
    let last = type_text w k ∷ [] in
    ⊎_elim
    (λ one. let a = get_or_append_left (types_text w k) last [] m (omega (arith, l)) in let b = part_is w k m one in cc)
    (
    λ two.
    let e : m ≡ k = omega arith in
    let z : k - k ≡ 0 = omega arith in
    let a : get_or (types_text w (suc k)) k [] ≡ type_text w k =
    rw z at (get_or-append_right (types_text w k) last k k [] l (omega arith))
    in
    rw e a
    )
    (cases_lt m k)

-- there is no other
pub no_part : (w : Contents) (n m : ℕ) → n ≤ m → part_text w n m ≡ []
unfolding part_text
no_part w n m h = get_or_past (types_text w n) m [] (omega (arith, length_types w n))
