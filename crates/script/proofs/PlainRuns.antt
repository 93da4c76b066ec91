-- Runs of bytes that stand within quotes as themselves.
use Rattle.std.proofs.Common.{◌≡◌, ℕ, ◌+◌, ◌-◌, ◌<◌, ◌≤◌, List, [], ◌∷◌, ◌++◌, length, get_or, take, slice_range, flat_map, All, refl, ap, ◌∙◌, arith, append_assoc, take-add, take_all}
use Rattle.std.proofs.lemmas.Grind.{common_steps, elements, flat_map-append}
use Rattle.std.proofs.lemmas.List.Elements.{All-head, All-tail}
use Rattle.script.specs.Print.{spelled}

abbrev pub IsPlain : ℕ → Type 0
IsPlain b = (spelled b ≡ b ∷ []) × (b < 128)

-- the bytes from a to b are plain
abbrev pub IsPlainRun : List ℕ → ℕ → ℕ → Type 0
IsPlainRun bs a b = (k : ℕ) → a ≤ k → k < b → IsPlain (get_or bs k 0)

run_of : (bs : List ℕ) (a b : ℕ) → IsPlainRun bs a b → All IsPlain (slice_range bs a b)
run_of bs a b h k d l =
    let low : k < b - a = grind (arith, elements) in
    let e : get_or (slice_range bs a b) k d ≡ get_or bs (a + k) 0 = grind (arith, elements) in
    rw e (h (a + k) (omega arith) (omega arith))

spelled_as_is : (xs : List ℕ) → All IsPlain xs → flat_map spelled xs ≡ xs
spelled_as_is [] h = refl
spelled_as_is (x ∷ xs) h =
    let rest = spelled_as_is xs (All-tail IsPlain x xs h) in
    let one : spelled x ≡ x ∷ [] = (All-head IsPlain x xs h).0 in
    ap (λ (l : List ℕ). l ++ flat_map spelled xs) one ∙ ap (λ (l : List ℕ). x ∷ l) rest

-- a run that follows bytes written so far
run_follows : (bs : List ℕ) (a b : ℕ) → a ≤ b → IsPlainRun bs a b → flat_map spelled (take a bs) ++ slice_range bs a b ≡ flat_map spelled (take b bs)
run_follows bs a b le h =
    let whole : a + (b - a) ≡ b = omega arith in
    let run = spelled_as_is (slice_range bs a b) (run_of bs a b h) in
    let cut : take b bs ≡ take a bs ++ slice_range bs a b = rw whole at (take-add a (b - a) bs) in
    rw (cut, flat_map-append, run) refl

-- a run, and the byte after it
pub run_and_byte : (bs : List ℕ) (a b : ℕ) → a ≤ b → b < length bs → IsPlainRun bs a b → flat_map spelled (take a bs) ++ (slice_range bs a b ++ spelled (get_or bs b 0)) ≡ flat_map spelled (take (b + 1) bs)
run_and_byte bs a b le lt h =
    let run = run_follows bs a b le h in
    grind (arith, common_steps, flat_map-append, append_assoc)

-- the last run
pub run_at_end : (bs : List ℕ) (a b : ℕ) → a ≤ b → length bs ≤ b → IsPlainRun bs a b → flat_map spelled (take a bs) ++ slice_range bs a b ≡ flat_map spelled bs
run_at_end bs a b le end h = let run = run_follows bs a b le h in rw (take_all b bs end) at run
