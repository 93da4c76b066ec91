-- The search for the first number that passes a test, as std has it of lists.
use Rattle.std.proofs.Common.{◌≡◌, ℕ, zero, suc, ◌+◌, Bool, cond, Some, refl, ap}
use Rattle.std.specs.List.{find, range_with_len}
use Rattle.tables.specs.Kinds.{first_from}

pub find-range : (p : ℕ → Bool) (n k : ℕ) → find p (range_with_len n k) ≡ first_from p n k
unfolding first_from
find-range p n zero = refl
find-range p n (suc k) = ap (cond (p n) (Some n)) (find-range p (n + 1) k)
