-- Exact results, and when they do not fit 64 bits.
use Rattle.std.specs.Prelude.{◌-◌, ◌^◌, Bool, ◌||◌, ℤ, pos, negsuc, int_lt}

-- The number is below -2^63 or above 2^63 - 1.
abbrev pub outside : ℤ → Bool
outside z = int_lt z (negsuc (2 ^ 63 - 1)) || int_lt (pos (2 ^ 63 - 1)) z
