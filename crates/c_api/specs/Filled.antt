-- What a buffer holds after answers were written to its front.
use Rattle.std.specs.Prelude.{◌≡◌, ℕ, ◌≤◌, List, length, take, drop, ℤ, pos, negsuc}
use Rattle.script.specs.Sessions.{Lines}

-- After a result n, which is at most its length, its first n bytes are whole lines, and the others
-- are as they were. A negative result leaves it as it was.
abbrev pub Filled : ℤ → List ℕ → List ℕ → Type 0
Filled (pos n) before after = (n ≤ length before) × Lines (take n after) × (drop n after ≡ drop n before)
Filled (negsuc n) before after = after ≡ before
