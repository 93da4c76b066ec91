use Rattle.std.proofs.Common.{ℕ, Bool, true, false, List, [], ◌∷◌, ◌++◌, Ok, Err, Result, inr, append_assoc}
use Rattle.script.specs.Sessions.{Lines, Answered}

-- whole lines are left of whole lines by any answer
pub more : {A E : Type 0} (b : Bool) (r : Result A E) (x y : List ℕ) → Answered b r x y → Lines x → Lines y
more true r x y e h = rw e h
more false (Ok a) x y (t, e, (s, d)) h = let a = append_assoc x s (10 ∷ []) in inr (x ++ s, cc)
more false (Err a) x y e h = rw e h
