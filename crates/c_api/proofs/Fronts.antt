use Rattle.std.proofs.Common.{◌≡◌, ℕ, ◌≤◌, List, ◌++◌, length, drop, pos, ap}
use Rattle.std.proofs.lemmas.List.{take_at, drop_at}
use Rattle.script.specs.Sessions.{Lines}
use Rattle.c_api.specs.Filled.{Filled}

-- a text of n bytes at the front of a buffer
pub front : (n : ℕ) (text before after : List ℕ) → length text ≡ n → n ≤ length before → Lines text → after ≡ text ++ drop (length text) before → Filled (pos n) before after
front n text before after l h w a = rw (a, take_at, drop_at) (h, w, ap (λ k. drop k before) l)
