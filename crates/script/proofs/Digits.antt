use Rattle.std.proofs.Common.{◌≡◌, ◌≤◌, ℕ, true, List, Ok, Err, Result, IfSome, get_or, rules, arith}
use Rattle.std.specs.Result.{result_ok}
use Rattle.std.specs.Str.{all_ascii_digits}
use Rattle.std.specs.Str.Parse.{ParsesUnsigned}
use Rattle.std.proofs.lemmas.Str.Parse.{IsNumeralModel, numerals_by_fold, parse_plain}
use Rattle.script.specs.Decimal.{value}

model : IsNumeralModel (λ ds. all_ascii_digits ds ≡ true) (value 0)
model = numerals_by_fold _ (search rules) value (search rules)

-- what `parse` gives of a text that begins with no sign
pub parsed : {E : Type 0} (bs : List ℕ) (r : Result ℕ E) → 48 ≤ get_or bs 0 0 → ParsesUnsigned 64 10 bs r → IfSome (result_ok r) (λ n. n ≡ value 0 bs)
parsed {E} bs (Ok n) plain h = (parse_plain model {E = E} 64 bs (Ok n) h (omega arith)).1
parsed bs (Err e) plain h = tt
