-- What a session starts with, and what it answers.
use Rattle.std.specs.Prelude.{◌≡◌, ℕ, Bool, true, false, ◌⊎◌, List, [], ◌∷◌, ◌++◌, Some, Ok, Err, Result}
use Rattle.tables.specs.Contents.{opening}
use Rattle.script.specs.declared.fault.Fault.{Fault}
use Rattle.script.specs.declared.fault.Fault.TheVariants.{Bad, Refused}
use Rattle.script.specs.declared.session.Session.{Session}
use Rattle.script.specs.Held.{held, is_draft}

-- A draft of the largest capacities, with what opening enters.
abbrev pub Starts : Session → Type 0
Starts s =
    (is_draft s.state ≡ true)
    × (held s.state ≡ Some (opening (record { terms = 4096; types = 512; names = 1024; bytes = 16384; lists = 8192; rows = 200 })))

-- What holds of a line that is not in the form.
abbrev pub OnBad : {A : Type 0} → Result A Fault → Type 0 → Type 0
OnBad (Ok a) p = Unit {0}
OnBad (Err (Bad b)) p = p
OnBad (Err (Refused e)) p = Unit {0}

-- Text that ends with the end of a line.
abbrev pub Ended : List ℕ → Type 0
Ended t = (s : List ℕ) × (t ≡ s ++ 10 ∷ [])

-- Text of whole lines.
abbrev pub Lines : List ℕ → Type 0
Lines t = (t ≡ []) ⊎ Ended t

-- What is there after an answer to a line that is skipped or not: text that ends a line is
-- appended where the line has an answer and there is memory for it, and nothing otherwise.
abbrev pub Answered : {A E : Type 0} → Bool → Result A E → List ℕ → List ℕ → Type 0
Answered true r before after = after ≡ before
Answered false (Ok a) before after = (t : List ℕ) × (after ≡ before ++ t) × Ended t
Answered false (Err e) before after = after ≡ before
