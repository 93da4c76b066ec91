-- What opening answers.
use Rattle.std.specs.Prelude.{◌≡◌, true, false, ◌⊎◌, Ok, Err, Result}
use Rattle.tables.specs.declared.capacities.Capacities.{Capacities}
use Rattle.tables.specs.declared.result.CompileError.{CompileError}
use Rattle.tables.specs.declared.result.CompileError.TheVariants.{BadInput, NoMemory}
use Rattle.tables.specs.Ranges.{in_range}
use Rattle.tables.specs.Contents.{Contents, opening}

-- Capacities outside their ranges are BadInput, and no others are. Within them Q holds of the answer, unless there is no memory for it.
abbrev pub Opens : {A : Type 0} → Capacities → (A → Type 0) → Result A CompileError → Type 0
Opens c Q (Ok a) = (in_range c ≡ true) × Q a
Opens c Q (Err e) = ((in_range c ≡ false) × (e ≡ BadInput)) ⊎ ((in_range c ≡ true) × (e ≡ NoMemory))

-- The tables hold what opening enters.
abbrev pub Opened : Capacities → Result Contents CompileError → Type 0
Opened c = Opens c (λ w. w ≡ opening c)
