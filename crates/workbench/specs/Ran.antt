-- What a run answers.
use Rattle.std.specs.Prelude.{◌≡◌, List, vec_items, Result}
use Rattle.tables.specs.declared.capacities.Capacities.{Capacities}
use Rattle.tables.specs.declared.result.CompileError.{CompileError}
use Rattle.tables.specs.Opening.{Opens}
use Rattle.workbench.specs.declared.run.RunResult.{RunResult}
use Rattle.workbench.specs.Runs.{Call', runs}

-- The answers and the tables are those of the run.
abbrev pub Ran : Capacities → List Call' → List Call' → Result RunResult CompileError → Type 0
Ran k ds ss = Opens k (λ r. (r.workbench ≡ (runs k ds ss).0) × (vec_items r.answers ≡ (runs k ds ss).1))
