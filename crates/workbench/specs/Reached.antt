-- The tables that a workbench can hold: those that some calls lead to.
use Rattle.std.specs.Prelude.{◌≡◌, true, List}
use Rattle.tables.specs.declared.capacities.Capacities.{Capacities}
use Rattle.tables.specs.Ranges.{in_range}
use Rattle.tables.specs.Contents.{Contents, opening}
use Rattle.workbench.specs.Runs.{Call', calls}

-- Some calls after opening lead to the tables. Sealing leaves them as they are, so this is said of a draft and of a sealed workbench alike: a run's tables are those of its calls on the draft and then on the sealed workbench, one list after the other.
abbrev pub Reached : Contents → Type 0
Reached w = ∥ ((k : Capacities) × (cs : List Call') × (in_range k ≡ true) × (w ≡ (calls cs (opening k)).0)) ∥₁
