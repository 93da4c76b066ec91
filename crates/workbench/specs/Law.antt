-- The law of runs: what holds of every workbench, whatever calls were made on it.
use Rattle.std.specs.Prelude.{◌≡◌, true, ◌⊎◌, List, [], ◌∷◌, ◌++◌, Ok, Err}
use Rattle.tables.specs.declared.capacities.Capacities.{Capacities}
use Rattle.tables.specs.declared.result.CompileError.{CompileError}
use Rattle.tables.specs.Ranges.{Smaller}
use Rattle.tables.specs.Contents.{Contents}
use Rattle.laws.specs.Sound.{HeldOnce}
use Rattle.laws.specs.Lawful.{is_full, NameStands, TypeStands, FullComesExactlyWhenCellsAreMissing}
use Rattle.workbench.specs.declared.calls.Reply.{Reply}
use Rattle.workbench.specs.declared.calls.Reply.TheVariants.{Name, «Type» as TypeR}
use Rattle.workbench.specs.Runs.{Call', name', type', Answer, step, runs}

-- Where a call is refused, the tables are as they were before it.
abbrev pub RefusedCallsChangeNothing : Type 0
RefusedCallsChangeNothing =
    ((k : Capacities) (ds : List Call') (d : Call') (e : CompileError)
    → (step d (runs k ds []).0).1 ≡ Err e → (runs k (ds ++ d ∷ []) []).0 ≡ (runs k ds []).0)
    × ((k : Capacities) (ds : List Call') (ss : List Call') (s : Call') (e : CompileError)
    → (step s (runs k ds ss).0).1 ≡ Err e → (runs k ds (ss ++ s ∷ [])).0 ≡ (runs k ds ss).0)

-- The answers are equal up to the first `Full` among the first ones.
unfoldable pub Alike : List Answer → List Answer → Type 0
Alike [] bs = bs ≡ []
Alike (a ∷ as') [] = ⊥
Alike (a ∷ as') (b ∷ bs) = (is_full a ≡ true) ⊎ ((a ≡ b) × Alike as' bs)

-- A workbench with no capacity smaller, given the same calls, answers alike up to the smaller one's first `Full`.
abbrev pub LargerWorkbenchesAnswerAlike : Type 0
LargerWorkbenchesAnswerAlike =
    (k l : Capacities) → Smaller k l → (ds : List Call') (ss : List Call') → Alike (runs k ds ss).1 (runs l ds ss).1

-- Two names have one number exactly when their bytes are the same, and two types, or two terms, exactly when their trees are.
abbrev pub EachStructureHasOneNumber : Type 0
EachStructureHasOneNumber = (k : Capacities) (ds : List Call') (ss : List Call') → HeldOnce (runs k ds ss).0

-- The number that a call answered points at what the call was given.
abbrev pub PointsAt : Call' → Reply → Contents → Type 0
PointsAt (name' s) (Name n) w = NameStands s n.0 w
PointsAt (type' t) (TypeR n) w = TypeStands t n.0 w
PointsAt c r w = ⊥

-- Each number that a call answers points at what the call was given, and after all later calls too.
abbrev pub NumbersLast : Type 0
NumbersLast =
    ((k : Capacities) (ds : List Call') (d : Call') (r : Reply) (es : List Call') (ss : List Call')
    → (step d (runs k ds []).0).1 ≡ Ok r → PointsAt d r (runs k (ds ++ d ∷ es) ss).0)
    × ((k : Capacities) (ds : List Call') (ss : List Call') (s : Call') (r : Reply) (ts : List Call')
    → (step s (runs k ds ss).0).1 ≡ Ok r → PointsAt s r (runs k ds (ss ++ s ∷ ts)).0)

-- What holds of every run.
pub record LawOfRuns : Type 0 where
  pub refused_calls_change_nothing : RefusedCallsChangeNothing
  pub larger_workbenches_answer_alike : LargerWorkbenchesAnswerAlike
  pub each_structure_has_one_number : EachStructureHasOneNumber
  pub full_comes_exactly_when_cells_are_missing : FullComesExactlyWhenCellsAreMissing
  pub numbers_last : NumbersLast
