-- What a script's workbench holds, and what a call on it does.
use Rattle.std.specs.Prelude.{◌≡◌, Bool, true, false, Some, None, Err, Option, Result}
use Rattle.tables.specs.declared.result.CompileError.{CompileError}
use Rattle.tables.specs.declared.result.CompileError.TheVariants.{NoMemory}
use Rattle.tables.specs.Contents.{Contents}
use Rattle.tables.specs.Kinds.{Step}
use Rattle.script.specs.declared.state.State.{State}
use Rattle.script.specs.declared.state.State.TheVariants.{Draft, Sealed, Closed}

-- The contents of the workbench, where there is one.
abbrev pub held : State → Option Contents
held (Draft d) = Some d
held (Sealed s) = Some s
held Closed = None

-- Whether it is a draft.
abbrev pub is_draft : State → Bool
is_draft (Draft d) = true
is_draft (Sealed s) = false
is_draft Closed = false

-- A call answered r and left w; where there is no workbench, it is refused.
abbrev pub On : {A : Type 0} → Step A → Option Contents → Result A CompileError → Option Contents → Type 0
On f (Some v) r w = (w ≡ Some (f v).0) × (r ≡ (f v).1)
On f None r w = (w ≡ None) × (r ≡ Err NoMemory)
