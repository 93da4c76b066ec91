-- Lists of calls, what each answers, and what the tables hold afterwards.
use Rattle.std.specs.Prelude.{ℕ, List, [], ◌∷◌, ◌++◌, Result}
use Rattle.tables.specs.declared.capacities.Capacities.{Capacities}
use Rattle.tables.specs.declared.result.CompileError.{CompileError}
use Rattle.tables.specs.Types.{Type', type_of}
use Rattle.tables.specs.Contents.{Contents, opening}
use Rattle.tables.specs.Kinds.{Step, giving}
use Rattle.tables.specs.Calls.{name_call, type_call}
use Rattle.workbench.specs.declared.calls.Call.{Call}
use Rattle.workbench.specs.declared.calls.Call.TheVariants.{Name as NameC, «Type» as TypeC}
use Rattle.workbench.specs.declared.calls.Reply.{Reply}
use Rattle.workbench.specs.declared.calls.Reply.TheVariants.{Name, «Type» as TypeR}

-- A call on a workbench, on a draft as on a sealed one.
pub data Call' : Type 0 where
  name' : List ℕ → Call'
  type' : Type' → Call'

-- The call that a value of the code stands for.
abbrev pub call_of : Call → Call'
call_of (NameC s) = name' s.now
call_of (TypeC t) = type' (type_of t)

-- What a call answers: a reply or a refusal.
abbrev pub Answer : Type 0
Answer = Result Reply CompileError

-- What a call does.
unfoldable pub step : Call' → Step Reply
step (name' s) = giving Name (name_call s)
step (type' t) = giving TypeR (type_call t)

-- The calls one after another: their answers in order, and the tables at the end.
unfoldable pub calls : List Call' → Contents → Contents × List Answer
calls [] w = (w, [])
calls (c ∷ cs) w = let o = step c w in let r = calls cs o.0 in (r.0, o.1 ∷ r.1)

-- A run: a workbench is opened, the draft takes its calls, is sealed, and takes the calls of a sealed one.
unfoldable pub runs : Capacities → List Call' → List Call' → Contents × List Answer
runs k ds ss =
    let d = calls ds (opening k) in
    let s = calls ss d.0 in
    (s.0, d.1 ++ s.1)
