-- The calls that enter a name, a type and a term.
use Rattle.std.specs.Prelude.{ℕ, cond, ◌&&◌, List, length, Err, nat_le}
use Rattle.tables.specs.declared.ids.NameId.{NameId}
use Rattle.tables.specs.declared.ids.TermId.{TermId}
use Rattle.tables.specs.declared.ids.TypeId.{TypeId}
use Rattle.tables.specs.declared.result.CompileError.TheVariants.{BadInput}
use Rattle.tables.specs.Types.{Type'}
use Rattle.tables.specs.Terms.{Term'}
use Rattle.tables.specs.Kinds.{Step, enter_name, enter_type, enter_term}
use Rattle.tables.specs.Shapes.{is_type, fits, term_fits}

-- A name of more than 255 bytes is BadInput.
unfoldable pub name_call : List ℕ → Step NameId
name_call s w = cond (nat_le (length s) 255) (enter_name s w) (w, Err BadInput)

-- A type that may not be entered is BadInput.
unfoldable pub type_call : Type' → Step TypeId
type_call t w = cond (fits w t) (enter_type t w) (w, Err BadInput)

-- A term of a type, one of whose parts is not entered, is BadInput.
unfoldable pub term_call : Term' → TypeId → Step TermId
term_call t ty w = cond (is_type w ty && term_fits w t) (enter_term t ty w) (w, Err BadInput)
