-- What is written of a workbench: a type, and the answers and refusals of its calls.
use Rattle.std.specs.Prelude.{ℕ, zero, suc, List, [], ◌∷◌, ◌++◌, flat_map, codes, slice_index_or}
use Rattle.std.specs.Fmt.{decimal}
use Rattle.std.specs.List.{concat}
use Rattle.tables.specs.declared.capacities.Capacities.{Capacities}
use Rattle.tables.specs.declared.result.CompileError.{CompileError}
use Rattle.tables.specs.declared.result.CompileError.TheVariants.{NoSuchEntityType, NoSuchAttribute, Full}
use Rattle.tables.specs.declared.term_type.FieldType.{FieldType}
use Rattle.tables.specs.declared.term_type.TermType.TheVariants.{Bool as BoolT, Long, String, Decimal, Datetime, Duration, Entity, Set, Option, Record}
use Rattle.tables.specs.Contents.{Contents, name_at, type_at}
use Rattle.tables.specs.Types.{Type'}
use Rattle.tables.specs.Words.{table_word, refusal_word}
use Rattle.script.specs.declared.answers.Answer.{Answer}
use Rattle.script.specs.declared.answers.Answer.TheVariants.{Done, Number, Name, «Type» as TypeOf, Cells}
use Rattle.script.specs.declared.types.Basic.TheVariants as Basic
use Rattle.script.specs.Basics.{basic_word}
use Rattle.script.specs.Print.{quoted}

-- a field of a record type, where `text` gives its type
abbrev pub field_text : Contents → (ℕ → List ℕ) → FieldType → List ℕ
field_text w text x = codes " (" ++ (quoted (name_at w x.name.0) ++ (codes " " ++ (text x.ty.0 ++ codes ")")))

-- a type, where `text` gives its parts; one without parts is the word that is read for it
abbrev pub shape_text : Contents → (ℕ → List ℕ) → Type' → List ℕ
shape_text w text BoolT = basic_word Basic.Bool
shape_text w text Long = basic_word Basic.Long
shape_text w text String = basic_word Basic.String
shape_text w text Decimal = basic_word Basic.Decimal
shape_text w text Datetime = basic_word Basic.Datetime
shape_text w text Duration = basic_word Basic.Duration
shape_text w text (Entity n) = codes "(entity " ++ (quoted (name_at w n.0) ++ codes ")")
shape_text w text (Set t) = codes "(set " ++ (text t.0 ++ codes ")")
shape_text w text (Option t) = codes "(option " ++ (text t.0 ++ codes ")")
shape_text w text (Record xs) = codes "(record" ++ (flat_map (field_text w text) xs ++ codes ")")

-- the types below a number, in order; a part that is not below its whole is left out
unfoldable pub types_text : Contents → ℕ → List (List ℕ)
types_text w zero = []
types_text w (suc k) = types_text w k ++ shape_text w (λ m. slice_index_or (types_text w k) m []) (type_at w k) ∷ []

-- a part m of the type n
unfoldable pub part_text : Contents → ℕ → ℕ → List ℕ
part_text w n m = slice_index_or (types_text w n) m []

-- The type of a number.
abbrev pub type_text : Contents → ℕ → List ℕ
type_text w n = shape_text w (part_text w n) (type_at w n)

-- Six counts.
abbrev pub counts_text : Capacities → List ℕ
counts_text c =
    concat
    (
    codes "(terms " ∷ decimal c.terms
    ∷ codes ") (types " ∷ decimal c.types
    ∷ codes ") (names " ∷ decimal c.names
    ∷ codes ") (bytes " ∷ decimal c.bytes
    ∷ codes ") (lists " ∷ decimal c.lists
    ∷ codes ") (rows " ∷ decimal c.rows ∷ codes ")" ∷ []
    )

-- An answer from a workbench.
abbrev pub answer_text : Contents → Answer → List ℕ
answer_text w Done = codes "ok"
answer_text w (Number n) = codes "ok " ++ decimal n
answer_text w (Name n) = codes "ok " ++ quoted (name_at w n.0)
answer_text w (TypeOf t) = codes "ok " ++ type_text w t.0
answer_text w (Cells c) = codes "ok " ++ counts_text c

-- what a refusal names: a name of the workbench, or a table
abbrev pub named : Contents → CompileError → List ℕ
named w (NoSuchEntityType n) = codes " " ++ quoted (name_at w n.0)
named w (NoSuchAttribute n) = codes " " ++ quoted (name_at w n.0)
named w (Full t) = codes " " ++ table_word t
named w e = []

-- A refusal from a workbench.
abbrev pub refusal_text : Contents → CompileError → List ℕ
refusal_text w e = codes "err " ++ refusal_word e ++ named w e
