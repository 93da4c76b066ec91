-- What every call keeps to.
use Rattle.std.specs.Prelude.{◌≡◌, ℕ, ◌-◌, ◌<◌, ◌≤◌, Bool, true, false, ◌&&◌, ◌⊎◌, List, ◌++◌, length, Ok, Err, Result, ◌≢◌}
use Rattle.tables.specs.declared.capacities.Capacities.{Capacities}
use Rattle.tables.specs.declared.result.CompileError.{CompileError}
use Rattle.tables.specs.declared.result.CompileError.TheVariants.{Full}
use Rattle.tables.specs.declared.result.Table.{Table}
use Rattle.tables.specs.declared.result.Table.TheVariants.{Terms, Types, Names, Lists}
use Rattle.tables.specs.Terms.{Term', Entry', list_cells}
use Rattle.tables.specs.Types.{Type', fields_of}
use Rattle.tables.specs.Ranges.{Smaller}
use Rattle.tables.specs.declared.ids.TypeId.{TypeId}
use Rattle.tables.specs.Contents.{Contents, name_at, type_at, entry_at, opening}
use Rattle.tables.specs.Kinds.{Step}
use Rattle.tables.specs.Calls.{name_call, type_call, term_call}
use Rattle.tables.specs.Shapes.{is_type, fits, term_fits}
use Rattle.laws.specs.Sound.{Sound}

-- The answer is `Full`, whatever table it names.
abbrev pub is_full : {A : Type 0} → Result A CompileError → Bool
is_full (Err (Full t)) = true
is_full r = false

-- The same cells under other capacities.
abbrev pub recap : Capacities → Contents → Contents
recap k w =
    record { terms = w.terms; types = w.types; names = w.names; bytes = w.bytes; lists = w.lists; capacities = k }

-- The tables v hold what w holds, under the same numbers, and perhaps more.
pub record Later (w v : Contents) : Type 0 where
  pub more_terms : List Entry'
  pub more_types : List Type'
  pub more_names : List (List ℕ)
  pub terms : v.terms ≡ w.terms ++ more_terms
  pub types : v.types ≡ w.types ++ more_types
  pub names : v.names ≡ w.names ++ more_names
  pub capacities : v.capacities ≡ w.capacities

-- A call that is refused changes nothing; cells keep their numbers; sound tables stay sound; a larger
-- workbench answers alike, unless the smaller one is full; and Q holds of an answer.
pub record Lawful {A : Type 0} (m : Step A) (Q : A → Contents → Type 0) : Type 0 where
  pub refused : (w : Contents) (e : CompileError) → (m w).1 ≡ Err e → (m w).0 ≡ w
  pub later : (w : Contents) → Later w (m w).0
  pub sound : (w : Contents) → Sound w → Sound (m w).0
  pub roomy : (w : Contents) (k : Capacities) → Smaller w.capacities k → is_full (m w).1 ≡ false → m (recap k w) ≡ (recap k (m w).0, (m w).1)
  pub gives : (w : Contents) (a : A) → (m w).1 ≡ Ok a → Q a (m w).0

-- The name is held at the number.
abbrev pub NameStands : List ℕ → ℕ → Contents → Type 0
NameStands s n w = (n < length w.names) × (name_at w n ≡ s)

-- The same of a type.
abbrev pub TypeStands : Type' → ℕ → Contents → Type 0
TypeStands t n w = (n < length w.types) × (type_at w n ≡ t)

-- The same of a term.
abbrev pub TermStands : Term' → ℕ → Contents → Type 0
TermStands t n w = (n < length w.terms) × ((entry_at w n).term ≡ t)

-- The calls that enter a name, a type and a term are lawful, and opening gives sound tables.
abbrev pub CallsAreLawful : Type 0
CallsAreLawful =
    ((s : List ℕ) → Lawful (name_call s) (λ n. NameStands s n.0))
    × ((t : Type') → Lawful (type_call t) (λ n. TypeStands t n.0))
    × ((t : Term') (ty : TypeId) → Lawful (term_call t ty) (λ n. TermStands t n.0))
    × ((k : Capacities) → Sound (opening k))

-- The name is not held.
abbrev pub NameAbsent : List ℕ → Contents → Type 0
NameAbsent s w = (i : ℕ) → i < length w.names → name_at w i ≢ s

-- The same of a type.
abbrev pub TypeAbsent : Type' → Contents → Type 0
TypeAbsent t w = (i : ℕ) → i < length w.types → type_at w i ≢ t

-- The same of a term.
abbrev pub TermAbsent : Term' → Contents → Type 0
TermAbsent t w = (i : ℕ) → i < length w.terms → (entry_at w i).term ≢ t

-- The table is the one with the lowest number that has too few free cells for the name.
abbrev pub NameLacks : List ℕ → Contents → Table → Type 0
NameLacks s w Names = (w.capacities.names ≤ length w.names) ⊎ (w.capacities.bytes - w.bytes < length s)
NameLacks s w x = ⊥

-- The same of a type.
abbrev pub TypeLacks : Type' → Contents → Table → Type 0
TypeLacks t w Types = w.capacities.types ≤ length w.types
TypeLacks t w Lists = (length w.types < w.capacities.types) × (w.capacities.lists - w.lists < length (fields_of t))
TypeLacks t w x = ⊥

-- The same of a term.
abbrev pub TermLacks : Term' → Contents → Table → Type 0
TermLacks t w Terms = w.capacities.terms ≤ length w.terms
TermLacks t w Lists = (length w.terms < w.capacities.terms) × (w.capacities.lists - w.lists < list_cells t)
TermLacks t w x = ⊥

-- `Full` comes exactly when something that may be entered and is not held lacks cells in that table.
pub record FullExactly {A : Type 0} (m : Step A) (Wanted : Contents → Type 0) (Lacks : Contents → Table → Type 0) : Type 0 where
  pub only : (w : Contents) (x : Table) → (m w).1 ≡ Err (Full x) → Wanted w × Lacks w x
  pub always : (w : Contents) (x : Table) → Wanted w → Lacks w x → (m w).1 ≡ Err (Full x)

-- That is so of the three calls.
abbrev pub FullComesExactlyWhenCellsAreMissing : Type 0
FullComesExactlyWhenCellsAreMissing =
    ((s : List ℕ) → FullExactly (name_call s) (λ w. (length s ≤ 255) × NameAbsent s w) (NameLacks s))
    × ((t : Type') → FullExactly (type_call t) (λ w. (fits w t ≡ true) × TypeAbsent t w) (TypeLacks t))
    × ((t : Term') (ty : TypeId) → FullExactly (term_call t ty) (λ w. ((is_type w ty && term_fits w t) ≡ true) × TermAbsent t w) (TermLacks t))
