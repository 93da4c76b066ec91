-- What the tables hold, and what reads them.
use Rattle.std.specs.Prelude.{ℕ, Bool, true, false, List, [], ◌∷◌, length, codes, slice_index_or}
use Rattle.tables.specs.declared.capacities.Capacities.{Capacities}
use Rattle.tables.specs.declared.ids.TermId.{TermId}
use Rattle.tables.specs.declared.ids.TypeId.{TypeId}
use Rattle.tables.specs.declared.term.Term.TheVariants.{Prim, None, Some, Set, Record}
use Rattle.tables.specs.declared.term.TermPrim.TheVariants.{Bool as Truth}
use Rattle.tables.specs.declared.term_type.TermType.TheVariants.{Bool as BoolT}
use Rattle.std.specs.List.{list_all}
use Rattle.tables.specs.Types.{Type'}
use Rattle.tables.specs.Terms.{Term', Entry'}

-- The cells of each table by their numbers. A name is its bytes, and a record type has its fields;
-- where these lie is not seen, only how many bytes and list cells are in use.
pub record Contents : Type 0 where
  pub terms : List Entry'
  pub types : List Type'
  pub names : List (List ℕ)
  pub bytes : ℕ
  pub lists : ℕ
  pub capacities : Capacities

-- The name of a number; the empty name past the end.
abbrev pub name_at : Contents → ℕ → List ℕ
name_at w n = slice_index_or w.names n []

-- The type of a number; Bool past the end.
abbrev pub type_at : Contents → ℕ → Type'
type_at w n = slice_index_or w.types n BoolT

-- A constant: its type is the first one.
abbrev pub truth : Bool → Entry'
truth b = record { term = Prim (Truth b); ty = record { 0 = 0 }; literal = true }

-- What stands at the number of a term; false past the end.
abbrev pub entry_at : Contents → ℕ → Entry'
entry_at w n = slice_index_or w.terms n (truth false)

-- Whether the term of a number is literal.
abbrev pub literal_at : Contents → TermId → Bool
literal_at w t = (entry_at w t.0).literal

-- A term is literal where it holds no variable and no operator.
abbrev pub literal_of : Contents → Term' → Bool
literal_of w (Prim l) = true
literal_of w (None t) = true
literal_of w (Some t) = literal_at w t
literal_of w (Set t es) = list_all (literal_at w) es
literal_of w (Record fs) = list_all (λ f. literal_at w f.term) fs
literal_of w t = false

-- What a table holds of a term of a type.
abbrev pub entry_of : Contents → Term' → TypeId → Entry'
entry_of w t ty = record { term = t; ty = ty; literal = literal_of w t }

-- The constants false and true with their type, and no name.
abbrev pub nameless : Capacities → Contents
nameless c = record { terms = truth false ∷ truth true ∷ []; types = BoolT ∷ []; names = []; bytes = 0; lists = 0; capacities = c }

-- What opening enters: false and true, Bool, and the names `entity` and `tag`.
unfoldable pub opening : Capacities → Contents
opening c =
    record {
      terms = truth false ∷ truth true ∷ [];
      types = BoolT ∷ [];
      names = codes "entity" ∷ codes "tag" ∷ [];
      bytes = 9;
      lists = 0;
      capacities = c;
    }

-- How many cells of each table are in use; there are no rows yet.
abbrev pub in_use : Contents → Capacities
in_use w =
    record {
      terms = length w.terms;
      types = length w.types;
      names = length w.names;
      bytes = w.bytes;
      lists = w.lists;
      rows = 0;
    }
