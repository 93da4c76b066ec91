-- Structures that the tables hold once, and how one is found and entered.
use Rattle.std.specs.Prelude.{◌≡◌, ℕ, zero, suc, ◌+◌, ◌-◌, Bool, cond, ◌&&◌, List, [], ◌∷◌, ◌++◌, length, Some, None, Ok, Err, Option, Result, nat_le, nat_lt}
use Rattle.std.specs.Str.{bytes_eq}
use Rattle.tables.specs.declared.ids.NameId.{NameId}
use Rattle.tables.specs.declared.ids.TypeId.{TypeId}
use Rattle.tables.specs.declared.ids.TermId.{TermId}
use Rattle.tables.specs.declared.result.CompileError.{CompileError}
use Rattle.tables.specs.declared.result.CompileError.TheVariants.{Full}
use Rattle.tables.specs.declared.result.Table.{Table}
use Rattle.tables.specs.declared.result.Table.TheVariants.{Terms, Types, Names, Lists}
use Rattle.tables.specs.Types.{Type', fields_of, same_type}
use Rattle.tables.specs.Terms.{Term', Entry', list_cells, same_term}
use Rattle.tables.specs.Contents.{Contents, name_at, type_at, entry_at, entry_of}

-- What a call leaves in the tables, and what it answers.
abbrev pub Outcome : Type 0 → Type 0
Outcome A = Contents × Result A CompileError

-- A call, as what it makes of the tables.
abbrev pub Step : Type 0 → Type 0
Step A = Contents → Outcome A

-- A call answered r and left w, as the outcome says.
abbrev pub Now : {A : Type 0} → Outcome A → Result A CompileError → Contents → Type 0
Now o r w = (w ≡ o.0) × (r ≡ o.1)

-- A kind of structure that the tables hold once.
pub record Kind (A : Type 0) : Type 0 where
  -- how many are held
  pub count : Contents → ℕ
  -- whether this one is held at a number
  pub held : A → Contents → ℕ → Bool
  -- the table with the lowest number that has too few free cells for it, if there is one
  pub lacking : A → Contents → Option Table
  -- the tables with it put behind
  pub put : A → Contents → Contents

-- The first of the k numbers from n on that passes the test.
unfoldable pub first_from : (ℕ → Bool) → ℕ → ℕ → Option ℕ
first_from p n zero = None
first_from p n (suc k) = cond (p n) (Some n) (first_from p (n + 1) k)

-- The number at which a structure is held.
unfoldable pub find : {A : Type 0} → Kind A → A → Contents → Option ℕ
find k a w = first_from (k.held a w) 0 (k.count w)

-- Puts a structure behind, unless a table lacks cells for it.
abbrev pub put_unless : {A : Type 0} → Kind A → A → Option Table → Step ℕ
put_unless k a (Some t) w = (w, Err (Full t))
put_unless k a None w = (k.put a w, Ok (k.count w))

-- Gives the number at which a structure is held, or enters it.
abbrev pub enter_unless : {A : Type 0} → Kind A → A → Option ℕ → Step ℕ
enter_unless k a (Some n) w = (w, Ok n)
enter_unless k a None w = put_unless k a (k.lacking a w) w

-- A structure that is held keeps its number. Any other is put behind, where no table lacks cells for it.
unfoldable pub enter : {A : Type 0} → Kind A → A → Step ℕ
enter k a w = enter_unless k a (find k a w) w

-- The same kind, of what stands for its structures.
abbrev pub through : {A B : Type 0} → (B → A) → Kind A → Kind B
through f k =
    record {
      count = k.count;
      held = λ b. k.held (f b);
      lacking = λ b. k.lacking (f b);
      put = λ b. k.put (f b);
    }

-- Names: one cell each, and their bytes.
abbrev pub name_kind : Kind (List ℕ)
name_kind =
    record {
      count = λ w. length w.names;
      held = λ s w n. bytes_eq (name_at w n) s;
      lacking = λ s w. cond (nat_lt (length w.names) w.capacities.names && nat_le (length s) (w.capacities.bytes - w.bytes)) None (Some Names);
      put = λ s w. record {
        terms = w.terms;
        types = w.types;
        names = w.names ++ s ∷ [];
        bytes = w.bytes + length s;
        lists = w.lists;
        capacities = w.capacities;
      };
    }

-- Types: one cell each, and a list cell for each field.
abbrev pub type_kind : Kind Type'
type_kind =
    record {
      count = λ w. length w.types;
      held = λ t w n. same_type (type_at w n) t;
      lacking = λ t w.
          cond (nat_lt (length w.types) w.capacities.types)
          (cond (nat_le (length (fields_of t)) (w.capacities.lists - w.lists)) None (Some Lists))
          (Some Types);
      put = λ t w. record {
        terms = w.terms;
        types = w.types ++ t ∷ [];
        names = w.names;
        bytes = w.bytes;
        lists = w.lists + length (fields_of t);
        capacities = w.capacities;
      };
    }

-- Terms: one cell each, with type and literality, and a list cell for each element, field and place of a pattern.
abbrev pub term_kind : Kind Entry'
term_kind =
    record {
      count = λ w. length w.terms;
      held = λ e w n. same_term (entry_at w n).term e.term;
      lacking = λ e w.
          cond (nat_lt (length w.terms) w.capacities.terms)
          (cond (nat_le (list_cells e.term) (w.capacities.lists - w.lists)) None (Some Lists))
          (Some Terms);
      put = λ e w. record {
        terms = w.terms ++ e ∷ [];
        types = w.types;
        names = w.names;
        bytes = w.bytes;
        lists = w.lists + list_cells e.term;
        capacities = w.capacities;
      };
    }

-- What is made of an answer.
abbrev pub answering : {A B : Type 0} → (A → B) → Result A CompileError → Result B CompileError
answering f (Ok a) = Ok (f a)
answering f (Err e) = Err e

-- A step, and what is made of its answer.
abbrev pub giving : {A B : Type 0} → (A → B) → Step A → Step B
giving f m w = ((m w).0, answering f (m w).1)

-- Enters a name.
unfoldable pub enter_name : List ℕ → Step NameId
enter_name s = giving (λ n. record { 0 = n }) (enter name_kind s)

-- Enters a type.
unfoldable pub enter_type : Type' → Step TypeId
enter_type t = giving (λ n. record { 0 = n }) (enter type_kind t)

-- Enters a term of a type.
unfoldable pub enter_term : Term' → TypeId → Step TermId
enter_term t ty w = giving (λ n. record { 0 = n }) (enter term_kind (entry_of w t ty)) w
