-- The structure of a type: the tree that its cell and the cells of its parts make up.
use Rattle.std.specs.Prelude.{ℕ, zero, suc, List, [], ◌∷◌}
use Rattle.tables.specs.declared.term_type.FieldType.{FieldType}
use Rattle.tables.specs.declared.term_type.TermType.TheVariants.{Bool as BoolT, Long, String, Decimal, Datetime, Duration, Entity, Set, Option, Record}
use Rattle.tables.specs.Types.{Type'}
use Rattle.tables.specs.Contents.{Contents, name_at, type_at}

mutual
  pub data Tree : Type 0 where
    bool long string decimal datetime duration : Tree
    entity : List ℕ → Tree
    set : Tree → Tree
    option : Tree → Tree
    record' : Fields → Tree

  pub data Fields : Type 0 where
    none : Fields
    field : List ℕ → Tree → Fields → Fields

-- The fields, with the bytes of their names and the trees p of their types.
unfoldable pub field_trees : Contents → (ℕ → Tree) → List FieldType → Fields
field_trees w p [] = none
field_trees w p (f ∷ fs) = field (name_at w f.name.0) (p f.ty.0) (field_trees w p fs)

-- A cell whose parts have the trees p.
abbrev pub grown : Contents → (ℕ → Tree) → Type' → Tree
grown w p BoolT = bool
grown w p Long = long
grown w p String = string
grown w p Decimal = decimal
grown w p Datetime = datetime
grown w p Duration = duration
grown w p (Entity n) = entity (name_at w n.0)
grown w p (Set t) = set (p t.0)
grown w p (Option t) = option (p t.0)
grown w p (Record fs) = record' (field_trees w p fs)

-- The tree at a number, to a depth. The parts of a type have smaller numbers than it, so a depth of
-- more than the number gives the whole tree.
unfoldable pub tree_to : Contents → ℕ → ℕ → Tree
tree_to w zero n = bool
tree_to w (suc d) n = grown w (tree_to w d) (type_at w n)

-- The whole tree at a number.
abbrev pub tree_of : Contents → ℕ → Tree
tree_of w n = tree_to w (suc n) n
