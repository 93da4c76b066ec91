-- The structure of a term: the tree that its cell and the cells of its parts make up.
use Rattle.std.specs.Prelude.{ℕ, zero, suc, Bool, List, [], ◌∷◌, ℤ}
use Rattle.tables.specs.declared.ids.TermId.{TermId}
use Rattle.tables.specs.declared.term.Ext.{Ext}
use Rattle.tables.specs.declared.term.FieldTerm.{FieldTerm}
use Rattle.tables.specs.declared.term.Op1.{Op1}
use Rattle.tables.specs.declared.term.Op1.TheVariants.{Not, Bvneg, Bvnego, OptionGet, RecordGet, StringLike, Uuf, DatetimeVal, DurationVal}
use Rattle.tables.specs.declared.term.Op2.{Op2}
use Rattle.tables.specs.declared.term.Term.TheVariants.{Prim, Var, None, Some, Set, Record, Unary, Binary, Ite}
use Rattle.tables.specs.declared.term.TermPrim.{TermPrim}
use Rattle.tables.specs.declared.term.TermPrim.TheVariants.{Bool as Truth, Bitvec, String, Entity, Ext as Extension}
use Rattle.tables.specs.Terms.{Term'}
use Rattle.tables.specs.Contents.{Contents, name_at, entry_at}
use Rattle.laws.specs.Trees.{Tree, bool, tree_of}

-- Literals without parts, and operators of one argument, with the bytes of their names and the trees of their types.
pub data PrimTree : Type 0 where
  truth : Bool → PrimTree
  bitvec : ℤ → PrimTree
  text : List ℕ → PrimTree
  uid : List ℕ → List ℕ → PrimTree
  ext : Ext → PrimTree

pub data OpTree : Type 0 where
  not bvneg bvnego option_get datetime_val duration_val : OpTree
  record_get : List ℕ → OpTree
  string_like : List ℕ → OpTree
  uuf : List ℕ → Tree → Tree → OpTree

mutual
  pub data TermTree : Type 0 where
    literal : PrimTree → TermTree
    var : List ℕ → Tree → TermTree
    none_of : Tree → TermTree
    some_of : TermTree → TermTree
    set_of : Tree → TermTrees → TermTree
    record_of : TermFields → TermTree
    unary : OpTree → TermTree → TermTree
    binary : Op2 → TermTree → TermTree → TermTree
    ite : TermTree → TermTree → TermTree → TermTree

  pub data TermTrees : Type 0 where
    no_term : TermTrees
    term : TermTree → TermTrees → TermTrees

  pub data TermFields : Type 0 where
    no_field : TermFields
    term_field : List ℕ → TermTree → TermFields → TermFields

abbrev pub prim_tree : Contents → TermPrim → PrimTree
prim_tree w (Truth b) = truth b
prim_tree w (Bitvec z) = bitvec z
prim_tree w (String n) = text (name_at w n.0)
prim_tree w (Entity u) = uid (name_at w u.ty.0) (name_at w u.id.0)
prim_tree w (Extension x) = ext x

abbrev pub op_tree : Contents → Op1 (List ℕ) → OpTree
op_tree w Not = not
op_tree w Bvneg = bvneg
op_tree w Bvnego = bvnego
op_tree w OptionGet = option_get
op_tree w (RecordGet n) = record_get (name_at w n.0)
op_tree w (StringLike p) = string_like p
op_tree w (Uuf f) = uuf (name_at w f.id.0) (tree_of w f.arg.0) (tree_of w f.out.0)
op_tree w DatetimeVal = datetime_val
op_tree w DurationVal = duration_val

-- Elements and fields, where p gives the trees of terms.
unfoldable pub term_trees : (ℕ → TermTree) → List TermId → TermTrees
term_trees p [] = no_term
term_trees p (t ∷ ts) = term (p t.0) (term_trees p ts)

unfoldable pub term_fields : Contents → (ℕ → TermTree) → List FieldTerm → TermFields
term_fields w p [] = no_field
term_fields w p (f ∷ fs) = term_field (name_at w f.name.0) (p f.term.0) (term_fields w p fs)

-- A cell whose terms have the trees p.
abbrev pub term_grown : Contents → (ℕ → TermTree) → Term' → TermTree
term_grown w p (Prim l) = literal (prim_tree w l)
term_grown w p (Var v) = var (name_at w v.id.0) (tree_of w v.ty.0)
term_grown w p (None t) = none_of (tree_of w t.0)
term_grown w p (Some t) = some_of (p t.0)
term_grown w p (Set t es) = set_of (tree_of w t.0) (term_trees p es)
term_grown w p (Record fs) = record_of (term_fields w p fs)
term_grown w p (Unary o t) = unary (op_tree w o) (p t.0)
term_grown w p (Binary o a b) = binary o (p a.0) (p b.0)
term_grown w p (Ite g a b) = ite (p g.0) (p a.0) (p b.0)

-- The tree of a term to a depth. The parts of a term have smaller numbers than it, so a depth of more
-- than the number gives the whole tree.
unfoldable pub term_tree_to : Contents → ℕ → ℕ → TermTree
term_tree_to w zero n = none_of bool
term_tree_to w (suc d) n = term_grown w (term_tree_to w d) (entry_at w n).term

-- The whole tree at a number.
abbrev pub term_tree_of : Contents → ℕ → TermTree
term_tree_of w n = term_tree_to w (suc n) n
