-- Tables that calls can lead to.
use Rattle.std.specs.Prelude.{◌≡◌, ℕ, ◌<◌, length}
use Rattle.std.specs.List.{AllByRecursion}
use Rattle.tables.specs.declared.term.Op1.{Op1}
use Rattle.tables.specs.declared.term.Op1.TheVariants.{RecordGet, Uuf}
use Rattle.tables.specs.declared.term.Term.TheVariants.{Prim, Var, None, Some, Set as SetTerm, Record as RecordTerm, Unary, Binary, Ite}
use Rattle.tables.specs.declared.term.TermPrim.{TermPrim}
use Rattle.tables.specs.declared.term.TermPrim.TheVariants.{String as StringLiteral, Entity as EntityLiteral}
use Rattle.tables.specs.declared.term_type.TermType.TheVariants.{Entity, Set, Option, Record}
use Rattle.tables.specs.Terms.{Term'}
use Rattle.tables.specs.Types.{Type'}
use Rattle.tables.specs.Contents.{Contents, name_at, type_at, entry_at}
use Rattle.laws.specs.TermTrees.{term_tree_of}
use Rattle.laws.specs.Trees.{tree_of}

-- The parts of a type are entered: its names are among the first m, its types among the first n.
abbrev pub PartsBelow : ℕ → ℕ → Type' → Type 0
PartsBelow m n (Entity x) = x.0 < m
PartsBelow m n (Set t) = t.0 < n
PartsBelow m n (Option t) = t.0 < n
PartsBelow m n (Record fs) = AllByRecursion (λ f. (f.name.0 < m) × (f.ty.0 < n)) fs
PartsBelow m n t = Unit {0}

-- The same of a literal without parts, and of an operator.
abbrev pub PrimBelow : ℕ → TermPrim → Type 0
PrimBelow m (StringLiteral n) = n.0 < m
PrimBelow m (EntityLiteral u) = (u.ty.0 < m) × (u.id.0 < m)
PrimBelow m l = Unit {0}

abbrev pub OpBelow : {P : Type 0} → ℕ → ℕ → Op1 P → Type 0
OpBelow m n (RecordGet x) = x.0 < m
OpBelow m n (Uuf f) = (f.id.0 < m) × (f.arg.0 < n) × (f.out.0 < n)
OpBelow m n o = Unit {0}

-- The same of a term: its terms are among the first k.
abbrev pub TermBelow : ℕ → ℕ → ℕ → Term' → Type 0
TermBelow m n k (Prim l) = PrimBelow m l
TermBelow m n k (Var v) = (v.id.0 < m) × (v.ty.0 < n)
TermBelow m n k (None t) = t.0 < n
TermBelow m n k (Some t) = t.0 < k
TermBelow m n k (SetTerm t es) = (t.0 < n) × AllByRecursion (λ e. e.0 < k) es
TermBelow m n k (RecordTerm fs) = AllByRecursion (λ f. (f.name.0 < m) × (f.term.0 < k)) fs
TermBelow m n k (Unary o t) = OpBelow m n o × (t.0 < k)
TermBelow m n k (Binary o a b) = (a.0 < k) × (b.0 < k)
TermBelow m n k (Ite g a b) = (g.0 < k) × (a.0 < k) × (b.0 < k)

-- Each name and each cell of a type and of a term is held once; the parts of a type come before it, and so
-- do the terms in a term, whose names and types are entered.
pub record Sound (w : Contents) : Type 0 where
  pub names_once : (i j : ℕ) → i < length w.names → j < length w.names → name_at w i ≡ name_at w j → i ≡ j
  pub types_once : (i j : ℕ) → i < length w.types → j < length w.types → type_at w i ≡ type_at w j → i ≡ j
  pub terms_once : (i j : ℕ) → i < length w.terms → j < length w.terms → (entry_at w i).term ≡ (entry_at w j).term → i ≡ j
  pub parts : (i : ℕ) → i < length w.types → PartsBelow (length w.names) i (type_at w i)
  pub term_parts : (i : ℕ) → i < length w.terms → TermBelow (length w.names) (length w.types) i (entry_at w i).term

-- Each structure has one number.
pub record HeldOnce (w : Contents) : Type 0 where
  pub names : (i j : ℕ) → i < length w.names → j < length w.names → name_at w i ≡ name_at w j → i ≡ j
  pub types : (i j : ℕ) → i < length w.types → j < length w.types → tree_of w i ≡ tree_of w j → i ≡ j
  pub terms : (i j : ℕ) → i < length w.terms → j < length w.terms → term_tree_of w i ≡ term_tree_of w j → i ≡ j

-- Sound tables hold each structure, as a tree, under one number.
abbrev pub SoundTablesHoldOnce : Type 0
SoundTablesHoldOnce = (w : Contents) → Sound w → HeldOnce w
