-- Terms as a table holds them, and when two are the same.
use Rattle.std.specs.Prelude.{◌≡◌, ℕ, ◌+◌, Bool, true, false, ◌&&◌, List, [], length, ◌==◌, nat_eq}
use Rattle.std.specs.Borrow.{Bor}
use Rattle.std.specs.Cmp.Lexicographic.{pointwise}
use Rattle.std.specs.Ordering.{int_eq}
use Rattle.tables.specs.declared.ids.TermId.{TermId}
use Rattle.tables.specs.declared.term.Entry.{Entry}
use Rattle.tables.specs.declared.term.Ext.{Ext}
use Rattle.tables.specs.declared.term.Ext.TheVariants.{Decimal, Datetime, Duration}
use Rattle.tables.specs.declared.term.FieldTerm.{FieldTerm}
use Rattle.tables.specs.declared.term.Op1.{Op1}
use Rattle.tables.specs.declared.term.Op1.TheVariants.{Not, Bvneg, Bvnego, OptionGet, RecordGet, StringLike, Uuf, DatetimeVal, DurationVal}
use Rattle.tables.specs.declared.term.Op2.{Op2}
use Rattle.tables.specs.declared.term.Op2.TheVariants.{And, Or, Eq, Bvadd, Bvsub, Bvmul, Bvslt, Bvsle, Bvsaddo, Bvssubo, Bvsmulo, SetMember, SetSubset, SetInter}
use Rattle.tables.specs.declared.term.Term.{Term}
use Rattle.tables.specs.declared.term.Term.TheVariants.{Prim, Var, None, Some, Set, Record, Unary, Binary, Ite}
use Rattle.tables.specs.declared.term.TermPrim.{TermPrim}
use Rattle.tables.specs.declared.term.TermPrim.TheVariants.{Bool as Truth, Bitvec, String, Entity, Ext as Extension}

-- A term with its lists.
abbrev pub Term' : Type 0
Term' = Term (List TermId) (List FieldTerm) (List ℕ)

-- What a table holds of a term.
abbrev pub Entry' : Type 0
Entry' = Entry Term'

-- The operator with its pattern given another way.
abbrev pub with_pattern : {P Q : Type 0} → (P → Q) → Op1 P → Op1 Q
with_pattern p Not = Not
with_pattern p Bvneg = Bvneg
with_pattern p Bvnego = Bvnego
with_pattern p OptionGet = OptionGet
with_pattern p (RecordGet n) = RecordGet n
with_pattern p (StringLike x) = StringLike (p x)
with_pattern p (Uuf f) = Uuf f
with_pattern p DatetimeVal = DatetimeVal
with_pattern p DurationVal = DurationVal

-- The term with its lists given another way.
abbrev pub with_lists : {E F P E' F' P' : Type 0} → (E → E') → (F → F') → (P → P') → Term E F P → Term E' F' P'
with_lists e f p (Prim l) = Prim l
with_lists e f p (Var v) = Var v
with_lists e f p (None t) = None t
with_lists e f p (Some t) = Some t
with_lists e f p (Set t x) = Set t (e x)
with_lists e f p (Record x) = Record (f x)
with_lists e f p (Unary o t) = Unary (with_pattern p o) t
with_lists e f p (Binary o a b) = Binary o a b
with_lists e f p (Ite g a b) = Ite g a b

-- The term that a value of the code stands for.
abbrev pub term_of : Term (Bor (List TermId)) (Bor (List FieldTerm)) (Bor (List ℕ)) → Term'
term_of = with_lists (λ x. x.now) (λ x. x.now) (λ x. x.now)

-- The same, of what a table holds.
abbrev pub with_term : {T U : Type 0} → (T → U) → Entry T → Entry U
with_term f e = record { term = f e.term; ty = e.ty; literal = e.literal }

-- The second operator is the first with its pattern given another way: y for x, by the relation.
abbrev pub MapsPattern : {P Q : Type 0} → (P → Q → Type 0) → Op1 P → Op1 Q → Type 0
MapsPattern R Not u = u ≡ Not
MapsPattern R Bvneg u = u ≡ Bvneg
MapsPattern R Bvnego u = u ≡ Bvnego
MapsPattern R OptionGet u = u ≡ OptionGet
MapsPattern R (RecordGet n) u = u ≡ RecordGet n
MapsPattern {Q = Q} R (StringLike x) u = (y : Q) × R x y × (u ≡ StringLike y)
MapsPattern R (Uuf f) u = u ≡ Uuf f
MapsPattern R DatetimeVal u = u ≡ DatetimeVal
MapsPattern R DurationVal u = u ≡ DurationVal

-- The same of a term and its three sorts of lists.
abbrev pub MapsLists : {E F P E' F' P' : Type 0} → (E → E' → Type 0) → (F → F' → Type 0) → (P → P' → Type 0) → Term E F P → Term E' F' P' → Type 0
MapsLists R S T (Prim l) u = u ≡ Prim l
MapsLists R S T (Var v) u = u ≡ Var v
MapsLists R S T (None t) u = u ≡ None t
MapsLists R S T (Some t) u = u ≡ Some t
MapsLists {E' = E'} R S T (Set t x) u = (y : E') × R x y × (u ≡ Set t y)
MapsLists {F' = F'} R S T (Record x) u = (y : F') × S x y × (u ≡ Record y)
MapsLists {P' = P'} R S T (Unary o t) u = (p : Op1 P') × MapsPattern T o p × (u ≡ Unary p t)
MapsLists R S T (Binary o a b) u = u ≡ Binary o a b
MapsLists R S T (Ite g a b) u = u ≡ Ite g a b

-- A set's elements; other terms have none.
abbrev pub elements_of : {X F P : Type 0} → Term (List X) F P → List X
elements_of (Set t x) = x
elements_of t = []

-- A record's fields; other terms have none.
abbrev pub attributes_of : {E Y P : Type 0} → Term E (List Y) P → List Y
attributes_of (Record x) = x
attributes_of t = []

-- The pattern of a test of a string; other terms have none.
abbrev pub pattern_of : {E F Z : Type 0} → Term E F (List Z) → List Z
pattern_of (Unary (StringLike x) t) = x
pattern_of t = []

-- How many list cells a term takes.
abbrev pub list_cells : {X Y Z : Type 0} → Term (List X) (List Y) (List Z) → ℕ
list_cells t = length (elements_of t) + (length (attributes_of t) + length (pattern_of t))

-- A number for each operator of two arguments.
abbrev pub op2_number : Op2 → ℕ
op2_number And = 0
op2_number Or = 1
op2_number Eq = 2
op2_number Bvadd = 3
op2_number Bvsub = 4
op2_number Bvmul = 5
op2_number Bvslt = 6
op2_number Bvsle = 7
op2_number Bvsaddo = 8
op2_number Bvssubo = 9
op2_number Bvsmulo = 10
op2_number SetMember = 11
op2_number SetSubset = 12
op2_number SetInter = 13

-- Two values of extension types are the same.
abbrev pub same_ext : Ext → Ext → Bool
same_ext (Decimal y) (Decimal z) = int_eq y z
same_ext (Datetime y) (Datetime z) = int_eq y z
same_ext (Duration y) (Duration z) = int_eq y z
same_ext x y = false

-- Two truth values are the same.
abbrev pub same_truth : Bool → Bool → Bool
same_truth true b = b
same_truth false true = false
same_truth false false = true

-- Two literals without parts are the same.
abbrev pub same_prim : TermPrim → TermPrim → Bool
same_prim (Truth a) (Truth b) = same_truth a b
same_prim (Bitvec y) (Bitvec z) = int_eq y z
same_prim (String m) (String n) = m.0 == n.0
same_prim (Entity u) (Entity v) = u.ty.0 == v.ty.0 && u.id.0 == v.id.0
same_prim (Extension x) (Extension y) = same_ext x y
same_prim l k = false

-- Two operators are the same.
abbrev pub same_op : Op1 (List ℕ) → Op1 (List ℕ) → Bool
same_op Not Not = true
same_op Bvneg Bvneg = true
same_op Bvnego Bvnego = true
same_op OptionGet OptionGet = true
same_op (RecordGet m) (RecordGet n) = m.0 == n.0
same_op (StringLike x) (StringLike y) = pointwise nat_eq x y
same_op (Uuf f) (Uuf g) = f.id.0 == g.id.0 && (f.arg.0 == g.arg.0 && f.out.0 == g.out.0)
same_op DatetimeVal DatetimeVal = true
same_op DurationVal DurationVal = true
same_op o p = false

-- Two elements of a set, and two fields, are the same.
abbrev pub same_element : TermId → TermId → Bool
same_element s t = s.0 == t.0

abbrev pub same_attribute : FieldTerm → FieldTerm → Bool
same_attribute f g = f.name.0 == g.name.0 && f.term.0 == g.term.0

-- Two terms are the same: of one kind, with the same parts and the same lists.
unfoldable pub same_term : Term' → Term' → Bool
same_term (Prim l) (Prim k) = same_prim l k
same_term (Var v) (Var w) = v.id.0 == w.id.0 && v.ty.0 == w.ty.0
same_term (None s) (None t) = s.0 == t.0
same_term (Some s) (Some t) = s.0 == t.0
same_term (Set s x) (Set t y) = s.0 == t.0 && pointwise same_element x y
same_term (Record x) (Record y) = pointwise same_attribute x y
same_term (Unary o s) (Unary p t) = same_op o p && s.0 == t.0
same_term (Binary o a b) (Binary p c d) = op2_number o == op2_number p && (a.0 == c.0 && b.0 == d.0)
same_term (Ite g a b) (Ite h c d) = g.0 == h.0 && (a.0 == c.0 && b.0 == d.0)
same_term s t = false
