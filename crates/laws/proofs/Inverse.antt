-- The cell of a type and of a term can be told from its tree, so two with one tree have one number.
use Rattle.std.proofs.Common.{◌≡◌, ℕ, zero, suc, ◌<◌, ◌≤◌, List, [], ◌∷◌, length, sym, refl, ap, ◌∙◌, ap₂, arith}
use Rattle.std.specs.Option.{unwrap_or}
use Rattle.std.specs.List.{AllByRecursion}
use Rattle.std.proofs.lemmas.Slice.Eq.{bytes_eq-Decides}
use Rattle.tables.specs.declared.term_type.FieldType.{FieldType}
use Rattle.tables.specs.declared.term_type.TermType.TheVariants.{Bool as BoolT, Long, String, Decimal, Datetime, Duration, Entity, Set, Option as OptionT, Record}
use Rattle.tables.specs.declared.ids.TermId.{TermId}
use Rattle.tables.specs.declared.term.FieldTerm.{FieldTerm}
use Rattle.tables.specs.declared.term.Op1.{Op1}
use Rattle.tables.specs.declared.term.Op1.TheVariants.{Not, Bvneg, Bvnego, OptionGet, RecordGet, StringLike, Uuf, DatetimeVal, DurationVal}
use Rattle.tables.specs.declared.term.Term.TheVariants.{Prim, Var, None as NoneTerm, Some as SomeTerm, Set as SetTerm, Record as RecordTerm, Unary, Binary, Ite}
use Rattle.tables.specs.declared.term.TermPrim.{TermPrim}
use Rattle.tables.specs.declared.term.TermPrim.TheVariants.{Bool as Truth, Bitvec, String as StringLiteral, Entity as EntityLiteral, Ext as Extension}
use Rattle.tables.specs.Terms.{Term'}
use Rattle.tables.specs.Types.{Type'}
use Rattle.tables.specs.Contents.{Contents, name_at, type_at, entry_at, entry_of}
use Rattle.tables.specs.Kinds.{name_kind, type_kind, term_kind, find}
use Rattle.laws.specs.Trees.{Tree, Fields, bool, long, string, decimal, datetime, duration, entity, set, option, record', none, field, field_trees, grown, tree_to, tree_of}
use Rattle.laws.specs.TermTrees.{PrimTree, truth, bitvec, text, uid, ext, OpTree, not, bvneg, bvnego, option_get, datetime_val, duration_val, record_get, string_like, uuf, TermTree, literal, var, none_of, some_of, set_of, record_of, unary, binary, ite, TermTrees, no_term, term, TermFields, no_field, term_field, prim_tree, op_tree, term_trees, term_fields, term_grown, term_tree_to}
use Rattle.laws.specs.Sound.{PartsBelow, PrimBelow, OpBelow, TermBelow, Sound, SoundTablesHoldOnce}
use Rattle.laws.proofs.Once.{first_at}
use Rattle.laws.proofs.SameTypes.{types_same, same_types}
use Rattle.laws.proofs.SameTerms.{terms_same, same_terms}

abbrev name_number : Contents → List ℕ → ℕ
name_number w s = unwrap_or (find name_kind s w) 0

abbrev type_number : Contents → Type' → ℕ
type_number w t = unwrap_or (find type_kind t w) 0

-- The cell of a tree.
unfoldable mutual
  cell_of : Contents → Tree → Type'
  cell_of w bool = BoolT
  cell_of w long = Long
  cell_of w string = String
  cell_of w decimal = Decimal
  cell_of w datetime = Datetime
  cell_of w duration = Duration
  cell_of w (entity s) = Entity (record { 0 = name_number w s })
  cell_of w (set t) = Set (record { 0 = type_number w (cell_of w t) })
  cell_of w (option t) = OptionT (record { 0 = type_number w (cell_of w t) })
  cell_of w (record' fs) = Record (cells_of w fs)

  cells_of : Contents → Fields → List FieldType
  cells_of w none = []
  cells_of w (field s t fs) = record { name = record { 0 = name_number w s }; ty = record { 0 = type_number w (cell_of w t) } } ∷ cells_of w fs

module _ (w : Contents) (g : Sound w) where
  name_at_lem : (n : ℕ) → n < length w.names → name_number w (name_at w n) ≡ n
  unfolding find
  name_at_lem n h =
      ap (λ o. unwrap_or o 0) (first_at (name_kind.held (name_at w n) w) (length w.names) n h ((bytes_eq-Decides (name_at w n) (name_at w n)).1 refl)
      (λ j l e. g.names_once j n l h ((bytes_eq-Decides (name_at w j) (name_at w n)).0 e)))

  type_at_lem : (n : ℕ) → n < length w.types → type_number w (type_at w n) ≡ n
  unfolding find
  type_at_lem n h =
      ap (λ o. unwrap_or o 0) (first_at (type_kind.held (type_at w n) w) (length w.types) n h (same_types (type_at w n) (type_at w n) refl)
      (λ j l e. g.types_once j n l h (types_same (type_at w j) (type_at w n) e)))

  -- Where p gives the trees of the types below m, the cell of what is grown from them is the cell itself.
  module _ (p : ℕ → Tree) (m : ℕ) (le : m ≤ length w.types) (ih : (j : ℕ) → j < m → cell_of w (p j) ≡ type_at w j) where
    part : (j : ℕ) → j < m → type_number w (cell_of w (p j)) ≡ j
    part j l = ap (type_number w) (ih j l) ∙ type_at_lem j (omega arith)

    fields_back : (fs : List FieldType) → AllByRecursion (λ f. (f.name.0 < length w.names) × (f.ty.0 < m)) fs → cells_of w (field_trees w p fs) ≡ fs
    unfolding cells_of field_trees
    fields_back [] h = refl
    fields_back (f ∷ fs) ((a, b), r) =
        ap₂ ◌∷◌ (λ i. record { name = record { 0 = name_at_lem f.name.0 a i }; ty = record { 0 = part f.ty.0 b i } }) (fields_back fs r)

    grown_back : (t : Type') → PartsBelow (length w.names) m t → cell_of w (grown w p t) ≡ t
    unfolding cell_of
    grown_back (Entity n) h = ap (λ k. Entity (record { 0 = k })) (name_at_lem n.0 h)
    grown_back (Set t) h = ap (λ k. Set (record { 0 = k })) (part t.0 h)
    grown_back (OptionT t) h = ap (λ k. OptionT (record { 0 = k })) (part t.0 h)
    grown_back (Record fs) h = ap Record (fields_back fs h)
    grown_back t h = refl

  tree_back : (d i : ℕ) → i < d → i < length w.types → cell_of w (tree_to w d i) ≡ type_at w i
  unfolding tree_to
  tree_back zero i l h = absurd (omega arith)
  tree_back (suc d) i l h = grown_back (tree_to w d) i (omega arith) (λ j k. tree_back d j (omega arith) (omega arith)) (type_at w i) (g.parts i h)

  -- The number of a type, from its tree.
  number_back : (i : ℕ) → i < length w.types → type_number w (cell_of w (tree_of w i)) ≡ i
  number_back i h = ap (type_number w) (tree_back (suc i) i (omega arith) h) ∙ type_at_lem i h

-- The cell of a term's tree.
prim_of : Contents → PrimTree → TermPrim
prim_of w (truth b) = Truth b
prim_of w (bitvec z) = Bitvec z
prim_of w (text s) = StringLiteral (record { 0 = name_number w s })
prim_of w (uid s i) = EntityLiteral (record { ty = record { 0 = name_number w s }; id = record { 0 = name_number w i } })
prim_of w (ext x) = Extension x

op_of : Contents → OpTree → Op1 (List ℕ)
op_of w not = Not
op_of w bvneg = Bvneg
op_of w bvnego = Bvnego
op_of w option_get = OptionGet
op_of w datetime_val = DatetimeVal
op_of w duration_val = DurationVal
op_of w (record_get s) = RecordGet (record { 0 = name_number w s })
op_of w (string_like p) = StringLike p
op_of w (uuf s a b) = Uuf (record { id = record { 0 = name_number w s }; arg = record { 0 = type_number w (cell_of w a) }; out = record { 0 = type_number w (cell_of w b) } })

abbrev term_number : Contents → Term' → ℕ
term_number w t = unwrap_or (find term_kind (entry_of w t (record { 0 = 0 })) w) 0

unfoldable mutual
  term_in : Contents → TermTree → Term'
  term_in w (literal l) = Prim (prim_of w l)
  term_in w (var s t) = Var (record { id = record { 0 = name_number w s }; ty = record { 0 = type_number w (cell_of w t) } })
  term_in w (none_of t) = NoneTerm (record { 0 = type_number w (cell_of w t) })
  term_in w (some_of t) = SomeTerm (record { 0 = term_number w (term_in w t) })
  term_in w (set_of t es) = SetTerm (record { 0 = type_number w (cell_of w t) }) (elements_in w es)
  term_in w (record_of fs) = RecordTerm (attributes_in w fs)
  term_in w (unary o t) = Unary (op_of w o) (record { 0 = term_number w (term_in w t) })
  term_in w (binary o a b) = Binary o (record { 0 = term_number w (term_in w a) }) (record { 0 = term_number w (term_in w b) })
  term_in w (ite g a b) = Ite (record { 0 = term_number w (term_in w g) }) (record { 0 = term_number w (term_in w a) }) (record { 0 = term_number w (term_in w b) })

  elements_in : Contents → TermTrees → List TermId
  elements_in w no_term = []
  elements_in w (term t ts) = record { 0 = term_number w (term_in w t) } ∷ elements_in w ts

  attributes_in : Contents → TermFields → List FieldTerm
  attributes_in w no_field = []
  attributes_in w (term_field s t fs) = record { name = record { 0 = name_number w s }; term = record { 0 = term_number w (term_in w t) } } ∷ attributes_in w fs

module _ (w : Contents) (g : Sound w) where
  term_at_lem : (n : ℕ) → n < length w.terms → term_number w (entry_at w n).term ≡ n
  unfolding find
  term_at_lem n h =
      let t = (entry_at w n).term in
      ap (λ o. unwrap_or o 0) (first_at (term_kind.held (entry_of w t (record { 0 = 0 })) w) (length w.terms) n h (same_terms t t refl)
      (λ j l e. g.terms_once j n l h (terms_same (entry_at w j).term t e)))

  prim_back : (l : TermPrim) → PrimBelow (length w.names) l → prim_of w (prim_tree w l) ≡ l
  unfolding prim_of
  prim_back (StringLiteral n) h = λ i. StringLiteral (record { 0 = name_at_lem w g n.0 h i })
  prim_back (EntityLiteral u) (a, b) = λ i. EntityLiteral (record { ty = record { 0 = name_at_lem w g u.ty.0 a i }; id = record { 0 = name_at_lem w g u.id.0 b i } })
  prim_back l h = refl

  op_back : (o : Op1 (List ℕ)) → OpBelow (length w.names) (length w.types) o → op_of w (op_tree w o) ≡ o
  unfolding op_of
  op_back (RecordGet n) h = λ i. RecordGet (record { 0 = name_at_lem w g n.0 h i })
  op_back (Uuf f) (a, b, c) = λ i. Uuf (record { id = record { 0 = name_at_lem w g f.id.0 a i }; arg = record { 0 = number_back w g f.arg.0 b i }; out = record { 0 = number_back w g f.out.0 c i } })
  op_back o h = refl

  module _ (p : ℕ → TermTree) (m : ℕ) (le : m ≤ length w.terms) (ih : (j : ℕ) → j < m → term_in w (p j) ≡ (entry_at w j).term) where
    sub : (j : ℕ) → j < m → term_number w (term_in w (p j)) ≡ j
    sub j l = ap (term_number w) (ih j l) ∙ term_at_lem j (omega arith)

    elements_back : (es : List TermId) → AllByRecursion (λ e. e.0 < m) es → elements_in w (term_trees p es) ≡ es
    unfolding elements_in term_trees
    elements_back [] h = refl
    elements_back (e ∷ es) (a, r) = ap₂ ◌∷◌ (λ i. record { 0 = sub e.0 a i }) (elements_back es r)

    attributes_back : (fs : List FieldTerm) → AllByRecursion (λ f. (f.name.0 < length w.names) × (f.term.0 < m)) fs → attributes_in w (term_fields w p fs) ≡ fs
    unfolding attributes_in term_fields
    attributes_back [] h = refl
    attributes_back (f ∷ fs) ((a, b), r) =
        ap₂ ◌∷◌ (λ i. record { name = record { 0 = name_at_lem w g f.name.0 a i }; term = record { 0 = sub f.term.0 b i } }) (attributes_back fs r)

    term_grown_back : (t : Term') → TermBelow (length w.names) (length w.types) m t → term_in w (term_grown w p t) ≡ t
    unfolding term_in
    term_grown_back (Prim l) h = ap Prim (prim_back l h)
    term_grown_back (Var v) (a, b) = λ i. Var (record { id = record { 0 = name_at_lem w g v.id.0 a i }; ty = record { 0 = number_back w g v.ty.0 b i } })
    term_grown_back (NoneTerm t) h = λ i. NoneTerm (record { 0 = number_back w g t.0 h i })
    term_grown_back (SomeTerm t) h = λ i. SomeTerm (record { 0 = sub t.0 h i })
    term_grown_back (SetTerm t es) (a, b) = λ i. SetTerm (record { 0 = number_back w g t.0 a i }) (elements_back es b i)
    term_grown_back (RecordTerm fs) h = ap RecordTerm (attributes_back fs h)
    term_grown_back (Unary o t) (a, b) = λ i. Unary (op_back o a i) (record { 0 = sub t.0 b i })
    term_grown_back (Binary o s t) (a, b) = λ i. Binary o (record { 0 = sub s.0 a i }) (record { 0 = sub t.0 b i })
    term_grown_back (Ite c s t) (x, a, b) = λ i. Ite (record { 0 = sub c.0 x i }) (record { 0 = sub s.0 a i }) (record { 0 = sub t.0 b i })

  term_tree_back : (d i : ℕ) → i < d → i < length w.terms → term_in w (term_tree_to w d i) ≡ (entry_at w i).term
  unfolding term_tree_to
  term_tree_back zero i l h = absurd (omega arith)
  term_tree_back (suc d) i l h =
      term_grown_back (term_tree_to w d) i (omega arith) (λ j k. term_tree_back d j (omega arith) (omega arith)) (entry_at w i).term (g.term_parts i h)

pub hold_once : SoundTablesHoldOnce
hold_once w g =
    record {
      names = g.names_once;
      terms = λ i j hi hj e. g.terms_once i j hi hj (sym (term_tree_back w g (suc i) i (omega arith) hi) ∙ ap (term_in w) e ∙ term_tree_back w g (suc j) j (omega arith) hj);
      types = λ i j hi hj e. g.types_once i j hi hj (sym (tree_back w g (suc i) i (omega arith) hi) ∙ ap (cell_of w) e ∙ tree_back w g (suc j) j (omega arith) hj);
    }
