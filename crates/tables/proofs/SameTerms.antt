-- The equality that is derived for terms is that of their definition.
use Rattle.std.proofs.Common.{◌≡◌, ℕ, true, false, ◌&&◌, List, refl, ap}
use denote.RattleType.{RattleType}
use Rattle.std.specs.declared.cmp.PartialEq.{Ghosts}
use Rattle.std.specs.Cmp.Lexicographic.{pointwise}
use Rattle.std.specs.Prelude.{nat_eq}
use Rattle.tables.specs.contracts.term.ExtPartialEq.TheImpl.{ghosts as ext_ghosts}
use Rattle.tables.specs.contracts.term.TermPrimPartialEq.TheImpl.{ghosts as prim_ghosts}
use Rattle.tables.specs.contracts.term.Op1PartialEq.TheImpl.{ghosts as op_ghosts, no_dict as op_dict}
use Rattle.tables.specs.contracts.term.Op2PartialEq.TheImpl.{ghosts as op2_ghosts}
use Rattle.tables.specs.contracts.term.TermPartialEq.TheImpl.{ghosts, no_dict}
use Rattle.tables.specs.declared.ids.TermId.{TermId}
use Rattle.tables.specs.declared.term.Ext.{Ext}
use Rattle.tables.specs.declared.term.Ext.TheVariants.{Decimal, Datetime, Duration}
use Rattle.tables.specs.declared.term.FieldTerm.{FieldTerm}
use Rattle.tables.specs.declared.term.Op1.{Op1}
use Rattle.tables.specs.declared.term.Op1.TheVariants.{Not, Bvneg, Bvnego, OptionGet, RecordGet, StringLike, Uuf, DatetimeVal, DurationVal}
use Rattle.tables.specs.declared.term.Op2.{Op2}
use Rattle.tables.specs.declared.term.Op2.TheVariants.{And, Or, Eq, Bvadd, Bvsub, Bvmul, Bvslt, Bvsle, Bvsaddo, Bvssubo, Bvsmulo, SetMember, SetSubset, SetInter}
use Rattle.tables.specs.declared.term.Term.{Term}
use Rattle.tables.specs.declared.term.Term.TheVariants.{Prim, Var, None, Some, Set, Record, Unary, Binary, Ite}
use Rattle.tables.specs.declared.term.TermPrim.{TermPrim}
use Rattle.tables.specs.declared.term.TermPrim.TheVariants.{Bool as Truth, Bitvec, String, Entity, Ext as Extension}
use Rattle.tables.specs.Terms.{with_pattern, with_lists, op2_number, same_ext, same_prim, same_op, same_element, same_attribute, same_term}

eq-same_ext : (x y : Ext) → (ext_ghosts).eq x y ≡ same_ext x y
eq-same_ext (Decimal y) (Decimal z) = refl
eq-same_ext (Datetime y) (Datetime z) = refl
eq-same_ext (Duration y) (Duration z) = refl
eq-same_ext x y = refl

eq-same_prim : (l k : TermPrim) → (prim_ghosts).eq l k ≡ same_prim l k
eq-same_prim (Truth true) (Truth true) = refl
eq-same_prim (Truth true) (Truth false) = refl
eq-same_prim (Truth false) (Truth true) = refl
eq-same_prim (Truth false) (Truth false) = refl
eq-same_prim (Bitvec y) (Bitvec z) = refl
eq-same_prim (String m) (String n) = refl
eq-same_prim (Entity u) (Entity v) = refl
eq-same_prim (Extension x) (Extension y) = eq-same_ext x y
eq-same_prim l k = refl

eq-same_op2 : (o p : Op2) → (op2_ghosts).eq o p ≡ nat_eq (op2_number o) (op2_number p)
eq-same_op2 And And = refl
eq-same_op2 Or Or = refl
eq-same_op2 Eq Eq = refl
eq-same_op2 Bvadd Bvadd = refl
eq-same_op2 Bvsub Bvsub = refl
eq-same_op2 Bvmul Bvmul = refl
eq-same_op2 Bvslt Bvslt = refl
eq-same_op2 Bvsle Bvsle = refl
eq-same_op2 Bvsaddo Bvsaddo = refl
eq-same_op2 Bvssubo Bvssubo = refl
eq-same_op2 Bvsmulo Bvsmulo = refl
eq-same_op2 SetMember SetMember = refl
eq-same_op2 SetSubset SetSubset = refl
eq-same_op2 SetInter SetInter = refl
eq-same_op2 o p = refl

module _ (P : RattleType) (E : Ghosts P.Denot) (pattern : P.Denot → List ℕ) (same : (x y : P.Denot) → E.eq x y ≡ pointwise nat_eq (pattern x) (pattern y)) where
  eq-same_op : (o p : Op1 P.Denot) → (op_ghosts P E op_dict).eq o p ≡ same_op (with_pattern pattern o) (with_pattern pattern p)
  eq-same_op Not Not = refl
  eq-same_op Bvneg Bvneg = refl
  eq-same_op Bvnego Bvnego = refl
  eq-same_op OptionGet OptionGet = refl
  eq-same_op (RecordGet m) (RecordGet n) = refl
  eq-same_op (StringLike x) (StringLike y) = same x y
  eq-same_op (Uuf f) (Uuf g) = refl
  eq-same_op DatetimeVal DatetimeVal = refl
  eq-same_op DurationVal DurationVal = refl
  eq-same_op o p = refl

module _ (E F P : RattleType) (EE : Ghosts E.Denot) (FE : Ghosts F.Denot) (PE : Ghosts P.Denot)
    (elements : E.Denot → List TermId) (fields : F.Denot → List FieldTerm) (pattern : P.Denot → List ℕ)
    (same_elements : (x y : E.Denot) → EE.eq x y ≡ pointwise same_element (elements x) (elements y))
    (same_fields : (x y : F.Denot) → FE.eq x y ≡ pointwise same_attribute (fields x) (fields y))
    (same_patterns : (x y : P.Denot) → PE.eq x y ≡ pointwise nat_eq (pattern x) (pattern y)) where
  pub eq-same_term : (s t : Term E.Denot F.Denot P.Denot) → (ghosts E F P EE no_dict FE no_dict PE no_dict).eq s t ≡ same_term (with_lists elements fields pattern s) (with_lists elements fields pattern t)
  unfolding same_term
  eq-same_term (Prim l) (Prim k) = eq-same_prim l k
  eq-same_term (Var v) (Var w) = refl
  eq-same_term (None s) (None t) = refl
  eq-same_term (Some s) (Some t) = refl
  eq-same_term (Set s x) (Set t y) = ap (λ b. nat_eq s.0 t.0 && b) (same_elements x y)
  eq-same_term (Record x) (Record y) = same_fields x y
  eq-same_term (Unary o s) (Unary p t) = ap (λ b. b && nat_eq s.0 t.0) (eq-same_op P PE pattern same_patterns o p)
  eq-same_term (Binary o a b) (Binary p c d) = ap (λ x. x && (nat_eq a.0 c.0 && nat_eq b.0 d.0)) (eq-same_op2 o p)
  eq-same_term (Ite g a b) (Ite h c d) = refl
  eq-same_term s t = refl
