-- `Full` comes exactly when cells are missing.
use Rattle.std.proofs.Common.{◌≡◌, ℕ, ◌-◌, ◌≤◌, Bool, true, false, cond, ◌&&◌, ltb, leb, List, length, Some, None, Option, refl, ap, subst, inl, inr, true≢false, ltb-false, ltb-true, le-ltb, lt-ltb, le-leb, leb-false, leb-true}
use borrow.Author.Tests.{lt-leb}
use Rattle.tables.specs.declared.result.Table.{Table}
use Rattle.tables.specs.declared.result.Table.TheVariants.{Terms, Types, Names, Lists}
use Rattle.tables.specs.declared.ids.TypeId.{TypeId}
use Rattle.tables.specs.Terms.{Term', Entry', list_cells}
use Rattle.tables.specs.Types.{Type', fields_of}
use Rattle.tables.specs.Contents.{Contents, entry_of}
use Rattle.tables.specs.Kinds.{name_kind, type_kind, term_kind, find, enter_name, enter_type, enter_term}
use Rattle.tables.specs.Shapes.{is_type, fits, term_fits}
use Rattle.tables.specs.Calls.{name_call, type_call, term_call}
use Rattle.laws.specs.Lawful.{NameAbsent, TypeAbsent, TermAbsent, NameLacks, TypeLacks, TermLacks, FullExactly, FullComesExactlyWhenCellsAreMissing}
use Rattle.laws.proofs.Entries.{name_found, name_absent, type_found, type_absent, term_found, term_absent}
use Rattle.laws.proofs.Entry.{is_only_full, is_always_full}

-- Nothing is found of what is not held.
missing : (o : Option ℕ) → ((i : ℕ) → o ≡ Some i → ⊥) → o ≡ None
missing None h = refl
missing (Some i) h = absurd (h i refl)

-- The table that a name lacks, both ways.
module _ (s : List ℕ) (w : Contents) where
  name_lacking : (x : Table) → name_kind.lacking s w ≡ Some x → NameLacks s w x
  name_lacking x e = go (ltb (length w.names) w.capacities.names) (leb (length s) (w.capacities.bytes - w.bytes)) refl refl e
    where
      go : (a b : Bool) → ltb (length w.names) w.capacities.names ≡ a → leb (length s) (w.capacities.bytes - w.bytes) ≡ b
          → cond (a && b) None (Some Names) ≡ Some x → NameLacks s w x
      go true true p q r = absurd (cc)
      go true false p q r = subst (NameLacks s w) {x = Names} (cc) (inr (leb-false (length s) (w.capacities.bytes - w.bytes) q))
      go false b p q r = subst (NameLacks s w) {x = Names} (cc) (inl (ltb-false (length w.names) w.capacities.names p))

  lacking_name : (x : Table) → NameLacks s w x → name_kind.lacking s w ≡ Some x
  lacking_name Names (inl l) = ap (λ a. cond (a && leb (length s) (w.capacities.bytes - w.bytes)) None (Some Names)) (le-ltb _ _ l)
  lacking_name Names (inr l) = go (ltb (length w.names) w.capacities.names) (leb (length s) (w.capacities.bytes - w.bytes)) (lt-leb _ _ l)
    where
      go : (a b : Bool) → b ≡ false → cond (a && b) None (Some Names) ≡ Some Names
      go true false q = refl
      go true true q = absurd (true≢false q)
      go false b q = refl
  lacking_name x h = absurd h

-- The table that a type lacks, both ways.
module _ (t : Type') (w : Contents) where
  type_lacking : (x : Table) → type_kind.lacking t w ≡ Some x → TypeLacks t w x
  type_lacking x e = go (ltb (length w.types) w.capacities.types) (leb (length (fields_of t)) (w.capacities.lists - w.lists)) refl refl e
    where
      go : (a b : Bool) → ltb (length w.types) w.capacities.types ≡ a → leb (length (fields_of t)) (w.capacities.lists - w.lists) ≡ b
          → cond a (cond b None (Some Lists)) (Some Types) ≡ Some x → TypeLacks t w x
      go true true p q r = absurd (cc)
      go true false p q r = subst (TypeLacks t w) {x = Lists} (cc) (ltb-true (length w.types) w.capacities.types p, leb-false (length (fields_of t)) (w.capacities.lists - w.lists) q)
      go false b p q r = subst (TypeLacks t w) {x = Types} (cc) (ltb-false (length w.types) w.capacities.types p)

  lacking_type : (x : Table) → TypeLacks t w x → type_kind.lacking t w ≡ Some x
  lacking_type Types l = ap (λ a. cond a (cond (leb (length (fields_of t)) (w.capacities.lists - w.lists)) None (Some Lists)) (Some Types)) (le-ltb _ _ l)
  lacking_type Lists (l, m) = λ i. cond (lt-ltb _ _ l i) (cond (lt-leb _ _ m i) None (Some Lists)) (Some Types)
  lacking_type x h = absurd h

-- The table that a term lacks, both ways.
module _ (e : Entry') (w : Contents) where
  term_lacking : (x : Table) → term_kind.lacking e w ≡ Some x → TermLacks e.term w x
  term_lacking x h = go (ltb (length w.terms) w.capacities.terms) (leb (list_cells e.term) (w.capacities.lists - w.lists)) refl refl h
    where
      go : (a b : Bool) → ltb (length w.terms) w.capacities.terms ≡ a → leb (list_cells e.term) (w.capacities.lists - w.lists) ≡ b
          → cond a (cond b None (Some Lists)) (Some Terms) ≡ Some x → TermLacks e.term w x
      go true true p q r = absurd (cc)
      go true false p q r = subst (TermLacks e.term w) {x = Lists} (cc) (ltb-true (length w.terms) w.capacities.terms p, leb-false (list_cells e.term) (w.capacities.lists - w.lists) q)
      go false b p q r = subst (TermLacks e.term w) {x = Terms} (cc) (ltb-false (length w.terms) w.capacities.terms p)

  lacking_term : (x : Table) → TermLacks e.term w x → term_kind.lacking e w ≡ Some x
  lacking_term Terms l = ap (λ a. cond a (cond (leb (list_cells e.term) (w.capacities.lists - w.lists)) None (Some Lists)) (Some Terms)) (le-ltb _ _ l)
  lacking_term Lists (l, m) = λ i. cond (lt-ltb _ _ l i) (cond (lt-leb _ _ m i) None (Some Lists)) (Some Terms)
  lacking_term x h = absurd h

name_full : (s : List ℕ) → FullExactly (name_call s) (λ w. (length s ≤ 255) × NameAbsent s w) (NameLacks s)
unfolding name_call enter_name
name_full s =
    record {
      only = λ w x p.
          let (t, e, l) = is_only_full (λ _. leb (length s) 255) name_kind (λ _. s) (λ n. record { 0 = n }) w x p in
          ((leb-true (length s) 255 t, name_absent s w e), name_lacking s w x l);
      always = λ w x (h, n) l.
          is_always_full (λ _. leb (length s) 255) name_kind (λ _. s) (λ n. record { 0 = n }) w x (le-leb (length s) 255 h)
          (missing (find name_kind s w) (λ i e. let (a, b) = name_found s w i e in n i a b)) (lacking_name s w x l);
    }

type_full : (t : Type') → FullExactly (type_call t) (λ w. (fits w t ≡ true) × TypeAbsent t w) (TypeLacks t)
unfolding type_call enter_type
type_full t =
    record {
      only = λ w x p.
          let (f, e, l) = is_only_full (λ w. fits w t) type_kind (λ _. t) (λ n. record { 0 = n }) w x p in
          ((f, type_absent t w e), type_lacking t w x l);
      always = λ w x (f, n) l.
          is_always_full (λ w. fits w t) type_kind (λ _. t) (λ n. record { 0 = n }) w x f
          (missing (find type_kind t w) (λ i e. let (a, b) = type_found t w i e in n i a b)) (lacking_type t w x l);
    }

term_full : (t : Term') (ty : TypeId) → FullExactly (term_call t ty) (λ w. ((is_type w ty && term_fits w t) ≡ true) × TermAbsent t w) (TermLacks t)
unfolding term_call enter_term
term_full t ty =
    record {
      only = λ w x p.
          let (f, e, l) = is_only_full (λ w. is_type w ty && term_fits w t) term_kind (λ w. entry_of w t ty) (λ n. record { 0 = n }) w x p in
          ((f, term_absent t ty w e), term_lacking (entry_of w t ty) w x l);
      always = λ w x (f, n) l.
          is_always_full (λ w. is_type w ty && term_fits w t) term_kind (λ w. entry_of w t ty) (λ n. record { 0 = n }) w x f
          (missing (find term_kind (entry_of w t ty) w) (λ i e. let (a, b) = term_found t ty w i e in n i a b)) (lacking_term (entry_of w t ty) w x l);
    }

pub full_exactly : FullComesExactlyWhenCellsAreMissing
full_exactly = (name_full, type_full, term_full)
