-- What it says that no table lacks cells.
use Rattle.std.proofs.Common.{◌≡◌, ℕ, ◌-◌, ◌<◌, ◌≤◌, Bool, true, false, cond, ◌&&◌, ltb, leb, List, length, Some, None, Option, refl, ap, ap₂, ltb-true, lt-ltb, le-leb, leb-true}
use Rattle.std.proofs.lemmas.Bool.{and_parts, and_from}
use Rattle.tables.specs.declared.result.Table.{Table}
use Rattle.tables.specs.declared.result.Table.TheVariants.{Terms, Types, Names, Lists}
use Rattle.tables.specs.Contents.{Contents}
use Rattle.tables.specs.Types.{Type', fields_of}
use Rattle.tables.specs.Terms.{Entry', list_cells}
use Rattle.tables.specs.Kinds.{name_kind, type_kind, term_kind}

-- The test passed, where what follows a failed one is `Some`.
passed : (b : Bool) (x : Option Table) (t : Table) → cond b x (Some t) ≡ None → (b ≡ true) × (x ≡ None)
passed true x t e = (refl, e)
passed false x t e = absurd (cc)

pub name_room : (s : List ℕ) (w : Contents) → name_kind.lacking s w ≡ None → (length w.names < w.capacities.names) × (length s ≤ w.capacities.bytes - w.bytes)
name_room s w e =
    let p = ltb (length w.names) w.capacities.names in
    let q = leb (length s) (w.capacities.bytes - w.bytes) in
    let (a, b) = and_parts p q (passed (p && q) None _ e).0 in
    (ltb-true (length w.names) w.capacities.names a, leb-true (length s) (w.capacities.bytes - w.bytes) b)

pub type_room : (t : Type') (w : Contents) → type_kind.lacking t w ≡ None → (length w.types < w.capacities.types) × (length (fields_of t) ≤ w.capacities.lists - w.lists)
type_room t w e =
    let (a, r) = passed (ltb (length w.types) w.capacities.types) _ _ e in
    let b = (passed (leb (length (fields_of t)) (w.capacities.lists - w.lists)) None _ r).0 in
    (ltb-true (length w.types) w.capacities.types a, leb-true (length (fields_of t)) (w.capacities.lists - w.lists) b)

-- And what makes it so.
pub room_name : (s : List ℕ) (w : Contents) → length w.names < w.capacities.names → length s ≤ w.capacities.bytes - w.bytes → name_kind.lacking s w ≡ None
room_name s w l h =
    ap (λ b. cond b None (Some Names))
    (and_from (ltb (length w.names) w.capacities.names) (leb (length s) (w.capacities.bytes - w.bytes)) (lt-ltb _ _ l) (le-leb _ _ h))

pub room_type : (t : Type') (w : Contents) → length w.types < w.capacities.types → length (fields_of t) ≤ w.capacities.lists - w.lists → type_kind.lacking t w ≡ None
room_type t w l h = ap₂ (λ a b. cond a (cond b None (Some Lists)) (Some Types)) (lt-ltb _ _ l) (le-leb _ _ h)

pub term_room : (e : Entry') (w : Contents) → term_kind.lacking e w ≡ None → (length w.terms < w.capacities.terms) × (list_cells e.term ≤ w.capacities.lists - w.lists)
term_room e w h =
    let (a, r) = passed (ltb (length w.terms) w.capacities.terms) _ _ h in
    let b = (passed (leb (list_cells e.term) (w.capacities.lists - w.lists)) None _ r).0 in
    (ltb-true (length w.terms) w.capacities.terms a, leb-true (list_cells e.term) (w.capacities.lists - w.lists) b)

pub room_term : (e : Entry') (w : Contents) → length w.terms < w.capacities.terms → list_cells e.term ≤ w.capacities.lists - w.lists → term_kind.lacking e w ≡ None
room_term e w l h = ap₂ (λ a b. cond a (cond b None (Some Lists)) (Some Terms)) (lt-ltb _ _ l) (le-leb _ _ h)
