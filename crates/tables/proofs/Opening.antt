-- The names that opening enters find room.
use Rattle.std.proofs.Common.{◌≡◌, true, Ok, codes, Result, ap, ◌∙◌, arith}
use Rattle.tables.specs.declared.capacities.Capacities.{Capacities}
use Rattle.tables.specs.declared.ids.NameId.{NameId}
use Rattle.tables.specs.declared.result.CompileError.{CompileError}
use Rattle.tables.specs.Ranges.{in_range}
use Rattle.tables.specs.Contents.{Contents, nameless, opening}
use Rattle.tables.specs.Kinds.{Now, name_kind, first_from, find, put_unless, enter, enter_name, answering}
use Rattle.tables.proofs.Ranges.{ranged}
use Rattle.tables.proofs.Room.{room_name}

module _ (c : Capacities) (e : in_range c ≡ true) where
  abbrev one : Contents
  one = name_kind.put (codes "entity") (nameless c)

  first_name : enter_name (codes "entity") (nameless c) ≡ (one, Ok (record { 0 = 0 }))
  unfolding enter_name enter find first_from
  first_name =
      let r = ranged c e in
      ap (λ o. ((put_unless name_kind (codes "entity") o (nameless c)).0, answering (λ n. record { 0 = n }) (put_unless name_kind (codes "entity") o (nameless c)).1))
      (room_name (codes "entity") (nameless c) (omega arith) (omega arith))

  second_name : enter_name (codes "tag") one ≡ (opening c, Ok (record { 0 = 1 }))
  unfolding enter_name enter find first_from opening
  second_name =
      let r = ranged c e in
      ap (λ o. ((put_unless name_kind (codes "tag") o one).0, answering (λ n. record { 0 = n }) (put_unless name_kind (codes "tag") o one).1))
      (room_name (codes "tag") one (omega arith) (omega arith))

  -- What the two calls leave and answer, and so that neither is refused.
  module _ {w w₁ : Contents} {r₁ : Result NameId CompileError} (start : w ≡ nameless c) (call₁ : Now (enter_name (codes "entity") w) r₁ w₁) where
    pub named_first : (w₁ ≡ one) × (r₁ ≡ Ok (record { 0 = 0 }))
    named_first =
        let o = ap (enter_name (codes "entity")) start ∙ first_name in
        (call₁.0 ∙ ap (λ z. z.0) o, call₁.1 ∙ ap (λ z. z.1) o)

    pub named_second : {w₂ : Contents} {r₂ : Result NameId CompileError} → Now (enter_name (codes "tag") w₁) r₂ w₂ → (w₂ ≡ opening c) × (r₂ ≡ Ok (record { 0 = 1 }))
    named_second call₂ =
        let o = ap (enter_name (codes "tag")) named_first.0 ∙ second_name in
        (call₂.0 ∙ ap (λ z. z.0) o, call₂.1 ∙ ap (λ z. z.1) o)
