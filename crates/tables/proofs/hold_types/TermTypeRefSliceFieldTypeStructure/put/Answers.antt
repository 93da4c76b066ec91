use Rattle.std.proofs.Common.{vec_items, length, ap, ◌∙◌, length-append, arith, rules}
use Rattle.tables.specs.Types.{type_of}
use Rattle.tables.proofs.Room.{type_room}
use Rattle.tables.proofs.Spans.{types_put, types_within}
use Rattle.tables.proofs.hold_types.TermTypeRefSliceFieldTypeStructure.put.Goals as goal

pub invariant_of-tables : goal.invariant_of-tables
invariant_of-tables c =
    let t = c.tables.inside in
    let i = c.tables.invariant in
    let r = (type_room (type_of c.args.self.now) c.args.tables.now c.requires).1 in
    let used = ap (λ w. w.lists) c.tables.view_is in
    let all = ap (λ w. w.capacities.lists) c.tables.view_is in
    let more = ap length c.extend-span.ensures.held ∙ length-append (vec_items t.fields.held) c.fields.result.now in
    let many = ap length c.fields.ensures in
    record {
      named = i.named;
      listed = types_within (vec_items t.fields.held) c.fields.result.now (λ x. x.now) _ c.extend-span.ensures.span c.extend-span.ensures.held (λ y x r. search rules)
          (vec_items t.types.held) i.listed c.args.self.now c.map_fields.result c.map_fields.ensures c.push.ensures.held;
      termed = i.termed;
      shared = omega (arith, r, used, all, more, many, i.shared, c.extend-span.ensures.capacity);
      elements = cc;
      attributes = cc;
      patterns = cc;
    }

pub returns : goal.returns
returns c =
    let t = c.tables.inside in
    let e = types_put (vec_items t.fields.held) c.fields.result.now (λ x. x.now) _ c.extend-span.ensures.span c.extend-span.ensures.held (λ y x r. search rules)
    (vec_items t.types.held) c.tables.invariant.listed c.args.self.now c.map_fields.result c.map_fields.ensures c.push.ensures.held c.fields.ensures in
    let n = length-append (vec_items t.fields.held) c.fields.result.now in
    search rules
