use Rattle.std.proofs.Common.{◌≡◌, true, [], ◌∷◌, ◌++◌, map, length, vec_items, length-append, rules}
use Rattle.std.specs.List.{list_all}
use Rattle.tables.specs.Spans.{part, within}
use Rattle.tables.proofs.Spans.{names_put, names_within}
use Rattle.tables.proofs.hold_names.NameStructure.put.Goals as goal

pub invariant_of-tables : goal.invariant_of-tables
invariant_of-tables c =
    let e = names_within (vec_items c.tables.inside.bytes.held) (vec_items c.tables.inside.names.held) c.args.self.now.bytes.now c.tables.invariant.named in
    let h : list_all (within (length (vec_items c.extend-span.new.self.held))) (vec_items c.push.new.self.held) ≡ true = cc in
    let i = c.tables.invariant in
    record { named = h; listed = i.listed; termed = i.termed; shared = i.shared; elements = i.elements; attributes = i.attributes; patterns = i.patterns }

pub returns : goal.returns
returns c =
    let e = names_put (vec_items c.tables.inside.bytes.held) (vec_items c.tables.inside.names.held) c.args.self.now.bytes.now c.tables.invariant.named in
    let h : map (part (vec_items c.extend-span.new.self.held)) (vec_items c.push.new.self.held) ≡ map (part (vec_items c.tables.inside.bytes.held)) (vec_items c.tables.inside.names.held) ++ c.args.self.now.bytes.now ∷ [] = cc in
    let n = length-append (vec_items c.tables.inside.bytes.held) c.args.self.now.bytes.now in
    search rules
