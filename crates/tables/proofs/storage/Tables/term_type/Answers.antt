use Rattle.std.proofs.Common.{length, vec_items, ap, arith, rules}
use Rattle.std.proofs.lemmas.List.{get_or-map}
use Rattle.tables.specs.Spans.{part}
use Rattle.tables.specs.Types.{fields_of}
use Rattle.tables.proofs.Spans.{with_fields-MapsFields, fields_fit}
use Rattle.tables.proofs.storage.Tables.term_type.Goals as goal

pub returns-in-Some : goal.returns-in-Some
returns-in-Some c =
    let fs = vec_items c.self.inside.fields.held in
    let e = with_fields-MapsFields (part fs) (λ x. x.now) _ (λ x y r. search rules) _ c.map_fields.result c.map_fields.ensures in
    let l = ap (λ w. w.lists) c.self.view_is in
    let n = ap (λ t. length (fields_of t)) e in
    let m = fields_fit fs c.in-Some.cell.now in
    record { value = search (rules, get_or-map); fits = omega (arith, l, n, m) }
