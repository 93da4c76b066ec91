use Rattle.std.proofs.Common.{vec_items, length, ap, ◌∙◌, length-append, arith, rules}
use Rattle.tables.specs.Terms.{term_of, with_term}
use Rattle.tables.proofs.Room.{term_room}
use Rattle.tables.proofs.TermSpans.{terms_put, terms_within}
use Rattle.tables.proofs.hold_terms.EntryTermRefStructure.put.Goals as goal

pub invariant_of-tables : goal.invariant_of-tables
invariant_of-tables c =
    let t = c.tables.inside in
    let i = c.tables.invariant in
    let r = (term_room (with_term term_of c.args.self.now) c.args.tables.now c.requires).1 in
    let used = ap (λ w. w.lists) c.tables.view_is in
    let all = ap (λ w. w.capacities.lists) c.tables.view_is in
    let e = ap length c.extend-elements.ensures.held ∙ length-append (vec_items t.elements.held) c.elements.result.now in
    let f = ap length c.extend-attributes.ensures.held ∙ length-append (vec_items t.attributes.held) c.attributes.result.now in
    let p = ap length c.extend-pattern.ensures.held ∙ length-append (vec_items t.patterns.held) c.pattern.result.now in
    record {
      named = i.named;
      listed = i.listed;
      termed = terms_within (λ x. x.now) (λ x. x.now) (λ x. x.now) _ _ _
          (vec_items t.elements.held) c.elements.result.now (vec_items t.attributes.held) c.attributes.result.now (vec_items t.patterns.held) c.pattern.result.now
          c.extend-elements.ensures.span c.extend-attributes.ensures.span c.extend-pattern.ensures.span
          c.extend-elements.ensures.held c.extend-attributes.ensures.held c.extend-pattern.ensures.held
          (λ x s r. search rules) (λ x s r. search rules) (λ x s r. search rules)
          (vec_items t.terms.held) i.termed c.args.self.now c.map_lists.result c.map_lists.ensures c.push.ensures.held;
      shared = omega (arith, r, used, all, e, f, p, ap length c.elements.ensures, ap length c.attributes.ensures, ap length c.pattern.ensures, i.shared);
      elements = cc;
      attributes = cc;
      patterns = cc;
    }

pub returns : goal.returns
returns c =
    let t = c.tables.inside in
    let i = c.tables.invariant in
    let e = length-append (vec_items t.elements.held) c.elements.result.now in
    let f = length-append (vec_items t.attributes.held) c.attributes.result.now in
    let p = length-append (vec_items t.patterns.held) c.pattern.result.now in
    let q = terms_put (λ x. x.now) (λ x. x.now) (λ x. x.now) _ _ _
    (vec_items t.elements.held) c.elements.result.now (vec_items t.attributes.held) c.attributes.result.now (vec_items t.patterns.held) c.pattern.result.now
    c.extend-elements.ensures.span c.extend-attributes.ensures.span c.extend-pattern.ensures.span
    c.extend-elements.ensures.held c.extend-attributes.ensures.held c.extend-pattern.ensures.held
    (λ x s r. search rules) (λ x s r. search rules) (λ x s r. search rules)
    (vec_items t.terms.held) i.termed c.args.self.now c.map_lists.result c.map_lists.ensures c.push.ensures.held c.elements.ensures c.attributes.ensures c.pattern.ensures in
    search rules
