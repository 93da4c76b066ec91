use Rattle.std.proofs.Common.{arith, rules}
use Rattle.std.proofs.lemmas.Iterator.{YieldsList-from_range}
use Rattle.std.proofs.lemmas.Iterator.Search.{find_from_yields_List}
use Rattle.tables.specs.Kinds.{find}
use Rattle.tables.proofs.Search.{find-range}
use Rattle.tables.proofs.structure.find.Goals as goal

pub returns : goal.returns
unfolding find
returns g c =
    let k = g.S.Structure.kind in
    let e = find_from_yields_List (k.held c.args.s.now c.args.tables.now) _ _ c.find.result c.find.ensures.ran
    (YieldsList-from_range 0 c.count.result c.count.result (cc) (omega arith)) (λ x b q m. search rules) in
    let f = find-range (k.held c.args.s.now c.args.tables.now) 0 c.count.result in
    search rules
