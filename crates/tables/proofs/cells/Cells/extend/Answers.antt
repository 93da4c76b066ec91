use Rattle.std.proofs.Common.{vec_items, length, take, ap, ◌∙◌, length-append, rules}
use Rattle.std.proofs.lemmas.List.{take_more, take_all, append_assoc}
use Rattle.tables.proofs.cells.Cells.extend.Goals as goal

pub push-requires : goal.push-requires
push-requires g c =
    let n = ap length c.loop-cell.invariant.held ∙ length-append (vec_items c.args.self.now.held) (take c.loop-cell.cell-index c.args.cells.now) in
    search (rules, n)

pub loop-cell-preserved : goal.loop-cell-preserved
loop-cell-preserved g c = search (rules, take_more, append_assoc)

pub returns-clause-held : goal.returns-clause-held
returns-clause-held g c = search (rules, take_all)
