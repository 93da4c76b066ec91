use Rattle.std.proofs.Common.{rules}
use Rattle.std.proofs.lemmas.Iterator.{YieldsList-from_slice}
use Rattle.std.proofs.lemmas.Iterator.Search.{all_from_yields_List}
use Rattle.tables.specs.Shapes.{field_fits}
use Rattle.tables.proofs.storage.Tables.fields_fit.Goals as goal

pub returns : goal.returns
returns c =
    all_from_yields_List (field_fits c.args.self.now) _ _ _ c.all.ensures.ran (YieldsList-from_slice c.args.fields.now cc)
    (λ x b q k. search rules)
