use Rattle.std.proofs.Common.{rules}
use Rattle.std.proofs.lemmas.Fn.{always_returns_same}
use Rattle.tables.specs.Contents.{name_at}
use Rattle.tables.specs.Names.{before}
use Rattle.tables.proofs.Ascending.{before-slice_cmp, ascending-adjacent}
use Rattle.tables.proofs.storage.Tables.ascending.Goals as goal

pub returns : goal.returns
returns c =
    let w = c.args.self.now in
    ascending-adjacent w c.args.fields.now c.is_sorted_by.result
    (c.is_sorted_by.ensures.cases (λ f g. before (name_at w f.name.0) (name_at w g.name.0)) (always_returns_same _ _ _ (λ a r f k. search (rules, before-slice_cmp))))
