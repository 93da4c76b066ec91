use Rattle.std.proofs.Common.{not, rules, tests}
use Rattle.std.proofs.lemmas.Iterator.{YieldsList-from_slice}
use Rattle.std.proofs.lemmas.Iterator.Search.{find_from_yields_List}
use Rattle.script.specs.Skipped.{blank}
use Rattle.script.proofs.Blanks.{told}
use Rattle.script.proofs.reader.is_skipped.Goals as goal

pub returns : goal.returns
returns c =
    let line = c.args.line.now in
    told
    line
    c.find.result
    _
    (find_from_yields_List (λ b. not (blank b)) _ _ _ c.find.ensures.ran (YieldsList-from_slice line cc) (λ x b q k. search (rules, tests)))
    (search (rules, tests))
