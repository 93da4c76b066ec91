use Rattle.std.proofs.Common.{◌≡◌, true, rules}
use Rattle.tables.specs.Ranges.{in_range}
use Rattle.tables.proofs.Opening.{named_first, named_second}
use Rattle.tables.proofs.storage.Tables.open.Goals as goal

pub returns-in_err-enter_name : goal.returns-in_err-enter_name
returns-in_err-enter_name c =
    let e : in_range c.args.capacities ≡ true = search rules in
    let f = (named_first c.args.capacities e c.in_ok-tables.ensures c.enter_name.ensures).1 in
    cc c.in_err-enter_name.was

pub returns-in_err-enter_name-2 : goal.returns-in_err-enter_name-2
returns-in_err-enter_name-2 c =
    let e : in_range c.args.capacities ≡ true = search rules in
    let f = (named_second c.args.capacities e c.in_ok-tables.ensures c.enter_name.ensures c.enter_name-2.ensures).1 in
    cc c.in_err-enter_name-2.was

pub returns : goal.returns
returns c =
    let e : in_range c.args.capacities ≡ true = search rules in
    (e, (named_second c.args.capacities e c.in_ok-tables.ensures c.enter_name.ensures c.enter_name-2.ensures).0)
