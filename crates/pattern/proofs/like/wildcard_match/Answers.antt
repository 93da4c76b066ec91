use Rattle.std.proofs.Common.{eqb, refl, ◌∙◌, rules, tests, arith}
use Rattle.std.proofs.lemmas.List.{take_rest, drop_all}
use Rattle.std.proofs.lemmas.Iterator.{YieldsList-from_slice}
use Rattle.std.proofs.lemmas.Iterator.Search.{all_from_yields_List}
use Rattle.pattern.proofs.Search.{search_begins, search_run, search_byte, search_back, search_fails, search_ends, all_runs}
use Rattle.pattern.proofs.like.wildcard_match.Goals as goal

pub loop-bytes-init : goal.loop-bytes-init
loop-bytes-init c = search_begins c.args.pattern.now c.args.text.now

pub loop-bytes-preserved-in-Some : goal.loop-bytes-preserved-in-Some
loop-bytes-preserved-in-Some c = search_run _ c.loop-bytes.invariant c.in-Some.ensures

pub loop-bytes-preserved-in-Some-after : goal.loop-bytes-preserved-in-Some-after
loop-bytes-preserved-in-Some-after c =
    search_byte c.loop-bytes.invariant c.in-len1-up.len_at_least c.from.ensures c.in_default-after.ensures c.in-Some-after.more.now c.in-Some-after.ensures

pub loop-bytes-preserved : goal.loop-bytes-preserved
loop-bytes-preserved c =
    search_back c.loop-bytes.invariant c.in-len1-up.len_at_least c.from.ensures c.in_default-after.ensures c.in_default-after-2.ensures
    c.in-Some-after_run.run' _ c.in-Some-after_run.is refl (take_rest c.in-Some-after_run.run'.text.now 1)

pub returns-in_default-after_run : goal.returns-in_default-after_run
returns-in_default-after_run c =
    search_fails c.loop-bytes.invariant c.in-len1-up.len_at_least c.from.ensures c.in_default-after.ensures c.in_default-after-2.ensures c.in_default-after_run.is

pub returns : goal.returns
returns c =
    let numbers = c.loop-bytes.numbers.now in
    let ended = all_from_yields_List (λ n. eqb n 256) _ _ c.all.result c.all.ensures.ran (YieldsList-from_slice numbers cc) (λ x b q k. search (rules, tests)) in
    ended ∙ all_runs numbers ∙ search_ends c.loop-bytes.invariant (drop_all 0 c.loop-bytes.bytes.now (omega arith))
