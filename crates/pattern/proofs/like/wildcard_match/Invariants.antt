use Rattle.pattern.proofs.Search.{Searching, turns_left}
use Rattle.pattern.proofs.like.wildcard_match.Given as goal

abbrev pub invariant-loop-bytes : goal.invariant-loop-bytes
invariant-loop-bytes l = Searching l.pattern l.text l.numbers l.bytes l.after_run

abbrev pub decreases-loop-bytes : goal.decreases-loop-bytes
decreases-loop-bytes l = turns_left l.pattern l.text l.numbers l.after_run
