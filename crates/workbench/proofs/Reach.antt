-- Each call leads from a workbench that some calls lead to to another.
use Rattle.std.proofs.Common.{◌≡◌, true, List, [], ◌∷◌, ◌++◌, sym, ap, ◌∙◌}
use mathlib.Core.Logic.{∥∥₁_map}
use Rattle.tables.specs.declared.capacities.Capacities.{Capacities}
use Rattle.tables.specs.Ranges.{in_range}
use Rattle.tables.specs.Contents.{Contents, opening}
use Rattle.workbench.specs.Runs.{Call', step, calls}
use Rattle.workbench.specs.Reached.{Reached}
use Rattle.workbench.proofs.Lawful.{calls_append}

pub opened : (k : Capacities) → in_range k ≡ true → {w : Contents} → w ≡ opening k → Reached w
unfolding calls
opened k e p = ∣ (k, [], e, p) ∣₁

pub went : (c : Call') {w v : Contents} → Reached w → v ≡ (step c w).0 → Reached v
unfolding calls
went c {w} {v} r p =
    ∥∥₁_map {B = (k : Capacities) × (cs : List Call') × (in_range k ≡ true) × (v ≡ (calls cs (opening k)).0)} r
    (λ (k, cs, e, q). (k, cs ++ c ∷ [], e, p ∙ ap (λ z. (step c z).0) q ∙ sym (calls_append cs (c ∷ []) (opening k))))
