use Rattle.std.proofs.Common.{sym, subst, arith, w64}
use Rattle.std.proofs.lemmas.Int.{to_z-of_z}
use Rattle.script.specs.Sessions.{Lines}
use Rattle.c_api.proofs.Fronts.{front}
use Rattle.c_api.proofs.run.Goals as goal

pub returns-clause-ok : goal.returns-clause-ok
returns-clause-ok c =
    let fits = c.in_ok-length.ensures in
    rw (fits.1, to_z-of_z w64 _ fits.0) (front _ _ _ _ (omega arith) (omega arith) (subst Lines (sym c.as_slice.ensures.value) c.in_ok-text.ensures) c.fill_front.ensures)
