use Rattle.std.proofs.lemmas.Str.{IsUtf8-from_ascii}
use Rattle.script.proofs.printer.write_ascii.Goals as goal

pub from_utf8_unchecked-requires : goal.from_utf8_unchecked-requires
from_utf8_unchecked-requires g c = IsUtf8-from_ascii _ c.requires
