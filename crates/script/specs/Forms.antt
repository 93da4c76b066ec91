-- Where the forms of a line stand.
use Rattle.std.specs.Prelude.{◌<◌, List}
use denote.Param.Weighed.{most}
use Rattle.script.specs.declared.form.Form.{Form, size-Form}

-- Each of the parts is less deep than the whole.
abbrev pub StandWithin : List Form → Form → Type 0
StandWithin parts whole = most size-Form parts < size-Form whole
