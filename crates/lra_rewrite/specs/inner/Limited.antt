-- Values that give no limit.
use Rattle.std.specs.Prelude.{Bool, ◌&&◌, is_some, is_none, codes}
use Rattle.serde_json.specs.Data.{Data}
use Rattle.serde_json.specs.Find.{as_object, get}

-- a value is an object without a limit
abbrev pub lacks_limit : Data → Bool
lacks_limit value = is_some (as_object value) && is_none (get (codes "limit") value)
