-- The settings that are numbers.
use Rattle.std.specs.Prelude.{ℕ, Bool, List, ◌&&◌, codes, nat_le}
use Rattle.lra_settings.specs.declared.parameter.Parameter.{Parameter}
use Rattle.lra_settings.specs.declared.parameter.Parameter.TheVariants.{Connections, Callbacks, HostShare, IdleTimeout}
use Rattle.lra_settings.specs.declared.parameter.Parameter.TheVariants.{RequestTimeout, ReplyTimeout, ConnectTimeout}
use Rattle.lra_settings.specs.declared.parameter.Parameter.TheVariants.{CallbackTimeout, SyncSeconds, RetryFirst}
use Rattle.lra_settings.specs.declared.parameter.Parameter.TheVariants.{RetryLast, RollAfter, Remember, Site}
use Rattle.lra_settings.specs.declared.parameter.Parameter.TheVariants.{DefaultLimit, RetryAfter}

-- the name of a parameter on a command line and in a file (this project's choice)
abbrev pub name_of : Parameter → List ℕ
name_of Connections = codes "connections"
name_of Callbacks = codes "callbacks"
name_of HostShare = codes "host-share"
name_of IdleTimeout = codes "idle-timeout"
name_of RequestTimeout = codes "request-timeout"
name_of ReplyTimeout = codes "reply-timeout"
name_of ConnectTimeout = codes "connect-timeout"
name_of CallbackTimeout = codes "callback-timeout"
name_of SyncSeconds = codes "sync-seconds"
name_of RetryFirst = codes "retry-first"
name_of RetryLast = codes "retry-last"
name_of RollAfter = codes "roll-after"
name_of Remember = codes "remember"
name_of Site = codes "site"
name_of DefaultLimit = codes "default-limit"
name_of RetryAfter = codes "retry-after"

-- the least value of a parameter: only the site's number may be 0 (this project's choice)
abbrev pub least_of : Parameter → ℕ
least_of Connections = 1
least_of Callbacks = 1
least_of HostShare = 1
least_of IdleTimeout = 1
least_of RequestTimeout = 1
least_of ReplyTimeout = 1
least_of ConnectTimeout = 1
least_of CallbackTimeout = 1
least_of SyncSeconds = 1
least_of RetryFirst = 1
least_of RetryLast = 1
least_of RollAfter = 1
least_of Remember = 1
least_of Site = 0
least_of DefaultLimit = 1
least_of RetryAfter = 1

-- the largest value of a parameter: a plain number, a day in seconds, a day in milliseconds, a year in seconds, what 16
-- bits hold, 2^53, up to which all programs read numbers of JSON alike (RFC 8259, section 6), or an hour in seconds
-- (this project's choice)
abbrev pub most_of : Parameter → ℕ
most_of Connections = 1000000
most_of Callbacks = 65536
most_of HostShare = 65536
most_of IdleTimeout = 86400
most_of RequestTimeout = 86400
most_of ReplyTimeout = 86400
most_of ConnectTimeout = 86400
most_of CallbackTimeout = 86400
most_of SyncSeconds = 86400
most_of RetryFirst = 86400000
most_of RetryLast = 86400000
most_of RollAfter = 50000
most_of Remember = 31536000
most_of Site = 65535
most_of DefaultLimit = 9007199254740992
most_of RetryAfter = 3600

-- the parameter may have the value
abbrev pub fits : Parameter → ℕ → Bool
fits parameter value = nat_le (least_of parameter) value && nat_le value (most_of parameter)
