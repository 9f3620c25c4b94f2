-- All settings of a service.
use Rattle.std.specs.Prelude.{ℕ, Bool, false, ◌&&◌, ◌||◌, ◌==◌, nat_le}
use Rattle.lra_settings.specs.declared.parameter.Parameter.{Parameter}
use Rattle.lra_settings.specs.declared.parameter.Parameter.TheVariants.{Connections, Callbacks, HostShare, IdleTimeout}
use Rattle.lra_settings.specs.declared.parameter.Parameter.TheVariants.{RequestTimeout, ReplyTimeout, ConnectTimeout}
use Rattle.lra_settings.specs.declared.parameter.Parameter.TheVariants.{CallbackTimeout, SyncSeconds, RetryFirst}
use Rattle.lra_settings.specs.declared.parameter.Parameter.TheVariants.{RetryLast, RollAfter, Remember, Site}
use Rattle.lra_settings.specs.declared.parameter.Parameter.TheVariants.{DefaultLimit, RetryAfter}
use Rattle.lra_settings.specs.declared.settings.Settings.{Settings}
use Rattle.lra_settings.specs.Parameters.{fits}

-- the default settings (this project's choice)
abbrev pub usual : Settings
usual = record {
  connections = 10000;
  callbacks = 1024;
  host_share = 64;
  idle_seconds = 30;
  request_seconds = 10;
  reply_seconds = 10;
  connect_seconds = 5;
  callback_seconds = 30;
  sync_seconds = 5;
  retry_first_ms = 100;
  retry_last_ms = 60000;
  roll_after = 50000;
  remember_seconds = 3600;
  site = 0;
  default_limit_ms = 0;
  retry_after_seconds = 0;
  stop_at_eof = false;
  trace_context = false;
  chunked = false;
}

-- the value of a parameter
abbrev pub value_of : Settings → Parameter → ℕ
value_of s Connections = s.connections
value_of s Callbacks = s.callbacks
value_of s HostShare = s.host_share
value_of s IdleTimeout = s.idle_seconds
value_of s RequestTimeout = s.request_seconds
value_of s ReplyTimeout = s.reply_seconds
value_of s ConnectTimeout = s.connect_seconds
value_of s CallbackTimeout = s.callback_seconds
value_of s SyncSeconds = s.sync_seconds
value_of s RetryFirst = s.retry_first_ms
value_of s RetryLast = s.retry_last_ms
value_of s RollAfter = s.roll_after
value_of s Remember = s.remember_seconds
value_of s Site = s.site
value_of s DefaultLimit = s.default_limit_ms
value_of s RetryAfter = s.retry_after_seconds

-- there is no default limit, or its value is in its range
abbrev pub is_limit_fit : Settings → Bool
is_limit_fit s = s.default_limit_ms == 0 || fits DefaultLimit s.default_limit_ms

-- no reply says when to send again, or the seconds are in their range
abbrev pub is_retry_fit : Settings → Bool
is_retry_fit s = s.retry_after_seconds == 0 || fits RetryAfter s.retry_after_seconds

-- each parameter's value is in its range
abbrev pub are_in_range : Settings → Bool
are_in_range s =
    ((((((((((((((fits Connections s.connections && fits Callbacks s.callbacks) && fits HostShare s.host_share)
    && fits IdleTimeout s.idle_seconds) && fits RequestTimeout s.request_seconds)
    && fits ReplyTimeout s.reply_seconds) && fits ConnectTimeout s.connect_seconds)
    && fits CallbackTimeout s.callback_seconds) && fits SyncSeconds s.sync_seconds)
    && fits RetryFirst s.retry_first_ms)
    && fits RetryLast s.retry_last_ms) && fits RollAfter s.roll_after) && fits Remember s.remember_seconds)
    && fits Site s.site) && is_limit_fit s) && is_retry_fit s

-- a service can run with them: each value is in its range, and the first back-off is no longer than the last
abbrev pub are_fit : Settings → Bool
are_fit s = are_in_range s && nat_le s.retry_first_ms s.retry_last_ms
