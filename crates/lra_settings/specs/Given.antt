-- The values that one source gives to the settings of a service.
use Rattle.std.specs.Prelude.{None, unwrap_or}
use Rattle.lra_settings.specs.declared.settings.Settings.{Settings}
use Rattle.lra_settings.specs.declared.given.Given.{Given}

-- no value is given
abbrev pub nothing : Given
nothing = record {
  connections = None;
  callbacks = None;
  host_share = None;
  idle_seconds = None;
  request_seconds = None;
  reply_seconds = None;
  connect_seconds = None;
  callback_seconds = None;
  sync_seconds = None;
  retry_first_ms = None;
  retry_last_ms = None;
  roll_after = None;
  remember_seconds = None;
  site = None;
  default_limit_ms = None;
  retry_after_seconds = None;
  stop_at_eof = None;
  trace_context = None;
  chunked = None;
}

-- the settings with the given values in place of theirs
abbrev pub applied : Given → Settings → Settings
applied g s = record {
  connections = unwrap_or g.connections s.connections;
  callbacks = unwrap_or g.callbacks s.callbacks;
  host_share = unwrap_or g.host_share s.host_share;
  idle_seconds = unwrap_or g.idle_seconds s.idle_seconds;
  request_seconds = unwrap_or g.request_seconds s.request_seconds;
  reply_seconds = unwrap_or g.reply_seconds s.reply_seconds;
  connect_seconds = unwrap_or g.connect_seconds s.connect_seconds;
  callback_seconds = unwrap_or g.callback_seconds s.callback_seconds;
  sync_seconds = unwrap_or g.sync_seconds s.sync_seconds;
  retry_first_ms = unwrap_or g.retry_first_ms s.retry_first_ms;
  retry_last_ms = unwrap_or g.retry_last_ms s.retry_last_ms;
  roll_after = unwrap_or g.roll_after s.roll_after;
  remember_seconds = unwrap_or g.remember_seconds s.remember_seconds;
  site = unwrap_or g.site s.site;
  default_limit_ms = unwrap_or g.default_limit_ms s.default_limit_ms;
  retry_after_seconds = unwrap_or g.retry_after_seconds s.retry_after_seconds;
  stop_at_eof = unwrap_or g.stop_at_eof s.stop_at_eof;
  trace_context = unwrap_or g.trace_context s.trace_context;
  chunked = unwrap_or g.chunked s.chunked;
}
