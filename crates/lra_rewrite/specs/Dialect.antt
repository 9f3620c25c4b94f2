-- What a request of the dialect means under a base.
use Rattle.std.specs.Prelude.{ℕ, Bool, ◌&&◌, if◌then◌else◌, List, Result, Err}
use Rattle.lra_wire.specs.Request.{Request}
use Rattle.lra_front.specs.declared.dialect_answer.DialectRefusal.{DialectRefusal}
use Rattle.lra_front.specs.declared.dialect_answer.DialectRefusal.TheVariants.{NoSuchPath}
use Rattle.lra_narayana.specs.declared.operation.DialectOperation.{DialectOperation}
use Rattle.lra_narayana.specs.Meant.{meant}
use Rattle.lra_rewrite.specs.Paths.{is_outside}
use Rattle.lra_rewrite.specs.Requests.{target_meant}

-- requests are accepted by the path of the base alone, and one isn't under that
abbrev pub is_kept_out : List ℕ → Bool → Request → Bool
is_kept_out base is_strict request = is_strict && is_outside base request.target

-- the operation of the own request that a request of the dialect means, or why it means none: behind a proxy that
-- passes the path of the base on, or outside of that path, if requests are accepted by that alone
abbrev pub meant_under : List ℕ → Bool → Request → Result DialectOperation DialectRefusal
meant_under base is_strict request =
    if is_kept_out base is_strict request then Err NoSuchPath
    else meant (target_meant base request.target) request
