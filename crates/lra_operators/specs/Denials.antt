-- Replies to requests that may not be made.
use Rattle.std.specs.Prelude.{◌≡◌, ◌≢◌, Result, IfOk}
use Rattle.lra_wire.specs.Request.{Request}
use Rattle.lra_operators.specs.declared.access.Access.{Access}
use Rattle.lra_operators.specs.declared.access.Admission.TheVariants as admission
use Rattle.lra_operators.specs.declared.operation.Operation.{Operation}
use Rattle.lra_operators.specs.declared.reply.Reply.{Reply}
use Rattle.lra_operators.specs.Access.{seen, admission_of, denied_code}

-- if a request for an operation may not be made, the code of its reply is the one of its denial
abbrev pub IsDenied : {E : Type 0} → Access → Request → Operation → Result Reply E → Type 0
IsDenied access request p result = admission_of (seen access request p) ≢ admission.Admitted
    → IfOk result (λ reply. reply.status ≡ denied_code (admission_of (seen access request p)))
