-- The answers to own requests, as the dialect tells them (after Narayana's interface).
use Rattle.lra_wire.specs.Request.{Request}
use Rattle.lra_commands.specs.declared.refusal.Refusal.TheVariants as reason
use Rattle.lra_front.specs.declared.api_error.ApiError.{ApiError}
use Rattle.lra_front.specs.declared.api_error.ApiError.TheVariants.{Refused}
use Rattle.lra_front.specs.declared.answer.Answer.{Answer}
use Rattle.lra_front.specs.declared.answer.Answer.TheVariants as answer
use Rattle.lra_front.specs.declared.dialect_answer.DialectRefusal.{DialectRefusal}
use Rattle.lra_front.specs.declared.dialect_answer.DialectTold.{DialectTold}
use Rattle.lra_front.specs.declared.dialect_answer.DialectTold.TheVariants as told
use Rattle.lra_front.specs.declared.dialect_answer.DialectAnswer.{DialectAnswer}
use Rattle.lra_narayana.specs.Queries.{is_json, version_in}

-- an API error as the dialect knows it: it has no code for a member that has left, or is another action's
abbrev pub renamed : ApiError → ApiError
renamed (Refused reason.HasLeft) = Refused reason.NoSuchMember
renamed (Refused reason.WrongAction) = Refused reason.NoSuchMember
renamed d = d

-- what the dialect tells of an answer
abbrev pub told_of : Answer → DialectTold
told_of (answer.Started action) = told.Started action
told_of (answer.Found action status) = told.Status status
told_of (answer.Joined m) = told.Joined m
told_of (answer.Turned status) = told.Turned status
told_of answer.Left = told.Done
told_of answer.Renewed = told.Done
told_of (answer.Member status) = told.Done
told_of (answer.Denied d) = told.Denied (renamed d)
told_of (answer.Retry r seconds) = told.Denied (renamed (Refused r))
told_of (answer.Dialect d) = d.told

-- the same words in the form, and with the version, that a request names
abbrev pub in_dialect : Request → DialectTold → Answer
in_dialect request t = answer.Dialect (record {
  told = t;
  is_json = is_json request.fields;
  version = version_in request.fields;
})

-- an answer as the dialect tells it to a request
abbrev pub spelled : Request → Answer → Answer
spelled request a = in_dialect request (told_of a)

-- the answer to a request that the dialect refuses
abbrev pub refused : Request → DialectRefusal → Answer
refused request r = in_dialect request (told.Refused r)
