-- Answers after which a callback worker is woken.
use Rattle.std.specs.Prelude.{Bool, true, false}
use Rattle.lra_front.specs.declared.dialect_answer.DialectTold.{DialectTold}
use Rattle.lra_front.specs.declared.dialect_answer.DialectTold.TheVariants as told
use Rattle.lra_front.specs.declared.answer.Answer.{Answer}
use Rattle.lra_front.specs.declared.answer.Answer.TheVariants as answer

-- the same for what is told in the dialect, whose starts have no body: they may have a limit
abbrev pub is_due_after : DialectTold → Bool
is_due_after (told.Started action) = true
is_due_after (told.Turned status) = true
is_due_after told.Done = true
is_due_after (told.Joined m) = false
is_due_after (told.Status status) = false
is_due_after (told.Denied d) = false
is_due_after (told.Refused r) = false

-- After an answer something may be due at once, an ask or a time limit: an action ends, a member reports how it ended,
-- a limit was renewed, or an action was begun by a body, which may have a limit (this project's choice: a worker that
-- isn't woken polls within a second).
abbrev pub may_be_due : Answer → Bool → Bool
may_be_due (answer.Started action) has_body = has_body
may_be_due (answer.Turned status) has_body = true
may_be_due answer.Renewed has_body = true
may_be_due (answer.Member status) has_body = true
may_be_due (answer.Dialect d) has_body = is_due_after d.told
may_be_due _ has_body = false
