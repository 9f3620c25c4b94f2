-- What is decided on the commands that only ask, and what each query returns.
use Rattle.std.proofs.Common.{◌≡◌, ℕ, Bool, true, false, [], Some, Ok, Err, Result, refl, cond, inl}
use Rattle.lra_model.specs.History.{History, clerks, actions, members, is_among}
use Rattle.lra_model.specs.Members.{member_status}
use Rattle.lra_commands.specs.declared.query.Query.{Query}
use Rattle.lra_commands.specs.declared.query.Query.TheVariants as query
use Rattle.lra_commands.specs.declared.query.Listing.{Listing}
use Rattle.lra_commands.specs.declared.query.QueryResult.{QueryResult}
use Rattle.lra_commands.specs.declared.query.QueryResult.TheVariants as known
use Rattle.lra_commands.specs.declared.limits.Limits.{Limits}
use Rattle.lra_commands.specs.declared.limits.Terms.{Terms}
use Rattle.lra_commands.specs.declared.refusal.Refusal.{Refusal}
use Rattle.lra_commands.specs.declared.refusal.Refusal.TheVariants as refusal
use Rattle.lra_commands.specs.Calls.{Command, Call}
use Rattle.lra_commands.specs.Blocks.{block}
use Rattle.lra_commands.specs.Refusals.{status_at}
use Rattle.lra_commands.specs.Answers.{answer}
use Rattle.lra_commands.specs.Queries.{known_where, awaited_from, is_listed, row_from, count_from, tell, asks, told_as}
use Rattle.lra_commands.specs.Queries.{answer_as}
use Rattle.lra_commands.proofs.Asks.{commands_ask}
use Rattle.lra_validator.specs.Decisions.{IsDecided}
use Rattle.lra_validator.specs.inner.Judged as judged
use Rattle.lra_validator.specs.inner.Judged.{◌>>=◌}
use Rattle.lra_validator.proofs.Passing.{call}

pub ask_decides : (s : Terms) (J : History) (by h : ℕ) (o : Command) (q : Query) → asks o ≡ Some q
    → IsDecided s J (call by h o) (judged.ask s.limits J by q)
ask_decides s J by h o q e = let k = commands_ask s J c q e in one (is_among (clerks J) by) (tell s.limits J q) k.0 k.1
  where
    c : Call
    c = call by h o

    one : (known : Bool) (x : Result QueryResult Refusal) → answer s J c
        ≡ cond known (answer_as x) (Err refusal.NoSuchClerk)
        → block s J c ≡ []
        → IsDecided s J c (judged.required known refusal.NoSuchClerk >>= λ _. x >>= λ k. judged.told_so (told_as k))
    one true (Ok k) a n = record { answered = a; nothing = n }
    one true (Err r) a n = inl a
    one false x a n = inl a

-- ---- what each query returns

pub tell_status : (l : Limits) (J : History) (a : ℕ) → tell l J (query.ActionStatus a)
    ≡ known_where (is_among (actions J) a) (known.ActionIs (status_at J a)) refusal.NoSuchAction
unfolding tell
tell_status l J a = refl

pub tell_member : (l : Limits) (J : History) (p : ℕ) → tell l J (query.MemberStatus p)
    ≡ known_where (is_among (members J) p) (known.MemberIs (member_status J p)) refusal.NoSuchMember
unfolding tell
tell_member l J p = refl

pub tell_awaited : (l : Limits) (J : History) (a place : ℕ) → tell l J (query.Awaited a place)
    ≡ known_where (is_among (actions J) a) (awaited_from J a place) refusal.NoSuchAction
unfolding tell
tell_awaited l J a place = refl

pub tell_row : (l : Limits) (J : History) (x : Listing) (place : ℕ) → tell l J (query.Row x place)
    ≡ known_where (is_listed J x) (row_from l J x place) refusal.NoSuchAction
unfolding tell
tell_row l J x place = refl

pub tell_count : (l : Limits) (J : History) (x : Listing) (place : ℕ) → tell l J (query.Count x place)
    ≡ known_where (is_listed J x) (count_from l J x place) refusal.NoSuchAction
unfolding tell
tell_count l J x place = refl
