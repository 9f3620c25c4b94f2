-- What a member wants to be asked, and what is known of how often it was.
use Rattle.std.specs.Prelude.{ℕ, ◌==◌, ◌&&◌, ◌||◌, List, length, Option, None, cond}
use Rattle.std.specs.Option.{option_or, option_map_or}
use Rattle.std.specs.List.{filter_map}
use Rattle.lra_model.specs.declared.asks.AskKind.{AskKind}
use Rattle.lra_model.specs.declared.asks.AskKind.TheVariants as ask
use Rattle.lra_model.specs.declared.asks.Direction.{Direction}
use Rattle.lra_model.specs.declared.asks.Direction.TheVariants as direction
use Rattle.lra_model.specs.Words.{when, is_compensating, has_gone, is_undecided, same_kind}
use Rattle.lra_model.specs.History.{History, last}
use Rattle.lra_model.specs.Members.{Replied, replies}
use Rattle.lra_model.specs.Facts.{MemberFacts, Facts, facts_of}
use Rattle.lra_model.specs.Tests.{has_address, is_time_for, was_accepted}

-- What a member wants in completion: one that goes on by itself is asked for its status where it has an address for
-- that, else to complete again (MicroProfile LRA 2.0: 202 Accepted).
abbrev pub wants_completion : Facts → MemberFacts → Option AskKind
wants_completion f p =
    when (is_time_for ask.Complete f p && has_address ask.Complete p.addresses)
    (cond (was_accepted p.completion && has_address ask.Status p.addresses) ask.Status ask.Complete)

-- What a member wants in compensation, likewise once it is compensating (MicroProfile LRA 2.0: 202 Accepted).
abbrev pub wants_compensation : Facts → MemberFacts → Option AskKind
wants_compensation f p =
    when (is_time_for ask.Compensate f p && has_address ask.Compensate p.addresses)
    (cond (is_compensating p.status && was_accepted p.compensation && has_address ask.Status p.addresses) ask.Status
    ask.Compensate)

-- a notice of a kind, where it is time and the member has the address (MicroProfile LRA 2.0, forget and AfterLRA)
abbrev pub wants_notice : AskKind → Facts → MemberFacts → Option AskKind
wants_notice kind f p = when (is_time_for kind f p && has_address kind p.addresses) kind

-- the first of these that a member wants, and nothing while an ask of it is outstanding or once it has left (this
-- project's choice of order)
abbrev pub wanted : Facts → MemberFacts → Option AskKind
wanted f p =
    cond (p.is_asked || has_gone p.status) None
    (option_or (wants_completion f p) (option_or (wants_compensation f p)
    (option_or (wants_notice ask.Forget f p) (wants_notice ask.After f p))))

-- what a member wants to be asked next (this project's choice of order)
unfoldable pub wants : History → ℕ → Option AskKind
wants J p = option_map_or (wanted (facts_of J)) ((facts_of J).member p) None

-- the stage that an ask belongs to, which is its kind, but for a status ask, which belongs to its direction's (this
-- project's choice)
abbrev pub stage_of : AskKind → Direction → AskKind
stage_of kind direction.Completion = ask.Complete
stage_of kind direction.Compensation = ask.Compensate
stage_of kind direction.Neither = kind

-- the moments of a member's replies in a stage after which it is asked again (this project's choice)
unfoldable pub repeats : History → ℕ → AskKind → List ℕ
repeats J p stage = filter_map (λ (r : Replied). when ((r.to.member == p)
    && same_kind (stage_of r.to.kind r.to.direction) stage && is_undecided r.outcome) r.moment) (replies J)

-- how many such replies there were (this project's choice)
abbrev pub repeat_count : History → ℕ → AskKind → ℕ
repeat_count J p stage = length (repeats J p stage)

-- the moment of the last such reply, where there was one (this project's choice)
abbrev pub last_repeat : History → ℕ → AskKind → Option ℕ
last_repeat J p stage = last (repeats J p stage)
