-- The answers to the commands that only ask, by what their queries are told.
use Rattle.std.proofs.Common.{◌≡◌, ℕ, Bool, true, false, Some, Err, sym, ap, ◌∙◌, cond}
use Rattle.lra_model.specs.History.{History, clerks, is_among}
use Rattle.lra_commands.specs.declared.query.Query.{Query}
use Rattle.lra_commands.specs.declared.limits.Terms.{Terms}
use Rattle.lra_commands.specs.declared.refusal.Refusal.TheVariants as refusal
use Rattle.lra_commands.specs.Calls.{Call}
use Rattle.lra_commands.specs.Answers.{answer}
use Rattle.lra_commands.specs.Queries.{asks, answer_as, tell}
use Rattle.lra_commands.proofs.Asks.{commands_ask}

answered : (s : Terms) (J : History) (c : Call) (q : Query) (by : ℕ) (known : Bool) → asks c.command ≡ Some q → c.by
    ≡ by → is_among (clerks J) by ≡ known → answer s J c ≡ cond known (answer_as (tell s.limits J q))
    (Err refusal.NoSuchClerk)
answered s J c q by known e same is = (commands_ask s J c q e).0 ∙ ap (λ (b : Bool). cond b
    (answer_as (tell s.limits J q)) (Err refusal.NoSuchClerk)) (ap (is_among (clerks J)) same ∙ is)

pub stranger_answered : (s : Terms) (J : History) (c : Call) (q : Query) (by : ℕ) → asks c.command ≡ Some q → c.by ≡ by
    → is_among (clerks J) by ≡ false → Err refusal.NoSuchClerk ≡ answer s J c
stranger_answered s J c q by e same is = sym (answered s J c q by false e same is)

pub clerk_answered : (s : Terms) (J : History) (c : Call) (q : Query) (by : ℕ) → asks c.command ≡ Some q → c.by ≡ by
    → is_among (clerks J) by ≡ true → answer_as (tell s.limits J q) ≡ answer s J c
clerk_answered s J c q by e same is = sym (answered s J c q by true e same is)
