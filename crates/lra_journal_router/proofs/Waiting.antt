-- Requests that are put off.
use Rattle.std.specs.Prelude.{◌≡◌, ◌≢◌, ℕ, Bool, Option, Some, None, IsSome, unwrap_or}
use Rattle.std.proofs.Common.{List, inl, inr, sym, subst}
use Rattle.lra_wire.specs.Request.{Request}
use Rattle.lra_commands.specs.Counters.{Sight}
use Rattle.lra_commands.specs.declared.refusal.Refusal.TheVariants as refusal
use Rattle.lra_front.specs.declared.api_error.ApiError.TheVariants.{Refused}
use Rattle.lra_front.specs.declared.answer.Answer.TheVariants.{Denied}
use Rattle.lra_front.specs.declared.answer.Answer.{Answer}
use Rattle.lra_front.specs.Replies.{HasIdentifiers}
use Rattle.lra_steps.specs.declared.handler.Answered.{Answered}
use Rattle.lra_journal_sets.specs.Counted.{name}
use Rattle.lra_journal_sets.specs.JournalSets.{newest}
use Rattle.lra_journal_router.specs.Naming.{instance_of}
use Rattle.lra_journal_router.specs.Waiting.{IsPutOff}

-- the answer to a request that is put off names the instance that would answer, unless memory was refused
pub put_off_whose : (tells : Option ℕ → Bool → Type 0) (ss : List Sight) (request : Request) (answered : Answered)
    → IsPutOff tells ss request answered
    → answered.answer ≢ Denied (Refused refusal.Memory) → answered.instance
    ≡ unwrap_or (instance_of request) (newest name ss)
put_off_whose tells ss request answered (inl h) other = h.whose
put_off_whose tells ss request answered (inr h) other = absurd (other h.1)

none_some : (p : Option ℕ) → p ≡ None → IsSome p → ⊥
none_some None e h = absurd cc
none_some (Some n) e h = absurd cc

-- it has no position, and so waits for no sync
pub put_off_journal : (tells : Option ℕ → Bool → Type 0) (ss : List Sight) (request : Request) (answered : Answered) →
    IsPutOff tells ss request answered
    → IsSome answered.position → answered.instance ≡ unwrap_or (instance_of request) (newest name ss)
put_off_journal tells ss request answered (inl h) some = h.whose
put_off_journal tells ss request answered (inr h) some = absurd (none_some answered.position h.2 some)

-- an answer that refuses bears no number
pub put_off_bears : (tells : Option ℕ → Bool → Type 0) (ss : List Sight) (request : Request) (answered : Answered)
    → IsPutOff tells ss request answered → HasIdentifiers answered.answer
put_off_bears tells ss request answered (inl h) = subst (λ (a : Answer). HasIdentifiers a) (sym h.answer) tt
put_off_bears tells ss request answered (inr h) = subst (λ (a : Answer). HasIdentifiers a) (sym h.1) tt
