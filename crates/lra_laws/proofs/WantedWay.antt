-- The way of what a member wants, by its status.
use Rattle.std.proofs.Common.{◌≡◌, ℕ, Bool, true, false, Some, None, refl, sym, ap, ◌∙◌, cond}
use Rattle.std.specs.Prelude.{◌&&◌, ◌||◌}
use Rattle.std.specs.Option.{option_map_or, option_or}
use Rattle.lra_model.specs.declared.status.MemberStatus.{MemberStatus}
use Rattle.lra_model.specs.declared.asks.AskKind.{AskKind}
use Rattle.lra_model.specs.declared.asks.AskKind.TheVariants as ask
use Rattle.lra_model.specs.declared.asks.Direction.TheVariants as direction
use Rattle.lra_model.specs.Words.{when, is_closing, is_cancelling, is_untouched, is_completing, is_completed}
use Rattle.lra_model.specs.Words.{is_compensating, has_gone}
use Rattle.lra_model.specs.History.{History, members, is_among}
use Rattle.lra_model.specs.Members.{was_asked, ask_direction, decided, has_left, member_status}
use Rattle.lra_model.specs.Facts.{MemberFacts, Facts, member_facts, facts_of}
use Rattle.lra_model.specs.Tests.{status_is, has_address, is_time_for, was_accepted}
use Rattle.lra_model.specs.Wants.{wanted, wants}
use Rattle.lra_laws.specs.Rows.{way_of, way_asked}
use Rattle.lra_laws.proofs.MemberWords as words
use Rattle.lra_laws.proofs.StatusCases.{goes_or_rests}

-- neither a compensate ask nor a notice is a status ask
no_status : (x n m : Bool) → option_or (when x ask.Compensate) (option_or (when n ask.Forget) (when m ask.After))
    ≡ Some ask.Status → ⊥
no_status true n m h = absurd cc
no_status false true m h = absurd cc
no_status false false true h = absurd cc
no_status false false false h = absurd cc

status_test : (g z u c a s y q k b e f n m : Bool)
    → cond g None (option_or (when ((z && (u || c)) && a) (cond s ask.Status ask.Complete))
    (option_or (when ((y && (u || q || k)) && b) (cond ((k && e) && f) ask.Status ask.Compensate))
    (option_or (when n ask.Forget) (when m ask.After)))) ≡ Some ask.Status
    → (u || c || k) ≡ true
status_test true z u c a s y q k b e f n m h = absurd cc
status_test false z true c a s y q k b e f n m h = refl
status_test false z false true a s y q k b e f n m h = refl
status_test false z false false a s y q true b e f n m h = refl
status_test false true false false a s y q false b e f n m h = absurd (no_status ((y && (q || false)) && b) n m h)
status_test false false false false a s y q false b e f n m h = absurd (no_status ((y && (q || false)) && b) n m h)

-- a member that wants a status ask was asked nothing yet, or goes on
status_wanted : (f : Facts) (x : MemberFacts) → wanted f x ≡ Some ask.Status
    → (is_untouched x.status || is_completing x.status || is_compensating x.status) ≡ true
status_wanted f x h =
    status_test (x.is_asked || has_gone x.status) (status_is is_closing f x.action) (is_untouched x.status)
    (is_completing x.status) (has_address ask.Complete x.addresses)
    (was_accepted x.completion && has_address ask.Status x.addresses)
    (status_is is_cancelling f x.action) (is_completed x.status) (is_compensating x.status)
    (has_address ask.Compensate x.addresses) (was_accepted x.compensation) (has_address ask.Status x.addresses)
    (is_time_for ask.Forget f x && has_address ask.Forget x.addresses)
    (is_time_for ask.After f x && has_address ask.After x.addresses) h

-- what is wanted goes the way that the status says
pub wanted_way : (J : History) (p : ℕ) (kind : AskKind) → wants J p ≡ Some kind → ask_direction J p kind
    ≡ way_asked kind (member_status J p)
unfolding wants facts_of
wanted_way J p ask.Complete h = refl
wanted_way J p ask.Compensate h = refl
wanted_way J p ask.Forget h = refl
wanted_way J p ask.After h = refl
wanted_way J p ask.Status h = there (is_among (members J) p) h
  where
    by_status : (is_untouched (member_status J p) || is_completing (member_status J p)
        || is_compensating (member_status J p)) ≡ true → ask_direction J p ask.Status ≡ way_of (member_status J p)
    by_status g =
        goes_or_rests (has_left J p) (decided J p direction.Compensation) (was_asked J p ask.Compensate)
        (decided J p direction.Completion) (was_asked J p ask.Complete)
        (ap (λ (s : MemberStatus). is_untouched s || is_completing s || is_compensating s) (sym (words.status_is J p))
        ∙ g)
        ∙ ap way_of (sym (words.status_is J p))

    there : (b : Bool) → option_map_or (wanted (facts_of J)) (cond b (Some (member_facts J p)) None) None
        ≡ Some ask.Status → ask_direction J p ask.Status ≡ way_of (member_status J p)
    there true g = by_status (status_wanted (facts_of J) (member_facts J p) g)
    there false g = absurd cc
