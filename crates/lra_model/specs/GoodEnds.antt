-- What it means that an action ended well, or failed.
use Rattle.std.specs.Prelude.{◌≡◌, ℕ, Bool, true, false, List, Some}
use Rattle.lra_model.specs.declared.status.ActionStatus.TheVariants as action
use Rattle.lra_model.specs.declared.status.MemberStatus.TheVariants as member
use Rattle.lra_model.specs.declared.asks.AskKind.TheVariants as ask
use Rattle.lra_model.specs.declared.version.Version.{Version}
use Rattle.lra_model.specs.Words.{has_ended, has_failed, member_has_failed}
use Rattle.lra_model.specs.History.{History, members, is_among}
use Rattle.lra_model.specs.Actions.{action_status, is_under, was_cancelled_below}
use Rattle.lra_model.specs.Members.{action_of, stays, was_asked, member_status}
use Rattle.lra_model.specs.Ends.{action_is}
use Rattle.lra_model.specs.Rules.{is_legal}

-- a member stays in t or in an action below it (MicroProfile LRA 2.0, nested LRAs)
abbrev pub StaysUnder : History → ℕ → ℕ → Type 0
StaysUnder J t p = (is_among (members J) p ≡ true) × (stays J p ≡ true) × (is_under J t (action_of J p) ≡ true)

-- a member has completed and was never asked to compensate (MicroProfile LRA 2.0, ParticipantStatus)
pub record IsCompletedForGood (J : History) (p : ℕ) : Type 0 where
  pub completed : member_status J p ≡ member.Completed
  pub never_asked : was_asked J p ask.Compensate ≡ false

-- What the end of an action t means for the members that stay in it or below it. Where it Closed, each is completed and
-- was never asked to compensate, unless a cancellation nested in t compensated it. Where it was Cancelled, each is
-- compensated. Where it failed, one of them failed; where it ended and did not fail, none of them did: an end is a
-- failed one exactly where a member failed (MicroProfile LRA 2.0, LRAStatus: all or nothing).
pub record HasGoodEnd (J : History) (t : ℕ) : Type 0 where
  pub closed : action_status J t ≡ Some action.Closed → (p : ℕ) → StaysUnder J t p
      → was_cancelled_below J t (action_of J p) ≡ false → IsCompletedForGood J p
  pub undone : action_status J t ≡ Some action.Closed → (p : ℕ) → StaysUnder J t p
      → was_cancelled_below J t (action_of J p) ≡ true → member_status J p ≡ member.Compensated
  pub cancelled : action_status J t ≡ Some action.Cancelled → (p : ℕ) → StaysUnder J t p → member_status J p
      ≡ member.Compensated
  pub failed : action_is has_failed J t ≡ true → (p : ℕ) × StaysUnder J t p
      × (member_has_failed (member_status J p) ≡ true)
  pub unfailed : action_is has_ended J t ≡ true → action_is has_failed J t ≡ false → (p : ℕ) → StaysUnder J t p
      → member_has_failed (member_status J p) ≡ false

-- every action has a good end where it has ended (MicroProfile LRA 2.0, LRAStatus: all or nothing)
abbrev pub GoodEnds : History → Type 0
GoodEnds J = (t : ℕ) → HasGoodEnd J t

-- every legal history of either version has good ends, whatever the test of an address's text (MicroProfile LRA 2.0,
-- LRAStatus)
abbrev pub LegalHistoriesHaveGoodEnds : Type 0
LegalHistoriesHaveGoodEnds = (v : Version) (is_address : List ℕ → Bool) (J : History) → is_legal v is_address J ≡ true
    → GoodEnds J
