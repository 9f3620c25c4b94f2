-- What the program prints of a journal's account, and its status.
use Rattle.std.specs.Prelude.{◌≡◌, ℕ, List, [], ◌∷◌, ◌++◌, codes, Option, option_map}
use Rattle.std.specs.Fmt.{decimal}
use Rattle.std.specs.List.{flat_map}
use Rattle.std.specs.Io.KnownBytes.{Appends}
use Rattle.lra_model.specs.Names.{action_status_name, member_status_name}
use Rattle.lra_lines.specs.Line.{or_star}
use Rattle.lra_course.specs.declared.listing.ListedAction.{ListedAction}
use Rattle.lra_course.specs.declared.listing.ListedMember.{ListedMember}
use Rattle.lra_course.specs.declared.listing.Account.{Account}
use Rattle.lra_course.specs.declared.listing.Account.TheVariants.{Sound, Unsound}
use Rattle.lra_course.specs.Listed.{Listed}
use Rattle.lra_auditor.specs.Accounts.{IsAccount}
use Rattle.lra_verdict_lines.specs.VerdictLines.{joined, line_feed, fault_line}

-- a line for an action: its number, its parent's or `*`, and its status
abbrev pub action_line : ListedAction → List ℕ
action_line a = joined (codes "action " ∷ decimal a.action ∷ codes " " ∷ or_star (option_map decimal a.parent)
    ∷ codes " " ∷ action_status_name a.status ∷ line_feed ∷ [])

-- a line for a member: its number, its action's and its status
abbrev pub member_line : ListedMember → List ℕ
member_line m = joined (codes "member " ∷ decimal m.member ∷ codes " " ∷ decimal m.action ∷ codes " "
    ∷ member_status_name m.status ∷ line_feed ∷ [])

-- a line for each action, and then one for each member
abbrev pub listing_text : Listed → List ℕ
listing_text l = flat_map action_line l.actions ++ flat_map member_line l.members

-- the listing of a sound journal; or the line and the rule at fault
abbrev pub account_text : Account → List ℕ
account_text (Sound l) = listing_text l
account_text (Unsound line rule) = fault_line line rule

-- 0 for a sound journal, else 1
abbrev pub account_status : Account → ℕ
account_status (Sound l) = 0
account_status (Unsound line rule) = 1

-- what was written is the text of the account of the input, and the status is that account's
pub record ReportsListing (input : List ℕ) (status : ℕ) (before after : Option (List ℕ)) : Type 0 where
  pub account : Account
  pub right : IsAccount input account
  pub written : Appends before after (account_text account)
  pub answered : status ≡ account_status account
