-- What an account of a history lists.
use Rattle.std.specs.Prelude.{List}
use Rattle.lra_course.specs.declared.listing.ListedAction.{ListedAction}
use Rattle.lra_course.specs.declared.listing.ListedMember.{ListedMember}

-- what is listed of a history: its actions and its members
pub record Listed : Type 0 where
  pub actions : List ListedAction
  pub members : List ListedMember
