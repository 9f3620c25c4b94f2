-- What an account of a journal says, in the words of histories and of the journal's text.
use Rattle.std.specs.Prelude.{◌≡◌, ℕ, List}
use Rattle.lra_model.specs.declared.version.Version.{Version}
use Rattle.lra_model.specs.History.{History}
use Rattle.lra_course.specs.declared.listing.Account.{Account}
use Rattle.lra_course.specs.declared.listing.Account.TheVariants.{Sound, Unsound}
use Rattle.lra_course.specs.Listings.{listing}
use Rattle.lra_auditor.specs.Verdicts.{IsTextOf, IsFault}

-- the account of bytes: the listing of the legal history whose text they are, or their first fault
abbrev pub IsAccount : List ℕ → Account → Type 0
IsAccount bytes (Sound l) = (v : Version) × (i : ℕ) × (J : History) × IsTextOf v i J bytes × (l ≡ listing J)
IsAccount bytes (Unsound number r) = IsFault bytes number r
