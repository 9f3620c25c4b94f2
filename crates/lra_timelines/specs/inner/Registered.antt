-- The register that follows an audit.
use Rattle.std.specs.Prelude.{◌≡◌, ℕ, List, [], map, Option, Some, None, IfSome, IfNone}
use Rattle.lra_model.specs.History.{History, last_moment}
use Rattle.lra_model.specs.declared.version.Version.{Version}
use Rattle.lra_auditor.specs.declared.auditor.FaultyLine.{FaultyLine}
use Rattle.lra_course.specs.declared.listing.Account.{Account}
use Rattle.lra_auditor.specs.Heard.{Heard}
use Rattle.lra_auditor.specs.Accounts.{IsAccount}
use Rattle.lra_auditor.specs.Verdicts.{IsTextOf, IsFault}
use Rattle.lra_timelines.specs.declared.start_times.StartTimes.{StartTimes}
use Rattle.lra_timelines.specs.Lines.{Begun, starts}
use Rattle.lra_timelines.specs.inner.Called.{Keeps, Called}

-- the moments at which the actions of a history started
abbrev pub start_moments : History → List ℕ
start_moments J = map (λ (b : Begun). b.moment) (starts J)

-- a register got nothing, or a header and the entries of a history
abbrev pub Hears : StartTimes → Option Heard → Type 0
Hears r None = (r.starts.items ≡ []) × (r.last ≡ 0) × IfSome r.calls (λ c. Keeps c [])
Hears r (Some h) =
    (r.instance ≡ Some h.instance)
    × (r.starts.items ≡ start_moments h.entries)
    × (r.last ≡ last_moment h.entries)
    × IfSome r.calls (λ c. Keeps c h.entries)

-- a register of a history of an instance
pub record Registers (r : StartTimes) (i : ℕ) (J : History) : Type 0 where
  pub instance : r.instance ≡ Some i
  pub moments : r.starts.items ≡ start_moments J
  pub end : r.last ≡ last_moment J
  pub called : IfSome r.calls (λ c. Called c J)

-- the outcome of an audit of bytes: their first fault, or the register of a legal history that they are the text of;
-- and their account
pub record IsSaid (bytes : List ℕ) (fault : Option FaultyLine) (account : Account) (r : StartTimes) : Type 0 where
  pub some : IfSome fault (λ f. IsFault bytes f.line f.rule)
  pub none : IfNone fault ((v : Version) × (i : ℕ) × (J : History) × IsTextOf v i J bytes
      × Hears r (Some (record { version = v; instance = i; entries = J })))
  pub listed : IsAccount bytes account
