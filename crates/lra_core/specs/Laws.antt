-- What holds of errands and of blocks, whatever commands are given.
use Rattle.std.specs.Prelude.{◌≡◌, ℕ, ◌≤◌, ◌==◌, Bool, true, false, Some, Ok, count_by}
use Rattle.lra_model.specs.declared.version.Version.{Version}
use Rattle.lra_model.specs.declared.entry.Deed.{Deed}
use Rattle.lra_model.specs.declared.entry.Deed.TheVariants.{Reply}
use Rattle.lra_model.specs.declared.entry.Entry.{Entry}
use Rattle.lra_model.specs.History.{History}
use Rattle.lra_model.specs.Rules.{is_legal}
use Rattle.lra_ids.specs.Addresses.{is_address}
use Rattle.lra_commands.specs.declared.command.Told.{Told}
use Rattle.lra_commands.specs.Terms.{AreKeepable}
use Rattle.lra_commands.specs.Calls.{Call, IsCall}
use Rattle.lra_commands.specs.Counters.{Setting, terms_of}
use Rattle.lra_commands.specs.Errands.{Asking}
use Rattle.lra_commands.specs.Answers.{answer, after_call}
use Rattle.lra_commands.specs.Runs.{IsLawful}
use Rattle.lra_commands.specs.Given.{errand_of, IsOfAsk}

-- each errand that a call gives is of an ask in the history after it
abbrev pub ErrandsAreOfAsks : Type 0
ErrandsAreOfAsks =
    (g : Setting) (J : History) (c : Call) (t : Told) (e : Asking) → AreKeepable g.limits → IsLawful (terms_of g) J
    → IsCall c → answer (terms_of g) J c ≡ Ok t → errand_of g J c ≡ Some e → IsOfAsk (after_call (terms_of g) J c) e

-- whether a deed is the reply to an ask
abbrev pub is_reply_to : ℕ → Deed → Bool
is_reply_to n (Reply m o) = m == n
is_reply_to n _ = false

-- in a legal history each ask has at most one reply
abbrev pub AsksAreAnsweredOnce : Type 0
AsksAreAnsweredOnce = (v : Version) (J : History) (n : ℕ) → is_legal v is_address J ≡ true
    → count_by (λ (e : Entry). is_reply_to n e.deed) J ≤ 1
