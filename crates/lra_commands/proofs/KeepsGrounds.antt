-- A call that isn't refused: no ground holds against it.
use Rattle.std.proofs.Common.{◌≡◌, true, false, List, [], ◌∷◌, ◌++◌, length, None, refl, sym, ap, ◌∙◌}
use Rattle.std.proofs.lemmas.Bool.{ltb-false}
use Rattle.std.specs.Prelude.{◌&&◌}
use Rattle.lra_model.specs.declared.entry.Entry.{Entry}
use Rattle.lra_model.specs.History.{History, clerks, actions, members}
use Rattle.lra_commands.specs.declared.refusal.Resource.{Resource}
use Rattle.lra_commands.specs.declared.refusal.Resource.TheVariants as resource
use Rattle.lra_commands.specs.declared.limits.Terms.{Terms}
use Rattle.lra_commands.specs.Calls.{Call, moment_of}
use Rattle.lra_commands.specs.Blocks.{block}
use Rattle.lra_commands.specs.Refusals.{Ground, is_filled, passes, overfills, full_grounds, command_grounds}
use Rattle.lra_commands.specs.Refusals.{is_stranger, grounds, first_ground, refused}
use Rattle.lra_commands.specs.Runs.{IsWithin}

-- none of these grounds holds
abbrev pub NoneHolds : List Ground → Type 0
NoneHolds [] = Unit {0}
NoneHolds ((r, holds) ∷ rest) = (holds ≡ false) × NoneHolds rest

none_holds : (gs : List Ground) → first_ground gs ≡ None → NoneHolds gs
none_holds [] h = tt
none_holds ((r, true) ∷ rest) h = absurd cc
none_holds ((r, false) ∷ rest) h = (refl, none_holds rest h)

none_of_both : (gs hs : List Ground) → NoneHolds (gs ++ hs) → NoneHolds gs × NoneHolds hs
none_of_both [] hs h = (tt, h)
none_of_both ((r, holds) ∷ gs) hs h = let k = none_of_both gs hs h.1 in ((h.0, k.0), k.1)

-- what holds of a call that isn't refused
pub record IsUnrefused (s : Terms) (J : History) (c : Call) : Type 0 where
  pub known : is_stranger J c.by c.command ≡ false
  pub fits : NoneHolds (command_grounds s J (moment_of J c) c.command)
  pub room : NoneHolds (full_grounds s J c)

pub unrefused : (s : Terms) (J : History) (c : Call) → refused s J c ≡ None → IsUnrefused s J c
unfolding refused
unrefused s J c h =
    let k = none_holds (grounds s J c) h in
    let l = none_of_both (command_grounds s J (moment_of J c) c.command) (full_grounds s J c) k.1 in
    record { known = k.0; fits = l.0; room = l.1 }

-- where a call writes and isn't refused, the history stays within the limits
pub within_after : (s : Terms) (J : History) (c : Call) (e : Entry) (es : List Entry) → IsUnrefused s J c → block s J c
    ≡ e ∷ es → IsWithin s.limits (J ++ (e ∷ es))
within_after s J c e es u h = record {
  clerks = ltb-false s.limits.clerks (length (clerks K)) (room resource.Clerks u.room.0);
  actions = ltb-false s.limits.actions (length (actions K)) (room resource.Actions u.room.1.0);
  members = ltb-false s.limits.members (length (members K)) (room resource.Members u.room.1.1.0);
  entries = ltb-false s.limits.entries (length K) (room resource.Entries u.room.1.1.1.0);
}
  where
    K : History
    K = J ++ (e ∷ es)

    room : (r : Resource) → overfills s J c r ≡ false → passes s.limits r K ≡ false
    room r g = sym (ap (λ (b : List Entry). is_filled b && passes s.limits r (J ++ b)) h) ∙ g
