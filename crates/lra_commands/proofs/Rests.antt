-- Settling comes to rest: after a call that writes, nothing is left to settle.
use Rattle.std.proofs.Common.{◌≡◌, ℕ, zero, suc, ◌≤◌, Bool, true, List, [], ◌∷◌, ◌++◌, Option, Some, None, refl, sym}
use Rattle.std.proofs.Common.{ap, ◌∙◌, append_assoc, append-nil, cond, arith}
use Rattle.std.specs.Prelude.{◌≢◌, is_some, option_map}
use Rattle.std.specs.Option.{option_map_or}
use Rattle.lra_model.specs.declared.version.Version.{Version}
use Rattle.lra_model.specs.declared.entry.Deed.{Deed}
use Rattle.lra_model.specs.declared.entry.Entry.{Entry}
use Rattle.lra_model.specs.History.{History}
use Rattle.lra_model.specs.Rules.{is_legal}
use Rattle.lra_model.specs.Settling.{next_settling}
use Rattle.lra_laws.proofs.Legal.{legal_push, legal_begins}
use Rattle.lra_laws.proofs.Writes.{MayWrite, may_go_on}
use Rattle.lra_laws.proofs.Settled.{settling_allowed}
use Rattle.lra_laws.proofs.Quiet.{no_next_is_quiet}
use Rattle.lra_laws.proofs.Rests.{left_to_settle, left_is_bounded, next_lessens}
use Rattle.lra_ids.specs.Addresses.{is_address}
use Rattle.lra_commands.specs.declared.refusal.Refusal.{Refusal}
use Rattle.lra_commands.specs.declared.limits.Terms.{Terms}
use Rattle.lra_commands.specs.Calls.{Call, moment_of}
use Rattle.lra_commands.specs.Deeds.{own_deed, entry_of}
use Rattle.lra_commands.specs.Blocks.{block}
use Rattle.lra_model.specs.Settling.{settling_within, most_settling, settling, with_settling}
use Rattle.lra_commands.specs.Answers.{growth, after_call}
use Rattle.lra_commands.specs.Runs.{CallsLeaveQuiet}
use Rattle.lra_commands.proofs.Keeps.{call_keeps}

-- ---- the entries that settle

-- at the end of as many settling entries as there can be, none comes next
settling_rests : (v : Version) (t : List ℕ → Bool) (n by m : ℕ) (J : History) → MayWrite v t J by m → left_to_settle J
    ≤ n → next_settling (J ++ settling_within n by m J) ≡ None
settling_rests v t zero by m J w h = ap next_settling (append-nil J) ∙ nothing (next_settling J) refl
  where
    nothing : (o : Option Deed) → next_settling J ≡ o → o ≡ None
    nothing None g = refl
    nothing (Some d) g = let less = next_lessens v t J by m d w g in absurd (omega arith)
settling_rests v t (suc n) by m J w h = next (next_settling J) refl (λ K. settling_rests v t n by m K)
  where
    next : (o : Option Deed) → next_settling J ≡ o → ((K : History) → MayWrite v t K by m → left_to_settle K ≤ n
        → next_settling (K ++ settling_within n by m K) ≡ None)
        → next_settling (J ++ option_map_or
        (λ (d : Deed). (let e : Entry = record { by = by; moment = m; deed = d } in e) ∷ settling_within n by m
        (J ++ (let e : Entry = record { by = by; moment = m; deed = d } in e) ∷ [])) o []) ≡ None
    next None g rest = ap next_settling (append-nil J) ∙ g
    next (Some d) g rest =
        let e : Entry = record { by = by; moment = m; deed = d } in
        let less = next_lessens v t J by m d w g in
        ap next_settling (sym (append_assoc J (e ∷ []) (settling_within n by m (J ++ e ∷ []))))
        ∙ rest (J ++ e ∷ []) (may_go_on v t J by m d w.legal (settling_allowed v t J by m d w g)) (omega arith)

-- ---- calls

-- none comes next after an entry and those that settle the history after it
with_settling_rests : (v : Version) (t : List ℕ → Bool) (J : History) (e : Entry)
    → is_legal v t (J ++ with_settling J e) ≡ true → next_settling (J ++ with_settling J e) ≡ None
with_settling_rests v t J e h =
    let es : List Entry = settling e.by e.moment (J ++ e ∷ []) in
    let first = legal_push v t J e (legal_begins v t (J ++ e ∷ []) es (ap (is_legal v t) (append_assoc J (e ∷ []) es)
    ∙ h)) in
    ap next_settling (sym (append_assoc J (e ∷ []) es))
    ∙ settling_rests v t (most_settling (J ++ e ∷ [])) e.by e.moment (J ++ e ∷ [])
    (may_go_on v t J e.by e.moment e.deed first.0 first.1) (left_is_bounded (J ++ e ∷ []))

-- none comes next after a block
block_rests : (s : Terms) (J : History) (c : Call) → is_legal s.version is_address (J ++ block s J c) ≡ true
    → block s J c ≢ [] → next_settling (J ++ block s J c) ≡ None
unfolding block
block_rests s J c = by_deed (own_deed s J (moment_of J c) c.command)
  where
    by_deed : (o : Option Deed) → is_legal s.version is_address (J ++ option_map_or (with_settling J)
        (option_map (entry_of J c) o) []) ≡ true → option_map_or (with_settling J) (option_map (entry_of J c) o) [] ≢ []
        → next_settling (J ++ option_map_or (with_settling J) (option_map (entry_of J c) o) []) ≡ None
    by_deed None h filled = absurd (filled refl)
    by_deed (Some d) h filled = with_settling_rests s.version is_address J (entry_of J c d) h

-- nothing is left to settle after a call that writes
pub calls_leave_quiet : CallsLeaveQuiet
unfolding growth
calls_leave_quiet s J c l k call go filled =
    let after : after_call s J c ≡ J ++ block s J c = ap (λ (o : Option Refusal). J
    ++ cond (is_some o) [] (block s J c)) go in
    let kept = call_keeps s J c l k call in
    no_next_is_quiet s.version is_address (after_call s J c) (ap next_settling after
    ∙ block_rests s J c (sym (ap (is_legal s.version is_address) after) ∙ kept.legal) filled)
