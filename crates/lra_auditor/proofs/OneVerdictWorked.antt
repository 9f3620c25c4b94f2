-- Small texts, and the one verdict on each, by the laws.
use Rattle.std.proofs.Common.{◌≡◌, ℕ, ◌<◌, ◌^◌, true, [], ◌∷◌, None, Some, refl, sym, inr, inl, arith, length-append}
use Rattle.std.proofs.lemmas.List.{append-nil}
use Rattle.lra_model.specs.declared.status.ActionStatus.TheVariants as action
use Rattle.lra_model.specs.declared.asks.Cause.TheVariants as cause
use Rattle.lra_model.specs.declared.version.Version.{Version}
use Rattle.lra_model.specs.declared.version.Version.TheVariants.{One}
use Rattle.lra_model.specs.declared.rule.Rule.TheVariants as rule
use Rattle.lra_model.specs.declared.entry.Deed.TheVariants.{Enrol, Start, Leave, Close, End}
use Rattle.lra_model.specs.declared.entry.Entry.{Entry}
use Rattle.lra_model.specs.History.{History, steps, clerks, actions, members, asks, last_moment}
use Rattle.lra_model.specs.Actions.{parent, top, action_status, limit_in_force, children, members_of}
use Rattle.lra_model.specs.Ends.{staying, is_settled, right_end, top_has_ended}
use Rattle.lra_model.specs.Facts.{facts_of}
use Rattle.lra_model.specs.Rules.{broken, is_legal}
use Rattle.lra_model.specs.Tallies.{count_actions, least_failed, failed_actions}
use Rattle.lra_laws.proofs.Worked.{at}
use Rattle.lra_lines.specs.Line.{line, text}
use Rattle.lra_lines.proofs.Apart.{body_of, header_body, not_nil}
use Rattle.lra_addresses.specs.Addresses.{is_address}
use Rattle.lra_laws.proofs.Legal.{legal_empty}
use Rattle.lra_totals.specs.declared.totals.Summary.{Summary}
use Rattle.lra_course.specs.declared.verdict.Verdict.{Verdict}
use Rattle.lra_course.specs.declared.verdict.Verdict.TheVariants.{Sound, Unsound}
use Rattle.lra_auditor.specs.Verdicts.{IsVerdict}
use Rattle.lra_totals.specs.Summaries.{summary}
use Rattle.lra_auditor.proofs.Feeds.{text-push}
use Rattle.lra_auditor.proofs.LegalTexts.{legal_has_text}
use Rattle.lra_auditor.proofs.OneVerdict.{one_verdict, legal_text_sound}

-- nothing happened
abbrev nothing : Summary
nothing = record { entries = 0; actions = 0; unended = 0; closed = 0; cancelled = 0; failed = [] }

summary_empty : summary [] ≡ nothing
unfolding summary count_actions actions least_failed failed_actions
summary_empty = refl

-- a header alone is sound
pub header_alone : (v : Version) (i : ℕ) (x : Verdict) → i < 2 ^ 60 → IsVerdict (text v i []) x → x ≡ Sound nothing
header_alone v i x small h = rw (sym summary_empty) (legal_text_sound v i [] x small (legal_empty v is_address) h)

-- an action that is started and closed
abbrev closed : History
closed = at 0 Enrol ∷ at 0 (Start 1 None 0) ∷ at 5 (Close 1 cause.Client) ∷ at 5 (End 1 action.Closed) ∷ []

closed_legal : is_legal One is_address closed ≡ true
unfolding steps clerks actions members asks last_moment parent top action_status limit_in_force children members_of
    staying is_settled right_end top_has_ended facts_of broken is_legal
closed_legal = refl

closed_summary : summary closed ≡ record nothing { entries = 4; actions = 1; closed = 1 }
unfolding summary count_actions actions action_status least_failed failed_actions
closed_summary = refl

pub closed_sound : (x : Verdict) → IsVerdict (text One 7 closed) x → x
    ≡ Sound (record nothing { entries = 4; actions = 1; closed = 1 })
closed_sound x h = rw (sym closed_summary) (legal_text_sound One 7 closed x (omega arith) closed_legal h)

-- no bytes have no header
pub no_bytes : (x : Verdict) → IsVerdict [] x → x ≡ Unsound 1 rule.Header
no_bytes x h = one_verdict [] x (Unsound 1 rule.Header) h
    (inl (refl, refl, λ v i rest small same. not_nil (header_body v i) rest 10 (sym same)))

-- a clerk that isn't enrolled does something
abbrev stray : Entry
stray = at 5 (Leave 1)

stray_breaks : broken One is_address [] stray ≡ Some rule.Clerk
unfolding broken facts_of clerks last_moment
stray_breaks = refl

pub stray_unsound : (x : Verdict) → IsVerdict (text One 7 (stray ∷ [])) x → x ≡ Unsound 2 rule.Clerk
stray_unsound x h =
    one_verdict (text One 7 (stray ∷ [])) x (Unsound 2 rule.Clerk) h
    (inr (
      One,
      7,
      [],
      line stray,
      record {
        place = refl;
        front = record {
          spelled = legal_has_text One 7 [] (omega arith) (legal_empty One is_address);
          legal =
              legal_empty One is_address;
          whole = refl;
        };
        whole = text-push One 7 [] stray;
        goes_on = omega (arith, length-append (body_of stray) (10 ∷ []));
        breaks = inr (
          stray,
          [],
          record { by = omega arith; moment = omega arith; deed = omega arith },
          sym (append-nil (line stray)),
          stray_breaks,
        );
      },
    ))
