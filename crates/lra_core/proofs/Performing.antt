-- A command whose block is written at once.
use Rattle.std.proofs.Common.{◌≡◌, ℕ, List, [], ◌++◌, Option, Some, None, refl, sym, ap, ◌∙◌, subst, append-nil}
use Rattle.std.specs.Prelude.{Ok, IfSome}
use Rattle.std.specs.Option.{option_and_then, option_map_or}
use Rattle.lra_model.specs.declared.entry.Entry.{Entry}
use Rattle.lra_model.specs.History.{History}
use Rattle.lra_model.specs.Settling.{IsQuiet, with_settling}
use Rattle.lra_commands.specs.declared.command.Told.{Told}
use Rattle.lra_commands.specs.declared.limits.Terms.{Terms}
use Rattle.lra_commands.specs.Calls.{Command, Call}
use Rattle.lra_commands.specs.Errands.{Asking}
use Rattle.lra_commands.specs.Counters.{Setting, terms_of}
use Rattle.lra_commands.specs.Deeds.{own_entry}
use Rattle.lra_commands.specs.Blocks.{block}
use Rattle.lra_commands.specs.Answers.{answer, after_call}
use Rattle.lra_commands.specs.Given.{errand_for, errand_of, IsOfAsk}
use Rattle.lra_ids.specs.Addresses.{is_address}
use Rattle.lra_core.specs.declared.block.Committed.{Committed}
use Rattle.lra_core.specs.Shape.{Shape, IsCoordinator, IsAtRest, IsSame, IsGrown}
use Rattle.lra_core.specs.Prepares.{Written, IsBlockOf}
use Rattle.lra_core.specs.inner.Committing.{IsCommitted}
use Rattle.lra_core.proofs.Assembling.{grows}
use Rattle.lra_core.proofs.Carried.{errand_carried}
use Rattle.lra_core.proofs.Committing.{after_block}

-- a call
abbrev pub call : ℕ → ℕ → Command → Call
call by m o = record { by = by; moment = m; command = o }

-- where nothing is written, there is no entry of the call's own
nothing_own : (s : Terms) (J : History) (c : Call) → block s J c ≡ [] → own_entry s J c ≡ None
unfolding block
nothing_own s J c h = none (own_entry s J c) h
  where
    none : (o : Option Entry) → option_map_or (with_settling J) o [] ≡ [] → o ≡ None
    none None g = refl
    none (Some e) g = absurd cc

-- nor an errand
nothing_given : (g : Setting) (J : History) (c : Call) → block (terms_of g) J c ≡ [] → errand_of g J c ≡ None
nothing_given g J c h = ap (λ (o : Option Entry). option_and_then (errand_for g J) o) (nothing_own (terms_of g) J c h)

pub told_done : (before after : Shape) (c : Call) (t : Told) → IsSame before after
    → answer (terms_of after.setting) after.history c ≡ Ok t → block (terms_of after.setting) after.history c ≡ []
    → IsCommitted before c after (record { told = t; errand = None })
told_done before after c t h answered nothing =
    let told : answer (terms_of before.setting) before.history c ≡ Ok t =
    (λ i. answer (terms_of (sym h.setting i)) (sym h.history i) c) ∙ answered in
    let none : block (terms_of before.setting) before.history c ≡ [] =
    (λ i. block (terms_of (sym h.setting i)) (sym h.history i) c) ∙ nothing in
    let stays : after_call (terms_of before.setting) before.history c ≡ before.history =
    ap (λ (es : List Entry). before.history ++ es) (grows (terms_of before.setting) before.history c t told ∙ none)
    ∙ append-nil before.history in
    record {
      done = record {
        answered = told;
        grown = record { setting = h.setting; history = h.history ∙ sym stays };
        quiet = λ filled. absurd (filled none);
      };
      errand = sym (nothing_given before.setting before.history c none);
      asked = tt;
    }

pub block_done : (before between after : Shape) (c : Call) (b : Written) (x : Committed) → IsSame before between
    → IsBlockOf between.setting between.history c b → IsGrown between after (between.history ++ b.entries)
    → IsAtRest after → x.told ≡ b.told → x.errand ≡ b.errand → IsCoordinator between → IsCommitted before c after x
block_done before between after c b x h is g rest told errand k =
    let written : after.history ≡ after_call (terms_of between.setting) between.history c = g.history
    ∙ sym (after_block between.setting between.history b c is) in
    let at : after.history ≡ after_call (terms_of before.setting) before.history c =
    written ∙ (λ i. after_call (terms_of (h.setting i)) (h.history i) c) in
    record {
      done = record {
        answered = (λ i. answer (terms_of (sym h.setting i)) (sym h.history i) c) ∙ is.answered ∙ ap Ok (sym told);
        grown = record { setting = g.setting ∙ h.setting; history = at };
        quiet = λ filled. subst (λ (J : History). IsQuiet before.setting.version is_address J) at
            (subst (λ (y : Setting). IsQuiet y.version is_address after.history) (g.setting ∙ h.setting) rest);
      };
      errand = errand ∙ is.errand ∙ (λ i. errand_of (h.setting i) (h.history i) c);
      asked = subst (λ (J : History). IfSome x.errand (IsOfAsk J)) (sym written)
          (carried x.errand (errand ∙ is.errand));
    }
  where
    carried : (o : Option Asking) → o ≡ errand_of between.setting between.history c
        → IfSome o (IsOfAsk (after_call (terms_of between.setting) between.history c))
    carried None e = tt
    carried (Some y) e = errand_carried between.setting between.history c b.told y k.limits k.history is.call
        is.answered (sym e)
