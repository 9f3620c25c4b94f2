-- The lists of what a block changes cover it.
use Rattle.std.proofs.Common.{◌≡◌, ℕ, Bool, true, false, List, ◌++◌, length, Option, Some, None, refl, sym, ap, ◌∙◌}
use Rattle.std.proofs.Common.{subst, cond}
use Rattle.std.specs.Prelude.{option_map, unwrap_or}
use Rattle.std.specs.Option.{option_map_or, option_and_then}
use Rattle.lra_model.specs.declared.status.ActionStatus.{ActionStatus}
use Rattle.lra_model.specs.declared.status.ActionStatus.TheVariants as action
use Rattle.lra_model.specs.declared.asks.AskKind.{AskKind}
use Rattle.lra_model.specs.declared.entry.Entry.{Entry}
use Rattle.lra_model.specs.declared.version.Version.TheVariants.{Two}
use Rattle.lra_model.specs.Words.{is_active}
use Rattle.lra_model.specs.History.{History, last, actions, members, is_among}
use Rattle.lra_model.specs.Actions.{Limit, action_status, limit_in_force}
use Rattle.lra_model.specs.Members.{ask_direction}
use Rattle.lra_model.specs.Wants.{wants, stage_of, repeat_count, last_repeat}
use Rattle.lra_model.specs.Settling.{with_settling}
use Rattle.lra_laws.specs.Snapshots.{StateSnapshot, StandsFor, Follows}
use Rattle.lra_laws.specs.Changes.{members_changed_by, actions_changed_by}
use Rattle.lra_laws.proofs.Changes.{SameWants, SameLimit}
use Rattle.lra_laws.proofs.ChangesBlock.{block_wants, block_limits}
use Rattle.lra_laws.proofs.Widest.{any_text, follows_each}
use Rattle.lra_rows.specs.declared.found.ActionRow.{ActionRow}
use Rattle.lra_rows.specs.declared.found.MemberRow.{MemberRow}
use Rattle.lra_tables.specs.Plans.{Wanting, wanting, Limiting, limiting, CoversWants, CoversLimits}

-- ---- wants

-- what a member that is there wants, by what it wants
abbrev wanting_for : History → ℕ → Option AskKind → Wanting
wanting_for J p want = record {
  want = want;
  count = option_map_or (λ (kind : AskKind). repeat_count J p (stage_of kind (ask_direction J p kind))) want 0;
  last = option_and_then (λ (kind : AskKind). last_repeat J p (stage_of kind (ask_direction J p kind))) want;
}

pick : {R S : Type 0} (f : R → S) (b : Bool) (r : R) → option_map f (cond b (Some r) None) ≡ cond b (Some (f r)) None
pick f true r = refl
pick f false r = refl

wanting_is : (J : History) (p : ℕ) → wanting J p ≡ cond (is_among (members J) p) (Some (wanting_for J p (wants J p)))
    None
wanting_is J p = pick (λ (m : MemberRow). record { want = m.want; count = m.k; last = m.last }) (is_among (members J) p)
    _

pub same_wanting : (J K : History) (p : ℕ) → SameWants J K p → wanting K p ≡ wanting J p
same_wanting J K p x =
    wanting_is K p
    ∙ ap (λ (b : Bool). cond b (Some (wanting_for K p (wants K p))) None) x.there
    ∙ either (is_among (members J) p) refl
    ∙ sym (wanting_is J p)
  where
    by_want : is_among (members J) p ≡ true → (o : Option AskKind) → wants J p ≡ o → wanting_for K p o
        ≡ wanting_for J p o
    by_want h None e = refl
    by_want h (Some kind) e = ap (λ (ms : List ℕ). record { want = Some kind; count = length ms; last = last ms })
        (x.repeats h kind e)

    either : (b : Bool) → is_among (members J) p ≡ b → cond b (Some (wanting_for K p (wants K p))) None
        ≡ cond b (Some (wanting_for J p (wants J p))) None
    either true h = ap (λ (w : Wanting). Some w) (ap (wanting_for K p) (x.want h) ∙ by_want h (wants J p) refl)
    either false h = refl

-- ---- deadlines

-- what an action's deadline goes by, by its status and its limit
abbrev limiting_by : Option ActionStatus → Limit → Limiting
limiting_by status limit = record {
  active = is_active (unwrap_or status action.Active);
  limit = limit.length_of;
  since = limit.since;
}

limiting_is : (J : History) (a : ℕ) → limiting J a ≡ cond (is_among (actions J) a)
    (Some (limiting_by (action_status J a) (limit_in_force J a))) None
limiting_is J a = pick (λ (r : ActionRow). record { active = is_active r.status; limit = r.limit; since = r.since })
    (is_among (actions J) a) _

pub same_limiting : (J K : History) (a : ℕ) → SameLimit J K a → limiting K a ≡ limiting J a
same_limiting J K a x =
    limiting_is K a
    ∙ (λ i. cond (x.there i) (Some (limiting_by (x.status i) (x.limit i))) None)
    ∙ sym (limiting_is J a)

-- ---- blocks

-- a list that has them all
pub covers_wants : (s : StateSnapshot) (e : Entry) (J : History) (es : List Entry) (ps : List ℕ) → Follows s e
    → StandsFor s J
    → es ≡ with_settling J e → ps ≡ members_changed_by J es → CoversWants ps J (J ++ es)
covers_wants s e J es ps f h block listed p out =
    let x = follows_each s e J f h in
    same_wanting J (J ++ es) p
    (subst (λ (fs : List Entry). SameWants J (J ++ fs) p) (sym block)
    (block_wants Two any_text J e p x.0 x.1 (ap (λ (fs : List Entry). is_among (members_changed_by J fs) p) (sym block)
    ∙ ap (λ (ns : List ℕ). is_among ns p) (sym listed) ∙ out)))

pub covers_limits : (J : History) (es : List Entry) (xs : List ℕ) → xs ≡ actions_changed_by es
    → CoversLimits xs J (J ++ es)
covers_limits J es xs listed a out = same_limiting J (J ++ es) a (block_limits J es a
    (ap (λ (ns : List ℕ). is_among ns a) (sym listed) ∙ out))
