use Rattle.std.proofs.Common.{◌≡◌, ℕ, List, ap, ◌∙◌, sym}
use Rattle.std.specs.Option.{option_map_or}
use Rattle.std.proofs.lemmas.Result.{on_ok_weaker}
use Rattle.lra_laws.proofs.Tested.{and_intro}
use Rattle.lra_laws.specs.Rows.{ActionRow, row_at}
use Rattle.lra_rows.specs.declared.nesting.Listed.TheVariants as listed
use Rattle.lra_rows.specs.inner.Nested.{has_place_at}
use Rattle.lra_rows.proofs.Rooms.{children_kept, members_kept, under_kept, member_place, under_place}
use Rattle.lra_rows.proofs.rows.Rows.reserve_join.Goals as goal

abbrev top_in : List ActionRow → ℕ → ℕ
top_in rows a = option_map_or (λ (r : ActionRow). r.top) (row_at rows a) 0

pub returns-in_err-reserve_at-clause-kept : goal.returns-in_err-reserve_at-clause-kept
returns-in_err-reserve_at-clause-kept c = rw (← c.self.view_is) (record {
  actions = λ h. h;
  members = c.reserve_one.ensures.kept;
  nestings = λ h. rw (c.reserve_at.ensures.same, c.reserve_at.ensures.capacity) h;
  endpoints = c.reserve_one-2.ensures.kept;
  ready = λ p h. rw c.reserve_one-2.ensures.ready h;
  asks = λ h. h;
  children = children_kept c.self.inside.nestings.items c.reserve_at.new.nestings.items c.reserve_at.ensures.kept;
  numbers = members_kept c.self.inside.nestings.items c.reserve_at.new.nestings.items c.reserve_at.ensures.kept;
  under = under_kept c.self.inside.nestings.items c.reserve_at.new.nestings.items c.reserve_at.ensures.kept;
})

pub returns-clause-ok : goal.returns-clause-ok
returns-clause-ok c = on_ok_weaker c.reserve_at-2.result (λ h p uris.
    and_intro _ _ (and_intro _ _ (and_intro _ _ c.in_ok-reserve_one.ensures.ok c.in_ok-reserve_one-2.ensures.ok)
    (member_place c.reserve_at-2.new.nestings.items c.args.action ∙ c.reserve_at-2.ensures.kept listed.Members
    c.args.action c.in_ok-reserve_at.ensures.ok))
    (under_place c.reserve_at-2.new.nestings.items (top_in c.self.inside.actions.items c.args.action)
    ∙ ap (λ b. has_place_at listed.Under b c.reserve_at-2.new.nestings.items) (sym top) ∙ h)) c.reserve_at-2.ensures.ok
  where
    top : c.top_of.result ≡ top_in c.self.inside.actions.items c.args.action
    top = c.top_of.ensures ∙ ap (λ rows. top_in rows c.args.action) c.deref.ensures.value

pub returns-clause-kept : goal.returns-clause-kept
returns-clause-kept c = rw (← c.self.view_is) (record {
  actions = λ h. h;
  members = c.reserve_one.ensures.kept;
  nestings = λ h. rw (
    c.reserve_at-2.ensures.same,
    c.reserve_at-2.ensures.capacity,
    c.reserve_at.ensures.same,
    c.reserve_at.ensures.capacity,
  ) h;
  endpoints = c.reserve_one-2.ensures.kept;
  ready = λ p h. rw c.reserve_one-2.ensures.ready h;
  asks = λ h. h;
  children = children_kept c.self.inside.nestings.items c.reserve_at-2.new.nestings.items
      (λ l b h. c.reserve_at-2.ensures.kept l b (c.reserve_at.ensures.kept l b h));
  numbers = members_kept c.self.inside.nestings.items c.reserve_at-2.new.nestings.items
      (λ l b h. c.reserve_at-2.ensures.kept l b (c.reserve_at.ensures.kept l b h));
  under = under_kept c.self.inside.nestings.items c.reserve_at-2.new.nestings.items
      (λ l b h. c.reserve_at-2.ensures.kept l b (c.reserve_at.ensures.kept l b h));
})
