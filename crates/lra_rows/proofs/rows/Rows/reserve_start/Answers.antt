use Rattle.std.proofs.Common.{sym, ◌∙◌, vec_capacity}
use Rattle.lra_rows.proofs.Rooms.{children_kept, members_kept, under_kept, takes_nest}
use Rattle.lra_rows.proofs.rows.Rows.reserve_start.Goals as goal

pub returns-in-Some-clause-kept : goal.returns-in-Some-clause-kept
returns-in-Some-clause-kept c = rw (← c.self.view_is) (record {
  actions = c.reserve_one.ensures.kept;
  members = λ h. h;
  nestings = λ h. rw (
    c.reserve_at.ensures.same,
    c.reserve_at.ensures.capacity,
    c.reserve_one-2.ensures.items,
    takes_nest c.self.inside.nestings.items (vec_capacity c.reserve_one-2.new.rows),
  )
      (rw c.reserve_one-2.ensures.items at (c.reserve_one-2.ensures.kept
      (sym (takes_nest c.self.inside.nestings.items (vec_capacity c.self.inside.nestings)) ∙ h)));
  endpoints = λ h. h;
  ready = λ p h. h;
  asks = λ h. h;
  children = children_kept c.self.inside.nestings.items c.reserve_at.new.nestings.items
      (rw c.reserve_one-2.ensures.items at c.reserve_at.ensures.kept);
  numbers = members_kept c.self.inside.nestings.items c.reserve_at.new.nestings.items
      (rw c.reserve_one-2.ensures.items at c.reserve_at.ensures.kept);
  under = under_kept c.self.inside.nestings.items c.reserve_at.new.nestings.items
      (rw c.reserve_one-2.ensures.items at c.reserve_at.ensures.kept);
})
