-- What is left of the room that there was.
use Rattle.std.specs.Prelude.{◌≡◌, ℕ, true}
use Rattle.lra_rows.specs.Rowed.{Rowed, takes_one, is_ready_at, takes_child, takes_member, takes_under}

-- each list that took one more still does
pub record Keeps (old new : Rowed) : Type 0 where
  pub actions : takes_one old.snapshot.state.actions old.capacity.actions ≡ true
      → takes_one new.snapshot.state.actions new.capacity.actions ≡ true
  pub members : takes_one old.snapshot.state.members old.capacity.members ≡ true
      → takes_one new.snapshot.state.members new.capacity.members ≡ true
  pub nestings : takes_one old.snapshot.nestings old.capacity.nestings ≡ true
      → takes_one new.snapshot.nestings new.capacity.nestings ≡ true
  pub endpoints : takes_one old.snapshot.endpoints old.capacity.endpoints ≡ true
      → takes_one new.snapshot.endpoints new.capacity.endpoints ≡ true
  pub ready : (p : ℕ) → is_ready_at old.capacity.ready p ≡ true → is_ready_at new.capacity.ready p ≡ true
  pub asks : takes_one old.snapshot.asks old.capacity.asks ≡ true → takes_one new.snapshot.asks new.capacity.asks ≡ true
  pub children : (a : ℕ) → takes_child old a ≡ true → takes_child new a ≡ true
  pub numbers : (a : ℕ) → takes_member old a ≡ true → takes_member new a ≡ true
  pub under : (a : ℕ) → takes_under old a ≡ true → takes_under new a ≡ true
