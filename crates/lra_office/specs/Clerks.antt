-- What callers know of a clerk.
use Rattle.std.specs.Prelude.{◌≡◌, ◌≢◌, ℕ, Bool, [], Some, option_map, IsTrue}
use Rattle.std.specs.Option.{option_map_or}
use Rattle.lra_model.specs.History.{History}
use Rattle.lra_ticket.specs.declared.kept.Kept.{Ghosts}
use Rattle.lra_ticket.specs.declared.lock.Pass.{Pass}
use Rattle.lra_ticket.specs.declared.view.Place.TheVariants.{Idle}
use Rattle.lra_ticket.specs.declared.view.View.{View}
use Rattle.lra_ticket.specs.Views.{view}
use Rattle.lra_ticket.specs.Locks.{lock_id, pass_id, pass_view}
use Rattle.lra_ticket.specs.declared.lock.TicketLock.{TicketLock}
use Rattle.lra_commands.specs.Counters.{Setting, Sight}
use Rattle.lra_office.specs.declared.clerk.Clerk.{Clerk}

-- what a clerk has seen
abbrev pub clerk_view : {X O : Type 0} {g : Ghosts X O} → Clerk X O g → View O
clerk_view {g = g} c = option_map_or (λ (p : Pass _ _ _). pass_view p) c.pass (view 0 g.blank [] [] 0 Idle)

-- a clerk of a lock, with the number that it enrolled by, and with a position that covers all that it has seen
pub record IsClerkOf {X O : Type 0} {g : Ghosts X O} (lock : TicketLock X O) (covers : O → History → ℕ → Bool)
    (c : Clerk X O g) : Type 0 where
  pub known : option_map (λ (p : Pass X O g). pass_id p) c.pass ≡ Some (lock_id lock)
  pub number : (clerk_view c).number ≡ c.number
  pub enrolled : c.number ≢ 0
  pub covered : IsTrue (covers (clerk_view c).origin (clerk_view c).seen c.position)

-- what callers know of a counter that gives a clerk's orders
abbrev pub sight_of : {X O : Type 0} {g : Ghosts X O} → (O → Setting) → Clerk X O g → Sight
sight_of setting c = record { setting = setting (clerk_view c).origin; number = c.number; seen = (clerk_view c).seen }
