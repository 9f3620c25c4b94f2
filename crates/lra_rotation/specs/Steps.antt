-- Steps of a service, as they are in runs: an event `Does` or `Fails`, whose state is said here.
use Rattle.std.specs.Prelude.{◌≡◌, ℕ, Bool, List, None, Some}
use Rattle.lra_rotation.specs.declared.journal.Observation.{Observation}
use Rattle.lra_rotation.specs.declared.action.StepResult.{StepResult}
use Rattle.lra_rotation.specs.declared.action.StepResult.TheVariants as result
use Rattle.lra_rotation.specs.States.{State}
use Rattle.lra_rotation.specs.Deciding.{decide}
use Rattle.lra_rotation.specs.Runs.{done, failed, World, Look, Does, Fails, after}

-- what is decided is done, or has failed; if nothing is decided, nothing changes
abbrev pub IsStep : State → ℕ → Bool → List Observation → StepResult → State → Type 0
IsStep s moment own observations result.Nothing t = (decide s moment own observations ≡ None) × (t ≡ s)
IsStep s moment own observations (result.Done a) t = (decide s moment own observations ≡ Some a) × (t ≡ done s a)
IsStep s moment own observations (result.Failed a) t = (decide s moment own observations ≡ Some a) × (t ≡ failed s a)

-- a step of a service is an event of its world, whatever the disk has taken
abbrev pub IsEvent : World → Look → Bool → StepResult → State → Type 0
IsEvent w look took result.Nothing t = (t ≡ (after w (Does look)).state)
IsEvent w look took (result.Done a) t = (t ≡ (after w (Does look)).state)
IsEvent w look took (result.Failed a) t = (t ≡ (after w (Fails look took)).state)

-- each step of a service is an event of its world
abbrev pub StepsAreEvents : Type 0
StepsAreEvents = (w : World) (look : Look) (took : Bool) (c : StepResult) (t : State)
    → IsStep w.state look.moment look.own look.observations c t → IsEvent w look took c t
