-- The endpoints of members, with whether there are places for their repeats.
use Rattle.std.specs.Prelude.{ℕ, Bool, cond, List, map, Option}
use Rattle.std.specs.Option.{option_map_or}
use Rattle.lra_model.specs.declared.asks.AskKind.{AskKind}
use Rattle.lra_model.specs.declared.asks.Outcome.{Outcome}
use Rattle.lra_model.specs.Addresses.{Addresses}
use Rattle.lra_model.specs.Members.{Asked}
use Rattle.lra_laws.specs.Rows.{change_row}
use Rattle.lra_laws.specs.Snapshots.{Repeats, Endpoint, no_repeats, with_answer}
use Rattle.lra_rows.specs.Steps.{Repeated, with_repeats}

-- repeats in each stage
pub record Stages : Type 0 where
  pub completing : Repeats
  pub compensating : Repeats
  pub forgetting : Repeats
  pub telling : Repeats

-- none in any stage
abbrev pub no_stages : Stages
no_stages = record { completing = no_repeats; compensating = no_repeats; forgetting = no_repeats; telling = no_repeats }

-- the endpoint of a member that has these repeats
abbrev pub contact_with : Addresses → Stages → Endpoint
contact_with uris s = record {
  addresses = uris;
  completing = s.completing;
  compensating = s.compensating;
  forgetting =
      s.forgetting;
  telling = s.telling;
}

-- the endpoint of a member, and whether there is a place for its repeats
pub record Reached : Type 0 where
  pub endpoint : Endpoint
  pub is_ready : Bool

-- the endpoint of each
abbrev pub endpoints_in : List Reached → List Endpoint
endpoints_in rows = map (λ (r : Reached). r.endpoint) rows

-- whether there is a place for the repeats of each
abbrev pub ready_in : List Reached → List Bool
ready_in rows = map (λ (r : Reached). r.is_ready) rows

-- a member's endpoint after the outcome of an ask
abbrev pub answered : ℕ → Outcome → Asked → Reached → Reached
answered m o x r = record r { endpoint = with_answer m o x r.endpoint }

-- a member with its repeats in a stage as they were, where there is a place for them
abbrev pub with_stage : AskKind → Repeats → Reached → Reached
with_stage stage repeats r = record r { endpoint = cond r.is_ready (with_repeats stage repeats r.endpoint) r.endpoint }

-- the rows with a member's repeats as they were
abbrev pub stages_back : Option Repeated → List Reached → List Reached
stages_back o rows = option_map_or (λ (x : Repeated). change_row (with_stage x.stage x.repeats) x.member rows) o rows

-- endpoints, how many are held with no more memory, and for whose repeats there are places
pub record Reachable : Type 0 where
  pub items : List Endpoint
  pub capacity : ℕ
  pub ready : List Bool
