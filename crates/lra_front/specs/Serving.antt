-- What one request does: the order that the counter is given, and the answer.
use Rattle.std.specs.Prelude.{◌≡◌, ℕ, Bool, is_ok, Result, Ok, Err}
use Rattle.lra_wire.specs.Request.{Request}
use Rattle.lra_commands.specs.declared.command.Told.{Told}
use Rattle.lra_commands.specs.declared.command.Told.TheVariants as told
use Rattle.lra_commands.specs.declared.counter.Order.{Order}
use Rattle.lra_commands.specs.declared.counter.CounterFault.{CounterFault}
use Rattle.lra_commands.specs.declared.counter.CounterFault.TheVariants.{Refused as CounterRefused, Worn as CounterWorn}
use Rattle.lra_commands.specs.Counters.{Sight}
use Rattle.lra_front.specs.declared.api_error.ApiError.{ApiError}
use Rattle.lra_front.specs.declared.api_error.ApiError.TheVariants as api_error
use Rattle.lra_front.specs.declared.api_request.ApiRequest.{ApiRequest}
use Rattle.lra_front.specs.declared.api_request.ApiRequest.TheVariants as api_request
use Rattle.lra_front.specs.declared.answer.Answer.{Answer}
use Rattle.lra_front.specs.declared.answer.Answer.TheVariants as answer
use Rattle.lra_front.specs.ApiRequests.{MayAsk, IsOrder}

-- the answer to an API request, from what the counter returned for it: a repeated one is answered as the first was
abbrev pub TellsOf : ApiRequest → Told → Answer → Type 0
TellsOf (api_request.Start parent limit) (told.Action n) a = a ≡ answer.Started n
TellsOf (api_request.Join action uris) (told.Member n) a = a ≡ answer.Joined n
TellsOf (api_request.Join action uris) (told.AlreadyMember n) a = a ≡ answer.Joined n
TellsOf (api_request.Leave action m) told.Left a = a ≡ answer.Left
TellsOf (api_request.Close action) (told.Now status) a = a ≡ answer.Turned status
TellsOf (api_request.Close action) (told.Already status) a = a ≡ answer.Turned status
TellsOf (api_request.Cancel action) (told.Now status) a = a ≡ answer.Turned status
TellsOf (api_request.Cancel action) (told.Already status) a = a ≡ answer.Turned status
TellsOf (api_request.Renew action limit) told.Renewed a = a ≡ answer.Renewed
TellsOf (api_request.Status action) (told.ActionIs status) a = a ≡ answer.Found action status
TellsOf (api_request.Report m e) (told.MemberNow status) a = a ≡ answer.Member status
TellsOf (api_request.Report m e) (told.MemberAlready status) a = a ≡ answer.Member status
TellsOf (api_request.MemberStatus m) (told.MemberIs status) a = a ≡ answer.Member status
TellsOf _ _ a = ⊥

-- the answer to an API request, from the counter's reply
abbrev pub Answers : ApiRequest → Result Told CounterFault → Answer → Type 0
Answers w (Ok t) a = TellsOf w t a
Answers w (Err (CounterRefused r)) a = a ≡ answer.Denied (api_error.Refused r)
Answers w (Err CounterWorn) a = a ≡ answer.Denied api_error.Worn

module _ (gives : Sight → ℕ → Order → Result Told CounterFault → Sight → Type 0) where
  -- the counter is given one order for the API request, and the answer is that for its reply
  pub record Gives (before : Sight) (moment : ℕ) (w : ApiRequest) (after : Sight) (a : Answer) : Type 0 where
    pub order : Order
    pub asked : IsOrder w order
    pub reply : Result Told CounterFault
    pub given : gives before moment order reply after
    pub answered : Answers w reply a

  -- an API request does one order, and an API error does nothing
  abbrev pub Does : Sight → ℕ → Result ApiRequest ApiError → Sight → Answer → Type 0
  Does before moment (Ok w) after a = Gives before moment w after a
  Does before moment (Err d) after a = (a ≡ answer.Denied d) × (after ≡ before)

  -- what a request does at a moment: at most one order, and its answer
  abbrev pub Responds : Sight → ℕ → Request → Sight → Answer → Type 0
  Responds before moment request after a =
      (w : Result ApiRequest ApiError) × MayAsk before.setting.instance before.setting.base request w
      × Does before moment w after a

  -- the same, and whether an order was given: it was for an API request, and wasn't for an API error
  abbrev pub Orders : Sight → ℕ → Request → Sight → Answer → Bool → Type 0
  Orders before moment request after a is_ordered = (w : Result ApiRequest ApiError)
      × MayAsk before.setting.instance before.setting.base request w × Does before moment w after a
      × (is_ordered ≡ is_ok w)
