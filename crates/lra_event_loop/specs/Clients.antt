-- The bytes that a client's stream gives and accepts.
use Rattle.std.specs.Prelude.{◌≡◌, ◌⊎◌, ℕ, ◌≤◌, Bool, List, [], ◌∷◌, ◌++◌, length, take, codes, Option, Some, None}
use Rattle.std.specs.Io.KnownBytes.{Appends, Consumes, IsAtEnd, Keeps}
use Rattle.lra_wire.specs.Coded.{AwaitsContinue}
use Rattle.lra_steps.specs.History.{History, took, finished, went}
use Rattle.lra_event_loop.specs.Waiting.{AllMayGo}
use Rattle.lra_event_loop.specs.declared.client.Reading.{Reading}
use Rattle.lra_event_loop.specs.declared.client.Reading.TheVariants.{Came, Waits as WaitsForBytes, Ended, Full}
use Rattle.lra_event_loop.specs.declared.client.WriteResult.{WriteResult}
use Rattle.lra_event_loop.specs.declared.client.WriteResult.TheVariants.{Went, Waits, AwaitsSync, Done}

-- The bytes that came were accepted, all and in order; or none came yet; or the stream has ended, and no more will
-- come. No byte is lost.
abbrev pub Reads : Option (List ℕ) → Option (List ℕ) → History → History → Reading → Type 0
Reads before after old new Came = (bytes : List ℕ) × Consumes before after bytes × (new ≡ took old bytes)
Reads before after old new WaitsForBytes = Keeps before after × (new ≡ old)
Reads before after old new Ended = IsAtEnd after × Keeps before after × (new ≡ finished old)
Reads before after old new Full = Keeps before after × (new ≡ old)

-- Some first bytes of those that may be handed out left, while for every turn of the connection the journal of the
-- answer's instance was durable up to the answer's position.
pub record Leaves (keeps : ℕ → ℕ → Bool) (before after : Option (List ℕ)) (old new : History) : Type 0 where
  pub durable : ∥ AllMayGo keeps old.turns ∥₁
  pub count : ℕ
  pub fits : count ≤ length old.out
  pub wrote : Appends before after (take count old.out)
  pub advance_by : new ≡ went old count

-- some bytes left so; or none, and the stream and the connection are as they were
abbrev pub HandsOut : (ℕ → ℕ → Bool) → Option (List ℕ) → Option (List ℕ) → History → History → WriteResult → Type 0
HandsOut keeps before after old new Went = Leaves keeps before after old new
HandsOut keeps before after old new Waits = Keeps before after × (new ≡ old)
HandsOut keeps before after old new AwaitsSync = Keeps before after × (new ≡ old)
HandsOut keeps before after old new Done = (old.out ≡ []) × Keeps before after × (new ≡ old)

-- So many bytes came, and are discarded; at the stream's end there are none.
abbrev pub ThrowsAway : Option (List ℕ) → Option (List ℕ) → History → History → Option ℕ → Type 0
ThrowsAway before after old new None = Keeps before after × (new ≡ old)
ThrowsAway before after old new (Some count) =
    (bytes : List ℕ) × Consumes before after bytes × (length bytes ≡ count) × (new ≡ old)

-- the interim response after which a client sends the body of its request (RFC 9110, section 15.2.1)
abbrev pub continue_text : List ℕ
continue_text = codes "HTTP/1.1 100 Continue" ++ 13 ∷ 10 ∷ 13 ∷ 10 ∷ []

-- the head of a request is in order and asks for that, no byte of its body has come, and no reply waits
abbrev pub IsToContinue : History → Type 0
IsToContinue h = AwaitsContinue h.kept × (h.out ≡ [])

-- it was sent to a client that waits for it, or nothing was sent
abbrev pub Continues : Option (List ℕ) → Option (List ℕ) → History → History → Type 0
Continues before after old new = (new ≡ old)
    × (Keeps before after ⊎ (IsToContinue old × Appends before after continue_text))
