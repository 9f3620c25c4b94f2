-- What the fields of a connection mean.
use Rattle.std.specs.Prelude.{◌≡◌, ℕ, ◌-◌, List, map, take, drop, flat_map, length}
use Rattle.std.specs.Option.{option_map}
use Rattle.lra_wire.specs.declared.request.RequestRead.{RequestRead}
use Rattle.lra_wire.specs.CodedCursor.{SeesCoded}
use Rattle.lra_wire.specs.Request.{request_of}
use Rattle.lra_steps.specs.declared.connection.Connection.TheInside.{Inside}
use Rattle.lra_steps.specs.declared.connection.Reply.{Reply}
use Rattle.lra_steps.specs.History.{History, Turn, IsServed}

-- the bytes from each offset on, and below the bytes before it
abbrev pub backs : List (List ℕ × ℕ) → List (List ℕ)
backs marks = map (λ m. drop m.1 m.0) marks

abbrev pub fronts : List (List ℕ × ℕ) → List (List ℕ)
fronts marks = map (λ m. take m.1 m.0) marks

-- a request and its answer, as a turn
abbrev pub turn_of : RequestRead × Reply → Turn
turn_of pair = record { request = request_of pair.0; moment = pair.1.moment; answered = pair.1.answered }

abbrev pub history_of : Inside → History
history_of c = record {
  instance = c.instance;
  base = c.base.value;
  chunked = c.chunked;
  taken = flat_map (λ t. t) (backs c.reads.items);
  kept = c.kept;
  closed = c.closed;
  turns = map turn_of c.turns.items;
  stands = option_map request_of c.stands;
  ended = c.ended;
  sent = flat_map (λ t. t) (fronts c.writes.items);
  out = c.out;
}

-- what is true of the history holds, the findings are on the bytes that are kept, and `left` requests are left beside
-- the last
pub record Holds (c : Inside) : Type 0 where
  pub served : IsServed (history_of c)
  pub seen : SeesCoded c.seen c.kept
  pub left : c.left ≡ 999 - length (history_of c).turns
