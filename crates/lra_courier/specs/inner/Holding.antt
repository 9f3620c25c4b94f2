-- What the fields of a callback exchange mean.
use Rattle.lra_wire.specs.RequestCursor.{SeesResponse}
use Rattle.lra_courier.specs.declared.callback_exchange.CallbackExchange.TheInside.{Inside}
use Rattle.lra_courier.specs.Carried.{Carried, IsCarried}

abbrev pub carried_of : Inside → Carried
carried_of c = record {
  kind = c.asked.kind;
  direction = c.asked.direction;
  request = c.request.items;
  advance_by = c.advance_by;
  taken = c.kept.items;
  closed = c.closed;
  failed = c.failed;
  came = c.came;
}

-- what is true of all that was exchanged, and the findings on the bytes that came
pub record Holds (c : Inside) : Type 0 where
  pub carried : IsCarried (carried_of c)
  pub sees : SeesResponse c.seen c.kept.items
