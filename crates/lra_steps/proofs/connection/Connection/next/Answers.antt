use Rattle.std.proofs.Common.{ℕ, List, drop, ◌++◌, sym, ap, ◌∙◌, subst, Some, Ok, inl, rules}
use Rattle.lra_wire.specs.Request.{request_of}
use Rattle.lra_wire.specs.Coded.{IsRequestBy, IsFrontBy, RefusesFrontBy}
use Rattle.lra_wire.specs.CodedCursor.{SeesCoded}
use Rattle.lra_front.specs.declared.stream.StreamEnd.TheVariants.{Refused}
use Rattle.lra_steps.specs.History.{History, IsServed, ordered, fault_reply}
use Rattle.lra_steps.specs.Steps.{IsFree}
use Rattle.lra_steps.specs.inner.Ends.{EndsWithout}
use Rattle.lra_steps.specs.inner.Fields.{history_of}
use Rattle.lra_steps.proofs.HistoryLemmas.{served_ordered, ordered_is, served_ended, ended_is, ends_without, quiet_end}
use Rattle.lra_steps.proofs.HistoryLemmas.{none_stands}
use Rattle.lra_steps.proofs.connection.Connection.next.Goals as goal

pub invariant_of-self : goal.invariant_of-self
invariant_of-self c =
    let h = history_of c.self.inside in
    let front = c.in-Ok-Some.front in
    let free : IsFree h = (
      c.in_default.is,
      none_stands c.self.inside.stands
          (sym c.is_some.ensures ∙ c.if-is_some.false),
    ) in
    let there = subst (λ (xs : List ℕ). IsFrontBy c.self.inside.chunked xs (Ok (Some front))) c.as_slice.ensures
    (rw c.in-Ok-Some.field-0-is at c.in-Ok-Some.ensures.front) in
    record {
      served = subst IsServed
          (sym (ordered_is h front.len c.advance.new.self (request_of front.request) c.advance.ensures))
          (served_ordered h (request_of front.request) front.len c.self.invariant.served free there.1);
      seen = c.nothing.ensures c.advance.new.self;
      left = c.self.invariant.left;
    }

pub invariant_of-self-in-Some-end_without : goal.invariant_of-self-in-Some-end_without
invariant_of-self-in-Some-end_without c =
    let h = history_of c.self.inside in
    let end = c.in-Some-end_without.end in
    let free : IsFree h = (
      c.in_default.is,
      none_stands c.self.inside.stands
          (sym c.is_some.ensures ∙ c.if-is_some.false),
    ) in
    let e = subst
    (λ (xs : List ℕ). EndsWithout c.self.inside.chunked c.self.inside.closed xs (Some end))
    c.as_slice-in-Ok-None.ensures
    c.in-Some-end_without.ensures in
    record {
      served = subst IsServed (sym (ended_is h end h.out (quiet_end h end e)))
          (served_ended h end c.self.invariant.served free (ends_without h end e));
      seen = subst (λ (xs : List ℕ). SeesCoded c.next_front.new.seen xs) c.as_slice.ensures c.next_front.ensures.seen;
      left = c.self.invariant.left;
    }

pub invariant_of-self-in-Err : goal.invariant_of-self-in-Err
invariant_of-self-in-Err c =
    let h = history_of c.self.inside in
    let fault = c.in-Err.fault in
    let free : IsFree h = (
      c.in_default.is,
      none_stands c.self.inside.stands
          (sym c.is_some.ensures ∙ c.if-is_some.false),
    ) in
    let denied = subst (λ (xs : List ℕ). RefusesFrontBy c.self.inside.chunked xs fault)
    c.as_slice.ensures c.in-Err.ensures.front in
    let base = c.requires.value ∙ ap (λ (h : History). h.base) (sym c.self.view_is) in
    let out = c.in_ok-push_fault-in-Err.ensures.ok ∙ ap (λ p. h.out ++ fault_reply h.instance p fault) base in
    record {
      served = subst IsServed (sym (ended_is h (Refused fault) c.push_fault.new.out out))
          (served_ended h (Refused fault) c.self.invariant.served free (inl ((search rules), denied)));
      seen = subst (λ (xs : List ℕ). SeesCoded c.next_front.new.seen xs) c.as_slice.ensures c.next_front.ensures.seen;
      left = c.self.invariant.left;
    }

pub returns-in-Ok-Some : goal.returns-in-Ok-Some
returns-in-Ok-Some c =
    let h = history_of c.self.inside in
    let front = c.in-Ok-Some.front in
    let free : IsFree h = (
      c.in_default.is,
      none_stands c.self.inside.stands
          (sym c.is_some.ensures ∙ c.if-is_some.false),
    ) in
    let there = subst (λ (xs : List ℕ). IsFrontBy c.self.inside.chunked xs (Ok (Some front))) c.as_slice.ensures
    (rw c.in-Ok-Some.field-0-is at c.in-Ok-Some.ensures.front) in (
      request_of front.request,
      drop front.len c.args.self.now.kept,
      subst IsFree c.self.view_is free,
      subst (λ (h : History). IsRequestBy h.chunked h.kept (request_of front.request) (drop front.len h.kept))
          c.self.view_is
          there.1,
      ordered_is h front.len c.advance.new.self (request_of front.request) c.advance.ensures
          ∙ ap (λ (h : History). ordered h (request_of front.request) (drop front.len h.kept)) c.self.view_is,
    )
