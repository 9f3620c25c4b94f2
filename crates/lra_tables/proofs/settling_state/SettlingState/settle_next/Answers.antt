use Rattle.std.proofs.Common.{◌∙◌, ◌^◌, ◌∷◌, ◌++◌, [], ap, sym, subst}
use Rattle.std.specs.Prelude.{nat_lt}
use Rattle.lra_model.specs.declared.entry.Entry.{Entry}
use Rattle.lra_laws.specs.Snapshots.{StateSnapshot, StandsFor}
use Rattle.lra_laws.proofs.SnapshotPush.{StandsFor-push}
use Rattle.lra_tables.specs.inner.Boarded.{Boarded}
use Rattle.lra_tables.proofs.Settles.{no_addresses, settling_room, next_allowed, next_is_settling, may_more}
use Rattle.lra_tables.proofs.settling_state.SettlingState.settle_next.Goals as goal

pub follow-requires-clause-follows : goal.follow-requires-clause-follows
follow-requires-clause-follows c = record {
  history = c.requires.history;
  stands = c.requires.may.stands;
  allowed = next_allowed c.args.self.now c.requires.history c.args.by c.args.moment c.args.deed c.requires.may
      c.requires.next;
}

pub follow-requires-clause-room : goal.follow-requires-clause-room
follow-requires-clause-room c =
    let e : Entry = record { by = c.args.by; moment = c.args.moment; deed = c.args.deed } in
    let few = ap (λ (s : StateSnapshot). nat_lt s.entries (2 ^ 63)) c.requires.may.stands.snapshot
    ∙ c.in_ok-count_one.ensures c.requires.history c.requires.may.stands in
    settling_room e c.args.self.now (next_is_settling c.requires.history c.args.deed c.requires.next) few

pub follow-requires-clause-uris : goal.follow-requires-clause-uris
follow-requires-clause-uris c = no_addresses c.args.deed (next_is_settling c.requires.history c.args.deed
    c.requires.next)

pub returns-clause-goes : goal.returns-clause-goes
returns-clause-goes c = λ K h next.
    let e : Entry = record { by = c.args.by; moment = c.args.moment; deed = c.args.deed } in
    let stands = StandsFor-push c.args.self.now.rows.snapshot K e h.stands
    (next_allowed c.args.self.now K c.args.by c.args.moment c.args.deed h next) in
    may_more c.args.self.now c.follow.new.self K c.args.by c.args.moment c.args.deed h next
    (subst (λ (s : StateSnapshot). StandsFor s (K ++ e ∷ []))
    (sym (ap (λ (b : Boarded). b.rows.snapshot) c.follow.ensures.carried)) stands)
