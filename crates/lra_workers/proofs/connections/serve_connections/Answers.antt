use Rattle.std.proofs.Common.{◌≡◌, ℕ, ◌+◌, suc, sym, subst, arith}
use Rattle.lra_commands.specs.Counters.{Setting}
use Rattle.lra_office.specs.Stops.{KeepsInTurn}
use Rattle.lra_office.specs.Windows.{IsOfficeOf}
use Rattle.lra_workers.specs.Connections.{clerk_sight, ConnectionsIn}
use Rattle.lra_workers.proofs.Answering.{keeps_served, none_answered, one_more}
use Rattle.lra_workers.proofs.connections.serve_connections.Goals as goal

pub loop-answered-init : goal.loop-answered-init
loop-answered-init g c =
    record {
      clerk = c.requires.clerk;
      answers = none_answered (KeepsInTurn g.V.LockedService.setting g.V.Kept.origin
          g.V.Kept.history g.V.Kept.lawful g.V.LockedService.has_stopped) g.K.Clock.tells
          (clerk_sight g.V.LockedService.setting c.args.clerk) c.args.clock.now;
    }

pub returns-in_default-clause-number : goal.returns-in_default-clause-number
returns-in_default-clause-number g c = (keeps_served _ _ _ _ _ g.K.Clock.tells c.loop-answered._answered
    (clerk_sight g.V.LockedService.setting c.args.clerk) (clerk_sight g.V.LockedService.setting c.loop-answered.clerk)
    c.args.clock.now c.loop-answered.clock c.loop-answered.invariant.answers).same.number

pub returns-in_default-clause-setting : goal.returns-in_default-clause-setting
returns-in_default-clause-setting g c = (keeps_served _ _ _ _ _ g.K.Clock.tells c.loop-answered._answered
    (clerk_sight g.V.LockedService.setting c.args.clerk) (clerk_sight g.V.LockedService.setting c.loop-answered.clerk)
    c.args.clock.now c.loop-answered.clock c.loop-answered.invariant.answers).same.setting

pub returns-in_default-clause-seen : goal.returns-in_default-clause-seen
returns-in_default-clause-seen g c = (keeps_served _ _ _ _ _ g.K.Clock.tells c.loop-answered._answered
    (clerk_sight g.V.LockedService.setting c.args.clerk) (clerk_sight g.V.LockedService.setting c.loop-answered.clerk)
    c.args.clock.now c.loop-answered.clock c.loop-answered.invariant.answers).seen

pub returns-clause-number : goal.returns-clause-number
returns-clause-number g c = (keeps_served _ _ _ _ _ g.K.Clock.tells c.loop-answered._answered
    (clerk_sight g.V.LockedService.setting c.args.clerk) (clerk_sight g.V.LockedService.setting c.loop-answered.clerk)
    c.args.clock.now c.loop-answered.clock c.loop-answered.invariant.answers).same.number

pub returns-clause-setting : goal.returns-clause-setting
returns-clause-setting g c = (keeps_served _ _ _ _ _ g.K.Clock.tells c.loop-answered._answered
    (clerk_sight g.V.LockedService.setting c.args.clerk) (clerk_sight g.V.LockedService.setting c.loop-answered.clerk)
    c.args.clock.now c.loop-answered.clock c.loop-answered.invariant.answers).same.setting

pub returns-clause-seen : goal.returns-clause-seen
returns-clause-seen g c = (keeps_served _ _ _ _ _ g.K.Clock.tells c.loop-answered._answered
    (clerk_sight g.V.LockedService.setting c.args.clerk) (clerk_sight g.V.LockedService.setting c.loop-answered.clerk)
    c.args.clock.now c.loop-answered.clock c.loop-answered.invariant.answers).seen

pub answer-clerk-requires-clause-made : goal.answer-clerk-requires-clause-made
answer-clerk-requires-clause-made g c =
    let kept = keeps_served _ _ _ _ _ g.K.Clock.tells c.loop-answered._answered
    (clerk_sight g.V.LockedService.setting c.args.clerk) (clerk_sight g.V.LockedService.setting c.loop-answered.clerk)
    c.args.clock.now c.loop-answered.clock c.loop-answered.invariant.answers in
    subst (λ (s : Setting). IsOfficeOf s c.args.office.now) (sym kept.same.setting) c.requires.made

pub loop-answered-preserved : goal.loop-answered-preserved
loop-answered-preserved g c =
    let gives = KeepsInTurn g.V.LockedService.setting g.V.Kept.origin g.V.Kept.history g.V.Kept.lawful
    g.V.LockedService.has_stopped in
    let first = clerk_sight g.V.LockedService.setting c.args.clerk in
    let last = clerk_sight g.V.LockedService.setting c.answer-clerk.result in
    let more = one_more gives g.K.Clock.tells c.loop-answered._answered first
    (clerk_sight g.V.LockedService.setting c.loop-answered.clerk) last c.args.clock.now c.loop-answered.clock
    c.answer-clerk.new.clock c.loop-answered.invariant.answers c.answer-clerk.ensures.answered in
    let next : suc c.loop-answered._answered ≡ c.loop-answered._answered + 1 = omega arith in
    record {
      clerk = c.answer-clerk.ensures.clerk;
      answers = subst (λ (n : ℕ). ConnectionsIn gives g.K.Clock.tells n
          first c.args.clock.now last c.answer-clerk.new.clock) next more;
    }
