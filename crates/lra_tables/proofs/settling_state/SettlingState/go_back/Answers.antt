use Rattle.std.proofs.Common.{◌≡◌, ◌-◌, ◌<◌, ◌∙◌, Some, length, suc, refl, sym, ap, subst, arith, slice_get, take}
use Rattle.std.proofs.lemmas.Option.{slice_get_read}
use Rattle.lra_model.specs.declared.entry.Entry.{Entry}
use Rattle.lra_rows.specs.Rowed.{addresses_joined}
use Rattle.lra_rows.specs.Steps.{addresses_back}
use Rattle.lra_tables.specs.inner.Boarded.{Boarded}
use Rattle.lra_tables.specs.inner.UndoLog.{carried_all}
use Rattle.lra_tables.proofs.Trails.{last_came, last_back, last_given}
use Rattle.lra_tables.proofs.settling_state.SettlingState.go_back.Goals as goal

pub undo-uris-requires : goal.undo-uris-requires
undo-uris-requires c =
    let entries = c.args.undo_log.now.entries.items in
    let steps = c.args.undo_log.now.steps.items in
    let h = c.requires.undo_log in
    let size : c.args.undo_log.now.steps.len ≡ length steps = c.args.undo_log.now.steps.ok.0 in
    let inside : c.loop-place.place - 1 < length steps = omega arith in
    let here = slice_get_read entries (length entries) (c.loop-place.place - 1) c.index.result.now refl
    (let n = h.many in omega arith) c.index.ensures in
    let step = slice_get_read steps (length steps) (c.loop-place.place - 1) c.index-in-loop-place.result.now refl inside
    c.index-in-loop-place.ensures in
    last_came c.requires.from entries steps c.args.self.now c.loop-place.self c.index.result.now
    c.index-in-loop-place.result.now (c.loop-place.place - 1) c.loop-place.place h (omega arith) here step
    (c.loop-place.invariant.back c.requires.from h)

pub loop-place-preserved : goal.loop-place-preserved
loop-place-preserved c =
    let entries = c.args.undo_log.now.entries.items in
    let steps = c.args.undo_log.now.steps.items in
    let size : c.args.undo_log.now.steps.len ≡ length steps = c.args.undo_log.now.steps.ok.0 in
    let inside : c.loop-place.place - 1 < length steps = omega arith in
    let here = slice_get_read entries (length entries) (c.loop-place.place - 1) c.index.result.now refl
    (let n = c.requires.undo_log.many in omega arith) c.index.ensures in
    let step = slice_get_read steps (length steps) (c.loop-place.place - 1) c.index-in-loop-place.result.now refl inside
    c.index-in-loop-place.ensures in
    record {
      back = λ b h.
          c.undo-uris.ensures.back
          ∙ last_back b entries steps c.args.self.now c.loop-place.self c.index.result.now
          c.index-in-loop-place.result.now (c.loop-place.place - 1) c.loop-place.place h (omega arith) here step
          (c.loop-place.invariant.back b h);
      uris = λ e g.
          c.undo-uris.ensures.uris
          ∙ last_given c.requires.from entries steps c.args.self.now c.loop-place.self c.index.result.now
          c.index-in-loop-place.result.now (c.loop-place.place - 1) c.loop-place.place c.requires.undo_log
          (omega arith) here step (c.loop-place.invariant.back c.requires.from c.requires.undo_log)
          ∙ same_joined c.index.result.now e (sym here ∙ g);
    }
  where
    same_joined : (x e : Entry) → Some x ≡ Some e → addresses_joined x.deed ≡ addresses_joined e.deed
    same_joined x e h = let k : x ≡ e = cc in ap (λ (y : Entry). addresses_joined y.deed) k
