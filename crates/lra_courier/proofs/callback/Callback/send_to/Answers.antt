use Rattle.std.proofs.Common.{List, ℕ, subst, ap, ◌∙◌}
use Rattle.std.specs.Io.KnownBytes.{Appends}
use Rattle.lra_ids.specs.Addresses.{target_of}
use Rattle.lra_wire.specs.Writing.{AppendsFront}
use Rattle.lra_courier.specs.Callbacks.{Calling, method_of}
use Rattle.lra_courier.specs.inner.Fields.{seen}
use Rattle.lra_courier.proofs.SendLemmas.{parts_are}
use Rattle.lra_courier.proofs.callback.Callback.send_to.Goals as goal

pub returns-in-Ok-write_request : goal.returns-in-Ok-write_request
returns-in-Ok-write_request g c =
    subst (λ (text : List ℕ). Appends (g.W.Write.contents c.args.writer.now)
    (g.W.Write.contents c.write_request.new.writer) text)
    (parts_are c.method_of.result.now c.target.result.now c.as_bytes.result.now c.as_slice.result.now c.args.self.now
    (c.method_of.ensures ∙ ap (λ (v : Calling). method_of v.kind) c.self.view_is)
    (c.target.ensures ∙ ap target_of c.requires)
    (ap seen c.as_slice.ensures.value ∙ c.in-Ok-fields.ensures)
    (c.as_bytes.ensures.value ∙ c.body-body.ensures))
    c.in-Ok-write_request.ensures.text

pub returns : goal.returns
returns g c =
    subst (λ (text : List ℕ). AppendsFront (g.W.Write.contents c.args.writer.now)
    (g.W.Write.contents c.write_request.new.writer) text)
    (parts_are c.method_of.result.now c.target.result.now c.as_bytes.result.now c.as_slice.result.now c.args.self.now
    (c.method_of.ensures ∙ ap (λ (v : Calling). method_of v.kind) c.self.view_is)
    (c.target.ensures ∙ ap target_of c.requires)
    (ap seen c.as_slice.ensures.value ∙ c.in-Ok-fields.ensures)
    (c.as_bytes.ensures.value ∙ c.body-body.ensures))
    c.in-Err.ensures.text.1
