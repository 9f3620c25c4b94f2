use Rattle.std.proofs.Common.{ap, ◌∙◌, string_bytes}
use Rattle.serde_json.specs.View.{view}
use Rattle.lra_wire.specs.Request.{Request, request_of}
use Rattle.lra_rewrite.proofs.Objects.{written_is}
use Rattle.lra_rewrite.proofs.Others.{made_is, parts}
use Rattle.lra_rewrite.proofs.requests.meant_of.Goals as goal

pub returns-clause-ok : goal.returns-clause-ok
returns-clause-ok c =
    parts c.args.own.now (request_of c.in_ok-request.request) (string_bytes c.in_ok-text.text) (view c.args.value)
    (c.in_ok-request.ensures ∙ ap (λ (r : Request). record r { body = string_bytes c.in_ok-text.text })
    c.request.ensures)
    (written_is c.in_ok-text.text (view c.args.value) c.requires.nests c.in_ok-text.ensures.reads_back)

pub returns-clause-made : goal.returns-clause-made
returns-clause-made c =
    made_is c.args.own.now _ (string_bytes c.in_ok-text.text) c.requires.reads
    (c.in_ok-request.ensures ∙ ap (λ (r : Request). record r { body = string_bytes c.in_ok-text.text })
    c.request.ensures)
    (written_is c.in_ok-text.text (view c.args.value) c.requires.nests c.in_ok-text.ensures.reads_back)
