use Rattle.std.proofs.Common.{refl}
use Rattle.serde_json.specs.View.{view}
use Rattle.lra_rewrite.proofs.Objects.{put_is, fits}
use Rattle.lra_rewrite.proofs.requests.put_under.Goals as goal

pub returns-in_ok-insert-in-Object-clause-put : goal.returns-in_ok-insert-in-Object-clause-put
returns-in_ok-insert-in-Object-clause-put c =
    put_is (view c.args.value) c.args.value c.in-Object.members _ c.in_ok-from_str-in-Object.field-0 c.args.member
    c.args.key.now refl c.in-Object.is c.in_ok-from_str-in-Object.ensures.ok c.in_ok-insert-in-Object.ensures.entries

pub returns-in_ok-insert-in-Object-clause-nests : goal.returns-in_ok-insert-in-Object-clause-nests
returns-in_ok-insert-in-Object-clause-nests c =
    fits (view c.args.value) c.args.value c.in-Object.members _ c.in_ok-from_str-in-Object.field-0 c.args.member
    c.args.key.now refl c.in-Object.is c.in_ok-from_str-in-Object.ensures.ok c.in_ok-insert-in-Object.ensures.entries
    c.requires.nests c.requires.flat
