use Rattle.std.proofs.Common.{◌≡◌, ◌∙◌}
use Rattle.lra_model.specs.Members.{action_of, addresses_of}
use Rattle.lra_tables.specs.inner.Digests.{digest_of}
use Rattle.lra_tables.proofs.Keeping.{now, stands_now, counted, kept_left, leaves_there, row_action, row_addresses}
use Rattle.lra_tables.proofs.Keeping.{not_missing}
use Rattle.lra_tables.proofs.joins.forget.Goals as goal

pub returns-in-None-clause-kept : goal.returns-in-None-clause-kept
returns-in-None-clause-kept c =
    let before = c.requires.1 in
    let there = leaves_there c.args.index.now c.requires.0 c.args.rows.now.snapshot before c.args.member c.requires.2 in
    absurd (not_missing _ _ there (c.in-None.ensures (now c.args.index.now c.requires.0 c.args.rows.now.snapshot before)
    (stands_now c.args.index.now c.requires.0 c.args.rows.now.snapshot before)))

pub remove-requires : goal.remove-requires
remove-requires c = counted c.args.index.now c.requires.0 c.args.rows.now.snapshot c.requires.1
    c.digest_of_kept-digest.result

pub returns-clause-kept : goal.returns-clause-kept
returns-clause-kept c =
    let history = now c.args.index.now c.requires.0 c.args.rows.now.snapshot c.requires.1 in
    let stands = stands_now c.args.index.now c.requires.0 c.args.rows.now.snapshot c.requires.1 in
    let action : c.in-Some.row.action ≡ action_of history c.args.member =
    row_action history c.args.member c.in-Some.row (c.in-Some.ensures history stands) in
    let addresses : c.in-Some-addresses.addresses.now ≡ addresses_of history c.args.member =
    row_addresses history c.args.member c.in-Some-addresses.addresses.now
    (c.in-Some-addresses.ensures history stands) in
    kept_left c.args.index.now c.remove.new.self c.requires.0 c.args.rows.now.snapshot c.requires.1 c.args.member
    c.digest_of_kept-digest.result c.requires.2
    (c.digest_of_kept-digest.ensures ∙ (λ k. digest_of c.args.index.now.key (action k) (addresses k)))
    c.remove.ensures.key c.remove.ensures.listed
