use Rattle.std.proofs.Common.{refl, arith}
use Rattle.lra_tables.proofs.Keeping.{counted, kept_joined, kept_same}
use Rattle.lra_tables.proofs.joins.keep.Goals as goal

pub add-requires-clause-counted : goal.add-requires-clause-counted
add-requires-clause-counted c = counted c.args.index.now c.args.entry.now c.args.rows.now.snapshot c.requires.before
    c.digest-digest.result

pub returns-in-Join-clause-kept : goal.returns-in-Join-clause-kept
returns-in-Join-clause-kept c =
    kept_joined c.args.index.now c.add.new.self c.args.entry.now c.args.rows.now.snapshot c.requires.before
    c.in-Join.member c.in-Join.action c.in-Join.uris c.digest-digest.result c.in-Join.is
    c.digest-digest.ensures c.add.ensures.key c.add.ensures.listed

pub returns-in_default : goal.returns-in_default
returns-in_default c = record {
  kept = kept_same c.args.index.now c.args.entry.now c.args.rows.now.snapshot c.requires.before c.in_default.not-Join
      c.in_default.not-Leave;
  key = refl;
  room = omega arith;
}
