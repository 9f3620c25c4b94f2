use Rattle.std.proofs.Common.{sym}
use Rattle.lra_model.specs.declared.version.Version.TheVariants as version
use Rattle.std.specs.Prelude.{true}
use Rattle.lra_laws.proofs.Legal.{legal_empty}
use Rattle.lra_rows.proofs.SnapshotCounts.{snapshot_empty}
use Rattle.lra_rows.proofs.rows.Rows.empty.Goals as goal

pub returns : goal.returns
returns c =
    rw (c.new.ensures.items, c.new-2.ensures.items, c.new-3.ensures.items, c.new-4.ensures.items, c.new-5.ensures)
    (record {
      version = version.One;
      is_address = λ text. true;
      legal = legal_empty version.One (λ text. true);
      snapshot =
          sym snapshot_empty;
    })
