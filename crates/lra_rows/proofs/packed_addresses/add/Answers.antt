use Rattle.lra_rows.proofs.Texts.{text_is}
use Rattle.lra_rows.proofs.packed_addresses.add.Goals as goal

pub returns-in_err-push-clause-text : goal.returns-in_err-push-clause-text
returns-in_err-push-clause-text c = text_is c.args.text.now

pub returns-in_err-extend_from_slice-clause-text : goal.returns-in_err-extend_from_slice-clause-text
returns-in_err-extend_from_slice-clause-text c = text_is c.args.text.now

pub returns-in_ok-extend_from_slice-clause-text : goal.returns-in_ok-extend_from_slice-clause-text
returns-in_ok-extend_from_slice-clause-text c = text_is c.args.text.now
