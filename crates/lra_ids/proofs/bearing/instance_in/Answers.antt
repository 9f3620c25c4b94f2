use Rattle.std.proofs.Common.{rules, ◌∙◌}
use Rattle.lra_ids.proofs.Bearings.{none_borne, some_borne}
use Rattle.lra_ids.proofs.bearing.instance_in.Goals as goal

pub returns-in_err-ok : goal.returns-in_err-ok
returns-in_err-ok c =
    c.from_residual.ensures
    ∙ none_borne c.try_parse_ascii.result c.args.text.now c.try_parse_ascii.ensures.ok c.try_parse_ascii.ensures.bytes
    c.in_err-ok.ensures.value

pub returns : goal.returns
returns c =
    some_borne c.try_parse_ascii.result c.in_ok-ok.field-0 c.args.text.now c.as_u64_pair-high.result.0 c.new.result
    c.try_parse_ascii.ensures.ok c.try_parse_ascii.ensures.bytes c.in_ok-ok.ensures.value
    c.as_u64_pair-high.ensures.high (search rules)
    c.new.ensures.valid c.new.ensures.value
