use Rattle.lra_overview.proofs.page_parts.begin.Goals as goal

pub returns : goal.returns
returns c = rw (← c.as_str.ensures) c.put_all.ensures
