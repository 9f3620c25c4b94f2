use Rattle.std.proofs.Common.{rules, ap, inl, inr, sym, ◌∙◌, is_some}
use Rattle.lra_rewrite.proofs.rewrite_filter.RewriteFilterHandler.respond.Goals as goal

pub returns-in-Some-clause-responds : goal.returns-in-Some-clause-responds
returns-in-Some-clause-responds g c = record {
  olders = ap (λ olders. olders.items) c.respond_translated.ensures.olders;
  is_strict = c.respond_translated.ensures.is_strict;
  speaks = ap is_some c.respond_translated.ensures.dialect;
  inner = inl (search rules, c.respond_translated.ensures.does);
}

pub returns-in-None-clause-responds : goal.returns-in-None-clause-responds
returns-in-None-clause-responds g c = record {
  olders = ap (λ olders. olders.items) c.respond_own.ensures.olders;
  is_strict = c.respond_own.ensures.is_strict;
  speaks = ap is_some c.respond_own.ensures.dialect;
  inner = inr (search rules, c.respond_own.ensures.does);
}
