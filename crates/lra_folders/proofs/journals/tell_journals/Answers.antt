use Rattle.std.proofs.Common.{◌∙◌, refl, string_bytes, subst}
use Rattle.std.specs.Io.KnownBytes.{Appends}
use Rattle.lra_folders.proofs.journals.tell_journals.Goals as goal

pub returns : goal.returns
returns g c = λ bytes known. record {
  last = record {
    written = g.W.Write.contents c.tell_each.new.writer;
    told = string_bytes c.tell_each.new.told;
    tally =
        c.in_ok-tally.tally;
  };
  each = rw (c.new-told.ensures.bytes) at (c.in_ok-tally.ensures bytes known);
  counts = subst (Appends (g.W.Write.contents c.tell_each.new.writer) (g.W.Write.contents c.put.new.writer))
      (c.as_bytes.ensures.value ∙ c.in_ok-line.ensures) c.in_ok-put.ensures.written;
  tells = refl;
  answered = c.status_by.ensures;
}
