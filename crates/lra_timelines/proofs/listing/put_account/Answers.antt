use Rattle.std.proofs.Common.{refl, inl, inr}
use Rattle.std.proofs.lemmas.Result.{IfOk-weaker}
use Rattle.lra_timelines.proofs.Listed.{heard_registers}
use Rattle.lra_timelines.proofs.listing.put_account.Goals as goal

pub returns-in-Some-clause-ok : goal.returns-in-Some-clause-ok
returns-in-Some-clause-ok g c = λ b said. IfOk-weaker c.put_fault.result _ _ (λ status told. inr told)
    (c.put_fault.ensures.written b (rw c.in-Some.is at said.some))

pub returns-in_ok-put_listing-in-Sound-clause-ok : goal.returns-in_ok-put_listing-in-Sound-clause-ok
returns-in_ok-put_listing-in-Sound-clause-ok g c = λ b said.
    let (v, i, J, sound, same) = rw c.in-Sound.is at said.listed in
    let (w, j, K, heard, hears) = rw c.in_default.is at said.none in
    inl (
      v,
      i,
      J,
      record {
        sound = sound;
        written = c.in_ok-put_listing-in-Sound.ensures.written i J same
            (heard_registers c.args.start_times.now v w i j J K b sound heard hears);
        answered = refl;
      },
    )

pub returns-in-Unsound-clause-ok : goal.returns-in-Unsound-clause-ok
returns-in-Unsound-clause-ok g c = λ b said. IfOk-weaker c.put_fault-in-Unsound.result _ _ (λ status told. inr told)
    (c.put_fault-in-Unsound.ensures.written b (rw c.in-Unsound.is at said.listed))
