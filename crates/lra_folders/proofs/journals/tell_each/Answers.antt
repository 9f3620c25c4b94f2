use Rattle.std.proofs.Common.{arith, sym}
use Rattle.lra_folders.proofs.Each.{each_before, front_told}
use Rattle.lra_folders.proofs.journals.tell_each.Goals as goal

pub loop-rest-preserved : goal.loop-rest-preserved
loop-rest-preserved g c = (
  λ bytes known last rest.
      let told = front_told c.args.deed bytes c.args.folder.now c.loop-rest.rest.now c.split_at.result.0.now
      c.split_at-in-loop-rest.result.0.now c.min.result c.in_ok-journals.journals.len c.len.result
      c.in_ok-journals.journals.items
      c.split_at.ensures.front c.split_at-in-loop-rest.ensures.front c.len.ensures
      (let most = c.in_ok-journals.ensures.most in let front = c.split_at.ensures.front_len in
      omega (arith, most, front)) (c.in_ok-journals.ensures.each bytes known) in
      c.loop-rest.invariant.0 bytes known last
      (each_before c.args.deed bytes c.args.folder.now c.len.result c.loop-rest.rest.now
      c.split_at-in-loop-rest.result.0.now c.split_at-in-loop-rest.result.1.now _ _ last
      c.split_at-in-loop-rest.ensures.front c.split_at-in-loop-rest.ensures.back
      (c.in_ok-write_each.ensures.each c.args.deed bytes (rw (sym c.deref.ensures.value) at told)) rest),
  c.loop-rest.invariant.1,
  (let more = c.in_ok-write_each.ensures.more in let before = c.loop-rest.invariant.2 in
      let front = c.split_at-in-loop-rest.ensures.front_len in let back = c.split_at-in-loop-rest.ensures.back_len in
      omega (arith, more, before, front, back)),
)
