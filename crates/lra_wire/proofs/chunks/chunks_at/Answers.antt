use Rattle.std.proofs.Common.{◌≡◌, ℕ, ◌+◌, ◌-◌, List, length, drop, Ok, Err, sym, subst, arith}
use Rattle.std.proofs.lemmas.Result.{err_from_is_err_and}
use Rattle.lra_wire.specs.declared.chunks.Part.{Part}
use Rattle.lra_wire.specs.declared.chunks.Part.TheVariants.{Content, Last, Open}
use Rattle.lra_wire.specs.declared.fault.WireFault.TheVariants.{Cut}
use Rattle.lra_wire.specs.declared.framing.Framing.TheVariants.{Chunks}
use Rattle.lra_wire.specs.Chunks.{RefusesChunk}
use Rattle.lra_wire.specs.Response.{RefusesFramed, AwaitsBody}
use Rattle.lra_wire.specs.inner.Wanted.{IsOpenAt, LastsAt}
use Rattle.lra_wire.specs.inner.Chunked.{FindsPart, ChunksTo}
use Rattle.lra_wire.specs.inner.Parts.{IsBodyTo, LastFrom}
use Rattle.lra_wire.proofs.ChunksLemmas.{chunks_more, chunks_whole, chunks_open, chunks_cut, chunks_refused, read_again}
use Rattle.lra_wire.proofs.chunks.chunks_at.Goals as goal

pub returns-in_err-from-clause-finds : goal.returns-in_err-from-clause-finds
returns-in_err-from-clause-finds c =
    let read = c.loop-from.chunks in
    let fault = c.in_err-from.field-0.0 in
    let p = err_from_is_err_and c.from_residual.result c.from_residual.ensures.1 in
    let count : c.len.result ≡ length read.body.items = omega (arith, c.len.ensures, read.body.ok.0) in
    rw (p.1, p.2) (subst (λ (n : ℕ). LastsAt (RefusesFramed Chunks n) n c.args.bytes.now fault) c.loop-from.invariant.1
    (chunks_refused c.args.bytes.now read.start read.end read.body.items fault c.loop-from.invariant.0
    (subst (λ (n : ℕ). FindsPart read.end (65536 - n) c.args.bytes.now (Err fault)) count c.in_err-from.ensures)))

pub loop-from-preserved : goal.loop-from-preserved
loop-from-preserved c =
    let read = c.loop-from.chunks in
    let count : c.len.result ≡ length read.body.items = omega (arith, c.len.ensures, read.body.ok.0) in
    let part : FindsPart read.end (65536 - c.len.result) c.args.bytes.now
    (Ok (Content c.in-Content.from c.in-Content.to)) =
    subst (λ (p : Part). FindsPart read.end (65536 - c.len.result) c.args.bytes.now (Ok p)) c.in-Content.is
    c.in_ok-from.ensures in (
      subst (λ (bs : List ℕ). ChunksTo c.args.bytes.now read.start (c.in-Content.to + 2) bs)
          (sym c.in_ok-extend_from_slice-in-Content.ensures.items)
          (chunks_more c.args.bytes.now read.start read.end c.in-Content.from c.in-Content.to read.body.items
          c.loop-from.invariant.0
          (subst (λ (n : ℕ). FindsPart read.end (65536 - n) c.args.bytes.now
          (Ok (Content c.in-Content.from c.in-Content.to))) count part)),
      c.loop-from.invariant.1,
    )

pub returns-in-Last-clause-read : goal.returns-in-Last-clause-read
returns-in-Last-clause-read c =
    read_again c.args.bytes.now c.loop-from.chunks c.hand_out.new.self c.loop-from.invariant.0 c.hand_out.ensures.start
    c.hand_out.ensures.end c.hand_out.ensures.none

pub returns-in-Last-clause-finds : goal.returns-in-Last-clause-finds
returns-in-Last-clause-finds c =
    let read = c.loop-from.chunks in
    let part : FindsPart read.end (65536 - c.len.result) c.args.bytes.now (Ok (Last c.in-Last.end)) =
    subst (λ (p : Part). FindsPart read.end (65536 - c.len.result) c.args.bytes.now (Ok p)) c.in-Last.is
    c.in_ok-from.ensures in
    subst (λ (bs : List ℕ). IsBodyTo Chunks c.args.chunks.now.start c.args.bytes.now bs c.in-Last.end)
    (sym c.hand_out.ensures.body)
    (subst (λ (n : ℕ). IsBodyTo Chunks n c.args.bytes.now read.body.items c.in-Last.end) c.loop-from.invariant.1
    (chunks_whole c.args.bytes.now read.start read.end c.in-Last.end read.body.items c.loop-from.invariant.0 part))

pub returns-in-Open-clause-finds : goal.returns-in-Open-clause-finds
returns-in-Open-clause-finds c =
    let bytes = c.args.bytes.now in
    let read = c.loop-from.chunks in
    let count : c.len.result ≡ length read.body.items = omega (arith, c.len.ensures, read.body.ok.0) in
    let part : FindsPart read.end (65536 - c.len.result) bytes (Ok (Open c.in-Open.wanted)) =
    subst (λ (p : Part). FindsPart read.end (65536 - c.len.result) bytes (Ok p)) c.in-Open.is c.in_ok-from.ensures in
    let cut = subst (λ (n : ℕ). RefusesChunk read.end (65536 - n) (drop read.end bytes) Cut) count part.1 in
    subst (λ (n : ℕ). IsOpenAt (AwaitsBody Chunks) n bytes c.in-Open.wanted × RefusesFramed Chunks n (drop n bytes) Cut)
    c.loop-from.invariant.1 (
      chunks_open bytes read.start read.end c.in-Open.wanted read.body.items c.loop-from.invariant.0 part.0,
      chunks_cut bytes read.start read.end read.body.items c.loop-from.invariant.0 cut,
    )

pub returns-in-Last-clause-last : goal.returns-in-Last-clause-last
returns-in-Last-clause-last c =
    let read = c.loop-from.chunks in
    let part : FindsPart read.end (65536 - c.len.result) c.args.bytes.now (Ok (Last c.in-Last.end)) =
    subst (λ (p : Part). FindsPart read.end (65536 - c.len.result) c.args.bytes.now (Ok p)) c.in-Last.is
    c.in_ok-from.ensures in
    let here : LastFrom read.start read.end c.args.bytes.now read.body.items c.in-Last.end = record {
      ordered = part.0;
      within = part.1;
      so_far = c.loop-from.invariant.0;
      there = part.3;
    } in
    let start = c.args.chunks.now.start in
    subst (λ (bs : List ℕ). LastFrom start c.hand_out.new.self.last c.args.bytes.now bs c.in-Last.end)
    (sym c.hand_out.ensures.body)
    (subst (λ (n : ℕ). LastFrom start n c.args.bytes.now read.body.items c.in-Last.end)
    (sym c.hand_out.ensures.last)
    (subst (λ (n : ℕ). LastFrom n read.end c.args.bytes.now read.body.items c.in-Last.end) c.loop-from.invariant.1
    here))
