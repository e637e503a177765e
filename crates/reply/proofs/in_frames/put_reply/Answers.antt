-- No byte gives no frame; else the first is written by itself, and the rest behind it.
use native.Mathlib.Omega.{arith}
use mathlib.Core.Path.{sym}
use lib.ListN.{length}
use Rattle.words.proofs.Tests.{past}
use lib.Seq.{length-take-le}
use Rattle.words.proofs.Slices.{to_the_end}
use Rattle.frames.specs.Frames.{classic}
use Rattle.reply.proofs.Alone.{none_alone, first_fits, length-alone, alone_said}
use Rattle.reply.proofs.in_frames.put_reply.Goals as goal

pub returns-then-bytes-eq0 : goal.returns-then-bytes-eq0
returns-then-bytes-eq0 c =
    none_alone classic c.args.id c.args.piece c.args.bytes.now c.args.buffer.now c.if-bytes-eq0.true

pub slice_bounds-put_frame-end : goal.slice_bounds-put_frame-end
slice_bounds-put_frame-end c =
    let l = c.args.bytes.now in
    let p = past 0 (length l) (omega arith) c.if-bytes-eq0.false in
    sym (length-take-le 1 l p)

pub put_frame-requires : goal.put_frame-requires
put_frame-requires c =
    let l = c.args.bytes.now in
    let p = past 0 (length l) (omega arith) c.if-bytes-eq0.false in
    let a = length-alone classic c.args.id c.args.piece l p (omega arith) in
    (first_fits classic c.args.id c.args.piece l p (omega arith), omega arith, omega (arith, a, c.requires.2))

pub put_frames-requires : goal.put_frames-requires
put_frames-requires c =
    let l = c.args.bytes.now in
    let p = past 0 (length l) (omega arith) c.if-bytes-eq0.false in
    let a = length-alone classic c.args.id c.args.piece l p (omega arith) in
    let e = to_the_end 1 l in
    (c.requires.0, c.requires.1, omega arith, rw e (omega (arith, a, c.requires.2, c.put_frame.auto.buffer)))

pub returns : goal.returns
returns c =
    let l = c.args.bytes.now in
    let p = past 0 (length l) (omega arith) c.if-bytes-eq0.false in
    let a = length-alone classic c.args.id c.args.piece l p (omega arith) in
    let e = to_the_end 1 l in
    alone_said classic c.args.id c.args.piece l p (omega arith) c.args.buffer.now
    c.put_frames.new.buffer c.put_frames.result c.requires.2
    (rw e at c.put_frames.ensures.0) (rw (e, c.put_frame.ensures) at
    c.put_frames.ensures.1)
