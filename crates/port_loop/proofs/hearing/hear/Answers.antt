-- A front more is heard behind the others, and for the reply to it there is room.
use Rattle.std.proofs.Common.{ℕ, refl, ◌+◌, ◌-◌, ◌≤◌, take, arith}
use borrow.Rule.Slice.PartMut.{put_mid}
use Rattle.memories.specs.Lent.{holds}
use Rattle.boot.specs.Promise.{state_of}
use Rattle.port_loop.specs.Port.{Hears}
use Rattle.words.proofs.Slices.{length_part}
use Rattle.uart.specs.Conversation.{uart_room}
use Rattle.keeping.proofs.Lending.{still_lent}
use Rattle.port_loop.proofs.Behind.{nothing_heard, more_heard, all_heard}
use Rattle.port_loop.proofs.hearing.hear.Goals as goal

pub loop-i-init : goal.loop-i-init
loop-i-init c = (omega arith, omega arith, nothing_heard c.args.st _ c.args.out.now, record { flash = refl; sram = refl; usd = refl })

pub overflow_add-part : goal.overflow_add-part
overflow_add-part c = omega (arith, c.loop-i.invariant.1, c.requires.bytes_len_bound)

pub slice_bounds-part-end : goal.slice_bounds-part-end
slice_bounds-part-end c =
    omega (arith, c.loop-i-test.true, c.loop-i.invariant.1, c.loop-i.auto.out, c.requires.bytes_len_bound, c.requires.out_bytes_in_bounds)

-- what is heard at once, and how long it is
abbrev size : goal.After-struct_known-in-loop-i-1 → ℕ
size c = c.until-stop.result - c.loop-i.i

few : (c : goal.After-struct_known-in-loop-i-1) → c.hear_front-heard.result.count ≤ size c
few c =
    let long = length_part c.args.bytes.now c.loop-i.i (size c) (omega (arith, c.until-stop.ensures.some, c.until-stop.ensures.within)) in
    omega (arith, long, c.hear_front-heard.ensures.within)

room : (c : goal.After-struct_known-in-loop-i-1) → c.hear_front-heard.result.length ≤ c.loop-i.end + uart_room - c.loop-i.end
room c = omega (arith, c.hear_front-heard.ensures.short)

-- the front behind what was heard before it
one_more : (c : goal.After-struct_known-in-loop-i-1) → Hears c.args.st (take (c.loop-i.i + c.hear_front-heard.result.count) c.args.bytes.now)
    (state_of c.args.session (holds c.args.lent.now)) c.args.out.now (c.loop-i.end + c.hear_front-heard.result.length)
    (put_mid c.loop-i.end (c.loop-i.end + uart_room - c.loop-i.end) c.loop-i.out c.hear_front-heard.new.out)
    (state_of c.hear_front-heard.result.session (holds c.hear_front-heard.new.lent))
one_more c =
    more_heard {st = c.args.st} {p = state_of c.args.session (holds c.args.lent.now)} {q = state_of c.loop-i.here (holds c.loop-i.lent)}
    {r = state_of c.hear_front-heard.result.session (holds c.hear_front-heard.new.lent)} {lent = c.args.out.now} {out = c.loop-i.out}
    {new = c.hear_front-heard.new.out} {end = c.loop-i.end} {count = c.hear_front-heard.result.length}
    c.args.bytes.now c.loop-i.i c.hear_front-heard.result.count (size c) (c.loop-i.end + uart_room - c.loop-i.end) (few c) (room c)
    c.loop-i.invariant.2 c.hear_front-heard.ensures.heard

pub loop-i-preserved : goal.loop-i-preserved
loop-i-preserved c = (
  omega (arith, few c, c.until-stop.ensures.some, c.until-stop.ensures.within),
  omega (arith, c.hear_front-heard.ensures.some, c.hear_front-heard.ensures.short, c.loop-i.invariant.1),
  one_more c,
  still_lent c.loop-i.invariant.3 c.hear_front-heard.ensures.same,
)

pub returns-clause-within : goal.returns-clause-within
returns-clause-within c =
    let i = c.loop-i.invariant in
    omega (arith, i.1, i.0, c.loop-i.auto.out, c.requires.bytes_len_bound, c.requires.out_bytes_in_bounds)

pub returns-clause-all : goal.returns-clause-all
returns-clause-all c = omega (arith, c.loop-i.invariant.0, c.loop-i-test.false)

pub returns-clause-heard : goal.returns-clause-heard
returns-clause-heard c =
    all_heard c.args.bytes.now c.loop-i.i (omega (arith, c.loop-i.invariant.0, c.loop-i-test.false)) c.loop-i.invariant.2

pub returns-clause-same : goal.returns-clause-same
returns-clause-same c = c.loop-i.invariant.3
