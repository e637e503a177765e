-- A line of bytes or of a frame is told behind the character that says its kind; power on tells nothing, and another line makes no call.
use native.Mathlib.Omega.{arith}
use mathlib.Core.Path.{refl, sym, ◌∙◌}
use lib.ListN.{length-drop}
use Rattle.words.proofs.Slices.{to_the_end}
use Rattle.memories.specs.Lent.{holds}
use Rattle.boot.specs.Calls.{powered}
use Rattle.boot.specs.Promise.{state_of}
use Rattle.desk_lines.proofs.Lines.{bytes_line, frame_line}
use Rattle.desk_answers.specs.Answers.{makes}
use Rattle.desk_answers.proofs.Telling.{nothing_told, power_told, power_noted}
use Rattle.desk_answers_code.proofs.tell_line.Goals as goal

pub slice_bounds-tell_bytes-count : goal.slice_bounds-tell_bytes-count
slice_bounds-tell_bytes-count c =
    let b = bytes_line c.args.line.now (sym c.requires.kind_value.0 ∙ c.in-Bytes.is) in
    omega (arith, b.0)

pub slice_bounds-tell_bytes-start : goal.slice_bounds-tell_bytes-start
slice_bounds-tell_bytes-start c =
    let b = bytes_line c.args.line.now (sym c.requires.kind_value.0 ∙ c.in-Bytes.is) in
    omega (arith, b.0)

pub tell_bytes-requires : goal.tell_bytes-requires
tell_bytes-requires c =
    let l = c.args.line.now in
    let b = bytes_line l (sym c.requires.kind_value.0 ∙ c.in-Bytes.is) in
    record {
      t = rw (to_the_end 1 l) (b.1, simp length-drop (omega (arith, c.requires.kind_value.1)));
      rest_in_bounds = rw (to_the_end 1 l) (simp length-drop (omega arith));
      rest_in_bounds_2 = rw (to_the_end 1 l) (simp length-drop (omega arith));
    }

pub slice_bounds-tell_frame-count : goal.slice_bounds-tell_frame-count
slice_bounds-tell_frame-count c =
    let b = frame_line c.args.line.now (sym c.requires.kind_value.0 ∙ c.in-Frame.is) in
    omega (arith, b.0)

pub slice_bounds-tell_frame-start : goal.slice_bounds-tell_frame-start
slice_bounds-tell_frame-start c =
    let b = frame_line c.args.line.now (sym c.requires.kind_value.0 ∙ c.in-Frame.is) in
    omega (arith, b.0)

pub tell_frame-requires : goal.tell_frame-requires
tell_frame-requires c =
    let l = c.args.line.now in
    let b = frame_line l (sym c.requires.kind_value.0 ∙ c.in-Frame.is) in
    record {
      t = rw (to_the_end 1 l) b.1;
      rest_in_bounds = rw (to_the_end 1 l) (simp length-drop (omega arith));
      rest_in_bounds_2 = rw (to_the_end 1 l) (simp length-drop (omega arith));
    }

pub returns-in-Bytes : goal.returns-in-Bytes
returns-in-Bytes c =
    let l = c.args.line.now in
    let e = c.tell_bytes.ensures in
    let f = rw (to_the_end 1 l, length-drop 1 l) at e.fits in
    record {
      told = rw c.in-Bytes.is (rw (to_the_end 1 l) at e.told);
      noted = rw c.in-Bytes.is (rw (to_the_end 1 l) at e.noted);
      fits = (omega (arith, f.0), omega (arith, f.1));
      same = e.same;
    }

pub returns-in-Frame : goal.returns-in-Frame
returns-in-Frame c =
    let l = c.args.line.now in
    let e = c.tell_frame.ensures in
    let f = rw (to_the_end 1 l, length-drop 1 l) at e.fits in
    record {
      told = rw c.in-Frame.is (rw (to_the_end 1 l) at e.told);
      noted = rw c.in-Frame.is (rw (to_the_end 1 l) at e.noted);
      fits = (omega (arith, f.0), omega (arith, f.1));
      same = e.same;
    }

pub returns-in-PowerOn : goal.returns-in-PowerOn
returns-in-PowerOn c =
    let m = holds c.args.lent.now in
    let p = state_of c.args.begun.session m in
    record {
      told = rw (c.in-PowerOn.is, power_told p, c.power_on.ensures.session) (nothing_told (powered m) c.args.begun.end c.args.out.now);
      noted = rw (c.in-PowerOn.is, power_noted p, c.power_on.ensures.session) (nothing_told (powered m) c.args.begun.noted c.args.notes.now);
      fits = (omega arith, omega arith);
      same = record { flash = refl; sram = refl; usd = refl };
    }

pub returns-in-Other : goal.returns-in-Other
unfolding makes
returns-in-Other c =
    let p = state_of c.args.begun.session (holds c.args.lent.now) in
    record {
      told = rw c.in-Other.is (nothing_told p c.args.begun.end c.args.out.now);
      noted = rw c.in-Other.is (nothing_told p c.args.begun.noted c.args.notes.now);
      fits = (omega arith, omega arith);
      same = record { flash = refl; sram = refl; usd = refl };
    }
