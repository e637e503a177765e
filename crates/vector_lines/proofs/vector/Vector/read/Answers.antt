-- The characters that were read are the line.
use native.Mathlib.Omega.{arith}
use mathlib.Core.Path.{◌≡◌, refl, ◌∙◌}
use Prim.Native.Nat.{ℕ}
use lib.Dec.{T}
use lib.ListN.{length, drop, length-drop, replicate, length-replicate}
use lib.Seq.{length-take-le}
use Rattle.std.proofs.Common.{rules}
use Rattle.std.specs.Io.KnownBytes.{Consumes}
use Rattle.words.specs.Lists.{part}
use Rattle.words.proofs.Over.{put_all}
use Rattle.desk_lines.specs.Lines.{are_fields, fields}
use Rattle.desk_lines.proofs.Lines.{length_fields}
use Rattle.vector_lines.proofs.vector.Vector.read.Goals as goal

pub returns : goal.returns
returns g c =
    let line = c.read_exact.new.buf in
    let written = part 1 249 line in
    let taken : Consumes (g.F.Read.remaining c.args.from.now) (g.F.Read.remaining c.read_exact.new.self) line = search rules in
    let long : length line ≡ 251 = c.read_exact.auto.buf in
    let good : T (are_fields written) = search rules in
    let all : length written ≡ 249 = length-take-le 249 (drop 1 line) (omega (arith, long, length-drop 1 line)) in
    let bytes : length (fields written) ≡ length (replicate {A = ℕ} 83 0) =
    omega (arith, all, length_fields written good, length-replicate {A = ℕ} 83 0) in
    (line, taken, long, refl, good, c.bytes.ensures.1 ∙ put_all (replicate 83 0) (fields written) bytes)
