-- A slice as long as the file is filled, head and chunk, and any other is left.
use Prim.Native.Nat.{◌+◌}
use mathlib.Core.Path.{◌∙◌, ap}
use native.Mathlib.Omega.{arith}
use Rattle.gsd_format.specs.Bytes.{stored}
use Rattle.gsd_format.proofs.Refusals.{not-accepted, was-accepted}
use Rattle.gsd_rawarray.proofs.Files.{size_exact, known-kind, chunk_part, file-written, gives-77, gives_none}
use Rattle.gsd_rawarray.proofs.into.write_file.Goals as goal

pub returns-then-file-size : goal.returns-then-file-size
returns-then-file-size c =
    let number = gives-77 c.args.chunk.now.entry _ _ (size_exact _ _ c.args.chunk.now.held _ c.chunk_bytes-size.ensures) c.if-file-size.true in
    record { number = number; file = not-accepted 77 _ _ _ number (λ z. omega arith) }

pub put_head-requires : goal.put_head-requires
put_head-requires c = record { inside = omega (arith, c.if-file-size.false); kind = known-kind _ _ c.args.chunk.now.held; size = size_exact _ _ c.args.chunk.now.held _ c.chunk_bytes-size.ensures }

pub returns : goal.returns
returns c =
    let exact = size_exact _ _ c.args.chunk.now.held _ c.chunk_bytes-size.ensures in
    record {
      number = gives_none c.args.chunk.now.entry _ _ exact c.if-file-size.false;
      file = was-accepted _ _ _ _ (gives_none c.args.chunk.now.entry _ _ exact c.if-file-size.false) (file-written _ _ c.args.chunk.now.held _ _ _ (c.if-file-size.false ∙ ap (λ n. 64 + n) exact) c.put_head.ensures
          (c.copy_part.ensures ∙ ap (stored _ 64) (chunk_part _ _ c.args.chunk.now.held _ exact)));
    }
