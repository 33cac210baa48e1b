-- What passes the tests is written, head and body, and a refusal writes nothing.
use mathlib.Core.Path.{sym, ◌∙◌, ap}
use native.Mathlib.Omega.{arith}
use lib.ListN.{length}
use Rattle.gsd_format.proofs.Bytes.{stored-length}
use Rattle.gsd_nchilada.specs.Request.{finite}
use Rattle.gsd_nchilada.proofs.Requests.{is-ready, ready-room, not-accepted, was-accepted}
use Rattle.gsd_nchilada.proofs.Files.{file-written}
use Rattle.gsd_nchilada.proofs.Finite.{finite_number}
use Rattle.gsd_nchilada.proofs.written.write_file.Goals as goal

pub returns-in_err-check_file-clause-file : goal.returns-in_err-check_file-clause-file
returns-in_err-check_file-clause-file c = not-accepted c.in_err-check_file.field-0.0 _ _ _ c.in_err-check_file.ensures

pub put_head-requires : goal.put_head-requires
put_head-requires c =
    let ready = is-ready _ _ _ _ c.args.chunk.now.held (sym c.in_ok-check_file.ensures) in
    record { inside = omega (arith, ready.0.long); number = finite_number _ (ap finite c.time_of-time.ensures ∙ ready.1) }

pub put_body-requires : goal.put_body-requires
put_body-requires c =
    ready-room _ _ _ _ (is-ready _ _ _ _ c.args.chunk.now.held (sym c.in_ok-check_file.ensures)).0 (ap length c.put_head.ensures ∙ stored-length _ _ _)

pub returns : goal.returns
returns c =
    let passed = is-ready _ _ _ _ c.args.chunk.now.held (sym c.in_ok-check_file.ensures) in
    record {
      number = c.in_ok-check_file.ensures;
      file = was-accepted _ _ _ _ c.in_ok-check_file.ensures
          (file-written _ _ _ _ _ _ _ c.time_of-time.ensures passed.0.long c.put_head.ensures c.put_body.ensures);
    }
