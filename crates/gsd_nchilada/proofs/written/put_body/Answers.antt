-- The type says which body it is.
use Rattle.gsd_format.specs.Types.{size_of}
use Rattle.gsd_body.proofs.Bodies.{second-of}
use Rattle.gsd_nchilada.proofs.Requests.{ready-as}
use Rattle.gsd_nchilada.proofs.written.put_body.Goals as goal

pub put_body-requires : goal.put_body-requires
unfolding size_of
put_body-requires c =
    let said = ready-as _ _ _ c.requires 9 c.if-e-eq-FLOAT.true in
    record { some = said.0; columns = said.1.0; from = said.1.1.0; numbers = said.1.1.1.0; to = said.1.1.1.1 }

pub put_body-requires-2 : goal.put_body-requires-2
unfolding size_of
put_body-requires-2 c =
    let said = ready-as _ _ _ c.requires 10 (second-of _ 9 10 c.requires.typed c.if-e-eq-FLOAT.false) in
    record { some = said.0; columns = said.1.0; from = said.1.1.0; numbers = said.1.1.1.0; to = said.1.1.1.1 }
