-- `gsd_fingerprint::fingerprint` meets its contract: each part is the definition's.
use Rattle.gsd_fingerprint.specs.Fingerprint.{fingerprint}
use Rattle.gsd_fingerprint.proofs.fingerprint.Goals as goal

pub returns : goal.returns
unfolding fingerprint
returns c =
    rw (
      c.folded.ensures,
      c.mixed.ensures,
      c.ending.ensures,
      c.words.ensures,
      c.mixed-h.ensures,
      c.blocks-2.ensures,
    )
