-- `gsd_append::state::State::turn` meets its contract.
use borrow.Author.Rules.{rules}
use mathlib.Core.Path.{sym, ◌∙◌}
use Rattle.gsd_states.proofs.States.{fits-ready}
use Rattle.gsd_append.proofs.Turns.{turn-refused, turn-carried}
use Rattle.gsd_append.proofs.state.State.turn.Goals as goal

pub returns-then-not-fits : goal.returns-then-not-fits
returns-then-not-fits c =
    let x = c.args in
    let refused = turn-refused x.self x.image.now x.sheet.now x.limit (sym c.fits.ensures ∙ c.if-not-fits.true) in
    record { answer = sym refused.0; image = sym refused.1 }

pub carry_on-made-requires : goal.carry_on-made-requires
carry_on-made-requires c =
    let x = c.args in
    let fit = sym c.fits.ensures ∙ c.if-not-fits.false in
    let ready = fits-ready x.self.words x.image.now x.sheet.now (search rules) fit in
    record { header = ready.0; ready = ready.1 }

pub returns : goal.returns
returns c =
    let x = c.args in
    let fit = sym c.fits.ensures ∙ c.if-not-fits.false in
    let said = turn-carried x.self x.image.now x.sheet.now x.limit _ _ _ fit c.carry_on-made.ensures.made c.carry_on-made.ensures.image c.carry_on-made.ensures.words in
    record { answer = said.0; image = said.1 }
