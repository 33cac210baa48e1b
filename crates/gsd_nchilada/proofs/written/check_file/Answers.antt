-- Each way out is the first test that applies.
use mathlib.Core.Path.{◌≡◌, sym, ◌∙◌}
use mathlib.Core.Bool.{true}
use Rattle.gsd_format.proofs.Refusals.{both_true}
use Rattle.gsd_body.specs.Body.{one_or_three}
use Rattle.gsd_nchilada.specs.Request.{floating}
use Rattle.gsd_nchilada.proofs.Requests.{few-rows, gives-60, gives-61, gives-62, gives-63, gives-64, gives-0}
use Rattle.gsd_nchilada.proofs.Finite.{both-finite}
use Rattle.gsd_nchilada.proofs.written.check_file.Goals as goal

pub returns-then-not-writable : goal.returns-then-not-writable
returns-then-not-writable c = gives-60 _ _ _ _ (sym c.is_writable-writable.ensures ∙ c.if-not-writable.true)

pub returns-then-rows-eq0 : goal.returns-then-rows-eq0
returns-then-rows-eq0 c = gives-61 _ _ _ _ (sym c.is_writable-writable.ensures ∙ c.if-not-writable.false) c.if-rows-eq0.true

pub has_nan-nan-requires : goal.has_nan-nan-requires
has_nan-nan-requires c = (both_true _ _ (sym c.is_writable-writable.ensures ∙ c.if-not-writable.false)).0

pub returns-then-nan : goal.returns-then-nan
returns-then-nan c = gives-62 _ _ _ _ (sym c.is_writable-writable.ensures ∙ c.if-not-writable.false) c.if-rows-eq0.false (sym c.has_nan-nan.ensures ∙ c.if-nan.true)

pub returns-then-not-finite : goal.returns-then-not-finite
returns-then-not-finite c =
    gives-63 _ _ _ _ (sym c.is_writable-writable.ensures ∙ c.if-not-writable.false) c.if-rows-eq0.false (sym c.has_nan-nan.ensures ∙ c.if-nan.false)
    (both-finite _ _ _ _ _ _ c.is_finite.ensures c.is_finite-2.ensures c.requires (c.if-not-finite.true))

pub file_length-requires : goal.file_length-requires
file_length-requires c =
    let writable = sym c.is_writable-writable.ensures ∙ c.if-not-writable.false in
    let columns : one_or_three c.args.chunk.now.entry.m ≡ true = (both_true (floating c.args.chunk.now.entry.kind) _ writable).1 in
    record { rows = few-rows _ _ c.args.chunk.now.held columns; columns = columns }

pub returns-then-room-file_length : goal.returns-then-room-file_length
returns-then-room-file_length c =
    gives-64 _ _ _ _ (sym c.is_writable-writable.ensures ∙ c.if-not-writable.false) c.if-rows-eq0.false (sym c.has_nan-nan.ensures ∙ c.if-nan.false)
    (both-finite _ _ _ _ _ _ c.is_finite.ensures c.is_finite-2.ensures c.requires (c.if-not-finite.false))
    (λ e. c.if-room-file_length.true (e ∙ sym c.file_length.ensures))

pub returns : goal.returns
returns c =
    gives-0 _ _ _ _ (sym c.is_writable-writable.ensures ∙ c.if-not-writable.false) c.if-rows-eq0.false (sym c.has_nan-nan.ensures ∙ c.if-nan.false)
    (both-finite _ _ _ _ _ _ c.is_finite.ensures c.is_finite-2.ensures c.requires (c.if-not-finite.false))
    (c.if-room-file_length.false ∙ c.file_length.ensures)
