-- `read_line`: the answer is that of `decide`; a line that is read fits into the buffer, and its pairs were kept.
-- Assumes nothing.
use Rattle.std.proofs.Common.{sym, ◌∙◌}
use Rattle.hex_line.specs.Line.{buffer_by}
use Rattle.hex_line.proofs.LineLaws.{read_within}
use Rattle.hex_line.proofs.ParseLaws.{kept_fits, kept_stored}
use Rattle.hex_line.proofs.read_line.Goals as goal

pub returns-in_err-next-clause-buffer_after : goal.returns-in_err-next-clause-buffer_after
unfolding buffer_by
returns-in_err-next-clause-buffer_after c = rw (sym c.in_err-next.ensures.result_value)

pub store-requires : goal.store-requires
store-requires c =
    let within = read_within _ _ _ _ (sym c.in_ok-next.ensures.result_value) in
    kept_fits _ c.decide.new.pairs c.in_ok-next.ensures.kept_unless _ within

pub returns-clause-buffer_after : goal.returns-clause-buffer_after
unfolding buffer_by
returns-clause-buffer_after c =
    rw (sym c.in_ok-next.ensures.result_value)
    (c.store.ensures ∙ kept_stored _ c.decide.new.pairs c.in_ok-next.ensures.kept_unless _ c.decide.array_long)
