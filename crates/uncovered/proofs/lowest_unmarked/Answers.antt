-- `lowest_unmarked`: every start in the words passed is marked; the first word with a clear bit has the lowest unmarked start.
use Rattle.std.proofs.Common.{◌∙◌, sym, arith}
use Rattle.uncovered.specs.LowestLaws.{at_lowest, marked_all, refused_length, start_in_rom}
use Rattle.uncovered.proofs.Words.{lowest_bit}
use Rattle.uncovered.proofs.lowest_unmarked.Goals as goal

pub returns-then-not-is_certificate_length : goal.returns-then-not-is_certificate_length
returns-then-not-is_certificate_length c =
    sym (refused_length _ _ (sym c.is_certificate_length.ensures ∙ c.if-not-is_certificate_length.true))

pub returns-then-bit-lt-WORD_BITS : goal.returns-then-bit-lt-WORD_BITS
returns-then-bit-lt-WORD_BITS c =
    let l = c.loop-word in
    let read = lowest_bit _ _ _ _ c.others.ensures l.invariant.1 (c.fits-map l.word) (omega (arith, c.others.type_inv)) in
    rw c.address.ensures (sym (at_lowest _ _ _ l.invariant.0 (read.here c.if-bit-lt-WORD_BITS.true)))

pub loop-word-preserved : goal.loop-word-preserved
loop-word-preserved c =
    let l = c.loop-word in
    let read = lowest_bit _ _ _ _ c.others.ensures l.invariant.1 (c.fits-map l.word) (omega (arith, c.others.type_inv)) in
    (l.invariant.0, λ b k. read.below b (omega (arith, read.most, c.if-bit-lt-WORD_BITS.false)))

pub returns : goal.returns
returns c =
    let l = c.loop-word in
    sym (marked_all _ _ l.invariant.0 (λ a s. l.invariant.1 a (omega (arith, start_in_rom _ a s)) s))
