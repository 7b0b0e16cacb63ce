-- `count`: a word's marks are its set digits, of which 64 bits have at most 64.
-- Assumes nothing.
use Rattle.std.proofs.Common.{◌+◌, ◌*◌, ◌≡◌, ◌∙◌, ap, arith}
use Rattle.std.specs.Prelude.{ℕ, slice_index}
use Rattle.std.specs.Int.Count.{ones}
use Rattle.std.proofs.lemmas.Nat.{ones-le}
use Rattle.coverage.specs.Map.{map_words, marked, marked_count}
use Rattle.coverage.specs.BitLaws.{count_le}
use Rattle.coverage.specs.MapLaws.{word_counted}
use Rattle.coverage.proofs.count.Goals as goal

pub overflow_add-n : goal.overflow_add-n
overflow_add-n c = record {
  fits = omega (
    arith,
    ones-le 64 _ (c.type_inv.words c.loop-i.i).fits,
    count_le (marked c.args.map.now) (64 * c.loop-i.i) 0,
  );
}

pub loop-i-preserved : goal.loop-i-preserved
loop-i-preserved c =
    ap (λ (k : ℕ). k + ones (slice_index c.args.map.now c.loop-i.i)) c.loop-i.invariant
    ∙ word_counted c.args.map.now c.loop-i.i (λ w. (c.type_inv.words w).fits)

pub returns : goal.returns
unfolding marked_count
returns c =
    let e : c.loop-i.i ≡ map_words = omega arith in
    rw e at c.loop-i.invariant
