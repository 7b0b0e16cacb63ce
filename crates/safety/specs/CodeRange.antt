-- Request 14: the bytes that LDC, LDCI and LDCD can load, and their range.
-- Assumes nothing.
use Rattle.std.specs.Prelude.{ℕ, zero, suc, ◌+◌, ◌-◌, ◌*◌, min, max, List, [], ◌∷◌, ◌++◌, take, drop}
use Rattle.certificate.specs.declared.Range.{Range}
use Rattle.certificate.specs.declared.CodeAccess.{CodeAccess}
use Rattle.certificate.specs.Layout.{Certificate}
use Rattle.certificate.specs.Summaries.{range}
use Rattle.safety.specs.Rules.{low, high}

-- the range that holds q and the bytes of a list: their least and their greatest
unfoldable pub widened : Range → List ℕ → Range
widened q [] = q
widened q (b ∷ bs) = widened (range (min q.least b) (max q.greatest b)) bs

-- of no byte
abbrev pub no_byte : Range
no_byte = range 255 0

-- k rows of n bytes, 256 apart, the first from address t on
unfoldable pub rows_from : List ℕ → ℕ → ℕ → ℕ → List ℕ
rows_from image zero t n = []
rows_from image (suc k) t n = take n (drop t image) ++ rows_from image k (t + 256) n

module _ (C : Certificate) (image : List ℕ) (a : ℕ) where
  -- how many values cell x may hold at a
  abbrev pub value_count : ℕ → ℕ
  value_count x = high C a x + 1 - low C a x

  -- the bytes that the claims on both halves of the pair, with the offset unwrapped, let the instruction at a reach: for each value of the high half a
  -- row, and in it a byte for each value of the low half. A half without a claim counts as 0 to 255. A direct address reaches its one byte
  abbrev pub reached_bytes : CodeAccess → List ℕ
  reached_bytes CodeAccess.Nothing = []
  reached_bytes (CodeAccess.Direct t) = rows_from image 1 t.0 1
  reached_bytes (CodeAccess.Pair p up down) =
      rows_from image (value_count p.0) (low C a p.0 * 256 + low C a (p.0 + 1) + up - down) (value_count (p.0 + 1))

  -- the least and the greatest of them, for the whole set together; where 24 holds they all lie in ROM
  unfoldable pub load_range : CodeAccess → Range
  load_range c = widened no_byte (reached_bytes c)
