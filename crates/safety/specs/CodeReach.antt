-- Request 14: the set that LDC, LDCI and LDCD reach, in the request's words.
-- Assumes nothing.
use Rattle.std.specs.Prelude.{ℕ, ◌+◌, ◌*◌, ◌≤◌, ◌<◌, ◌≡◌}
use mathlib.Core.List.{List}
use Rattle.std.proofs.Math.ListN.{get_or}
use Rattle.certificate.specs.declared.CodeAccess.{CodeAccess}
use Rattle.certificate.specs.Layout.{Certificate}
use Rattle.safety.specs.Rules.{low, high}

-- an address that LDC at a reaches from a pair: 256 × h + l + offset, h and l over the ranges of both halves
pub record PairReaches (C : Certificate) (a p up down t : ℕ) : Type 0 where
  pub upper : ℕ
  pub lower : ℕ
  pub upper_low : low C a p ≤ upper
  pub upper_high : upper ≤ high C a p
  pub lower_low : low C a (p + 1) ≤ lower
  pub lower_high : lower ≤ high C a (p + 1)
  pub is : t + down ≡ upper * 256 + lower + up

module _ (C : Certificate) (a : ℕ) where
  -- the addresses that the instruction at a reaches
  abbrev pub Reaches : CodeAccess → ℕ → Type 0
  Reaches CodeAccess.Nothing t = ⊥
  Reaches (CodeAccess.Direct d) t = t ≡ d.0
  Reaches (CodeAccess.Pair p up down) t = PairReaches C a p.0 up down t

module _ (C : Certificate) (rom a : ℕ) where
  -- every sum of values of both halves and the offset is an address of ROM, none of them negative
  abbrev pub SetInRom : ℕ → ℕ → ℕ → Type 0
  SetInRom p up down =
      (h l : ℕ) → low C a p ≤ h → h ≤ high C a p → low C a (p + 1) ≤ l → l ≤ high C a (p + 1)
      → (down ≤ h * 256 + l + up) × (h * 256 + l + up < rom + down)

module _ (C : Certificate) (image : List ℕ) (a : ℕ) where
  -- a byte that is reached
  abbrev pub ReachedByte : CodeAccess → ℕ → Type 0
  ReachedByte c v = (s : ℕ) × (Reaches C a c s × (get_or image s 0 ≡ v))
