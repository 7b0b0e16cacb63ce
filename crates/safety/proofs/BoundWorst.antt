-- A bound is at most its worst over the claim.
-- Assumes nothing.
use mathlib.Core.Path.{◌≡◌, refl, ap}
use Rattle.std.specs.Prelude.{Bool, ℕ, ◌+◌, ◌-◌, ◌*◌, ◌≤◌}
use Rattle.std.proofs.Common.{arith, mul-le-mul_left}
use Rattle.std.proofs.Math.Bool.{true, false}
use Rattle.std.proofs.Math.Dec.{eqb, eqb→eq}
use Rattle.base.specs.Choice.{pick}
use Rattle.base.specs.Formula.{of_true}
use Rattle.certificate.specs.Layout.{Certificate}
use Rattle.safety.specs.Rules.{bound_at, worst}
use Rattle.safety.proofs.Facts.{EntryFacts}

-- the bound is at most its worst over the claim
pub bound_worst : (C : Certificate) (t c : ℕ) → EntryFacts C t → C.first_low t ≤ c → c ≤ C.first_high t → bound_at C t c ≤ worst C t
unfolding bound_at worst
bound_worst C t c e h k = go (eqb (C.direction t) 0) refl (eqb (C.direction t) 1) (eqb (C.direction t) 2)
  where
    grows : (n : ℕ) → n ≤ C.first_high t - C.first_low t → C.slope t * n ≤ C.slope t * (C.first_high t - C.first_low t)
    grows n l = mul-le-mul_left {m = n} {n = C.first_high t - C.first_low t} (C.slope t) l

    go : (z : Bool) → eqb (C.direction t) 0 ≡ z → (b d : Bool)
        → C.base t + C.slope t * pick b (C.first_high t - c) (pick d (c - C.first_low t) 0)
        ≤ C.base t + pick z 0 (C.slope t * (C.first_high t - C.first_low t))
    go true q b d =
        let s = e.still (eqb→eq (C.direction t) 0 (of_true (eqb (C.direction t) 0) q)) in
        let n : ℕ = pick b (C.first_high t - c) (pick d (c - C.first_low t) 0) in
        let y : C.slope t * n ≡ 0 * n = ap (λ (m : ℕ). m * n) s in
        omega arith
    go false q true d = let z = grows (C.first_high t - c) (omega arith) in omega arith
    go false q false true = let z = grows (c - C.first_low t) (omega arith) in omega arith
    go false q false false = let z = grows 0 (omega arith) in omega arith
