-- Parts of a list of bytes hold bytes, and so do the parts of a certificate.
-- Assumes nothing.
use Rattle.std.specs.Prelude.{ℕ, zero, suc, ◌+◌, ◌*◌, List, [], ◌∷◌, ltb, take, drop}
use Rattle.std.proofs.Common.{arith, get_or-drop}
use Rattle.base.specs.Cells.{Bytes}
use Rattle.base.specs.ChoiceLaws.{pick_has}
use Rattle.certificate.specs.Layout.{part}

pub take_bytes : (n : ℕ) (l : List ℕ) → Bytes l → Bytes (take n l)
take_bytes zero l h i = omega arith
take_bytes (suc n) [] h i = omega arith
take_bytes (suc n) (x ∷ l) h zero = h zero
take_bytes (suc n) (x ∷ l) h (suc i) = take_bytes n l (λ j. h (suc j)) i

pub drop_bytes : (n : ℕ) (l : List ℕ) → Bytes l → Bytes (drop n l)
drop_bytes n l h i = rw (get_or-drop n l i 0) (h (n + i))

pub part_bytes : (b : List ℕ) → Bytes b → (i w m k : ℕ) → Bytes (part b i w m k)
unfolding part
part_bytes b h i w m k =
    pick_has Bytes (ltb k m) _ _ (λ _. take_bytes w _ (drop_bytes (w * k) _ (drop_bytes i b h))) (λ _ j. omega arith)
