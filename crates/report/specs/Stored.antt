-- Texts that are stored one behind another.
-- Assumes nothing.
use Rattle.std.specs.Prelude.{ℕ, suc, ◌+◌, ◌≤◌, ◌<◌, ◌≡◌, refl, List, [], ◌∷◌, ◌++◌, length, get_or, take, drop, set}
use Rattle.std.proofs.Common.{◌∙◌, add-one, arith, length-append, take-suc}
use Rattle.std.proofs.lemmas.List.Edits.{sets, sets-eq}
use Rattle.std.proofs.Math.Seq.{length-sets}

-- a text is stored from a position on; next is the position behind it
pub record Stored (text : List ℕ) (at next : ℕ) (before after : List ℕ) : Type 0 where
  pub position : next ≡ at + length text
  pub contents : after ≡ sets before at text

sets_append : (l a b : List ℕ) (i j : ℕ) → j ≡ i + length a → sets (sets l i a) j b ≡ sets l i (a ++ b)
sets_append l [] b i j e = let z : j ≡ i = omega arith in rw z
sets_append l (x ∷ a) b i j e = sets_append (set l i x) a b (suc i) j (omega arith)

-- nothing
pub stored_none : {at : ℕ} {m : List ℕ} → Stored [] at at m m
stored_none = record { position = omega arith; contents = refl }

-- one text, and another behind it
pub stored_more : {a b : List ℕ} {at i next : ℕ} {m m₁ m₂ : List ℕ} → Stored a at i m m₁ → Stored b i next m₁ m₂
    → Stored (a ++ b) at next m m₂
stored_more {a} {b} {at} {i} {next} {m} {m₁} {m₂} p q = record {
  position = omega (arith, length-append a b, p.position, q.position);
  contents = q.contents ∙ rw p.contents (sets_append m a b at i p.position);
}

-- one byte
pub stored_byte : {at next x : ℕ} {m : List ℕ} → next ≡ at + 1 → Stored (x ∷ []) at next m (set m at x)
stored_byte e = record { position = e; contents = refl }

-- one more byte of a text
pub stored_next : (w : List ℕ) (at i : ℕ) {m m₁ : List ℕ} → i < length w → Stored (take i w) at (at + i) m m₁
    → Stored (take (i + 1) w) at (at + (i + 1)) m (set m₁ (at + i) (get_or w i 0))
stored_next w at i h p =
    let n : at + (i + 1) ≡ at + i + 1 = omega arith in
    let e : take (i + 1) w ≡ take i w ++ (get_or w i 0 ∷ []) = rw (add-one i) (take-suc w i 0 h) in
    rw e (stored_more p (stored_byte n))

pub stored_length : {t : List ℕ} {at next : ℕ} {m m₁ : List ℕ} → Stored t at next m m₁ → length m₁ ≡ length m
stored_length {t} {at} {next} {m} {m₁} p = rw p.contents (length-sets m at t)

-- a text that is stored from the front on
pub stored_front : {t : List ℕ} {next : ℕ} {m m₁ : List ℕ} → length t ≤ length m → Stored t 0 next m m₁ → m₁ ≡ t ++ drop next m
stored_front {t} {next} {m} {m₁} h p =
    let e : next ≡ 0 + length t = p.position in
    p.contents ∙ (sets-eq t m 0 (omega arith) ∙ rw e)
