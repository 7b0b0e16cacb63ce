-- The registers after the machine's stores: what they hold, and what they leave alone.
-- Assumes nothing.
use mathlib.Core.Path.{◌≡◌, refl, sym, ◌∙◌}
use Rattle.std.specs.Prelude.{◌≢◌, ◌⊎◌, Bool, true, false, ◌||◌, ◌&&◌, List, [], ◌∷◌, map, ℕ, ◌%◌, ◌<◌, T, eqb, ltb, get_or, set}
use Rattle.std.proofs.Common.{inl, inr, ⊎_elim, arith, eqb→eq, ltb→lt, length-set, get_or-set_same, get_or-set_other}
use Rattle.std.specs.Int.Bits.{bit_and}
use Rattle.base.specs.Addresses.{flags_cell, sp_cell}
use Rattle.base.specs.ChoiceLaws.{pick_has}
use Rattle.base.specs.Formula.{of_true, sound, test, eq, ◌&◌, ◌⇒◌, forall_below}
use Rattle.base.specs.Cells.{set_cells}
use Rattle.chip.specs.Registers.{mapped_of, load_of, store_of, among, kept_rows, read_only, test_register}
use Rattle.chip.specs.Laws.{load_byte, store_length, store_other, store_bytes}
use Rattle.chip.specs.Interrupts.{set_interrupts_of}
use Rattle.chip.specs.InterruptLaws.{set_interrupts_length, set_interrupts_other, set_interrupts_bytes}
use Rattle.isa.specs.declared.FlagSet.{FlagSet}
use Rattle.isa.specs.Flags.{all_flags}
use Rattle.alu.specs.Flags.{update}
use Rattle.alu.specs.Laws.{update_bound, update_low}
use Rattle.semantics.specs.Operands.{with_flags}
use Rattle.safety.specs.Invariant.{at, Registers}

-- a schedule record, and the inputs that it gives a step, hold bytes
abbrev pub Input : List ℕ → Type 0
Input rec = (i : ℕ) → get_or rec i 0 < 256

pub load_small : (r rec : List ℕ) → Registers r → Input rec → (x : ℕ) → load_of r rec x < 256
load_small r rec g i x = load_byte r rec x g.bytes i

or_cases : (a b : Bool) → (a || b) ≡ true → (a ≡ true) ⊎ (b ≡ true)
or_cases true b e = inl refl
or_cases false b e = inr e

-- each number of a list is below n
abbrev Below : ℕ → List ℕ → Type 0
Below n [] = Unit {0}
Below n (x ∷ xs) = (x < n) × Below n xs

among_below : (a n : ℕ) (xs : List ℕ) → Below n xs → among a xs ≡ true → a < n
among_below a n [] h e = absurd (mathlib.Core.Path.subst T (sym e) tt)
among_below a n (x ∷ xs) h e =
    ⊎_elim (λ q. let z = eqb→eq a x (of_true (eqb a x) q) in let k = h.0 in omega arith) (λ q. among_below a n xs h.1 q)
    (or_cases (eqb a x) (among a xs) e)

-- a mapped register has an address below 256
pub mapped_byte : (a : ℕ) → mapped_of a ≡ true → a < 256
unfolding mapped_of
mapped_byte a e =
    ⊎_elim (λ q. let z = ltb→lt a 0xD0 (of_true (ltb a 0xD0) q) in omega arith)
    (λ q.
    ⊎_elim (λ p. among_below a 256 kept (low kept tt) p)
    (λ p.
    ⊎_elim (λ o. among_below a 256 (0xD0 ∷ 0xDD ∷ 0xF8 ∷ 0xF9 ∷ []) (low (0xD0 ∷ 0xDD ∷ 0xF8 ∷ 0xF9 ∷ []) tt) o)
    (λ o. let z = eqb→eq a 0xDE (of_true (eqb a 0xDE) o) in omega arith) (or_cases (read_only a) (test_register a) p))
    (or_cases (among a kept) (read_only a || test_register a) q))
    (or_cases (ltb a 0xD0) (among a kept || (read_only a || test_register a)) e)
  where
    kept : List ℕ
    kept = map (λ (k : ℕ × ℕ). k.0) kept_rows

    fit : List ℕ → Bool
    fit [] = true
    fit (x ∷ xs) = ltb x 256 && fit xs

    low : (xs : List ℕ) → T (fit xs) → Below 256 xs
    low [] t = tt
    low (x ∷ xs) t = let z = sound (test (ltb x 256) & test (fit xs)) t in (ltb→lt x 256 (of_true (ltb x 256) z.0), low xs (of_true (fit xs) z.1))

-- a store to any register but FLAGS
pub store_registers : (r : List ℕ) (a v : ℕ) → Registers r → v < 256 → a ≢ flags_cell → Registers (store_of r a v)
store_registers r a v g h n = record {
  size = store_length r a v ∙ g.size;
  bytes = store_bytes r a v g.bytes h;
  flags = rw (store_other r a v flags_cell (λ q. n (sym q))) g.flags;
}

-- SP is loaded
pub sp_registers : (r : List ℕ) (s : ℕ) → Registers r → s < 256 → Registers (set r sp_cell s)
sp_registers r s g h = record {
  size = length-set r sp_cell s ∙ g.size;
  bytes = set_cells (λ (k x : ℕ). x < 256) r sp_cell s g.bytes h;
  flags = rw (get_or-set_other r sp_cell flags_cell s 0 (omega arith)) g.flags;
}

pub sp_other : (r : List ℕ) (s x : ℕ) → x ≢ sp_cell → at (set r sp_cell s) x ≡ at r x
sp_other r s x n = get_or-set_other r sp_cell x s 0 n

pub sp_same : (r : List ℕ) (s : ℕ) → Registers r → at (set r sp_cell s) sp_cell ≡ s
sp_same r s g = get_or-set_same r sp_cell s 0 (let z = g.size in omega arith)

-- the named flags are set: where none is named nothing changes, where all four are, FLAGS has those of v
pub flags_none : (r : List ℕ) (ns : FlagSet) (v : ℕ) → ns.0 ≡ 0 → with_flags r ns v ≡ r
unfolding with_flags
flags_none r ns v e = rw e

pub flags_all : (r : List ℕ) (v : ℕ) → Registers r → at (with_flags r all_flags v) flags_cell ≡ update (at r flags_cell) all_flags v
unfolding with_flags
flags_all r v g = get_or-set_same r flags_cell (update (at r flags_cell) all_flags v) 0 (let z = g.size in omega arith)

pub flags_other : (r : List ℕ) (ns : FlagSet) (v x : ℕ) → x ≢ flags_cell → at (with_flags r ns v) x ≡ at r x
unfolding with_flags
flags_other r ns v x n =
    pick_has (λ (l : List ℕ). at l x ≡ at r x) (eqb ns.0 0) _ _ (λ _. refl) (λ _. get_or-set_other r flags_cell x (update (at r flags_cell) ns v) 0 n)

pub flags_registers : (r : List ℕ) (ns : FlagSet) (v : ℕ) → Registers r → Registers (with_flags r ns v)
unfolding with_flags
flags_registers r ns v g = pick_has Registers (eqb ns.0 0) _ _ (λ _. g) (λ _. record {
  size = length-set r flags_cell u ∙ g.size;
  bytes = set_cells (λ (k x : ℕ). x < 256) r flags_cell u g.bytes (update_bound (at r flags_cell) ns v);
  flags = rw (get_or-set_same r flags_cell u 0 (let z = g.size in omega arith)) (update_low (at r flags_cell) ns v);
})
  where
    u : ℕ
    u = update (at r flags_cell) ns v

pub interrupts_registers : (r : List ℕ) (on : Bool) → Registers r → Registers (set_interrupts_of r on)
interrupts_registers r on g = record {
  size = set_interrupts_length r on ∙ g.size;
  bytes = set_interrupts_bytes r on g.bytes;
  flags = rw (set_interrupts_other r on flags_cell (omega arith)) g.flags;
}

-- a byte whose low nibble is 0 has no other bits than the flags
pub high_nibble : (v : ℕ) → v < 256 → v % 16 ≡ 0 → bit_and v 0xF0 ≡ v
high_nibble v h z = sound (forall_below 256 (λ (v : ℕ). eq (v % 16) 0 ⇒ eq (bit_and v 0xF0) v)) tt v h z
