-- The masks of `update`: the bits of x that are named and those of FLAGS that are not, put together, are the four flags that the definition chooses.
-- Assumes nothing.
use Rattle.std.proofs.Common.{◌≡◌, ℕ, ◌<◌, Bool, true, false, not, ◌&&◌, ◌||◌, eqb, refl, eqb-true}
use Rattle.std.specs.Prelude.{bit_and, bit_or, bit_xor}
use Rattle.base.specs.Choice.{pick}
use Rattle.base.specs.Formula.{sound}
use Rattle.base.specs.Formula.Formula.{test, forall_below}
use Rattle.isa.specs.declared.Flag.TheVariants.{Carry, Zero, Sign, Overflow}
use Rattle.isa.specs.Flags.{flag_in}
use Rattle.alu.specs.Flags.{flags_byte}
use Rattle.alu.specs.Laws.{every_setting, at_setting, upper}

-- the bits of a byte that a mask of flags has
common : ℕ → Bool → Bool → Bool → Bool → ℕ
common f c z s v = flags_byte (flag_in Carry f && c) (flag_in Zero f && z) (flag_in Sign f && s) (flag_in Overflow f && v)

masked : ℕ → Bool → Bool → Bool → Bool → Bool
masked f c z s v = eqb (bit_and f (flags_byte c z s v)) (common f c z s v)

and_flags : (f : ℕ) → f < 256 → (c z s v : Bool) → bit_and f (flags_byte c z s v) ≡ common f c z s v
unfolding common masked flag_in flags_byte
and_flags f h c z s v = eqb-true _ _ (at_setting (masked f) (sound (forall_below 256 (λ f. test (every_setting (masked f)))) tt f h) c z s v)

xor_flags : (c z s v : Bool) → bit_xor 0xF0 (flags_byte c z s v) ≡ flags_byte (not c) (not z) (not s) (not v)
unfolding flags_byte
xor_flags c z s v =
    eqb-true _ _ (at_setting (λ c z s v. eqb (bit_xor 0xF0 (flags_byte c z s v)) (flags_byte (not c) (not z) (not s) (not v))) refl c z s v)

joins : Bool → Bool → Bool → Bool → Bool → Bool → Bool → Bool → Bool
joins c z s v c' z' s' v' = eqb (bit_or (flags_byte c z s v) (flags_byte c' z' s' v')) (flags_byte (c || c') (z || z') (s || s') (v || v'))

or_flags : (c z s v c' z' s' v' : Bool) → bit_or (flags_byte c z s v) (flags_byte c' z' s' v') ≡ flags_byte (c || c') (z || z') (s || s') (v || v')
unfolding joins flags_byte
or_flags c z s v c' z' s' v' =
    eqb-true _ _ (at_setting (joins c z s v) (at_setting (λ c z s v. every_setting (joins c z s v)) refl c z s v) c' z' s' v')

chosen : (f n x : Bool) → ((f && not n) || (x && n)) ≡ pick n x f
chosen true true true = refl
chosen true true false = refl
chosen true false true = refl
chosen true false false = refl
chosen false true true = refl
chosen false true false = refl
chosen false false true = refl
chosen false false false = refl

pub masks : (f n x : ℕ) → f < 256 → n < 256 → x < 256
    → bit_or (bit_and f (bit_xor 0xF0 (bit_and n 0xF0))) (bit_and x (bit_and n 0xF0))
    ≡ flags_byte (pick (flag_in Carry n) (flag_in Carry x) (flag_in Carry f)) (pick (flag_in Zero n) (flag_in Zero x) (flag_in Zero f))
    (pick (flag_in Sign n) (flag_in Sign x) (flag_in Sign f)) (pick (flag_in Overflow n) (flag_in Overflow x) (flag_in Overflow f))
unfolding common
masks f n x hf hn hx =
    let c = flag_in Carry n in
    let z = flag_in Zero n in
    let s = flag_in Sign n in
    let v = flag_in Overflow n in
    let kept = or_flags (flag_in Carry f && not c) (flag_in Zero f && not z) (flag_in Sign f && not s) (flag_in Overflow f && not v) in
    rw (
      upper n hn,
      xor_flags c z s v,
      and_flags f hf (not c) (not z) (not s) (not v),
      and_flags x hx c z s v,
      kept (flag_in Carry x && c) (flag_in Zero x && z) (flag_in Sign x && s) (flag_in Overflow x && v),
      chosen (flag_in Carry f) c (flag_in Carry x),
      chosen (flag_in Zero f) z (flag_in Zero x),
      chosen (flag_in Sign f) s (flag_in Sign x),
      chosen (flag_in Overflow f) v (flag_in Overflow x),
    )
