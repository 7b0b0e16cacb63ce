-- Each flag that a first byte names is changed by some step of that first byte without a store into FLAGS: antt computes the steps, for both parts, all
-- first bytes and flags in one test.
-- Assumes nothing.
use Rattle.std.specs.Prelude.{ℕ, zero, suc, ◌<◌, ◌≡◌, ◌≢◌, Bool, not, ◌&&◌, ◌||◌, List, [], ◌∷◌, T, eqb, ltb, length}
use Rattle.std.proofs.Math.Path.{refl}
use Rattle.std.proofs.Common.{sym, subst, arith, eqb-true, ltb-true, lt-ltb}
use Rattle.std.specs.Bool.{beq}
use Rattle.std.proofs.Math.Bool.{true, false}
use Rattle.base.specs.Cells.{Bytes}
use Rattle.base.specs.declared.Profile.{Profile}
use Rattle.base.specs.declared.Profile.TheVariants.{Rom4K, Rom2K}
use Rattle.base.specs.Lengths.{is_entry_cost}
use Rattle.base.specs.Parts.{part_of}
use Rattle.base.specs.Choice.{pick}
use Rattle.std.proofs.lemmas.Bool.{not-true}
use Rattle.base.specs.Formula.{sound, of_true, eqb_yes, ◌&◌}
use Rattle.base.specs.Formula.Formula.{test, forall_below}
use Rattle.base.specs.Outcome.{Outcome}
use Rattle.base.specs.Outcome.Outcome.{value, refused}
use Rattle.isa.specs.declared.Flag.{Flag}
use Rattle.isa.specs.declared.Flag.TheVariants.{Carry, Zero, Sign, Overflow}
use Rattle.isa.specs.declared.FlagSet.{FlagSet}
use Rattle.isa.specs.declared.Instruction.{Instruction}
use Rattle.isa.specs.Flags.{flag_in}
use Rattle.isa.specs.Map.{names_of}
use Rattle.decode.specs.Decode.{decode_at}
use Rattle.semantics.specs.Opened.{opened}
use Rattle.semantics.specs.Step.{Acted, acted_of, settled, step_of}
use Rattle.flag_names.specs.Stores.{flags_in, stored_to, stores_flags}
use Rattle.flag_names.specs.Witnesses.{ChangedBy, image_of, alternating, registers_with, state_with, no_requests, avoids, setup_on, tells, witnessed}

differ : (a b : Bool) → not (beq a b) ≡ true → a ≢ b
differ true true e q = subst T (sym e) tt
differ true false e q = subst T q tt
differ false true e q = subst T (sym q) tt
differ false false e q = subst T (sym e) tt

-- each number of a list is a byte
fit : List ℕ → Bool
fit [] = true
fit (x ∷ xs) = ltb x 256 && fit xs

fits : (xs : List ℕ) → fit xs ≡ true → Bytes xs
unfolding fit
fits [] e k = omega arith
fits (x ∷ xs) e zero = ltb-true x 256 (sound (test (ltb x 256) & test (fit xs)) (of_true _ e)).0
fits (x ∷ xs) e (suc k) = fits xs (sound (test (ltb x 256) & test (fit xs)) (of_true _ e)).1 k

image_fits : (p : Profile) (first : ℕ) → first < 256 → fit (image_of (part_of p).rom first) ≡ true
unfolding fit image_of
image_fits Rom4K first h = rw (lt-ltb first 256 h)
image_fits Rom2K first h = rw (lt-ltb first 256 h)

image_size : (p : Profile) (first : ℕ) → length (image_of (part_of p).rom first) ≡ (part_of p).rom
unfolding image_of
image_size Rom4K first = refl
image_size Rom2K first = refl

-- the parts by number, for a test over both
numbered : ℕ → Profile
numbered n = pick (eqb n 0) Rom4K Rom2K

number : Profile → ℕ
number Rom4K = 0
number Rom2K = 1

number_below : (p : Profile) → number p < 2
unfolding number
number_below Rom4K = omega arith
number_below Rom2K = omega arith

number_back : (p : Profile) → numbered (number p) ≡ p
unfolding number numbered
number_back Rom4K = refl
number_back Rom2K = refl

-- a value of FLAGS, in the registers
record Before (f : ℕ) : Type 0 where
  pub held : flags_in (registers_with f) ≡ f
  pub size : length (registers_with f) ≡ 256
  pub fitting : fit (registers_with f) ≡ true

module _ (cost : ℕ) where
  all_witnessed : (n : ℕ) → n < 2 → (first : ℕ) → first < 256
      → (witnessed cost (numbered n) first Carry ≡ true)
      × ((witnessed cost (numbered n) first Zero ≡ true) × ((witnessed cost (numbered n) first Sign ≡ true) × (witnessed cost (numbered n) first Overflow ≡ true)))
  unfolding opened stored_to stores_flags numbered witnessed tells avoids no_requests state_with registers_with alternating image_of
  all_witnessed n l first h =
      sound
      (forall_below 2 (λ n. forall_below 256 (λ b. test (witnessed cost (numbered n) b Carry)
      & (test (witnessed cost (numbered n) b Zero) & (test (witnessed cost (numbered n) b Sign) & test (witnessed cost (numbered n) b Overflow))))))
      tt n l first h

  is_witnessed : (p : Profile) (first : ℕ) → first < 256 → (g : Flag) → witnessed cost p first g ≡ true
  is_witnessed p first h g = subst (λ (q : Profile). witnessed cost q first g ≡ true) (number_back p) (by_flag g)
    where
      by_flag : (g : Flag) → witnessed cost (numbered (number p)) first g ≡ true
      by_flag Carry = (all_witnessed (number p) (number_below p) first h).0
      by_flag Zero = (all_witnessed (number p) (number_below p) first h).1.0
      by_flag Sign = (all_witnessed (number p) (number_below p) first h).1.1.0
      by_flag Overflow = (all_witnessed (number p) (number_below p) first h).1.1.1

  module _ (valid : is_entry_cost cost ≡ true) (p : Profile) where
    abbrev image_here : ℕ → List ℕ
    image_here first = image_of (part_of p).rom first

    -- configuration and lengths are right, so the step is its act
    whole_step : (first f : ℕ) → step_of (setup_on cost p) (image_here first) (state_with f) no_requests ≡ settled (state_with f) (acted_of (setup_on cost p) (image_here first) (state_with f) no_requests)
    unfolding step_of no_requests
    whole_step first f = rw (valid, image_size p first, eqb_yes {a = (part_of p).rom} refl)

    made : (first : ℕ) → first < 256 → (g : Flag) (f : ℕ) → Before f → tells cost p first g f ≡ true → ChangedBy (setup_on cost p) first g
    unfolding tells avoids state_with image_of no_requests settled fit
    made first h g f e t = go (decode_at (image_here first) 0) refl z.1.1.1
      where
        a : Acted
        a = acted_of (setup_on cost p) (image_here first) (state_with f) no_requests

        z : (not (beq (flag_in g (flags_in a.state.regs)) (flag_in g f)) ≡ true) × ((a.retired ≡ true) × ((eqb a.stop 0 ≡ true)
            × (avoids (part_of p).grounds (state_with f) (decode_at (image_here first) 0) ≡ true)))
        z =
            sound
            (test (not (beq (flag_in g (flags_in a.state.regs)) (flag_in g f)))
            & (test a.retired & (test (eqb a.stop 0) & test (avoids (part_of p).grounds (state_with f) (decode_at (image_here first) 0)))))
            (of_true _ t)

        go : (o : Outcome (Instruction × ℕ × FlagSet)) → decode_at (image_here first) 0 ≡ o → avoids (part_of p).grounds (state_with f) o ≡ true → ChangedBy (setup_on cost p) first g
        go (value d) q v = record {
          image = image_here first;
          state = state_with f;
          rec = no_requests;
          sizes = (image_size p first, (e.size, refl));
          bytes = (fits (image_here first) (image_fits p first h), (fits (registers_with f) e.fitting, fits no_requests refl));
          begins = refl;
          instruction = d;
          found = q;
          retired = z.1.0;
          goes = rw (whole_step first f) (eqb-true _ _ z.1.1.0);
          elsewhere = not-true _ v;
          changes = rw (whole_step first f, e.held) (differ _ _ z.0);
        }
        go (refused n) q v = absurd (subst T (sym v) tt)

    pub named_changed : (first : ℕ) → first < 256 → (g : Flag) → flag_in g (names_of first).0 ≡ true → ChangedBy (setup_on cost p) first g
    unfolding witnessed registers_with alternating fit
    named_changed first h g named = by_case (tells cost p first g 0) (tells cost p first g 0xF0) refl refl (rw named at (is_witnessed p first h g))
      where
        by_case : (b c : Bool) → tells cost p first g 0 ≡ b → tells cost p first g 0xF0 ≡ c → (b || (c || tells cost p first g 0x70)) ≡ true → ChangedBy (setup_on cost p) first g
        by_case true c r q t = made first h g 0 (record { held = refl; size = refl; fitting = refl }) r
        by_case false true r q t = made first h g 0xF0 (record { held = refl; size = refl; fitting = refl }) q
        by_case false false r q t = made first h g 0x70 (record { held = refl; size = refl; fitting = refl }) t
