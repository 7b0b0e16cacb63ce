-- What the invariant says of cycles and of SP: every open routine but main is within its bound, and SP, once loaded, lies in the stack.
-- Assumes nothing.
use Rattle.std.specs.Prelude.{refl, ◌≢◌, Bool, true, false, List, [], ◌∷◌, ℕ, ◌≤◌}
use Rattle.std.proofs.Common.{arith}
use Rattle.base.specs.Addresses.{sp_cell}
use Rattle.certificate.specs.Layout.{Certificate}
use Rattle.safety.specs.Statement.{Opener, by_reset, by_call, by_interrupt, Frame, Within}
use Rattle.safety.specs.Invariant.{at, Registers, Link, Chain, Stack, Invariant}
use Rattle.safety.proofs.Plain.{before_of}

module _ (C : Certificate) where
  -- a routine that waits is within its bound if the one that it waits for is
  waiting_within : (o : Opener) (r : List ℕ) (b : ℕ) (f g : Frame) → Registers r → Link C o r b f g → (f.routine ≢ 1 → f.cycles ≤ C.bound f.routine)
      → g.routine ≢ 1 → g.cycles ≤ C.bound g.routine
  waiting_within by_reset r b f g reg l h n = absurd l
  waiting_within by_call r b f g reg l h n =
      let z = (l.resumes r (λ x hx c k. refl) reg).cost n in
      let y = h (let k = l.callee in omega arith) in
      omega arith
  waiting_within by_interrupt r b f g reg l h n = let z = (l.resumes r (λ x hx c. refl) reg).cost n in omega arith

  chain_within : (fs : List Frame) (r : List ℕ) (b : ℕ) (f : Frame) → Registers r → Chain C r b f fs → (f.routine ≢ 1 → f.cycles ≤ C.bound f.routine)
      → Within C (f ∷ fs)
  chain_within [] r b f reg ch h = (h, tt)
  chain_within (g ∷ rest) r b f reg ch h =
      (h, chain_within rest r _ g reg ch.2 (waiting_within f.opener r b f g reg ch.1 h))

  stack_within : (ld : Bool) (r : List ℕ) (pc : ℕ) (f : Frame) (fs : List Frame) → Registers r → Stack C ld r pc f fs
      → (f.routine ≢ 1 → f.cycles ≤ C.bound f.routine) → Within C (f ∷ fs)
  stack_within true r pc f fs reg s h = chain_within fs r _ f reg s.chain h
  stack_within false r pc f fs reg s h = rw s.alone (h, tt)

  pub within_of : (ld : Bool) (r : List ℕ) (pc : ℕ) (f : Frame) (fs : List Frame) → Invariant C ld r pc f fs → Within C (f ∷ fs)
  within_of ld r pc f fs v = stack_within ld r pc f fs v.registers v.stack (λ n. let z = v.cost n in omega arith)

  pub stack_of : (r : List ℕ) (pc : ℕ) (f : Frame) (fs : List Frame) → Invariant C true r pc f fs
      → (C.floor ≤ at r sp_cell) × (at r sp_cell ≤ C.top)
  stack_of r pc f fs v =
      let b = before_of C true r pc f fs v in
      let l = v.stack.loaded in
      let k = v.stack.room in
      let x = b.lowest l in
      let y = b.highest l in
      (omega arith, omega arith)
