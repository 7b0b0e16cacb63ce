-- What a store to an operand's place leaves.
-- Assumes nothing.
use Rattle.std.specs.Prelude.{List, ℕ, ◌<◌}
use Rattle.chip.specs.Registers.{store_of}
use Rattle.action.specs.declared.Operand.{Operand}
use Rattle.action.specs.declared.Operand.TheVariants.{Register, Indirect, Immediate}
use Rattle.semantics.specs.Operands.{place_of}
use Rattle.certificate.specs.declared.NewValue.{NewValue}
use Rattle.certificate.specs.Layout.{Certificate}
use Rattle.certificate.specs.Summaries.{write_to}
use Rattle.safety.specs.Invariant.{Registers, Claims}
use Rattle.safety.proofs.Facts.{Global, EntryFacts}
use Rattle.safety.proofs.RefineOperands.{HasPlace, Gives, Allowed, writable_place, pointed_at, Written, reached, place_writable, register_written}
use Rattle.safety.proofs.PointedWritten.{pointed_written}

module _ (C : Certificate) (image : List ℕ) (gl : Global C image) (a : ℕ) (e : EntryFacts C a) where
  -- v is stored at the place of d, of which the summary says n
  pub place_written : (r rec : List ℕ) → Registers r → Claims C a r → (d : Operand) (n : NewValue) (v : ℕ) → HasPlace d
      → Allowed C a (writable_place C a) d → v < 256 → Gives d n r v → Written C a (write_to d n) r (store_of r (place_of r rec d).addr.0 v)
  unfolding place_of
  place_written r rec g c (Register x) n v s h hv k = register_written C image gl a e r x n v g (place_writable C image gl a e r rec c (Register x) s h) hv k
  place_written r rec g c (Indirect p o) n v s h hv k =
      let t = reached C image gl a e r rec c p.0 o (writable_place C a) h in
      pointed_written C image gl a e r p o (pointed_at r rec p.0 o) v g (place_writable C image gl a e r rec c (Indirect p o) s h) hv t.least t.greatest
  place_written r rec g c (Immediate n) m v s h hv k = absurd s
