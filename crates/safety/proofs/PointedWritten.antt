-- What a store through a pointer leaves.
-- Assumes nothing.
use Rattle.std.specs.Prelude.{◌≡◌, Bool, true, false, ◌&&◌, List, ℕ, ◌+◌, ◌≤◌, ◌<◌, T, leb}
use Rattle.std.proofs.Math.Path.{refl}
use Rattle.std.proofs.Common.{sym, subst, ◌∙◌}
use native.Mathlib.Omega.{arith}
use Rattle.base.specs.declared.RegAddr.{RegAddr}
use Rattle.base.specs.Choice.{pick}
use Rattle.base.specs.Formula.{leb_yes}
use Rattle.chip.specs.Registers.{store_of}
use Rattle.chip.specs.Laws.{store_other}
use Rattle.certificate.specs.declared.NewValue.TheVariants.{Unknown}
use Rattle.certificate.specs.declared.Write.{Write}
use Rattle.certificate.specs.Layout.{Certificate}
use Rattle.safety.specs.Rules.{low, high}
use Rattle.safety.specs.Rules.Change.{unchanged, changed}
use Rattle.safety.specs.Invariant.{Registers, Effect}
use Rattle.safety.proofs.Facts.{Global, EntryFacts, Writable}
use Rattle.safety.proofs.RefineOperands.{Written, store_written}

module _ (C : Certificate) (image : List ℕ) (gl : Global C image) (a : ℕ) (e : EntryFacts C a) where
  pub pointed_written : (r : List ℕ) (p : RegAddr) (o x v : ℕ) → Registers r → Writable C a x → v < 256
      → low C a p.0 + o ≤ x → x ≤ high C a p.0 + o → Written C a (Write.Pointed p o) r (store_of r x v)
  pointed_written r p o x v g wr hv least greatest =
      store_written C image gl a e r (Write.Pointed p o) x v g wr hv (λ z l. go z (leb (low C a p.0 + o) z && leb z (high C a p.0 + o)) refl)
    where
      go : (z : ℕ) (b : Bool) → (leb (low C a p.0 + o) z && leb z (high C a p.0 + o)) ≡ b
          → Effect (pick b (changed Unknown) unchanged) r (store_of r x v) z
      go z true q = tt
      go z false q = store_other r x v z
          (λ s.
          let l : low C a p.0 + o ≤ z = omega arith in
          let u : z ≤ high C a p.0 + o = omega arith in
          let both : (leb (low C a p.0 + o) z && leb z (high C a p.0 + o)) ≡ true = rw (leb_yes l, leb_yes u) refl in
          subst T (sym both ∙ q) tt)
