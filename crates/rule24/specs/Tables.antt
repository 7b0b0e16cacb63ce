-- Parts of rule 24: the addresses that a pointer reaches lie in one table.
-- Assumes nothing.
use Rattle.std.specs.Prelude.{ℕ, ◌≡◌, refl, Bool, true, false}
use Rattle.std.proofs.Common.{subst, sym}
use Rattle.std.proofs.Math.Dec.{T}
use Rattle.base.specs.Formula.{Formula, decide, always, eq, test, neg, ◌&◌, ◌⇒◌}
use Rattle.certificate.specs.Layout.{Certificate}
use Rattle.safety.specs.Rules.{mapped, writable, reach}
use Rattle.claims.specs.Laws.{decide_same}
use Rattle.claims.specs.Values.{all_between}

-- all of from to upto lies in one nonzero table, and is so
unfoldable pub one_table : Certificate → ℕ → ℕ → (ℕ → Formula) → Formula
one_table C from upto p = neg (eq (C.table from) 0) & all_between from upto (λ x. eq (C.table x) (C.table from) & p x)

-- where the pointer writes, routine n may write x
abbrev pub touched : Certificate → ℕ → Bool → ℕ → Formula
touched C n writing x = test writing ⇒ mapped x & writable C n x

module _ (C : Certificate) (a : ℕ) where
  -- what pointer p with offset o reaches at address a
  abbrev pub reach_of : ℕ → ℕ → Bool → Formula
  reach_of p o writing = reach C a p o (touched C (C.routine a) writing)

  -- a pointer that reads may reach any address of its table
  pub reach_read : (p o : ℕ) → decide (reach_of p o false) ≡ decide (reach C a p o (λ x. always))
  unfolding reach
  reach_read p o =
      decide_same (reach_of p o false) (reach C a p o (λ x. always))
      (λ m. (m.0, (m.1.0, (m.1.1.0, λ x hx k. ((m.1.1.1 x hx k).0, tt)))))
      (λ m. (m.0, (m.1.0, (m.1.1.0, λ x hx k. ((m.1.1.1 x hx k).0, λ t. absurd (subst T (sym t) tt))))))

  -- one that writes, only those that may be written
  pub reach_write : (p o : ℕ) → decide (reach_of p o true) ≡ decide (reach C a p o (λ x. mapped x & writable C (C.routine a) x))
  unfolding reach
  reach_write p o =
      decide_same (reach_of p o true) (reach C a p o (λ x. mapped x & writable C (C.routine a) x))
      (λ m. (m.0, (m.1.0, (m.1.1.0, λ x hx k. ((m.1.1.1 x hx k).0, (m.1.1.1 x hx k).1 refl)))))
      (λ m. (m.0, (m.1.0, (m.1.1.0, λ x hx k. ((m.1.1.1 x hx k).0, λ t. (m.1.1.1 x hx k).1)))))
