-- The answer of `all` over the numbers below n, as a formula.
-- Assumes nothing.
use Rattle.std.specs.Prelude.{◌≡◌, refl, ℕ, ◌<◌, Bool, true, false, List, get_or}
use Rattle.std.proofs.Common.{◌∙◌, sym, ⊎_elim, arith}
use Rattle.std.specs.List.{range_with_len, list_all}
use Rattle.std.proofs.lemmas.Bool.{false≢true}
use Rattle.std.proofs.lemmas.List.FromFn.{length-range_with_len, get_or-range_with_len}
use Rattle.std.proofs.lemmas.List.Sums.{AllPass-from_list_all, list_all-from_AllPass}
use Rattle.base.specs.Formula.{Formula, decide, decide_true, decide_yes, decide_no, case_bool, forall_below}

module _ (n : ℕ) (p : ℕ → Formula) where
  abbrev numbers : List ℕ
  numbers = range_with_len 0 n

  abbrev passes : ℕ → Bool
  passes k = decide (p k)

  at_number : (k d : ℕ) → k < n → get_or numbers k d ≡ k
  at_number k d h = get_or-range_with_len 0 n k d h ∙ omega arith

  pub all_below : list_all passes numbers ≡ decide (forall_below n p)
  all_below =
      let size = length-range_with_len 0 n in
      ⊎_elim
      (λ (t : list_all passes numbers ≡ true).
      let each = AllPass-from_list_all passes numbers t in
      t ∙ decide_yes (forall_below n p) (λ k h. decide_true (p k) refl (rw (at_number k 0 h) at (each k 0 (omega (arith, size))))))
      (λ (t : list_all passes numbers ≡ false).
      let every = list_all-from_AllPass passes numbers in
      t ∙ decide_no (forall_below n p)
      (λ f. false≢true (sym t ∙ every (λ k d h. let l : k < n = omega (arith, size) in rw (at_number k d l) (sym (decide_yes (p k) (f k l)))))))
      (case_bool (list_all passes numbers))
