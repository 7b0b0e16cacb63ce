-- What the flags of a compare say of its values.
-- Assumes nothing.
use mathlib.Core.Path.{◌≡◌, refl, ◌∙◌}
use Rattle.std.specs.Prelude.{Bool, List, [], ◌∷◌, ℕ, ◌<◌}
use Rattle.std.proofs.Math.Bool.{true, false}
use Rattle.std.proofs.Math.Dec.{eqb, eqb→eq}
use Rattle.base.specs.Choice.{choose}
use Rattle.base.specs.ChoiceLaws.{pick_has, Each}
use Rattle.base.specs.Formula.{Formula, Holds, decide, decide_true, decide_false, always, le, lt, eq, neg, of_true}
use Rattle.alu.specs.Flags.{condition}
use Rattle.alu.specs.Operations.{compare_flags}
use Rattle.alu.specs.Laws.{compare_lt, compare_ge, compare_eq, compare_ne, compare_le, compare_gt}
use Rattle.safety.specs.Rules.{on_edge, told, meets}

on_edge_lem : (p : Formula) (o : Bool) → o ≡ decide p → Holds (on_edge o p)
on_edge_lem p true e = decide_true p e refl
on_edge_lem p false e = decide_false p e refl

-- where each row holds if the number is the row's, what the number chooses holds
choose_holds : (n : ℕ) (rows : List (ℕ × Formula)) → Each (λ (k : ℕ) (p : Formula). n ≡ k → Holds p) rows → Holds (choose n rows always)
choose_holds n [] h = tt
choose_holds n (e ∷ rows) h =
    pick_has Holds (eqb n e.0) e.1 (choose n rows always) (λ q. h.0 (eqb→eq n e.0 (of_true (eqb n e.0) q)))
    (λ _. choose_holds n rows h.1)

-- of the flags that a compare leaves, each condition tells what the rules take from it
pub meets_now : (n v k f : ℕ) → f ≡ compare_flags v k → v < 256 → k < 256 → Holds (meets n (condition n f) v k)
unfolding meets
meets_now n v k f e hv hk =
    let o = condition n f in
    let is : (m : ℕ) → n ≡ m → o ≡ condition m (compare_flags v k) = λ m q. rw (q, e) refl in
    choose_holds n (told o v k) (
      λ q. on_edge_lem (lt v k) o (is 7 q ∙ compare_lt v k),
      (
        λ q. on_edge_lem (le k v) o (is 15 q ∙ compare_ge v k),
        (
          λ q. on_edge_lem (eq v k) o (is 6 q ∙ compare_eq v k hv hk),
          (
            λ q. on_edge_lem (neg (eq v k)) o (is 14 q ∙ compare_ne v k hv hk),
            (λ q. on_edge_lem (le v k) o (is 3 q ∙ compare_le v k hv hk), (λ q. on_edge_lem (lt k v) o (is 11 q ∙ compare_gt v k hv hk), tt)),
          ),
        ),
      ),
    )
