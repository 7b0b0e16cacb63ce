-- The first number that fails ends the search; without one all of them pass.
use Rattle.std.proofs.Common.{arith, refl, true, subst, ℕ, ⊎_elim, ◌≤◌, ◌<◌}
use Rattle.base.specs.Formula.{le?, decide_yes, decide_no, decide_true, decide_false}
use Rattle.claims.specs.Values.{all_between}
use Rattle.claims.proofs.all_between.Goals as goal
use Rattle.claims.proofs.all_between.Goals.{else-loop-v-test, then-loop-v-test+else-not-passes+else-v-high}

pub returns-then-not-passes : goal.returns-then-not-passes
unfolding all_between
returns-then-not-passes g c p f =
    let v = c.loop-v.v in
    let fails = decide_false (p v) (f v c.passes.result (omega arith) c.passes.ensures) c.if-not-passes.true in
    decide_no (all_between c.args.low c.args.high p) (λ m. fails (m v (omega arith) (c.loop-v.auto.v, omega (arith, c.loop-v-test.true))))

pub returns : goal.returns
unfolding all_between
returns g c p f =
    decide_yes (all_between c.args.low c.args.high p)
    (λ k hk m.
    decide_true (p k)
    (f k true hk
    (elim c.loop-v-test.branch [
      | else-loop-v-test w ↦ c.loop-v.invariant k m.0 (omega (arith, m.1, w.loop-v-test.false))
      | then-loop-v-test+else-not-passes+else-v-high w ↦
          ⊎_elim (λ (q : c.loop-v.v ≤ k). subst (λ (n : ℕ). goal.F-post g c.args.passes n true) (omega arith) w.if-not-passes.ensures)
          (λ (q : k < c.loop-v.v). c.loop-v.invariant k m.0 q) (le? c.loop-v.v k)
    ])) refl)
